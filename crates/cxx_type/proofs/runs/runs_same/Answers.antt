use Rattle.std.proofs.Common.{sym}
use Rattle.cxx_type.proofs.Stretches.{some_none}
use Rattle.cxx_type.proofs.runs.runs_same.Goals as goal

pub returns-in-None-under : goal.returns-in-None-under
returns-in-None-under c =
    (λ no. cc, λ e. absurd (some_none c.loop-x.x.now c.loop-x.y.now c.in-Some.under c.in-Some.is c.in-None-under.is (c.loop-x.invariant.0 e)))

pub returns-in-Some-under-2 : goal.returns-in-Some-under-2
returns-in-Some-under-2 c =
    (λ no. cc, λ e. absurd (some_none c.loop-x.y.now c.loop-x.x.now c.in-Some-under-2.field-0 c.in-Some-under-2.is c.in-None.is (sym (c.loop-x.invariant.0 e))))
