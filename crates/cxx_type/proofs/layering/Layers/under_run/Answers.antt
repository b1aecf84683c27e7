use Rattle.std.proofs.Common.{◌∙◌, sym, ap, subst}
use Rattle.cxx_type.specs.Layers.{Apart, runs_if_any, wide}
use Rattle.cxx_type.proofs.Stretches.{under_run_is}
use Rattle.cxx_type.proofs.layering.Layers.under_run.Goals as goal

pub returns-in_ok-below-in-Some-clause-run : goal.returns-in_ok-below-in-Some-clause-run
returns-in_ok-below-in-Some-clause-run c =
    let runs = ap runs_if_any c.in-Some.is in
    under_run_is c.in-Some.run' c.args.self (wide (runs_if_any c.in_ok-below-in-Some.below)) (subst Apart runs c.self.invariant.1)
    (sym (ap wide runs) ∙ c.self.view_is) c.in_ok-below-in-Some.ensures.layers
