use Rattle.core_pointer.proofs.Walks.{runs_out}
use Rattle.core_pointer.proofs.path.steps_same.Goals as goal

pub returns-in-None : goal.returns-in-None
returns-in-None c =
    (λ no. cc, λ same. absurd (runs_out _ _ _ c.loop-x-test.true c.in-None.ensures.cases (c.loop-x.invariant.0 same)))
