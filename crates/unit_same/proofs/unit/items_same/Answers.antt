use Rattle.tree_same.proofs.Walks.{runs_out}
use Rattle.unit_same.specs.Statements.{SameItem}
use Rattle.unit_same.proofs.unit.items_same.Goals as goal

pub returns-in-None : goal.returns-in-None
returns-in-None c =
    (λ no. cc, λ same. absurd (runs_out SameItem _ _ _ c.loop-x-test.true c.in-None.ensures.cases (c.loop-x.invariant.0 same)))
