use Rattle.tree_same.proofs.Walks.{runs_out}
use Rattle.tree_same.specs.Names.{SameIdentifier}
use Rattle.tree_same.proofs.leaf.same_identifiers.Goals as goal

pub returns-in-None : goal.returns-in-None
returns-in-None c =
    (λ no. cc, λ same. absurd (runs_out SameIdentifier _ _ _ c.loop-x-test.true c.in-None.ensures.cases (c.loop-x.invariant.0 same)))
