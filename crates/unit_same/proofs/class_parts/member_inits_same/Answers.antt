use Rattle.tree_same.proofs.Walks.{runs_out}
use Rattle.unit_same.specs.Parts.{SameMemberInit}
use Rattle.unit_same.proofs.class_parts.member_inits_same.Goals as goal

pub returns-in-None : goal.returns-in-None
returns-in-None c =
    (λ no. cc, λ same. absurd (runs_out SameMemberInit _ _ _ c.loop-x-test.true c.in-None.ensures.cases (c.loop-x.invariant.0 same)))
