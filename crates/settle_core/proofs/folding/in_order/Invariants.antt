use Rattle.std.proofs.Common.{◌≡◌}
use Rattle.settle_core.specs.Meant.{outcomes_below}
use Rattle.settle_core.proofs.folding.in_order.Given as goal

abbrev pub invariant-loop-k : goal.invariant-loop-k
invariant-loop-k g l = l.outcomes.items ≡ outcomes_below (g.M.Meaning.meant l.meaning) l.k
