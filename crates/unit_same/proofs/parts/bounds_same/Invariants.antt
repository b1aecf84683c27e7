use Rattle.std.proofs.Common.{◌↔◌, drop}
use Rattle.tree_same.specs.Lists.{AreSame}
use Rattle.unit_same.specs.Parts.{SameBoundTree}
use Rattle.unit_same.proofs.parts.bounds_same.Given as goal

abbrev pub invariant-loop-x : goal.invariant-loop-x
invariant-loop-x l = AreSame SameBoundTree l.fn.bounds l.fn.others ↔ AreSame SameBoundTree (drop l.x-index l.fn.bounds) l.rest
