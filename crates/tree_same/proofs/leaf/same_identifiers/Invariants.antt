use Rattle.std.proofs.Common.{◌↔◌, drop}
use Rattle.tree_same.specs.Lists.{AreSame}
use Rattle.tree_same.specs.Names.{SameIdentifier}
use Rattle.tree_same.proofs.leaf.same_identifiers.Given as goal

abbrev pub invariant-loop-x : goal.invariant-loop-x
invariant-loop-x l = AreSame SameIdentifier l.fn.identifiers l.fn.others ↔ AreSame SameIdentifier (drop l.x-index l.fn.identifiers) l.rest
