use Rattle.std.proofs.Common.{◌↔◌, drop}
use Rattle.tree_same.specs.Lists.{AreSame}
use Rattle.unit_same.specs.Statements.{SameItem}
use Rattle.unit_same.proofs.unit.items_same.Given as goal

abbrev pub invariant-loop-x : goal.invariant-loop-x
invariant-loop-x l = AreSame SameItem l.fn.items l.fn.others ↔ AreSame SameItem (drop l.x-index l.fn.items) l.rest
