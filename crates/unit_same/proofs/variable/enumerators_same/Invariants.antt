use Rattle.std.proofs.Common.{◌↔◌, drop}
use Rattle.tree_same.specs.Lists.{AreSame}
use Rattle.unit_same.specs.Parts.{SameEnumerator}
use Rattle.unit_same.proofs.variable.enumerators_same.Given as goal

abbrev pub invariant-loop-x : goal.invariant-loop-x
invariant-loop-x l = AreSame SameEnumerator l.fn.enumerators l.fn.others ↔ AreSame SameEnumerator (drop l.x-index l.fn.enumerators) l.rest
