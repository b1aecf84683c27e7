use Rattle.std.proofs.Common.{◌↔◌, drop}
use Rattle.tree_same.specs.Lists.{AreSame}
use Rattle.unit_same.specs.Parts.{SameBase}
use Rattle.unit_same.proofs.class_parts.bases_same.Given as goal

abbrev pub invariant-loop-x : goal.invariant-loop-x
invariant-loop-x l = AreSame SameBase l.fn.bases l.fn.others ↔ AreSame SameBase (drop l.x-index l.fn.bases) l.rest
