use Rattle.std.proofs.Common.{◌↔◌, drop}
use Rattle.tree_same.specs.Lists.{AreSame}
use Rattle.unit_same.specs.Parts.{SameMemberInit}
use Rattle.unit_same.proofs.class_parts.member_inits_same.Given as goal

abbrev pub invariant-loop-x : goal.invariant-loop-x
invariant-loop-x l = AreSame SameMemberInit l.fn.member_inits l.fn.others ↔ AreSame SameMemberInit (drop l.x-index l.fn.member_inits) l.rest
