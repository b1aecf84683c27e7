use Rattle.std.proofs.Common.{◌↔◌, drop}
use Rattle.tree_same.specs.Lists.{AreSame}
use Rattle.unit_same.specs.Parts.{SameParameter}
use Rattle.unit_same.proofs.variable.parameters_same.Given as goal

abbrev pub invariant-loop-x : goal.invariant-loop-x
invariant-loop-x l = AreSame SameParameter l.fn.parameters l.fn.others ↔ AreSame SameParameter (drop l.x-index l.fn.parameters) l.rest
