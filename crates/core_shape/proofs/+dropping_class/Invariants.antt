-- What is let go in a loop is never deeper than what it began with.
use Rattle.std.proofs.Common.{◌≤◌}
use Rattle.core_shape.specs.declared.class.Class.{size-Class}
use Rattle.core_shape.proofs.+dropping_class.Given as goal

abbrev pub invariant-class::Class::drop-loop-class : goal.invariant-class::Class::drop-loop-class
invariant-class::Class::drop-loop-class l = size-Class l.self ≤ size-Class l.fn.self
