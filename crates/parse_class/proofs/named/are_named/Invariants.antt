use Rattle.std.proofs.Common.{◌≡◌, length}
use Rattle.cxx_grammar.specs.Classes as spec
use Rattle.parse_class.proofs.named.are_named.Given as goal

abbrev pub invariant-loop-first : goal.invariant-loop-first
invariant-loop-first l = spec.are_named l.fn.name l.fn.members ≡ spec.are_named l.fn.name l.rest

abbrev pub decreases-loop-first : goal.decreases-loop-first
decreases-loop-first l = length l.rest
