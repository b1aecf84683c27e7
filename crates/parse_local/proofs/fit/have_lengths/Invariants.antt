use Rattle.std.proofs.Common.{◌≡◌, length}
use Rattle.cxx_grammar.specs.Locals as spec
use Rattle.parse_local.proofs.fit.have_lengths.Given as goal

abbrev pub invariant-loop-first : goal.invariant-loop-first
invariant-loop-first l = spec.have_lengths l.fn.bounds ≡ spec.have_lengths l.rest

abbrev pub decreases-loop-first : goal.decreases-loop-first
decreases-loop-first l = length l.rest
