use Rattle.std.proofs.Common.{◌≡◌, ◌-◌}
use Rattle.cxx_reading.specs.Reading.{left}
use Rattle.cxx_grammar.specs.Locals as spec
use Rattle.parse_local.proofs.begins.behind_points.Given as goal

abbrev pub invariant-loop-turn : goal.invariant-loop-turn
invariant-loop-turn l = spec.behind_points l.tokens (left l.tokens l.fn.at) l.fn.at ≡ spec.behind_points l.tokens (l._turn-end - l._turn) l.at
