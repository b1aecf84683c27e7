use Rattle.std.proofs.Common.{◌≡◌, ◌-◌}
use Rattle.cxx_reading.specs.Reading.{turns}
use Rattle.parse_local.specs.Joined as joined
use Rattle.parse_local.proofs.begins.behind_parts.Given as goal

abbrev pub invariant-loop-turn : goal.invariant-loop-turn
invariant-loop-turn l = joined.behind_parts l.tokens l.fn.at ≡ turns (l._turn-end - l._turn) (joined.part_on l.tokens) tt l.at
