use Rattle.std.proofs.Common.{◌≡◌, ◌-◌}
use Rattle.cxx_reading.specs.Reading.{turns}
use Rattle.cxx_grammar.specs.Fundamentals as spec
use Rattle.parse_type.proofs.fundamental.more_type_words.Given as goal

abbrev pub invariant-loop-turn : goal.invariant-loop-turn
invariant-loop-turn l = spec.more_type_words l.tokens l.fn.found l.fn.at ≡ turns (l._turn-end - l._turn) (spec.type_word l.tokens) l.found l.at
