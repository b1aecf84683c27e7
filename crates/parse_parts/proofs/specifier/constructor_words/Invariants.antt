use Rattle.std.proofs.Common.{◌≡◌, ◌-◌}
use Rattle.cxx_reading.specs.Reading.{turns}
use Rattle.cxx_grammar.specs.Declarations as spec
use Rattle.parse_parts.proofs.specifier.constructor_words.Given as goal

abbrev pub invariant-loop-turn : goal.invariant-loop-turn
invariant-loop-turn l = spec.constructor_words l.tokens l.fn.found l.fn.at ≡ turns (l._turn-end - l._turn) (spec.constructor_word l.tokens) l.found l.at
