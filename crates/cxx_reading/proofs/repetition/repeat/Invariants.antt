use Rattle.std.proofs.Common.{◌≡◌, ◌-◌}
use Rattle.cxx_reading.specs.Reading.{Rule, repeated, turns}
use Rattle.cxx_reading.specs.Answers.{ReadsRule, with_one}
use Rattle.cxx_reading.proofs.repetition.repeat.Given as goal

abbrev pub invariant-loop-turn : goal.invariant-loop-turn
invariant-loop-turn g l =
    (p : Rule g.row.A.Denot) → ReadsRule p (goal.P-post g l.part) → repeated l.tokens (with_one p) l.fn.found l.fn.at ≡ turns (l._turn-end - l._turn) (with_one p) l.found l.at
