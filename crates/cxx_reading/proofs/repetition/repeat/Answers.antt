use Rattle.std.proofs.Common.{◌≡◌}
use Rattle.cxx_reading.specs.Reading.{Tree}
use Rattle.cxx_reading.specs.Answers.{with_one}
use Rattle.cxx_reading.proofs.Turns.{goes_on, stops, fails}
use Rattle.cxx_reading.proofs.Answers.{one_more, no_more, none_by, deep_by}
use Rattle.cxx_reading.proofs.repetition.repeat.Goals as goal

pub returns-in-Err-S1 : goal.returns-in-Err-S1
returns-in-Err-S1 g c = record {
  gives = λ p reads.
      stops (with_one p) _ _ _ _ _ (c.loop-turn.invariant p reads) c.loop-turn-test.true
      (no_more p c.loop-turn.found c.loop-turn.at _ (none_by (p c.loop-turn.at) c.in-Err-S1.field-0 (reads.reads c.loop-turn.at _ c.in-Err-S1.ensures) c.in-Err-S1.field-0-is));
}

pub returns-in-Err-S2 : goal.returns-in-Err-S2
returns-in-Err-S2 g c = record {
  gives = λ p reads. λ other.
      fails (with_one p) _ _ _ _ _ (c.loop-turn.invariant p reads) c.loop-turn-test.true
      (no_more p c.loop-turn.found c.loop-turn.at _ (deep_by (p c.loop-turn.at) c.in-Err-S2.field-0 (reads.reads c.loop-turn.at _ c.in-Err-S2.ensures) c.in-Err-S2.field-0-is));
}

pub loop-turn-preserved : goal.loop-turn-preserved
loop-turn-preserved g c = λ p reads.
    let there : p c.loop-turn.at ≡ Tree c.in-Ok.x c.in-Ok.after = cc (reads.reads c.loop-turn.at _ c.in-Ok.ensures) in
    goes_on (with_one p) _ _ _ _ _ (c.loop-turn.invariant p reads) c.loop-turn-test.true _ _
    (one_more p c.loop-turn.found c.push.new.found c.in-Ok.x c.loop-turn.at c.in-Ok.after there c.in_ok-push-in-Ok.ensures.ok)
