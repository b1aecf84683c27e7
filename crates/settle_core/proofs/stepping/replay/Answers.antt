use Rattle.std.proofs.Common.{Some, get_or, sym, ◌∙◌}
use Rattle.settle_core.specs.State.{Claim}
use Rattle.settle_core.proofs.Replays.{step_length, one_step, no_more, replay_sound, replay_fold, replay_goes_on, replay_within}
use Rattle.settle_core.proofs.stepping.replay.Goals as goal

pub loop-next-preserved : goal.loop-next-preserved
loop-next-preserved g c =
    let next = g.M.Played.next_of c.args.meaning.now in
    let e = sym c.in_ok-after.ensures.exact ∙ c.in-Some.is in
    record {
      whole = step_length next c.loop-next.state c.in-Some.after (get_or c.args.steps.now c.loop-next.next-index (Claim (record { 0 = 0 }) 0)) e ∙ c.loop-next.invariant.whole;
      rest = sym (one_step next c.loop-next.state c.in-Some.after c.args.steps.now c.loop-next.next-index (Claim (record { 0 = 0 }) 0) c.loop-next-test.true e) ∙ c.loop-next.invariant.rest;
    }

pub returns : goal.returns
returns g c =
    let meant = g.M.Meaning.meant c.args.meaning.now in
    let lawful = g.met.M.Meaning.lawful c.args.meaning.now in
    let next = g.M.Played.next_of c.args.meaning.now in
    let law = g.met.M.Played.plays c.args.meaning.now in
    let exact = sym (no_more next c.loop-next.state c.args.steps.now c.loop-next.next-index c.loop-next-test.false) ∙ c.loop-next.invariant.rest in
    record {
      exact = exact;
      sound = replay_sound meant lawful next law c.args.steps.now (Some c.loop-next.state) exact;
      fold = replay_fold meant lawful next law c.args.steps.now (Some c.loop-next.state) exact;
      earliest = replay_goes_on meant lawful next law c.args.steps.now (Some c.loop-next.state) exact;
      bound = replay_within meant lawful next law c.args.steps.now (Some c.loop-next.state) exact;
    }
