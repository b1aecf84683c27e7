use Rattle.std.proofs.Common.{sym, ◌∙◌}
use Rattle.settle_core.proofs.Left.{step_makes, step_fails}
use Rattle.settle_core.proofs.Replays.{step_length, step_sound}
use Rattle.settle_core.proofs.stepping.step.Goals as goal

pub returns-in-Some-2 : goal.returns-in-Some-2
returns-in-Some-2 g c =
    let next = g.M.Played.next_of c.args.meaning.now in
    let makes = step_makes next c.args.state c.piece.result.0 c.args.next c.in-Some.piece c.take.new.self c.piece.ensures (sym c.take.ensures.taken ∙ c.in-Some.is) c.take.ensures.left
    c.in-Some-2.piece c.piece-in-Some-2.result.0 c.put.new.self (sym c.in_ok-piece.ensures ∙ c.in-Some-2.is) c.piece-in-Some-2.ensures c.put.ensures in
    record {
      exact = sym makes;
      whole = step_length next c.args.state c.put.new.self c.args.next makes ∙ c.requires;
      sound = step_sound (g.M.Meaning.meant c.args.meaning.now) (g.met.M.Meaning.lawful c.args.meaning.now) next (g.met.M.Played.plays c.args.meaning.now) c.args.state c.put.new.self c.args.next makes;
    }

pub returns-in-None-clause-exact : goal.returns-in-None-clause-exact
returns-in-None-clause-exact g c =
    sym (step_fails (g.M.Played.next_of c.args.meaning.now) c.args.state c.piece.result.0 c.args.next c.in-Some.piece c.take.new.self c.piece.ensures
    (sym c.take.ensures.taken ∙ c.in-Some.is) c.take.ensures.left (sym c.in_ok-piece.ensures ∙ c.in-None.is))
