use Rattle.settle_core.proofs.Moves.{settled_outcome}
use Rattle.settle_core.proofs.Replays.{fresh_sound, all_sound, all_within, goes_on}
use Rattle.settle_core.proofs.Options.{from_some}
use Rattle.settle_core.specs.State.{all_fresh}
use Rattle.settle_core.specs.Steps.{replayed}
use Rattle.settle_core.proofs.laws.every_order_is_sound.Goals as goal

pub returns : goal.returns
returns g c =
    let m = g.M.Meaning.meant c.args.meaning.now in
    let lawful = g.met.M.Meaning.lawful c.args.meaning.now in
    record {
      sound = λ next s law r. all_sound m lawful next law r.0 (all_fresh m.pieces) s (fresh_sound m) r.1;
      fold = λ next s law r. settled_outcome m s (all_sound m lawful next law r.0 (all_fresh m.pieces) s (fresh_sound m) r.1);
      earliest = λ next s law r. goes_on m s (all_sound m lawful next law r.0 (all_fresh m.pieces) s (fresh_sound m) r.1);
      bound = λ next steps law h. (let t = from_some (replayed next (all_fresh m.pieces) steps) h in all_within m lawful next law steps t.0 t.1);
    }
