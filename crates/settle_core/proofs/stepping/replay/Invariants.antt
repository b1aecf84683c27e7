use Rattle.std.proofs.Common.{◌≡◌, length, drop}
use Rattle.settle_core.specs.State.{all_fresh}
use Rattle.settle_core.specs.Steps.{replayed}
use Rattle.settle_core.proofs.stepping.replay.Given as goal

abbrev pub invariant-loop-next : goal.invariant-loop-next
invariant-loop-next g l =
    let next = g.M.Played.next_of l.meaning in
    let pieces = (g.M.Meaning.meant l.meaning).pieces in
    record {
      whole : length l.state ≡ pieces;
      rest : replayed next l.state (drop l.next-index l.steps) ≡ replayed next (all_fresh pieces) l.steps;
    }
