use Rattle.std.proofs.Common.{◌≡◌}
use Rattle.settle_board.specs.Boards.{view_of, IsOf}
use Rattle.board_callers.specs.Holding.{HoldsOnly, HasTaken, IsClaimedFor, Grows}
use Rattle.board_callers.proofs.piece_work.work.Given as goal

abbrev pub invariant-loop : goal.invariant-loop
invariant-loop g l = record {
  of : IsOf g.M.Meaning l.board l.seat;
  same : l.claimed ≡ l.initial.claimed;
  holds : HoldsOnly l.k.0 l.claimed (view_of l.seat);
  claimed : IsClaimedFor (g.M.Meaning.meant l.board.key.meaning) l.k.0 l.claimed;
  grows : Grows (view_of l.initial.seat) (view_of l.seat);
  taken : HasTaken (g.M.Meaning.meant l.board.key.meaning) l.k.0 l.taken (view_of l.seat);
}
