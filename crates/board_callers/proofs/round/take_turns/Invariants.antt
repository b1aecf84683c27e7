use Rattle.std.proofs.Common.{◌≡◌, ◌≤◌}
use Rattle.settle_board.specs.Boards.{IsIdle, view_of, IsOf}
use Rattle.board_callers.proofs.round.take_turns.Given as goal

abbrev pub invariant-loop : goal.invariant-loop
invariant-loop g l = record {
  of : IsOf g.M.Meaning l.board l.seat;
  idle : IsIdle (view_of l.seat);
  all : l.pieces ≡ (g.M.Meaning.meant l.board.key.meaning).pieces;
  pick : l.pick ≤ l.pieces;
}
