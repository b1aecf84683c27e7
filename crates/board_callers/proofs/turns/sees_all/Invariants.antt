use Rattle.std.proofs.Common.{ℕ, ◌<◌}
use Rattle.board_rule.specs.Maps.{IsAmong}
use Rattle.settle_board.specs.Boards.{IsIdle, view_of, IsOf}
use Rattle.board_callers.proofs.Looked.{Looked}
use Rattle.board_callers.proofs.turns.sees_all.Given as goal

abbrev pub invariant-loop-k : goal.invariant-loop-k
invariant-loop-k g l = record {
  of : IsOf g.M.Meaning l.board l.seat;
  idle : IsIdle (view_of l.seat);
  looked : Looked l.k (view_of l.initial.seat) (view_of l.seat);
  seen : (j : ℕ) → j < l.k → IsAmong j (view_of l.seat).seen;
}
