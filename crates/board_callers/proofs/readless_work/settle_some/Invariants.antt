use Rattle.std.proofs.Common.{◌≡◌, ◌+◌, ◌≤◌}
use Rattle.settle_board.specs.Boards.{IsIdle, view_of, IsOfBy}
use Rattle.settle_samples.specs.Readless.{pieces_without_reads}
use Rattle.board_callers.proofs.readless_work.settle_some.Given as goal

abbrev pub invariant-loop-k : goal.invariant-loop-k
invariant-loop-k l = record {
  of : IsOfBy (λ x. pieces_without_reads x.pieces) l.board l.seat;
  idle : IsIdle (view_of l.seat);
  few : l.settled ≤ l.k;
  spent : (view_of l.seat).spent ≡ (view_of l.initial.seat).spent + l.settled;
}
