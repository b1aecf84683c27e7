use Rattle.settle_board.specs.Boards.{IsOfBy}
use Rattle.settle_samples.specs.ThreePieces.{three_pieces}
use Rattle.settle_rows.proofs.seat_calls.append_calls.Given as goal

abbrev pub invariant-loop-word : goal.invariant-loop-word
invariant-loop-word l = record {
  a : IsOfBy (λ x. three_pieces x.first) l.board l.a;
  b : IsOfBy (λ x. three_pieces x.first) l.board l.b;
}
