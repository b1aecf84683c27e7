use Rattle.settle_board.specs.Boards.{IsIdle, view_of, IsOfBy}
use Rattle.settle_samples.specs.ThreePieces.{three_pieces}
use Rattle.settle_rows.proofs.taking.append_turns.Given as goal

abbrev pub invariant-loop-word : goal.invariant-loop-word
invariant-loop-word g l = record {
  a : IsOfBy (λ x. three_pieces x.first) l.board l.a × IsIdle (view_of l.a);
  b : IsOfBy (λ x. three_pieces x.first) l.board l.b × IsIdle (view_of l.b);
}
