use Rattle.std.proofs.Common.{List}
use Rattle.board_rule.specs.declared.view.Entry.{Entry}
use Rattle.settle_board.specs.Boards.{view_of, IsOf}
use Rattle.settle_board.specs.Changes.{Becomes}
use Rattle.piece_search.specs.TurnParts.{Round}
use Rattle.piece_search.proofs.searching.search.Given as goal

abbrev pub invariant-loop-i : goal.invariant-loop-i
invariant-loop-i g l = record {
  of : IsOf g.M.Meaning l.board l.seat;
  tried : (part : List (Entry g.row.M-Task.Denot)) × Round l.pick l.pieces l.i part × Becomes (view_of l.initial.seat).held (view_of l.initial.seat).lent 0 part (view_of l.initial.seat) (view_of l.seat);
}
