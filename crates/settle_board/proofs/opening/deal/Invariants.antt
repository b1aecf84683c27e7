use Rattle.std.proofs.Common.{◌≡◌, ◌+◌, ◌≤◌, length, vec_capacity}
use Rattle.settle_board.specs.Seating.{AreNew, Dealing}
use Rattle.settle_board.proofs.opening.deal.Given as goal

abbrev pub invariant-loop-left : goal.invariant-loop-left
invariant-loop-left g l = record {
  first : Dealing (g.M.Meaning.meant l.board.key.meaning) l.board.table.shared.table_id l.board.key l.left l.first;
  some_left : 1 ≤ l.left;
  dealt : AreNew (λ x. g.M.Meaning.meant x) l.board l.list.items;
  count : length l.list.items + l.left ≡ l.board.key.seats;
  room : l.board.key.seats ≤ vec_capacity l.list;
}

abbrev pub decreases-loop-left : goal.decreases-loop-left
decreases-loop-left g l = l.left
