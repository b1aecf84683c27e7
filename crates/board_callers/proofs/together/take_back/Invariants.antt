use Rattle.std.proofs.Common.{◌≡◌, ◌+◌, length}
use Rattle.settle_board.specs.Seating.{AreOf, seats_in, room_of}
use Rattle.board_callers.specs.Ends.{HaveEnded}
use Rattle.board_callers.proofs.together.take_back.Given as goal

abbrev pub invariant-loop-hand : goal.invariant-loop-hand
invariant-loop-hand g l = record {
  of : AreOf (λ x. g.M.Meaning.meant x) l.board (seats_in l.seats);
  ended : HaveEnded (λ x. g.M.Meaning.meant x) l.board l.hands.items;
  all : length (seats_in l.seats) + length l.hands.items ≡ length l.initial.hands.items;
  room : room_of l.seats ≡ length l.initial.hands.items;
}

abbrev pub decreases-loop-hand : goal.decreases-loop-hand
decreases-loop-hand g l = length l.hands.items
