use Rattle.std.proofs.Common.{◌≡◌, ◌+◌, length}
use Rattle.settle_board.specs.Seating.{AreNew, seats_in, room_of}
use Rattle.board_callers.specs.Ends.{AreReady}
use Rattle.board_callers.proofs.together.hand_out.Given as goal

abbrev pub invariant-loop-seat : goal.invariant-loop-seat
invariant-loop-seat g l = record {
  new : AreNew (λ x. g.M.Meaning.meant x) l.board (seats_in l.seats);
  ready : AreReady (λ x. g.M.Meaning.meant x) l.board l.hands.items;
  all : length l.hands.items + length (seats_in l.seats) ≡ length l.plans;
  room : room_of l.seats ≡ length l.plans;
}

abbrev pub decreases-loop-seat : goal.decreases-loop-seat
decreases-loop-seat g l = length (seats_in l.seats)
