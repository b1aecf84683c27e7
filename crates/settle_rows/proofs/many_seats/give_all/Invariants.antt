use Rattle.std.proofs.Common.{◌≡◌, ◌+◌, length}
use Rattle.settle_board.specs.Seating.{AreBack, seats_in, room_of}
use Rattle.settle_samples.specs.Readless.{pieces_without_reads}
use Rattle.settle_rows.proofs.many_seats.give_all.Given as goal

abbrev pub invariant-loop-seat : goal.invariant-loop-seat
invariant-loop-seat l = record {
  back : AreBack (λ x. pieces_without_reads x.pieces) l.board (seats_in l.seats);
  done : AreBack (λ x. pieces_without_reads x.pieces) l.board l.done.items;
  all : length (seats_in l.seats) + length l.done.items ≡ room_of l.seats;
  same : room_of l.seats ≡ room_of l.initial.seats;
}

abbrev pub decreases-loop-seat : goal.decreases-loop-seat
decreases-loop-seat l = length l.done.items
