use Rattle.settle_samples.specs.ThreePieces.{three_pieces}
use Rattle.settle_board.specs.Seating.{seats_in}
use Rattle.settle_board.proofs.SeatLists.{taken_new, left_new}
use Rattle.settle_rows.proofs.two_seats.open.Goals as goal

pub returns-clause-second : goal.returns-clause-second
returns-clause-second c = ((taken_new (λ x. three_pieces x.first) c.in_ok-board.board (seats_in c.in_ok-board.seats) (seats_in c.take.new.self) c.in-Some.second c.in-Some.ensures.seat c.in_ok-board.ensures.blank).0, c.in-Some.ensures.idle)

pub returns-clause-first : goal.returns-clause-first
returns-clause-first c =
    let all = left_new (λ x. three_pieces x.first) c.in_ok-board.board (seats_in c.in_ok-board.seats) (seats_in c.take.new.self) c.in-Some.second c.in-Some.ensures.seat c.in_ok-board.ensures.blank in
    ((taken_new (λ x. three_pieces x.first) c.in_ok-board.board (seats_in c.take.new.self) (seats_in c.take-2.new.self) c.in-Some-take.other c.in-Some-take.ensures.seat all).0, c.in-Some-take.ensures.idle)
