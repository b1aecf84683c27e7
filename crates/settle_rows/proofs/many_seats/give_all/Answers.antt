use Rattle.std.proofs.Common.{◌≡◌, ◌+◌, ◌∙◌, length, arith}
use Rattle.settle_board.specs.Seating.{seats_in}
use Rattle.settle_board.proofs.Joined.{last_back, rest_back, last_length}
use Rattle.settle_board.proofs.SeatLists.{given_back, one_longer}
use Rattle.settle_samples.specs.Readless.{pieces_without_reads}
use Rattle.settle_rows.proofs.many_seats.give_all.Goals as goal

pub give-requires-clause-idle : goal.give-requires-clause-idle
give-requires-clause-idle c = (last_back _ _ _ c.in-Some.ensures.items (λ x. pieces_without_reads x.pieces) c.args.board.now c.loop-seat.invariant.done).1

pub loop-seat-preserved : goal.loop-seat-preserved
loop-seat-preserved c = let v = c.loop-seat.invariant in let p = c.in-Some.ensures in
    let a : length c.loop-seat.done.items ≡ length c.pop.new.self.items + 1 = last_length _ _ _ p.items in
    let b : length (seats_in c.give.new.self) ≡ length (seats_in c.loop-seat.seats) + 1 = one_longer (λ x. pieces_without_reads x.pieces) c.args.board.now _ (seats_in c.loop-seat.seats) c.in-Some.seat c.give.ensures.seat in record {
      back = given_back (λ x. pieces_without_reads x.pieces) c.args.board.now (seats_in c.give.new.self) (seats_in c.loop-seat.seats) c.in-Some.seat c.give.ensures.seat v.back (last_back _ _ _ p.items (λ x. pieces_without_reads x.pieces) c.args.board.now v.done);
      done = rest_back _ _ _ p.items (λ x. pieces_without_reads x.pieces) c.args.board.now v.done;
      all = (let q = v.all in let r = c.give.ensures.count in omega arith);
      same = c.give.ensures.count ∙ v.same;
    }
