use Rattle.std.proofs.Common.{◌≡◌, ◌+◌, ◌∙◌, ap, length, arith}
use Rattle.settle_board.specs.Seating.{seats_in}
use Rattle.settle_board.proofs.SeatLists.{taken_new, left_new, given_back, one_longer}
use Rattle.settle_samples.specs.Readless.{pieces_without_reads}
use Rattle.settle_rows.proofs.many_seats.settle_with_all.Goals as goal

pub settle_some-requires-clause-of : goal.settle_some-requires-clause-of
settle_some-requires-clause-of c = (taken_new (λ x. pieces_without_reads x.pieces) c.args.board.now (seats_in c.loop-seat.seats) (seats_in c.take.new.self) c.in-Some.seat c.in-Some.ensures.seat c.loop-seat.invariant.new).0

pub settle_some-requires-clause-idle : goal.settle_some-requires-clause-idle
settle_some-requires-clause-idle c =
    let h = taken_new (λ x. pieces_without_reads x.pieces) c.args.board.now (seats_in c.loop-seat.seats) (seats_in c.take.new.self) c.in-Some.seat c.in-Some.ensures.seat c.loop-seat.invariant.new in
    (ap (λ v. v.held) h.1, ap (λ v. v.lent) h.1)

pub loop-seat-preserved : goal.loop-seat-preserved
loop-seat-preserved c = let v = c.loop-seat.invariant in let s = c.settle_some.ensures in
    let a : length (seats_in c.loop-seat.seats) ≡ length (seats_in c.take.new.self) + 1 = one_longer (λ x. pieces_without_reads x.pieces) c.args.board.now _ (seats_in c.take.new.self) c.in-Some.seat c.in-Some.ensures.seat in
    let b : length c.push.new.self.items ≡ length c.loop-seat.done.items + 1 = one_longer (λ x. pieces_without_reads x.pieces) c.args.board.now _ c.loop-seat.done.items c.settle_some.new.seat c.in_ok-push.ensures.items in record {
      new = left_new (λ x. pieces_without_reads x.pieces) c.args.board.now (seats_in c.loop-seat.seats) (seats_in c.take.new.self) c.in-Some.seat c.in-Some.ensures.seat v.new;
      done = given_back (λ x. pieces_without_reads x.pieces) c.args.board.now c.push.new.self.items c.loop-seat.done.items c.settle_some.new.seat c.in_ok-push.ensures.items v.done (s.of, s.idle);
      all = (let q = v.all in let r = c.in-Some.ensures.count in omega arith);
      same = c.in-Some.ensures.count ∙ v.same;
      first = c.end-last.ensures;
    }
