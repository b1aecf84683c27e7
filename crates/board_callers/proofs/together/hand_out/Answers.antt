use Rattle.std.proofs.Common.{◌≡◌, ◌+◌, ◌∙◌, ap, length, length-append, arith}
use Rattle.settle_board.specs.Seating.{seats_in}
use Rattle.settle_board.proofs.SeatLists.{taken_new, left_new, one_longer}
use Rattle.board_callers.specs.Ends.{IsReady}
use Rattle.board_callers.proofs.HandLists.{one_more}
use Rattle.board_callers.proofs.together.hand_out.Goals as goal

pub loop-seat-preserved : goal.loop-seat-preserved
loop-seat-preserved g c = let v = c.loop-seat.invariant in let e = c.in-Some.ensures.seat in
    let a : length (seats_in c.loop-seat.seats) ≡ length (seats_in c.take.new.self) + 1 = one_longer (λ x. g.M.Meaning.meant x) c.args.board.now (seats_in c.loop-seat.seats) (seats_in c.take.new.self) c.in-Some.seat e in
    let b : length c.push.new.self.items ≡ length c.loop-seat.hands.items + 1 = ap length c.in_ok-push.ensures.items ∙ length-append c.loop-seat.hands.items _ in record {
      new = left_new (λ x. g.M.Meaning.meant x) c.args.board.now (seats_in c.loop-seat.seats) (seats_in c.take.new.self) c.in-Some.seat e v.new;
      ready = one_more (IsReady (λ x. g.M.Meaning.meant x) c.args.board.now) c.push.new.self.items c.loop-seat.hands.items _ c.in_ok-push.ensures.items v.ready
          ((taken_new (λ x. g.M.Meaning.meant x) c.args.board.now (seats_in c.loop-seat.seats) (seats_in c.take.new.self) c.in-Some.seat e v.new).0, c.in-Some.ensures.idle);
      all = (let q = v.all in omega arith);
      room = c.in-Some.ensures.count ∙ v.room;
    }
