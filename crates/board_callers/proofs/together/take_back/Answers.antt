use Rattle.std.proofs.Common.{◌≡◌, ◌+◌, ◌∙◌, sym, ap, length, length-append, arith}
use denote.Enum.Bare.{same_false}
use Rattle.settle_board.specs.Boards.{view_of, IsOf}
use Rattle.settle_board.specs.Seating.{seats_in}
use Rattle.board_callers.specs.Ends.{HasEnded}
use Rattle.board_callers.specs.contracts.hand.HandEnd.{the_type}
use Rattle.board_callers.specs.declared.hand.HandEnd.TheVariants.{NoMemory}
use Rattle.board_callers.proofs.HandLists.{one_more, the_last, the_rest}
use Rattle.board_callers.proofs.HandEnds.{end_idle}
use Rattle.board_callers.proofs.together.take_back.Goals as goal

pub give-requires-clause-idle : goal.give-requires-clause-idle
give-requires-clause-idle g c = end_idle (g.M.Meaning.meant c.args.board.now.key.meaning).pieces c.in-Some.hand.end (view_of c.in-Some.hand.seat) (same_false the_type c.in-Some.hand.end NoMemory (sym c.if-eq.ensures))
    (the_last (HasEnded (λ x. g.M.Meaning.meant x) c.args.board.now) c.loop-hand.hands.items c.pop.new.self.items c.in-Some.hand c.in-Some.ensures.items c.loop-hand.invariant.ended).1

pub loop-hand-preserved : goal.loop-hand-preserved
loop-hand-preserved g c = let v = c.loop-hand.invariant in let e = c.in-Some.ensures.items in
    let a : length c.loop-hand.hands.items ≡ length c.pop.new.self.items + 1 = ap length e ∙ length-append c.pop.new.self.items _ in
    let b : length (seats_in c.give.new.self) ≡ length (seats_in c.loop-hand.seats) + 1 = ap length c.give.ensures.seat ∙ length-append (seats_in c.loop-hand.seats) _ in record {
      of = one_more (IsOf g.M.Meaning c.args.board.now) (seats_in c.give.new.self) (seats_in c.loop-hand.seats) c.in-Some.hand.seat c.give.ensures.seat v.of
          (the_last (HasEnded (λ x. g.M.Meaning.meant x) c.args.board.now) c.loop-hand.hands.items c.pop.new.self.items c.in-Some.hand e v.ended).0;
      ended = the_rest (HasEnded (λ x. g.M.Meaning.meant x) c.args.board.now) c.loop-hand.hands.items c.pop.new.self.items c.in-Some.hand e v.ended;
      all = (let q = v.all in omega arith);
      room = c.give.ensures.count ∙ v.room;
    }
