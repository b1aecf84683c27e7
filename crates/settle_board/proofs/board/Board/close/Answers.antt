use Rattle.std.proofs.Common.{◌≡◌, ◌+◌, ◌<◌, ◌∙◌, arith, length}
use Rattle.settle_core.specs.Meant.{outcome}
use Rattle.board_rule.specs.declared.view.View.{View}
use Rattle.settle_board.specs.Boards.{view_of}
use Rattle.settle_board.specs.Seating.{spent_by}
use Rattle.settle_board.proofs.Joined.{all_back, gathered_one, last_back, rest_back, last_spent, last_length, by_all, closed_home, all_out, one_open}
use Rattle.settle_board.proofs.board.Board.close.Goals as goal

pub gather-seat-requires-clause-first : goal.gather-seat-requires-clause-first
gather-seat-requires-clause-first g c = gathered_one (λ x. g.M.Meaning.meant x) c.args.self c.in-Some.last (last_back c.args.seats.list.items c.pop-last.new.self.items c.in-Some.last c.in-Some.ensures.items (λ x. g.M.Meaning.meant x) c.args.self (all_back (λ x. g.M.Meaning.meant x) c.args.self c.args.seats.list.items c.requires.seats c.args.seats.idle))

pub gather-seat-requires-clause-list : goal.gather-seat-requires-clause-list
gather-seat-requires-clause-list g c = rest_back c.args.seats.list.items c.pop-last.new.self.items c.in-Some.last c.in-Some.ensures.items (λ x. g.M.Meaning.meant x) c.args.self (all_back (λ x. g.M.Meaning.meant x) c.args.self c.args.seats.list.items c.requires.seats c.args.seats.idle)

pub take_outcomes-requires-clause-homes : goal.take_outcomes-requires-clause-homes
take_outcomes-requires-clause-homes g c k l e = let a = c.gather-seat.ensures.at in let v = c.close_with.ensures in
    let n : length c.args.seats.list.items ≡ length c.pop-last.new.self.items + 1 = last_length c.args.seats.list.items c.pop-last.new.self.items c.in-Some.last c.in-Some.ensures.items in
    let share : c.gather-seat.result.me.0.share ≡ c.args.self.key.seats = (let q = a.share in let r = c.requires.all in omega arith) in
    let inside : k < (g.M.Meaning.meant c.args.self.key.meaning).pieces = (let q = v.counts.1 in let s = a.slots in omega arith) in
    (outcome (g.M.Meaning.meant c.args.self.key.meaning) k, closed_home (λ x. g.M.Meaning.meant x) c.args.self (g.met.M.Meaning.lawful c.args.self.key.meaning) _ c.gather-seat.result.me.0 _ _ v.values.2 share a.held a.lent k inside e)

pub returns-in-Ok : goal.returns-in-Ok
returns-in-Ok g c = let a = c.gather-seat.ensures.at in let v = c.close_with.ensures in let h = c.in-Ok.ensures in
    let n : length c.args.seats.list.items ≡ length c.pop-last.new.self.items + 1 = last_length c.args.seats.list.items c.pop-last.new.self.items c.in-Some.last c.in-Some.ensures.items in
    let s : spent_by c.args.seats.list.items ≡ spent_by c.pop-last.new.self.items + (view_of c.in-Some.last).spent = last_spent c.args.seats.list.items c.pop-last.new.self.items c.in-Some.last c.in-Some.ensures.items in
    let each : c.gather-seat.result.me.0.share ≡ length c.args.seats.list.items = (let q = a.share in omega arith) in
    let share : c.gather-seat.result.me.0.share ≡ c.args.self.key.seats = each ∙ c.requires.all in
    let spent : c.gather-seat.result.me.0.spent ≡ spent_by c.args.seats.list.items = (let q = c.gather-seat.ensures.spent in omega arith) in
    let out = all_out (λ x. g.M.Meaning.meant x) c.args.self (g.met.M.Meaning.lawful c.args.self.key.meaning) _ c.gather-seat.result.me.0 _ _ v.values.2 share a.held a.lent c.args.seats.list.items each spent
    (λ k. by_all c.args.seats.list.items c.pop-last.new.self.items c.in-Some.last c.in-Some.ensures.items (λ (x : View _ _). x.seen) k _ (c.gather-seat.ensures.seen k))
    (λ k. by_all c.args.seats.list.items c.pop-last.new.self.items c.in-Some.last c.in-Some.ensures.items (λ (x : View _ _). x.begun) k _ (c.gather-seat.ensures.begun k))
    _ (v.counts.1 ∙ a.slots) c.in-Ok.outcomes.items h.0 h.1 in record { outcomes = c.from_vec.ensures ∙ out.0; spent = out.1; seen = out.2; first = tt; word = tt; stands = tt }

pub returns : goal.returns
returns g c = let a = c.gather-seat.ensures.at in let v = c.close_with.ensures in let h = c.in-Err.ensures in
    let n : length c.args.seats.list.items ≡ length c.pop-last.new.self.items + 1 = last_length c.args.seats.list.items c.pop-last.new.self.items c.in-Some.last c.in-Some.ensures.items in
    let s : spent_by c.args.seats.list.items ≡ spent_by c.pop-last.new.self.items + (view_of c.in-Some.last).spent = last_spent c.args.seats.list.items c.pop-last.new.self.items c.in-Some.last c.in-Some.ensures.items in
    let each : c.gather-seat.result.me.0.share ≡ length c.args.seats.list.items = (let q = a.share in omega arith) in
    let share : c.gather-seat.result.me.0.share ≡ c.args.self.key.seats = each ∙ c.requires.all in
    let spent : c.gather-seat.result.me.0.spent ≡ spent_by c.args.seats.list.items = (let q = c.gather-seat.ensures.spent in omega arith) in
    let out = one_open (λ x. g.M.Meaning.meant x) c.args.self (g.met.M.Meaning.lawful c.args.self.key.meaning) _ c.gather-seat.result.me.0 _ _ v.values.2 share a.held a.lent c.args.seats.list.items each spent
    (λ k. by_all c.args.seats.list.items c.pop-last.new.self.items c.in-Some.last c.in-Some.ensures.items (λ (x : View _ _). x.seen) k _ (c.gather-seat.ensures.seen k))
    (λ k. by_all c.args.seats.list.items c.pop-last.new.self.items c.in-Some.last c.in-Some.ensures.items (λ (x : View _ _). x.begun) k _ (c.gather-seat.ensures.begun k))
    _ (v.counts.1 ∙ a.slots) c.in-Err.unsettled.piece.0 c.in-Err.unsettled.word h.0 h.1 h.2 h.3 in record { outcomes = tt; spent = tt; seen = tt; first = out.0; word = out.1; stands = out.2 }
