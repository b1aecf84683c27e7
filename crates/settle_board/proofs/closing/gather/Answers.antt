use Rattle.std.proofs.Common.{◌≡◌, ◌+◌, ap, arith, length}
use Rattle.board_rule.specs.declared.view.View.{View}
use Rattle.settle_board.specs.Boards.{view_of}
use Rattle.settle_board.specs.Seating.{spent_by}
use Rattle.settle_board.proofs.Joined.{may_join, gathered_more, last_back, rest_back, last_spent, last_length, by_joined, both, none_left}
use Rattle.settle_board.proofs.closing.gather.Goals as goal

pub join_seat-requires : goal.join_seat-requires
join_seat-requires g c = let v = c.loop-other.invariant in let p = c.in-Some.ensures in
    may_join (λ x. g.M.Meaning.meant x) c.args.board.now c.loop-other.first.me.0.share c.loop-other.first v.first c.in-Some.other (last_back c.loop-other.list.items c.pop.new.self.items c.in-Some.other p.items (λ x. g.M.Meaning.meant x) c.args.board.now v.back)

pub loop-other-preserved : goal.loop-other-preserved
loop-other-preserved g c = let v = c.loop-other.invariant in let p = c.in-Some.ensures in let j = c.join_seat.ensures in
    let r = last_back c.loop-other.list.items c.pop.new.self.items c.in-Some.other p.items (λ x. g.M.Meaning.meant x) c.args.board.now v.back in
    let one = r.0.share in
    let n : length c.loop-other.list.items ≡ length c.pop.new.self.items + 1 = last_length c.loop-other.list.items c.pop.new.self.items c.in-Some.other p.items in
    let s : spent_by c.loop-other.list.items ≡ spent_by c.pop.new.self.items + (view_of c.in-Some.other).spent = last_spent c.loop-other.list.items c.pop.new.self.items c.in-Some.other p.items in
    let a : c.join_seat.new.seat.me.0.share ≡ c.loop-other.first.me.0.share + (view_of c.in-Some.other).share = ap (λ x. x.0.share) j.2 in
    let b : c.join_seat.new.seat.me.0.spent ≡ c.loop-other.first.me.0.spent + (view_of c.in-Some.other).spent = ap (λ x. x.0.spent) j.2 in record {
      first = gathered_more (λ x. g.M.Meaning.meant x) c.args.board.now c.loop-other.first.me.0.share c.loop-other.first v.first c.in-Some.other r c.join_seat.new.seat j.0 j.2;
      back = rest_back c.loop-other.list.items c.pop.new.self.items c.in-Some.other p.items (λ x. g.M.Meaning.meant x) c.args.board.now v.back;
      count = (let q = v.count in omega arith);
      spent = (let q = v.spent in omega arith);
      seen = λ k. (let q = by_joined c.loop-other.list.items c.pop.new.self.items c.in-Some.other p.items (λ (x : View _ _). x.seen) k c.loop-other.first.me.0.seen c.join_seat.new.seat.me.0.seen (ap (λ x. x.0.seen) j.2) in both q (v.seen k));
      begun = λ k. (let q = by_joined c.loop-other.list.items c.pop.new.self.items c.in-Some.other p.items (λ (x : View _ _). x.begun) k c.loop-other.first.me.0.begun c.join_seat.new.seat.me.0.begun (ap (λ x. x.0.begun) j.2) in both q (v.begun k));
    }

pub returns-clause-seen : goal.returns-clause-seen
returns-clause-seen g c k = none_left (λ (x : View _ _). x.seen) k c.loop-other.first.me.0.seen c.loop-other.list.items (let d = c.in_default.ensures.cases.0 in let o = c.loop-other.list.ok in omega arith) (c.loop-other.invariant.seen k)

pub returns-clause-begun : goal.returns-clause-begun
returns-clause-begun g c k = none_left (λ (x : View _ _). x.begun) k c.loop-other.first.me.0.begun c.loop-other.list.items (let d = c.in_default.ensures.cases.0 in let o = c.loop-other.list.ok in omega arith) (c.loop-other.invariant.begun k)
