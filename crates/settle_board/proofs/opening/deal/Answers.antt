use Rattle.std.proofs.Common.{◌≡◌, ◌+◌, length, ap, ◌∙◌, arith, length-append}
use Rattle.settle_board.proofs.Dealt.{may_cut, deals_less, newcomer_blank, last_blank, new_more}
use Rattle.settle_board.proofs.opening.deal.Goals as goal

pub split_seat-seat-requires : goal.split_seat-seat-requires
split_seat-seat-requires g c = may_cut (λ x. g.M.Meaning.meant x) c.args.board.now c.loop-left.left c.loop-left.first c.loop-left.invariant.first c.loop-left-test.true

pub loop-left-preserved : goal.loop-left-preserved
loop-left-preserved g c = let v = c.loop-left.invariant in let e = c.split_seat-seat.ensures in let p = c.push_reserved.ensures in
    let n : length c.push_reserved.new.self.items ≡ length c.loop-left.list.items + 1 = ap length p.items ∙ length-append c.loop-left.list.items _ in record {
      first = deals_less (λ x. g.M.Meaning.meant x) c.args.board.now c.loop-left.left c.loop-left.first v.first c.split_seat-seat.new.seat e.0 e.2;
      some_left = (let t = c.loop-left-test.true in omega arith);
      dealt = new_more (λ x. g.M.Meaning.meant x) c.args.board.now c.loop-left.list.items _ c.split_seat-seat.result p.items v.dealt (newcomer_blank (λ x. g.M.Meaning.meant x) c.args.board.now c.loop-left.left c.loop-left.first v.first c.split_seat-seat.result e.3 e.4);
      count = (let q = v.count in let t = c.loop-left-test.true in omega arith);
      room = (let q = v.room in let r = p.capacity in omega arith);
    }

pub returns : goal.returns
returns g c = let v = c.loop-left.invariant in let p = c.push_reserved-2.ensures in
    let one : c.loop-left.left ≡ 1 = (let t = c.loop-left-test.false in let q = v.some_left in omega arith) in
    let n : length c.push_reserved-2.new.self.items ≡ length c.loop-left.list.items + 1 = ap length p.items ∙ length-append c.loop-left.list.items _ in record {
      seats = ((let q = v.count in omega arith), (let q = v.room in let r = p.capacity in omega arith));
      blank = new_more (λ x. g.M.Meaning.meant x) c.args.board.now c.loop-left.list.items _ c.loop-left.first p.items v.dealt (last_blank (λ x. g.M.Meaning.meant x) c.args.board.now c.loop-left.left c.loop-left.first v.first one);
    }
