use Rattle.std.proofs.Common.{◌+◌, ◌∙◌, sym, ap, subst, length, arith, Option}
use Rattle.settle_core.specs.Next.{IsNext}
use Rattle.board_rule.specs.Standing.{next_read}
use Rattle.board_rule.specs.Plays.{CanPark}
use Rattle.settle_board.specs.Boards.{view_of}
use Rattle.settle_board.proofs.Callers.{settles, parks}
use Rattle.board_callers.specs.declared.borrowing.Loan.TheVariants.{Took, Open, Busy}
use Rattle.board_callers.specs.Holding.{HoldsOnly}
use Rattle.board_callers.proofs.Loans.{loan_is}
use Rattle.board_callers.proofs.PieceWork.{is_next, on_error, same_hand, grows_more, says_settled, says_parked, hold_of, its_hold, has_hold, lets_go, still_holds, taken_same, takes_it, claimed_few, saw_all, saw_taken, is_claimed_at, few_at, taken_count}
use Rattle.board_callers.proofs.piece_work.work.Goals as goal

pub loop-preserved-in-Took : goal.loop-preserved-in-Took
loop-preserved-in-Took g c = let m = g.M.Meaning.meant c.args.board.now.key.meaning in let k = c.args.k.0 in let v = view_of c.loop.seat in let w = view_of c.borrow.new.seat in
    let law = subst (λ x. IsNext (g.M.Meaning.meant x) (g.M.Played.next_of c.args.meaning.now)) c.requires.meaning (g.met.M.Played.plays c.args.meaning.now) in
    let b = loan_is m c.in-Read.j.0 c.loop.taken v c.in_ok-borrow-in-Read.field-0 Took c.borrow.new.taken w c.in-Took.is c.in_ok-borrow-in-Read.ensures.says in let same = same_hand v w _ b.0 in record {
      of = c.in_ok-borrow-in-Read.ensures.of;
      holds = still_holds k _ v c.loop.invariant.holds w same;
      same = c.loop.invariant.same;
      claimed = c.loop.invariant.claimed;
      grows = grows_more (view_of c.args.seat.now) v w _ c.loop.invariant.grows b.0.trail;
      taken = takes_it m k (g.met.M.Meaning.lawful c.args.board.now.key.meaning) (g.M.Played.next_of c.args.meaning.now) law c.requires.piece c.loop.taken v c.loop.invariant.taken c.in-Read.j (sym c.in_ok-j.ensures ∙ c.in-Read.is) c.borrow.new.taken w b.1 same b.2;
    }

pub parked-task-requires-clause-claimed : goal.parked-task-requires-clause-claimed
parked-task-requires-clause-claimed g c = is_claimed_at (λ x. g.M.Meaning.meant x) c.args.k.0 _ c.args.meaning.now c.args.board.now.key.meaning c.requires.meaning c.loop.invariant.claimed

pub parked-task-requires-clause-further : goal.parked-task-requires-clause-further
parked-task-requires-clause-further g c = let m = g.M.Meaning.meant c.args.board.now.key.meaning in let k = c.args.k.0 in let v = view_of c.loop.seat in
    let law = subst (λ x. IsNext (g.M.Meaning.meant x) (g.M.Played.next_of c.args.meaning.now)) c.requires.meaning (g.met.M.Played.plays c.args.meaning.now) in
    let b = loan_is m c.in-Read.j.0 c.loop.taken v c.in_ok-borrow-in-Read.field-0 Open c.borrow.new.taken (view_of c.borrow.new.seat) c.in-Open.is c.in_ok-borrow-in-Read.ensures.says in
    few_at (λ x. g.M.Meaning.meant x) _ c.args.meaning.now c.args.board.now.key.meaning c.requires.meaning (length c.loop.taken) c.len.result (ap length (sym b.3) ∙ sym c.len.ensures)
    (claimed_few m k (g.met.M.Meaning.lawful c.args.board.now.key.meaning) (g.M.Played.next_of c.args.meaning.now) law c.requires.piece c.loop.taken v c.loop.invariant.taken c.in-Read.j (sym c.in_ok-j.ensures ∙ c.in-Read.is) _ c.loop.invariant.holds b.5)

pub park-requires-clause-holds : goal.park-requires-clause-holds
park-requires-clause-holds g c = let v = view_of c.loop.seat in let w = view_of c.borrow.new.seat in
    let b = loan_is (g.M.Meaning.meant c.args.board.now.key.meaning) c.in-Read.j.0 c.loop.taken v c.in_ok-borrow-in-Read.field-0 Open c.borrow.new.taken w c.in-Open.is c.in_ok-borrow-in-Read.ensures.says in
    has_hold c.args.k.0 _ w (still_holds c.args.k.0 _ v c.loop.invariant.holds w (same_hand v w b.0 b.2))

pub park-requires-clause-reads : goal.park-requires-clause-reads
park-requires-clause-reads g c = let m = g.M.Meaning.meant c.args.board.now.key.meaning in let k = c.args.k.0 in let v = view_of c.loop.seat in let w = view_of c.borrow.new.seat in
    let b = loan_is m c.in-Read.j.0 c.loop.taken v c.in_ok-borrow-in-Read.field-0 Open c.borrow.new.taken w c.in-Open.is c.in_ok-borrow-in-Read.ensures.says in
    saw_taken m k c.borrow.new.taken (m.taken c.parked-task.result) w
    (taken_count (λ x. g.M.Meaning.meant x) c.parked-task.result c.args.meaning.now c.args.board.now.key.meaning c.requires.meaning c.len.result c.parked-task.ensures.taken ∙ c.len.ensures)
    (taken_same m k c.loop.taken c.borrow.new.taken v w b.3 (same_hand v w b.0 b.2) c.loop.invariant.taken)

pub returns-in-Open-clause-worked : goal.returns-in-Open-clause-worked
returns-in-Open-clause-worked g c = let here = c.args.board.now.key.meaning in let m = g.M.Meaning.meant here in let k = c.args.k.0 in let j = c.in-Read.j in let t = c.parked-task.result in
    let v = view_of c.loop.seat in let w = view_of c.borrow.new.seat in let z = view_of c.park.new.seat in
    let law = subst (λ x. IsNext (g.M.Meaning.meant x) (g.M.Played.next_of c.args.meaning.now)) c.requires.meaning (g.met.M.Played.plays c.args.meaning.now) in
    let b = loan_is m j.0 c.loop.taken v c.in_ok-borrow-in-Read.field-0 Open c.borrow.new.taken w c.in-Open.is c.in_ok-borrow-in-Read.ensures.says in
    let same = same_hand v w b.0 b.2 in let h = still_holds k _ v c.loop.invariant.holds w same in
    let d = (parks k w z (8 + j.0) t _ (c.park.ensures.view (hold_of k _) (its_hold k _ w h))).0 in
    let count = taken_count (λ x. g.M.Meaning.meant x) t c.args.meaning.now here c.requires.meaning c.len.result c.parked-task.ensures.taken ∙ c.len.ensures in
    let next = is_next m k (g.met.M.Meaning.lawful here) (g.M.Played.next_of c.args.meaning.now) law c.requires.piece c.loop.taken v c.loop.invariant.taken j (sym c.in_ok-j.ensures ∙ c.in-Read.is) in
    let taken = taken_same m k c.loop.taken c.borrow.new.taken v w b.3 same c.loop.invariant.taken in
    says_parked m k (view_of c.args.seat.now) v w z b.0 j.0 t _ _ _ (next.0 ∙ ap (next_read m k) (ap length (sym b.3) ∙ sym count)) c.loop.invariant.grows b.1 b.2 d
    (subst (λ x. CanPark (g.M.Meaning.meant x) k t) c.requires.meaning c.parked-task.ensures.task) (λ i l. taken.seen i (omega arith)) (lets_go k _ w h z _ _ d)

pub returns-in_err-j-clause-holds : goal.returns-in_err-j-clause-holds
returns-in_err-j-clause-holds g c = let k = c.args.k.0 in let v = view_of c.loop.seat in
    on_error (HoldsOnly k c.args.claimed v) c.from_residual.result (subst (λ (x : Option _). HoldsOnly k x v) c.loop.invariant.same c.loop.invariant.holds)

pub returns-in_err-borrow-in-Read-clause-holds : goal.returns-in_err-borrow-in-Read-clause-holds
returns-in_err-borrow-in-Read-clause-holds g c = let k = c.args.k.0 in let v = view_of c.loop.seat in let w = view_of c.borrow.new.seat in
    on_error (HoldsOnly k c.args.claimed w) c.from_residual-in_err-borrow-in-Read.result
    (subst (λ (x : Option _). HoldsOnly k x w) c.loop.invariant.same (still_holds k _ v c.loop.invariant.holds w (same_hand v w _ c.in_err-borrow-in-Read.ensures.given_back.1)))

pub loop-preserved : goal.loop-preserved
loop-preserved g c = let m = g.M.Meaning.meant c.args.board.now.key.meaning in let k = c.args.k.0 in let v = view_of c.loop.seat in let w = view_of c.borrow.new.seat in
    let b = loan_is m c.in-Read.j.0 c.loop.taken v c.in_ok-borrow-in-Read.field-0 Busy c.borrow.new.taken w c.in-Busy.is c.in_ok-borrow-in-Read.ensures.says in let same = same_hand v w b.0 b.2 in record {
      of = c.in_ok-borrow-in-Read.ensures.of;
      holds = still_holds k _ v c.loop.invariant.holds w same;
      same = c.loop.invariant.same;
      claimed = c.loop.invariant.claimed;
      grows = grows_more (view_of c.args.seat.now) v w b.0 c.loop.invariant.grows b.2.trail;
      taken = taken_same m k c.loop.taken c.borrow.new.taken v w b.3 same c.loop.invariant.taken;
    }

pub settle-requires-clause-holds : goal.settle-requires-clause-holds
settle-requires-clause-holds g c = has_hold c.args.k.0 _ (view_of c.loop.seat) c.loop.invariant.holds

pub settle-requires-clause-reads : goal.settle-requires-clause-reads
settle-requires-clause-reads g c = let m = g.M.Meaning.meant c.args.board.now.key.meaning in
    let law = subst (λ x. IsNext (g.M.Meaning.meant x) (g.M.Played.next_of c.args.meaning.now)) c.requires.meaning (g.met.M.Played.plays c.args.meaning.now) in
    saw_all m c.args.k.0 (g.met.M.Meaning.lawful c.args.board.now.key.meaning) (g.M.Played.next_of c.args.meaning.now) law c.requires.piece c.loop.taken (view_of c.loop.seat) c.loop.invariant.taken c.in-Ends.outcome (sym c.in_ok-j.ensures ∙ c.in-Ends.is)

pub returns-in-Ends-clause-worked : goal.returns-in-Ends-clause-worked
returns-in-Ends-clause-worked g c = let k = c.args.k.0 in let v = view_of c.loop.seat in let w = view_of c.settle.new.seat in let h = c.loop.invariant.holds in
    let d = (settles k v w _ (c.settle.ensures.view (hold_of k _) (its_hold k _ v h))).0 in
    says_settled (g.M.Meaning.meant c.args.board.now.key.meaning) k (view_of c.args.seat.now) v w _ _ _ c.loop.invariant.grows d (lets_go k _ v h w _ _ d)
