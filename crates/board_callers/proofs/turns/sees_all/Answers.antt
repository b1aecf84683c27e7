use Rattle.std.proofs.Common.{◌≡◌, ◌≢◌, ℕ, sym, subst, arith, ⊎_elim, inl, inr}
use Rattle.board_rule.specs.Maps.{IsAmong}
use Rattle.board_rule.specs.declared.view.Entry.TheVariants.{Looks}
use Rattle.board_rule.proofs.Maps.{by_same}
use Rattle.settle_board.specs.Boards.{view_of}
use Rattle.settle_board.proofs.Callers.{looks, sees_settled}
use Rattle.settle_board.specs.Changes.{IsSettledWord}
use Rattle.board_callers.proofs.Looked.{looked_none, looked_more, looks_open, looks_all}
use Rattle.board_callers.proofs.PieceWork.{still_idle}
use Rattle.board_callers.proofs.turns.sees_all.Goals as goal

pub loop-k-preserved : goal.loop-k-preserved
loop-k-preserved g c = let k = c.loop-k.k in let r = c.look-word.result in let v = view_of c.loop-k.seat in let w = view_of c.look-word.new.seat in let is = c.look-word.ensures.view in
    let b = looks (Looks k r) k r v w is in let settled : IsSettledWord r = ⊎_elim (λ t. inr t.1) (λ t. inl t) c.else-word-ne3.either in record {
      of = c.look-word.ensures.of;
      idle = still_idle v w _ c.loop-k.invariant.idle b;
      looked = looked_more k r (view_of c.args.seat.now) v w c.loop-k.invariant.looked b.trail settled;
      seen = λ j l. by_same j k (λ (e : j ≡ k). subst (λ (z : ℕ). IsAmong z w.seen) (sym e) (sees_settled (Looks k r) k r v w is (⊎_elim (λ t. inr t.1) (λ t. inl t) c.else-word-ne3.either)))
          (λ (n : j ≢ k). b.knows.1 j (c.loop-k.invariant.seen j (omega arith)));
    }

pub loop-k-init : goal.loop-k-init
loop-k-init g c = record { of = c.requires.of; idle = c.requires.idle; looked = looked_none (view_of c.args.seat.now); seen = λ j l. absurd (omega arith) }

pub returns-then-word-ne4-clause-looks : goal.returns-then-word-ne4-clause-looks
returns-then-word-ne4-clause-looks g c = let k = c.loop-k.k in let r = c.look-word.result in let v = view_of c.loop-k.seat in let w = view_of c.look-word.new.seat in
    looks_open k r (view_of c.args.seat.now) v w c.loop-k.invariant.looked (looks (Looks k r) k r v w c.look-word.ensures.view).trail c.args.pieces c.loop-k-test.true c.if-word-ne3.true c.if-word-ne4.true

pub returns-clause-looks : goal.returns-clause-looks
returns-clause-looks g c = looks_all c.args.pieces c.loop-k.k (view_of c.args.seat.now) (view_of c.loop-k.seat) (omega arith) c.loop-k.invariant.looked
