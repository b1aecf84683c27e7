use Rattle.std.proofs.Common.{◌≡◌, ◌+◌, ◌-◌, ◌<◌, arith, sym, ap, ◌∙◌, subst, inl, inr, ⊎_elim, false}
use Rattle.board_rule.specs.Maps.{IsAmong}
use Rattle.board_rule.specs.Views.{hold_on, after_look}
use Rattle.board_rule.specs.declared.view.Entry.TheVariants.{Looks, ClaimsParked}
use Rattle.board_rule.proofs.Standings.{saw_before, saw_it}
use Rattle.settle_board.specs.Boards.{view_of}
use Rattle.settle_board.proofs.Callers.{knows_stays}
use Rattle.settle_board.proofs.board.Board.claim.Goals as goal

pub resume-requires-clause-seen : goal.resume-requires-clause-seen
resume-requires-clause-seen g c = let on = c.look-word.result - 8 in
    subst (λ v. IsAmong on v) (sym (ap (λ v. v.seen) c.look-found.ensures.view)) (saw_it on c.look-found.result (view_of c.look-word.new.seat).seen (⊎_elim (λ t. inr t.1) (λ t. inl t) c.else-found-ne3.either))

pub returns-in-Err-clause-answer : goal.returns-in-Err-clause-answer
returns-in-Err-clause-answer g c = let on = c.look-word.result - 8 in let a = c.look-word.ensures in let b = c.look-found.ensures in let d = c.in-Err.ensures in
    let is : c.look-word.result ≡ 8 + on = (let h = c.if-word-lt8.false in omega arith) in (
      d.answer.1,
      inr (inr (
        on,
        c.look-found.result,
        d.answer.2 ∙ ap (after_look (ClaimsParked c.args.k.0 c.in-Err.other false) c.args.k.0 c.in-Err.other)
            (b.view ∙ ap (after_look (Looks on c.look-found.result) on c.look-found.result) (a.view ∙ ap (λ r. after_look (Looks c.args.k.0 r) c.args.k.0 r (view_of c.args.seat.now)) is)),
        ⊎_elim (λ t. inr t.1) (λ t. inl t) c.else-found-ne3.either,
        λ e. d.answer.0 (e ∙ (let h = c.if-word-lt8.false in omega arith)),
      )),
    )

pub returns-then-found-ne4-clause-answer : goal.returns-then-found-ne4-clause-answer
returns-then-found-ne4-clause-answer g c = let on = c.look-word.result - 8 in let a = c.look-word.ensures in let b = c.look-found.ensures in
    let is : c.look-word.result ≡ 8 + on = (let h = c.if-word-lt8.false in omega arith) in
    let below : on < c.args.k.0 = (let h = a.word.1 (let q = c.if-word-lt8.false in omega arith) in let q = c.if-word-lt8.false in omega arith) in (
      b.view ∙ ap (after_look (Looks on c.look-found.result) on c.look-found.result) (a.view ∙ ap (λ r. after_look (Looks c.args.k.0 r) c.args.k.0 r (view_of c.args.seat.now)) is),
      below,
      c.if-found-ne3.true,
      c.if-found-ne4.true,
      b.word,
      λ h. ⊎_elim c.if-found-ne3.true c.if-found-ne4.true (b.known (knows_stays (g.M.Meaning.meant c.args.self.now.key.meaning) (view_of c.args.seat.now) (view_of c.look-word.new.seat)
          (λ j s. subst (IsAmong j) (sym (ap (λ v. v.seen) a.view)) (saw_before c.args.k.0 c.look-word.result (view_of c.args.seat.now).seen j s))
          (λ p x e. ap (λ v. hold_on p v.held) a.view ∙ e) on h)),
    )
