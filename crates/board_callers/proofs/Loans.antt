-- A loan that was tried, and what the hand knows then.
use Rattle.std.proofs.Common.{◌≡◌, ℕ, ◌<◌, ◌≤◌, List, [], ◌∷◌, ◌++◌, refl, ap, ◌∙◌, subst, arith, ⊎_elim, true, false, Option, None, Some, append_assoc}
use Rattle.settle_core.specs.Meant.{Meant}
use Rattle.board_rule.specs.Maps.{IsAmong}
use Rattle.board_rule.specs.Views.{Knows, last_unsettled, after_give_back}
use Rattle.board_rule.specs.declared.view.View.{View}
use Rattle.board_rule.specs.declared.view.Entry.{Entry}
use Rattle.board_rule.specs.declared.view.Entry.TheVariants.{Lends, GivesBack}
use Rattle.settle_board.specs.Answers.{LendSays}
use Rattle.settle_board.specs.declared.answers.Lend.TheVariants.{Got, NotSettled, Busy}
use Rattle.settle_board.specs.Changes.{Becomes}
use Rattle.settle_board.proofs.Callers.{lend_gets, lend_open, lend_busy, gives}
use Rattle.piece_search.specs.TurnParts.{SeesUnsettled, LendsBusy}
use Rattle.piece_search.proofs.TurnParts.{within_itself}
use Rattle.board_callers.specs.Holding.{IsBorrowed, BorrowSays}
use Rattle.board_callers.specs.declared.borrowing.Loan.{Loan}

module _ {X T O : Type 0} (m : Meant T O) (j : ℕ) (v w : View X T) where
  -- it was lent and given back
  pub borrow_took : (u : View X T) (o : O) → LendSays m j v (Got o) u → w ≡ after_give_back j u → IsBorrowed j v w × IsAmong j w.seen
  borrow_took u o says is = let a = lend_gets m j v u o says in let x = a.0 in let b = gives j u w is in let y = b.0 in (
    record {
      same = (y.same.0 ∙ x.same.0, y.same.1 ∙ x.same.1, y.same.2 ∙ x.same.2);
      knows = ((λ i h. y.knows.0 i (x.knows.0 i h)), (λ i h. y.knows.1 i (x.knows.1 i h)), (λ e. y.knows.2 (x.knows.2 e)));
      holds = y.holds ∙ x.holds;
      loan = y.loan;
      spent = (let p = x.spent in let q = y.spent in omega arith);
      trail = y.trail ∙ (ap (λ t. t ++ GivesBack j ∷ []) x.trail ∙ append_assoc v.trail (Lends j 3 true ∷ []) (GivesBack j ∷ []));
    },
    y.knows.1 j a.1,
  )

  module _ (none_lent : v.lent ≡ None) where
    unlent : (part : List (Entry T)) → Becomes v.held v.lent 0 part v w → Becomes v.held None 0 part v w
    unlent part b = subst (λ (l : Option ℕ). Becomes v.held l 0 part v w) none_lent b

    pub borrow_open : (r : ℕ) → LendSays m j v (NotSettled r) w
        → (part : List (Entry T)) × SeesUnsettled j part × Becomes v.held None 0 part v w × ((k : ℕ) → last_unsettled k w.trail ≡ Some j) × ¬ Knows m j v
    borrow_open r says = let a = lend_open m j v w r says in (
      Lends j r false ∷ [],
      (
        r,
        (λ e. ⊎_elim (λ (l : r < 3). omega arith) (λ (l : 8 ≤ r). omega arith) says.1),
        (λ e. ⊎_elim (λ (l : r < 3). omega arith) (λ (l : 8 ≤ r). omega arith) says.1),
        (Lends j r false, refl, within_itself (Lends j r false ∷ [])),
      ),
      unlent (Lends j r false ∷ []) a.0,
      a.1,
      a.2,
    )

    pub borrow_busy : (r : ℕ) → LendSays m j v (Busy r) w → (part : List (Entry T)) × LendsBusy j part × Becomes v.held None 0 part v w
    borrow_busy r says = let a = lend_busy m j v w r says in (Lends j 4 false ∷ [], within_itself (Lends j 4 false ∷ []), unlent (Lends j 4 false ∷ []) a.0)

-- what a loan with this answer says
pub loan_is : {X T O : Type 0} (m : Meant T O) (j : ℕ) (old : List (ℕ × O)) (v : View X T) (b a : Loan) (new : List (ℕ × O)) (w : View X T) → b ≡ a → BorrowSays m j old v b new w → BorrowSays m j old v a new w
loan_is m j old v b a new w is says = subst (λ (z : Loan). BorrowSays m j old v z new w) is says
