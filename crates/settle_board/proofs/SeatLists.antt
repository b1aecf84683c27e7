-- Lists of seats, for callers: seats that are taken out of a list and given back to it.
use Rattle.std.proofs.Common.{◌≡◌, ℕ, zero, suc, ◌+◌, List, [], ◌∷◌, ◌++◌, length, Bool, true, false, ◌&&◌, refl, sym, ap, ◌∙◌, subst, ⊎_elim, Option, Some, None, length-append}
use mathlib.Core.Option.{some, some-ne-none, some-injective}
use lib.ListN.{get_elem?}
use Rattle.atomic_table.proofs.Lists.{at_longer, at_last, at_snoc}
use Rattle.settle_core.specs.Meant.{Meant}
use Rattle.board_rule.specs.declared.view.Hold.{Hold}
use Rattle.board_rule.specs.declared.view.View.{View}
use Rattle.settle_board.specs.Boards.{IsIdle, none_held, none_lent, is_idle, are_idle, view_of, IsOfBy}
use Rattle.settle_board.specs.Seating.{blank, AreNew, AreBack}
use Rattle.settle_board.specs.declared.board.Board.{Board}
use Rattle.settle_board.specs.declared.board.BoardSeat.{BoardSeat}

module _ {X T O : Type 0} (meant : X → Meant T O) (b : Board X T O) (seats seats' : List (BoardSeat X T O)) (s : BoardSeat X T O) (e : seats ≡ seats' ++ s ∷ []) where
  pub taken_new : AreNew meant b seats → IsOfBy meant b s × (view_of s ≡ blank b.key 1)
  taken_new all = all (length seats') s (ap (λ l. get_elem? l (length seats')) e ∙ at_last seats' s (length seats') refl)

  pub left_new : AreNew meant b seats → AreNew meant b seats'
  left_new all i t g = all i t (ap (λ l. get_elem? l i) e ∙ at_longer seats' (s ∷ []) i t g)

  pub given_back : AreBack meant b seats' → IsOfBy meant b s × IsIdle (view_of s) → AreBack meant b seats
  given_back all here i t g = ⊎_elim (all i t) (λ (q : s ≡ t). subst (λ (y : BoardSeat X T O). IsOfBy meant b y × IsIdle (view_of y)) q here) (at_snoc seats' s t i (ap (λ l. get_elem? l i) (sym e) ∙ g))

  pub one_longer : length seats ≡ length seats' + 1
  one_longer = ap length e ∙ length-append seats' (s ∷ [])

-- two that are true
both_true : (a b : Bool) → (a && b) ≡ true → (a ≡ true) × (b ≡ true)
both_true true b e = (refl, e)
both_true false b e = absurd cc

and_true : (a b : Bool) → a ≡ true → b ≡ true → (a && b) ≡ true
and_true a b p q = λ i. p i && q i

none_held_is : {T : Type 0} (hs : List (Hold T)) → none_held hs ≡ true → hs ≡ []
none_held_is [] q = refl
none_held_is (h ∷ hs) q = absurd cc

none_lent_is : (o : Option ℕ) → none_lent o ≡ true → o ≡ None
none_lent_is None q = refl
none_lent_is (Some j) q = absurd cc

module _ {X T : Type 0} where
  idle_is : (v : View X T) → is_idle v ≡ true → IsIdle v
  idle_is v e = let h = both_true (none_held v.held) (none_lent v.lent) e in (none_held_is v.held h.0, none_lent_is v.lent h.1)

  is_idle_so : (v : View X T) → IsIdle v → is_idle v ≡ true
  is_idle_so v h = λ i. none_held (h.0 i) && none_lent (h.1 i)

-- idle seats
module _ {X T O : Type 0} where
  pub each_idle : (seats : List (BoardSeat X T O)) → are_idle seats ≡ true → (i : ℕ) (s : BoardSeat X T O) → get_elem? seats i ≡ some s → IsIdle (view_of s)
  each_idle [] e i s g = absurd (some-ne-none s (sym g))
  each_idle (x ∷ xs) e zero s g = subst (λ (y : BoardSeat X T O). IsIdle (view_of y)) (some-injective x s g) (idle_is (view_of x) (both_true (is_idle (view_of x)) (are_idle xs) e).0)
  each_idle (x ∷ xs) e (suc i) s g = each_idle xs (both_true (is_idle (view_of x)) (are_idle xs) e).1 i s g

  pub all_idle : (seats : List (BoardSeat X T O)) → ((i : ℕ) (s : BoardSeat X T O) → get_elem? seats i ≡ some s → IsIdle (view_of s)) → are_idle seats ≡ true
  all_idle [] all = refl
  all_idle (x ∷ xs) all = and_true (is_idle (view_of x)) (are_idle xs) (is_idle_so (view_of x) (all 0 x refl)) (all_idle xs (λ i s e. all (suc i) s e))

  all_but_last : (seats : List (BoardSeat X T O)) (s : BoardSeat X T O) → are_idle (seats ++ s ∷ []) ≡ true → (are_idle seats ≡ true) × IsIdle (view_of s)
  all_but_last [] s e = (refl, idle_is (view_of s) (both_true (is_idle (view_of s)) true e).0)
  all_but_last (x ∷ xs) s e = let h = both_true (is_idle (view_of x)) (are_idle (xs ++ s ∷ [])) e in let r = all_but_last xs s h.1 in (and_true (is_idle (view_of x)) (are_idle xs) h.0 r.0, r.1)

  one_more : (seats : List (BoardSeat X T O)) (s : BoardSeat X T O) → are_idle seats ≡ true → IsIdle (view_of s) → are_idle (seats ++ s ∷ []) ≡ true
  one_more [] s e h = and_true (is_idle (view_of s)) true (is_idle_so (view_of s) h) refl
  one_more (x ∷ xs) s e h = let p = both_true (is_idle (view_of x)) (are_idle xs) e in and_true (is_idle (view_of x)) (are_idle (xs ++ s ∷ [])) p.0 (one_more xs s p.1 h)

  module _ (seats seats' : List (BoardSeat X T O)) (s : BoardSeat X T O) (e : seats ≡ seats' ++ s ∷ []) where
    pub idle_less : are_idle seats ≡ true → are_idle seats' ≡ true
    idle_less all = (all_but_last seats' s (ap are_idle (sym e) ∙ all)).0

    pub idle_last : are_idle seats ≡ true → IsIdle (view_of s)
    idle_last all = (all_but_last seats' s (ap are_idle (sym e) ∙ all)).1

    pub idle_more : are_idle seats' ≡ true → IsIdle (view_of s) → are_idle seats ≡ true
    idle_more all here = ap are_idle e ∙ one_more seats' s all here
