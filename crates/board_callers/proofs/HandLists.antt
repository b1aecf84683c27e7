-- Lists of hands, one more and one less.
use Rattle.std.proofs.Common.{◌≡◌, ℕ, zero, suc, ◌<◌, List, [], ◌∷◌, ◌++◌, length, get_or, refl, sym, ap, ◌∙◌, subst, arith, ⊎_elim}
use mathlib.Core.Option.{some, some-ne-none, some-injective}
use lib.ListN.{get_elem?, take, drop}
use Rattle.std.proofs.Common.{Vec}
use Rattle.std.proofs.lemmas.List.{with_items_is}
use Rattle.atomic_table.proofs.Lists.{at_longer, at_last, at_snoc}

module _ {A : Type 0} (P : A → Type 0) where
  abbrev pub Each : List A → Type 0
  Each l = (i : ℕ) (x : A) → get_elem? l i ≡ some x → P x

  pub none_yet : Each []
  none_yet i x e = absurd (some-ne-none x (sym e))

  module _ (xs xs' : List A) (x : A) (e : xs ≡ xs' ++ x ∷ []) where
    pub one_more : Each xs' → P x → Each xs
    one_more all here i y g = ⊎_elim (all i y) (λ (q : x ≡ y). subst P q here) (at_snoc xs' x y i (ap (λ l. get_elem? l i) (sym e) ∙ g))

    pub the_last : Each xs → P x
    the_last all = all (length xs') x (ap (λ l. get_elem? l (length xs')) e ∙ at_last xs' x (length xs') refl)

    pub the_rest : Each xs → Each xs'
    the_rest all i y g = all i y (ap (λ l. get_elem? l i) e ∙ at_longer xs' (x ∷ []) i y g)

  -- an element that stands at a place of the list
  elem_at : (l : List A) (i : ℕ) (x : A) → i < length l → x ≡ get_or l i x → get_elem? l i ≡ some x
  elem_at [] i x l e = absurd (omega arith)
  elem_at (y ∷ ys) zero x l e = ap some (sym e)
  elem_at (y ∷ ys) (suc i) x l e = elem_at ys i x (omega arith) e

  pub each_at : (l : List A) → Each l → (i : ℕ) (x : A) → i < length l → x ≡ get_or l i x → P x
  each_at l all i x inside e = all i x (elem_at l i x inside e)

  place : (l : List A) (i : ℕ) (x : A) → get_elem? l i ≡ some x → (i < length l) × (get_or l i x ≡ x)
  place [] i x e = absurd (some-ne-none x (sym e))
  place (y ∷ ys) zero x e = (omega arith, some-injective y x e)
  place (y ∷ ys) (suc i) x e = let h = place ys i x e in ((let q = h.0 in omega arith), h.1)

  -- what holds at each place holds of each element
  pub by_places : (l : List A) (n : ℕ) → length l ≡ n → ((i : ℕ) (d : A) → i < n → P (get_or l i d)) → Each l
  by_places l n e h i x at = let p = place l i x at in subst P p.1 (h i x (let q = p.0 in omega arith))

  -- what holds of the items that were written back over a list
  pub written_back : {Z : Type 0} (v : Vec A Z) (ws : List A) → length ws ≡ v.len → Each ws → Each (take v.len (ws ++ drop (length ws) v.items))
  written_back v ws n all = subst Each (sym (with_items_is v ws n)) all
