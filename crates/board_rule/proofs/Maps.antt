-- What `put_at`, `values`, `total` and `HasSome` give, and which hold a list has on a piece.
use Rattle.std.proofs.Common.{◌≡◌, ◌≢◌, ◌⊎◌, ℕ, zero, suc, ◌+◌, ◌<◌, ◌≤◌, List, [], ◌∷◌, ◌++◌, length, replicate, set, slice_get, slice_set, sym, refl, ap, ◌∙◌, subst, arith, Bool, true, false, cond, eq-eqb, ne_eqb, inl, inr, ⊎_elim, Some, None, if◌then◌else◌}
use mathlib.Core.Option.{some, some-injective, some-ne-none}
use mathlib.Core.Logic.{dite}
use native.Mathlib.Decide.{ℕ_discrete}
use lib.ListN.{get_elem?}
use Rattle.atomic_table.proofs.Lists.{at_longer, set_here, set_else}
use Rattle.settle_core.specs.Bound.{sum_below}
use Rattle.board_rule.specs.Maps.{is_same, IsAmong, HasSome, put_at, values, total}
use Rattle.board_rule.specs.Standing.{Standing, fresh, held, parked, settled, lent, SeatBelow}
use Rattle.board_rule.specs.Views.{hold_on, without}
use Rattle.board_rule.specs.declared.view.Hold.{Hold}

pub same_yes : (m n : ℕ) → m ≡ n → is_same m n ≡ true
unfolding is_same
same_yes m n e = eq-eqb m n e

pub same_no : (m n : ℕ) → m ≢ n → is_same m n ≡ false
unfolding is_same
same_no m n e = ne_eqb m n e

-- by whether two numbers are equal
pub by_same : {P : Type 0} (j k : ℕ) → (j ≡ k → P) → (j ≢ k → P) → P
by_same j k is not = dite (ℕ_discrete j k) is not

module _ {A : Type 0} (f : ℕ → A) (k : ℕ) (x : A) where
  pub put_here : put_at f k x k ≡ x
  unfolding put_at
  put_here = ap (λ b. if b then x else f k) (same_yes k k refl)

  pub put_else : (j : ℕ) → j ≢ k → put_at f k x j ≡ f j
  unfolding put_at
  put_else j n = ap (λ b. if b then x else f j) (same_no j k n)

  -- by cases: k itself, which has x, and each other number, which has what f gave
  pub put_all : (P : ℕ → A → Type 0) → P k x → ((j : ℕ) → j ≢ k → P j (f j)) → (j : ℕ) → P j (put_at f k x j)
  put_all P here others j = by_same j k
      (λ (e : j ≡ k). subst (λ (i : ℕ). P i (put_at f k x i)) (sym e) (subst (P k) (sym put_here) here))
      (λ (n : j ≢ k). subst (P j) (sym (put_else j n)) (others j n))

module _ {A : Type 0} where
  pub values_at : (f : ℕ → A) (n k : ℕ) → k < n → slice_get (values f n) k ≡ Some (f k)
  values_at f zero k l = absurd (omega arith)
  values_at f (suc n) zero l = refl
  values_at f (suc n) (suc k) l = values_at (λ j. f (suc j)) n k (omega arith)

  pub values_same : (f g : ℕ → A) (n : ℕ) → ((j : ℕ) → j < n → f j ≡ g j) → values f n ≡ values g n
  values_same f g zero h = refl
  values_same f g (suc n) h = λ i. h 0 (omega arith) i ∷ values_same (λ j. f (suc j)) (λ j. g (suc j)) n (λ j l. h (suc j) (omega arith)) i

  pub values_set : (f g : ℕ → A) (n k : ℕ) → k < n → ((j : ℕ) → j < n → j ≢ k → g j ≡ f j) → slice_set (values f n) k (g k) ≡ values g n
  values_set f g zero k l h = absurd (omega arith)
  values_set f g (suc n) zero l h = ap (λ xs. g 0 ∷ xs) (values_same (λ j. f (suc j)) (λ j. g (suc j)) n (λ j b. sym (h (suc j) (omega arith) (λ e. omega arith))))
  values_set f g (suc n) (suc k) l h = λ i. sym (h 0 (omega arith) (λ e. omega arith)) i ∷ values_set (λ j. f (suc j)) (λ j. g (suc j)) n k (omega arith) (λ j b d. h (suc j) (omega arith) (λ e. d (omega arith))) i

  pub values_all : (x : A) (n : ℕ) → values (λ _. x) n ≡ replicate n x
  values_all x zero = refl
  values_all x (suc n) = ap (λ xs. x ∷ xs) (values_all x n)

  pub at_length : (l : List A) (i : ℕ) (a : A) → get_elem? l i ≡ some a → i < length l
  at_length [] i a e = absurd (some-ne-none a (sym e))
  at_length (x ∷ xs) zero a e = omega arith
  at_length (x ∷ xs) (suc i) a e = let h = at_length xs i a e in omega arith

  pub elem_below : (l : List A) (i : ℕ) → i < length l → (a : A) × (get_elem? l i ≡ some a)
  elem_below [] i h = absurd (omega arith)
  elem_below (x ∷ xs) zero h = (x, refl)
  elem_below (x ∷ xs) (suc i) h = elem_below xs i (omega arith)

  -- an element of a list with one more is one of the list, or the last one
  pub at_end : (l : List A) (a b : A) (j : ℕ) → get_elem? (l ++ a ∷ []) j ≡ some b → (get_elem? l j ≡ some b) ⊎ ((j ≡ length l) × (a ≡ b))
  at_end [] a b zero e = inr (refl, some-injective a b e)
  at_end [] a b (suc j) e = absurd (some-ne-none b (sym e))
  at_end (x ∷ xs) a b zero e = inl e
  at_end (x ∷ xs) a b (suc j) e = ⊎_elim (λ t. inl t) (λ t. inr (ap suc t.0, t.1)) (at_end xs a b j e)

  -- some element has it still where another one takes the place of v, which has it where v does
  pub some_kept : (P : A → Type 0) (l : List A) (i : ℕ) (v w : A) → get_elem? l i ≡ some v → (P v → P w) → HasSome P l → HasSome P (set l i w)
  some_kept P l i v w at keeps h = by_same h.0 i
      (λ (e : h.0 ≡ i). (i, w, set_here l i w (at_length l i v at), keeps (subst P (some-injective h.1 v (sym h.2 ∙ (ap (get_elem? l) e ∙ at))) h.3)))
      (λ (n : h.0 ≢ i). (h.0, h.1, set_else l i h.0 w n ∙ h.2, h.3))

  pub some_longer : (P : A → Type 0) (l m : List A) → HasSome P l → HasSome P (l ++ m)
  some_longer P l m h = (h.0, h.1, at_longer l m h.0 h.1 h.2, h.3)

  -- one that has it where u or v does takes the place of v, and one that need not have it that of u
  pub some_joined : (P : A → Type 0) (l : List A) (i j : ℕ) (v u w g : A) → j ≢ i → get_elem? l i ≡ some v → get_elem? l j ≡ some u → (P v → P w) → (P u → P w) → HasSome P l → HasSome P (set (set l i w) j g)
  some_joined P l i j v u w g apart at other keeps takes h = by_same h.0 j
      (λ (e : h.0 ≡ j). here (takes (subst P (some-injective h.1 u (sym h.2 ∙ (ap (get_elem? l) e ∙ other))) h.3)))
      (λ (n : h.0 ≢ j). by_same h.0 i
      (λ (e : h.0 ≡ i). here (keeps (subst P (some-injective h.1 v (sym h.2 ∙ (ap (get_elem? l) e ∙ at))) h.3)))
      (λ (d : h.0 ≢ i). (h.0, h.1, set_else (set l i w) j h.0 g n ∙ (set_else l i h.0 w d ∙ h.2), h.3)))
    where
      here : P w → HasSome P (set (set l i w) j g)
      here p = (i, w, set_else (set l i w) j i g (λ e. apart (sym e)) ∙ set_here l i w (at_length l i v at), p)

module _ {A : Type 0} (f : A → ℕ) where
  pub total_set : (l : List A) (i : ℕ) (v w : A) → get_elem? l i ≡ some v → total f (set l i w) + f v ≡ total f l + f w
  total_set [] i v w e = absurd (some-ne-none v (sym e))
  total_set (x ∷ xs) zero v w e = let q : f x ≡ f v = ap f (some-injective x v e) in omega arith
  total_set (x ∷ xs) (suc i) v w e = let q = total_set xs i v w e in omega arith

  pub total_push : (l : List A) (w : A) → total f (l ++ w ∷ []) ≡ total f l + f w
  total_push [] w = omega arith
  total_push (x ∷ xs) w = let q = total_push xs w in omega arith

  pub at_most : (l : List A) (i : ℕ) (v : A) → get_elem? l i ≡ some v → f v ≤ total f l
  at_most [] i v e = absurd (some-ne-none v (sym e))
  at_most (x ∷ xs) zero v e = let q : f x ≡ f v = ap f (some-injective x v e) in omega arith
  at_most (x ∷ xs) (suc i) v e = let q = at_most xs i v e in omega arith

  -- where one has the total, no other has any
  pub others_none : (l : List A) (i j : ℕ) (v u : A) → get_elem? l i ≡ some v → total f l ≡ f v → j ≢ i → get_elem? l j ≡ some u → f u ≡ 0
  others_none [] i j v u e t n g = absurd (some-ne-none v (sym e))
  others_none (x ∷ xs) zero zero v u e t n g = absurd (n refl)
  others_none (x ∷ xs) zero (suc j) v u e t n g = let q : f x ≡ f v = ap f (some-injective x v e) in let a = at_most xs j u g in omega arith
  others_none (x ∷ xs) (suc i) zero v u e t n g = let q : f x ≡ f u = ap f (some-injective x u g) in let a = at_most xs i v e in omega arith
  others_none (x ∷ xs) (suc i) (suc j) v u e t n g = let a = at_most xs i v e in others_none xs i j v u e (omega arith) (λ q. n (ap suc q)) g

  all_none : (l : List A) → ((j : ℕ) (u : A) → get_elem? l j ≡ some u → f u ≡ 0) → total f l ≡ 0
  all_none [] h = refl
  all_none (x ∷ xs) h = let a = h 0 x refl in let b = all_none xs (λ j u e. h (suc j) u e) in omega arith

  pub only_one : (l : List A) (i : ℕ) (v : A) → get_elem? l i ≡ some v → ((j : ℕ) (u : A) → j ≢ i → get_elem? l j ≡ some u → f u ≡ 0) → total f l ≡ f v
  only_one [] i v e h = absurd (some-ne-none v (sym e))
  only_one (x ∷ xs) zero v e h = let q : f x ≡ f v = ap f (some-injective x v e) in let b = all_none xs (λ j u g. h (suc j) u (λ z. omega arith) g) in omega arith
  only_one (x ∷ xs) (suc i) v e h = let a = h 0 x (λ z. omega arith) refl in let b = only_one xs i v e (λ j u n g. h (suc j) u (λ z. n (omega arith)) g) in omega arith

pub sums_equal : (f g : ℕ → ℕ) (n : ℕ) → ((j : ℕ) → j < n → f j ≡ g j) → sum_below f n ≡ sum_below g n
sums_equal f g zero h = refl
sums_equal f g (suc n) h = let a = h n (omega arith) in let b = sums_equal f g n (λ j l. h j (omega arith)) in omega arith

pub sums_within : (f g : ℕ → ℕ) (n : ℕ) → ((j : ℕ) → j < n → f j ≤ g j) → sum_below f n ≤ sum_below g n
sums_within f g zero h = omega arith
sums_within f g (suc n) h = let a = h n (omega arith) in let b = sums_within f g n (λ j l. h j (omega arith)) in omega arith

pub sum_of_none : (n : ℕ) → sum_below (λ _. 0) n ≡ 0
sum_of_none zero = refl
sum_of_none (suc n) = let h = sum_of_none n in omega arith

-- the sum after f got x at k: what k had goes out, what it has now comes in
pub sum_put : {A : Type 0} (w : ℕ → A → ℕ) (f : ℕ → A) (k : ℕ) (x : A) (n : ℕ) → k < n → sum_below (λ j. w j (put_at f k x j)) n + w k (f k) ≡ sum_below (λ j. w j (f j)) n + w k x
sum_put w f k x zero l = absurd (omega arith)
sum_put w f k x (suc n) l = by_same k n
    (λ (e : k ≡ n). let a : w n (put_at f k x n) ≡ w k x = subst (λ (z : ℕ). w z (put_at f k x z) ≡ w k x) e (ap (w k) (put_here f k x)) in
    let b : w n (f n) ≡ w k (f k) = ap (λ (z : ℕ). w z (f z)) (sym e) in
    let c = sums_equal (λ j. w j (put_at f k x j)) (λ j. w j (f j)) n (λ j h. ap (w j) (put_else f k x j (λ q. omega arith))) in omega arith)
    (λ (d : k ≢ n). let a : w n (put_at f k x n) ≡ w n (f n) = ap (w n) (put_else f k x n (λ q. d (sym q))) in let c = sum_put w f k x n (omega arith) in omega arith)

module _ {T : Type 0} (h : Hold T) (hs : List (Hold T)) (j : ℕ) where
  pub hold_here : h.piece ≡ j → hold_on j (h ∷ hs) ≡ Some h
  hold_here e = ap (λ b. if b then Some h else hold_on j hs) (same_yes h.piece j e)

  pub hold_else : h.piece ≢ j → hold_on j (h ∷ hs) ≡ hold_on j hs
  hold_else n = ap (λ b. if b then Some h else hold_on j hs) (same_no h.piece j n)

pub hold_gone : {T : Type 0} (k : ℕ) (hs : List (Hold T)) → hold_on k (without k hs) ≡ None
hold_gone k [] = refl
hold_gone k (h ∷ hs) = by_same h.piece k
    (λ (e : h.piece ≡ k). subst (λ (b : Bool). hold_on k (if b then without k hs else h ∷ without k hs) ≡ None) (sym (same_yes h.piece k e)) (hold_gone k hs))
    (λ (n : h.piece ≢ k). subst (λ (b : Bool). hold_on k (if b then without k hs else h ∷ without k hs) ≡ None) (sym (same_no h.piece k n)) (hold_else h (without k hs) k n ∙ hold_gone k hs))

pub hold_kept : {T : Type 0} (k j : ℕ) (hs : List (Hold T)) → j ≢ k → hold_on j (without k hs) ≡ hold_on j hs
hold_kept k j [] n = refl
hold_kept k j (h ∷ hs) n = by_same h.piece k
    (λ (e : h.piece ≡ k). subst (λ (b : Bool). hold_on j (if b then without k hs else h ∷ without k hs) ≡ hold_on j (h ∷ hs)) (sym (same_yes h.piece k e)) (hold_kept k j hs n ∙ sym (hold_else h hs j (λ q. n (sym q ∙ e)))))
    (λ (d : h.piece ≢ k). subst (λ (b : Bool). hold_on j (if b then without k hs else h ∷ without k hs) ≡ hold_on j (h ∷ hs)) (sym (same_no h.piece k d)) (ap (cond (is_same h.piece j) (Some h)) (hold_kept k j hs n)))

pub seat_grows : {T : Type 0} (p : Standing T) (n n' : ℕ) → n ≤ n' → SeatBelow n p → SeatBelow n' p
seat_grows fresh n n' l h = tt
seat_grows (held i g b) n n' l h = omega arith
seat_grows (parked t) n n' l h = tt
seat_grows settled n n' l h = tt
seat_grows (lent i b) n n' l h = omega arith

pub among_either : (k : ℕ) (a b : List ℕ) → IsAmong k (a ++ b) → IsAmong k a ⊎ IsAmong k b
among_either k [] b h = inr h
among_either k (x ∷ xs) b (inl e) = inl (inl e)
among_either k (x ∷ xs) b (inr h) = ⊎_elim (λ t. inl (inr t)) (λ t. inr t) (among_either k xs b h)

pub among_left : (k : ℕ) (a b : List ℕ) → IsAmong k a → IsAmong k (a ++ b)
among_left k [] b h = absurd h
among_left k (x ∷ xs) b (inl e) = inl e
among_left k (x ∷ xs) b (inr h) = inr (among_left k xs b h)

pub among_right : (k : ℕ) (a b : List ℕ) → IsAmong k b → IsAmong k (a ++ b)
among_right k [] b h = h
among_right k (x ∷ xs) b h = inr (among_right k xs b h)
