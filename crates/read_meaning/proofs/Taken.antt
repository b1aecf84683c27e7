-- What was taken, as facts.
use Rattle.std.proofs.Common.{◌≡◌, ◌≢◌, ◌⊎◌, inl, inr, ℕ, zero, suc, ◌<◌, ◌≤◌, List, [], ◌∷◌, ◌++◌, map, take, length, get_or, slice_get, Bool, true, false, eqb, if◌then◌else◌, ◌==◌, ◌||◌, Some, None, Option, refl, sym, ap, ◌∙◌, subst, arith}
use Rattle.std.specs.List.{IsDistinct, AllByRecursion, list_any}
use Rattle.std.proofs.lemmas.Bool.{eq-eqb, eqb-true}
use Rattle.settle_core.specs.Next.{taken_outcome}
use Rattle.settle_core.proofs.Options.{some_injective}
use Rattle.read_trees.specs.Walks.{Agrees}
use Rattle.read_meaning.specs.Standing.{numbers}

pub slice_is : {A : Type 0} (xs : List A) (j : ℕ) (d : A) → j < length xs → slice_get xs j ≡ Some (get_or xs j d)
slice_is [] j d l = absurd (omega arith)
slice_is (x ∷ xs) zero d l = refl
slice_is (x ∷ xs) (suc j) d l = slice_is xs j d (omega arith)

all_push : {A : Type 0} (P : A → Type 0) (xs : List A) (y : A) → AllByRecursion P xs → P y → AllByRecursion P (xs ++ y ∷ [])
all_push P [] y h p = (p, tt)
all_push P (x ∷ xs) y h p = (h.0, all_push P xs y h.1 p)

module _ {O : Type 0} where
  -- what was known stays
  pub taken_stays : (ts us : List (ℕ × O)) → Agrees (taken_outcome ts) (taken_outcome (ts ++ us))
  taken_stays [] us j o e = absurd (let c : ⊥ = cc in c)
  taken_stays (t ∷ ts) us j o e = by_eq (t.0 == j) (taken_stays ts us j o) e
    where
      by_eq : (b : Bool) → (taken_outcome ts j ≡ Some o → taken_outcome (ts ++ us) j ≡ Some o) → (if b then Some t.1 else taken_outcome ts j) ≡ Some o → (if b then Some t.1 else taken_outcome (ts ++ us) j) ≡ Some o
      by_eq true h e = e
      by_eq false h e = h e

  -- what is known with one more was known before, or is that one
  pub taken_before : (ts : List (ℕ × O)) (j : ℕ) (o : O) (i : ℕ) (x : O) → taken_outcome (ts ++ (j, o) ∷ []) i ≡ Some x → (taken_outcome ts i ≡ Some x) ⊎ ((j ≡ i) × (o ≡ x))
  taken_before [] j o i x e = by_eq (j == i) refl e
    where
      by_eq : (b : Bool) → (j == i) ≡ b → (if b then Some o else None) ≡ Some x → (None ≡ Some x) ⊎ ((j ≡ i) × (o ≡ x))
      by_eq true q e = inr (eqb-true j i q, some_injective o x e)
      by_eq false q e = inl e
  taken_before (t ∷ ts) j o i x e = by_eq (t.0 == i) e (taken_before ts j o i x)
    where
      by_eq : (b : Bool) → (if b then Some t.1 else taken_outcome (ts ++ (j, o) ∷ []) i) ≡ Some x → (taken_outcome (ts ++ (j, o) ∷ []) i ≡ Some x → (taken_outcome ts i ≡ Some x) ⊎ ((j ≡ i) × (o ≡ x)))
          → ((if b then Some t.1 else taken_outcome ts i) ≡ Some x) ⊎ ((j ≡ i) × (o ≡ x))
      by_eq true e h = inl e
      by_eq false e h = h e

  -- a number among those that were taken has an outcome
  pub has_outcome : (ts : List (ℕ × O)) (j : ℕ) → list_any (eqb j) (numbers ts) ≡ true → (o : O) × (taken_outcome ts j ≡ Some o)
  has_outcome [] j e = absurd (let c : ⊥ = cc in c)
  has_outcome (t ∷ ts) j e = by_eq (t.0 == j) refl (has_outcome ts j)
    where
      other : (b : Bool) → (t.0 == j) ≡ false → eqb j t.0 ≡ b → (b || list_any (eqb j) (numbers ts)) ≡ true → list_any (eqb j) (numbers ts) ≡ true
      other true q p h = absurd (let r : j ≡ t.0 = eqb-true j t.0 p in let z : true ≡ false = sym (eq-eqb t.0 j (sym r)) ∙ q in let c : ⊥ = cc in c)
      other false q p h = h

      by_eq : (b : Bool) → (t.0 == j) ≡ b → (list_any (eqb j) (numbers ts) ≡ true → (o : O) × (taken_outcome ts j ≡ Some o)) → (o : O) × ((if b then Some t.1 else taken_outcome ts j) ≡ Some o)
      by_eq true q h = (t.1, refl)
      by_eq false q h = h (other (eqb j t.0) q refl e)

  numbers_more : (ts : List (ℕ × O)) (j : ℕ) (o : O) → numbers (ts ++ (j, o) ∷ []) ≡ numbers ts ++ j ∷ []
  numbers_more [] j o = refl
  numbers_more (t ∷ ts) j o = ap (λ ns. t.0 ∷ ns) (numbers_more ts j o)

  not_head : (b : Bool) (t : ℕ × O) (r : Option O) → (if b then Some t.1 else r) ≡ None → (b ≡ false) × (r ≡ None)
  not_head true t r e = absurd (let c : ⊥ = cc in c)
  not_head false t r e = (refl, e)

  pub distinct_push : (ts : List (ℕ × O)) (j : ℕ) (o : O) → taken_outcome ts j ≡ None → IsDistinct eqb (numbers ts) → IsDistinct eqb (numbers (ts ++ (j, o) ∷ []))
  unfolding IsDistinct
  distinct_push [] j o e h = (tt, tt)
  distinct_push (t ∷ ts) j o e h = let r = not_head (t.0 == j) t (taken_outcome ts j) e in
      (subst (λ ns. AllByRecursion (λ n. eqb t.0 n ≡ false) ns) (sym (numbers_more ts j o)) (all_push (λ n. eqb t.0 n ≡ false) (numbers ts) j h.0 r.0), distinct_push ts j o r.1 h.1)

-- the first n of these numbers, each with its outcome
module _ {O : Type 0} (out : ℕ → O) where
  abbrev with_outcomes : ℕ → List ℕ → List (ℕ × O)
  with_outcomes n js = map (λ j. (j, out j)) (take n js)

  pub one_of_firsts : (js : List ℕ) (n i : ℕ) → i < n → n ≤ length js → taken_outcome (with_outcomes n js) (get_or js i 0) ≡ Some (out (get_or js i 0))
  one_of_firsts [] n i l w = absurd (omega arith)
  one_of_firsts (x ∷ js) zero i l w = absurd (omega arith)
  one_of_firsts (x ∷ js) (suc n) zero l w = ap (λ b. if b then Some (out x) else taken_outcome (with_outcomes n js) x) (eq-eqb x x refl)
  one_of_firsts (x ∷ js) (suc n) (suc i) l w = by_eq (x == get_or js i 0) refl (one_of_firsts js n i (omega arith) (omega arith))
    where
      by_eq : (b : Bool) → (x == get_or js i 0) ≡ b → taken_outcome (with_outcomes n js) (get_or js i 0) ≡ Some (out (get_or js i 0))
          → (if b then Some (out x) else taken_outcome (with_outcomes n js) (get_or js i 0)) ≡ Some (out (get_or js i 0))
      by_eq true e h = ap (λ y. Some (out y)) (eqb-true x (get_or js i 0) e)
      by_eq false e h = h

  pub none_of_firsts : (js : List ℕ) (n j : ℕ) → n ≤ length js → ((i : ℕ) → i < n → get_or js i 0 ≢ j) → taken_outcome (with_outcomes n js) j ≡ None
  none_of_firsts js zero j w h = refl
  none_of_firsts [] (suc n) j w h = absurd (omega arith)
  none_of_firsts (x ∷ js) (suc n) j w h = by_eq (x == j) refl (none_of_firsts js n j (omega arith) (λ i l. h (suc i) (omega arith)))
    where
      by_eq : (b : Bool) → (x == j) ≡ b → taken_outcome (with_outcomes n js) j ≡ None → (if b then Some (out x) else taken_outcome (with_outcomes n js) j) ≡ None
      by_eq true e r = absurd (h 0 (omega arith) (eqb-true x j e))
      by_eq false e r = r

  -- what is known is one of them, with its outcome
  pub among_firsts : (js : List ℕ) (n j : ℕ) (o : O) → taken_outcome (with_outcomes n js) j ≡ Some o → (i : ℕ) × (i < length js) × (get_or js i 0 ≡ j) × (o ≡ out j)
  among_firsts js zero j o e = absurd (let c : ⊥ = cc in c)
  among_firsts [] (suc n) j o e = absurd (let c : ⊥ = cc in c)
  among_firsts (x ∷ js) (suc n) j o e = by_eq (x == j) refl (among_firsts js n j o) e
    where
      by_eq : (b : Bool) → (x == j) ≡ b → (taken_outcome (with_outcomes n js) j ≡ Some o → (i : ℕ) × (i < length js) × (get_or js i 0 ≡ j) × (o ≡ out j))
          → (if b then Some (out x) else taken_outcome (with_outcomes n js) j) ≡ Some o → (i : ℕ) × (i < length (x ∷ js)) × (get_or (x ∷ js) i 0 ≡ j) × (o ≡ out j)
      by_eq true q h e = let p : x ≡ j = eqb-true x j q in (0, omega arith, p, some_injective o (out j) (sym e ∙ ap (λ y. Some (out y)) p))
      by_eq false q h e = let r = h e in (suc r.0, (let l = r.1 in omega arith), r.2, r.3)
