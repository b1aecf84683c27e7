-- The first read that was not taken is what comes next.
use Rattle.std.proofs.Common.{◌≡◌, ◌≢◌, ℕ, zero, suc, ◌+◌, ◌<◌, ◌≤◌, List, [], ◌∷◌, ◌++◌, map, take, drop, length, get_or, Bool, true, false, if◌then◌else◌, ◌==◌, is_some, IsSome, Option, Some, None, refl, sym, ap, ◌∙◌, subst, arith}
use Rattle.std.proofs.lemmas.Bool.{eq-eqb, eqb-true}
use Rattle.std.proofs.lemmas.List.{drop_more, drop_all, take-append-drop, get_or-take, length-take-le}
use Rattle.settle_core.specs.Meant.{Meant, Lawful, outcome, reads}
use Rattle.settle_core.proofs.Options.{read_is}
use Rattle.settle_core.specs.Next.{Read, taken_outcome, firsts, IsNext, next_among, next_by_reads}

module _ {O : Type 0} (out : ℕ → O) where
  abbrev pairs : ℕ → List ℕ → List (ℕ × O)
  pairs n xs = map (λ j. (j, out j)) (take n xs)

  one_of : (b : Bool) (o : O) (p : Option O) → IsSome p → IsSome (if b then Some o else p)
  one_of true o p h = refl
  one_of false o p h = h

  taken_is : (xs : List ℕ) (n i : ℕ) → i < n → n ≤ length xs → IsSome (taken_outcome (pairs n xs) (get_or xs i 0))
  taken_is [] n i l w = absurd (omega arith)
  taken_is (x ∷ xs) zero i l w = absurd (omega arith)
  taken_is (x ∷ xs) (suc n) zero l w = ap (λ b. is_some (if b then Some (out x) else taken_outcome (pairs n xs) x)) (eq-eqb x x refl)
  taken_is (x ∷ xs) (suc n) (suc i) l w = one_of (x == get_or xs i 0) (out x) (taken_outcome (pairs n xs) (get_or xs i 0)) (taken_is xs n i (omega arith) (omega arith))

  not_taken : (xs : List ℕ) (n j : ℕ) → n ≤ length xs → ((i : ℕ) → i < n → get_or xs i 0 ≢ j) → taken_outcome (pairs n xs) j ≡ None
  not_taken xs zero j w h = refl
  not_taken [] (suc n) j w h = absurd (omega arith)
  not_taken (x ∷ xs) (suc n) j w h = other (x == j) refl (not_taken xs n j (omega arith) (λ i l. h (suc i) (omega arith)))
    where
      other : (b : Bool) → (x == j) ≡ b → taken_outcome (pairs n xs) j ≡ None → (if b then Some (out x) else taken_outcome (pairs n xs) j) ≡ None
      other true e rest = absurd (h 0 (omega arith) (eqb-true x j e))
      other false e rest = rest

module _ {O : Type 0} (ts : List (ℕ × O)) (o : O) where
  -- what was taken is passed
  passes : (ys zs : List ℕ) → ((i : ℕ) → i < length ys → IsSome (taken_outcome ts (get_or ys i 0))) → next_among ts (ys ++ zs) o ≡ next_among ts zs o
  passes [] zs h = refl
  passes (y ∷ ys) zs h = ap (λ b. if b then next_among ts (ys ++ zs) o else Read (record { 0 = y })) (h 0 (omega arith)) ∙ passes ys zs (λ i l. h (suc i) (omega arith))

  -- what is read is one of the list that was not taken
  pub record Unread (xs : List ℕ) (j : ℕ) : Type 0 where
    pub place : ℕ
    pub within : place < length xs
    pub is : get_or xs place 0 ≡ j
    pub untaken : taken_outcome ts j ≡ None

  unread : (xs : List ℕ) (j : ℕ) → next_among ts xs o ≡ Read (record { 0 = j }) → Unread xs j
  unread [] j e = absurd (let b : ⊥ = cc in b)
  unread (x ∷ xs) j e = by_case (taken_outcome ts x) refl (unread xs j) e
    where
      by_case : (p : Option O) → taken_outcome ts x ≡ p → (next_among ts xs o ≡ Read (record { 0 = j }) → Unread xs j) → (if is_some p then next_among ts xs o else Read (record { 0 = x })) ≡ Read (record { 0 = j }) → Unread (x ∷ xs) j
      by_case None h rest e = let q : x ≡ j = read_is (record { 0 = x }) (record { 0 = j }) e in record { place = 0; within = omega arith; is = q; untaken = ap (taken_outcome ts) (sym q) ∙ h }
      by_case (Some u) h rest e = let r = rest e in record { place = suc r.place; within = (let w = r.within in omega arith); is = r.is; untaken = r.untaken }

module _ {T O : Type 0} (m : Meant T O) (lawful : Lawful m) where
  -- where the first n reads were taken, what comes next is among the others
  after_firsts : (k n : ℕ) → n ≤ length (reads m k) → next_by_reads m k (firsts m k n) ≡ next_among (firsts m k n) (drop n (reads m k)) (outcome m k)
  after_firsts k n w = let ts = firsts m k n in let xs = reads m k in
      ap (λ ys. next_among ts ys (outcome m k)) (sym (take-append-drop n xs))
      ∙ passes ts (outcome m k) (take n xs) (drop n xs) (λ i h. (let c = length-take-le n xs w in let l : i < n = omega arith in subst (λ (z : ℕ). IsSome (taken_outcome ts z)) (sym (get_or-take n xs i 0 l)) (taken_is (outcome m) xs n i l w)))

  pub is_next : IsNext m (next_by_reads m)
  is_next = record {
    untaken = λ k j taken l e. let u = unread taken (outcome m k) (reads m k) j e in (subst (λ (i : ℕ). i < k) u.is (lawful.below k u.place l u.within), u.untaken);
    reads_next = λ k n l w. let ts = firsts m k n in let xs = reads m k in after_firsts k n (omega arith)
        ∙ ap (λ ys. next_among ts ys (outcome m k)) (drop_more xs n 0 w)
        ∙ ap (λ p. if is_some p then next_among ts (drop (n + 1) xs) (outcome m k) else Read (record { 0 = get_or xs n 0 })) (not_taken (outcome m) xs n (get_or xs n 0) (omega arith) (λ i h. lawful.once k i n l h w));
    ends_with = λ k l. let xs = reads m k in after_firsts k (length xs) (omega arith) ∙ ap (λ ys. next_among (firsts m k (length xs)) ys (outcome m k)) (drop_all (length xs) xs (omega arith));
  }
