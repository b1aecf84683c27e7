-- The laws of the three pieces.
use Rattle.std.proofs.Common.{◌≡◌, ◌≢◌, ◌⊎◌, ℕ, zero, suc, ◌/◌, ◌%◌, ◌<◌, ◌≤◌, List, [], ◌∷◌, length, get_or, map, take, Bool, true, false, if◌then◌else◌, ◌==◌, Option, Some, None, refl, sym, ap, ◌∙◌, subst, arith, inl, inr, ⊎_elim}
use Rattle.settle_core.specs.Meant.{Lawful, outcome, reads}
use Rattle.settle_core.specs.declared.next_of.NextOf.{NextOf}
use Rattle.settle_core.specs.declared.next_of.NextOf.TheVariants.{Read, Ends}
use Rattle.settle_core.specs.Next.{taken_outcome, firsts, IsNext}
use Rattle.settle_samples.specs.ThreePieces.{ten_more, three_pieces, read_count, read_first, three_next}

-- a fact of the three pieces, one by one
by_piece : (P : ℕ → Type 0) → P 0 → P 1 → P 2 → (k : ℕ) → k < 3 → P k
by_piece P a b c zero l = a
by_piece P a b c (suc zero) l = b
by_piece P a b c (suc (suc zero)) l = c
by_piece P a b c (suc (suc (suc k))) l = absurd (omega arith)

-- what piece 2 reads, where the outcome of piece 0 is odd and where it is not
abbrev pub one_or_two : Bool → List ℕ
one_or_two odd = if odd then 0 ∷ 1 ∷ [] else 0 ∷ []

first_below : (i : ℕ) → i < 1 → get_or (0 ∷ []) i 0 < 1
first_below zero l = omega arith
first_below (suc i) l = absurd (omega arith)

last_below : (odd : Bool) (i : ℕ) → i < length (one_or_two odd) → get_or (one_or_two odd) i 0 < 2
last_below true zero l = omega arith
last_below true (suc zero) l = omega arith
last_below true (suc (suc i)) l = absurd (omega arith)
last_below false zero l = omega arith
last_below false (suc i) l = absurd (omega arith)

last_once : (odd : Bool) (i j : ℕ) → i < j → j < length (one_or_two odd) → get_or (one_or_two odd) i 0 ≢ get_or (one_or_two odd) j 0
last_once true zero zero l h e = omega arith
last_once true zero (suc zero) l h e = omega arith
last_once true zero (suc (suc j)) l h e = omega arith
last_once true (suc i) j l h e = omega arith
last_once false i j l h e = omega arith

last_few : (odd : Bool) → length (one_or_two odd) ≤ 2
last_few true = omega arith
last_few false = omega arith

module _ (first : ℕ) where
  pub no_reads : reads (three_pieces first) 0 ≡ []
  unfolding reads
  no_reads = refl

  pub one_read : reads (three_pieces first) 1 ≡ 0 ∷ []
  unfolding reads
  one_read = refl

  pub last_reads : reads (three_pieces first) 2 ≡ one_or_two (first % 2 == 1)
  unfolding reads
  last_reads = refl

  pub first_outcome : outcome (three_pieces first) 0 ≡ first
  unfolding outcome
  first_outcome = refl

  pub second_outcome : outcome (three_pieces first) 1 ≡ ten_more first
  unfolding outcome
  second_outcome = refl

  pub last_outcome : outcome (three_pieces first) 2 ≡ ten_more (get_or (first ∷ ten_more first ∷ []) (if first % 2 == 1 then 1 else 0) 0)
  unfolding outcome
  last_outcome = refl

  pub count_is : (k : ℕ) → k < 3 → length (reads (three_pieces first) k) ≡ read_count first k
  count_is = by_piece (λ k. length (reads (three_pieces first) k) ≡ read_count first k) (ap length no_reads) (ap length one_read) (ap length last_reads)

  below : (k : ℕ) → k < 3 → (i : ℕ) → i < length (reads (three_pieces first) k) → get_or (reads (three_pieces first) k) i 0 < k
  below = by_piece (λ k. (i : ℕ) → i < length (reads (three_pieces first) k) → get_or (reads (three_pieces first) k) i 0 < k)
      (λ i l. absurd (let e = ap length no_reads in omega arith))
      (subst (λ xs. (i : ℕ) → i < length xs → get_or xs i 0 < 1) (sym one_read) first_below)
      (subst (λ xs. (i : ℕ) → i < length xs → get_or xs i 0 < 2) (sym last_reads) (last_below (first % 2 == 1)))

  once : (k : ℕ) → k < 3 → (i j : ℕ) → i < j → j < length (reads (three_pieces first) k) → get_or (reads (three_pieces first) k) i 0 ≢ get_or (reads (three_pieces first) k) j 0
  once = by_piece (λ k. (i j : ℕ) → i < j → j < length (reads (three_pieces first) k) → get_or (reads (three_pieces first) k) i 0 ≢ get_or (reads (three_pieces first) k) j 0)
      (λ i j l h. absurd (let e = ap length no_reads in omega arith))
      (λ i j l h. absurd (let e = ap length one_read in omega arith))
      (subst (λ xs. (i j : ℕ) → i < j → j < length xs → get_or xs i 0 ≢ get_or xs j 0) (sym last_reads) (last_once (first % 2 == 1)))

  few : (k : ℕ) → k < 3 → read_count first k ≤ 2
  few = by_piece (λ k. read_count first k ≤ 2) (omega arith) (omega arith) (last_few (first % 2 == 1))

  pub three_lawful : Lawful (three_pieces first)
  three_lawful = record {
    small = omega arith;
    below = λ k i inside l. below k inside i l;
    once = λ k i j inside l h. once k inside i j l h;
    within = λ k t inside h. subst (λ n. t / 4 ≤ n) (sym (count_is k inside)) h;
    marked = λ k t inside h l. refl;
    cheap = λ k t inside h. (let f = few k inside in omega arith);
  }

module _ (j : ℕ) where
  read_of : NextOf ℕ → ℕ
  read_of (Read p) = p.0
  read_of (Ends o) = suc j

  no_end : (o : ℕ) → ◌≡◌ {A = NextOf ℕ} (Ends o) (Read (record { 0 = j })) → ⊥
  unfolding read_of
  no_end o e = let h : suc j ≡ j = ap read_of e in omega (arith, h)

  untaken_first : (i : ℕ) (goes : ℕ → NextOf ℕ) (p : Option ℕ) → read_first i goes p ≡ Read (record { 0 = j }) → ((i ≡ j) × (p ≡ None)) ⊎ ((o : ℕ) × (goes o ≡ Read (record { 0 = j })))
  unfolding read_of
  untaken_first i goes None e = inl (ap read_of e, refl)
  untaken_first i goes (Some o) e = inr (o, e)

-- what the second read says, where there is one
untaken_second : (taken : List (ℕ × ℕ)) (j : ℕ) (b : Bool) (o : ℕ) → (if b then read_first 1 (λ p. Ends (ten_more p)) (taken_outcome taken 1) else Ends (ten_more o)) ≡ Read (record { 0 = j }) → (j < 2) × (taken_outcome taken j ≡ None)
untaken_second taken j true o e = ⊎_elim (λ (h : (1 ≡ j) × (taken_outcome taken 1 ≡ None)). ((let z = h.0 in omega arith), ap (taken_outcome taken) (sym h.0) ∙ h.1))
    (λ (h : (p : ℕ) × (◌≡◌ {A = NextOf ℕ} (Ends (ten_more p)) (Read (record { 0 = j })))). absurd (no_end j (ten_more h.0) h.1))
    (untaken_first j 1 (λ p. Ends (ten_more p)) (taken_outcome taken 1) e)
untaken_second taken j false o e = absurd (no_end j (ten_more o) e)

module _ (first : ℕ) where
  untaken : (k : ℕ) → k < 3 → (j : ℕ) (taken : List (ℕ × ℕ)) → three_next first k taken ≡ Read (record { 0 = j }) → (j < k) × (taken_outcome taken j ≡ None)
  untaken = by_piece (λ k. (j : ℕ) (taken : List (ℕ × ℕ)) → three_next first k taken ≡ Read (record { 0 = j }) → (j < k) × (taken_outcome taken j ≡ None))
      (λ j taken e. absurd (no_end j first e))
      (λ j taken e. ⊎_elim (λ (h : (0 ≡ j) × (taken_outcome taken 0 ≡ None)). ((let z = h.0 in omega arith), ap (taken_outcome taken) (sym h.0) ∙ h.1))
      (λ (h : (o : ℕ) × (◌≡◌ {A = NextOf ℕ} (Ends (ten_more o)) (Read (record { 0 = j })))). absurd (no_end j (ten_more h.0) h.1))
      (untaken_first j 0 (λ o. Ends (ten_more o)) (taken_outcome taken 0) e))
      (λ j taken e. ⊎_elim (λ (h : (0 ≡ j) × (taken_outcome taken 0 ≡ None)). ((let z = h.0 in omega arith), ap (taken_outcome taken) (sym h.0) ∙ h.1))
      (λ (h : (o : ℕ) × ((if o % 2 == 1 then read_first 1 (λ p. Ends (ten_more p)) (taken_outcome taken 1) else Ends (ten_more o)) ≡ Read (record { 0 = j }))). untaken_second taken j (h.0 % 2 == 1) h.0 h.1)
      (untaken_first j 0 (λ o. if o % 2 == 1 then read_first 1 (λ p. Ends (ten_more p)) (taken_outcome taken 1) else Ends (ten_more o)) (taken_outcome taken 0) e))

  abbrev with_outcome : ℕ → ℕ × ℕ
  with_outcome i = (i, outcome (three_pieces first) i)

  last_next : (odd : Bool) → (first % 2 == 1) ≡ odd → (n : ℕ) → n < length (one_or_two odd) → three_next first 2 (map with_outcome (take n (one_or_two odd))) ≡ Read (record { 0 = get_or (one_or_two odd) n 0 })
  unfolding outcome
  last_next true e zero l = refl
  last_next true e (suc zero) l = ap (λ b. if b then read_first 1 (λ p. Ends (ten_more p)) None else Ends (ten_more first)) e
  last_next true e (suc (suc n)) l = absurd (omega arith)
  last_next false e zero l = refl
  last_next false e (suc n) l = absurd (omega arith)

  last_ends : (odd : Bool) → (first % 2 == 1) ≡ odd → three_next first 2 (map with_outcome (take (length (one_or_two odd)) (one_or_two odd))) ≡ Ends (ten_more (get_or (first ∷ ten_more first ∷ []) (if odd then 1 else 0) 0))
  unfolding outcome
  last_ends true e = ap (λ b. if b then Ends (ten_more (ten_more first)) else Ends (ten_more first)) e
  last_ends false e = ap (λ b. if b then read_first 1 (λ p. Ends (ten_more p)) None else Ends (ten_more first)) e

  first_next : (n : ℕ) → n < 1 → three_next first 1 (map with_outcome (take n (0 ∷ []))) ≡ Read (record { 0 = get_or (0 ∷ []) n 0 })
  first_next zero l = refl
  first_next (suc n) l = absurd (omega arith)

  reads_next : (k : ℕ) → k < 3 → (n : ℕ) → n < length (reads (three_pieces first) k) → three_next first k (firsts (three_pieces first) k n) ≡ Read (record { 0 = get_or (reads (three_pieces first) k) n 0 })
  reads_next = by_piece (λ k. (n : ℕ) → n < length (reads (three_pieces first) k) → three_next first k (firsts (three_pieces first) k n) ≡ Read (record { 0 = get_or (reads (three_pieces first) k) n 0 }))
      (λ n l. absurd (let e = ap length (no_reads first) in omega arith))
      (subst (λ xs. (n : ℕ) → n < length xs → three_next first 1 (map with_outcome (take n xs)) ≡ Read (record { 0 = get_or xs n 0 })) (sym (one_read first)) first_next)
      (subst (λ xs. (n : ℕ) → n < length xs → three_next first 2 (map with_outcome (take n xs)) ≡ Read (record { 0 = get_or xs n 0 })) (sym (last_reads first)) (last_next (first % 2 == 1) refl))

  second_ends : three_next first 1 (map with_outcome (0 ∷ [])) ≡ Ends (ten_more first)
  unfolding outcome
  second_ends = refl

  ends_with : (k : ℕ) → k < 3 → three_next first k (firsts (three_pieces first) k (length (reads (three_pieces first) k))) ≡ Ends (outcome (three_pieces first) k)
  ends_with = by_piece (λ k. three_next first k (firsts (three_pieces first) k (length (reads (three_pieces first) k))) ≡ Ends (outcome (three_pieces first) k))
      (ap (λ o. Ends o) (sym (first_outcome first)))
      (subst (λ xs. three_next first 1 (map with_outcome (take (length xs) xs)) ≡ Ends (outcome (three_pieces first) 1)) (sym (one_read first)) (second_ends ∙ ap (λ o. Ends o) (sym (second_outcome first))))
      (subst (λ xs. three_next first 2 (map with_outcome (take (length xs) xs)) ≡ Ends (outcome (three_pieces first) 2)) (sym (last_reads first)) (last_ends (first % 2 == 1) refl ∙ ap (λ o. Ends o) (sym (last_outcome first))))

  pub three_plays : IsNext (three_pieces first) (three_next first)
  three_plays = record { untaken = λ k j taken inside e. untaken k inside j taken e; reads_next = λ k n inside l. reads_next k inside n l; ends_with = λ k inside. ends_with k inside }
