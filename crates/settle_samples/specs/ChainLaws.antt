-- The laws of a chain.
use Rattle.std.proofs.Common.{◌≡◌, ◌≢◌, ◌⊎◌, ℕ, zero, suc, ◌^◌, ◌<◌, ◌≤◌, List, [], ◌∷◌, length, get_or, Bool, true, false, if◌then◌else◌, ◌==◌, eq-eqb, Option, Some, None, refl, sym, ap, ◌∙◌, arith, inl, inr, ⊎_elim}
use Rattle.std.proofs.lemmas.Bool.{eqb-true}
use Rattle.settle_core.specs.Meant.{Lawful, outcomes_below, outcome, reads}
use Rattle.settle_core.specs.declared.next_of.NextOf.{NextOf}
use Rattle.settle_core.specs.declared.next_of.NextOf.TheVariants.{Read, Ends}
use Rattle.settle_core.specs.Next.{taken_outcome, firsts, IsNext}
use Rattle.settle_core.proofs.Folds.{fold_at}
use Rattle.settle_samples.specs.Chained.{chain_reads, one_more, sum_and_one, chain_of, read_it, chain_next}

module _ {O : Type 0} (i : ℕ) (o : O) (ts : List (ℕ × O)) where
  taken_here : taken_outcome ((i, o) ∷ ts) i ≡ Some o
  taken_here = ap (λ b. if b then Some o else taken_outcome ts i) (eq-eqb i i refl)

  taken_else : (j : ℕ) → i ≢ j → taken_outcome ((i, o) ∷ ts) j ≡ taken_outcome ts j
  taken_else j n = go (i == j) refl
    where
      go : (b : Bool) → (i == j) ≡ b → (if b then Some o else taken_outcome ts j) ≡ taken_outcome ts j
      go true e = absurd (n (eqb-true i j e))
      go false e = refl

module _ (n : ℕ) where
  pub reads_are : (k : ℕ) → reads (chain_of n) k ≡ chain_reads k
  unfolding reads
  reads_are k = refl

  at : (k j : ℕ) → j < k → get_or (outcomes_below (chain_of n) k) j 0 ≡ outcome (chain_of n) j
  at k j l = fold_at (chain_of n) k j 0 l

  pub first_outcome : outcome (chain_of n) 0 ≡ 1
  unfolding outcome
  first_outcome = refl

  pub second_outcome : outcome (chain_of n) 1 ≡ one_more (outcome (chain_of n) 0)
  unfolding outcome
  second_outcome = refl

  by_fold : (k : ℕ) → outcome (chain_of n) (suc (suc k)) ≡ sum_and_one (get_or (outcomes_below (chain_of n) (suc (suc k))) (suc k) 0) (get_or (outcomes_below (chain_of n) (suc (suc k))) k 0)
  unfolding outcome
  by_fold k = refl

  pub later_outcome : (k : ℕ) → outcome (chain_of n) (suc (suc k)) ≡ sum_and_one (outcome (chain_of n) (suc k)) (outcome (chain_of n) k)
  later_outcome k = by_fold k ∙ (λ i. sum_and_one (at (suc (suc k)) (suc k) (omega arith) i) (at (suc (suc k)) k (omega arith) i))

  below : (k i : ℕ) → i < length (chain_reads k) → get_or (chain_reads k) i 0 < k
  below zero i l = absurd (omega arith)
  below (suc zero) zero l = omega arith
  below (suc zero) (suc i) l = absurd (omega arith)
  below (suc (suc k)) zero l = omega arith
  below (suc (suc k)) (suc zero) l = omega arith
  below (suc (suc k)) (suc (suc i)) l = absurd (omega arith)

  once : (k i j : ℕ) → i < j → j < length (chain_reads k) → get_or (chain_reads k) i 0 ≢ get_or (chain_reads k) j 0
  once zero i j l h e = omega arith
  once (suc zero) i j l h e = omega arith
  once (suc (suc k)) zero zero l h e = omega arith
  once (suc (suc k)) zero (suc zero) l h e = omega arith
  once (suc (suc k)) zero (suc (suc j)) l h e = omega arith
  once (suc (suc k)) (suc i) zero l h e = omega arith
  once (suc (suc k)) (suc i) (suc j) l h e = omega arith

  within : (k t : ℕ) → t ≤ k → t ≤ 2 → t ≤ length (chain_reads k)
  within zero t a b = omega arith
  within (suc zero) t a b = omega arith
  within (suc (suc k)) t a b = omega arith

  pub chain_lawful : n < 2 ^ 32 → Lawful (chain_of n)
  unfolding reads
  chain_lawful small = record {
    small = small;
    below = λ k i inside l. below k i l;
    once = λ k i j inside l h. once k i j l h;
    within = λ k t inside h. within k t h.0 h.1;
    marked = λ k t inside h l. refl;
    cheap = λ k t inside h. h.1;
  }

  module _ (j : ℕ) where
    read_of : NextOf ℕ → ℕ
    read_of (Read p) = p.0
    read_of (Ends o) = suc j

    no_end : (o : ℕ) → ◌≡◌ {A = NextOf ℕ} (Ends o) (Read (record { 0 = j })) → ⊥
    unfolding read_of
    no_end o e = let h : suc j ≡ j = ap read_of e in omega (arith, h)

    read_or : (i : ℕ) (goes : ℕ → NextOf ℕ) (p : Option ℕ) → read_it i goes p ≡ Read (record { 0 = j }) → ((i ≡ j) × (p ≡ None)) ⊎ ((o : ℕ) × (goes o ≡ Read (record { 0 = j })))
    unfolding read_of
    read_or i goes None e = inl (ap read_of e, refl)
    read_or i goes (Some o) e = inr (o, e)

  untaken : (k j : ℕ) (taken : List (ℕ × ℕ)) → chain_next k taken ≡ Read (record { 0 = j }) → (j < k) × (taken_outcome taken j ≡ None)
  untaken zero j taken e = absurd (no_end j 1 e)
  untaken (suc zero) j taken e = ⊎_elim (λ (h : (0 ≡ j) × (taken_outcome taken 0 ≡ None)). ((let z = h.0 in omega arith), ap (taken_outcome taken) (sym h.0) ∙ h.1))
      (λ (h : (a : ℕ) × (◌≡◌ {A = NextOf ℕ} (Ends (one_more a)) (Read (record { 0 = j })))). absurd (no_end j (one_more h.0) h.1))
      (read_or j 0 (λ a. Ends (one_more a)) (taken_outcome taken 0) e)
  untaken (suc (suc k)) j taken e = ⊎_elim (λ (h : (suc k ≡ j) × (taken_outcome taken (suc k) ≡ None)). ((let z = h.0 in omega arith), ap (taken_outcome taken) (sym h.0) ∙ h.1))
      (λ (h : (a : ℕ) × (read_it k (λ b. Ends (sum_and_one a b)) (taken_outcome taken k) ≡ Read (record { 0 = j }))).
      ⊎_elim (λ (q : (k ≡ j) × (taken_outcome taken k ≡ None)). ((let z = q.0 in omega arith), ap (taken_outcome taken) (sym q.0) ∙ q.1))
      (λ (q : (b : ℕ) × (◌≡◌ {A = NextOf ℕ} (Ends (sum_and_one h.0 b)) (Read (record { 0 = j })))). absurd (no_end j (sum_and_one h.0 q.0) q.1))
      (read_or j k (λ b. Ends (sum_and_one h.0 b)) (taken_outcome taken k) h.1))
      (read_or j (suc k) (λ a. read_it k (λ b. Ends (sum_and_one a b)) (taken_outcome taken k)) (taken_outcome taken (suc k)) e)

  reads_next : (k i : ℕ) → i < length (reads (chain_of n) k) → chain_next k (firsts (chain_of n) k i) ≡ Read (record { 0 = get_or (reads (chain_of n) k) i 0 })
  unfolding reads
  reads_next zero i l = absurd (omega arith)
  reads_next (suc zero) zero l = refl
  reads_next (suc zero) (suc i) l = absurd (omega arith)
  reads_next (suc (suc k)) zero l = refl
  reads_next (suc (suc k)) (suc zero) l = let o = outcome (chain_of n) (suc k) in
      ap (read_it (suc k) (λ a. read_it k (λ b. Ends (sum_and_one a b)) (taken_outcome ((suc k, o) ∷ []) k))) (taken_here (suc k) o [])
      ∙ ap (read_it k (λ b. Ends (sum_and_one o b))) (taken_else (suc k) o [] k (λ e. omega arith))
  reads_next (suc (suc k)) (suc (suc i)) l = absurd (omega arith)

  ends_with : (k : ℕ) → chain_next k (firsts (chain_of n) k (length (reads (chain_of n) k))) ≡ Ends (outcome (chain_of n) k)
  unfolding reads
  ends_with zero = ap (λ o. Ends o) (sym first_outcome)
  ends_with (suc zero) = ap (λ o. Ends o) (sym second_outcome)
  ends_with (suc (suc k)) = let a = outcome (chain_of n) (suc k) in let b = outcome (chain_of n) k in
      ap (read_it (suc k) (λ x. read_it k (λ y. Ends (sum_and_one x y)) (taken_outcome ((suc k, a) ∷ (k, b) ∷ []) k))) (taken_here (suc k) a ((k, b) ∷ []))
      ∙ ap (read_it k (λ y. Ends (sum_and_one a y))) (taken_else (suc k) a ((k, b) ∷ []) k (λ e. omega arith) ∙ taken_here k b [])
      ∙ ap (λ o. Ends o) (sym (later_outcome k))

  pub chain_plays : IsNext (chain_of n) chain_next
  chain_plays = record { untaken = λ k j taken inside e. untaken k j taken e; reads_next = λ k i inside l. reads_next k i l; ends_with = λ k inside. ends_with k }
