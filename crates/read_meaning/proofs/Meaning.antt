-- The meaning that trees of pieces make is lawful, and says what comes next.
use Rattle.std.proofs.Common.{◌^◌, ◌≡◌, ◌≢◌, ℕ, ◌+◌, ◌<◌, ◌≤◌, List, length, get_or, slice_get, Some, None, refl, sym, ap, ◌∙◌, subst, arith}
use Rattle.settle_core.specs.Meant.{Meant, Lawful, outcomes_below, outcome, reads}
use Rattle.settle_core.specs.declared.next_of.NextOf.TheVariants.{Read, Ends}
use Rattle.settle_core.specs.Next.{IsNext, firsts, taken_outcome}
use Rattle.settle_core.proofs.Folds.{fold_at, fold_length}
use Rattle.settle_core.proofs.Options.{read_is, read_is_no_end}
use Rattle.read_trees.specs.Walks.{Facts, Agrees}
use Rattle.read_trees.specs.Runs.{Closed, Came, Ended, Lacks, later, run}
use Rattle.read_trees.proofs.Walking.{walks_more}
use Rattle.read_trees.proofs.Running.{run_walks}
use Rattle.read_trees.proofs.Order.{same_run, next_run, once_run, lower_run, lacks_below, LacksBelow, HasEnded, ends_where_known}
use Rattle.read_meaning.specs.Pieces.{Defined, tree, outcome_of, next_after, next_of, plain, IsTask, meant_by}
use Rattle.read_meaning.proofs.Taken.{slice_is, one_of_firsts, none_of_firsts, among_firsts}

module _ {O B : Type 0} (d : Defined O B) (k : ℕ) where
  -- the outcomes before k in the fold
  abbrev before : Facts O
  before = slice_get (outcomes_below (plain d) k)

  known : (j : ℕ) → j < k → before j ≡ Some (outcome (plain d) j)
  known j l = slice_is (outcomes_below (plain d) k) j (d.finish d.broken 0) (let e = fold_length (plain d) k in omega arith) ∙ ap Some (fold_at (plain d) k j (d.finish d.broken 0) l)

  pub outcome_is : outcome (plain d) k ≡ outcome_of d (run before (tree d k))
  unfolding outcome
  outcome_is = refl

  lower : (i : ℕ) → i < length (reads (plain d) k) → get_or (reads (plain d) k) i 0 < k
  unfolding reads
  lower i l = lower_run before k d.broken (d.piece k) i l

  once : (i j : ℕ) → i < j → j < length (reads (plain d) k) → get_or (reads (plain d) k) i 0 ≢ get_or (reads (plain d) k) j 0
  unfolding reads
  once i j l w = once_run before (tree d k) i j l w

  next_where_ended : (c : Came B) → HasEnded before k d.broken c → next_after d c ≡ Ends (outcome_of d c)
  next_where_ended (Ended b n) h = refl
  next_where_ended (Lacks j n) h = absurd h

  -- facts of the first n reads alone
  module _ (n : ℕ) (w : n ≤ length (reads (plain d) k)) where
    abbrev firsts_known : Facts O
    firsts_known = taken_outcome (firsts (plain d) k n)

    firsts_same : (i : ℕ) → i < n → firsts_known (get_or (reads (plain d) k) i 0) ≡ before (get_or (reads (plain d) k) i 0)
    firsts_same i l = one_of_firsts (outcome (plain d)) (reads (plain d) k) n i l w ∙ sym (known (get_or (reads (plain d) k) i 0) (lower i (omega arith)))

  pub reads_next : (n : ℕ) → n < length (reads (plain d) k) → next_of d k (firsts (plain d) k n) ≡ Read (record { 0 = get_or (reads (plain d) k) n 0 })
  unfolding reads
  reads_next n l = let r = next_run before (firsts_known n (omega arith)) (tree d k) n (firsts_same n (omega arith))
      (l, none_of_firsts (outcome (plain d)) (reads (plain d) k) n (get_or (reads (plain d) k) n 0) (omega arith) (λ i h. once i n h l)) in
      ap (next_after d) r.1

  pub ends_with : next_of d k (firsts (plain d) k (length (reads (plain d) k))) ≡ Ends (outcome (plain d) k)
  unfolding reads
  ends_with = let n = length (reads (plain d) k) in ap (next_after d) (same_run before (firsts_known n (omega arith)) (tree d k) (firsts_same n (omega arith)))
      ∙ next_where_ended (run before (tree d k)) (ends_where_known before k d.broken (λ j l. (outcome (plain d) j, known j l)) (d.piece k)) ∙ ap Ends (sym outcome_is)

module _ {O B : Type 0} (d : Defined O B) (k j : ℕ) (taken : List (ℕ × O)) where
  untaken_after : (c : Came B) → LacksBelow (taken_outcome taken) k d.broken c → next_after d c ≡ Read (record { 0 = j }) → (j < k) × (taken_outcome taken j ≡ None)
  untaken_after (Ended b n) w e = absurd (read_is_no_end (record { 0 = j }) (d.finish b n) (sym e))
  untaken_after (Lacks i n) w e = let q : i ≡ j = read_is (record { 0 = i }) (record { 0 = j }) e in subst (λ x. (x < k) × (taken_outcome taken x ≡ None)) q w

  -- a next read is a piece before it that was not taken
  pub untaken : next_of d k taken ≡ Read (record { 0 = j }) → (j < k) × (taken_outcome taken j ≡ None)
  untaken e = untaken_after (run (taken_outcome taken) (tree d k)) (lacks_below (taken_outcome taken) k d.broken (d.piece k)) e

module _ {O B : Type 0} (d : Defined O B) where
  pub plays : IsNext (plain d) (next_of d)
  plays = record { untaken = λ k j taken l e. untaken d k j taken e; reads_next = λ k n l w. reads_next d k n w; ends_with = λ k l. ends_with d k }

  -- an outcome has no fewer steps than led to it
  steps_of : (c : Came B) (n : ℕ) → n ≤ d.steps (outcome_of d (later n c))
  steps_of (Ended b m) n = let e = d.counted b (n + m) in omega arith
  steps_of (Lacks j m) n = let e = d.counted d.broken (n + m) in omega arith

  firsts_agree : (k n : ℕ) → Agrees (taken_outcome (firsts (plain d) k n)) (slice_get (outcomes_below (plain d) k))
  firsts_agree k n j o e = let r = among_firsts (outcome (plain d)) (reads (plain d) k) n j o e in known d k j (subst (λ x. x < k) r.2 (lower d k r.0 r.1)) ∙ ap Some (sym r.3)

  module _ {T : Type 0} (list : T → List (ℕ × O)) (steps : T → ℕ) (Left : ℕ → T → Closed O B → Type 0) where
    abbrev meant : Meant T O
    meant = meant_by d list steps Left

    pub same_outcome : (k : ℕ) → outcome meant k ≡ outcome (plain d) k
    unfolding outcome
    same_outcome k = refl

    pub same_reads : (k : ℕ) → reads meant k ≡ reads (plain d) k
    unfolding reads
    same_reads k = refl

    pub plays_by : IsNext meant (next_of d)
    unfolding outcome reads
    plays_by = record { untaken = λ k j taken l e. untaken d k j taken e; reads_next = λ k n l w. reads_next d k n w; ends_with = λ k l. ends_with d k }

    task_agrees : (k : ℕ) (t : T) → IsTask d list steps Left k t → Agrees (taken_outcome (list t)) (slice_get (outcomes_below (plain d) k))
    task_agrees k t h = subst (λ ts. Agrees (taken_outcome ts) (slice_get (outcomes_below (plain d) k))) (sym h.prefix) (firsts_agree k (length (list t)))

    cheap : (k : ℕ) (t : T) → IsTask d list steps Left k t → steps t ≤ d.steps (outcome meant k)
    cheap k t h = let F = slice_get (outcomes_below (plain d) k) in
        let w = walks_more (taken_outcome (list t)) F (task_agrees k t h) (tree d k) h.rest (steps t) h.walks in
        subst (λ o. steps t ≤ d.steps o) (sym (same_outcome k ∙ outcome_is d k ∙ ap (outcome_of d) (run_walks F (tree d k) h.rest (steps t) w))) (steps_of (run F h.rest) (steps t))

    pub lawful : d.pieces < 2 ^ 32 → Lawful meant
    lawful small = record {
      small = small;
      below = λ k i l w. subst (λ xs. get_or xs i 0 < k) (sym (same_reads k)) (lower d k i (subst (λ xs. i < length xs) (same_reads k) w));
      once = λ k i j l w x. subst (λ xs. get_or xs i 0 ≢ get_or xs j 0) (sym (same_reads k)) (once d k i j w (subst (λ xs. j < length xs) (same_reads k) x));
      within = λ k t l h. subst (λ xs. length (list t) ≤ length xs) (sym (same_reads k)) h.within;
      marked = λ k t l h w. refl;
      cheap = λ k t l h. cheap k t h;
    }
