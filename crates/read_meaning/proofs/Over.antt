-- Facts that grow, and facts of the fold.
use Rattle.std.proofs.Common.{◌≡◌, ◌⊎◌, ℕ, zero, suc, ◌<◌, ◌≤◌, List, [], ◌∷◌, ◌++◌, length, length-append, get_or, Some, None, refl, sym, ap, ◌∙◌, subst, arith, inl, inr}
use Rattle.settle_core.specs.Meant.{outcome, reads}
use Rattle.settle_core.specs.declared.next_of.NextOf.TheVariants.{Read, Ends}
use Rattle.settle_core.specs.Next.{taken_outcome, firsts}
use Rattle.settle_core.proofs.Options.{read_is, read_is_no_end}
use Rattle.settle_core.proofs.Tasks.{reads_if, ends_if, next_cases, front_more}
use Rattle.read_trees.specs.Walks.{Facts, Agrees}
use Rattle.read_trees.specs.Runs.{Came, Ended, Lacks, run}
use Rattle.read_trees.proofs.Running.{Still, run_more}
use Rattle.read_meaning.specs.Pieces.{Defined, tree, next_after, next_of, plain}
use Rattle.read_meaning.specs.Standing.{Took}
use Rattle.read_meaning.proofs.Taken.{taken_before}
use Rattle.read_meaning.proofs.Meaning.{plays, untaken}

-- With more facts a piece ends as it did, or lacks the same piece where that is still not known.
module _ {O B : Type 0} (d : Defined O B) (k : ℕ) (F G : Facts O) (more : Agrees F G) where
  ends_after : (o : O) (c : Came B) → run F (tree d k) ≡ c → next_after d c ≡ Ends o → next_after d (run G (tree d k)) ≡ Ends o
  ends_after o (Ended b n) q e = ap (next_after d) (run_more F G more (tree d k) (subst (Still F G more) (sym q) tt) ∙ q) ∙ e
  ends_after o (Lacks j n) q e = absurd (read_is_no_end (record { 0 = j }) o e)

  pub ends_over : (o : O) → next_after d (run F (tree d k)) ≡ Ends o → next_after d (run G (tree d k)) ≡ Ends o
  ends_over o e = ends_after o (run F (tree d k)) refl e

  lacks_after : (j : ℕ) (c : Came B) → G j ≡ None → run F (tree d k) ≡ c → next_after d c ≡ Read (record { 0 = j }) → next_after d (run G (tree d k)) ≡ Read (record { 0 = j })
  lacks_after j (Ended b n) h q e = absurd (read_is_no_end (record { 0 = j }) (d.finish b n) (sym e))
  lacks_after j (Lacks i n) h q e = let w : i ≡ j = read_is (record { 0 = i }) (record { 0 = j }) e in
      ap (next_after d) (run_more F G more (tree d k) (subst (Still F G more) (sym q) (subst (λ x. G x ≡ None) (sym w) h)) ∙ q) ∙ e

  pub lacks_over : (j : ℕ) → G j ≡ None → next_after d (run F (tree d k)) ≡ Read (record { 0 = j }) → next_after d (run G (tree d k)) ≡ Read (record { 0 = j })
  lacks_over j h e = lacks_after j (run F (tree d k)) h refl e

  -- what was taken from F is so in G
  more_agrees : (ts : List (ℕ × O)) (j : ℕ) (o : O) → F j ≡ Some o → Agrees (taken_outcome ts) G → Agrees (taken_outcome (ts ++ (j, o) ∷ [])) G
  more_agrees ts j o f h i x e = by_last (taken_before ts j o i x e)
    where
      by_last : (taken_outcome ts i ≡ Some x) ⊎ ((j ≡ i) × (o ≡ x)) → G i ≡ Some x
      by_last (inl q) = h i x q
      by_last (inr q) = subst (λ z. G z ≡ Some x) q.0 (more j o f ∙ ap Some q.1)

  pub took_agrees : (n : ℕ) (ts us : List (ℕ × O)) → Agrees (taken_outcome ts) G → Took d k F n ts us → Agrees (taken_outcome us) G
  took_agrees zero ts us h w = subst (λ x. Agrees (taken_outcome x) G) (sym w) h
  took_agrees (suc n) ts us h w = subst (λ x. Agrees (taken_outcome x) G) (sym w.6) (more_agrees w.0 w.1 w.2 w.4 (took_agrees n ts w.0 h w.3))

-- A task that has taken the first of its reads, with their outcomes in the fold
module _ {O B : Type 0} (d : Defined O B) (k : ℕ) where
  abbrev pub TookFirsts : List (ℕ × O) → Type 0
  TookFirsts ts = (ts ≡ firsts (plain d) k (length ts)) × (length ts ≤ length (reads (plain d) k))

  pub none_taken : TookFirsts []
  none_taken = (refl, omega arith)

module _ {O B : Type 0} (d : Defined O B) (k : ℕ) (inside : k < d.pieces) where
  -- takes the next ones from facts of the fold
  module _ (F : Facts O) (of_fold : (j : ℕ) (o : O) → j < k → F j ≡ Some o → o ≡ outcome (plain d) j) where
    one_more : (ts : List (ℕ × O)) (j : ℕ) (o : O) → TookFirsts d k ts → F j ≡ Some o → next_of d k ts ≡ Read (record { 0 = j }) → TookFirsts d k (ts ++ (j, o) ∷ [])
    one_more ts j o h e q =
        let r = reads_if (plain d) k ts (length ts) h.1 h.0 (next_of d) (plays d) inside (record { 0 = j }) q in
        let w : o ≡ outcome (plain d) j = of_fold j o (untaken d k j ts q).0 e in
        let l = length-append ts ((j, o) ∷ []) in (
          (λ i. ts ++ (r.0 i, (w ∙ ap (outcome (plain d)) r.0) i) ∷ []) ∙ front_more (plain d) k ts (length ts) h.1 h.0 r.1 ∙ (let z : suc (length ts) ≡ length (ts ++ (j, o) ∷ []) = omega arith in ap (firsts (plain d) k) z),
          (let z = r.1 in omega arith),
        )

    pub took_firsts : (n : ℕ) (ts us : List (ℕ × O)) → TookFirsts d k ts → Took d k F n ts us → TookFirsts d k us
    took_firsts zero ts us h w = subst (TookFirsts d k) (sym w) h
    took_firsts (suc n) ts us h w = subst (TookFirsts d k) (sym w.6) (one_more w.0 w.1 w.2 (took_firsts n ts w.0 h w.3) w.4 w.5)

  module _ (ts : List (ℕ × O)) (h : TookFirsts d k ts) where
    -- reads the one behind them next
    pub next_is : (j : ℕ) → next_of d k ts ≡ Read (record { 0 = j }) → (j ≡ get_or (reads (plain d) k) (length ts) 0) × (length ts < length (reads (plain d) k))
    next_is j e = reads_if (plain d) k ts (length ts) h.1 h.0 (next_of d) (plays d) inside (record { 0 = j }) e

    -- or ends with its outcome in the fold
    pub end_is : (o : O) → next_of d k ts ≡ Ends o → o ≡ outcome (plain d) k
    end_is o e = ends_if (plain d) k ts (length ts) h.1 h.0 (next_of d) (plays d) inside o e

    -- and has then taken all its reads
    pub took_all : (o : O) → next_of d k ts ≡ Ends o → length ts ≡ length (reads (plain d) k)
    took_all o e = by_case (next_cases (plain d) k ts (length ts) h.1 h.0 (next_of d) (plays d) inside)
      where
        by_case : ((next_of d k ts ≡ Read (record { 0 = get_or (reads (plain d) k) (length ts) 0 })) × (length ts < length (reads (plain d) k))) ⊎ ((next_of d k ts ≡ Ends (outcome (plain d) k)) × (length ts ≡ length (reads (plain d) k))) → length ts ≡ length (reads (plain d) k)
        by_case (inl r) = absurd (read_is_no_end (record { 0 = get_or (reads (plain d) k) (length ts) 0 }) o (sym r.0 ∙ e))
        by_case (inr r) = r.1
