-- What keeps a task standing, and what its piece does next.
use Rattle.std.proofs.Common.{◌≡◌, ◌⊎◌, ℕ, ◌+◌, ◌<◌, ◌≤◌, List, [], ◌∷◌, ◌++◌, length, Bool, true, false, ltb, Some, None, sym, ap, ◌∙◌, subst, arith, inl, inr}
use Rattle.std.specs.List.{IsDistinct}
use Rattle.std.proofs.lemmas.Bool.{lt-ltb, le-ltb}
use Rattle.std.proofs.lemmas.Map.Steps.{length-le_from_distinct_below}
use Rattle.std.proofs.lemmas.List.{length-map}
use Rattle.settle_core.specs.declared.next_of.NextOf.TheVariants.{Read, Ends}
use Rattle.settle_core.specs.Next.{taken_outcome}
use Rattle.read_trees.specs.Trees.{Goes, Stops, Pays, Reads, Asks}
use Rattle.read_trees.specs.Walks.{Facts, Walks}
use Rattle.read_trees.specs.Runs.{Closed, Ended, Lacks, later, by_fact, run, below, only_if}
use Rattle.read_trees.proofs.Walking.{stays, goes_on, walks_more}
use Rattle.read_trees.proofs.Running.{run_walks}
use Rattle.read_meaning.specs.Pieces.{Defined, tree, next_after, next_of}
use Rattle.read_meaning.specs.Standing.{Stands, numbers}
use Rattle.read_meaning.proofs.Taken.{taken_stays, taken_before, has_outcome, distinct_push}

-- facts of pieces below k alone lead a guarded tree where they lead the tree
module _ {O B : Type 0} (F : Facts O) (k : ℕ) (b : B) (lower : (j : ℕ) (o : O) → F j ≡ Some o → j < k) where
  here_below : (t u : Closed O B) (n : ℕ) → (u ≡ t) × (n ≡ 0) → Walks F (below k b t) (below k b u) n
  here_below t u n e = subst (λ x. Walks F (below k b t) (below k b x) n) (sym e.0) (subst (λ i. Walks F (below k b t) (below k b t) i) (sym e.1) (stays F (below k b t)))

  pub walks_below : (t u : Closed O B) (n : ℕ) → Walks F t u n → Walks F (below k b t) (below k b u) n
  walks_below (Goes a) u n w = here_below (Goes a) u n w
  walks_below (Stops e) u n w = absurd e
  walks_below (Pays t) u n (inl w) = here_below (Pays t) u n w
  walks_below (Pays t) u n (inr w) = inr (w.0, w.1, walks_below t u w.0 w.2)
  walks_below (Reads j g) u n (inl w) = here_below (Reads j g) u n w
  walks_below (Reads j g) u n (inr w) = subst (λ c. Walks F (only_if c (Reads j (λ o. below k b (g o))) (Goes b)) (below k b u) n) (sym (lt-ltb j k (lower j w.0 w.1))) (inr (w.0, w.1, walks_below (g w.0) u n w.2))
  walks_below (Asks q g) u n w = absurd q

module _ {O B : Type 0} (d : Defined O B) (k : ℕ) where
  -- a new task has all its piece before it
  pub stands_new : k < d.pieces → Stands d k [] (d.piece k) 0
  unfolding IsDistinct
  stands_new l = record { inside = l; walks = stays (λ j. None) (tree d k); lower = λ j o e. absurd (let c : ⊥ = cc in c); distinct = tt }

  module _ (taken : List (ℕ × O)) (rest : Closed O B) (n : ℕ) (s : Stands d k taken rest n) where
    -- what is left walks on
    pub stands_on : (u : Closed O B) (m : ℕ) → Walks (taken_outcome taken) rest u m → Stands d k taken u (n + m)
    stands_on u m w = record {
      inside = s.inside;
      walks = goes_on (taken_outcome taken) (tree d k) (below k d.broken rest) (below k d.broken u) n m s.walks (walks_below (taken_outcome taken) k d.broken s.lower rest u m w);
      lower = s.lower;
      distinct = s.distinct;
    }

    -- one more outcome is taken
    pub stands_more : (j : ℕ) (o : O) → taken_outcome taken j ≡ None → j < k → Stands d k (taken ++ (j, o) ∷ []) rest n
    stands_more j o e l = record {
      inside = s.inside;
      walks = walks_more (taken_outcome taken) (taken_outcome (taken ++ (j, o) ∷ [])) (taken_stays taken ((j, o) ∷ [])) (tree d k) (below k d.broken rest) n s.walks;
      lower = λ i x q. by_last i x (taken_before taken j o i x q);
      distinct = distinct_push taken j o e s.distinct;
    }
      where
        by_last : (i : ℕ) (x : O) → (taken_outcome taken i ≡ Some x) ⊎ ((j ≡ i) × (o ≡ x)) → i < k
        by_last i x (inl q) = s.lower i x q
        by_last i x (inr q) = subst (λ y. y < k) q.0 l

    -- it has taken no more outcomes than there are pieces before it
    pub takes_few : length taken ≤ k
    takes_few = let h = length-le_from_distinct_below (numbers taken) k s.distinct (λ q e. (let r = has_outcome taken q e in s.lower q r.0 r.1)) in let e = length-map taken (λ (t : ℕ × O). t.0) in omega arith

    -- what is left begins with a read
    module _ (j : ℕ) (g : O → Closed O B) (q : rest ≡ Reads j g) where
      at_read : (c : Bool) → ltb j k ≡ c → below k d.broken rest ≡ only_if c (Reads j (λ o. below k d.broken (g o))) (Goes d.broken)
      at_read c e = ap (below k d.broken) q ∙ ap (λ c. only_if c (Reads j (λ o. below k d.broken (g o))) (Goes d.broken)) e

      -- of a piece before it that it has not taken: that is its next read
      pub next_is_read : taken_outcome taken j ≡ None → j < k → next_of d k taken ≡ Read (record { 0 = j })
      next_is_read e l = ap (next_after d) (run_walks (taken_outcome taken) (tree d k) (below k d.broken rest) n s.walks
          ∙ ap (λ t. later n (run (taken_outcome taken) t)) (at_read true (lt-ltb j k l))
          ∙ ap (λ p. later n (by_fact (Lacks j 0) p (λ o. run (taken_outcome taken) (below k d.broken (g o))))) e)

      -- of another piece: that ends it
      pub stands_broken : k ≤ j → Stands d k taken (Goes d.broken) n
      stands_broken l = record { inside = s.inside; walks = subst (λ t. Walks (taken_outcome taken) (tree d k) t n) (at_read false (le-ltb j k l)) s.walks; lower = s.lower; distinct = s.distinct }

    -- nothing is left
    pub next_is_end : (b : B) → rest ≡ Goes b → next_of d k taken ≡ Ends (d.finish b n)
    next_is_end b q = ap (next_after d) (run_walks (taken_outcome taken) (tree d k) (below k d.broken rest) n s.walks ∙ ap (λ t. later n (run (taken_outcome taken) (below k d.broken t))) q
        ∙ ap (Ended b) (let e : n + 0 ≡ n = omega arith in e))
