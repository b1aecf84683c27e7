-- What trees come to.
use Rattle.std.proofs.Common.{◌≡◌, inl, inr, ℕ, ◌+◌, Option, Some, None, refl, sym, ap, ◌∙◌, arith}
use Rattle.read_trees.specs.Trees.{Goes, Stops, Pays, Reads, Asks, and_then}
use Rattle.read_trees.specs.Walks.{Facts, Agrees, Walks}
use Rattle.read_trees.specs.Runs.{Closed, Came, Ended, Lacks, later, by_fact, run}

module _ {B : Type 0} where
  pub later_later : (n m : ℕ) (c : Came B) → later n (later m c) ≡ later (n + m) c
  later_later n m (Ended b i) = ap (Ended b) (omega arith)
  later_later n m (Lacks j i) = ap (Lacks j) (omega arith)

  pub later_none : (c : Came B) → later 0 c ≡ c
  later_none (Ended b i) = ap (Ended b) (omega arith)
  later_none (Lacks j i) = ap (Lacks j) (omega arith)

-- It comes to the same from where it rests, and the steps add up.
module _ {O B : Type 0} (F : Facts O) where
  run_here : (t u : Closed O B) (n : ℕ) → (u ≡ t) × (n ≡ 0) → run F t ≡ later n (run F u)
  run_here t u n e = sym (later_none (run F t)) ∙ (λ i. later (sym e.1 i) (run F (sym e.0 i)))

  pub run_walks : (t u : Closed O B) (n : ℕ) → Walks F t u n → run F t ≡ later n (run F u)
  run_walks (Goes a) u n w = run_here (Goes a) u n w
  run_walks (Stops e) u n w = absurd e
  run_walks (Pays t) u n (inl w) = run_here (Pays t) u n w
  run_walks (Pays t) u n (inr w) = ap (later 1) (run_walks t u w.0 w.2) ∙ later_later 1 w.0 (run F u) ∙ ap (λ m. later m (run F u)) (sym w.1)
  run_walks (Reads j g) u n (inl w) = run_here (Reads j g) u n w
  run_walks (Reads j g) u n (inr w) = ap (λ p. by_fact (Lacks j 0) p (λ o. run F (g o))) w.1 ∙ run_walks (g w.0) u n w.2
  run_walks (Asks q g) u n w = absurd q

-- Only what is not known is lacked.
module _ {O B : Type 0} (F : Facts O) where
  abbrev pub LacksUnknown : Came B → Type 0
  LacksUnknown (Ended b n) = Unit {0}
  LacksUnknown (Lacks j n) = F j ≡ None

  unknown_later : (c : Came B) → LacksUnknown c → LacksUnknown (later 1 c)
  unknown_later (Ended b n) h = tt
  unknown_later (Lacks j n) h = h

  unknown_fact : (j : ℕ) (g : O → Closed O B) → ((o : O) → LacksUnknown (run F (g o))) → (p : Option O) → F j ≡ p → LacksUnknown (by_fact (Lacks j 0) p (λ o. run F (g o)))
  unknown_fact j g h None e = e
  unknown_fact j g h (Some o) e = h o

  pub lacks_unknown : (t : Closed O B) → LacksUnknown (run F t)
  lacks_unknown (Goes b) = tt
  lacks_unknown (Stops e) = absurd e
  lacks_unknown (Pays t) = unknown_later (run F t) (lacks_unknown t)
  lacks_unknown (Reads j g) = unknown_fact j g (λ o. lacks_unknown (g o)) (F j) refl
  lacks_unknown (Asks q g) = absurd q

-- One after the other: the second from where the first ended.
module _ {O A B : Type 0} (F : Facts O) (f : A → Closed O B) where
  abbrev pub run_on : Came A → Came B
  run_on (Ended a n) = later n (run F (f a))
  run_on (Lacks j n) = Lacks j n

  on_later : (c : Came A) → later 1 (run_on c) ≡ run_on (later 1 c)
  on_later (Ended a n) = later_later 1 n (run F (f a))
  on_later (Lacks j n) = refl

  module _ (j : ℕ) (g : O → Closed O A) (on : (o : O) → run F (and_then (g o) f) ≡ run_on (run F (g o))) where
    on_fact : (p : Option O) → by_fact (Lacks j 0) p (λ o. run F (and_then (g o) f)) ≡ run_on (by_fact (Lacks j 0) p (λ o. run F (g o)))
    on_fact None = refl
    on_fact (Some o) = on o

  pub run_then : (t : Closed O A) → run F (and_then t f) ≡ run_on (run F t)
  run_then (Goes a) = sym (later_none (run F (f a)))
  run_then (Stops e) = absurd e
  run_then (Pays t) = ap (later 1) (run_then t) ∙ on_later (run F t)
  run_then (Reads j g) = on_fact j g (λ o. run_then (g o)) (F j)
  run_then (Asks q g) = absurd q

-- With more facts it ends as it did; or lacks the same piece, where that is still not known.
module _ {O B : Type 0} (F G : Facts O) (more : Agrees F G) where
  abbrev pub Still : Came B → Type 0
  Still (Ended b n) = Unit {0}
  Still (Lacks j n) = G j ≡ None

  still_before : (c : Came B) → Still (later 1 c) → Still c
  still_before (Ended b n) h = tt
  still_before (Lacks j n) h = h

  module _ (j : ℕ) (g : O → Closed O B) (same : (o : O) → Still (run F (g o)) → run G (g o) ≡ run F (g o)) where
    more_fact : (p : Option O) → F j ≡ p → Still (by_fact (Lacks j 0) p (λ o. run F (g o))) → by_fact (Lacks j 0) (G j) (λ o. run G (g o)) ≡ by_fact (Lacks j 0) p (λ o. run F (g o))
    more_fact None e h = ap (λ p. by_fact (Lacks j 0) p (λ o. run G (g o))) h
    more_fact (Some o) e h = ap (λ p. by_fact (Lacks j 0) p (λ o. run G (g o))) (more j o e) ∙ same o h

  pub run_more : (t : Closed O B) → Still (run F t) → run G t ≡ run F t
  run_more (Goes b) h = refl
  run_more (Stops e) h = absurd e
  run_more (Pays t) h = ap (later 1) (run_more t (still_before (run F t) h))
  run_more (Reads j g) h = more_fact j g (λ o. run_more (g o)) (F j) refl h
  run_more (Asks q g) h = absurd q
