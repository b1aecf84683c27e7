-- The reads of a tree: in the order in which it comes to them, none twice, and all that decides what it comes to.
use Rattle.std.proofs.Common.{◌≡◌, ◌≢◌, ℕ, zero, suc, ◌+◌, ◌<◌, List, [], ◌∷◌, length, get_or, Bool, true, false, if◌then◌else◌, ◌==◌, ltb, Option, Some, None, refl, sym, ap, ◌∙◌, subst, arith}
use Rattle.std.proofs.lemmas.Bool.{eq-eqb, eqb-true, ltb-true}
use Rattle.read_trees.specs.Trees.{Goes, Stops, Pays, Reads, Asks}
use Rattle.read_trees.specs.Walks.{Facts}
use Rattle.read_trees.specs.Runs.{Closed, Came, Ended, Lacks, later, by_fact, is_among, and_new, run, reads_of, below, only_if}

-- what is read where a piece came to this, or is not known
module _ {O B : Type 0} (F : Facts O) (g : O → Closed O B) where
  abbrev pub reads_on : List ℕ → Option O → List ℕ
  reads_on s p = by_fact [] p (λ o. reads_of F s (g o))

module _ {O : Type 0} (F T : Facts O) where
  -- T is as F at each of these pieces
  abbrev pub SameSeen : List ℕ → Type 0
  SameSeen s = (i : ℕ) → is_among i s ≡ true → T i ≡ F i

  -- T is as F at the first n of these pieces
  abbrev pub SameFirst : ℕ → List ℕ → Type 0
  SameFirst n rs = (i : ℕ) → i < n → T (get_or rs i 0) ≡ F (get_or rs i 0)

  -- the n-th is there, and not known in T
  abbrev pub LacksAt : ℕ → List ℕ → Type 0
  LacksAt n rs = (n < length rs) × (T (get_or rs n 0) ≡ None)

  seen_none : SameSeen []
  seen_none i e = absurd (let c : ⊥ = cc in c)

  seen_more : (j : ℕ) (s : List ℕ) → T j ≡ F j → SameSeen s → SameSeen (j ∷ s)
  seen_more j s e h i l = by_eq (j == i) refl l
    where
      by_eq : (b : Bool) → (j == i) ≡ b → (if b then true else is_among i s) ≡ true → T i ≡ F i
      by_eq true q l = subst (λ x. T x ≡ F x) (eqb-true j i q) e
      by_eq false q l = h i l

-- Facts that are as F on all that is read lead where F leads.
module _ {O B : Type 0} (F T : Facts O) where
  module _ (j : ℕ) (g : O → Closed O B) (same : (o : O) (s : List ℕ) → SameSeen F T s → SameFirst F T (length (reads_of F s (g o))) (reads_of F s (g o)) → run T (g o) ≡ run F (g o)) where
    same_fact : (p : Option O) (s : List ℕ) → T j ≡ p → SameSeen F T s → SameFirst F T (length (reads_on F g s p)) (reads_on F g s p) → run T (Reads j g) ≡ by_fact (Lacks j 0) p (λ o. run F (g o))
    same_fact None s e k h = ap (λ p. by_fact (Lacks j 0) p (λ o. run T (g o))) e
    same_fact (Some o) s e k h = ap (λ p. by_fact (Lacks j 0) p (λ o. run T (g o))) e ∙ same o s k h

    same_new : (b : Bool) (s : List ℕ) → is_among j s ≡ b → SameSeen F T s
        → SameFirst F T (length (and_new b j s (λ s. reads_on F g s (F j)))) (and_new b j s (λ s. reads_on F g s (F j))) → run T (Reads j g) ≡ run F (Reads j g)
    same_new true s e k h = same_fact (F j) s (k j e) k h
    same_new false s e k h = let q = h 0 (omega arith) in same_fact (F j) (j ∷ s) q (seen_more F T j s q k) (λ i l. h (suc i) (omega arith))

  same_run_seen : (t : Closed O B) (s : List ℕ) → SameSeen F T s → SameFirst F T (length (reads_of F s t)) (reads_of F s t) → run T t ≡ run F t
  same_run_seen (Goes b) s k h = refl
  same_run_seen (Stops e) s k h = absurd e
  same_run_seen (Pays t) s k h = ap (later 1) (same_run_seen t s k h)
  same_run_seen (Reads j g) s k h = same_new j g (λ o s. same_run_seen (g o) s) (is_among j s) s refl k h
  same_run_seen (Asks q g) s k h = absurd q

  pub same_run : (t : Closed O B) → SameFirst F T (length (reads_of F [] t)) (reads_of F [] t) → run T t ≡ run F t
  same_run t h = same_run_seen t [] (seen_none F T) h

-- They read the same pieces, too.
module _ {O B : Type 0} (F T : Facts O) where
  module _ (j : ℕ) (g : O → Closed O B) (same : (o : O) (s : List ℕ) → SameSeen F T s → SameFirst F T (length (reads_of F s (g o))) (reads_of F s (g o)) → reads_of T s (g o) ≡ reads_of F s (g o)) where
    same_on : (p : Option O) (s : List ℕ) → T j ≡ p → SameSeen F T s → SameFirst F T (length (reads_on F g s p)) (reads_on F g s p) → reads_on T g s (T j) ≡ reads_on F g s p
    same_on None s e k h = ap (reads_on T g s) e
    same_on (Some o) s e k h = ap (reads_on T g s) e ∙ same o s k h

    same_new_reads : (b : Bool) (s : List ℕ) → is_among j s ≡ b → SameSeen F T s → SameFirst F T (length (and_new b j s (λ s. reads_on F g s (F j)))) (and_new b j s (λ s. reads_on F g s (F j)))
        → and_new b j s (λ s. reads_on T g s (T j)) ≡ and_new b j s (λ s. reads_on F g s (F j))
    same_new_reads true s e k h = same_on (F j) s (k j e) k h
    same_new_reads false s e k h = let q = h 0 (omega arith) in ap (λ rs. j ∷ rs) (same_on (F j) (j ∷ s) q (seen_more F T j s q k) (λ i l. h (suc i) (omega arith)))

  same_reads_seen : (t : Closed O B) (s : List ℕ) → SameSeen F T s → SameFirst F T (length (reads_of F s t)) (reads_of F s t) → reads_of T s t ≡ reads_of F s t
  same_reads_seen (Goes b) s k h = refl
  same_reads_seen (Stops e) s k h = absurd e
  same_reads_seen (Pays t) s k h = same_reads_seen t s k h
  same_reads_seen (Reads j g) s k h = same_new_reads j g (λ o s. same_reads_seen (g o) s) (is_among j s) s refl k h
  same_reads_seen (Asks q g) s k h = absurd q

  pub same_reads : (t : Closed O B) → SameFirst F T (length (reads_of F [] t)) (reads_of F [] t) → reads_of T [] t ≡ reads_of F [] t
  same_reads t h = same_reads_seen t [] (seen_none F T) h

-- Where they know the first n and not the one behind, that is what is read next.
module _ {O B : Type 0} (F T : Facts O) where
  abbrev pub ReadsNext : ℕ → List ℕ → Closed O B → Type 0
  ReadsNext n rs t = (m : ℕ) × (run T t ≡ Lacks (get_or rs n 0) m)

  module _ (j : ℕ) (g : O → Closed O B) (next : (o : O) (s : List ℕ) (n : ℕ) → SameSeen F T s → SameFirst F T n (reads_of F s (g o)) → LacksAt F T n (reads_of F s (g o)) → ReadsNext n (reads_of F s (g o)) (g o)) where
    next_fact : (p : Option O) (s : List ℕ) (n : ℕ) → T j ≡ p → SameSeen F T s → SameFirst F T n (reads_on F g s p) → LacksAt F T n (reads_on F g s p) → ReadsNext n (reads_on F g s p) (Reads j g)
    next_fact None s n e k h l = absurd (let w = l.0 in omega arith)
    next_fact (Some o) s n e k h l = let r = next o s n k h l in (r.0, ap (λ p. by_fact (Lacks j 0) p (λ o. run T (g o))) e ∙ r.1)

    next_new : (b : Bool) (s : List ℕ) (n : ℕ) → is_among j s ≡ b → SameSeen F T s → SameFirst F T n (and_new b j s (λ s. reads_on F g s (F j)))
        → LacksAt F T n (and_new b j s (λ s. reads_on F g s (F j))) → ReadsNext n (and_new b j s (λ s. reads_on F g s (F j))) (Reads j g)
    next_new true s n e k h l = next_fact (F j) s n (k j e) k h l
    next_new false s zero e k h l = (0, ap (λ p. by_fact (Lacks j 0) p (λ o. run T (g o))) l.1)
    next_new false s (suc n) e k h l = let q = h 0 (omega arith) in next_fact (F j) (j ∷ s) n q (seen_more F T j s q k) (λ i x. h (suc i) (omega arith)) ((let w = l.0 in omega arith), l.1)

  next_run_seen : (t : Closed O B) (s : List ℕ) (n : ℕ) → SameSeen F T s → SameFirst F T n (reads_of F s t) → LacksAt F T n (reads_of F s t) → ReadsNext n (reads_of F s t) t
  next_run_seen (Goes b) s n k h l = absurd (let w = l.0 in omega arith)
  next_run_seen (Stops e) s n k h l = absurd e
  next_run_seen (Pays t) s n k h l = let r = next_run_seen t s n k h l in (1 + r.0, ap (later 1) r.1)
  next_run_seen (Reads j g) s n k h l = next_new j g (λ o s n. next_run_seen (g o) s n) (is_among j s) s n refl k h l
  next_run_seen (Asks q g) s n k h l = absurd q

  pub next_run : (t : Closed O B) (n : ℕ) → SameFirst F T n (reads_of F [] t) → LacksAt F T n (reads_of F [] t) → ReadsNext n (reads_of F [] t) t
  next_run t n h l = next_run_seen t [] n (seen_none F T) h l

-- no number stands twice
abbrev pub Once : List ℕ → Type 0
Once rs = (i j : ℕ) → i < j → j < length rs → get_or rs i 0 ≢ get_or rs j 0

abbrev pub AllBelow : ℕ → List ℕ → Type 0
AllBelow k rs = (i : ℕ) → i < length rs → get_or rs i 0 < k

abbrev AllNew : List ℕ → List ℕ → Type 0
AllNew s rs = (i : ℕ) → i < length rs → is_among (get_or rs i 0) s ≡ false

not_first : (j i : ℕ) (b : Bool) (s : List ℕ) → (j == i) ≡ b → (if b then true else is_among i s) ≡ false → (j ≢ i) × (is_among i s ≡ false)
not_first j i true s e h = absurd (let p : true ≡ false = h in let c : ⊥ = cc in c)
not_first j i false s e h = (λ q. (let p : true ≡ false = sym (eq-eqb j i q) ∙ e in let c : ⊥ = cc in c), h)

not_among_more : (j : ℕ) (s rs : List ℕ) → AllNew (j ∷ s) rs → (i : ℕ) → i < length rs → (j ≢ get_or rs i 0) × (is_among (get_or rs i 0) s ≡ false)
not_among_more j s rs h i l = not_first j (get_or rs i 0) (j == get_or rs i 0) s refl (h i l)

module _ {O B : Type 0} (F : Facts O) where
  module _ (j : ℕ) (g : O → Closed O B) (new : (o : O) (s : List ℕ) → AllNew s (reads_of F s (g o))) where
    new_fact : (p : Option O) (s : List ℕ) → AllNew s (reads_on F g s p)
    new_fact None s i l = absurd (omega arith)
    new_fact (Some o) s i l = new o s i l

    new_new : (b : Bool) (s : List ℕ) → is_among j s ≡ b → AllNew s (and_new b j s (λ s. reads_on F g s (F j)))
    new_new true s e i l = new_fact (F j) s i l
    new_new false s e zero l = e
    new_new false s e (suc i) l = (not_among_more j s (reads_on F g (j ∷ s) (F j)) (new_fact (F j) (j ∷ s)) i (omega arith)).1

  new_run : (t : Closed O B) (s : List ℕ) → AllNew s (reads_of F s t)
  new_run (Goes b) s i l = absurd (omega arith)
  new_run (Stops e) s i l = absurd e
  new_run (Pays t) s i l = new_run t s i l
  new_run (Reads j g) s i l = new_new j g (λ o s. new_run (g o) s) (is_among j s) s refl i l
  new_run (Asks q g) s i l = absurd q

  module _ (j : ℕ) (g : O → Closed O B) (once : (o : O) (s : List ℕ) → Once (reads_of F s (g o))) where
    once_fact : (p : Option O) (s : List ℕ) → Once (reads_on F g s p)
    once_fact None s a b l w = absurd (omega arith)
    once_fact (Some o) s a b l w = once o s a b l w

    once_new : (b : Bool) (s : List ℕ) → Once (and_new b j s (λ s. reads_on F g s (F j)))
    once_new true s a b l w = once_fact (F j) s a b l w
    once_new false s a zero l w = absurd (omega arith)
    once_new false s zero (suc b) l w = (not_among_more j s (reads_on F g (j ∷ s) (F j)) (new_fact j g (λ o s. new_run (g o) s) (F j) (j ∷ s)) b (omega arith)).0
    once_new false s (suc a) (suc b) l w = once_fact (F j) (j ∷ s) a b (omega arith) (omega arith)

  once_run_seen : (t : Closed O B) (s : List ℕ) → Once (reads_of F s t)
  once_run_seen (Goes b) s i j l w = absurd (omega arith)
  once_run_seen (Stops e) s i j l w = absurd e
  once_run_seen (Pays t) s i j l w = once_run_seen t s i j l w
  once_run_seen (Reads x g) s i j l w = once_new x g (λ o s. once_run_seen (g o) s) (is_among x s) s i j l w
  once_run_seen (Asks q g) s i j l w = absurd q

  pub once_run : (t : Closed O B) → Once (reads_of F [] t)
  once_run t = once_run_seen t []

-- A guarded tree reads only pieces below k, lacks one of these that is not known, and ends where all of these are known.
module _ {O B : Type 0} (F : Facts O) (k : ℕ) (b : B) where
  abbrev guarded : (O → Closed O B) → O → Closed O B
  guarded g o = below k b (g o)

  module _ (j : ℕ) (g : O → Closed O B) (lower : (o : O) (s : List ℕ) → AllBelow k (reads_of F s (below k b (g o)))) where
    lower_fact : (p : Option O) (s : List ℕ) → AllBelow k (reads_on F (guarded g) s p)
    lower_fact None s i l = absurd (omega arith)
    lower_fact (Some o) s i l = lower o s i l

    lower_new : (c : Bool) (s : List ℕ) → j < k → AllBelow k (and_new c j s (λ s. reads_on F (guarded g) s (F j)))
    lower_new true s e i l = lower_fact (F j) s i l
    lower_new false s e zero l = e
    lower_new false s e (suc i) l = lower_fact (F j) (j ∷ s) i (omega arith)

    lower_guard : (c : Bool) (s : List ℕ) → ltb j k ≡ c → AllBelow k (reads_of F s (only_if c (Reads j (guarded g)) (Goes b)))
    lower_guard true s e i l = lower_new (is_among j s) s (ltb-true j k e) i l
    lower_guard false s e i l = absurd (omega arith)

  lower_run_seen : (t : Closed O B) (s : List ℕ) → AllBelow k (reads_of F s (below k b t))
  lower_run_seen (Goes a) s i l = absurd (omega arith)
  lower_run_seen (Stops e) s i l = absurd e
  lower_run_seen (Pays t) s i l = lower_run_seen t s i l
  lower_run_seen (Reads j g) s i l = lower_guard j g (λ o s. lower_run_seen (g o) s) (ltb j k) s refl i l
  lower_run_seen (Asks q g) s i l = absurd q

  pub lower_run : (t : Closed O B) → AllBelow k (reads_of F [] (below k b t))
  lower_run t = lower_run_seen t []

  -- what is lacked is below k, and not known
  abbrev pub LacksBelow : Came B → Type 0
  LacksBelow (Ended a n) = Unit {0}
  LacksBelow (Lacks j n) = (j < k) × (F j ≡ None)

  below_later : (c : Came B) → LacksBelow c → LacksBelow (later 1 c)
  below_later (Ended a n) h = tt
  below_later (Lacks j n) h = h

  module _ (j : ℕ) (g : O → Closed O B) (lacks : (o : O) → LacksBelow (run F (below k b (g o)))) where
    lacks_fact : (p : Option O) → F j ≡ p → j < k → LacksBelow (by_fact (Lacks j 0) p (λ o. run F (below k b (g o))))
    lacks_fact None e l = (l, e)
    lacks_fact (Some o) e l = lacks o

    lacks_guard : (c : Bool) → ltb j k ≡ c → LacksBelow (run F (only_if c (Reads j (guarded g)) (Goes b)))
    lacks_guard true e = lacks_fact (F j) refl (ltb-true j k e)
    lacks_guard false e = tt

  pub lacks_below : (t : Closed O B) → LacksBelow (run F (below k b t))
  lacks_below (Goes a) = tt
  lacks_below (Stops e) = absurd e
  lacks_below (Pays t) = below_later (run F (below k b t)) (lacks_below t)
  lacks_below (Reads j g) = lacks_guard j g (λ o. lacks_below (g o)) (ltb j k) refl
  lacks_below (Asks q g) = absurd q

  abbrev pub HasEnded : Came B → Type 0
  HasEnded (Ended a n) = Unit {0}
  HasEnded (Lacks j n) = ⊥

  ended_by : ((j : ℕ) → j < k → (o : O) × (F j ≡ Some o)) → (c : Came B) → LacksBelow c → HasEnded c
  ended_by h (Ended a n) w = tt
  ended_by h (Lacks j n) w = let e : ◌≡◌ {A = Option O} None (Some (h j w.0).0) = sym w.1 ∙ (h j w.0).1 in let c : ⊥ = cc in c

  pub ends_where_known : ((j : ℕ) → j < k → (o : O) × (F j ≡ Some o)) → (t : Closed O B) → HasEnded (run F (below k b t))
  ends_where_known h t = ended_by h (run F (below k b t)) (lacks_below t)
