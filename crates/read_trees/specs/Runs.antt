-- What a tree without questions and refusals comes to, and what it reads.
use Rattle.std.specs.Prelude.{ℕ, ◌+◌, List, [], ◌∷◌, Option, Some, None, Bool, true, false, if◌then◌else◌, ◌==◌, ltb}
use Rattle.read_trees.specs.Trees.{ReadTree, Goes, Stops, Pays, Reads, Asks}
use Rattle.read_trees.specs.Walks.{Facts}

-- all questions and refusals were handled: it can only end
abbrev pub Closed : Type 0 → Type 0 → Type 0
Closed O B = ReadTree ⊥ ⊥ O ⊥ B

-- it ended, or came to a piece that is not known; each with the steps that it took
pub data Came (B : Type 0) : Type 0 where
  Ended : B → ℕ → Came B
  Lacks : ℕ → ℕ → Came B

module _ {B : Type 0} where
  -- the same, n steps later
  abbrev pub later : ℕ → Came B → Came B
  later n (Ended b m) = Ended b (n + m)
  later n (Lacks j m) = Lacks j (n + m)

module _ {O C : Type 0} where
  -- by a fact, if it is known
  abbrev pub by_fact : C → Option O → (O → C) → C
  by_fact c None f = c
  by_fact c (Some o) f = f o

-- whether a piece is among these
abbrev pub is_among : ℕ → List ℕ → Bool
is_among j [] = false
is_among j (x ∷ xs) = if x == j then true else is_among j xs

-- a piece, unless it was seen before, and then what is read by a reader that saw it
abbrev pub and_new : Bool → ℕ → List ℕ → (List ℕ → List ℕ) → List ℕ
and_new true j seen more = more seen
and_new false j seen more = j ∷ more (j ∷ seen)

module _ {O B : Type 0} where
  -- what it comes to
  abbrev pub run : Facts O → Closed O B → Came B
  run F (Goes b) = Ended b 0
  run F (Stops e) = absurd e
  run F (Pays t) = later 1 (run F t)
  run F (Reads j g) = by_fact (Lacks j 0) (F j) (λ o. run F (g o))
  run F (Asks q g) = absurd q

  -- the pieces that it reads as far as they are known and the first beyond, but those seen before: each once, in the order in which it
  -- comes to them
  abbrev pub reads_of : Facts O → List ℕ → Closed O B → List ℕ
  reads_of F seen (Goes b) = []
  reads_of F seen (Stops e) = absurd e
  reads_of F seen (Pays t) = reads_of F seen t
  reads_of F seen (Reads j g) = and_new (is_among j seen) j seen (λ s. by_fact [] (F j) (λ o. reads_of F s (g o)))
  reads_of F seen (Asks q g) = absurd q

  abbrev pub only_if : Bool → Closed O B → Closed O B → Closed O B
  only_if true t u = t
  only_if false t u = u

  -- the same, but that a read of a piece from k on ends it with b
  abbrev pub below : ℕ → B → Closed O B → Closed O B
  below k b (Goes a) = Goes a
  below k b (Stops e) = absurd e
  below k b (Pays t) = Pays (below k b t)
  below k b (Reads j g) = only_if (ltb j k) (Reads j (λ o. below k b (g o))) (Goes b)
  below k b (Asks q g) = absurd q
