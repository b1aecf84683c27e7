-- A task of a piece between its calls: what it has taken, what is left to do, and the steps that it has had.
use Rattle.std.specs.Prelude.{◌≡◌, ℕ, zero, suc, ◌<◌, List, [], ◌∷◌, ◌++◌, map, Some}
use Rattle.std.specs.List.{IsDistinct}
use Rattle.std.proofs.Common.{eqb}
use Rattle.settle_core.specs.declared.next_of.NextOf.TheVariants.{Read}
use Rattle.settle_core.specs.Next.{taken_outcome}
use Rattle.read_trees.specs.Walks.{Facts, Walks}
use Rattle.read_trees.specs.Runs.{Closed, below}
use Rattle.read_meaning.specs.Pieces.{Defined, tree, next_of}

-- the numbers of what was taken
abbrev pub numbers : {O : Type 0} → List (ℕ × O) → List ℕ
numbers taken = map (λ t. t.0) taken

module _ {O B : Type 0} (d : Defined O B) (k : ℕ) where
  -- with what was taken the tree of the piece came to rest, in so many steps
  pub record Stands (taken : List (ℕ × O)) (rest : Closed O B) (steps : ℕ) : Type 0 where
    pub inside : k < d.pieces
    pub walks : Walks (taken_outcome taken) (tree d k) (below k d.broken rest) steps
    pub lower : (j : ℕ) (o : O) → taken_outcome taken j ≡ Some o → j < k
    pub distinct : IsDistinct eqb (numbers taken)

  -- n outcomes were taken from these facts, each when it was the next read
  abbrev pub Took : Facts O → ℕ → List (ℕ × O) → List (ℕ × O) → Type 0
  Took F zero old new = new ≡ old
  Took F (suc n) old new = (mid : List (ℕ × O)) × (j : ℕ) × (o : O) × Took F n old mid × (F j ≡ Some o) × (next_of d k mid ≡ Read (record { 0 = j })) × (new ≡ mid ++ (j, o) ∷ [])
