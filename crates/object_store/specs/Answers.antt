-- What the calls of a store answer.
use Rattle.std.specs.Prelude.{◌≡◌, Bool, true, false, not, List, [], ◌∷◌, ◌++◌, Option, None, Some, Result, Ok, Err}
use Rattle.core_pointer.specs.declared.origin.Origin.{Origin}
use Rattle.core_shape.specs.declared.shape.Shape.{Shape}
use Rattle.core_value.specs.declared.scalar.Scalar.{Scalar}
use Rattle.core_value.specs.declared.value.Value.{Value}
use Rattle.core_value.specs.declared.value.Value.TheVariants as value
use Rattle.core_words.specs.declared.stop.Cause.{Cause}
use Rattle.core_words.specs.declared.stop.ReadStop.{ReadStop}
use Rattle.core_words.specs.declared.stop.ReadStop.TheVariants.{Refused, Memory}
use Rattle.object_store.specs.Trees as tree
use Rattle.object_store.specs.Trees.{NotBegun, Unset, Has, Marks, Tree, Leaf, Trees, end_tree, more_tree, not_const, sealed}
use Rattle.object_store.specs.Objects.{IsFresh, Object}

-- a new object behind the others, of which nothing has begun
abbrev pub Created : Shape → Origin → Bool → List Object → List Object → Type 0
Created shape p is_const old new = (t : Tree) × IsFresh is_const shape t × (new ≡ old ++ record { origin = p; shape = shape; tree = t } ∷ [])

-- a tree whose scalars have these values, in order, and what is left of the values
pub record Filled : Type 0 where
  pub tree : Tree
  pub rest : List Scalar

pub record FilledTrees : Type 0 where
  pub trees : Trees
  pub rest : List Scalar

abbrev fill_scalar : Marks → List Scalar → Filled
fill_scalar m [] = record { tree = Leaf m true NotBegun; rest = [] }
fill_scalar m (v ∷ vs) = record { tree = Leaf m true (Has v); rest = vs }

abbrev mutual
  filled : Tree → List Scalar → Filled
  filled (Leaf m true x) vs = fill_scalar m vs
  filled (Leaf m false x) vs = record { tree = Leaf m false Unset; rest = vs }
  filled (tree.Class m bs ms) vs =
      let b = filled_all bs vs in
      let s = filled_all ms b.rest in
      record { tree = tree.Class m b.trees s.trees; rest = s.rest }
  filled (tree.Array m es) vs = let e = filled_all es vs in record { tree = tree.Array m e.trees; rest = e.rest }

  filled_all : Trees → List Scalar → FilledTrees
  filled_all end_tree vs = record { trees = end_tree; rest = vs }
  filled_all (more_tree t ts) vs =
      let f = filled t vs in
      let g = filled_all ts f.rest in
      record { trees = more_tree f.tree g.trees; rest = g.rest }

abbrev scalars : Value → List Scalar
scalars (value.Scalar v) = v ∷ []
scalars (value.Object x) = x.scalars

abbrev pub brought : Option Value → Tree → Tree
brought None t = not_const t
brought (Some v) t = sealed (filled t (scalars v)).tree

abbrev is_known : Option Value → Bool
is_known None = false
is_known (Some v) = true

-- An object that is not made here behind the others: with its value const, and its initialization has ended; without one there for its shape alone, so
-- not const, whatever its shape says. Scalars that the value lacks have not begun, and those beyond are dropped.
abbrev pub Brought : Shape → Origin → Option Value → List Object → List Object → Type 0
Brought shape p v old new = (t : Tree) × IsFresh (is_known v) shape t × (new ≡ old ++ record { origin = p; shape = shape; tree = brought v t } ∷ [])

-- the objects are those of the definition, or it is refused as the definition says, and they are as before
abbrev pub Answers : {U : Type 0} → Result U Cause → Result (List Object) Cause → List Object → List Object → Type 0
Answers (Ok done) (Ok os) old new = new ≡ os
Answers (Err c) (Err d) old new = (c ≡ d) × (new ≡ old)
Answers (Ok done) (Err d) old new = ⊥
Answers (Err c) (Ok os) old new = ⊥

-- the same of a call that gives something and can want memory
abbrev pub Reads : {A : Type 0} → Result A ReadStop → Result A Cause → Type 0
Reads (Ok x) (Ok y) = x ≡ y
Reads (Err (Refused c)) (Err d) = c ≡ d
Reads (Err Memory) y = Unit {0}
Reads (Ok x) (Err d) = ⊥
Reads (Err (Refused c)) (Ok y) = ⊥
