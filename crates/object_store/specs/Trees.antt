-- Objects as trees of subobjects ([intro.object], [basic.life]).
use Rattle.std.specs.Prelude.{ℕ, zero, suc, Bool, true, false, ◌&&◌, ◌||◌, not, List, [], ◌∷◌, ◌++◌, Option, None, Some}
use Rattle.core_pointer.specs.declared.path.PathStep.{PathStep}
use Rattle.core_pointer.specs.declared.path.PathStep.TheVariants.{Base, Member, Element}
use Rattle.core_value.specs.declared.scalar.Scalar.{Scalar}

-- What a leaf is: a scalar, or a class or an array without parts.
-- It has not begun, lives without a value, lives with one, or has ended for good. A leaf that is no scalar has no value.
pub data State : Type 0 where
  NotBegun : State
  Unset : State
  Has : Scalar → State
  Ended : State

-- whether a subobject is const, and whether its initialization has ended
pub record Marks : Type 0 where
  pub is_const : Bool
  pub is_sealed : Bool

mutual
  pub data Tree : Type 0 where
    -- a leaf, and whether it is a scalar
    Leaf : Marks → Bool → State → Tree
    -- the bases and then the data members of a class
    Class : Marks → Trees → Trees → Tree
    -- the elements of an array
    Array : Marks → Trees → Tree

  pub data Trees : Type 0 where
    end_tree : Trees
    more_tree : Tree → Trees → Trees

-- the part of a number
abbrev pub nth : Trees → ℕ → Option Tree
nth end_tree i = None
nth (more_tree t ts) zero = Some t
nth (more_tree t ts) (suc i) = nth ts i

abbrev pub set_nth : Trees → ℕ → Tree → Trees
set_nth end_tree i u = end_tree
set_nth (more_tree t ts) zero u = more_tree u ts
set_nth (more_tree t ts) (suc i) u = more_tree t (set_nth ts i u)

-- one step of a way, where it fits
abbrev pub part : Tree → PathStep → Option Tree
part (Class m bases members) (Base i) = nth bases i
part (Class m bases members) (Member i) = nth members i
part (Array m elements) (Element i) = nth elements i
part _ _ = None

abbrev pub with_part : Tree → PathStep → Tree → Tree
with_part (Class m bases members) (Base i) u = Class m (set_nth bases i u) members
with_part (Class m bases members) (Member i) u = Class m bases (set_nth members i u)
with_part (Array m elements) (Element i) u = Array m (set_nth elements i u)
with_part t _ u = t

abbrev pub part_if : Option Tree → PathStep → Option Tree
part_if None step = None
part_if (Some t) step = part t step

abbrev go : Option Tree → List PathStep → Option Tree
go t [] = t
go t (step ∷ path) = go (part_if t step) path

-- the subobject at the end of a way; None where the way does not fit
abbrev pub subobject : Tree → List PathStep → Option Tree
subobject t path = go (Some t) path

abbrev changed_part : Tree → PathStep → Option Tree → (Tree → Tree) → Tree
changed_part t step None f = t
changed_part t step (Some u) f = with_part t step (f u)

-- the same object but for what stands at the end of a way; where the way does not fit, all of it
abbrev pub changed : (Tree → Tree) → List PathStep → Tree → Tree
changed f [] t = f t
changed f (step ∷ path) t = changed_part t step (part t step) (changed f path)

abbrev pub marks : Tree → Marks
marks (Leaf m s x) = m
marks (Class m bs ms) = m
marks (Array m es) = m

-- const, and its initialization has ended
abbrev pub is_closed : Tree → Bool
is_closed t = (marks t).is_const && (marks t).is_sealed

abbrev pub holds_if : (Tree → Bool) → Option Tree → Bool
holds_if f None = false
holds_if f (Some t) = f t

-- some node on the way is closed
abbrev pub is_closed_on : List PathStep → Tree → Bool
is_closed_on [] t = is_closed t
is_closed_on (step ∷ path) t = is_closed t || holds_if (is_closed_on path) (part t step)

-- f of each leaf
abbrev mutual
  pub all_leaves : (Bool → State → Bool) → Tree → Bool
  all_leaves f (Leaf m is_scalar x) = f is_scalar x
  all_leaves f (Class m bs ms) = all_leaves_of f bs && all_leaves_of f ms
  all_leaves f (Array m es) = all_leaves_of f es

  pub all_leaves_of : (Bool → State → Bool) → Trees → Bool
  all_leaves_of f end_tree = true
  all_leaves_of f (more_tree t ts) = all_leaves f t && all_leaves_of f ts

abbrev mutual
  pub each_leaf : (State → State) → Tree → Tree
  each_leaf f (Leaf m s x) = Leaf m s (f x)
  each_leaf f (Class m bs ms) = Class m (each_leaf_of f bs) (each_leaf_of f ms)
  each_leaf f (Array m es) = Array m (each_leaf_of f es)

  pub each_leaf_of : (State → State) → Trees → Trees
  each_leaf_of f end_tree = end_tree
  each_leaf_of f (more_tree t ts) = more_tree (each_leaf f t) (each_leaf_of f ts)

abbrev pub leaf_lives : State → Bool
leaf_lives NotBegun = false
leaf_lives Unset = true
leaf_lives (Has x) = true
leaf_lives Ended = false

abbrev pub leaf_has_begun : State → Bool
leaf_has_begun NotBegun = false
leaf_has_begun _ = true

-- it lives where all its leaves do
abbrev pub lives : Tree → Bool
lives = all_leaves (λ is_scalar x. leaf_lives x)

-- no leaf of it was begun
abbrev pub is_untouched : Tree → Bool
is_untouched = all_leaves (λ is_scalar x. not (leaf_has_begun x))

abbrev pub leaf_has_value : Bool → State → Bool
leaf_has_value false x = true
leaf_has_value true (Has v) = true
leaf_has_value true _ = false

-- each scalar of it has a value
abbrev pub has_values : Tree → Bool
has_values = all_leaves leaf_has_value

-- what has ended stays ended, and what has a value keeps it
abbrev pub leaf_begun : State → State
leaf_begun NotBegun = Unset
leaf_begun x = x

abbrev pub begun : Tree → Tree
begun = each_leaf leaf_begun

abbrev pub ended : Tree → Tree
ended = each_leaf (λ x. Ended)

abbrev pub sealed : Tree → Tree
sealed (Leaf m s x) = Leaf (record m { is_sealed = true }) s x
sealed (Class m bs ms) = Class (record m { is_sealed = true }) bs ms
sealed (Array m es) = Array (record m { is_sealed = true }) es

-- not const, whatever its shape says; its parts are as they were
abbrev pub not_const : Tree → Tree
not_const (Leaf m s x) = Leaf (record m { is_const = false }) s x
not_const (Class m bs ms) = Class (record m { is_const = false }) bs ms
not_const (Array m es) = Array (record m { is_const = false }) es

-- the values of its scalars, in order
abbrev mutual
  pub values : Tree → List Scalar
  values (Leaf m s (Has v)) = v ∷ []
  values (Leaf m s _) = []
  values (Class m bs ms) = values_of bs ++ values_of ms
  values (Array m es) = values_of es

  pub values_of : Trees → List Scalar
  values_of end_tree = []
  values_of (more_tree t ts) = values t ++ values_of ts
