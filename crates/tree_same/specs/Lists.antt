-- Lists that are the same.
use Rattle.std.specs.Prelude.{List, [], ◌∷◌, Option, None, Some}

-- As long as each other, and in order each of the one is the same as its partner in the other.
abbrev pub AreSame : {A : Type 0} → (A → A → Type 0) → List A → List A → Type 0
AreSame IsSame [] [] = Unit {0}
AreSame IsSame (x ∷ xs) (y ∷ ys) = IsSame x y × AreSame IsSame xs ys
AreSame IsSame _ _ = ⊥

-- Neither is there, or both are there and the same.
abbrev pub AreSameIfAny : {A : Type 0} → (A → A → Type 0) → Option A → Option A → Type 0
AreSameIfAny IsSame None None = Unit {0}
AreSameIfAny IsSame (Some x) (Some y) = IsSame x y
AreSameIfAny IsSame _ _ = ⊥
