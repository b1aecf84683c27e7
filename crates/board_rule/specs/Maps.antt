-- Lists and functions on numbers, as the rule needs them.
use Rattle.std.specs.Prelude.{◌≡◌, ◌⊎◌, ℕ, zero, suc, ◌+◌, List, [], ◌∷◌, Bool, false, Option, Some, None, if◌then◌else◌, ◌==◌}
use mathlib.Core.Option.{some}
use lib.ListN.{get_elem?}

unfoldable pub is_same : ℕ → ℕ → Bool
is_same m n = m == n

-- whether the number is there and is k
abbrev pub is_it : Option ℕ → ℕ → Bool
is_it None k = false
is_it (Some j) k = is_same j k

abbrev pub IsAmong : ℕ → List ℕ → Type 0
IsAmong k [] = ⊥
IsAmong k (x ∷ xs) = (k ≡ x) ⊎ IsAmong k xs

module _ {A : Type 0} where
  -- f, but x at k
  unfoldable pub put_at : (ℕ → A) → ℕ → A → ℕ → A
  put_at f k x j = if is_same j k then x else f j

  -- f 0, .., f (n - 1)
  abbrev pub values : (ℕ → A) → ℕ → List A
  values f zero = []
  values f (suc n) = f 0 ∷ values (λ k. f (suc k)) n

  -- an element of the list has the property
  abbrev pub HasSome : (A → Type 0) → List A → Type 0
  HasSome P l = (i : ℕ) × (a : A) × (get_elem? l i ≡ some a) × P a

  -- f of each element, added up
  abbrev pub total : (A → ℕ) → List A → ℕ
  total f [] = 0
  total f (x ∷ xs) = f x + total f xs
