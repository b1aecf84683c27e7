-- What a line and its answer make of a text.
use Rattle.std.specs.Prelude.{◌≡◌, ℕ, ◌⊎◌, List, [], ◌∷◌, ◌++◌, length, slice_index}

-- ` => `
abbrev pub arrow : List ℕ
arrow = 32 ∷ 61 ∷ 62 ∷ 32 ∷ []

-- a line that begins with `#`, or is empty
abbrev pub IsRemark : List ℕ → Type 0
IsRemark line = (length line ≡ 0) ⊎ (slice_index line 0 ≡ 35)

-- a line stands at the end of a text, alone where it is a remark, and else with some answer behind it
abbrev pub IsRow : List ℕ → List ℕ → List ℕ → Type 0
IsRow line old new = ((new ≡ old ++ line ++ 10 ∷ []) × IsRemark line) ⊎ ((answer : List ℕ) × (new ≡ old ++ line ++ arrow ++ answer ++ 10 ∷ []) × ¬ IsRemark line)
