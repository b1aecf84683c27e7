-- The steps of reading a source to its end.
use Rattle.std.specs.Prelude.{◌≡◌, ℕ, List, ◌++◌, length, Option}
use Rattle.std.specs.Io.KnownBytes.{Consumes}

-- the bytes that a source lost stand at the end of what was read so far
abbrev pub Gathers : Option (List ℕ) → Option (List ℕ) → List ℕ → List ℕ → Type 0
Gathers old new before after = (bs : List ℕ) × (after ≡ before ++ bs) × Consumes old new bs

-- a source lost n bytes
abbrev pub LosesCount : Option (List ℕ) → Option (List ℕ) → ℕ → Type 0
LosesCount old new n = (bs : List ℕ) × (length bs ≡ n) × Consumes old new bs
