-- The numbers of the types that no declaration makes.
use Rattle.std.specs.Prelude.{ℕ, ◌+◌, ◌*◌, Bool, true, false}

-- the number of the type at a place among them
abbrev pub basic_number : ℕ → Bool → ℕ
basic_number at false = 2 * at
basic_number at true = 2 * at + 1
