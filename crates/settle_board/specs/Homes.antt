-- Which slots have outcomes when no seat uses the table any more.
use Rattle.std.specs.Prelude.{◌≡◌, ℕ, ◌<◌, List}
use mathlib.Core.Option.{some}
use lib.ListN.{get_elem?}
use Rattle.board_rule.specs.declared.home.Home.{Home}
use Rattle.board_rule.specs.declared.home.Home.TheVariants.{Outcome}

abbrev pub IsHome : {T O : Type 0} → List (Home T O) → ℕ → O → Type 0
IsHome slots k o = get_elem? slots k ≡ some (Outcome o)

-- of the first n pieces, each whose word is 3 has an outcome at home
abbrev pub AreHome : {T O : Type 0} → List ℕ → List (Home T O) → ℕ → Type 0
AreHome {O} words slots n = (k : ℕ) → k < n → get_elem? words k ≡ some 3 → (o : O) × IsHome slots k o
