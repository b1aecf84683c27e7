-- What is known.
use Rattle.std.specs.Prelude.{ℕ, List, [], ◌∷◌, Option, None, Some, if◌then◌else◌, ◌==◌, slice_get}
use Rattle.core_outcome.specs.declared.outcome.OutcomeParts.{OutcomeParts}
use Rattle.core_outcome.specs.declared.outcome.Fact.{Fact}
use Rattle.core_outcome.specs.declared.outcome.Fact.TheVariants.{Known, NotYet}

-- what a fact says
abbrev pub known_by : Fact → Option OutcomeParts
known_by (Known outcome) = Some outcome.now
known_by NotYet = None

-- of the outcomes of the first pieces
abbrev pub outcome_at : List OutcomeParts → ℕ → Option OutcomeParts
outcome_at outcomes j = slice_get outcomes j

-- of pieces with their outcomes, where the first one of a number counts
abbrev pub first_known : List (ℕ × OutcomeParts) → ℕ → Option OutcomeParts
first_known [] j = None
first_known (k ∷ known) j = if k.0 == j then Some k.1 else first_known known j
