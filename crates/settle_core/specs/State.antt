-- The states of the pieces, and the steps.
use Rattle.std.specs.Prelude.{ℕ, List, replicate, slice_get, Option, None, Some, IsSome}
pub use Rattle.settle_core.specs.declared.piece_state.PieceState.{PieceState}
pub use Rattle.settle_core.specs.declared.piece_state.PieceState.TheVariants.{Fresh, Held, Parked, Settled}
pub use Rattle.settle_core.specs.declared.core_step.CoreStep.{CoreStep}
pub use Rattle.settle_core.specs.declared.core_step.CoreStep.TheVariants.{Claim, Advance, Park, Resume, Settle}

module _ {O : Type 0} where
  abbrev pub all_fresh : ℕ → List (PieceState O)
  all_fresh n = replicate n Fresh

  abbrev pub outcome_in : Option (PieceState O) → Option O
  outcome_in (Some (Settled o)) = Some o
  outcome_in p = None

  -- the outcome of the piece k, where it is settled
  abbrev pub settled_at : List (PieceState O) → ℕ → Option O
  settled_at s k = outcome_in (slice_get s k)

  abbrev pub IsSettledAt : List (PieceState O) → ℕ → Type 0
  IsSettledAt s k = IsSome (settled_at s k)
