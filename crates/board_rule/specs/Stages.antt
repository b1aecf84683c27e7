-- The machine of parked tasks, seen by numbers: a task is how many of its piece's reads it has taken, and whether it was advanced.
use Rattle.std.specs.Prelude.{◌≡◌, ℕ, List, slice_index, Bool, Some}
use Rattle.settle_core.specs.Meant.{Meant, outcome, reads}
use Rattle.settle_core.specs.declared.next_of.NextOf.{NextOf}
use Rattle.settle_core.specs.declared.piece_state.PieceState.{PieceState}
use Rattle.settle_core.specs.declared.piece_state.PieceState.TheVariants.{Fresh, Held, Parked, Settled}
use Rattle.settle_core.specs.Next.{IsNext, firsts}
use Rattle.settle_core.specs.declared.core_step.CoreStep.{CoreStep}
use Rattle.settle_core.specs.State.{all_fresh}
use Rattle.settle_core.specs.Steps.{replayed}
use Rattle.board_rule.specs.Maps.{values}

-- A piece that is worked on names its worker
pub data Stage : Type 0 where
  untouched : Stage
  worked : ℕ → ℕ → Bool → Stage
  waiting : ℕ → Bool → Stage
  ended : Stage

abbrev pub IsEnded : Stage → Type 0
IsEnded untouched = ⊥
IsEnded (worked i n a) = ⊥
IsEnded (waiting n a) = ⊥
IsEnded ended = Unit {0}

module _ {T O : Type 0} (m : Meant T O) where
  -- the state of the piece k: what a task has taken is its first reads, with their outcomes in the fold
  abbrev pub state_of : ℕ → Stage → PieceState O
  state_of k untouched = Fresh
  state_of k (worked i n a) = Held i (firsts m k n) a
  state_of k (waiting n a) = Parked (firsts m k n) a (record { 0 = slice_index (reads m k) n })
  state_of k ended = Settled (outcome m k)

  abbrev pub states : (ℕ → Stage) → List (PieceState O)
  states f = values (λ k. state_of k (f k)) m.pieces

  -- These steps of the machine lead from one to the other, whatever says what its pieces do next
  abbrev pub LeadsBy : List CoreStep → (ℕ → Stage) → (ℕ → Stage) → Type 0
  LeadsBy steps f g = (next : ℕ → List (ℕ × O) → NextOf O) → IsNext m next → replayed next (states f) steps ≡ Some (states g)

  -- Some steps lead there from the state in which every piece is fresh
  abbrev pub Reached : (ℕ → Stage) → Type 0
  Reached f = (next : ℕ → List (ℕ × O) → NextOf O) → IsNext m next → (steps : List CoreStep) × (replayed next (all_fresh m.pieces) steps ≡ Some (states f))
