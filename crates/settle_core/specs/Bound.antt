-- How long a list of steps can be.
use Rattle.std.specs.Prelude.{ℕ, zero, suc, ◌+◌, ◌*◌, ◌≤◌, List, [], ◌∷◌, length, is_some, if◌then◌else◌}
use Rattle.std.specs.Option.{option_map, unwrap_or}
use Rattle.settle_core.specs.Meant.{Meant, reads}
use Rattle.settle_core.specs.declared.next_of.NextOf.{NextOf}
use Rattle.settle_core.specs.State.{PieceState, CoreStep, Park, settled_at, all_fresh}
use Rattle.settle_core.specs.Steps.{stepped}

-- f 0 + .. + f (n - 1)
abbrev pub sum_below : (ℕ → ℕ) → ℕ → ℕ
sum_below f zero = 0
sum_below f (suc n) = f n + sum_below f n

-- the lengths of the reads of all pieces, added up
abbrev pub reads_of_all : {T O : Type 0} → Meant T O → ℕ
reads_of_all m = sum_below (λ k. length (reads m k)) m.pieces

-- 1 for a Park on a piece that is settled at that step
abbrev pub idle : {O : Type 0} → List (PieceState O) → CoreStep → ℕ
idle s (Park k on) = if is_some (settled_at s on.0) then 1 else 0
idle s step = 0

module _ {O : Type 0} (next : ℕ → List (ℕ × O) → NextOf O) where
  -- how many such Parks a list of steps from s has
  abbrev pub idle_parks : List (PieceState O) → List CoreStep → ℕ
  idle_parks s [] = 0
  idle_parks s (step ∷ steps) = idle s step + unwrap_or (option_map (λ t. idle_parks t steps) (stepped next s step)) 0

-- With N pieces, R reads of all of them and I Parks on settled pieces, at most 3N + 3R + 2I steps
abbrev pub IsWithinBound : {T O : Type 0} → Meant T O → (ℕ → List (ℕ × O) → NextOf O) → List CoreStep → Type 0
IsWithinBound m next steps = length steps ≤ 3 * m.pieces + 3 * reads_of_all m + 2 * idle_parks next (all_fresh m.pieces) steps
