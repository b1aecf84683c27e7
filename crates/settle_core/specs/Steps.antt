-- The steps of the machine, each with its condition, and lists of steps.
use Rattle.std.specs.Prelude.{◌≡◌, ℕ, List, [], ◌∷◌, ◌++◌, Bool, true, false, if◌then◌else◌, ◌==◌, slice_get, slice_set, Option, None, Some}
use Rattle.std.specs.Option.{option_map}
use Rattle.settle_core.specs.declared.next_of.NextOf.{NextOf}
use Rattle.settle_core.specs.declared.next_of.NextOf.TheVariants.{Read, Ends}
use Rattle.settle_core.specs.State.{PieceState, Fresh, Held, Parked, Settled, CoreStep, Claim, Advance, Park, Resume, Settle, all_fresh, settled_at}
use Rattle.cxx_base.specs.declared.number.PieceNo.{PieceNo}

-- f of the value, if there is one
abbrev pub option_bind : {A B : Type 0} → Option A → (A → Option B) → Option B
option_bind None f = None
option_bind (Some x) f = f x

-- the piece that a step names
abbrev pub named : CoreStep → ℕ
named (Claim k worker) = k.0
named (Advance k) = k.0
named (Park k on) = k.0
named (Resume k worker) = k.0
named (Settle k) = k.0

module _ {O : Type 0} where
  -- Advance: a held piece takes the outcome of its next read, where that is settled. Where it has none it is advanced all the same,
  -- unless it was before: then it has finished.
  abbrev pub after_advance : List (PieceState O) → ℕ → List (ℕ × O) → Bool → NextOf O → Option (PieceState O)
  after_advance s worker taken mark (Read j) = option_map (λ o. Held worker (taken ++ (j.0, o) ∷ []) true) (settled_at s j.0)
  after_advance s worker taken false (Ends o) = Some (Held worker taken true)
  after_advance s worker taken true (Ends o) = None

  -- Park: a held piece is parked on its next read. Whether that is settled is not asked.
  abbrev pub after_park : PieceNo → List (ℕ × O) → Bool → NextOf O → Option (PieceState O)
  after_park on taken mark (Read j) = if j.0 == on.0 then Some (Parked taken mark on) else None
  after_park on taken mark (Ends o) = None

  -- Resume: a parked piece is held again, where the piece that it is parked on is settled.
  abbrev pub after_resume : List (PieceState O) → ℕ → List (ℕ × O) → Bool → PieceNo → Option (PieceState O)
  after_resume s worker taken mark on = option_map (λ o. Held worker taken mark) (settled_at s on.0)

  -- Settle: a held piece that has finished, which was advanced and has no next read, is settled with its outcome.
  abbrev pub after_settle : Bool → NextOf O → Option (PieceState O)
  after_settle mark (Read j) = None
  after_settle false (Ends o) = None
  after_settle true (Ends o) = Some (Settled o)

module _ {O : Type 0} (next : ℕ → List (ℕ × O) → NextOf O) where
  -- What a step makes of the piece that it names, or None where its condition fails. The state before it is s.
  abbrev pub made : List (PieceState O) → CoreStep → PieceState O → Option (PieceState O)
  made s (Claim k worker) Fresh = Some (Held worker [] false)
  made s (Advance k) (Held worker taken mark) = after_advance s worker taken mark (next k.0 taken)
  made s (Park k on) (Held worker taken mark) = after_park on taken mark (next k.0 taken)
  made s (Resume k worker) (Parked taken mark on) = after_resume s worker taken mark on
  made s (Settle k) (Held worker taken mark) = after_settle mark (next k.0 taken)
  made s step p = None

  -- The state after a step, or None where the step's condition fails. No other piece moves.
  abbrev pub stepped : List (PieceState O) → CoreStep → Option (List (PieceState O))
  stepped s step = option_bind (slice_get s (named step)) (λ p. option_map (slice_set s (named step)) (made s step p))

  -- The state after a list of steps, or None where the condition of one of them fails
  abbrev pub replayed : List (PieceState O) → List CoreStep → Option (List (PieceState O))
  replayed s [] = Some s
  replayed s (step ∷ steps) = option_bind (stepped s step) (λ t. replayed t steps)

  -- A state is reached by some list of steps, from the one in which every piece is fresh.
  abbrev pub IsReached : ℕ → List (PieceState O) → Type 0
  IsReached pieces s = (steps : List CoreStep) × (replayed (all_fresh pieces) steps ≡ Some s)
