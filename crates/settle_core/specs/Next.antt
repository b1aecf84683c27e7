-- What a piece does next, by what it has taken.
use Rattle.std.specs.Prelude.{◌≡◌, ℕ, ◌<◌, List, [], ◌∷◌, map, take, length, slice_index, if◌then◌else◌, ◌==◌, is_some, Option, None, Some}
use Rattle.settle_core.specs.Meant.{Meant, outcome, reads}
pub use Rattle.settle_core.specs.declared.next_of.NextOf.{NextOf}
pub use Rattle.settle_core.specs.declared.next_of.NextOf.TheVariants.{Read, Ends}

-- the outcome of the piece j among those that were taken
abbrev pub taken_outcome : {O : Type 0} → List (ℕ × O) → ℕ → Option O
taken_outcome [] j = None
taken_outcome (t ∷ ts) j = if t.0 == j then Some t.1 else taken_outcome ts j

module _ {T O : Type 0} (m : Meant T O) where
  -- the first n reads of the piece k, each with its outcome in the fold
  abbrev pub firsts : ℕ → ℕ → List (ℕ × O)
  firsts k n = map (λ j. (j, outcome m j)) (take n (reads m k))

  -- What it is that a piece does next
  pub record IsNext (next : ℕ → List (ℕ × O) → NextOf O) : Type 0 where
    -- it reads a piece before it that it has not taken, or it ends
    pub untaken : (k j : ℕ) (taken : List (ℕ × O)) → k < m.pieces → next k taken ≡ Read (record { 0 = j }) → (j < k) × (taken_outcome taken j ≡ None)
    -- where it has taken its first n reads with their outcomes in the fold, it reads the next one
    pub reads_next : (k n : ℕ) → k < m.pieces → n < length (reads m k) → next k (firsts k n) ≡ Read (record { 0 = slice_index (reads m k) n })
    -- where it has taken all of them, it ends with its outcome in the fold
    pub ends_with : (k : ℕ) → k < m.pieces → next k (firsts k (length (reads m k))) ≡ Ends (outcome m k)

-- the first of these reads that was not taken, or the outcome
abbrev pub next_among : {O : Type 0} → List (ℕ × O) → List ℕ → O → NextOf O
next_among taken [] o = Ends o
next_among taken (j ∷ js) o = if is_some (taken_outcome taken j) then next_among taken js o else Read (record { 0 = j })

-- What a piece does next by its reads and its outcome in the fold, whatever outcomes were taken
abbrev pub next_by_reads : {T O : Type 0} → Meant T O → ℕ → List (ℕ × O) → NextOf O
next_by_reads m k taken = next_among taken (reads m k) (outcome m k)
