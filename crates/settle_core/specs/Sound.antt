-- What holds of each state that steps lead to.
use Rattle.std.specs.Prelude.{◌≡◌, ℕ, ◌<◌, ◌≤◌, List, length, slice_get, slice_index, Bool, ltb, Some}
use Rattle.settle_core.specs.Meant.{Meant, outcome, reads}
use Rattle.settle_core.specs.Next.{firsts}
use Rattle.settle_core.specs.State.{PieceState, Fresh, Held, Parked, Settled, settled_at, IsSettledAt}
use Rattle.cxx_base.specs.declared.number.PieceNo.{PieceNo}

module _ {T O : Type 0} (m : Meant T O) (s : List (PieceState O)) where
  -- A task of the piece k: what it has taken, and whether it was advanced
  pub record IsSoundTask (k : ℕ) (taken : List (ℕ × O)) (advanced : Bool) : Type 0 where
    -- it has taken the first of the reads of k, with their outcomes in the fold
    pub count : ℕ
    pub within : count ≤ length (reads m k)
    pub prefix : taken ≡ firsts m k count
    -- each of them is settled
    pub settled : (i : ℕ) → i < count → IsSettledAt s (slice_index (reads m k) i)
    -- where it has a next read, it was advanced exactly where it has taken a read
    pub marked : count < length (reads m k) → advanced ≡ ltb 0 count

  -- Such a task that is parked on its next read, which is before k
  pub record IsSoundPark (k : ℕ) (taken : List (ℕ × O)) (advanced : Bool) (on : PieceNo) : Type 0 where
    pub task : IsSoundTask k taken advanced
    pub has_next : task.count < length (reads m k)
    pub is_next : on.0 ≡ slice_index (reads m k) task.count
    pub below : on.0 < k

  -- A settled piece has its outcome in the fold
  abbrev pub IsSound : ℕ → PieceState O → Type 0
  IsSound k Fresh = Unit {0}
  IsSound k (Held worker taken advanced) = IsSoundTask k taken advanced
  IsSound k (Parked taken advanced on) = IsSoundPark k taken advanced on
  IsSound k (Settled o) = o ≡ outcome m k

-- A sound state has all pieces, and each is sound.
pub record Sound {T O : Type 0} (m : Meant T O) (s : List (PieceState O)) : Type 0 where
  pub whole : length s ≡ m.pieces
  pub each : (k : ℕ) (p : PieceState O) → slice_get s k ≡ Some p → IsSound m s k p

-- The earliest unsettled piece is not parked on an unsettled one: where all pieces before k are settled, and k is parked, what it
-- is parked on is settled too.
abbrev pub EarliestGoesOn : {O : Type 0} → List (PieceState O) → Type 0
EarliestGoesOn s = (k : ℕ) (taken : List _) (advanced : Bool) (on : PieceNo) → ((j : ℕ) → j < k → IsSettledAt s j) → slice_get s k ≡ Some (Parked taken advanced on) → IsSettledAt s on.0

-- Each settled piece has its outcome in the fold.
abbrev pub SettlesFold : {T O : Type 0} → Meant T O → List (PieceState O) → Type 0
SettlesFold m s = (k : ℕ) (o : _) → settled_at s k ≡ Some o → o ≡ outcome m k
