-- What a meaning gives for each piece, and its fold: the outcomes of the pieces in order, which work in order makes one after the other.
use Rattle.std.specs.Prelude.{◌≡◌, ◌≢◌, ℕ, zero, suc, ◌^◌, ◌<◌, ◌≤◌, List, [], ◌∷◌, ◌++◌, length, slice_index, Bool, ltb}

-- The pieces, numbered from 0. What a piece reads and comes to is a function of the outcomes of the pieces before it.
pub record Meant (T O : Type 0) : Type 1 where
  -- how many pieces there are
  pub pieces : ℕ
  -- the pieces that a piece reads, each where it is first read
  pub reads_over : ℕ → List O → List ℕ
  -- what it comes to
  pub outcome_over : ℕ → List O → O
  -- the tasks that are the meaning's own for a piece
  pub is_task : ℕ → T → Type 0
  -- how many reads a task has taken
  pub taken : T → ℕ
  -- whether it was advanced
  pub advanced : T → Bool
  -- the steps of a task, and of an outcome
  pub task_steps : T → ℕ
  pub outcome_steps : O → ℕ

module _ {T O : Type 0} (m : Meant T O) where
  -- the fold: the outcomes of the pieces below n, each over those before it
  abbrev pub outcomes_below : ℕ → List O
  outcomes_below zero = []
  outcomes_below (suc k) = outcomes_below k ++ m.outcome_over k (outcomes_below k) ∷ []

  -- the outcome of the piece k in the fold
  unfoldable pub outcome : ℕ → O
  outcome k = m.outcome_over k (outcomes_below k)

  -- its reads in the fold
  unfoldable pub reads : ℕ → List ℕ
  reads k = m.reads_over k (outcomes_below k)

  -- What holds of each meaning
  pub record Lawful : Type 0 where
    pub small : m.pieces < 2 ^ 32
    -- a piece reads pieces before it
    pub below : (k i : ℕ) → k < m.pieces → i < length (reads k) → slice_index (reads k) i < k
    -- and none twice
    pub once : (k i j : ℕ) → k < m.pieces → i < j → j < length (reads k) → slice_index (reads k) i ≢ slice_index (reads k) j
    -- a task takes no more than the reads of its piece
    pub within : (k : ℕ) (t : T) → k < m.pieces → m.is_task k t → m.taken t ≤ length (reads k)
    -- one that has a next read was advanced exactly where it has taken a read
    pub marked : (k : ℕ) (t : T) → k < m.pieces → m.is_task k t → m.taken t < length (reads k) → m.advanced t ≡ ltb 0 (m.taken t)
    -- a task of a piece never has more steps than the outcome of the piece
    pub cheap : (k : ℕ) (t : T) → k < m.pieces → m.is_task k t → m.task_steps t ≤ m.outcome_steps (outcome k)
