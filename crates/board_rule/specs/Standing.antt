-- How a piece stands on the board, and what its word, its home and the views show of it.
use Rattle.std.specs.Prelude.{◌≡◌, ℕ, ◌+◌, ◌<◌, ◌≤◌, length, slice_index, Bool, false, ltb, Option, Some, None, if◌then◌else◌}
use mathlib.Core.Option.{some, none}
use mathlib.Core.Option as maybe
use Rattle.settle_core.specs.Meant.{Meant, outcome, reads}
use Rattle.board_rule.specs.Maps.{is_same}
use Rattle.board_rule.specs.Stages.{Stage, untouched, worked, waiting, ended}
use Rattle.board_rule.specs.declared.home.Home.{Home}
use Rattle.board_rule.specs.declared.home.Home.TheVariants.{Empty, Task, Outcome}
use Rattle.board_rule.specs.declared.view.Hold.{Hold}

-- A held piece and a lent one name their seat, and tell whether that has the slot in hand
pub data Standing (T : Type 0) : Type 0 where
  fresh : Standing T
  held : ℕ → Hold T → Bool → Standing T
  parked : T → Standing T
  settled : Standing T
  lent : ℕ → Bool → Standing T

module _ {T : Type 0} where
  abbrev pub IsSettled : Standing T → Type 0
  IsSettled fresh = ⊥
  IsSettled (held i h b) = ⊥
  IsSettled (parked t) = ⊥
  IsSettled settled = Unit {0}
  IsSettled (lent i b) = Unit {0}

  abbrev pub IsBegun : Standing T → Type 0
  IsBegun fresh = ⊥
  IsBegun (held i h b) = Unit {0}
  IsBegun (parked t) = Unit {0}
  IsBegun settled = Unit {0}
  IsBegun (lent i b) = Unit {0}

  -- what the view of the seat id has of the piece: its hold, whether its outcome is lent to it, and whether it has the slot in hand
  abbrev pub held_by : ℕ → Standing T → Option (Hold T)
  held_by id fresh = None
  held_by id (held i h b) = if is_same i id then Some h else None
  held_by id (parked t) = None
  held_by id settled = None
  held_by id (lent i b) = None

  abbrev pub lent_to : ℕ → Standing T → Bool
  lent_to id fresh = false
  lent_to id (held i h b) = false
  lent_to id (parked t) = false
  lent_to id settled = false
  lent_to id (lent i b) = is_same i id

  abbrev pub in_hand_of : ℕ → Standing T → Bool
  in_hand_of id fresh = false
  in_hand_of id (held i h b) = if b then is_same i id else false
  in_hand_of id (parked t) = false
  in_hand_of id settled = false
  in_hand_of id (lent i b) = if b then is_same i id else false

  -- its seat, if it has one, is below n
  abbrev pub SeatBelow : ℕ → Standing T → Type 0
  SeatBelow n fresh = Unit {0}
  SeatBelow n (held i h b) = i < n
  SeatBelow n (parked t) = Unit {0}
  SeatBelow n settled = Unit {0}
  SeatBelow n (lent i b) = i < n

module _ {T O : Type 0} (m : Meant T O) where
  -- what k reads after its first n reads
  abbrev pub next_read : ℕ → ℕ → ℕ
  next_read k n = slice_index (reads m k) n

  -- 0 fresh, 1 held, 3 settled, 4 settled with its outcome lent, 8 + j parked on j
  abbrev pub word_of : ℕ → Standing T → ℕ
  word_of k fresh = 0
  word_of k (held i h b) = 1
  word_of k (parked t) = 8 + next_read k (m.taken t)
  word_of k settled = 3
  word_of k (lent i b) = 4

  abbrev pub home_of : ℕ → Standing T → maybe.Option (Home T O)
  home_of k fresh = some Empty
  home_of k (held i h b) = if b then none else some Empty
  home_of k (parked t) = some (Task t)
  home_of k settled = some (Outcome (outcome m k))
  home_of k (lent i b) = if b then none else some Empty

  -- Of a piece that was claimed with this task, or fresh: the steps of its task, how many reads that had taken, and whether it was
  -- advanced
  abbrev pub steps_at : Option T → ℕ
  steps_at None = 0
  steps_at (Some t) = m.task_steps t

  abbrev pub taken_at : Option T → ℕ
  taken_at None = 0
  taken_at (Some t) = m.taken t

  abbrev pub advanced_at : Option T → Bool
  advanced_at None = false
  advanced_at (Some t) = m.advanced t

  -- how much work on it is counted in the sum of all views
  abbrev pub steps_of : ℕ → Standing T → ℕ
  steps_of k fresh = 0
  steps_of k (held i h b) = steps_at h.claimed
  steps_of k (parked t) = m.task_steps t
  steps_of k settled = m.outcome_steps (outcome m k)
  steps_of k (lent i b) = m.outcome_steps (outcome m k)

  -- Its stage in the machine. A held task stands as it was when it was claimed, and its worker is the place of the seat
  abbrev pub stage_of : Standing T → Stage
  stage_of fresh = untouched
  stage_of (held i h b) = worked i (taken_at h.claimed) (advanced_at h.claimed)
  stage_of (parked t) = waiting (m.taken t) (m.advanced t)
  stage_of settled = ended
  stage_of (lent i b) = ended

  -- A task of the piece k that has taken its first n reads: each of these pieces is settled. Where it has a next read it was
  -- advanced exactly where it has taken one
  pub record HasTaken (at : ℕ → Standing T) (k n : ℕ) (advanced : Bool) : Type 0 where
    pub within : n ≤ length (reads m k)
    pub taken : (i : ℕ) → i < n → IsSettled (at (next_read k i))
    pub marked : n < length (reads m k) → advanced ≡ ltb 0 n

  abbrev pub IsSound : (ℕ → Standing T) → ℕ → Standing T → Type 0
  IsSound at k fresh = Unit {0}
  IsSound at k (held i h b) = HasTaken at k (taken_at h.claimed) (advanced_at h.claimed) × (steps_at h.claimed ≤ m.outcome_steps (outcome m k)) × (h.piece ≡ k)
  IsSound at k (parked t) = HasTaken at k (m.taken t) (m.advanced t) × (m.taken t < length (reads m k)) × m.is_task k t
  IsSound at k settled = Unit {0}
  IsSound at k (lent i b) = Unit {0}
