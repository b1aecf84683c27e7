-- What a hand knows of its seat while it works on a piece.
use Rattle.std.specs.Prelude.{◌≡◌, ◌⊎◌, ℕ, ◌+◌, ◌<◌, ◌≤◌, List, [], ◌∷◌, ◌++◌, length, true, Option, None, Some}
use Rattle.settle_core.specs.Meant.{Meant, outcome, reads}
use Rattle.settle_core.specs.Next.{firsts}
use Rattle.board_rule.specs.Maps.{IsAmong}
use Rattle.board_rule.specs.Standing.{next_read}
use Rattle.board_rule.specs.Views.{Knows, last_unsettled}
use Rattle.board_rule.specs.Plays.{CanPark}
use Rattle.board_rule.specs.declared.view.View.{View}
use Rattle.board_rule.specs.declared.view.Entry.{Entry}
use Rattle.board_rule.specs.declared.view.Entry.TheVariants.{Lends, GivesBack}
use Rattle.settle_board.specs.Boards.{IsIdle}
use Rattle.settle_board.specs.Changes.{Becomes}
use Rattle.piece_search.specs.TurnParts.{SeesUnsettled, SettlesIt, ParksOn, LendsBusy}
use Rattle.board_callers.specs.declared.borrowing.Loan.{Loan}
use Rattle.board_callers.specs.declared.borrowing.Loan.TheVariants.{Took, Open, Busy}

-- it holds one piece, which it claimed with this task, and has nothing lent
abbrev pub HoldsOnly : {X T : Type 0} → ℕ → Option T → View X T → Type 0
HoldsOnly k claimed v = (v.held ≡ record { piece = k; claimed = claimed } ∷ []) × (v.lent ≡ None)

-- the outcome of the piece j was lent to the seat, which gave it back
abbrev pub IsBorrowed : {X T : Type 0} → ℕ → View X T → View X T → Type 0
IsBorrowed j v w = Becomes v.held None 0 (Lends j 3 true ∷ GivesBack j ∷ []) v w

-- the trail is as it was, or longer
abbrev pub Grows : {X T : Type 0} → View X T → View X T → Type 0
Grows {T} v w = (part : List (Entry T)) × (w.trail ≡ v.trail ++ part)

-- the task that came with a piece is one of the meaning for it
abbrev pub IsClaimedFor : {T O : Type 0} → Meant T O → ℕ → Option T → Type 0
IsClaimedFor {T} m k claimed = (t : T) → claimed ≡ Some t → m.is_task k t

-- It has taken the first reads of the piece, with their outcomes in the fold, and saw each of them settled
pub record HasTaken {X T O : Type 0} (m : Meant T O) (k : ℕ) (taken : List (ℕ × O)) (v : View X T) : Type 0 where
  pub within : length taken ≤ length (reads m k)
  pub prefix : taken ≡ firsts m k (length taken)
  pub seen : (i : ℕ) → i < length taken → IsAmong (next_read m k i) v.seen

-- The outcome of the piece j was lent, taken and given back, and j was seen settled. Or it was not: j was seen unsettled, after all that the
-- trail has of it, and the seat did not know it to be settled; or another seat had it. The seat holds what it held, and has nothing lent
abbrev pub BorrowSays : {X T O : Type 0} → Meant T O → ℕ → List (ℕ × O) → View X T → Loan → List (ℕ × O) → View X T → Type 0
BorrowSays m j old v Took new w = IsBorrowed j v w × (new ≡ old ++ (j, outcome m j) ∷ []) × IsAmong j w.seen
BorrowSays {T} m j old v Open new w = (part : List (Entry T)) × SeesUnsettled j part × Becomes v.held None 0 part v w × (new ≡ old) × ((k : ℕ) → last_unsettled k w.trail ≡ Some j) × ¬ Knows m j v
BorrowSays {T} m j old v Busy new w = (part : List (Entry T)) × LendsBusy j part × Becomes v.held None 0 part v w × (new ≡ old)

-- The piece k was settled. Or it was parked: its task has taken the first reads of k, which were seen settled, and waits for the next one,
-- which was seen unsettled. Nothing is under way then
abbrev pub WorkSays : {X T O : Type 0} → Meant T O → ℕ → View X T → View X T → Type 0
WorkSays {T} m k v w = IsIdle w × (part : List (Entry T)) × (w.trail ≡ v.trail ++ part)
    × (SettlesIt k part ⊎ ((t : T) × CanPark m k t × ParksOn k (next_read m k (m.taken t)) t part × SeesUnsettled (next_read m k (m.taken t)) part × ((i : ℕ) → i < m.taken t → IsAmong (next_read m k i) w.seen)))
