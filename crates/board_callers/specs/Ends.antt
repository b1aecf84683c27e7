-- How the work of a hand ends, and what its seat knows then.
use Rattle.std.specs.Prelude.{◌≡◌, ◌⊎◌, ℕ, ◌<◌, List, ◌++◌, Bool, true, Option, IsTrue, IsFalse}
use mathlib.Core.Option.{some}
use lib.ListN.{get_elem?}
use Rattle.settle_core.specs.Meant.{Meant}
use Rattle.board_rule.specs.Maps.{IsAmong}
use Rattle.board_rule.specs.declared.view.View.{View}
use Rattle.board_rule.specs.declared.view.Entry.{Entry}
use Rattle.settle_board.specs.Boards.{IsIdle, view_of, IsOfBy}
use Rattle.settle_board.specs.declared.board.Board.{Board}
use Rattle.piece_search.specs.TurnParts.{SeesSettled, SeesUnsettled, FindsStop, StoresStop, IsMoveless, IsTurnedAway}
use Rattle.board_callers.specs.Holding.{HoldsOnly, WorkSays}
use Rattle.board_callers.specs.declared.hand.Hand.{Hand}
use Rattle.board_callers.specs.declared.hand.HandEnd.{HandEnd}
use Rattle.board_callers.specs.declared.hand.HandEnd.TheVariants.{AllSettled, Stopped, NoMemory}
use Rattle.board_callers.specs.declared.turns.TurnEnd.{TurnEnd}
use Rattle.board_callers.specs.declared.turns.TurnEnd.TheVariants.{Worked, SawAll, Waits, Fails}

module _ {X T : Type 0} where
  -- it saw each of the n pieces settled
  abbrev pub HasSeenAll : ℕ → View X T → Type 0
  HasSeenAll n v = (k : ℕ) → k < n → IsAmong k v.seen

  -- it looked at the n pieces, up to the first that it saw unsettled, if there is one
  abbrev pub LooksSay : ℕ → Bool → View X T → View X T → Type 0
  LooksSay n all v w = (part : List (Entry T)) × (w.trail ≡ v.trail ++ part) × IsMoveless part
      × (IsTrue all → (k : ℕ) → k < n → SeesSettled k part) × (IsFalse all → (k : ℕ) × (k < n) × SeesUnsettled k part)

  -- memory ran out while it worked on one of the n pieces, which it still holds, with the task that came with it; nothing is lent
  abbrev pub HoldsStill : ℕ → View X T → Type 0
  HoldsStill n v = (k : ℕ) × (claimed : Option T) × (k < n) × HoldsOnly k claimed v

  -- A hand ends once it saw all pieces settled, or found the stop word set or set it, and has nothing under way then. Where memory ran out
  -- it set the stop word
  abbrev pub EndSays : ℕ → HandEnd → View X T → Type 0
  EndSays n AllSettled v = IsIdle v × HasSeenAll n v
  EndSays n Stopped v = IsIdle v × (v.saw_stop ≡ true) × (FindsStop v.trail ⊎ StoresStop v.trail)
  EndSays n NoMemory v = HoldsStill n v × (v.stopped ≡ true)

-- In a turn one of the n pieces was settled or parked. Or no piece was to be had: nothing moved, each piece was turned away, and each was seen
-- settled then, or one of them unsettled. Nothing is under way after that, unless memory ran out
abbrev pub TurnSays : {X T O : Type 0} → Meant T O → ℕ → TurnEnd → View X T → View X T → Type 0
TurnSays m n (Worked k) v w = (k.0 < n) × WorkSays m k.0 v w
TurnSays {T} m n SawAll v w = IsIdle w × HasSeenAll n w × (part : List (Entry T)) × (w.trail ≡ v.trail ++ part) × IsMoveless part × ((k : ℕ) → k < n → SeesSettled k part)
TurnSays {T} m n Waits v w = IsIdle w × (part : List (Entry T)) × (w.trail ≡ v.trail ++ part) × IsMoveless part × ((k : ℕ) → k < n → IsTurnedAway k part) × ((k : ℕ) × (k < n) × SeesUnsettled k part)
TurnSays m n Fails v w = HoldsStill n w

module _ {X T O : Type 0} (meant : X → Meant T O) (b : Board X T O) where
  -- the seat of the hand is one of the board, and nothing is under way
  abbrev pub IsReady : Hand X T O → Type 0
  IsReady h = IsOfBy meant b h.seat × IsIdle (view_of h.seat)

  -- the hand has ended as it says
  abbrev pub HasEnded : Hand X T O → Type 0
  HasEnded h = IsOfBy meant b h.seat × EndSays (meant b.key.meaning).pieces h.end (view_of h.seat)

  abbrev pub AreReady : List (Hand X T O) → Type 0
  AreReady hands = (i : ℕ) (h : Hand X T O) → get_elem? hands i ≡ some h → IsReady h

  abbrev pub HaveEnded : List (Hand X T O) → Type 0
  HaveEnded hands = (i : ℕ) (h : Hand X T O) → get_elem? hands i ≡ some h → HasEnded h
