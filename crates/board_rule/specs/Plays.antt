-- What each step on the table tells the seat that makes it: its view after the step, by the view before and the word found.
use Rattle.std.specs.Prelude.{◌≡◌, ◌≢◌, ◌⊎◌, ℕ, ◌+◌, ◌-◌, ◌<◌, ◌≤◌, ◌∷◌, length, true, false, Some, None}
use Rattle.atomic_table.specs.Table.{Me, Step, rest}
use Rattle.settle_core.specs.Meant.{Meant, outcome, reads}
use Rattle.board_rule.specs.Standing.{next_read, steps_at}
use Rattle.board_rule.specs.Views.{hold_on, task_hold, after_look, after_stop_look, after_stop, after_start, after_claim, after_settle, after_park, after_lend, after_give_back, with_hand, Knows}
use Rattle.board_rule.specs.Rule.{work}
use Rattle.board_rule.specs.declared.home.Home.{Home}
use Rattle.board_rule.specs.declared.home.Home.TheVariants.{Empty, Task, Outcome}
use Rattle.board_rule.specs.declared.view.Hold.{Hold}
use Rattle.board_rule.specs.declared.view.Key.{Key}
use Rattle.board_rule.specs.declared.view.View.{View}
use Rattle.board_rule.specs.declared.view.Entry.TheVariants.{Looks, ClaimsFresh, ClaimsParked, Lends}

-- The piece k may have this word: it says fresh, held, settled, lent, or parked on an earlier piece
abbrev pub IsWordOf : ℕ → ℕ → Type 0
IsWordOf k w = (w < 8 → (w < 5) × (w ≢ 2)) × (8 ≤ w → w < 8 + k)

-- a task of the piece k that has a next read
abbrev pub CanPark : {T O : Type 0} → Meant T O → ℕ → T → Type 0
CanPark m k t = m.is_task k t × (m.taken t < length (reads m k))

-- the word found on k is one of the piece, and one of a settled piece where the view knows that k is settled
abbrev pub IsTold : {T O X : Type 0} → (X → Meant T O) → ℕ → View X T → ℕ → Type 0
IsTold meant k v w = IsWordOf k w × ((x : Key _) → v.about ≡ Some x → Knows (meant x.meaning) k v → (w ≡ 3) ⊎ (w ≡ 4))

module _ {X T O : Type 0} where
  abbrev pub stop_look_tells : Step (Home T O) → Me (Home T O) (View X T) → ℕ → Me (Home T O) (View X T) → Type 0
  stop_look_tells st v r w = (w ≡ (after_stop_look r v.0, v.1)) × (r ≤ 1) × (v.0.stopped ≡ true → r ≡ 1) × (v.0.saw_stop ≡ true → r ≡ 1)

  abbrev pub stop_tells : Step (Home T O) → Me (Home T O) (View X T) → ℕ → Me (Home T O) (View X T) → Type 0
  stop_tells st v r w = w ≡ (after_stop v.0, v.1)

  abbrev pub start_tells : Step (Home T O) → Me (Home T O) (View X T) → ℕ → Me (Home T O) (View X T) → Type 0
  start_tells st v r w = (r ≡ 0 → w ≡ (after_start st.word v.0, v.1))
      × (r ≢ 0 → w ≡ (after_look (ClaimsFresh st.word r false) st.word r v.0, v.1)) × IsWordOf st.word r

  abbrev pub take_slot_tells : Step (Home T O) → Me (Home T O) (View X T) → ℕ → Me (Home T O) (View X T) → Type 0
  take_slot_tells st v r w = w ≡ (with_hand (Some st.word) v.0, (st.word, Empty) ∷ v.1)

  abbrev pub put_slot_back_tells : Step (Home T O) → Me (Home T O) (View X T) → ℕ → Me (Home T O) (View X T) → Type 0
  put_slot_back_tells st v r w = w ≡ (with_hand None v.0, rest v.1)

  abbrev pub give_back_tells : Step (Home T O) → Me (Home T O) (View X T) → ℕ → Me (Home T O) (View X T) → Type 0
  give_back_tells st v r w = w ≡ (with_hand None (after_give_back st.word v.0), rest v.1)

  module _ (meant : X → Meant T O) where
    abbrev pub look_tells : Step (Home T O) → Me (Home T O) (View X T) → ℕ → Me (Home T O) (View X T) → Type 0
    look_tells st v r w = (w ≡ (after_look (Looks st.word r) st.word r v.0, v.1)) × IsTold meant st.word v.0 r

    -- no seat spends more than the work
    abbrev pub settle_tells : Step (Home T O) → Me (Home T O) (View X T) → ℕ → Me (Home T O) (View X T) → Type 0
    settle_tells st v r w = (x : Key X) (h : Hold T) → v.0.about ≡ Some x → hold_on st.word v.0.held ≡ Some h
        → (w ≡ (with_hand None (after_settle st.word ((meant x.meaning).outcome_steps (outcome (meant x.meaning) st.word) - steps_at (meant x.meaning) h.claimed) v.0), rest v.1)) × (w.0.spent ≤ work (meant x.meaning))

    abbrev pub park_tells : Step (Home T O) → Me (Home T O) (View X T) → ℕ → Me (Home T O) (View X T) → Type 0
    park_tells st v r w = (x : Key X) (h : Hold T) (t : T) → v.0.about ≡ Some x → hold_on st.word v.0.held ≡ Some h → v.1 ≡ (st.word, Task t) ∷ rest v.1
        → (w ≡ (with_hand None (after_park st.word r t ((meant x.meaning).task_steps t - steps_at (meant x.meaning) h.claimed) v.0), rest v.1)) × (w.0.spent ≤ work (meant x.meaning))

    -- The seat gets the task that lay in the slot, and its hold names this task
    abbrev pub gets_task : Key X → ℕ → ℕ → Me (Home T O) (View X T) → Me (Home T O) (View X T) → Type 0
    gets_task x k r v w = (t : T) × CanPark (meant x.meaning) k t × (8 + next_read (meant x.meaning) k ((meant x.meaning).taken t) ≡ r)
        × (w ≡ (with_hand (Some k) (after_claim (ClaimsParked k r true) (task_hold k t) v.0), (k, Task t) ∷ v.1))

    abbrev pub resume_tells : Step (Home T O) → Me (Home T O) (View X T) → ℕ → Me (Home T O) (View X T) → Type 0
    resume_tells st v r w = (r ≡ st.first → (x : Key X) → v.0.about ≡ Some x → gets_task x st.word r v w)
        × (r ≢ st.first → w ≡ (after_look (ClaimsParked st.word r false) st.word r v.0, v.1)) × IsWordOf st.word r

    abbrev pub lend_tells : Step (Home T O) → Me (Home T O) (View X T) → ℕ → Me (Home T O) (View X T) → Type 0
    lend_tells st v r w = (r ≡ 3 → (x : Key X) → v.0.about ≡ Some x
        → w ≡ (with_hand (Some st.word) (after_lend st.word v.0), (st.word, Outcome (outcome (meant x.meaning) st.word)) ∷ v.1))
        × (r ≢ 3 → w ≡ (after_look (Lends st.word r false) st.word r v.0, v.1)) × IsTold meant st.word v.0 r
