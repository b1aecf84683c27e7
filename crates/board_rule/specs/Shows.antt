-- How a state of the machine is read off a board, and what else its views add up to.
use Rattle.std.specs.Prelude.{◌≡◌, ◌≢◌, ◌⊎◌, ◌↔◌, ℕ, ◌+◌, ◌<◌, ◌≤◌, List, length, slice_get, slice_index, true, Some, None}
use mathlib.Core.Option.{some, none}
use lib.ListN.{get_elem?}
use Rattle.atomic_table.specs.Table.{State}
use Rattle.settle_core.specs.Meant.{Meant, outcome}
use Rattle.settle_core.specs.declared.piece_state.PieceState.{PieceState}
use Rattle.settle_core.specs.declared.piece_state.PieceState.TheVariants.{Fresh, Held, Parked, Settled}
use Rattle.settle_core.specs.declared.next_of.NextOf.{NextOf}
use Rattle.settle_core.specs.Next.{firsts, IsNext}
use Rattle.settle_core.specs.Sound.{Sound}
use Rattle.settle_core.specs.Steps.{IsReached}
use Rattle.settle_core.specs.Bound.{sum_below}
use Rattle.board_rule.specs.Maps.{IsAmong, HasSome, total}
use Rattle.board_rule.specs.Standing.{steps_at, taken_at, advanced_at}
use Rattle.board_rule.specs.Views.{hold_on, HasNothing}
use Rattle.board_rule.specs.declared.home.Home.{Home}
use Rattle.board_rule.specs.declared.home.Home.TheVariants.{Empty, Task, Outcome}
use Rattle.board_rule.specs.declared.view.Hold.{Hold}
use Rattle.board_rule.specs.declared.view.View.{View}

-- The shares of all views are so many seats, and a view without a share has nothing in it
pub record SharesAddUp {X T O : Type 0} (seats : ℕ) (s : State (Home T O) (View X T)) : Type 0 where
  pub all : total (λ (v : View X T). v.share) s.views ≡ seats
  pub idle : (id : ℕ) (v : View X T) → get_elem? s.views id ≡ some v → v.share ≡ 0 → HasNothing v

module _ {X T O : Type 0} (m : Meant T O) (s : State (Home T O) (View X T)) where
  -- the slot of the piece k is at home, empty, or in the hand of the seat with this view
  abbrev pub HasSlot : ℕ → View X T → Type 0
  HasSlot k v = (get_elem? s.homes k ≡ some (some Empty)) ⊎ ((get_elem? s.homes k ≡ some none) × (v.hand ≡ Some k))

  -- no view holds the piece k; no view has its outcome on loan
  abbrev pub NoneHolds : ℕ → Type 0
  NoneHolds k = (j : ℕ) (u : View X T) → get_elem? s.views j ≡ some u → hold_on k u.held ≡ None

  abbrev pub NoneBorrows : ℕ → Type 0
  NoneBorrows k = (j : ℕ) (u : View X T) → get_elem? s.views j ≡ some u → u.lent ≢ Some k

  -- The state of the piece k. A held piece is in the view of its worker, who has the place of that view in the list of views, and in
  -- no other; a settled one is at home, or its outcome is lent to one seat and no other. The slot of such a piece is that seat's. Of
  -- any other piece no view has anything
  abbrev pub ShowsAt : ℕ → PieceState O → Type 0
  ShowsAt k Fresh = (slice_index s.words k ≡ 0) × (get_elem? s.homes k ≡ some (some Empty)) × NoneHolds k × NoneBorrows k
  ShowsAt k (Held i taken advanced) = (slice_index s.words k ≡ 1)
      × ((v : View X T) × (h : Hold T) × (get_elem? s.views i ≡ some v) × (hold_on k v.held ≡ Some h) × (taken ≡ firsts m k (taken_at m h.claimed)) × (advanced ≡ advanced_at m h.claimed)
      × HasSlot k v × ((j : ℕ) (u : View X T) (g : Hold T) → get_elem? s.views j ≡ some u → hold_on k u.held ≡ Some g → j ≡ i)) × NoneBorrows k
  ShowsAt k (Parked taken advanced on) = (slice_index s.words k ≡ 8 + on.0)
      × ((t : T) × (get_elem? s.homes k ≡ some (some (Task t))) × m.is_task k t × (taken ≡ firsts m k (m.taken t)) × (advanced ≡ m.advanced t)) × NoneHolds k × NoneBorrows k
  ShowsAt k (Settled o) = NoneHolds k × (((slice_index s.words k ≡ 3) × (get_elem? s.homes k ≡ some (some (Outcome o))) × NoneBorrows k)
      ⊎ ((slice_index s.words k ≡ 4) × (o ≡ outcome m k) × ((i : ℕ) × (v : View X T) × (get_elem? s.views i ≡ some v) × (v.lent ≡ Some k)
      × HasSlot k v × ((j : ℕ) (u : View X T) → get_elem? s.views j ≡ some u → u.lent ≡ Some k → j ≡ i))))

  pub record Shows (state : List (PieceState O)) : Type 0 where
    pub whole : length state ≡ m.pieces
    pub each : (k : ℕ) (p : PieceState O) → slice_get state k ≡ Some p → ShowsAt k p

  -- They show a sound state, to which steps of the machine lead, whatever says what the pieces do next
  abbrev pub ShowsSound : Type 0
  ShowsSound = (state : List (PieceState O)) × Shows state × Sound m state × ((next : ℕ → List (ℕ × O) → NextOf O) → IsNext m next → IsReached next m.pieces state)

  -- What the views know together: which pieces are settled, which are not fresh, and whether the stop word is set
  pub record ViewsTell : Type 0 where
    pub settled : (k : ℕ) → k < m.pieces → ((slice_index s.words k ≡ 3) ⊎ (slice_index s.words k ≡ 4)) ↔ HasSome (λ (v : View X T). IsAmong k v.seen) s.views
    pub begun : (k : ℕ) → k < m.pieces → (slice_index s.words k ≢ 0) ↔ HasSome (λ (v : View X T). IsAmong k v.begun) s.views
    pub stop : (slice_index s.words m.pieces ≡ 1) ↔ HasSome (λ (v : View X T). v.stopped ≡ true) s.views
    pub small : slice_index s.words m.pieces ≤ 1

  -- The piece k stands for so many steps: those of its settled outcome, of its parked task, or of its held task when it was claimed
  abbrev pub StandsFor : ℕ → ℕ → Type 0
  StandsFor k n = ((slice_index s.words k ≡ 0) × (n ≡ 0))
      ⊎ ((slice_index s.words k ≡ 1) × ((i : ℕ) × (v : View X T) × (h : Hold T) × (get_elem? s.views i ≡ some v) × (hold_on k v.held ≡ Some h) × (n ≡ steps_at m h.claimed)))
      ⊎ ((8 ≤ slice_index s.words k) × ((t : T) × (get_elem? s.homes k ≡ some (some (Task t))) × (n ≡ m.task_steps t)))
      ⊎ (((slice_index s.words k ≡ 3) ⊎ (slice_index s.words k ≡ 4)) × (n ≡ m.outcome_steps (outcome m k)))

  -- The steps that all views spent together are those for which the pieces stand
  abbrev pub SumsUp : Type 0
  SumsUp = (steps : ℕ → ℕ) × ((k : ℕ) → k < m.pieces → StandsFor k (steps k)) × (total (λ (v : View X T). v.spent) s.views ≡ sum_below steps m.pieces)
