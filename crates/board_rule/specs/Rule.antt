-- The rule of the board: words, homes and views show one sound state.
use Rattle.std.specs.Prelude.{◌≡◌, ℕ, ◌+◌, ◌<◌, ◌≤◌, List, length, slice_index, true}
use mathlib.Core.Option.{some}
use mathlib.Core.Option as maybe
use lib.ListN.{get_elem?}
use Rattle.atomic_table.specs.Table.{State}
use Rattle.settle_core.specs.Meant.{Meant, outcome}
use Rattle.settle_core.specs.Bound.{sum_below}
use Rattle.board_rule.specs.Maps.{is_it, IsAmong, HasSome, total}
use Rattle.board_rule.specs.Stages.{Reached}
use Rattle.board_rule.specs.Standing.{Standing, fresh, IsSettled, IsBegun, held_by, lent_to, in_hand_of, SeatBelow, word_of, home_of, steps_of, stage_of, IsSound}
use Rattle.board_rule.specs.Views.{hold_on, HasNothing}
use Rattle.board_rule.specs.declared.home.Home.{Home}
use Rattle.board_rule.specs.declared.view.Key.{Key}
use Rattle.board_rule.specs.declared.view.View.{View}

-- the word and the home of the piece k show how it stands
pub record PieceFits {T O : Type 0} (m : Meant T O) (words : List ℕ) (homes : List (maybe.Option (Home T O))) (at : ℕ → Standing T) (k : ℕ) : Type 0 where
  pub word : slice_index words k ≡ word_of m k (at k)
  pub home : get_elem? homes k ≡ some (home_of m k (at k))
  pub sound : IsSound m at k (at k)

-- The view of the seat id has of each piece what the piece says that it has. What it saw settled is, what it began is begun, and what
-- it knows of the stop word is so. A view without a share has nothing in it
pub record ViewFits {T X : Type 0} (at : ℕ → Standing T) (stop id : ℕ) (v : View X T) : Type 0 where
  pub holds : (k : ℕ) → hold_on k v.held ≡ held_by id (at k)
  pub loans : (k : ℕ) → is_it v.lent k ≡ lent_to id (at k)
  pub hands : (k : ℕ) → is_it v.hand k ≡ in_hand_of id (at k)
  pub seen : (k : ℕ) → IsAmong k v.seen → IsSettled (at k)
  pub begun : (k : ℕ) → IsAmong k v.begun → IsBegun (at k)
  pub stopped : v.stopped ≡ true → stop ≡ 1
  pub saw_stop : v.saw_stop ≡ true → stop ≡ 1
  pub idle : v.share ≡ 0 → HasNothing v

-- what it takes to settle every piece
abbrev pub work : {T O : Type 0} → Meant T O → ℕ
work m = sum_below (λ k. m.outcome_steps (outcome m k)) m.pieces

-- The pieces stand in some way of which words, homes and views are functions. The last word is the stop word. The machine of parked
-- tasks reaches the state of the pieces. Some view saw each piece that is settled, began each that is not fresh, and set the stop word
-- where it is set. The shares of all views are the seats, and the steps that all views spent are those of settled outcomes, of parked
-- tasks, and of held tasks when they were claimed
pub record OneState {X T O : Type 0} (meant : X → Meant T O) (key : Key X) (s : State (Home T O) (View X T)) : Type 0 where
  pub at : ℕ → Standing T
  pub wide : length s.words ≡ (meant key.meaning).pieces + 1
  pub deep : length s.homes ≡ (meant key.meaning).pieces
  pub pieces : (k : ℕ) → k < (meant key.meaning).pieces → PieceFits (meant key.meaning) s.words s.homes at k
  pub beyond : (k : ℕ) → (meant key.meaning).pieces ≤ k → at k ≡ fresh
  pub reached : Reached (meant key.meaning) (λ k. stage_of (meant key.meaning) (at k))
  pub seated : (k : ℕ) → SeatBelow (length s.views) (at k)
  pub stop : slice_index s.words (meant key.meaning).pieces ≤ 1
  pub views : (id : ℕ) (v : View X T) → get_elem? s.views id ≡ some v → ViewFits at (slice_index s.words (meant key.meaning).pieces) id v
  pub told : (k : ℕ) → IsSettled (at k) → HasSome (λ (v : View X T). IsAmong k v.seen) s.views
  pub begun : (k : ℕ) → IsBegun (at k) → HasSome (λ (v : View X T). IsAmong k v.begun) s.views
  pub set_by : slice_index s.words (meant key.meaning).pieces ≡ 1 → HasSome (λ (v : View X T). v.stopped ≡ true) s.views
  pub shares : total (λ (v : View X T). v.share) s.views ≡ key.seats
  pub spent : total (λ (v : View X T). v.spent) s.views ≡ sum_below (λ k. steps_of (meant key.meaning) k (at k)) (meant key.meaning).pieces
