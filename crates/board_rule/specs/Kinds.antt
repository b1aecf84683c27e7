-- The kinds of step on the board: when a seat may make one, what the table is after it, and which steps of the machine of parked tasks it
-- stands for.
use Rattle.std.specs.Prelude.{◌≡◌, ◌≢◌, ◌⊎◌, ℕ, zero, suc, ◌+◌, ◌-◌, ◌<◌, ◌≤◌, List, [], ◌∷◌, ◌++◌, length, slice_set, slice_index, Bool, true, false, Some, None, IsSome}
use mathlib.Core.Option.{some}
use lib.ListN.{get_elem?}
use Rattle.cxx_base.specs.declared.number.PieceNo.{PieceNo}
use Rattle.atomic_table.specs.Table.{State, Act, keeps, takes, gives, stepped}
use Rattle.settle_core.specs.Meant.{Meant, outcome, reads}
use Rattle.settle_core.specs.declared.next_of.NextOf.{NextOf}
use Rattle.settle_core.specs.declared.piece_state.PieceState.{PieceState}
use Rattle.settle_core.specs.declared.core_step.CoreStep.{CoreStep}
use Rattle.settle_core.specs.declared.core_step.CoreStep.TheVariants.{Claim, Advance, Park, Resume, Settle}
use Rattle.settle_core.specs.Next.{IsNext}
use Rattle.settle_core.specs.Steps.{replayed}
use Rattle.board_rule.specs.Maps.{IsAmong}
use Rattle.board_rule.specs.Standing.{next_read, steps_at, taken_at, advanced_at}
use Rattle.board_rule.specs.Views.{hold_on, task_hold, after_look, after_stop_look, after_stop, after_start, after_claim, after_settle, after_park, after_lend, after_give_back, with_hand, with_less, newcomer, joined, gone}
use Rattle.board_rule.specs.Plays.{CanPark}
use Rattle.board_rule.specs.Shows.{Shows}
use Rattle.board_rule.specs.declared.home.Home.{Home}
use Rattle.board_rule.specs.declared.home.Home.TheVariants.{Empty, Task, Outcome}
use Rattle.board_rule.specs.declared.view.Hold.{Hold}
use Rattle.board_rule.specs.declared.view.View.{View}
use Rattle.board_rule.specs.declared.view.Entry.{Entry}
use Rattle.board_rule.specs.declared.view.Entry.TheVariants.{ClaimsParked}

-- so many Advances of the piece, and then these steps
abbrev pub advances_then : PieceNo → ℕ → List CoreStep → List CoreStep
advances_then k zero steps = steps
advances_then k (suc n) steps = Advance k ∷ advances_then k n steps

-- The Advances that a task has left which has so many reads left: one for each, and one where it has none and was not advanced yet
abbrev pub advances_left : ℕ → Bool → ℕ
advances_left zero true = 0
advances_left zero false = 1
advances_left (suc n) advanced = suc n

-- A step of one seat, by what it does. Most name a piece; those that need one name the hold of the seat on it, or the task in its slot
pub data Kind (X T : Type 0) : Type 0 where
  -- a look at the piece, or an exchange on it that is lost, with its entry in the trail
  looking : ℕ → Entry T → Kind X T
  -- a look at the stop word, and the store that sets it
  looking_at_stop : Kind X T
  stopping : Kind X T
  -- the exchanges that are won: of a fresh piece, of a parked one, and of an outcome
  starting : ℕ → Kind X T
  resuming : ℕ → T → Kind X T
  lending : ℕ → Kind X T
  -- the stores: the piece is settled, it is parked with this task, and its outcome comes back
  settling : ℕ → Hold T → Kind X T
  parking : ℕ → Hold T → T → Kind X T
  giving_back : ℕ → Kind X T
  -- the slot of a piece that the seat holds or has on loan comes to hand, empty, and goes home
  taking_slot : ℕ → Kind X T
  putting_back : ℕ → Kind X T
  -- one seat is cut off, and the seat takes over another, which has this view
  cutting : Kind X T
  joining : ℕ → View X T → Kind X T

module _ {X T O : Type 0} (m : Meant T O) (s : State (Home T O) (View X T)) (id : ℕ) (v : View X T) where
  -- the word of the piece k; the stop word for k the number of pieces
  abbrev pub word_at : ℕ → ℕ
  word_at k = slice_index s.words k

  -- each of the first n reads of k was taken before the claim, or seen settled
  abbrev pub KnowsReads : ℕ → Hold T → ℕ → Type 0
  KnowsReads k h n = (i : ℕ) → i < n → (i < taken_at m h.claimed) ⊎ IsAmong (next_read m k i) v.seen

  -- the seat may make the step
  abbrev pub CanMake : Kind X T → Type 0
  CanMake (looking k e) = k < m.pieces
  CanMake looking_at_stop = Unit {0}
  CanMake stopping = Unit {0}
  CanMake (starting k) = (k < m.pieces) × (word_at k ≡ 0)
  CanMake (resuming k t) = (k < m.pieces) × (v.hand ≡ None) × (8 ≤ word_at k) × (get_elem? s.homes k ≡ some (some (Task t))) × IsAmong (next_read m k (m.taken t)) v.seen
  CanMake (lending k) = (k < m.pieces) × (v.hand ≡ None) × (v.lent ≡ None) × (word_at k ≡ 3)
  CanMake (settling k h) = (k < m.pieces) × (v.hand ≡ Some k) × (hold_on k v.held ≡ Some h) × KnowsReads k h (length (reads m k))
  CanMake (parking k h t) = (k < m.pieces) × (v.hand ≡ Some k) × (hold_on k v.held ≡ Some h) × CanPark m k t × (steps_at m h.claimed ≤ m.task_steps t) × (taken_at m h.claimed ≤ m.taken t) × KnowsReads k h (m.taken t)
  CanMake (giving_back k) = (k < m.pieces) × (v.hand ≡ Some k) × (v.lent ≡ Some k)
  CanMake (taking_slot k) = (k < m.pieces) × (v.hand ≡ None) × (IsSome (hold_on k v.held) ⊎ (v.lent ≡ Some k))
  CanMake (putting_back k) = (k < m.pieces) × (v.hand ≡ Some k) × (IsSome (hold_on k v.held) ⊎ (v.lent ≡ Some k))
  CanMake cutting = 1 < v.share
  CanMake (joining j w) = (j ≢ id) × (get_elem? s.views j ≡ some w) × (0 < w.share) × (w.held ≡ []) × (w.lent ≡ None) × (w.hand ≡ None)

  -- The word of the piece k becomes n, the seat has in hand what `carried` says, its view becomes w, and slots go as the act says
  abbrev pub after_move : ℕ → ℕ → List (ℕ × Home T O) → View X T → Act (Home T O) → State (Home T O) (View X T)
  after_move k n carried w a = stepped s k n id carried w a

  -- the table after the step
  abbrev pub after_step : Kind X T → State (Home T O) (View X T)
  after_step (looking k e) = after_move k (word_at k) [] (after_look e k (word_at k) v) keeps
  after_step looking_at_stop = after_move m.pieces (word_at m.pieces) [] (after_stop_look (word_at m.pieces) v) keeps
  after_step stopping = after_move m.pieces 1 [] (after_stop v) keeps
  after_step (starting k) = after_move k 1 [] (after_start k v) keeps
  after_step (resuming k t) = after_move k 1 [] (with_hand (Some k) (after_claim (ClaimsParked k (word_at k) true) (task_hold k t) v)) (takes k (Task t))
  after_step (lending k) = after_move k 4 [] (with_hand (Some k) (after_lend k v)) (takes k (Outcome (outcome m k)))
  after_step (settling k h) = after_move k 3 ((k, Outcome (outcome m k)) ∷ []) (with_hand None (after_settle k (m.outcome_steps (outcome m k) - steps_at m h.claimed) v)) gives
  after_step (parking k h t) = after_move k (8 + next_read m k (m.taken t)) ((k, Task t) ∷ []) (with_hand None (after_park k (8 + next_read m k (m.taken t)) t (m.task_steps t - steps_at m h.claimed) v)) gives
  after_step (giving_back k) = after_move k 3 ((k, Outcome (outcome m k)) ∷ []) (with_hand None (after_give_back k v)) gives
  after_step (taking_slot k) = after_move k (word_at k) [] (with_hand (Some k) v) (takes k Empty)
  after_step (putting_back k) = after_move k (word_at k) ((k, Empty) ∷ []) (with_hand None v) gives
  after_step cutting = record { words = s.words; homes = s.homes; views = slice_set s.views id (with_less v) ++ newcomer v ∷ [] }
  after_step (joining j w) = record { words = s.words; homes = s.homes; views = slice_set (slice_set s.views id (joined v w)) j gone }

  -- The steps of the machine. The worker is the seat. A claim is a Claim, the claim of a parked piece a Resume; a settle stands for the
  -- Advances that are left and a Settle, a park for the Advances that were made and a Park; every other kind is none
  abbrev pub machine_steps : Kind X T → List CoreStep
  machine_steps (starting k) = Claim (record { 0 = k }) id ∷ []
  machine_steps (resuming k t) = Resume (record { 0 = k }) id ∷ []
  machine_steps (settling k h) = advances_then (record { 0 = k }) (advances_left (length (reads m k) - taken_at m h.claimed) (advanced_at m h.claimed)) (Settle (record { 0 = k }) ∷ [])
  machine_steps (parking k h t) = advances_then (record { 0 = k }) (m.taken t - taken_at m h.claimed) (Park (record { 0 = k }) (record { 0 = next_read m k (m.taken t) }) ∷ [])
  machine_steps kind = []

-- The table s shows a state of the machine, the table t shows another, and these steps lead from the one to the other, whatever says what
-- the pieces do next
abbrev pub GoesBy : {X T O : Type 0} → Meant T O → List CoreStep → State (Home T O) (View X T) → State (Home T O) (View X T) → Type 0
GoesBy {X} {T} {O} m steps s t = (before after : List (PieceState O)) × Shows m s before × Shows m t after × ((next : ℕ → List (ℕ × O) → NextOf O) → IsNext m next → replayed next before steps ≡ Some after)
