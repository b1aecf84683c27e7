-- What the calls owe the table for their steps: that the rule allows each of them, and that the seat stays one of the board.
use Rattle.std.proofs.Common.{◌≡◌, ◌⊎◌, ℕ, ◌+◌, ◌-◌, ◌<◌, ◌≤◌, List, [], ◌∷◌, length, sym, refl, ap, ◌∙◌, subst, arith, Some, None, ◌==◌}
use prog.Atomic.{either}
use mathlib.Core.Option.{none}
use Rattle.atomic_table.specs.declared.shared.Seat.{Seat}
use Rattle.atomic_table.specs.Seated.{TableId}
use Rattle.atomic_table.specs.Table.{step, Allows, Me}
use Rattle.settle_core.specs.Meant.{Meant, Lawful, outcome, reads}
use Rattle.board_rule.specs.Maps.{IsAmong}
use Rattle.board_rule.specs.Standing.{next_read, steps_at, taken_at}
use Rattle.board_rule.specs.Views.{hold_on, with_hand}
use Rattle.board_rule.specs.Rule.{OneState}
use Rattle.board_rule.specs.Plays.{look_tells, stop_look_tells, stop_tells, start_tells, take_slot_tells, put_slot_back_tells, give_back_tells, settle_tells, park_tells, resume_tells, lend_tells, CanPark}
use Rattle.board_rule.specs.declared.home.Home.{Home}
use Rattle.board_rule.specs.declared.home.Home.TheVariants.{Empty, Task, Outcome}
use Rattle.board_rule.specs.declared.view.Hold.{Hold}
use Rattle.board_rule.specs.declared.view.Key.{Key}
use Rattle.board_rule.specs.declared.view.View.{View}
use Rattle.board_rule.proofs.Sights.{looks, looks_at_stop, stops}
use Rattle.board_rule.proofs.Claims.{claims_fresh}
use Rattle.board_rule.proofs.Slots.{reaches_held, leaves_held, reaches_lent, leaves_lent}
use Rattle.board_rule.proofs.Ends.{settles, parks, gives_back}
use Rattle.board_rule.proofs.Lends.{claims_parked, lends}
use Rattle.settle_board.specs.Boards.{IsSeat}

module _ {T O X : Type 0} where
  -- what a step on the word k has to show of the seat
  abbrev pub May : (X → Meant T O) → TableId → Key X → Seat (Home T O) (View X T) → ℕ → (ℕ → ℕ) → (Me (Home T O) (View X T) → ℕ → Me (Home T O) (View X T) → Type 0) → Type 0
  May meant z key s k f then = (s.table_id ≡ z) × (k < z.words) × Allows (OneState meant key) z.slots s.id s.me k f (then s.me)

  pub stays : (m : Meant T O) (z : TableId) (key : Key X) (s t : Seat (Home T O) (View X T)) (w : View X T) (c : List (ℕ × Home T O)) → IsSeat m z key s → t.table_id ≡ s.table_id → t.me ≡ (w, c) → c ≡ []
      → w.about ≡ s.me.0.about → w.share ≡ s.me.0.share → w.hand ≡ None → IsSeat m z key t
  stays m z key s t w c a at me no_slot about share hand = record {
    words = a.words;
    slots = a.slots;
    at = at ∙ a.at;
    about = ap (λ x. x.0.about) me ∙ (about ∙ a.about);
    share = ap (λ x. x.0.share) me ∙ (share ∙ a.share);
    hand = ap (λ x. x.0.hand) me ∙ hand;
    bare = ap (λ x. x.1) me ∙ no_slot;
  }

-- a seat with nothing in hand is as if nothing had been there
pub no_hand : {X T : Type 0} (v : View X T) → v.hand ≡ None → with_hand None v ≡ v
no_hand v e = λ i. record v { hand = sym e i }

module _ {T O X : Type 0} (meant : X → Meant T O) (lawful : (x : X) → Lawful (meant x)) (z : TableId) (key key' : Key X) (is : key' ≡ key) (s : Seat (Home T O) (View X T)) (a : IsSeat (meant key.meaning) z key s) where
  abbrev m : Meant T O
  m = meant key.meaning

  some_share : 0 < s.me.0.share
  some_share = let h = a.share in omega arith

  module _ (k : ℕ) (inside : k ≤ m.pieces) where
    -- of the seat t with the view v and the slots c, under the table's own key
    at_key : (t : Seat (Home T O) (View X T)) (me : Me (Home T O) (View X T)) (f : ℕ → ℕ) (then : Me (Home T O) (View X T) → ℕ → Me (Home T O) (View X T) → Type 0)
        → t.table_id ≡ s.table_id → t.me ≡ me → Allows (OneState meant key) z.slots t.id me k f (then me) → May meant z key' t k f then
    at_key t me f then table e h = (
      table ∙ a.at,
      (let w = a.words in omega arith),
      subst (λ (x : Key X × Me (Home T O) (View X T)). Allows (OneState meant x.0) z.slots t.id x.1 k f (then x.1)) (λ i. (sym is i, sym e i)) h,
    )

  module _ (k : ℕ) (inside : k < m.pieces) where
    within : k ≤ m.pieces
    within = omega arith

    pub may_look : May meant z key' s k (λ x. x) (look_tells meant (step z.slots k 0 0 none))
    may_look = at_key k within s s.me (λ x. x) (look_tells meant (step z.slots k 0 0 none)) refl refl (looks meant key (lawful key.meaning) z.slots s.id k s.me inside some_share a.about)

    pub may_claim : May meant z key' s k (λ x. either (x == 0) 1 x) (start_tells (step z.slots k 0 1 none))
    may_claim = at_key k within s s.me (λ x. either (x == 0) 1 x) (start_tells (step z.slots k 0 1 none)) refl refl (claims_fresh meant key (lawful key.meaning) z.slots s.id k s.me inside some_share)

    pub may_resume : (word : ℕ) → 8 ≤ word → IsAmong (word - 8) s.me.0.seen → May meant z key' s k (λ x. either (x == word) 1 x) (resume_tells meant (step z.slots k word 1 none))
    may_resume word large ready = at_key k within s s.me (λ x. either (x == word) 1 x) (resume_tells meant (step z.slots k word 1 none)) refl refl
        (claims_parked meant key (lawful key.meaning) s.id k s.me.0 inside some_share a.hand a.about z.slots s.me.1 word large ready)

    pub may_lend : s.me.0.lent ≡ None → May meant z key' s k (λ x. either (x == 3) 4 x) (lend_tells meant (step z.slots k 3 4 none))
    may_lend idle = at_key k within s s.me (λ x. either (x == 3) 4 x) (lend_tells meant (step z.slots k 3 4 none)) refl refl
        (lends meant key (lawful key.meaning) s.id k s.me.0 inside some_share a.hand a.about z.slots s.me.1 idle)

    pub may_reach_held : (h : Hold T) → hold_on k s.me.0.held ≡ Some h → May meant z key' s k (λ x. x) (take_slot_tells (step z.slots k 0 0 none))
    may_reach_held h has = at_key k within s s.me (λ x. x) (take_slot_tells (step z.slots k 0 0 none)) refl refl (reaches_held meant key z.slots s.id k s.me.0 inside some_share s.me.1 h a.hand has)

    pub may_reach_lent : s.me.0.lent ≡ Some k → May meant z key' s k (λ x. x) (take_slot_tells (step z.slots k 0 0 none))
    may_reach_lent has = at_key k within s s.me (λ x. x) (take_slot_tells (step z.slots k 0 0 none)) refl refl (reaches_lent meant key z.slots s.id k s.me.0 inside some_share s.me.1 a.hand has)

    -- the seat with the slot of the piece in hand
    module _ (t : Seat (Home T O) (View X T)) (v : View X T) (c : List (ℕ × Home T O)) (table : t.table_id ≡ s.table_id) (one_share : v.share ≡ 1) (hand : v.hand ≡ Some k) where
      shared : 0 < v.share
      shared = omega arith

      pub may_leave_held : (h : Hold T) → t.me ≡ (v, (k, Empty) ∷ c) → hold_on k v.held ≡ Some h → May meant z key' t k (λ x. x) (put_slot_back_tells (step z.slots k 0 0 none))
      may_leave_held h e has = at_key k within t (v, (k, Empty) ∷ c) (λ x. x) (put_slot_back_tells (step z.slots k 0 0 none)) table e (leaves_held meant key z.slots t.id k v inside shared c h hand has)

      pub may_leave_lent : t.me ≡ (v, (k, Empty) ∷ c) → v.lent ≡ Some k → May meant z key' t k (λ x. x) (put_slot_back_tells (step z.slots k 0 0 none))
      may_leave_lent e has = at_key k within t (v, (k, Empty) ∷ c) (λ x. x) (put_slot_back_tells (step z.slots k 0 0 none)) table e (leaves_lent meant key z.slots t.id k v inside shared c hand has)

      pub may_settle : (h : Hold T) → t.me ≡ (v, (k, Outcome (outcome m k)) ∷ c) → v.about ≡ Some key → hold_on k v.held ≡ Some h
          → ((i : ℕ) → i < length (reads m k) → (i < taken_at m h.claimed) ⊎ IsAmong (next_read m k i) v.seen)
          → May meant z key' t k (λ _. 3) (λ me _. settle_tells meant (step z.slots k 3 0 none) me 3)
      may_settle h e about has past = at_key k within t (v, (k, Outcome (outcome m k)) ∷ c) (λ _. 3) (λ me _. settle_tells meant (step z.slots k 3 0 none) me 3) table e
          (settles meant key (lawful key.meaning) t.id k v inside shared z.slots c h about hand has past)

      pub may_park : (h : Hold T) (u : T) (on : ℕ) → t.me ≡ (v, (k, Task u) ∷ c) → v.about ≡ Some key → hold_on k v.held ≡ Some h
          → CanPark m k u → on ≡ next_read m k (m.taken u) → steps_at m h.claimed ≤ m.task_steps u → taken_at m h.claimed ≤ m.taken u
          → ((i : ℕ) → i < m.taken u → (i < taken_at m h.claimed) ⊎ IsAmong (next_read m k i) v.seen)
          → May meant z key' t k (λ _. 8 + on) (λ me _. park_tells meant (step z.slots k (8 + on) 0 none) me (8 + on))
      may_park h u on e about has own next more further past = at_key k within t (v, (k, Task u) ∷ c) (λ _. 8 + on) (λ me _. park_tells meant (step z.slots k (8 + on) 0 none) me (8 + on)) table e
          (parks meant key (lawful key.meaning) t.id k v inside shared z.slots c h u on about hand has own next more further past)

      pub may_give_back : t.me ≡ (v, (k, Outcome (outcome m k)) ∷ c) → v.lent ≡ Some k → May meant z key' t k (λ _. 3) (λ me _. give_back_tells (step z.slots k 3 0 none) me 3)
      may_give_back e has = at_key k within t (v, (k, Outcome (outcome m k)) ∷ c) (λ _. 3) (λ me _. give_back_tells (step z.slots k 3 0 none) me 3) table e
          (gives_back meant key (lawful key.meaning) t.id k v inside shared z.slots c hand has)

  -- the stop word is the last one
  module _ (n : ℕ) (last : n ≡ m.pieces) where
    pub may_look_at_stop : May meant z key' s n (λ x. x) (stop_look_tells (step z.slots n 0 0 none))
    may_look_at_stop = at_key n (omega arith) s s.me (λ x. x) (stop_look_tells (step z.slots n 0 0 none)) refl refl
        (subst (λ (x : ℕ). Allows (OneState meant key) z.slots s.id s.me x (λ y. y) (stop_look_tells (step z.slots x 0 0 none) s.me)) (sym last) (looks_at_stop meant key z.slots s.id s.me some_share))

    pub may_stop : May meant z key' s n (λ _. 1) (λ me _. stop_tells (step z.slots n 1 0 none) me 1)
    may_stop = at_key n (omega arith) s s.me (λ _. 1) (λ me _. stop_tells (step z.slots n 1 0 none) me 1) refl refl
        (subst (λ (x : ℕ). Allows (OneState meant key) z.slots s.id s.me x (λ _. 1) (λ _. stop_tells (step z.slots x 1 0 none) s.me 1)) (sym last) (stops meant key z.slots s.id s.me some_share))
