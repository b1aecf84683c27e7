-- The calls by which a slot comes to hand and goes home again, a lemma each: that the rule allows the last step, and what the seat is after it.
use Rattle.std.proofs.Common.{◌≡◌, ◌⊎◌, ℕ, ◌+◌, ◌-◌, ◌<◌, ◌≤◌, ◌∷◌, length, sym, refl, ap, ◌∙◌, Some, None}
use mathlib.Core.Option.{none}
use Rattle.atomic_table.specs.declared.shared.Seat.{Seat}
use Rattle.atomic_table.specs.Seated.{TableId}
use Rattle.atomic_table.specs.Table.{step, Me, rest}
use Rattle.settle_core.specs.Meant.{Meant, Lawful, outcome, reads}
use Rattle.board_rule.specs.Maps.{IsAmong}
use Rattle.board_rule.specs.Standing.{next_read, steps_at, taken_at}
use Rattle.board_rule.specs.Views.{hold_on, with_hand, after_settle, after_park, after_give_back}
use Rattle.board_rule.specs.Rule.{work}
use Rattle.board_rule.specs.Plays.{put_slot_back_tells, give_back_tells, settle_tells, park_tells, CanPark}
use Rattle.board_rule.specs.declared.home.Home.{Home}
use Rattle.board_rule.specs.declared.home.Home.TheVariants.{Empty, Task, Outcome}
use Rattle.board_rule.specs.declared.view.Hold.{Hold}
use Rattle.board_rule.specs.declared.view.Key.{Key}
use Rattle.board_rule.specs.declared.view.View.{View}
use Rattle.settle_board.specs.Boards.{IsSeat}
use Rattle.settle_board.proofs.Allowed.{May, stays, no_hand, may_leave_held, may_leave_lent, may_settle, may_park, may_give_back}
use Rattle.settle_board.proofs.Hands.{exchanged_to, left_to, settled_to, parked_to}

module _ {T O X : Type 0} (meant : X → Meant T O) (lawful : (x : X) → Lawful (meant x)) (z : TableId) (key key' : Key X) (is : key' ≡ key)
    (s : Seat (Home T O) (View X T)) (a : IsSeat (meant key.meaning) z key s) (k : ℕ) (inside : k < (meant key.meaning).pieces)
    (t u : Seat (Home T O) (View X T)) (first : t.table_id ≡ s.table_id) (second : u.table_id ≡ t.table_id) where
  abbrev m : Meant T O
  m = meant key.meaning

  -- The slot comes to hand empty, and something is put into it
  module _ (took : t.me ≡ (with_hand (Some k) s.me.0, (k, Empty) ∷ s.me.1)) where
    abbrev with_slot : Home T O → Me (Home T O) (View X T)
    with_slot x = (with_hand (Some k) s.me.0, (k, x) ∷ s.me.1)

    filled : (x : Home T O) → u.me ≡ (t.me.0, (k, x) ∷ rest t.me.1) → u.me ≡ with_slot x
    filled x put = exchanged_to t.me (with_hand (Some k) s.me.0) k Empty s.me.1 took u.me x put

    with_outcome : (o : O) → o ≡ outcome m k → u.me ≡ (t.me.0, (k, Outcome o) ∷ rest t.me.1) → u.me ≡ with_slot (Outcome (outcome m k))
    with_outcome o e put = filled (Outcome o) put ∙ ap (λ x. with_slot (Outcome x)) e

    module _ (o : O) (same : o ≡ outcome m k) (put : u.me ≡ (t.me.0, (k, Outcome o) ∷ rest t.me.1)) where
      module _ (h : Hold T) (has : hold_on k s.me.0.held ≡ Some h) where
        abbrev used : ℕ
        used = m.outcome_steps (outcome m k) - steps_at m h.claimed

        pub settle_may : ((i : ℕ) → i < length (reads m k) → (i < taken_at m h.claimed) ⊎ IsAmong (next_read m k i) s.me.0.seen) → May meant z key' u k (λ _. 3) (λ me _. settle_tells meant (step z.slots k 3 0 none) me 3)
        settle_may past = may_settle meant lawful z key key' is s a k inside u (with_hand (Some k) s.me.0) s.me.1 (second ∙ first) a.share refl h (with_outcome o same put) a.about has past

        pub settle_ends : (w : Seat (Home T O) (View X T)) → w.table_id ≡ u.table_id → settle_tells meant (step z.slots k 3 0 none) u.me 3 w.me
            → IsSeat m z key w × (w.me.0 ≡ after_settle k (m.outcome_steps o - steps_at m h.claimed) s.me.0) × (w.me.0.spent ≤ work m)
        settle_ends w third told = let q = settled_to meant key k z.slots u.me w.me s.me.0 (Outcome (outcome m k)) s.me.1 (with_outcome o same put) h a.about has told in (
          stays m z key s w (with_hand None (after_settle k used s.me.0)) s.me.1 a (third ∙ (second ∙ first)) q.0 a.bare refl refl refl,
          ap (λ x. x.0) q.0 ∙ (no_hand (after_settle k used s.me.0) a.hand ∙ ap (λ x. after_settle k (m.outcome_steps x - steps_at m h.claimed) s.me.0) (sym same)),
          q.1,
        )

      module _ (loan : s.me.0.lent ≡ Some k) where
        pub give_may : May meant z key' u k (λ _. 3) (λ me _. give_back_tells (step z.slots k 3 0 none) me 3)
        give_may = may_give_back meant lawful z key key' is s a k inside u (with_hand (Some k) s.me.0) s.me.1 (second ∙ first) a.share refl (with_outcome o same put) loan

        pub give_ends : (w : Seat (Home T O) (View X T)) → w.table_id ≡ u.table_id → give_back_tells (step z.slots k 3 0 none) u.me 3 w.me → IsSeat m z key w × (w.me.0 ≡ after_give_back k s.me.0)
        give_ends w third told = let q : w.me ≡ (with_hand None (after_give_back k s.me.0), s.me.1) = told ∙ ap (λ (x : Me (Home T O) (View X T)). (with_hand None (after_give_back k x.0), rest x.1)) (with_outcome o same put) in (
          stays m z key s w (with_hand None (after_give_back k s.me.0)) s.me.1 a (third ∙ (second ∙ first)) q a.bare refl refl refl,
          ap (λ x. x.0) q ∙ no_hand (after_give_back k s.me.0) a.hand,
        )

    module _ (task : T) (on : ℕ) (put : u.me ≡ (t.me.0, (k, Task task) ∷ rest t.me.1)) (h : Hold T) (has : hold_on k s.me.0.held ≡ Some h) where
      abbrev spends : ℕ
      spends = m.task_steps task - steps_at m h.claimed

      pub park_may : CanPark m k task → on ≡ next_read m k (m.taken task) → steps_at m h.claimed ≤ m.task_steps task → taken_at m h.claimed ≤ m.taken task
          → ((i : ℕ) → i < m.taken task → (i < taken_at m h.claimed) ⊎ IsAmong (next_read m k i) s.me.0.seen) → May meant z key' u k (λ _. 8 + on) (λ me _. park_tells meant (step z.slots k (8 + on) 0 none) me (8 + on))
      park_may own next more further past = may_park meant lawful z key key' is s a k inside u (with_hand (Some k) s.me.0) s.me.1 (second ∙ first) a.share refl h task on (filled (Task task) put) a.about has own next more further past

      pub park_ends : (w : Seat (Home T O) (View X T)) → w.table_id ≡ u.table_id → park_tells meant (step z.slots k (8 + on) 0 none) u.me (8 + on) w.me
          → IsSeat m z key w × (w.me.0 ≡ after_park k (8 + on) task spends s.me.0) × (w.me.0.spent ≤ work m)
      park_ends w third told = let q = parked_to meant key k z.slots u.me w.me s.me.0 (Task task) s.me.1 (filled (Task task) put) h a.about has task on refl told in (
        stays m z key s w (with_hand None (after_park k (8 + on) task spends s.me.0)) s.me.1 a (third ∙ (second ∙ first)) q.0 a.bare refl refl refl,
        ap (λ x. x.0) q.0 ∙ no_hand (after_park k (8 + on) task spends s.me.0) a.hand,
        q.1,
      )

  -- The slot comes to hand with something in it, which is taken out
  module _ (x : Home T O) (v : View X T) (took : t.me ≡ (with_hand (Some k) v, (k, x) ∷ s.me.1)) (put : u.me ≡ (t.me.0, (k, Empty) ∷ rest t.me.1)) (share : v.share ≡ 1) where
    bare : u.me ≡ (with_hand (Some k) v, (k, Empty) ∷ s.me.1)
    bare = exchanged_to t.me (with_hand (Some k) v) k x s.me.1 took u.me Empty put

    pub leave_held_may : (h : Hold T) → hold_on k v.held ≡ Some h → May meant z key' u k (λ y. y) (put_slot_back_tells (step z.slots k 0 0 none))
    leave_held_may h has = may_leave_held meant lawful z key key' is s a k inside u (with_hand (Some k) v) s.me.1 (second ∙ first) share refl h bare has

    pub leave_lent_may : v.lent ≡ Some k → May meant z key' u k (λ y. y) (put_slot_back_tells (step z.slots k 0 0 none))
    leave_lent_may loan = may_leave_lent meant lawful z key key' is s a k inside u (with_hand (Some k) v) s.me.1 (second ∙ first) share refl bare loan

    pub leave_ends : v.about ≡ Some key → v.hand ≡ None → (w : Seat (Home T O) (View X T)) → w.table_id ≡ u.table_id → w.me ≡ (with_hand None u.me.0, rest u.me.1) → IsSeat m z key w × (w.me.0 ≡ v)
    leave_ends about hand w third told = let q = left_to u.me (with_hand (Some k) v) k Empty s.me.1 bare w.me told in (
      stays m z key s w (with_hand None v) s.me.1 a (third ∙ (second ∙ first)) q a.bare (about ∙ sym a.about) (share ∙ sym a.share) refl,
      ap (λ y. y.0) q ∙ no_hand v hand,
    )
