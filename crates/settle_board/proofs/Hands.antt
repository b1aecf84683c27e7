-- What the steps of a call make of the seat, one after the other.
use Rattle.std.proofs.Common.{◌≡◌, ℕ, ◌+◌, ◌-◌, ◌≤◌, List, [], ◌∷◌, sym, refl, ap, ◌∙◌, Option, Some, None, IsSome}
use mathlib.Core.Option.{none}
use Rattle.atomic_table.specs.Table.{step, Me, rest}
use Rattle.settle_core.specs.Meant.{Meant, outcome}
use Rattle.board_rule.specs.Standing.{steps_at}
use Rattle.board_rule.specs.Views.{hold_on, with_hand, after_settle, after_park, after_lend}
use Rattle.board_rule.specs.Rule.{work}
use Rattle.board_rule.specs.Plays.{settle_tells, park_tells, resume_tells, gets_task, lend_tells}
use Rattle.board_rule.specs.declared.home.Home.{Home}
use Rattle.board_rule.specs.declared.home.Home.TheVariants.{Empty, Task, Outcome}
use Rattle.board_rule.specs.declared.view.Hold.{Hold}
use Rattle.board_rule.specs.declared.view.Key.{Key}
use Rattle.board_rule.specs.declared.view.View.{View}

pub some_of : {A : Type 0} (o : Option A) → IsSome o → (x : A) × (o ≡ Some x)
some_of None h = absurd cc
some_of (Some x) h = (x, refl)

pub one_task : {T O : Type 0} (x : Home T O) (t u : T) → x ≡ Task t → x ≡ Task u → t ≡ u
one_task x t u e f = cc

pub one_outcome : {T O : Type 0} (x : Home T O) (o p : O) → x ≡ Outcome o → x ≡ Outcome p → o ≡ p
one_outcome x o p e f = cc

-- the slot in hand is exchanged
module _ {X T O : Type 0} (me : Me (Home T O) (View X T)) (v : View X T) (k : ℕ) (x : Home T O) (c : List (ℕ × Home T O)) (e : me ≡ (v, (k, x) ∷ c)) where
  pub in_front : (y : Home T O) × (me.1 ≡ (k, y) ∷ rest me.1)
  in_front = (x, ap (λ z. z.1) e ∙ ap (λ (z : Me (Home T O) (View X T)). (k, x) ∷ rest z.1) (sym e))

  pub exchanged_to : (me' : Me (Home T O) (View X T)) (y : Home T O) → me' ≡ (me.0, (k, y) ∷ rest me.1) → me' ≡ (v, (k, y) ∷ c)
  exchanged_to me' y q = q ∙ ap (λ (z : Me (Home T O) (View X T)). (z.0, (k, y) ∷ rest z.1)) e

  abbrev front_or : List (ℕ × Home T O) → Home T O
  front_or [] = Empty
  front_or (z ∷ zs) = z.1

  pub exchanged_from : (y : Home T O) → me.1 ≡ (k, y) ∷ rest me.1 → y ≡ x
  exchanged_from y q = ap front_or (sym q) ∙ ap (λ (z : Me (Home T O) (View X T)). front_or z.1) e

  -- and left
  pub left_to : (me' : Me (Home T O) (View X T)) → me' ≡ (with_hand None me.0, rest me.1) → me' ≡ (with_hand None v, c)
  left_to me' q = q ∙ ap (λ (z : Me (Home T O) (View X T)). (with_hand None z.0, rest z.1)) e

module _ {X T O : Type 0} (meant : X → Meant T O) (key : Key X) (k slots : ℕ) where
  abbrev m : Meant T O
  m = meant key.meaning

  -- the last store of a call that settles or parks
  module _ (t u : Me (Home T O) (View X T)) (v : View X T) (y : Home T O) (c : List (ℕ × Home T O)) (e : t ≡ (with_hand (Some k) v, (k, y) ∷ c)) (h : Hold T) (about : v.about ≡ Some key) (has : hold_on k v.held ≡ Some h) where
    pub settled_to : settle_tells meant (step slots k 3 0 none) t 3 u → (u ≡ (with_hand None (after_settle k (m.outcome_steps (outcome m k) - steps_at m h.claimed) v), c)) × (u.0.spent ≤ work m)
    settled_to q = let a = q key h (ap (λ x. x.0.about) e ∙ about) (ap (λ x. hold_on k x.0.held) e ∙ has) in
        (a.0 ∙ ap (λ (x : Me (Home T O) (View X T)). (with_hand None (after_settle k (m.outcome_steps (outcome m k) - steps_at m h.claimed) x.0), rest x.1)) e, a.1)

    pub parked_to : (a : T) (on : ℕ) → y ≡ Task a → park_tells meant (step slots k (8 + on) 0 none) t (8 + on) u → (u ≡ (with_hand None (after_park k (8 + on) a (m.task_steps a - steps_at m h.claimed) v), c)) × (u.0.spent ≤ work m)
    parked_to a on is q = let b = q key h a (ap (λ x. x.0.about) e ∙ about) (ap (λ x. hold_on k x.0.held) e ∙ has) (ap (λ x. x.1) e ∙ (λ i. (k, is i) ∷ rest (sym e i).1)) in
        (b.0 ∙ ap (λ (x : Me (Home T O) (View X T)). (with_hand None (after_park k (8 + on) a (m.task_steps a - steps_at m h.claimed) x.0), rest x.1)) e, b.1)

  -- the exchange that brings a task or an outcome to hand
  pub resumed_at : (word r : ℕ) (t u : Me (Home T O) (View X T)) → t.0.about ≡ Some key → r ≡ word → resume_tells meant (step slots k word 1 none) t r u → gets_task meant key k r t u
  resumed_at word r t u about e q = q.0 e key about

  pub lent_at : (r : ℕ) (t u : Me (Home T O) (View X T)) → t.0.about ≡ Some key → r ≡ 3 → lend_tells meant (step slots k 3 4 none) t r u → u ≡ (with_hand (Some k) (after_lend k t.0), (k, Outcome (outcome m k)) ∷ t.1)
  lent_at r t u about e q = q.0 e key about
