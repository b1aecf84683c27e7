-- Each step on the board makes the steps of the machine that its kind names.
use Rattle.std.proofs.Common.{◌≡◌, ◌≢◌, ◌⊎◌, ℕ, ◌+◌, ◌<◌, ◌≤◌, List, [], get_or, set, sym, refl, ap, ◌∙◌, subst, true, false, ⊎_elim, Option, Some, None, IsSome}
use mathlib.Core.Option.{some, none}
use mathlib.Core.Option as maybe
use lib.ListN.{get_elem?}
use Rattle.atomic_table.specs.Table.{State}
use Rattle.atomic_table.proofs.Lists.{set_else}
use Rattle.settle_core.specs.Meant.{Meant, Lawful, outcome}
use Rattle.settle_core.specs.declared.core_step.CoreStep.{CoreStep}
use Rattle.board_rule.specs.Maps.{is_it}
use Rattle.board_rule.specs.Stages.{states, LeadsBy}
use Rattle.board_rule.specs.Standing.{Standing, fresh, held, parked, settled, lent, in_hand_of, next_read, home_of, stage_of}
use Rattle.board_rule.specs.Views.{hold_on, with_hand, fresh_hold, task_hold, after_look, after_stop_look, after_stop, after_start, after_claim, after_lend, after_give_back, joined}
use Rattle.board_rule.specs.Rule.{OneState}
use Rattle.board_rule.specs.Kinds.{Kind, looking, looking_at_stop, stopping, starting, resuming, lending, settling, parking, giving_back, taking_slot, putting_back, cutting, joining, CanMake, after_step, machine_steps, GoesBy}
use Rattle.board_rule.specs.declared.home.Home.{Home}
use Rattle.board_rule.specs.declared.home.Home.TheVariants.{Empty, Task, Outcome}
use Rattle.board_rule.specs.declared.view.Key.{Key}
use Rattle.board_rule.specs.declared.view.View.{View}
use Rattle.board_rule.specs.declared.view.Entry.TheVariants.{ClaimsParked}
use Rattle.board_rule.proofs.Maps.{same_yes}
use Rattle.board_rule.proofs.Standings.{settled_word, parked_word, none_but, some_but}
use Rattle.board_rule.proofs.Moves.{Change, Sight, moves, moves_by, sees, sees_by}
use Rattle.board_rule.proofs.Sights.{sight, stop_sight, stop_set}
use Rattle.board_rule.proofs.Claims.{won}
use Rattle.board_rule.proofs.Lends.{task_won, outcome_won}
use Rattle.board_rule.proofs.Ends.{settled_view, parked_view, settle_change, park_change, give_change}
use Rattle.board_rule.proofs.Slots.{held_at_home, held_in_hand, lent_at_home, lent_in_hand, Handing, of_held, of_lent, handing}
use Rattle.board_rule.proofs.Seats.{cuts, cuts_by, joins, joins_by}
use Rattle.board_rule.proofs.Showing.{shows}

some_of : {A : Type 0} (o : Option A) → IsSome o → (x : A) × (o ≡ Some x)
some_of None h = absurd cc
some_of (Some x) h = (x, refl)

module _ {X T O : Type 0} (meant : X → Meant T O) (key : Key X) (lawful : Lawful (meant key.meaning)) (s : State (Home T O) (View X T)) (r : OneState meant key s) (id : ℕ) (v : View X T) (seat : get_elem? s.views id ≡ some v) where
  abbrev m : Meant T O
  m = meant key.meaning

  -- the rule holds afterwards, and these steps were made
  abbrev Made : List CoreStep → State (Home T O) (View X T) → Type 0
  Made steps t = OneState meant key t × GoesBy m steps s t

  made : (steps : List CoreStep) (t : State (Home T O) (View X T)) (q : OneState meant key t) → LeadsBy m steps (λ k. stage_of m (r.at k)) (λ k. stage_of m (q.at k)) → Made steps t
  made steps t q leads = (q, (states m (λ k. stage_of m (r.at k)), states m (λ k. stage_of m (q.at k)), shows meant key s r, shows meant key t q, leads))

  made_by : (k : ℕ) (w : View X T) (p p' : Standing T) (words' : List ℕ) (homes' : List (maybe.Option (Home T O))) (steps : List CoreStep) → Change meant key s r.at k id v w p p' words' homes' steps
      → Made steps record { words = words'; homes = homes'; views = set s.views id w }
  made_by k w p p' words' homes' steps c = made steps record { words = words'; homes = homes'; views = set s.views id w } (moves meant key s r k id v w p p' words' homes' c) (moves_by meant key s r k id v w p p' words' homes' c)

  seen_by : (w : View X T) (words' : List ℕ) → Sight meant key s r.at id v w words' → Made [] record { words = words'; homes = s.homes; views = set s.views id w }
  seen_by w words' c = made [] record { words = words'; homes = s.homes; views = set s.views id w } (sees meant key s r id v w words' c) (sees_by meant key s r id v w words' c)

  cut_by : 1 < v.share → Made [] (after_step m s id v cutting)
  cut_by two = made [] (after_step m s id v cutting) (cuts meant key id v two s r seat) (cuts_by meant key id v two s r seat)

  joined_by : (some_share : 0 < v.share) (j : ℕ) (w : View X T) → CanMake m s id v (joining j w) → Made [] (after_step m s id v (joining j w))
  joined_by some_share j w c = let there = set_else s.views id j (joined v w) c.0 ∙ c.1 in
      made [] (after_step m s id v (joining j w)) (joins meant key id j v w some_share c.2 c.3 c.4 c.5 s r seat c.0 there) (joins_by meant key id j v w some_share c.2 c.3 c.4 c.5 s r seat c.0 there)

  module _ (some_share : 0 < v.share) where
    -- the slot of a piece changes hands
    handed : (k : ℕ) (p p' : Standing T) → k < m.pieces → Handing meant key id k p p' → (hand : Option ℕ) (home : maybe.Option (Home T O)) → r.at k ≡ p → is_it hand k ≡ in_hand_of id p' → ((j : ℕ) → j ≢ k → is_it hand j ≡ is_it v.hand j) → home ≡ home_of m k p'
        → Made [] record { words = set s.words k (get_or s.words k 0); homes = set s.homes k home; views = set s.views id (with_hand hand v) }
    handed k p p' inside d hand home was here else is = made_by k (with_hand hand v) p p' (set s.words k (get_or s.words k 0)) (set s.homes k home) [] (handing meant key id k v inside some_share p p' d s r seat hand home was here else is)

    taken : (k : ℕ) → CanMake m s id v (taking_slot k) → Made [] (after_step m s id v (taking_slot k))
    taken k c = ⊎_elim
        (λ (a : IsSome (hold_on k v.held)). let h = some_of (hold_on k v.held) a in
        handed k (held id h.0 false) (held id h.0 true) c.0 (of_held meant key id k h.0 false true) (Some k) none (held_at_home meant key s r id k v seat h.0 c.1 h.1) (same_yes k k refl ∙ sym (same_yes id id refl)) (λ j n. none_but k j v.hand c.1 n) refl)
        (λ (a : v.lent ≡ Some k).
        handed k (lent id false) (lent id true) c.0 (of_lent meant key id k false true) (Some k) none (lent_at_home meant key s r id k v seat c.1 a) (same_yes k k refl ∙ sym (same_yes id id refl)) (λ j n. none_but k j v.hand c.1 n) refl)
        c.2

    put_back : (k : ℕ) → CanMake m s id v (putting_back k) → Made [] (after_step m s id v (putting_back k))
    put_back k c = ⊎_elim
        (λ (a : IsSome (hold_on k v.held)). let h = some_of (hold_on k v.held) a in
        handed k (held id h.0 true) (held id h.0 false) c.0 (of_held meant key id k h.0 true false) None (some Empty) (held_in_hand meant key s r id k v seat h.0 c.1 h.1) refl (λ j n. some_but k j v.hand c.1 n) refl)
        (λ (a : v.lent ≡ Some k).
        handed k (lent id true) (lent id false) c.0 (of_lent meant key id k true false) None (some Empty) (lent_in_hand meant key s r id k v seat c.1 a) refl (λ j n. some_but k j v.hand c.1 n) refl)
        c.2

    resumed : (k : ℕ) (t : T) → CanMake m s id v (resuming k t) → Made (machine_steps m s id v (resuming k t)) (after_step m s id v (resuming k t))
    resumed k t c = let o = r.pieces k c.0 in let q = parked_word m k (r.at k) (subst (λ (z : ℕ). 8 ≤ z) o.word c.2) in
        let same : q.0 ≡ t = (let e : some (some (Task q.0)) ≡ some (some (Task t)) = (ap (λ p. some (home_of m k p)) (sym q.1) ∙ sym o.home) ∙ c.3 in cc) in
        made_by k (with_hand (Some k) (after_claim (ClaimsParked k (get_or s.words k 0) true) (task_hold k t) v)) (parked t) (held id (task_hold k t) true) (set s.words k 1) (set s.homes k none) (machine_steps m s id v (resuming k t))
        (task_won meant key lawful id k v c.0 some_share c.1 s r seat t (get_or s.words k 0) (q.1 ∙ ap parked same) c.4)

    -- every kind
    pub makes : (kind : Kind X T) → CanMake m s id v kind → OneState meant key (after_step m s id v kind) × GoesBy m (machine_steps m s id v kind) s (after_step m s id v kind)
    makes (looking k e) c = seen_by (after_look e k (get_or s.words k 0) v) (set s.words k (get_or s.words k 0)) (sight meant key s r k id v e c some_share seat)
    makes looking_at_stop c = seen_by (after_stop_look (get_or s.words m.pieces 0) v) (set s.words m.pieces (get_or s.words m.pieces 0)) (stop_sight meant key s r id v some_share seat)
    makes stopping c = seen_by (after_stop v) (set s.words m.pieces 1) (stop_set meant key s r id v some_share seat)
    makes (starting k) c = made_by k (after_start k v) fresh (held id (fresh_hold k) false) (set s.words k 1) s.homes (machine_steps m s id v (starting k)) (won meant key lawful 0 id k (v, []) c.0 some_share s r seat c.1)
    makes (resuming k t) c = resumed k t c
    makes (lending k) c = made_by k (with_hand (Some k) (after_lend k v)) settled (lent id true) (set s.words k 4) (set s.homes k none) []
        (outcome_won meant key lawful id k v c.0 some_share c.1 s r seat c.2 (settled_word m k (r.at k) (sym (r.pieces k c.0).word ∙ c.3)))
    makes (settling k h) c = made_by k (settled_view meant key lawful id k v c.0 some_share h) (held id h true) settled (set s.words k 3) (set s.homes k (some (Outcome (outcome m k)))) (machine_steps m s id v (settling k h))
        (settle_change meant key lawful id k v c.0 some_share s r seat h c.1 c.2 c.3)
    makes (parking k h t) c = let on = next_read m k (m.taken t) in
        made_by k (parked_view meant key lawful id k v c.0 some_share h t on) (held id h true) (parked t) (set s.words k (8 + on)) (set s.homes k (some (Task t))) (machine_steps m s id v (parking k h t))
        (park_change meant key lawful id k v c.0 some_share s r seat h c.1 c.2 t on c.3 refl c.4 c.5 c.6)
    makes (giving_back k) c = made_by k (with_hand None (after_give_back k v)) (lent id true) settled (set s.words k 3) (set s.homes k (some (Outcome (outcome m k)))) [] (give_change meant key lawful id k v c.0 some_share s r seat c.1 c.2)
    makes (taking_slot k) c = taken k c
    makes (putting_back k) c = put_back k c
    makes cutting c = cut_by c
    makes (joining j w) c = joined_by some_share j w c

-- the same, of a meaning that is that of the board
pub makes_of : {X T O : Type 0} (meant : X → Meant T O) → ((x : X) → Lawful (meant x)) → (x : X) (key : Key X) (s : State (Home T O) (View X T)) (id : ℕ) (v : View X T) (kind : Kind X T)
    → key.meaning ≡ x → OneState meant key s → get_elem? s.views id ≡ some v → 0 < v.share → CanMake (meant x) s id v kind
    → OneState meant key (after_step (meant x) s id v kind) × GoesBy (meant x) (machine_steps (meant x) s id v kind) s (after_step (meant x) s id v kind)
makes_of meant lawful x key s id v kind e r seat share can =
    subst (λ y. OneState meant key (after_step (meant y) s id v kind) × GoesBy (meant y) (machine_steps (meant y) s id v kind) s (after_step (meant y) s id v kind)) e
    (makes meant key (lawful key.meaning) s r id v seat share kind (subst (λ y. CanMake (meant y) s id v kind) (sym e) can))
