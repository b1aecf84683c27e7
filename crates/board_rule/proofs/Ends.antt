-- Three stores after which a piece is with no seat: it is settled, parked, or its outcome is back.
use Rattle.std.proofs.Common.{◌≡◌, ◌≢◌, ◌⊎◌, ℕ, ◌+◌, ◌-◌, ◌<◌, ◌≤◌, ltb, lt-ltb, List, [], ◌∷◌, length, set, sym, refl, ap, ◌∙◌, subst, arith, true, ⊎_elim, Some, None, length-set, get_or-set_same, get_or-set_other, if◌then◌else◌}
use mathlib.Core.Option.{some, none}
use lib.ListN.{get_elem?}
use Rattle.atomic_table.specs.Table.{State, step, gives, Allows}
use Rattle.atomic_table.proofs.Lists.{set_here, set_else}
use Rattle.settle_core.specs.Meant.{Meant, Lawful, outcome, reads}
use Rattle.settle_core.specs.declared.core_step.CoreStep.{CoreStep}
use Rattle.settle_core.specs.declared.core_step.CoreStep.TheVariants.{Park, Settle}
use Rattle.board_rule.specs.Maps.{is_it, IsAmong}
use Rattle.board_rule.specs.Stages.{Stage, waiting, ended, LeadsBy}
use Rattle.board_rule.specs.Kinds.{advances_then, advances_left}
use Rattle.board_rule.specs.Standing.{Standing, held, parked, settled, lent, IsSettled, IsBegun, held_by, lent_to, next_read, steps_at, taken_at, advanced_at, word_of, home_of, steps_of, stage_of, IsSound}
use Rattle.board_rule.specs.Views.{hold_on, without, with_hand, after_settle, after_park, after_give_back}
use Rattle.board_rule.specs.Rule.{work, OneState}
use Rattle.board_rule.specs.Plays.{give_back_tells, settle_tells, park_tells, CanPark}
use Rattle.board_rule.specs.declared.home.Home.{Home}
use Rattle.board_rule.specs.declared.home.Home.TheVariants.{Empty, Task, Outcome}
use Rattle.board_rule.specs.declared.view.Hold.{Hold}
use Rattle.board_rule.specs.declared.view.Key.{Key}
use Rattle.board_rule.specs.declared.view.View.{View}
use Rattle.board_rule.proofs.Maps.{same_no, hold_gone, hold_kept, at_length}
use Rattle.board_rule.proofs.Standings.{IsFree, settled_ended, some_but}
use Rattle.board_rule.proofs.Machine.{settles_by, parks_by, still}
use Rattle.board_rule.proofs.Moves.{Change, Tells, tells_nothing, tells_one, moves, spent_within}
use Rattle.board_rule.proofs.Knowing.{one_key}
use Rattle.board_rule.proofs.Slots.{held_in_hand, lent_in_hand}

module _ {X T O : Type 0} (meant : X → Meant T O) (key : Key X) where
  abbrev m : Meant T O
  m = meant key.meaning

  -- A held piece, whose slot is in hand, becomes p', which no seat has. The view after it is w
  module _ (id k : ℕ) (v w : View X T) (inside : k < m.pieces) (some_share : 0 < v.share) where
    pub record Ended (h : Hold T) (p' : Standing T) : Type 0 where
      pub seen : Tells IsSettled k (held id h true) p' v.seen w.seen
      pub begun : (w.begun ≡ v.begun) × IsBegun p'
      pub held : w.held ≡ without k v.held
      pub lent : w.lent ≡ v.lent
      pub hand : w.hand ≡ None
      pub marks : (w.stopped ≡ v.stopped) × (w.saw_stop ≡ v.saw_stop)
      pub share : w.share ≡ v.share
      pub spent : w.spent + steps_at m h.claimed ≡ v.spent + steps_of m k p'
      pub free : IsFree p'

    ending : (s : State (Home T O) (View X T)) (r : OneState meant key s) → get_elem? s.views id ≡ some v → (h : Hold T) (p' : Standing T) (word : ℕ) (y : Home T O) (steps : List CoreStep)
        → v.hand ≡ Some k → r.at k ≡ held id h true → word ≡ word_of m k p' → some y ≡ home_of m k p' → IsSound m r.at k p' → Ended h p'
        → ((g : ℕ → Stage) → g k ≡ stage_of m p' → ((j : ℕ) → j ≢ k → g j ≡ stage_of m (r.at j)) → LeadsBy m steps (λ j. stage_of m (r.at j)) g)
        → Change meant key s r.at k id v w (held id h true) p' (set s.words k word) (set s.homes k (some y)) steps
    ending s r seat h p' word y steps full was is home sound d leads = let mine = r.views id v seat in record {
      was = was;
      inside = inside;
      seat = seat;
      words_long = length-set s.words k word;
      word = get_or-set_same s.words k word 0 (let l = r.wide in omega arith) ∙ is;
      words_else = λ j n. get_or-set_other s.words k j word 0 n;
      homes_long = length-set s.homes k (some y);
      home = set_here s.homes k (some y) (let l = r.deep in omega arith) ∙ ap some home;
      homes_else = λ j n. set_else s.homes k j (some y) n;
      sound = sound;
      others = λ j n. (d.free.0 j ∙ sym (ap (λ b. if b then Some h else None) (same_no id j (λ q. n (sym q)))), d.free.1 j, d.free.2 j ∙ sym (same_no id j (λ q. n (sym q))));
      below = d.free.3 (length s.views);
      held_here = ap (hold_on k) d.held ∙ (hold_gone k v.held ∙ sym (d.free.0 id));
      held_else = λ j n. ap (hold_on j) d.held ∙ hold_kept k j v.held n;
      lent_here = ap (λ z. is_it z k) d.lent ∙ ((mine.loans k ∙ ap (lent_to id) was) ∙ sym (d.free.1 id));
      lent_else = λ j n. ap (λ z. is_it z j) d.lent;
      hand_here = ap (λ z. is_it z k) d.hand ∙ sym (d.free.2 id);
      hand_else = λ j n. ap (λ z. is_it z j) d.hand ∙ some_but k j v.hand full n;
      seen = d.seen;
      begun = subst (Tells IsBegun k (held id h true) p' v.begun) (sym d.begun.0) (tells_nothing IsBegun k (held id h true) p' v.begun (λ _. d.begun.1) (λ _. tt));
      marks = d.marks;
      share = (d.share, some_share);
      leads = leads;
      spent = d.spent;
    }

  module _ (lawful : Lawful m) (id k : ℕ) (v : View X T) (inside : k < m.pieces) (some_share : 0 < v.share) where
    -- the view after the piece is settled, and after it is parked
    abbrev pub settled_view : Hold T → View X T
    settled_view h = with_hand None (after_settle k (m.outcome_steps (outcome m k) - steps_at m h.claimed) v)

    abbrev pub parked_view : Hold T → T → ℕ → View X T
    parked_view h t on = with_hand None (after_park k (8 + on) t (m.task_steps t - steps_at m h.claimed) v)

    module _ (s : State (Home T O) (View X T)) (r : OneState meant key s) (seat : get_elem? s.views id ≡ some v) (h : Hold T) (full : v.hand ≡ Some k) (has : hold_on k v.held ≡ Some h) where
      abbrev was : r.at k ≡ held id h true
      was = held_in_hand meant key s r id k v seat h full has

      abbrev sound : IsSound m r.at k (held id h true)
      sound = subst (IsSound m r.at k) was (r.pieces k inside).sound

      -- each of its first n reads is settled
      all_settled : (n : ℕ) → ((i : ℕ) → i < n → (i < taken_at m h.claimed) ⊎ IsAmong (next_read m k i) v.seen) → (i : ℕ) → i < n → IsSettled (r.at (next_read m k i))
      all_settled n past i l = ⊎_elim (λ (a : i < taken_at m h.claimed). sound.0.taken i a) (λ (a : IsAmong (next_read m k i) v.seen). (r.views id v seat).seen (next_read m k i) a) (past i l)

      pub settle_change : ((i : ℕ) → i < length (reads m k) → (i < taken_at m h.claimed) ⊎ IsAmong (next_read m k i) v.seen)
          → Change meant key s r.at k id v (settled_view h) (held id h true) settled (set s.words k 3) (set s.homes k (some (Outcome (outcome m k))))
          (advances_then (record { 0 = k }) (advances_left (length (reads m k) - taken_at m h.claimed) (advanced_at m h.claimed)) (Settle (record { 0 = k }) ∷ []))
      settle_change past = let cheap : steps_at m h.claimed ≤ m.outcome_steps (outcome m k) = sound.1 in let within = sound.0.within in
          ending id k v (settled_view h) inside some_share s r seat h settled 3 (Outcome (outcome m k))
          (advances_then (record { 0 = k }) (advances_left (length (reads m k) - taken_at m h.claimed) (advanced_at m h.claimed)) (Settle (record { 0 = k }) ∷ []))
          full was refl refl tt
          (record { held = refl; lent = refl; hand = refl; seen = tells_one IsSettled k (held id h true) settled v.seen tt; begun = (refl, tt); marks = (refl, refl); share = refl; spent = omega arith; free = ((λ j. refl), (λ j. refl), (λ j. refl), (λ n. tt)) })
          (λ g e z. settles_by m lawful k inside (λ j. stage_of m (r.at j)) g id (taken_at m h.claimed) (length (reads m k) - taken_at m h.claimed) (advanced_at m h.claimed) (ap (stage_of m) was) (omega arith)
          (λ i l. settled_ended m k (r.at (next_read m k i)) (all_settled (length (reads m k)) past i (omega arith))) e z)

      pub park_change : (t : T) (on : ℕ) → CanPark m k t → on ≡ next_read m k (m.taken t) → steps_at m h.claimed ≤ m.task_steps t → taken_at m h.claimed ≤ m.taken t
          → ((i : ℕ) → i < m.taken t → (i < taken_at m h.claimed) ⊎ IsAmong (next_read m k i) v.seen)
          → Change meant key s r.at k id v (parked_view h t on) (held id h true) (parked t) (set s.words k (8 + on)) (set s.homes k (some (Task t)))
          (advances_then (record { 0 = k }) (m.taken t - taken_at m h.claimed) (Park (record { 0 = k }) (record { 0 = next_read m k (m.taken t) }) ∷ []))
      park_change t on own next more further past = let mark = lawful.marked k t inside own.0 own.1 in let few = own.1 in
          let z : taken_at m h.claimed + (m.taken t - taken_at m h.claimed) ≡ m.taken t = omega arith in
          ending id k v (parked_view h t on) inside some_share s r seat h (parked t) (8 + on) (Task t)
          (advances_then (record { 0 = k }) (m.taken t - taken_at m h.claimed) (Park (record { 0 = k }) (record { 0 = next_read m k (m.taken t) }) ∷ []))
          full was (ap (λ (y : ℕ). 8 + y) next) refl
          (record { within = lawful.within k t inside own.0; taken = all_settled (m.taken t) past; marked = λ l. mark }, own.1, own.0)
          (record { held = refl; lent = refl; hand = refl; seen = tells_nothing IsSettled k (held id h true) (parked t) v.seen (λ y. y) (λ y. y); begun = (refl, tt); marks = (refl, refl); share = refl; spent = omega arith; free = ((λ j. refl), (λ j. refl), (λ j. refl), (λ n. tt)) })
          (λ g e o. subst (λ (n : ℕ). LeadsBy m (advances_then (record { 0 = k }) (m.taken t - taken_at m h.claimed) (Park (record { 0 = k }) (record { 0 = next_read m k n }) ∷ [])) (λ j. stage_of m (r.at j)) g) z
          (parks_by m lawful k inside (λ j. stage_of m (r.at j)) g id (taken_at m h.claimed) (m.taken t - taken_at m h.claimed) (advanced_at m h.claimed) (m.advanced t) (ap (stage_of m) was) (omega arith)
          (λ i l. settled_ended m k (r.at (next_read m k i)) (all_settled (m.taken t) past i (omega arith)))
          (λ q. (let y : m.taken t ≡ taken_at m h.claimed = omega arith in mark ∙ (ap (ltb 0) y ∙ sym (sound.0.marked (omega arith)))))
          (λ q. mark ∙ lt-ltb 0 (m.taken t) (omega arith)) (e ∙ ap (λ n. waiting n (m.advanced t)) (sym z)) o))

    pub give_change : (s : State (Home T O) (View X T)) (r : OneState meant key s) → get_elem? s.views id ≡ some v → v.hand ≡ Some k → v.lent ≡ Some k
        → Change meant key s r.at k id v (with_hand None (after_give_back k v)) (lent id true) settled (set s.words k 3) (set s.homes k (some (Outcome (outcome m k)))) []
    give_change s r seat full has = let was = lent_in_hand meant key s r id k v seat full has in let mine = r.views id v seat in record {
      was = was;
      inside = inside;
      seat = seat;
      words_long = length-set s.words k 3;
      word = get_or-set_same s.words k 3 0 (let l = r.wide in omega arith);
      words_else = λ j n. get_or-set_other s.words k j 3 0 n;
      homes_long = length-set s.homes k (some (Outcome (outcome m k)));
      home = set_here s.homes k (some (Outcome (outcome m k))) (let l = r.deep in omega arith);
      homes_else = λ j n. set_else s.homes k j (some (Outcome (outcome m k))) n;
      sound = tt;
      others = λ j n. (refl, sym (same_no id j (λ q. n (sym q))), sym (same_no id j (λ q. n (sym q))));
      below = tt;
      held_here = mine.holds k ∙ ap (held_by id) was;
      held_else = λ j n. refl;
      lent_here = refl;
      lent_else = λ j n. some_but k j v.lent has n;
      hand_here = refl;
      hand_else = λ j n. some_but k j v.hand full n;
      seen = tells_nothing IsSettled k (lent id true) settled v.seen (λ _. tt) (λ _. tt);
      begun = tells_nothing IsBegun k (lent id true) settled v.begun (λ _. tt) (λ _. tt);
      marks = (refl, refl);
      leads = λ g e z. still m (λ j. stage_of m (r.at j)) g k ended (ap (stage_of m) was) e z;
      share = (refl, some_share);
      spent = refl;
    }

    module _ (slots : ℕ) (c : List (ℕ × Home T O)) where
      pub settles : (h : Hold T) → v.about ≡ Some key → v.hand ≡ Some k → hold_on k v.held ≡ Some h
          → ((i : ℕ) → i < length (reads m k) → (i < taken_at m h.claimed) ⊎ IsAmong (next_read m k i) v.seen)
          → Allows (OneState meant key) slots id (v, (k, Outcome (outcome m k)) ∷ c) k (λ _. 3) (λ _. settle_tells meant (step slots k 3 0 none) (v, (k, Outcome (outcome m k)) ∷ c) 3)
      settles h about full has past s r deep seat small = let w : View X T = settled_view h in
          let kept = moves meant key s r k id v w (held id h true) settled (set s.words k 3) (set s.homes k (some (Outcome (outcome m k)))) (settle_change s r seat h full has past) in (
            w,
            gives,
            tt,
            kept,
            λ x g a f. (let e : key ≡ x = one_key v.about key x about a in let q : h ≡ g = (let t : Some h ≡ Some g = sym has ∙ f in cc) in (
              (λ i. (with_hand None (after_settle k ((meant (e i).meaning).outcome_steps (outcome (meant (e i).meaning) k) - steps_at (meant (e i).meaning) (q i).claimed) v), c)),
              subst (λ (z : Key X). w.spent ≤ work (meant z.meaning)) e
                  (spent_within meant key lawful record { words = set s.words k 3; homes = set s.homes k (some (Outcome (outcome m k))); views = set s.views id w } kept id w (set_here s.views id w (at_length s.views id v seat))),
            )),
          )

      front : List (ℕ × Home T O) → Home T O
      front [] = Empty
      front (x ∷ xs) = x.1

      one_task : (t u : T) → ◌≡◌ {A = List (ℕ × Home T O)} ((k, Task t) ∷ c) ((k, Task u) ∷ c) → t ≡ u
      unfolding front
      one_task t u e = let q : ◌≡◌ {A = Home T O} (Task t) (Task u) = ap front e in cc

      pub parks : (h : Hold T) (t : T) (on : ℕ) → v.about ≡ Some key → v.hand ≡ Some k → hold_on k v.held ≡ Some h
          → CanPark m k t → on ≡ next_read m k (m.taken t) → steps_at m h.claimed ≤ m.task_steps t → taken_at m h.claimed ≤ m.taken t → ((i : ℕ) → i < m.taken t → (i < taken_at m h.claimed) ⊎ IsAmong (next_read m k i) v.seen)
          → Allows (OneState meant key) slots id (v, (k, Task t) ∷ c) k (λ _. 8 + on) (λ _. park_tells meant (step slots k (8 + on) 0 none) (v, (k, Task t) ∷ c) (8 + on))
      parks h t on about full has own next more further past s r deep seat small = let w : View X T = parked_view h t on in
          let kept = moves meant key s r k id v w (held id h true) (parked t) (set s.words k (8 + on)) (set s.homes k (some (Task t))) (park_change s r seat h full has t on own next more further past) in (
            w,
            gives,
            tt,
            kept,
            λ x g u a f is. (let e : key ≡ x = one_key v.about key x about a in let q : h ≡ g = (let t' : Some h ≡ Some g = sym has ∙ f in cc) in let z : t ≡ u = one_task t u is in (
              (λ i. (with_hand None (after_park k (8 + on) (z i) ((meant (e i).meaning).task_steps (z i) - steps_at (meant (e i).meaning) (q i).claimed) v), c)),
              subst (λ (y : Key X). w.spent ≤ work (meant y.meaning)) e
                  (spent_within meant key lawful record { words = set s.words k (8 + on); homes = set s.homes k (some (Task t)); views = set s.views id w } kept id w (set_here s.views id w (at_length s.views id v seat))),
            )),
          )

      pub gives_back : v.hand ≡ Some k → v.lent ≡ Some k → Allows (OneState meant key) slots id (v, (k, Outcome (outcome m k)) ∷ c) k (λ _. 3) (λ _. give_back_tells (step slots k 3 0 none) (v, (k, Outcome (outcome m k)) ∷ c) 3)
      gives_back full has s r deep seat small = let w : View X T = with_hand None (after_give_back k v) in
          (w, gives, tt, moves meant key s r k id v w (lent id true) settled (set s.words k 3) (set s.homes k (some (Outcome (outcome m k)))) (give_change s r seat full has), refl)
