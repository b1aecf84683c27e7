-- What a seat has of a piece, and how it takes the slot of one to hand and leaves it. These steps move no word.
use Rattle.std.proofs.Common.{◌≡◌, ◌≢◌, ℕ, ◌+◌, ◌<◌, List, [], ◌∷◌, length, get_or, set, sym, refl, ap, ◌∙◌, subst, arith, Bool, true, false, Option, Some, None, length-set, if◌then◌else◌}
use mathlib.Core.Option.{some, none}
use mathlib.Core.Option as maybe
use lib.Seq.{set-get_or}
use lib.ListN.{get_elem?}
use Rattle.atomic_table.specs.Table.{State, step, takes, gives, Allows}
use Rattle.atomic_table.proofs.Lists.{set_here, set_else}
use Rattle.settle_core.specs.Meant.{Meant}
use Rattle.board_rule.specs.Maps.{is_same, is_it}
use Rattle.board_rule.specs.Standing.{Standing, held, lent, IsSettled, IsBegun, held_by, lent_to, in_hand_of, SeatBelow, word_of, home_of, steps_of, stage_of, IsSound}
use Rattle.board_rule.specs.Views.{hold_on, with_hand}
use Rattle.board_rule.specs.Rule.{OneState}
use Rattle.board_rule.specs.Plays.{take_slot_tells, put_slot_back_tells}
use Rattle.board_rule.specs.declared.home.Home.{Home}
use Rattle.board_rule.specs.declared.home.Home.TheVariants.{Empty}
use Rattle.board_rule.specs.declared.view.Hold.{Hold}
use Rattle.board_rule.specs.declared.view.Key.{Key}
use Rattle.board_rule.specs.declared.view.View.{View}
use Rattle.board_rule.proofs.Maps.{same_yes, at_length}
use Rattle.board_rule.proofs.Machine.{still}
use Rattle.board_rule.proofs.Standings.{held_view, lent_view, own_hand, other_hand, none_but, some_but}
use Rattle.board_rule.proofs.Moves.{Change, tells_nothing, moves}

-- the flag of a piece that is with the seat, by what the seat has in hand
at_home : (hand : Option ℕ) (k : ℕ) (b : Bool) (id : ℕ) → hand ≡ None → is_it hand k ≡ (if b then is_same id id else false) → b ≡ false
at_home hand k b id e h = sym (own_hand id b) ∙ (sym h ∙ ap (λ z. is_it z k) e)

in_hand : (hand : Option ℕ) (k : ℕ) (b : Bool) (id : ℕ) → hand ≡ Some k → is_it hand k ≡ (if b then is_same id id else false) → b ≡ true
in_hand hand k b id e h = sym (own_hand id b) ∙ (sym h ∙ (ap (λ z. is_it z k) e ∙ same_yes k k refl))

module _ {X T O : Type 0} (meant : X → Meant T O) (key : Key X) where
  abbrev m : Meant T O
  m = meant key.meaning

  module _ (s : State (Home T O) (View X T)) (r : OneState meant key s) (id k : ℕ) (v : View X T) (seat : get_elem? s.views id ≡ some v) where
    held_with : (h : Hold T) → hold_on k v.held ≡ Some h → (b : Bool) × (r.at k ≡ held id h b)
    held_with h f = held_view id (r.at k) h (sym ((r.views id v seat).holds k) ∙ f)

    lent_with : v.lent ≡ Some k → (b : Bool) × (r.at k ≡ lent id b)
    lent_with f = lent_view id (r.at k) (sym ((r.views id v seat).loans k) ∙ (ap (λ z. is_it z k) f ∙ same_yes k k refl))

    pub held_at_home : (h : Hold T) → v.hand ≡ None → hold_on k v.held ≡ Some h → r.at k ≡ held id h false
    held_at_home h e f = let q = held_with h f in q.1 ∙ ap (held id h) (at_home v.hand k q.0 id e ((r.views id v seat).hands k ∙ ap (in_hand_of id) q.1))

    pub held_in_hand : (h : Hold T) → v.hand ≡ Some k → hold_on k v.held ≡ Some h → r.at k ≡ held id h true
    held_in_hand h e f = let q = held_with h f in q.1 ∙ ap (held id h) (in_hand v.hand k q.0 id e ((r.views id v seat).hands k ∙ ap (in_hand_of id) q.1))

    pub lent_at_home : v.hand ≡ None → v.lent ≡ Some k → r.at k ≡ lent id false
    lent_at_home e f = let q = lent_with f in q.1 ∙ ap (lent id) (at_home v.hand k q.0 id e ((r.views id v seat).hands k ∙ ap (in_hand_of id) q.1))

    pub lent_in_hand : v.hand ≡ Some k → v.lent ≡ Some k → r.at k ≡ lent id true
    lent_in_hand e f = let q = lent_with f in q.1 ∙ ap (lent id) (in_hand v.hand k q.0 id e ((r.views id v seat).hands k ∙ ap (in_hand_of id) q.1))

  -- The slot of a piece changes hands, and nothing else: p and p' differ in the flag alone
  pub record Handing (id k : ℕ) (p p' : Standing T) : Type 0 where
    pub word : word_of m k p' ≡ word_of m k p
    pub same_marks : (IsSettled p → IsSettled p') × (IsSettled p' → IsSettled p) × (IsBegun p → IsBegun p') × (IsBegun p' → IsBegun p)
    pub sound : (at : ℕ → Standing T) → IsSound m at k p → IsSound m at k p'
    pub others : (j : ℕ) → j ≢ id → (held_by j p' ≡ held_by j p) × (lent_to j p' ≡ lent_to j p) × (in_hand_of j p' ≡ in_hand_of j p)
    pub below : (n : ℕ) → id < n → SeatBelow n p'
    pub held : held_by id p' ≡ held_by id p
    pub lent : lent_to id p' ≡ lent_to id p
    pub stage : stage_of m p' ≡ stage_of m p
    pub steps : steps_of m k p' ≡ steps_of m k p

  pub of_held : (id k : ℕ) (h : Hold T) (b c : Bool) → Handing id k (held id h b) (held id h c)
  of_held id k h b c = record {
    word = refl;
    same_marks = ((λ z. z), (λ z. z), (λ z. z), (λ z. z));
    sound = λ at z. z;
    others = λ j n. (refl, refl, other_hand id j c (λ e. n (sym e)) ∙ sym (other_hand id j b (λ e. n (sym e))));
    below = λ n l. l;
    held = refl;
    lent = refl;
    stage = refl;
    steps = refl;
  }

  pub of_lent : (id k : ℕ) (b c : Bool) → Handing id k (lent id b) (lent id c)
  of_lent id k b c = record {
    word = refl;
    same_marks = ((λ z. z), (λ z. z), (λ z. z), (λ z. z));
    sound = λ at z. z;
    others = λ j n. (refl, refl, other_hand id j c (λ e. n (sym e)) ∙ sym (other_hand id j b (λ e. n (sym e))));
    below = λ n l. l;
    held = refl;
    lent = refl;
    stage = refl;
    steps = refl;
  }

  module _ (id k : ℕ) (v : View X T) (inside : k < m.pieces) (some_share : 0 < v.share) (p p' : Standing T) (d : Handing id k p p') where
    pub handing : (s : State (Home T O) (View X T)) (r : OneState meant key s) → get_elem? s.views id ≡ some v → (hand : Option ℕ) (home : maybe.Option (Home T O))
        → r.at k ≡ p → is_it hand k ≡ in_hand_of id p' → ((j : ℕ) → j ≢ k → is_it hand j ≡ is_it v.hand j) → home ≡ home_of m k p'
        → Change meant key s r.at k id v (with_hand hand v) p p' (set s.words k (get_or s.words k 0)) (set s.homes k home) []
    handing s r seat hand home was here same_else is = let o = r.pieces k inside in let same = set-get_or s.words k 0 in let mine = r.views id v seat in record {
      was = was;
      inside = inside;
      seat = seat;
      words_long = ap length same;
      word = ap (λ ws. get_or ws k 0) same ∙ (o.word ∙ (ap (word_of m k) was ∙ sym d.word));
      words_else = λ j n. ap (λ ws. get_or ws j 0) same;
      homes_long = length-set s.homes k home;
      home = set_here s.homes k home (let l = r.deep in omega arith) ∙ ap some is;
      homes_else = λ j n. set_else s.homes k j home n;
      sound = d.sound r.at (subst (IsSound m r.at k) was o.sound);
      others = d.others;
      below = d.below (length s.views) (at_length s.views id v seat);
      held_here = mine.holds k ∙ (ap (held_by id) was ∙ sym d.held);
      held_else = λ j n. refl;
      lent_here = mine.loans k ∙ (ap (lent_to id) was ∙ sym d.lent);
      lent_else = λ j n. refl;
      hand_here = here;
      hand_else = same_else;
      seen = tells_nothing IsSettled k p p' v.seen d.same_marks.0 d.same_marks.1;
      begun = tells_nothing IsBegun k p p' v.begun d.same_marks.2 d.same_marks.3;
      marks = (refl, refl);
      share = (refl, some_share);
      leads = λ g e z. still m (λ j. stage_of m (r.at j)) g k (stage_of m p) (ap (stage_of m) was) (e ∙ d.stage) z;
      spent = ap (λ z. v.spent + z) (sym d.steps);
    }

    -- a seat takes the slot, in which nothing is
    reaching : (slots : ℕ) (c : List (ℕ × Home T O)) → v.hand ≡ None → is_it (Some k) k ≡ in_hand_of id p' → none ≡ home_of m k p' → some Empty ≡ home_of m k p
        → ((s : State (Home T O) (View X T)) (r : OneState meant key s) → get_elem? s.views id ≡ some v → r.at k ≡ p)
        → Allows (OneState meant key) slots id (v, c) k (λ x. x) (take_slot_tells (step slots k 0 0 none) (v, c))
    reaching slots c free here out home was s r deep seat small = (
      with_hand (Some k) v,
      takes k Empty,
      (r.pieces k inside).home ∙ (ap (λ q. some (home_of m k q)) (was s r seat) ∙ ap some (sym home)),
      moves meant key s r k id v (with_hand (Some k) v) p p' (set s.words k (get_or s.words k 0)) (set s.homes k none)
          (handing s r seat (Some k) none (was s r seat) here (λ j n. none_but k j v.hand free n) out),
      refl,
    )

    -- the slot is left empty
    leaving : (slots : ℕ) (c : List (ℕ × Home T O)) → v.hand ≡ Some k → false ≡ in_hand_of id p' → some Empty ≡ home_of m k p'
        → ((s : State (Home T O) (View X T)) (r : OneState meant key s) → get_elem? s.views id ≡ some v → r.at k ≡ p)
        → Allows (OneState meant key) slots id (v, (k, Empty) ∷ c) k (λ x. x) (put_slot_back_tells (step slots k 0 0 none) (v, (k, Empty) ∷ c))
    leaving slots c full here home was s r deep seat small = (
      with_hand None v,
      gives,
      tt,
      moves meant key s r k id v (with_hand None v) p p' (set s.words k (get_or s.words k 0)) (set s.homes k (some Empty))
          (handing s r seat None (some Empty) (was s r seat) here (λ j n. some_but k j v.hand full n) home),
      refl,
    )

  module _ (slots id k : ℕ) (v : View X T) (inside : k < m.pieces) (some_share : 0 < v.share) (c : List (ℕ × Home T O)) where
    pub reaches_held : (h : Hold T) → v.hand ≡ None → hold_on k v.held ≡ Some h → Allows (OneState meant key) slots id (v, c) k (λ x. x) (take_slot_tells (step slots k 0 0 none) (v, c))
    reaches_held h free has = reaching id k v inside some_share (held id h false) (held id h true) (of_held id k h false true) slots c free (same_yes k k refl ∙ sym (same_yes id id refl)) refl refl
        (λ s r seat. held_at_home s r id k v seat h free has)

    pub leaves_held : (h : Hold T) → v.hand ≡ Some k → hold_on k v.held ≡ Some h → Allows (OneState meant key) slots id (v, (k, Empty) ∷ c) k (λ x. x) (put_slot_back_tells (step slots k 0 0 none) (v, (k, Empty) ∷ c))
    leaves_held h full has = leaving id k v inside some_share (held id h true) (held id h false) (of_held id k h true false) slots c full refl refl
        (λ s r seat. held_in_hand s r id k v seat h full has)

    pub reaches_lent : v.hand ≡ None → v.lent ≡ Some k → Allows (OneState meant key) slots id (v, c) k (λ x. x) (take_slot_tells (step slots k 0 0 none) (v, c))
    reaches_lent free has = reaching id k v inside some_share (lent id false) (lent id true) (of_lent id k false true) slots c free (same_yes k k refl ∙ sym (same_yes id id refl)) refl refl
        (λ s r seat. lent_at_home s r id k v seat free has)

    pub leaves_lent : v.hand ≡ Some k → v.lent ≡ Some k → Allows (OneState meant key) slots id (v, (k, Empty) ∷ c) k (λ x. x) (put_slot_back_tells (step slots k 0 0 none) (v, (k, Empty) ∷ c))
    leaves_lent full has = leaving id k v inside some_share (lent id true) (lent id false) (of_lent id k true false) slots c full refl refl
        (λ s r seat. lent_in_hand s r id k v seat full has)
