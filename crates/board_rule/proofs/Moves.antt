-- A step of one seat keeps the rule: one lemma for each step that moves a piece, and one for each that moves none.
use Rattle.std.proofs.Common.{◌≡◌, ◌≢◌, ◌⊎◌, ℕ, ◌+◌, ◌<◌, ◌≤◌, List, [], length, get_or, set, sym, ap, ◌∙◌, refl, subst, arith, Bool, true, inl, inr, ◌∷◌, ⊎_elim, length-set}
use mathlib.Core.Option.{some}
use mathlib.Core.Option as maybe
use lib.ListN.{get_elem?}
use Rattle.atomic_table.specs.Table.{State}
use Rattle.atomic_table.proofs.Lists.{at_set, set_here}
use Rattle.settle_core.specs.Meant.{Meant, Lawful, outcome}
use Rattle.settle_core.specs.declared.core_step.CoreStep.{CoreStep}
use Rattle.board_rule.specs.Maps.{is_it, IsAmong, HasSome, put_at}
use Rattle.board_rule.specs.Stages.{Stage, LeadsBy}
use Rattle.board_rule.specs.Standing.{Standing, fresh, held, parked, settled, lent, IsSettled, IsBegun, held_by, lent_to, in_hand_of, SeatBelow, next_read, taken_at, advanced_at, word_of, home_of, steps_of, stage_of, HasTaken, IsSound}
use Rattle.board_rule.specs.Views.{hold_on}
use Rattle.board_rule.specs.Rule.{PieceFits, ViewFits, work, OneState}
use Rattle.board_rule.specs.declared.home.Home.{Home}
use Rattle.board_rule.specs.declared.view.Key.{Key}
use Rattle.board_rule.specs.declared.view.View.{View}
use Rattle.board_rule.proofs.Maps.{put_here, put_else, put_all, at_length, some_kept, total_set, sum_put, at_most, sums_within}
use Rattle.board_rule.proofs.Machine.{reached_on}
use Rattle.board_rule.proofs.Standings.{steps_within}

-- one piece goes from how it stood to p', and is settled where it was
module _ {T O : Type 0} (m : Meant T O) (at : ℕ → Standing T) (k : ℕ) (p' : Standing T) (stays : IsSettled (at k) → IsSettled p') where
  pub settled_stays : (j : ℕ) → IsSettled (at j) → IsSettled (put_at at k p' j)
  settled_stays = put_all at k p' (λ j q. IsSettled (at j) → IsSettled q) stays (λ j _ h. h)

  taken_stays : (j n : ℕ) (a : Bool) → HasTaken m at j n a → HasTaken m (put_at at k p') j n a
  taken_stays j n a t = record { within = t.within; taken = λ i l. settled_stays (next_read m j i) (t.taken i l); marked = t.marked }

  pub sound_stays : (j : ℕ) (p : Standing T) → IsSound m at j p → IsSound m (put_at at k p') j p
  sound_stays j fresh s = tt
  sound_stays j (held i h b) s = (taken_stays j (taken_at m h.claimed) (advanced_at m h.claimed) s.0, s.1, s.2)
  sound_stays j (parked t) s = (taken_stays j (m.taken t) (m.advanced t) s.0, s.1, s.2)
  sound_stays j settled s = tt
  sound_stays j (lent i b) s = tt

-- What a step tells of a mark of pieces, as that they are settled, that no piece loses. It moves the piece k from p to p', and the
-- list of those that the seat knows to have the mark becomes new
pub record Tells {T : Type 0} (Is : Standing T → Type 0) (k : ℕ) (p p' : Standing T) (old new : List ℕ) : Type 0 where
  pub stays : Is p → Is p'
  pub of : (j : ℕ) → IsAmong j new → IsAmong j old ⊎ ((j ≡ k) × Is p')
  pub grows : (j : ℕ) → IsAmong j old → IsAmong j new
  pub told : Is p' → Is p ⊎ IsAmong k new

module _ {T : Type 0} (Is : Standing T → Type 0) (k : ℕ) (p p' : Standing T) (known : List ℕ) where
  -- nothing is to be told
  pub tells_nothing : (Is p → Is p') → (Is p' → Is p) → Tells Is k p p' known known
  tells_nothing a b = record { stays = a; of = λ j h. inl h; grows = λ j h. h; told = λ h. inl (b h) }

  pub tells_one : Is p' → Tells Is k p p' known (k ∷ known)
  tells_one h = record { stays = λ _. h; of = λ j q. ⊎_elim (λ (e : j ≡ k). inr (e, h)) (λ (a : IsAmong j known). inl a) q; grows = λ j q. inr q; told = λ _. inr (inl refl) }

module _ {T : Type 0} (Is : Standing T → Type 0) (at : ℕ → Standing T) (k : ℕ) (p p' : Standing T) (was : at k ≡ p) where
  mark_stays : (Is p → Is p') → (j : ℕ) → Is (at j) → Is (put_at at k p' j)
  mark_stays stays = put_all at k p' (λ j q. Is (at j) → Is q) (λ h. stays (subst Is was h)) (λ j _ h. h)

  still_true : (old new : List ℕ) → Tells Is k p p' old new → ((j : ℕ) → IsAmong j old → Is (at j)) → (j : ℕ) → IsAmong j new → Is (put_at at k p' j)
  still_true old new t o j h = ⊎_elim (λ (a : IsAmong j old). mark_stays t.stays j (o j a))
      (λ (b : (j ≡ k) × Is p'). subst (λ (z : ℕ). Is (put_at at k p' z)) (sym b.0) (subst Is (sym (put_here at k p')) b.1)) (t.of j h)

  still_told : {V : Type 0} (f : V → List ℕ) (l : List V) (id : ℕ) (v w : V) → get_elem? l id ≡ some v → Tells Is k p p' (f v) (f w)
      → ((j : ℕ) → Is (at j) → HasSome (λ u. IsAmong j (f u)) l) → (j : ℕ) → Is (put_at at k p' j) → HasSome (λ u. IsAmong j (f u)) (set l id w)
  still_told {V} f l id v w seat t o = put_all at k p' (λ j q. Is q → HasSome (λ (u : V). IsAmong j (f u)) (set l id w))
      (λ h. ⊎_elim (λ (a : Is p). some_kept (λ (u : V). IsAmong k (f u)) l id v w seat (t.grows k) (o k (subst Is (sym was) a)))
      (λ (b : IsAmong k (f w)). (id, w, set_here l id w (at_length l id v seat), b)) (t.told h))
      (λ j _ h. some_kept (λ (u : V). IsAmong j (f u)) l id v w seat (t.grows j) (o j h))

module _ {X T O : Type 0} (meant : X → Meant T O) (key : Key X) where
  abbrev m : Meant T O
  m = meant key.meaning

  -- What has to be shown of a step by which the piece k, which stood as p, stands as p', and the view v of the seat id becomes w. In the
  -- machine it is these steps
  pub record Change (s : State (Home T O) (View X T)) (at : ℕ → Standing T) (k id : ℕ) (v w : View X T) (p p' : Standing T) (words' : List ℕ) (homes' : List (maybe.Option (Home T O))) (steps : List CoreStep) : Type 0 where
    pub was : at k ≡ p
    pub inside : k < m.pieces
    pub seat : get_elem? s.views id ≡ some v
    pub words_long : length words' ≡ length s.words
    pub word : get_or words' k 0 ≡ word_of m k p'
    pub words_else : (j : ℕ) → j ≢ k → get_or words' j 0 ≡ get_or s.words j 0
    pub homes_long : length homes' ≡ length s.homes
    pub home : get_elem? homes' k ≡ some (home_of m k p')
    pub homes_else : (j : ℕ) → j ≢ k → get_elem? homes' j ≡ get_elem? s.homes j
    pub sound : IsSound m at k p'
    pub others : (j : ℕ) → j ≢ id → (held_by j p' ≡ held_by j p) × (lent_to j p' ≡ lent_to j p) × (in_hand_of j p' ≡ in_hand_of j p)
    pub below : SeatBelow (length s.views) p'
    pub held_here : hold_on k w.held ≡ held_by id p'
    pub held_else : (j : ℕ) → j ≢ k → hold_on j w.held ≡ hold_on j v.held
    pub lent_here : is_it w.lent k ≡ lent_to id p'
    pub lent_else : (j : ℕ) → j ≢ k → is_it w.lent j ≡ is_it v.lent j
    pub hand_here : is_it w.hand k ≡ in_hand_of id p'
    pub hand_else : (j : ℕ) → j ≢ k → is_it w.hand j ≡ is_it v.hand j
    pub seen : Tells IsSettled k p p' v.seen w.seen
    pub begun : Tells IsBegun k p p' v.begun w.begun
    pub marks : (w.stopped ≡ v.stopped) × (w.saw_stop ≡ v.saw_stop)
    pub share : (w.share ≡ v.share) × (0 < v.share)
    pub leads : (g : ℕ → Stage) → g k ≡ stage_of m p' → ((j : ℕ) → j ≢ k → g j ≡ stage_of m (at j)) → LeadsBy m steps (λ j. stage_of m (at j)) g
    pub spent : w.spent + steps_of m k p ≡ v.spent + steps_of m k p'

  module _ (s : State (Home T O) (View X T)) (r : OneState meant key s) (k id : ℕ) (v w : View X T) (p p' : Standing T) (words' : List ℕ) (homes' : List (maybe.Option (Home T O))) {steps : List CoreStep} (c : Change s r.at k id v w p p' words' homes' steps) where
    stays_here : IsSettled (r.at k) → IsSettled p'
    stays_here h = c.seen.stays (subst IsSettled c.was h)

    abbrev at' : ℕ → Standing T
    at' = put_at r.at k p'

    piece_fits : (j : ℕ) → j < m.pieces → PieceFits m words' homes' at' j
    piece_fits j l = record {
      word = put_all r.at k p' (λ i q. i < m.pieces → get_or words' i 0 ≡ word_of m i q) (λ _. c.word) (λ i n h. c.words_else i n ∙ (r.pieces i h).word) j l;
      home = put_all r.at k p' (λ i q. i < m.pieces → get_elem? homes' i ≡ some (home_of m i q)) (λ _. c.home) (λ i n h. c.homes_else i n ∙ (r.pieces i h).home) j l;
      sound = sound_stays m r.at k p' stays_here j (at' j) (put_all r.at k p' (λ i q. i < m.pieces → IsSound m r.at i q) (λ _. c.sound) (λ i n h. (r.pieces i h).sound) j l);
    }

    stop_same : get_or words' m.pieces 0 ≡ get_or s.words m.pieces 0
    stop_same = c.words_else m.pieces (λ e. let l = c.inside in omega arith)

    own : ViewFits at' (get_or words' m.pieces 0) id w
    own = let o = r.views id v c.seat in record {
      holds = put_all r.at k p' (λ j q. hold_on j w.held ≡ held_by id q) c.held_here (λ j n. c.held_else j n ∙ o.holds j);
      loans = put_all r.at k p' (λ j q. is_it w.lent j ≡ lent_to id q) c.lent_here (λ j n. c.lent_else j n ∙ o.loans j);
      hands = put_all r.at k p' (λ j q. is_it w.hand j ≡ in_hand_of id q) c.hand_here (λ j n. c.hand_else j n ∙ o.hands j);
      seen = still_true IsSettled r.at k p p' c.was v.seen w.seen c.seen o.seen;
      begun = still_true IsBegun r.at k p p' c.was v.begun w.begun c.begun o.begun;
      stopped = λ e. stop_same ∙ o.stopped (sym c.marks.0 ∙ e);
      saw_stop = λ e. stop_same ∙ o.saw_stop (sym c.marks.1 ∙ e);
      idle = λ e. let z = c.share in absurd (omega arith);
    }

    theirs : (j : ℕ) (u : View X T) → j ≢ id → ViewFits r.at (get_or s.words m.pieces 0) j u → ViewFits at' (get_or words' m.pieces 0) j u
    theirs j u n o = let f = c.others j n in record {
      holds = put_all r.at k p' (λ i q. hold_on i u.held ≡ held_by j q) (o.holds k ∙ (ap (held_by j) c.was ∙ sym f.0)) (λ i _. o.holds i);
      loans = put_all r.at k p' (λ i q. is_it u.lent i ≡ lent_to j q) (o.loans k ∙ (ap (lent_to j) c.was ∙ sym f.1)) (λ i _. o.loans i);
      hands = put_all r.at k p' (λ i q. is_it u.hand i ≡ in_hand_of j q) (o.hands k ∙ (ap (in_hand_of j) c.was ∙ sym f.2)) (λ i _. o.hands i);
      seen = λ i h. mark_stays IsSettled r.at k p p' c.was c.seen.stays i (o.seen i h);
      begun = λ i h. mark_stays IsBegun r.at k p p' c.was c.begun.stays i (o.begun i h);
      stopped = λ e. stop_same ∙ o.stopped e;
      saw_stop = λ e. stop_same ∙ o.saw_stop e;
      idle = o.idle;
    }

    -- the machine goes from the state before to the state after
    leads_there : LeadsBy m steps (λ j. stage_of m (r.at j)) (λ j. stage_of m (at' j))
    leads_there = c.leads (λ j. stage_of m (at' j)) (ap (stage_of m) (put_here r.at k p')) (λ j n. ap (stage_of m) (put_else r.at k p' j n))

    pub moves : OneState meant key record { words = words'; homes = homes'; views = set s.views id w }
    moves = record {
      at = at';
      wide = c.words_long ∙ r.wide;
      deep = c.homes_long ∙ r.deep;
      pieces = piece_fits;
      beyond = λ j h. put_else r.at k p' j (λ e. let l = c.inside in omega arith) ∙ r.beyond j h;
      reached = reached_on m steps (λ j. stage_of m (r.at j)) (λ j. stage_of m (at' j)) r.reached leads_there;
      seated = λ j. subst (λ (n : ℕ). SeatBelow n (at' j)) (sym (length-set s.views id w)) (put_all r.at k p' (λ i q. SeatBelow (length s.views) q) c.below (λ i n. r.seated i) j);
      stop = (let a = stop_same in let b = r.stop in omega arith);
      views = λ j u e. ⊎_elim (λ (t : (j ≡ id) × (w ≡ u)). subst (λ (z : ℕ × View X T). ViewFits at' (get_or words' m.pieces 0) z.0 z.1) (λ i. (sym t.0 i, t.1 i)) own)
          (λ (t : (j ≢ id) × (get_elem? s.views j ≡ some u)). theirs j u t.0 (r.views j u t.1)) (at_set s.views id j w u e);
      told = still_told IsSettled r.at k p p' c.was (λ (z : View X T). z.seen) s.views id v w c.seat c.seen r.told;
      begun = still_told IsBegun r.at k p p' c.was (λ (z : View X T). z.begun) s.views id v w c.seat c.begun r.begun;
      set_by = λ e. some_kept (λ (z : View X T). z.stopped ≡ true) s.views id v w c.seat (λ q. c.marks.0 ∙ q) (r.set_by (sym stop_same ∙ e));
      shares = let a = total_set (λ (z : View X T). z.share) s.views id v w c.seat in let b = c.share in let d = r.shares in omega arith;
      spent = let a = total_set (λ (z : View X T). z.spent) s.views id v w c.seat in let b = c.spent in let d = r.spent in let z = ap (steps_of m k) c.was in let e = sum_put (steps_of m) r.at k p' m.pieces c.inside in omega arith;
    }

    pub moves_by : LeadsBy m steps (λ j. stage_of m (r.at j)) (λ j. stage_of m (moves.at j))
    unfolding moves
    moves_by = leads_there

  -- What has to be shown of a step after which each piece stands as before
  pub record Sight (s : State (Home T O) (View X T)) (at : ℕ → Standing T) (id : ℕ) (v w : View X T) (words' : List ℕ) : Type 0 where
    pub seat : get_elem? s.views id ≡ some v
    pub words_long : length words' ≡ length s.words
    pub words_same : (j : ℕ) → j < m.pieces → get_or words' j 0 ≡ get_or s.words j 0
    pub stop_stays : get_or s.words m.pieces 0 ≡ 1 → get_or words' m.pieces 0 ≡ 1
    pub stop_small : get_or words' m.pieces 0 ≤ 1
    pub held : w.held ≡ v.held
    pub lent : w.lent ≡ v.lent
    pub hand : w.hand ≡ v.hand
    pub seen : (j : ℕ) → IsAmong j w.seen → IsAmong j v.seen ⊎ IsSettled (at j)
    pub seen_before : (j : ℕ) → IsAmong j v.seen → IsAmong j w.seen
    pub begun : w.begun ≡ v.begun
    pub stopped : w.stopped ≡ true → (v.stopped ≡ true) ⊎ (get_or words' m.pieces 0 ≡ 1)
    pub stopped_before : v.stopped ≡ true → w.stopped ≡ true
    pub set_by : get_or words' m.pieces 0 ≡ 1 → (get_or s.words m.pieces 0 ≡ 1) ⊎ (w.stopped ≡ true)
    pub saw_stop : w.saw_stop ≡ true → (v.saw_stop ≡ true) ⊎ (get_or words' m.pieces 0 ≡ 1)
    pub share : (w.share ≡ v.share) × (0 < v.share)
    pub spent : w.spent ≡ v.spent

  module _ (s : State (Home T O) (View X T)) (r : OneState meant key s) (id : ℕ) (v w : View X T) (words' : List ℕ) (c : Sight s r.at id v w words') where
    own_sight : ViewFits r.at (get_or words' m.pieces 0) id w
    own_sight = let o = r.views id v c.seat in record {
      holds = λ j. ap (hold_on j) c.held ∙ o.holds j;
      loans = λ j. ap (λ z. is_it z j) c.lent ∙ o.loans j;
      hands = λ j. ap (λ z. is_it z j) c.hand ∙ o.hands j;
      seen = λ j h. ⊎_elim (o.seen j) (λ (a : IsSettled (r.at j)). a) (c.seen j h);
      begun = λ j h. o.begun j (subst (IsAmong j) c.begun h);
      stopped = λ e. ⊎_elim (λ (a : v.stopped ≡ true). c.stop_stays (o.stopped a)) (λ (a : get_or words' m.pieces 0 ≡ 1). a) (c.stopped e);
      saw_stop = λ e. ⊎_elim (λ (a : v.saw_stop ≡ true). c.stop_stays (o.saw_stop a)) (λ (a : get_or words' m.pieces 0 ≡ 1). a) (c.saw_stop e);
      idle = λ e. let z = c.share in absurd (omega arith);
    }

    their_sight : (j : ℕ) (u : View X T) → ViewFits r.at (get_or s.words m.pieces 0) j u → ViewFits r.at (get_or words' m.pieces 0) j u
    their_sight j u o = record { holds = o.holds; loans = o.loans; hands = o.hands; seen = o.seen; begun = o.begun; stopped = λ e. c.stop_stays (o.stopped e); saw_stop = λ e. c.stop_stays (o.saw_stop e); idle = o.idle }

    pub sees : OneState meant key record { words = words'; homes = s.homes; views = set s.views id w }
    sees = record {
      at = r.at;
      wide = c.words_long ∙ r.wide;
      deep = r.deep;
      pieces = λ j l. let o = r.pieces j l in record { word = c.words_same j l ∙ o.word; home = o.home; sound = o.sound };
      beyond = r.beyond;
      reached = r.reached;
      seated = λ j. subst (λ (n : ℕ). SeatBelow n (r.at j)) (sym (length-set s.views id w)) (r.seated j);
      stop = c.stop_small;
      views = λ j u e. ⊎_elim (λ (t : (j ≡ id) × (w ≡ u)). subst (λ (z : ℕ × View X T). ViewFits r.at (get_or words' m.pieces 0) z.0 z.1) (λ i. (sym t.0 i, t.1 i)) own_sight)
          (λ (t : (j ≢ id) × (get_elem? s.views j ≡ some u)). their_sight j u (r.views j u t.1)) (at_set s.views id j w u e);
      told = λ j h. some_kept (λ (z : View X T). IsAmong j z.seen) s.views id v w c.seat (c.seen_before j) (r.told j h);
      begun = λ j h. some_kept (λ (z : View X T). IsAmong j z.begun) s.views id v w c.seat (λ q. subst (IsAmong j) (sym c.begun) q) (r.begun j h);
      set_by = λ e. ⊎_elim (λ (a : get_or s.words m.pieces 0 ≡ 1). some_kept (λ (z : View X T). z.stopped ≡ true) s.views id v w c.seat c.stopped_before (r.set_by a))
          (λ (a : w.stopped ≡ true). (id, w, set_here s.views id w (at_length s.views id v c.seat), a)) (c.set_by e);
      shares = let a = total_set (λ (z : View X T). z.share) s.views id v w c.seat in let b = c.share in let d = r.shares in omega arith;
      spent = let a = total_set (λ (z : View X T). z.spent) s.views id v w c.seat in let b = c.spent in let d = r.spent in omega arith;
    }

    pub sees_by : LeadsBy m [] (λ j. stage_of m (r.at j)) (λ j. stage_of m (sees.at j))
    unfolding sees
    sees_by next law = refl

  -- no seat has spent more than the steps of all outcomes
  pub spent_within : Lawful m → (s : State (Home T O) (View X T)) → OneState meant key s → (id : ℕ) (v : View X T) → get_elem? s.views id ≡ some v → v.spent ≤ work m
  spent_within lawful s r id v e = let a = at_most (λ (z : View X T). z.spent) s.views id v e in let b = r.spent in
      let c = sums_within (λ k. steps_of m k (r.at k)) (λ k. m.outcome_steps (outcome m k)) m.pieces (λ k l. steps_within m k lawful l r.at (r.at k) (r.pieces k l).sound) in omega arith
