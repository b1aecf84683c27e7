-- The rule shows one state and no other, and this is sound.
use Rattle.std.proofs.Common.{◌≡◌, ◌≢◌, ℕ, zero, suc, ◌+◌, ◌<◌, List, [], ◌∷◌, length, get_or, slice_get, Bool, true, false, Option, Some, None, sym, refl, ap, ◌∙◌, subst, arith, ◌⊎◌, ◌↔◌, inl, inr, ⊎_elim, if◌then◌else◌}
use Rattle.std.proofs.lemmas.Option.{slice_get_within}
use mathlib.Core.Option.{some}
use lib.ListN.{get_elem?}
use Rattle.atomic_table.specs.Table.{State}
use Rattle.settle_core.specs.Meant.{Meant, Lawful, outcome}
use Rattle.settle_core.specs.declared.piece_state.PieceState.{PieceState}
use Rattle.settle_core.specs.declared.piece_state.PieceState.TheVariants.{Fresh, Held, Parked, Settled}
use Rattle.settle_core.specs.State.{all_fresh}
use Rattle.settle_core.specs.Next.{next_by_reads}
use Rattle.settle_core.proofs.NextByReads.{is_next}
use Rattle.settle_core.proofs.Options.{some_injective}
use Rattle.settle_core.proofs.Replays.{fresh_sound, all_sound}
use Rattle.board_rule.specs.Maps.{is_it, IsAmong, HasSome, values}
use Rattle.board_rule.specs.Stages.{Stage, untouched, worked, waiting, ended, IsEnded, state_of, states}
use Rattle.board_rule.specs.Standing.{Standing, fresh, held, parked, settled, lent, IsBegun, held_by, lent_to, in_hand_of, SeatBelow, next_read, word_of, home_of, steps_of, stage_of, IsSound}
use Rattle.board_rule.specs.Views.{hold_on}
use Rattle.board_rule.specs.Rule.{OneState}
use Rattle.board_rule.specs.Shows.{HasSlot, NoneHolds, NoneBorrows, ShowsAt, Shows, ShowsSound, ViewsTell, StandsFor, SumsUp}
use Rattle.board_rule.specs.declared.home.Home.{Home}
use Rattle.board_rule.specs.declared.home.Home.TheVariants.{Task, Outcome}
use Rattle.board_rule.specs.declared.view.Hold.{Hold}
use Rattle.board_rule.specs.declared.view.Key.{Key}
use Rattle.board_rule.specs.declared.view.View.{View}
use Rattle.board_rule.proofs.Maps.{by_same, same_yes, same_no, values_at, elem_below}
use Rattle.board_rule.proofs.Standings.{fresh_word, settled_word, parked_word, word_settled, settled_has, settled_ended, held_view}

module _ {A : Type 0} where
  values_length : (f : ℕ → A) (n : ℕ) → length (values f n) ≡ n
  values_length f zero = refl
  values_length f (suc n) = ap suc (values_length (λ k. f (suc k)) n)

  -- a list whose elements are these values
  values_are : (f : ℕ → A) (n : ℕ) (xs : List A) → length xs ≡ n → ((k : ℕ) (x : A) → slice_get xs k ≡ Some x → x ≡ f k) → xs ≡ values f n
  values_are f zero [] e h = refl
  values_are f zero (x ∷ xs) e h = absurd (omega arith)
  values_are f (suc n) [] e h = absurd (omega arith)
  values_are f (suc n) (x ∷ xs) e h = λ i. h 0 x refl i ∷ values_are (λ k. f (suc k)) n xs (omega arith) (λ k y q. h (suc k) y q) i

it_is : (o : Option ℕ) (k : ℕ) → is_it o k ≡ true → o ≡ Some k
it_is None k e = absurd cc
it_is (Some j) k e = by_same j k (λ (q : j ≡ k). ap (λ z. Some z) q) (λ (n : j ≡ k → ⊥). let t : false ≡ true = sym (same_no j k n) ∙ e in absurd cc)

module _ {X T O : Type 0} (meant : X → Meant T O) (key : Key X) (s : State (Home T O) (View X T)) (r : OneState meant key s) where
  abbrev m : Meant T O
  m = meant key.meaning

  abbrev shown : ℕ → PieceState O
  shown k = state_of m k (stage_of m (r.at k))

  module _ (k : ℕ) (inside : k < m.pieces) where
    word_is : (p : Standing T) → r.at k ≡ p → get_or s.words k 0 ≡ word_of m k p
    word_is p e = (r.pieces k inside).word ∙ ap (word_of m k) e

    home_is : (p : Standing T) → r.at k ≡ p → get_elem? s.homes k ≡ some (home_of m k p)
    home_is p e = (r.pieces k inside).home ∙ ap (λ q. some (home_of m k q)) e

    held_slot : (i : ℕ) (h : Hold T) (b : Bool) (v : View X T) → get_elem? s.views i ≡ some v → r.at k ≡ held i h b → HasSlot m s k v
    held_slot i h false v at e = inl (home_is (held i h false) e)
    held_slot i h true v at e = inr (home_is (held i h true) e, it_is v.hand k ((r.views i v at).hands k ∙ (ap (in_hand_of i) e ∙ same_yes i i refl)))

    lent_slot : (i : ℕ) (b : Bool) (v : View X T) → get_elem? s.views i ≡ some v → r.at k ≡ lent i b → HasSlot m s k v
    lent_slot i false v at e = inl (home_is (lent i false) e)
    lent_slot i true v at e = inr (home_is (lent i true) e, it_is v.hand k ((r.views i v at).hands k ∙ (ap (in_hand_of i) e ∙ same_yes i i refl)))

    one_holder : (i : ℕ) (h : Hold T) (b : Bool) → r.at k ≡ held i h b → (j : ℕ) (u : View X T) (g : Hold T) → get_elem? s.views j ≡ some u → hold_on k u.held ≡ Some g → j ≡ i
    one_holder i h b e j u g at has = by_same j i (λ (q : j ≡ i). q)
        (λ (n : j ≢ i). let t : None ≡ Some g = sym (ap (λ z. if z then Some h else None) (same_no i j (λ q. n (sym q)))) ∙ (sym (ap (held_by j) e) ∙ (sym ((r.views j u at).holds k) ∙ has)) in absurd cc)

    one_borrower : (i : ℕ) (b : Bool) → r.at k ≡ lent i b → (j : ℕ) (u : View X T) → get_elem? s.views j ≡ some u → u.lent ≡ Some k → j ≡ i
    one_borrower i b e j u at has = by_same j i (λ (q : j ≡ i). q)
        (λ (n : j ≢ i). let t : false ≡ true = sym (same_no i j (λ q. n (sym q))) ∙ (sym (ap (lent_to j) e) ∙ (sym ((r.views j u at).loans k) ∙ (ap (λ z. is_it z k) has ∙ same_yes k k refl))) in absurd cc)

    none_holds : (p : Standing T) → r.at k ≡ p → ((j : ℕ) → held_by j p ≡ None) → NoneHolds m s k
    none_holds p e none j u at = (r.views j u at).holds k ∙ (ap (held_by j) e ∙ none j)

    none_borrows : (p : Standing T) → r.at k ≡ p → ((j : ℕ) → lent_to j p ≡ false) → NoneBorrows m s k
    none_borrows p e none j u at has = let t : false ≡ true = sym (none j) ∙ (sym (ap (lent_to j) e) ∙ (sym ((r.views j u at).loans k) ∙ (ap (λ z. is_it z k) has ∙ same_yes k k refl))) in absurd cc

    shows_at : (p : Standing T) → r.at k ≡ p → ShowsAt m s k (state_of m k (stage_of m p))
    shows_at fresh e = (word_is fresh e, home_is fresh e, none_holds fresh e (λ _. refl), none_borrows fresh e (λ _. refl))
    shows_at (held i h b) e = let u = elem_below s.views i (subst (SeatBelow (length s.views)) e (r.seated k)) in
        (word_is (held i h b) e, (u.0, h, u.1, (r.views i u.0 u.1).holds k ∙ (ap (held_by i) e ∙ ap (λ z. if z then Some h else None) (same_yes i i refl)), refl, refl, held_slot i h b u.0 u.1 e, one_holder i h b e), none_borrows (held i h b) e (λ _. refl))
    shows_at (parked t) e = let sound : IsSound m r.at k (parked t) = subst (IsSound m r.at k) e (r.pieces k inside).sound in
        (word_is (parked t) e, (t, home_is (parked t) e, sound.2, refl, refl), none_holds (parked t) e (λ _. refl), none_borrows (parked t) e (λ _. refl))
    shows_at settled e = (none_holds settled e (λ _. refl), inl (word_is settled e, home_is settled e, none_borrows settled e (λ _. refl)))
    shows_at (lent i b) e = let u = elem_below s.views i (subst (SeatBelow (length s.views)) e (r.seated k)) in
        (none_holds (lent i b) e (λ _. refl), inr (word_is (lent i b) e, refl, (i, u.0, u.1, it_is u.0.lent k ((r.views i u.0 u.1).loans k ∙ (ap (lent_to i) e ∙ same_yes i i refl)), lent_slot i b u.0 u.1 e, one_borrower i b e)))

    stands_for : (p : Standing T) → r.at k ≡ p → StandsFor m s k (steps_of m k p)
    stands_for fresh e = inl (word_is fresh e, refl)
    stands_for (held i h b) e = let u = elem_below s.views i (subst (SeatBelow (length s.views)) e (r.seated k)) in
        inr (inl (word_is (held i h b) e, (i, u.0, h, u.1, (r.views i u.0 u.1).holds k ∙ (ap (held_by i) e ∙ ap (λ z. if z then Some h else None) (same_yes i i refl)), refl)))
    stands_for (parked t) e = inr (inr (inl ((let w = word_is (parked t) e in omega arith), (t, home_is (parked t) e, refl))))
    stands_for settled e = inr (inr (inr (inl (word_is settled e), refl)))
    stands_for (lent i b) e = inr (inr (inr (inr (word_is (lent i b) e), refl)))

    begun_word : (p : Standing T) → IsBegun p → word_of m k p ≢ 0
    begun_word fresh h e = h
    begun_word (held i h b) d e = omega arith
    begun_word (parked t) d e = omega arith
    begun_word settled d e = omega arith
    begun_word (lent i b) d e = omega arith

    word_begun : (p : Standing T) → word_of m k p ≢ 0 → IsBegun p
    word_begun fresh n = n refl
    word_begun (held i h b) n = tt
    word_begun (parked t) n = tt
    word_begun settled n = tt
    word_begun (lent i b) n = tt

    settled_told : ((get_or s.words k 0 ≡ 3) ⊎ (get_or s.words k 0 ≡ 4)) ↔ HasSome (λ (v : View X T). IsAmong k v.seen) s.views
    settled_told = let o = r.pieces k inside in (
      (λ h. r.told k (word_settled m k (r.at k) (⊎_elim (λ (e : get_or s.words k 0 ≡ 3). inl (sym o.word ∙ e)) (λ (e : get_or s.words k 0 ≡ 4). inr (sym o.word ∙ e)) h))),
      (λ h. ⊎_elim (λ (e : word_of m k (r.at k) ≡ 3). inl (o.word ∙ e)) (λ (e : word_of m k (r.at k) ≡ 4). inr (o.word ∙ e)) (settled_has m k (r.at k) ((r.views h.0 h.1 h.2).seen k h.3))),
    )

    begun_told : (get_or s.words k 0 ≢ 0) ↔ HasSome (λ (v : View X T). IsAmong k v.begun) s.views
    begun_told = let o = r.pieces k inside in (
      (λ n. r.begun k (word_begun (r.at k) (λ e. n (o.word ∙ e)))),
      (λ h e. begun_word (r.at k) ((r.views h.0 h.1 h.2).begun k h.3) (sym o.word ∙ e)),
    )

    of_ended : (f : Stage) → IsEnded f → Settled (outcome m k) ≡ state_of m k f
    of_ended untouched h = absurd h
    of_ended (worked i n a) h = absurd h
    of_ended (waiting n a) h = absurd h
    of_ended ended h = refl

    is_shown : (p : PieceState O) → ShowsAt m s k p → p ≡ shown k
    is_shown Fresh d = sym (ap (λ q. state_of m k (stage_of m q)) (fresh_word m k (r.at k) (sym (r.pieces k inside).word ∙ d.0)))
    is_shown (Held i taken a) d = let v = d.1.0 in let h = d.1.1 in
        let w = held_view i (r.at k) h (sym ((r.views i v d.1.2).holds k) ∙ d.1.3) in
        (λ j. Held i (d.1.4 j) (d.1.5 j)) ∙ sym (ap (λ q. state_of m k (stage_of m q)) w.1)
    is_shown (Parked taken a on) d = let t = d.1.0 in
        let w = parked_word m k (r.at k) (let q : word_of m k (r.at k) ≡ 8 + on.0 = sym (r.pieces k inside).word ∙ d.0 in omega arith) in
        let z : t ≡ w.0 = (let q : some (some (Task t)) ≡ some (some (Task w.0)) = sym d.1.1 ∙ home_is (parked w.0) w.1 in cc) in
        let b : on.0 ≡ next_read m k (m.taken t) = (let q : 8 + on.0 ≡ 8 + next_read m k (m.taken w.0) = sym d.0 ∙ word_is (parked w.0) w.1 in let y = ap m.taken z in let x = ap (next_read m k) y in omega arith) in
        (λ j. Parked (d.1.3 j) (d.1.4 j) (record { 0 = b j })) ∙ (ap (λ u. state_of m k (stage_of m (parked u))) z ∙ sym (ap (λ q. state_of m k (stage_of m q)) w.1))
    is_shown (Settled o) (z, inl d) = let w = settled_word m k (r.at k) (sym (r.pieces k inside).word ∙ d.0) in
        let y : o ≡ outcome m k = (let q : some (some (Outcome o)) ≡ some (some (Outcome (outcome m k))) = sym d.1 ∙ home_is settled w in cc) in
        ap (λ u. Settled u) y ∙ sym (ap (λ q. state_of m k (stage_of m q)) w)
    is_shown (Settled o) (z, inr d) = let w = word_settled m k (r.at k) (inr (sym (r.pieces k inside).word ∙ d.0)) in
        ap (λ u. Settled u) d.1 ∙ of_ended (stage_of m (r.at k)) (settled_ended m k (r.at k) w)

  pub views_tell : ViewsTell m s
  views_tell = record {
    settled = settled_told;
    begun = begun_told;
    stop = (r.set_by, λ h. (r.views h.0 h.1 h.2).stopped h.3);
    small = r.stop;
  }

  pub sums_up : SumsUp m s
  sums_up = ((λ k. steps_of m k (r.at k)), (λ k inside. stands_for k inside (r.at k) refl), r.spent)

  pub shows : Shows m s (states m (λ k. stage_of m (r.at k)))
  shows = record {
    whole = values_length shown m.pieces;
    each = λ k p e. (let l = slice_get_within (values shown m.pieces) k p e in let n = values_length shown m.pieces in let inside : k < m.pieces = omega arith in
        subst (ShowsAt m s k) (some_injective (shown k) p (sym (values_at shown m.pieces k inside) ∙ e)) (shows_at k inside (r.at k) refl));
  }

  pub shows_it : (state : List (PieceState O)) → Shows m s state → state ≡ states m (λ k. stage_of m (r.at k))
  shows_it state d = values_are shown m.pieces state d.whole (λ k p e. is_shown k (let l = slice_get_within state k p e in let n = d.whole in omega arith) p (d.each k p e))

  pub shows_sound : Lawful m → ShowsSound m s
  shows_sound lawful = let a = r.reached (next_by_reads m) (is_next m lawful) in
      (states m (λ k. stage_of m (r.at k)), shows, all_sound m lawful (next_by_reads m) (is_next m lawful) a.0 (all_fresh m.pieces) (states m (λ k. stage_of m (r.at k))) (fresh_sound m) a.1, r.reached)
