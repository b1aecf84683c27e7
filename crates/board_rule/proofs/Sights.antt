-- Steps that leave each piece as it stands: loads of words, lost exchanges, and the store of the stop word.
use Rattle.std.proofs.Common.{◌≡◌, ◌⊎◌, ℕ, ◌<◌, length, get_or, set, sym, refl, ap, ◌∙◌, subst, arith, Bool, true, ◌||◌, inl, inr, ⊎_elim, Some, length-set, get_or-set_same, get_or-set_other}
use mathlib.Core.Option.{some, none}
use lib.Seq.{set-get_or}
use lib.ListN.{get_elem?}
use Rattle.atomic_table.specs.Table.{State, Me, step, keeps, Allows}
use Rattle.settle_core.specs.Meant.{Meant, Lawful}
use Rattle.board_rule.specs.Maps.{is_same, IsAmong}
use Rattle.board_rule.specs.Standing.{IsSettled}
use Rattle.board_rule.specs.Views.{after_look, after_stop_look, after_stop}
use Rattle.board_rule.specs.Rule.{OneState}
use Rattle.board_rule.specs.Plays.{look_tells, stop_look_tells, stop_tells}
use Rattle.board_rule.specs.declared.home.Home.{Home}
use Rattle.board_rule.specs.declared.view.Key.{Key}
use Rattle.board_rule.specs.declared.view.View.{View}
use Rattle.board_rule.specs.declared.view.Entry.{Entry}
use Rattle.board_rule.specs.declared.view.Entry.TheVariants.{Looks}
use Rattle.board_rule.proofs.Maps.{by_same, same_no}
use Rattle.board_rule.proofs.Standings.{word_settled, saw_either, saw_before}
use Rattle.board_rule.proofs.Knowing.{found_told}
use Rattle.board_rule.proofs.Moves.{Sight, sees}

-- a mark that is there after a look at the stop word was there before, or the word was 1
marked : (w : ℕ) (b : Bool) → (is_same w 1 || b) ≡ true → (b ≡ true) ⊎ (w ≡ 1)
marked w b e = by_same w 1 (λ (q : w ≡ 1). inr q) (λ (n : w ≡ 1 → ⊥). inl (sym (ap (λ z. z || b) (same_no w 1 n)) ∙ e))

module _ {X T O : Type 0} (meant : X → Meant T O) (key : Key X) where
  abbrev n : ℕ
  n = (meant key.meaning).pieces

  -- any step that finds the word of the piece k, and leaves it
  pub sight : (s : State (Home T O) (View X T)) (r : OneState meant key s) (k id : ℕ) (v : View X T) (e : Entry T) → k < n → 0 < v.share → get_elem? s.views id ≡ some v
      → Sight meant key s r.at id v (after_look e k (get_or s.words k 0) v) (set s.words k (get_or s.words k 0))
  sight s r k id v e inside some_share seat = let same = set-get_or s.words k 0 in record {
    seat = seat;
    words_long = ap length same;
    words_same = λ j l. ap (λ ws. get_or ws j 0) same;
    stop_stays = λ h. ap (λ ws. get_or ws n 0) same ∙ h;
    stop_small = (let a = ap (λ ws. get_or ws n 0) same in let b = r.stop in omega arith);
    held = refl;
    lent = refl;
    hand = refl;
    seen = λ j h. ⊎_elim (λ (a : IsAmong j v.seen). inl a)
        (λ (b : (j ≡ k) × ((get_or s.words k 0 ≡ 3) ⊎ (get_or s.words k 0 ≡ 4))).
        inr (subst (λ (z : ℕ). IsSettled (r.at z)) (sym b.0) (let q = (r.pieces k inside).word in
        word_settled (meant key.meaning) k (r.at k) (⊎_elim (λ (c : get_or s.words k 0 ≡ 3). inl (sym q ∙ c)) (λ (c : get_or s.words k 0 ≡ 4). inr (sym q ∙ c)) b.1))))
        (saw_either k (get_or s.words k 0) v.seen j h);
    seen_before = saw_before k (get_or s.words k 0) v.seen;
    begun = refl;
    stopped = inl;
    stopped_before = λ q. q;
    set_by = λ q. inl (sym (ap (λ ws. get_or ws n 0) same) ∙ q);
    saw_stop = inl;
    share = (refl, some_share);
    spent = refl;
  }

  pub looks : Lawful (meant key.meaning) → (slots id k : ℕ) (me : Me (Home T O) (View X T)) → k < n → 0 < me.0.share → me.0.about ≡ Some key → Allows (OneState meant key) slots id me k (λ x. x) (look_tells meant (step slots k 0 0 none) me)
  looks lawful slots id k me inside some_share about s r deep seat small = let f = get_or s.words k 0 in let w = after_look (Looks k f) k f me.0 in (
    w,
    keeps,
    tt,
    sees meant key s r id me.0 w (set s.words k f) (sight s r k id me.0 (Looks k f) inside some_share seat),
    (refl, found_told meant key s r id k me.0 seat lawful inside about),
  )

  -- a load of the stop word, and the store that sets it
  pub stop_sight : (s : State (Home T O) (View X T)) (r : OneState meant key s) (id : ℕ) (v : View X T) → 0 < v.share → get_elem? s.views id ≡ some v
      → Sight meant key s r.at id v (after_stop_look (get_or s.words n 0) v) (set s.words n (get_or s.words n 0))
  stop_sight s r id v some_share seat = let f = get_or s.words n 0 in let same = set-get_or s.words n 0 in record {
    seat = seat;
    words_long = ap length same;
    words_same = λ j l. ap (λ ws. get_or ws j 0) same;
    stop_stays = λ h. ap (λ ws. get_or ws n 0) same ∙ h;
    stop_small = (let a = ap (λ ws. get_or ws n 0) same in let b = r.stop in omega arith);
    held = refl;
    lent = refl;
    hand = refl;
    seen = λ j h. inl h;
    seen_before = λ j h. h;
    begun = refl;
    stopped = inl;
    stopped_before = λ q. q;
    set_by = λ q. inl (sym (ap (λ ws. get_or ws n 0) same) ∙ q);
    saw_stop = λ e. ⊎_elim (λ (a : v.saw_stop ≡ true). inl a) (λ (a : f ≡ 1). inr (ap (λ ws. get_or ws n 0) same ∙ a)) (marked f v.saw_stop e);
    share = (refl, some_share);
    spent = refl;
  }

  pub stop_set : (s : State (Home T O) (View X T)) (r : OneState meant key s) (id : ℕ) (v : View X T) → 0 < v.share → get_elem? s.views id ≡ some v
      → Sight meant key s r.at id v (after_stop v) (set s.words n 1)
  stop_set s r id v some_share seat = let here : get_or (set s.words n 1) n 0 ≡ 1 = get_or-set_same s.words n 1 0 (let l = r.wide in omega arith) in record {
    seat = seat;
    words_long = length-set s.words n 1;
    words_same = λ j l. get_or-set_other s.words n j 1 0 (λ e. omega arith);
    stop_stays = λ h. here;
    stop_small = omega arith;
    held = refl;
    lent = refl;
    hand = refl;
    seen = λ j h. inl h;
    seen_before = λ j h. h;
    begun = refl;
    stopped = λ e. inr here;
    stopped_before = λ _. refl;
    set_by = λ _. inr refl;
    saw_stop = λ e. inr here;
    share = (refl, some_share);
    spent = refl;
  }

  pub looks_at_stop : (slots id : ℕ) (me : Me (Home T O) (View X T)) → 0 < me.0.share → Allows (OneState meant key) slots id me n (λ x. x) (stop_look_tells (step slots n 0 0 none) me)
  looks_at_stop slots id me some_share s r deep seat small = let f = get_or s.words n 0 in let w = after_stop_look f me.0 in
      (w, keeps, tt, sees meant key s r id me.0 w (set s.words n f) (stop_sight s r id me.0 some_share seat), (refl, r.stop, (λ e. (r.views id me.0 seat).stopped e), (λ e. (r.views id me.0 seat).saw_stop e)))

  pub stops : (slots id : ℕ) (me : Me (Home T O) (View X T)) → 0 < me.0.share → Allows (OneState meant key) slots id me n (λ _. 1) (λ _. stop_tells (step slots n 1 0 none) me 1)
  stops slots id me some_share s r deep seat small = let w : View X T = after_stop me.0 in
      (w, keeps, tt, sees meant key s r id me.0 w (set s.words n 1) (stop_set s r id me.0 some_share seat), refl)
