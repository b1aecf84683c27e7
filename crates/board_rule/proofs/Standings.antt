-- From a word, or from a seat's view, back to how the piece stands.
use Rattle.std.proofs.Common.{◌≡◌, ◌≢◌, ◌⊎◌, ℕ, ◌+◌, ◌<◌, ◌≤◌, List, ◌∷◌, sym, refl, ap, ◌∙◌, subst, arith, Bool, true, false, ◌||◌, inl, inr, ⊎_elim, Option, Some, None, if◌then◌else◌}
use Rattle.settle_core.specs.Meant.{Meant, Lawful, outcome}
use Rattle.board_rule.specs.Maps.{is_same, is_it, IsAmong}
use Rattle.board_rule.specs.Stages.{IsEnded}
use Rattle.board_rule.specs.Standing.{Standing, fresh, held, parked, settled, lent, IsSettled, held_by, lent_to, in_hand_of, SeatBelow, next_read, word_of, steps_of, stage_of, IsSound}
use Rattle.board_rule.specs.Views.{saw}
use Rattle.board_rule.specs.Plays.{IsWordOf}
use Rattle.board_rule.specs.declared.view.Hold.{Hold}
use Rattle.board_rule.proofs.Maps.{by_same, same_yes, same_no}

-- the piece is with no seat
abbrev pub IsFree : {T : Type 0} → Standing T → Type 0
IsFree p = ((j : ℕ) → held_by j p ≡ None) × ((j : ℕ) → lent_to j p ≡ false) × ((j : ℕ) → in_hand_of j p ≡ false) × ((n : ℕ) → SeatBelow n p)

module _ {T O : Type 0} (m : Meant T O) (k : ℕ) where
  pub fresh_word : (p : Standing T) → word_of m k p ≡ 0 → p ≡ fresh
  fresh_word fresh e = refl
  fresh_word (held i h b) e = absurd (omega arith)
  fresh_word (parked t) e = absurd (omega arith)
  fresh_word settled e = absurd (omega arith)
  fresh_word (lent i b) e = absurd (omega arith)

  pub settled_word : (p : Standing T) → word_of m k p ≡ 3 → p ≡ settled
  settled_word fresh e = absurd (omega arith)
  settled_word (held i h b) e = absurd (omega arith)
  settled_word (parked t) e = absurd (omega arith)
  settled_word settled e = refl
  settled_word (lent i b) e = absurd (omega arith)

  pub parked_word : (p : Standing T) → 8 ≤ word_of m k p → (t : T) × (p ≡ parked t)
  parked_word fresh e = absurd (omega arith)
  parked_word (held i h b) e = absurd (omega arith)
  parked_word (parked t) e = (t, refl)
  parked_word settled e = absurd (omega arith)
  parked_word (lent i b) e = absurd (omega arith)

  pub word_settled : (p : Standing T) → (word_of m k p ≡ 3) ⊎ (word_of m k p ≡ 4) → IsSettled p
  word_settled fresh e = ⊎_elim (λ (a : 0 ≡ 3). omega arith) (λ (a : 0 ≡ 4). omega arith) e
  word_settled (held i h b) e = ⊎_elim (λ (a : 1 ≡ 3). omega arith) (λ (a : 1 ≡ 4). omega arith) e
  word_settled (parked t) e = ⊎_elim (λ (a : 8 + next_read m k (m.taken t) ≡ 3). omega arith) (λ (a : 8 + next_read m k (m.taken t) ≡ 4). omega arith) e
  word_settled settled e = tt
  word_settled (lent i b) e = tt

  pub settled_has : (p : Standing T) → IsSettled p → (word_of m k p ≡ 3) ⊎ (word_of m k p ≡ 4)
  settled_has fresh h = absurd h
  settled_has (held i g b) h = absurd h
  settled_has (parked t) h = absurd h
  settled_has settled h = inl refl
  settled_has (lent i b) h = inr refl

  pub settled_ended : (p : Standing T) → IsSettled p → IsEnded (stage_of m p)
  settled_ended fresh h = h
  settled_ended (held i g b) h = h
  settled_ended (parked t) h = h
  settled_ended settled h = h
  settled_ended (lent i b) h = h

  module _ (lawful : Lawful m) (inside : k < m.pieces) (at : ℕ → Standing T) where
    pub is_word : (p : Standing T) → IsSound m at k p → IsWordOf k (word_of m k p)
    is_word fresh s = ((λ _. (omega arith, (λ e. omega arith))), (λ l. absurd (omega arith)))
    is_word (held i h b) s = ((λ _. (omega arith, (λ e. omega arith))), (λ l. absurd (omega arith)))
    is_word (parked t) s = let l = lawful.below k (m.taken t) inside s.1 in ((λ q. absurd (omega arith)), (λ q. omega arith))
    is_word settled s = ((λ _. (omega arith, (λ e. omega arith))), (λ l. absurd (omega arith)))
    is_word (lent i b) s = ((λ _. (omega arith, (λ e. omega arith))), (λ l. absurd (omega arith)))

    -- a piece stands for no more steps than its outcome
    pub steps_within : (p : Standing T) → IsSound m at k p → steps_of m k p ≤ m.outcome_steps (outcome m k)
    steps_within fresh s = omega arith
    steps_within (held i h b) s = s.1
    steps_within (parked t) s = lawful.cheap k t inside s.2
    steps_within settled s = omega arith
    steps_within (lent i b) s = omega arith

module _ {T : Type 0} (id : ℕ) where
  by_seat : (i : ℕ) (g h : Hold T) (b : Bool) → (if is_same i id then Some g else None) ≡ Some h → (c : Bool) × (◌≡◌ {A = Standing T} (held i g b) (held id h c))
  by_seat i g h b q = by_same i id
      (λ (e : i ≡ id). let s : (if is_same i id then Some g else None) ≡ Some g = ap (λ (z : Bool). if z then Some g else None) (same_yes i id e) in
      let hs : g ≡ h = (let t : Some g ≡ Some h = sym s ∙ q in cc) in (b, λ j. held (e j) (hs j) b))
      (λ (n : i ≢ id). let s : (if is_same i id then Some g else None) ≡ None = ap (λ (z : Bool). if z then Some g else None) (same_no i id n) in
      let t : None ≡ Some h = sym s ∙ q in absurd cc)

  pub held_view : (p : Standing T) (h : Hold T) → held_by id p ≡ Some h → (b : Bool) × (p ≡ held id h b)
  held_view fresh h e = absurd cc
  held_view (held i g b) h e = by_seat i g h b e
  held_view (parked t) h e = absurd cc
  held_view settled h e = absurd cc
  held_view (lent i b) h e = absurd cc

  pub lent_view : (p : Standing T) → lent_to id p ≡ true → (b : Bool) × (p ≡ lent id b)
  lent_view fresh e = absurd cc
  lent_view (held i h b) e = absurd cc
  lent_view (parked t) e = absurd cc
  lent_view settled e = absurd cc
  lent_view (lent i b) e = by_same i id (λ (q : i ≡ id). (b, λ j. lent (q j) b)) (λ (n : i ≢ id). let t : false ≡ true = sym (same_no i id n) ∙ e in absurd cc)

  -- a seat beyond all of the list has nothing of a piece
  pub beyond_seats : (p : Standing T) → SeatBelow id p → (held_by id p ≡ None) × (lent_to id p ≡ false) × (in_hand_of id p ≡ false)
  beyond_seats fresh h = (refl, refl, refl)
  beyond_seats (held i g true) h = (ap (λ z. if z then Some g else None) (same_no i id (λ e. omega arith)), refl, same_no i id (λ e. omega arith))
  beyond_seats (held i g false) h = (ap (λ z. if z then Some g else None) (same_no i id (λ e. omega arith)), refl, refl)
  beyond_seats (parked t) h = (refl, refl, refl)
  beyond_seats settled h = (refl, refl, refl)
  beyond_seats (lent i true) h = (refl, same_no i id (λ e. omega arith), same_no i id (λ e. omega arith))
  beyond_seats (lent i false) h = (refl, same_no i id (λ e. omega arith), refl)

pub own_hand : (id : ℕ) (b : Bool) → (if b then is_same id id else false) ≡ b
own_hand id true = same_yes id id refl
own_hand id false = refl

pub other_hand : (id j : ℕ) (b : Bool) → id ≢ j → (if b then is_same id j else false) ≡ false
other_hand id j true n = same_no id j n
other_hand id j false n = refl

-- where nothing is in hand, nothing changes for other pieces by what is taken to hand; and back
pub none_but : (k j : ℕ) (o : Option ℕ) → o ≡ None → j ≢ k → is_it (Some k) j ≡ is_it o j
none_but k j o e n = same_no k j (λ q. n (sym q)) ∙ sym (ap (λ z. is_it z j) e)

pub some_but : (k j : ℕ) (o : Option ℕ) → o ≡ Some k → j ≢ k → is_it None j ≡ is_it o j
some_but k j o e n = sym (ap (λ z. is_it z j) e ∙ same_no k j (λ q. n (sym q)))

module _ (k w : ℕ) (l : List ℕ) where
  by_words : (j : ℕ) (a b : Bool) → is_same w 3 ≡ a → is_same w 4 ≡ b → IsAmong j (if a || b then k ∷ l else l) → IsAmong j l ⊎ ((j ≡ k) × ((w ≡ 3) ⊎ (w ≡ 4)))
  by_words j true b p q h = ⊎_elim (λ (e : j ≡ k). inr (e, by_same w 3 (λ (z : w ≡ 3). inl z) (λ (n : w ≢ 3). let t : false ≡ true = sym (same_no w 3 n) ∙ p in absurd cc))) (λ (r : IsAmong j l). inl r) h
  by_words j false true p q h = ⊎_elim (λ (e : j ≡ k). inr (e, by_same w 4 (λ (z : w ≡ 4). inr z) (λ (n : w ≢ 4). let t : false ≡ true = sym (same_no w 4 n) ∙ q in absurd cc))) (λ (r : IsAmong j l). inl r) h
  by_words j false false p q h = inl h

  pub saw_either : (j : ℕ) → IsAmong j (saw k w l) → IsAmong j l ⊎ ((j ≡ k) × ((w ≡ 3) ⊎ (w ≡ 4)))
  unfolding saw
  saw_either j h = by_words j (is_same w 3) (is_same w 4) refl refl h

  pub saw_before : (j : ℕ) → IsAmong j l → IsAmong j (saw k w l)
  unfolding saw
  saw_before j h = go (is_same w 3 || is_same w 4)
    where
      go : (b : Bool) → IsAmong j (if b then k ∷ l else l)
      go true = inr h
      go false = h

  pub saw_it : (w ≡ 3) ⊎ (w ≡ 4) → IsAmong k (saw k w l)
  unfolding saw
  saw_it (inl e) = subst (λ (b : Bool). IsAmong k (if b || is_same w 4 then k ∷ l else l)) (sym (same_yes w 3 e)) (inl refl)
  saw_it (inr e) = go (is_same w 3)
    where
      go : (b : Bool) → IsAmong k (if b || is_same w 4 then k ∷ l else l)
      go true = inl refl
      go false = subst (λ (b : Bool). IsAmong k (if b then k ∷ l else l)) (sym (same_yes w 4 e)) (inl refl)

  pub saw_none : w ≢ 3 → w ≢ 4 → saw k w l ≡ l
  unfolding saw
  saw_none a b = ap (λ z. if z || is_same w 4 then k ∷ l else l) (same_no w 3 a) ∙ ap (λ z. if z then k ∷ l else l) (same_no w 4 b)
