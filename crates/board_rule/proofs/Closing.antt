-- A board whose seats are all one, which has no piece: nothing is held or lent. What was seen settled is at home, and where all is
-- settled, the outcomes and the steps are all there.
use Rattle.std.proofs.Common.{◌≡◌, ◌≢◌, ◌⊎◌, ℕ, ◌+◌, ◌<◌, ◌≤◌, List, [], length, get_or, sym, refl, ap, ◌∙◌, subst, arith, Bool, true, false, inl, inr, Some, None, if◌then◌else◌}
use mathlib.Core.Option.{some, some-injective}
use lib.ListN.{get_elem?}
use Rattle.atomic_table.specs.Table.{State}
use Rattle.settle_core.specs.Meant.{Meant, Lawful, outcome}
use Rattle.board_rule.specs.Maps.{is_same, is_it, IsAmong, HasSome}
use Rattle.board_rule.specs.Standing.{Standing, fresh, held, parked, settled, lent, IsSettled, IsBegun, held_by, lent_to, SeatBelow, next_read, word_of, home_of, steps_of, IsSound}
use Rattle.board_rule.specs.Views.{hold_on}
use Rattle.board_rule.specs.Rule.{work, OneState}
use Rattle.board_rule.specs.declared.home.Home.{Home}
use Rattle.board_rule.specs.declared.home.Home.TheVariants.{Outcome}
use Rattle.board_rule.specs.declared.view.Hold.{Hold}
use Rattle.board_rule.specs.declared.view.Key.{Key}
use Rattle.board_rule.specs.declared.view.View.{View}
use Rattle.board_rule.proofs.Maps.{by_same, same_yes, others_none, only_one, elem_below, sums_equal}
use Rattle.board_rule.proofs.Standings.{settled_word}

module _ {X T O : Type 0} (meant : X → Meant T O) (key : Key X) (s : State (Home T O) (View X T)) (r : OneState meant key s) (id : ℕ) (v : View X T) (seat : get_elem? s.views id ≡ some v)
    (all : v.share ≡ key.seats) (none_held : v.held ≡ []) (none_lent : v.lent ≡ None) where
  abbrev m : Meant T O
  m = meant key.meaning

  no_share : (j : ℕ) (u : View X T) → j ≢ id → get_elem? s.views j ≡ some u → u.share ≡ 0
  no_share j u n g = others_none (λ (z : View X T). z.share) s.views id j v u seat (r.shares ∙ sym all) n g

  no_piece : (j : ℕ) (u : View X T) → get_elem? s.views j ≡ some u → (u.held ≡ []) × (u.lent ≡ None)
  no_piece j u g = by_same j id
      (λ (e : j ≡ id). let q : v ≡ u = (let h : some v ≡ some u = sym seat ∙ (ap (get_elem? s.views) (sym e) ∙ g) in cc) in (ap (λ z. z.held) (sym q) ∙ none_held, ap (λ z. z.lent) (sym q) ∙ none_lent))
      (λ (n : j ≢ id). let o = (r.views j u g).idle (no_share j u n g) in (o.0, o.1))

  -- what some view knows, this one does: the others have nothing in them
  here : (f : View X T → List ℕ) → ((j : ℕ) (u : View X T) → j ≢ id → get_elem? s.views j ≡ some u → f u ≡ []) → (k : ℕ) → HasSome (λ (u : View X T). IsAmong k (f u)) s.views → IsAmong k (f v)
  here f none k h = by_same h.0 id
      (λ (e : h.0 ≡ id). let q : h.1 ≡ v = some-injective h.1 v (sym h.2 ∙ (ap (get_elem? s.views) e ∙ seat)) in subst (λ (u : View X T). IsAmong k (f u)) q h.3)
      (λ (n : h.0 ≢ id). absurd (subst (IsAmong k) (none h.0 h.1 n h.2) h.3))

  pub seen_here : (k : ℕ) → IsSettled (r.at k) → IsAmong k v.seen
  seen_here k h = here (λ u. u.seen) (λ j u n g. ((r.views j u g).idle (no_share j u n g)).3) k (r.told k h)

  pub begun_here : (k : ℕ) → IsBegun (r.at k) → IsAmong k v.begun
  begun_here k h = here (λ u. u.begun) (λ j u n g. ((r.views j u g).idle (no_share j u n g)).8) k (r.begun k h)

  not_held : (k i : ℕ) (h : Hold T) (b : Bool) → r.at k ≡ held i h b → ⊥
  not_held k i h b was = let u = elem_below s.views i (subst (SeatBelow (length s.views)) was (r.seated k)) in
      let q : None ≡ (if is_same i i then Some h else None) = ap (hold_on k) (sym (no_piece i u.0 u.1).0) ∙ ((r.views i u.0 u.1).holds k ∙ ap (held_by i) was) in
      let t : None ≡ Some h = q ∙ ap (λ z. if z then Some h else None) (same_yes i i refl) in absurd cc

  not_lent : (k i : ℕ) (b : Bool) → r.at k ≡ lent i b → ⊥
  not_lent k i b was = let u = elem_below s.views i (subst (SeatBelow (length s.views)) was (r.seated k)) in
      let q : false ≡ is_same i i = ap (λ z. is_it z k) (sym (no_piece i u.0 u.1).1) ∙ ((r.views i u.0 u.1).loans k ∙ ap (lent_to i) was) in
      let t : false ≡ true = q ∙ same_yes i i refl in absurd cc

  pub seen_home : (k : ℕ) → IsAmong k v.seen → r.at k ≡ settled
  seen_home k h = go (r.at k) refl ((r.views id v seat).seen k h)
    where
      go : (p : Standing T) → r.at k ≡ p → IsSettled p → p ≡ settled
      go fresh e i = absurd i
      go (held a b c) e i = absurd i
      go (parked t) e i = absurd i
      go settled e i = refl
      go (lent a b) e i = absurd (not_lent k a b e)

  -- a piece that is not settled is fresh, and this view never began it, or parked on one before it
  pub open_word : Lawful m → (k : ℕ) → k < m.pieces → get_or s.words k 0 ≢ 3
      → ((get_or s.words k 0 ≡ 0) × ¬ IsAmong k v.begun) ⊎ ((8 ≤ get_or s.words k 0) × (get_or s.words k 0 < 8 + k) × IsAmong k v.begun)
  open_word lawful k inside n = go (r.at k) refl
    where
      go : (p : Standing T) → r.at k ≡ p → ((get_or s.words k 0 ≡ 0) × ¬ IsAmong k v.begun) ⊎ ((8 ≤ get_or s.words k 0) × (get_or s.words k 0 < 8 + k) × IsAmong k v.begun)
      go fresh e = inl ((r.pieces k inside).word ∙ ap (word_of m k) e, λ h. subst IsBegun e ((r.views id v seat).begun k h))
      go (held a b c) e = absurd (not_held k a b c e)
      go (parked t) e = let sound : IsSound m r.at k (parked t) = subst (IsSound m r.at k) e (r.pieces k inside).sound in
          let l = lawful.below k (m.taken t) inside sound.1 in
          let w : get_or s.words k 0 ≡ 8 + next_read m k (m.taken t) = (r.pieces k inside).word ∙ ap (word_of m k) e in
          inr (omega arith, omega arith, begun_here k (subst IsBegun (sym e) tt))
      go settled e = absurd (n ((r.pieces k inside).word ∙ ap (word_of m k) e))
      go (lent a b) e = absurd (not_lent k a b e)

  pub settled_home : (k : ℕ) → k < m.pieces → get_or s.words k 0 ≡ 3 → (r.at k ≡ settled) × (get_elem? s.homes k ≡ some (some (Outcome (outcome m k))))
  settled_home k l e = let o = r.pieces k l in let p = settled_word m k (r.at k) (sym o.word ∙ e) in (p, o.home ∙ ap (λ q. some (home_of m k q)) p)

  pub all_spent : ((k : ℕ) → k < m.pieces → get_or s.words k 0 ≡ 3) → v.spent ≡ work m
  all_spent h = sym (only_one (λ (z : View X T). z.spent) s.views id v seat (λ j u n g. ((r.views j u g).idle (no_share j u n g)).4)) ∙ (r.spent ∙
      sums_equal (λ k. steps_of m k (r.at k)) (λ k. m.outcome_steps (outcome m k)) m.pieces (λ k l. ap (steps_of m k) (settled_home k l (h k l)).0))
