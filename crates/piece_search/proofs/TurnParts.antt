-- Parts of trails: what stands in one stands in a longer one, and in a round nothing moves and each piece is turned away.
use Rattle.std.proofs.Common.{◌≡◌, ◌≢◌, ℕ, ◌+◌, ◌-◌, ◌<◌, ◌≤◌, ltb, if◌then◌else◌, lt-ltb, ltb-true, List, [], ◌∷◌, ◌++◌, Bool, true, false, refl, sym, ap, ◌∙◌, subst, arith, append_assoc, append-nil}
use mathlib.Core.Logic.{dite}
use native.Mathlib.Decide.{dec_lt}
use Rattle.board_rule.specs.declared.view.Entry.{Entry}
use Rattle.board_rule.proofs.Maps.{by_same}
use Rattle.settle_board.specs.Changes.{TurnsAway, by_hold, by_outcome, by_rival, by_rival_resume, by_park}
use Rattle.piece_search.specs.TurnParts.{IsWithin, SeesSettled, SeesUnsettled, IsMoveless, IsTurnedAway, nth_from, Round, none, more}

module _ {T : Type 0} (steps : List (Entry T)) where
  pub within_itself : IsWithin steps steps
  within_itself = ([], [], sym (append-nil steps))

  pub within_left : (p q : List (Entry T)) → IsWithin steps p → IsWithin steps (p ++ q)
  within_left p q h = (h.0, h.1 ++ q, ap (λ x. x ++ q) h.2 ∙ (append_assoc h.0 (steps ++ h.1) q ∙ ap (λ x. h.0 ++ x) (append_assoc steps h.1 q)))

  pub within_right : (p q : List (Entry T)) → IsWithin steps q → IsWithin steps (p ++ q)
  within_right p q h = (p ++ h.0, h.1, ap (λ x. p ++ x) h.2 ∙ sym (append_assoc p h.0 (steps ++ h.1)))

-- what is seen of a piece
module _ {T : Type 0} (k : ℕ) (p q : List (Entry T)) where
  pub unsettled_left : SeesUnsettled k p → SeesUnsettled k (p ++ q)
  unsettled_left h = (h.0, h.1, h.2, (h.3.0, h.3.1, within_left (h.3.0 ∷ []) p q h.3.2))

  pub unsettled_right : SeesUnsettled k q → SeesUnsettled k (p ++ q)
  unsettled_right h = (h.0, h.1, h.2, (h.3.0, h.3.1, within_right (h.3.0 ∷ []) p q h.3.2))

  pub settled_left : SeesSettled k p → SeesSettled k (p ++ q)
  settled_left h = (h.0, h.1, (h.2.0, h.2.1, within_left (h.2.0 ∷ []) p q h.2.2))

  pub settled_right : SeesSettled k q → SeesSettled k (p ++ q)
  settled_right h = (h.0, h.1, (h.2.0, h.2.1, within_right (h.2.0 ∷ []) p q h.2.2))

-- a piece that was tried
module _ {T : Type 0} (k : ℕ) (p q : List (Entry T)) where
  pub turned_left : IsTurnedAway k p → IsTurnedAway k (p ++ q)
  turned_left h = (h.0, h.1, within_left h.0 p q h.2)

  turned_right : IsTurnedAway k q → IsTurnedAway k (p ++ q)
  turned_right h = (h.0, h.1, within_right h.0 p q h.2)

-- parts in which nothing moves
module _ {T : Type 0} where
  pub moveless_both : (p q : List (Entry T)) → IsMoveless p → IsMoveless q → IsMoveless (p ++ q)
  moveless_both [] q a b = b
  moveless_both (e ∷ p) q a b = (a.0, moveless_both p q a.1 b)

  turn_moveless : (k : ℕ) (steps : List (Entry T)) → TurnsAway k steps → IsMoveless steps
  turn_moveless k steps (by_hold e) = subst IsMoveless (sym e) (tt, tt)
  turn_moveless k steps (by_outcome r d e) = subst IsMoveless (sym e) (tt, tt)
  turn_moveless k steps (by_rival r n e) = subst IsMoveless (sym e) (tt, (refl, tt))
  turn_moveless k steps (by_rival_resume on found r d n e) = subst IsMoveless (sym e) (tt, (tt, (refl, tt)))
  turn_moveless k steps (by_park on found l a b e) = subst IsMoveless (sym e) (tt, (tt, tt))

-- In a round nothing moves, and each piece that it tried was turned away
module _ {T : Type 0} (pick n : ℕ) where
  pub round_moveless : (i : ℕ) (part : List (Entry T)) → Round pick n i part → IsMoveless part
  round_moveless i part none = tt
  round_moveless i part (more j p steps r t) = moveless_both p steps (round_moveless j p r) (turn_moveless (nth_from pick n j) steps t)

  round_turned : (i : ℕ) (part : List (Entry T)) → Round pick n i part → (j : ℕ) → j < i → IsTurnedAway (nth_from pick n j) part
  round_turned i part none j l = absurd (omega arith)
  round_turned i part (more k p steps r t) j l = by_same j k
      (λ (q : j ≡ k). subst (λ (z : ℕ). IsTurnedAway (nth_from pick n z) (p ++ steps)) (sym q) (turned_right (nth_from pick n k) p steps (steps, t, within_itself steps)))
      (λ (d : j ≢ k). turned_left (nth_from pick n j) p steps (round_turned k p r j (omega arith)))

-- a round has no others
pub nth_inside : (pick n i : ℕ) → pick ≤ n → i < n → nth_from pick n i < n
nth_inside pick n i small l = go (ltb (pick + i) n) refl
  where
    go : (b : Bool) → ltb (pick + i) n ≡ b → (if b then pick + i else pick + i - n) < n
    go true q = ltb-true (pick + i) n q
    go false q = omega arith

-- a round reaches each piece
round_reaches : (pick n k : ℕ) → pick ≤ n → k < n → (i : ℕ) × (i < n) × (nth_from pick n i ≡ k)
round_reaches pick n k small l = dite (dec_lt k pick)
    (λ (a : k < pick). (k + (n - pick), omega arith, after (k + (n - pick)) (omega arith) (omega arith)))
    (λ (a : k < pick → ⊥). (k - pick, omega arith, before (k - pick) (omega arith) (omega arith)))
  where
    before : (i : ℕ) → pick + i < n → pick + i ≡ k → nth_from pick n i ≡ k
    before i h e = ap (λ c. if c then pick + i else pick + i - n) (lt-ltb (pick + i) n h) ∙ e

    after : (i : ℕ) → n ≤ pick + i → pick + i - n ≡ k → nth_from pick n i ≡ k
    after i h e = go (ltb (pick + i) n) refl
      where
        go : (b : Bool) → ltb (pick + i) n ≡ b → (if b then pick + i else pick + i - n) ≡ k
        go true q = absurd (let z = ltb-true (pick + i) n q in omega arith)
        go false q = e

-- so a round that turned away all has turned away each
pub all_turned : {T : Type 0} (pick n : ℕ) (part : List (Entry T)) → pick ≤ n → Round pick n n part → (k : ℕ) → k < n → IsTurnedAway k part
all_turned pick n part small all k l = let r = round_reaches pick n k small l in subst (λ (z : ℕ). IsTurnedAway z part) r.2 (round_turned pick n n part all r.0 r.1)
