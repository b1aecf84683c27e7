-- How long a list of steps can be.
use Rattle.std.proofs.Common.{◌≡◌, ℕ, ◌+◌, ◌*◌, ◌<◌, ◌≤◌, List, length, get_or, slice_get, Bool, true, false, ltb, is_some, Option, Some, None, refl, sym, ap, subst, arith, if◌then◌else◌}
use mathlib.Core.Logic.{dite}
use native.Mathlib.Decide.{dec_lt}
use Rattle.std.proofs.lemmas.Bool.{le-ltb}
use Rattle.settle_core.specs.Meant.{Meant, Lawful, reads}
use Rattle.settle_core.specs.Next.{NextOf, IsNext}
use Rattle.settle_core.specs.State.{PieceState, Fresh, Held, Parked, Settled, CoreStep, settled_at, IsSettledAt}
use Rattle.settle_core.specs.Steps.{named}
use Rattle.settle_core.specs.Sound.{IsSound, Sound}
use Rattle.settle_core.specs.Bound.{sum_below, reads_of_all, idle}
use Rattle.settle_core.proofs.Tasks.{front_length}
use Rattle.settle_core.proofs.Moves.{one_at_most, bonus, spent}
use Rattle.settle_core.proofs.Keeping.{Parts, stays_settled, inside, at_step, elsewhere, moved}
use Rattle.settle_core.proofs.Sums.{sum_grows, sum_grows_at, sum_thirds}

module _ {T O : Type 0} (m : Meant T O) where
  abbrev pub spent_at : List (PieceState O) → ℕ → Option (PieceState O) → ℕ
  spent_at s k None = 0
  spent_at s k (Some p) = spent m s k p

  abbrev pub spent_by_all : List (PieceState O) → ℕ
  spent_by_all s = sum_below (λ k. spent_at s k (slice_get s k)) m.pieces

  module _ (s t : List (PieceState O)) (grows : (j : ℕ) → IsSettledAt s j → IsSettledAt t j) (k : ℕ) where
    bonus_stays : (n : ℕ) → bonus m s k n ≤ bonus m t k n
    bonus_stays n = by_cases (ltb n (length (reads m k))) (is_some (settled_at s (get_or (reads m k) n 0))) (is_some (settled_at t (get_or (reads m k) n 0))) (grows (get_or (reads m k) n 0))
      where
        by_cases : (a b c : Bool) → (b ≡ true → c ≡ true) → (if a then (if b then 2 else 0) else 0) ≤ (if a then (if c then 2 else 0) else 0)
        by_cases false b c h = omega arith
        by_cases true false c h = omega arith
        by_cases true true c h = subst (λ (x : Bool). 2 ≤ (if x then 2 else 0)) (sym (h refl)) (omega arith)

    spent_stays : (p : PieceState O) → spent m s k p ≤ spent m t k p
    spent_stays Fresh = omega arith
    spent_stays (Held worker taken mark) = let h = bonus_stays (length taken) in omega arith
    spent_stays (Parked taken mark on) = omega arith
    spent_stays (Settled o) = omega arith

    spent_at_stays : (p : Option (PieceState O)) → spent_at s k p ≤ spent_at t k p
    spent_at_stays None = omega arith
    spent_at_stays (Some p) = spent_stays p

  module _ (s : List (PieceState O)) (k : ℕ) where
    bonus_small : (n : ℕ) → n ≤ length (reads m k) → 3 * n + bonus m s k n ≤ 3 * length (reads m k)
    bonus_small n l = dite (dec_lt n (length (reads m k)))
        (λ (h : n < length (reads m k)). let b = two (ltb n (length (reads m k))) (is_some (settled_at s (get_or (reads m k) n 0))) in omega arith)
        (λ (h : n < length (reads m k) → ⊥). let b : bonus m s k n ≡ 0 = ap (λ b. if b then (if is_some (settled_at s (get_or (reads m k) n 0)) then 2 else 0) else 0) (le-ltb n (length (reads m k)) (omega arith)) in omega arith)
      where
        two : (a b : Bool) → (if a then (if b then 2 else 0) else 0) ≤ 2
        two true true = omega arith
        two true false = omega arith
        two false b = omega arith

    spent_within : (p : PieceState O) → IsSound m s k p → spent m s k p ≤ 3 + 3 * length (reads m k)
    spent_within Fresh h = omega arith
    spent_within (Held worker taken mark) h = let n = front_length m k taken h.count h.within h.prefix in let w = h.within in
        let b = bonus_small (length taken) (omega arith) in let f = one_at_most mark in omega arith
    spent_within (Parked taken mark on) h = let n = front_length m k taken h.task.count h.task.within h.task.prefix in let w = h.has_next in let f = one_at_most mark in omega arith
    spent_within (Settled o) h = omega arith

    spent_at_within : Sound m s → (p : Option (PieceState O)) → slice_get s k ≡ p → spent_at s k p ≤ 3 + 3 * length (reads m k)
    spent_at_within sound None e = omega arith
    spent_at_within sound (Some p) e = spent_within p (sound.each k p e)

  pub within : (s : List (PieceState O)) → Sound m s → spent_by_all s ≤ 3 * m.pieces + 3 * reads_of_all m
  within s sound = let a = sum_grows (λ k. spent_at s k (slice_get s k)) (λ k. 3 + 3 * length (reads m k)) m.pieces (λ k l. spent_at_within s k sound (slice_get s k) refl) in
      let b = sum_thirds (λ k. length (reads m k)) m.pieces in omega arith

module _ {T O : Type 0} (m : Meant T O) (lawful : Lawful m) (next : ℕ → List (ℕ × O) → NextOf O) (law : IsNext m next) (s t : List (PieceState O)) (step : CoreStep) (sound : Sound m s) (d : Parts next s t step) where
  pub spends : spent_by_all m s + 1 ≤ spent_by_all m t + 2 * idle s step
  spends = let grows = stays_settled next s t step d in
      let a = (moved m lawful next law s t step sound d).more in
      let b = spent_stays m s t grows (named step) d.q in
      sum_grows_at (λ k. spent_at m s k (slice_get s k)) (λ k. spent_at m t k (slice_get t k)) (named step) (2 * idle s step) m.pieces
      (let i = inside next s t step d in let w = sound.whole in omega arith)
      (let p = ap (spent_at m s (named step)) d.here in let q = ap (spent_at m t (named step)) (at_step next s t step d) in omega arith)
      (λ j l n. subst (λ (p : Option (PieceState O)). spent_at m s j (slice_get s j) ≤ spent_at m t j p) (sym (elsewhere next s t step d j n)) (spent_at_stays m s t grows j (slice_get s j)))
