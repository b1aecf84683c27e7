-- Looks at the pieces in order, and turns in which no piece was to be had.
use Rattle.std.proofs.Common.{◌≡◌, ◌≢◌, ℕ, ◌+◌, ◌<◌, ◌≤◌, List, [], ◌∷◌, ◌++◌, refl, sym, ap, ◌∙◌, subst, arith, Bool, true, false, IsTrue, IsFalse, append_assoc, append-nil}
use Rattle.settle_core.specs.Meant.{Meant}
use Rattle.board_rule.specs.declared.view.View.{View}
use Rattle.board_rule.specs.declared.view.Entry.{Entry}
use Rattle.board_rule.specs.declared.view.Entry.TheVariants.{Looks}
use Rattle.board_rule.proofs.Maps.{by_same}
use Rattle.settle_board.specs.Changes.{IsSettledWord}
use Rattle.piece_search.specs.TurnParts.{SeesSettled, SeesUnsettled, IsMoveless, IsTurnedAway}
use Rattle.piece_search.specs.FoundSays.{FoundSays}
use Rattle.piece_search.specs.declared.searching.Found.TheVariants.{Nothing}
use Rattle.piece_search.proofs.TurnParts.{within_itself, settled_left, settled_right, unsettled_right, moveless_both, round_moveless, turned_left, all_turned}
use Rattle.board_callers.specs.Ends.{LooksSay}

module _ {X T : Type 0} where
  -- the first n pieces were seen settled, and nothing moved
  abbrev pub Looked : ℕ → View X T → View X T → Type 0
  Looked n v w = (part : List (Entry T)) × (w.trail ≡ v.trail ++ part) × IsMoveless part × ((j : ℕ) → j < n → SeesSettled j part)

  pub looked_none : (v : View X T) → Looked 0 v v
  looked_none v = ([], sym (append-nil v.trail), tt, λ j l. absurd (omega arith))

  module _ (k r : ℕ) (u v w : View X T) (l : Looked k u v) (e : w.trail ≡ v.trail ++ Looks k r ∷ []) where
    abbrev look : List (Entry T)
    look = Looks k r ∷ []

    longer : w.trail ≡ u.trail ++ (l.0 ++ look)
    longer = e ∙ (ap (λ t. t ++ look) l.1 ∙ append_assoc u.trail l.0 look)

    nothing_moved : IsMoveless (l.0 ++ look)
    nothing_moved = moveless_both l.0 look l.2 (tt, tt)

    pub looked_more : IsSettledWord r → Looked (k + 1) u w
    looked_more d = (
      l.0 ++ look,
      longer,
      nothing_moved,
      λ j i. by_same j k
          (λ (q : j ≡ k). subst (λ (z : ℕ). SeesSettled z (l.0 ++ look)) (sym q) (settled_right k l.0 look (r, d, (Looks k r, refl, within_itself look))))
          (λ (n : j ≢ k). settled_left j l.0 look (l.3 j (omega arith))),
    )

    pub looks_open : (n : ℕ) → k < n → r ≢ 3 → r ≢ 4 → LooksSay n false u w
    looks_open n i a b = (l.0 ++ look, longer, nothing_moved, (λ q. absurd cc), λ q. (k, i, unsettled_right k l.0 look (r, a, b, (Looks k r, refl, within_itself look))))

  pub looks_all : (n k : ℕ) (u v : View X T) → n ≤ k → Looked k u v → LooksSay n true u v
  looks_all n k u v few l = (l.0, l.1, l.2, (λ q j i. l.3 j (omega arith)), λ q. absurd cc)

-- a search found nothing, and then the pieces were looked at
module _ {X T O : Type 0} (m : Meant T O) (pick n : ℕ) (u v w : View X T) (h : FoundSays m pick n u Nothing v) (all : Bool) (l : LooksSay n all v w) where
  longer_still : w.trail ≡ u.trail ++ (h.0 ++ l.0)
  longer_still = l.1 ∙ (ap (λ t. t ++ l.0) h.2.trail ∙ append_assoc u.trail h.0 l.0)

  nothing_moved_still : IsMoveless (h.0 ++ l.0)
  nothing_moved_still = moveless_both h.0 l.0 (round_moveless pick n n h.0 h.1) l.2

  pub turn_saw_all : IsTrue all → (part : List (Entry T)) × (w.trail ≡ u.trail ++ part) × IsMoveless part × ((k : ℕ) → k < n → SeesSettled k part)
  turn_saw_all t = (h.0 ++ l.0, longer_still, nothing_moved_still, λ k i. settled_right k h.0 l.0 (l.3 t k i))

  pub turn_waits : pick ≤ n → IsFalse all → (part : List (Entry T)) × (w.trail ≡ u.trail ++ part) × IsMoveless part × ((k : ℕ) → k < n → IsTurnedAway k part) × ((k : ℕ) × (k < n) × SeesUnsettled k part)
  turn_waits small f = let s = l.4 f in
      (h.0 ++ l.0, longer_still, nothing_moved_still, (λ k i. turned_left k h.0 l.0 (all_turned pick n h.0 small h.1 k i)), (s.0, s.1, unsettled_right s.0 h.0 l.0 s.2))
