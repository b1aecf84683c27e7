-- A step keeps a sound state sound, and what is settled stays settled.
use Rattle.std.proofs.Common.{◌≡◌, ◌≢◌, ℕ, ◌<◌, List, length, get_or, slice_get, slice_set, is_some, Bool, true, false, Some, None, refl, sym, ap, ◌∙◌, subst}
use Rattle.std.specs.Option.{option_map}
use Rattle.std.proofs.lemmas.List.{length-set}
use Rattle.std.proofs.lemmas.Option.{slice_get_within}
use mathlib.Core.Logic.{dite}
use native.Mathlib.Decide.{ℕ_discrete}
use Rattle.settle_core.specs.Meant.{Meant, Lawful, reads}
use Rattle.settle_core.specs.Next.{NextOf, IsNext}
use Rattle.settle_core.specs.State.{PieceState, Fresh, Held, Parked, Settled, CoreStep, Claim, Advance, Park, Resume, Settle, outcome_in, IsSettledAt}
use Rattle.settle_core.specs.Steps.{named, made, stepped}
use Rattle.settle_core.specs.Sound.{IsSoundTask, IsSound, Sound}
use Rattle.settle_core.specs.Bound.{idle}
use Rattle.settle_core.proofs.Lists.{get_set_same, get_set_other}
use Rattle.settle_core.proofs.Options.{some_injective, none_is_no_some, from_map, from_bind}
use Rattle.settle_core.proofs.Moves.{Moved, moves}

module _ {O : Type 0} (next : ℕ → List (ℕ × O) → NextOf O) (s t : List (PieceState O)) (step : CoreStep) where
  -- t is s with what the step makes of the piece that it names
  pub record Parts : Type 0 where
    pub p : PieceState O
    pub q : PieceState O
    pub here : slice_get s (named step) ≡ Some p
    pub makes : made next s step p ≡ Some q
    pub after : slice_set s (named step) q ≡ t

  pub parts : stepped next s step ≡ Some t → Parts
  parts e = let a = from_bind (λ p. option_map (slice_set s (named step)) (made next s step p)) (slice_get s (named step)) t e in
      let b = from_map (slice_set s (named step)) (made next s step a.0) t a.2 in
      record { p = a.0; q = b.0; here = a.1; makes = b.1; after = b.2 }

  -- a settled piece never moves
  unsettled : (p q : PieceState O) → made next s step p ≡ Some q → outcome_in (Some p) ≡ None
  unsettled Fresh q e = refl
  unsettled (Held worker taken mark) q e = refl
  unsettled (Parked taken mark on) q e = refl
  unsettled (Settled o) q e = absurd (none_is_no_some q (sym (stays step o) ∙ e))
    where
      stays : (x : CoreStep) (o : O) → made next s x (Settled o) ≡ None
      stays (Claim k worker) o = refl
      stays (Advance k) o = refl
      stays (Park k on) o = refl
      stays (Resume k worker) o = refl
      stays (Settle k) o = refl

  module _ (d : Parts) where
    pub stays_settled : (j : ℕ) → IsSettledAt s j → IsSettledAt t j
    stays_settled j h = subst (λ (l : List (PieceState O)). IsSettledAt l j) d.after (dite (ℕ_discrete j (named step))
        (λ (e : j ≡ named step). absurd (let a : is_some (outcome_in (slice_get s j)) ≡ false = ap (λ i. is_some (outcome_in (slice_get s i))) e ∙ ap (λ p. is_some (outcome_in p)) d.here ∙ ap is_some (unsettled d.p d.q d.makes) in
        let b : true ≡ false = sym h ∙ a in let c : ⊥ = cc in c))
        (λ (n : j ≢ named step). ap (λ p. is_some (outcome_in p)) (get_set_other s (named step) j d.q n) ∙ h))

    pub same_length : length t ≡ length s
    same_length = ap length (sym d.after) ∙ length-set s (named step) d.q

    pub inside : named step < length s
    inside = slice_get_within s (named step) d.p d.here

    pub at_step : slice_get t (named step) ≡ Some d.q
    at_step = ap (λ l. slice_get l (named step)) (sym d.after) ∙ get_set_same s (named step) d.p d.q d.here

    pub elsewhere : (j : ℕ) → j ≢ named step → slice_get t j ≡ slice_get s j
    elsewhere j n = ap (λ l. slice_get l j) (sym d.after) ∙ get_set_other s (named step) j d.q n

module _ {T O : Type 0} (m : Meant T O) (s t : List (PieceState O)) (grows : (j : ℕ) → IsSettledAt s j → IsSettledAt t j) (k : ℕ) where
  abbrev task_stays : (taken : List (ℕ × O)) (mark : Bool) → IsSoundTask m s k taken mark → IsSoundTask m t k taken mark
  task_stays taken mark h = record { count = h.count; within = h.within; prefix = h.prefix; settled = λ i l. grows (get_or (reads m k) i 0) (h.settled i l); marked = h.marked }

  pub sound_stays : (p : PieceState O) → IsSound m s k p → IsSound m t k p
  sound_stays Fresh h = tt
  sound_stays (Held worker taken mark) h = task_stays taken mark h
  sound_stays (Parked taken mark on) h = record { task = task_stays taken mark h.task; has_next = h.has_next; is_next = h.is_next; below = h.below }
  sound_stays (Settled o) h = h

module _ {T O : Type 0} (m : Meant T O) (lawful : Lawful m) (next : ℕ → List (ℕ × O) → NextOf O) (law : IsNext m next) (s t : List (PieceState O)) (step : CoreStep) (sound : Sound m s) (d : Parts next s t step) where
  pub moved : Moved m lawful next law s sound (named step) (subst (λ (n : ℕ). named step < n) sound.whole (inside next s t step d)) (idle s step) d.p d.q
  moved = moves m lawful next law s sound (named step) (subst (λ (n : ℕ). named step < n) sound.whole (inside next s t step d)) step d.p d.q refl (sound.each (named step) d.p d.here) d.makes

  pub keeps : Sound m t
  keeps = record {
    whole = same_length next s t step d ∙ sound.whole;
    each = λ k p h. dite (ℕ_discrete k (named step))
        (λ (e : k ≡ named step). let q : d.q ≡ p = some_injective d.q p (sym (at_step next s t step d) ∙ (ap (slice_get t) (sym e) ∙ h)) in
        subst (λ (i : ℕ). IsSound m t i p) (sym e) (subst (IsSound m t (named step)) q (sound_stays m s t (stays_settled next s t step d) (named step) d.q moved.is_sound)))
        (λ (n : k ≢ named step). sound_stays m s t (stays_settled next s t step d) k p (sound.each k p (sym (elsewhere next s t step d k n) ∙ h)));
  }
