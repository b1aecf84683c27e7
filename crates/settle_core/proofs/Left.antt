-- A step looks at other pieces alone: what it makes is the same where the piece that it names was taken out.
use Rattle.std.proofs.Common.{◌≡◌, ◌≢◌, ℕ, List, Bool, true, false, slice_get, slice_set, Some, None, refl, sym, ap, ◌∙◌, subst}
use Rattle.std.specs.Option.{option_map}
use Rattle.std.proofs.lemmas.List.{set-set}
use mathlib.Core.Logic.{dite}
use native.Mathlib.Decide.{ℕ_discrete}
use Rattle.settle_core.specs.State.{PieceState, Fresh, Held, Parked, CoreStep, Claim, Advance, Park, Resume, Settle, outcome_in, settled_at}
use Rattle.settle_core.specs.Next.{NextOf, Read, Ends}
use Rattle.settle_core.specs.Steps.{named, option_bind, after_advance, made, stepped}
use Rattle.settle_core.proofs.Lists.{get_set_same, get_set_other}

module _ {O : Type 0} (s : List (PieceState O)) (k : ℕ) (p : PieceState O) (here : slice_get s k ≡ Some p) (unsettled : outcome_in (Some p) ≡ None) where
  pub settled_left : (j : ℕ) → settled_at (slice_set s k Fresh) j ≡ settled_at s j
  settled_left j = dite (ℕ_discrete j k)
      (λ (e : j ≡ k). subst (λ (i : ℕ). settled_at (slice_set s k Fresh) i ≡ settled_at s i) (sym e) (ap outcome_in (get_set_same s k p Fresh here) ∙ sym (ap outcome_in here ∙ unsettled)))
      (λ (n : j ≢ k). ap outcome_in (get_set_other s k j Fresh n))

  advance_left : (worker : ℕ) (taken : List (ℕ × O)) (mark : Bool) (n : NextOf O) → after_advance (slice_set s k Fresh) worker taken mark n ≡ after_advance s worker taken mark n
  advance_left worker taken mark (Read j) = ap (option_map _) (settled_left j.0)
  advance_left worker taken true (Ends o) = refl
  advance_left worker taken false (Ends o) = refl

module _ {O : Type 0} (next : ℕ → List (ℕ × O) → NextOf O) (s : List (PieceState O)) (k : ℕ) where
  pub made_left : (step : CoreStep) (p : PieceState O) → slice_get s k ≡ Some p → made next (slice_set s k Fresh) step p ≡ made next s step p
  made_left (Advance j) (Held worker taken mark) h = advance_left s k (Held worker taken mark) h refl worker taken mark (next j.0 taken)
  made_left (Resume j w) (Parked taken mark on) h = ap (option_map _) (settled_left s k (Parked taken mark on) h refl on.0)
  made_left (Claim j w) Fresh h = refl
  made_left (Park j on) (Held worker taken mark) h = refl
  made_left (Settle j) (Held worker taken mark) h = refl
  made_left step p h = refl

  -- a piece is taken out, and what the step makes of it is put back
  module _ (step : CoreStep) (p : PieceState O) (left : List (PieceState O)) (is : k ≡ named step) (here : slice_get s k ≡ Some p) (out : left ≡ slice_set s k Fresh) where
    stepped_is : stepped next s step ≡ option_map (slice_set s k) (made next left step p)
    stepped_is = (λ i. option_bind (slice_get s (sym is i)) (λ q. option_map (slice_set s (sym is i)) (made next s step q)))
        ∙ ap (λ o. option_bind o (λ q. option_map (slice_set s k) (made next s step q))) here
        ∙ ap (option_map (slice_set s k)) (sym (ap (λ l. made next l step p) out ∙ made_left step p here))

    pub step_makes : (q : PieceState O) (j : ℕ) (t : List (PieceState O)) → made next left step p ≡ Some q → j ≡ named step → t ≡ slice_set left j q → stepped next s step ≡ Some t
    step_makes q j t e n put = stepped_is ∙ ap (option_map (slice_set s k)) e ∙ ap Some (sym (put ∙ ap (λ i. slice_set left i q) (n ∙ sym is) ∙ ap (λ l. slice_set l k q) out ∙ set-set s k Fresh q))

    pub step_fails : made next left step p ≡ None → stepped next s step ≡ None
    step_fails e = stepped_is ∙ ap (option_map (slice_set s k)) e
