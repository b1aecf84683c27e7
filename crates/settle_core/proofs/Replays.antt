-- Lists of steps.
use Rattle.std.proofs.Common.{◌≡◌, ℕ, zero, suc, ◌+◌, ◌*◌, ◌<◌, ◌≤◌, List, [], ◌∷◌, length, drop, get_or, replicate, slice_get, IfSome, OnSome, Option, Some, None, sym, ap, ◌∙◌, subst, arith}
use Rattle.std.specs.Option.{option_map, unwrap_or}
use Rattle.std.proofs.lemmas.List.{drop_more, drop_all, length-replicate}
use Rattle.settle_core.specs.Meant.{Meant, Lawful}
use Rattle.settle_core.specs.Next.{NextOf, IsNext}
use Rattle.settle_core.specs.State.{PieceState, Fresh, Parked, CoreStep, all_fresh}
use Rattle.settle_core.specs.Steps.{option_bind, stepped, replayed}
use Rattle.settle_core.specs.Sound.{IsSound, Sound, SettlesFold, EarliestGoesOn}
use Rattle.settle_core.specs.Bound.{idle, idle_parks, IsWithinBound}
use Rattle.settle_core.proofs.Options.{some_injective, none_is_no_some, from_bind}
use Rattle.settle_core.proofs.Moves.{settled_outcome}
use Rattle.settle_core.proofs.Keeping.{parts, same_length, keeps}
use Rattle.settle_core.proofs.Counting.{spent_by_all, within, spends}

pub goes_on : {T O : Type 0} (m : Meant T O) (s : List (PieceState O)) → Sound m s → EarliestGoesOn s
goes_on m s sound k taken mark on before h = before on.0 (sound.each k (Parked taken mark on) h).below

module _ {T O : Type 0} (m : Meant T O) where
  fresh_each : (n k : ℕ) (p : PieceState O) → slice_get (replicate n Fresh) k ≡ Some p → Fresh ≡ p
  fresh_each zero k p e = absurd (none_is_no_some p e)
  fresh_each (suc n) zero p e = some_injective Fresh p e
  fresh_each (suc n) (suc k) p e = fresh_each n k p e

  pub fresh_sound : Sound m (all_fresh m.pieces)
  fresh_sound = record { whole = length-replicate m.pieces Fresh; each = λ k p e. subst (IsSound m (all_fresh m.pieces) k) (fresh_each m.pieces k p e) tt }

module _ {T O : Type 0} (m : Meant T O) (lawful : Lawful m) (next : ℕ → List (ℕ × O) → NextOf O) (law : IsNext m next) where
  pub step_sound : (s t : List (PieceState O)) (step : CoreStep) → stepped next s step ≡ Some t → Sound m s → Sound m t
  step_sound s t step e sound = keeps m lawful next law s t step sound (parts next s t step e)

  pub all_sound : (steps : List CoreStep) (s t : List (PieceState O)) → Sound m s → replayed next s steps ≡ Some t → Sound m t
  all_sound [] s t sound e = subst (Sound m) (some_injective s t e) sound
  all_sound (step ∷ steps) s t sound e = let u = from_bind (λ u. replayed next u steps) (stepped next s step) t e in
      all_sound steps u.0 t (step_sound s u.0 step u.1 sound) u.2

  spend_all : (steps : List CoreStep) (s t : List (PieceState O)) → Sound m s → replayed next s steps ≡ Some t → length steps + spent_by_all m s ≤ spent_by_all m t + 2 * idle_parks next s steps
  spend_all [] s t sound e = let a = ap (spent_by_all m) (some_injective s t e) in omega arith
  spend_all (step ∷ steps) s t sound e = let u = from_bind (λ u. replayed next u steps) (stepped next s step) t e in
      let a = spends m lawful next law s u.0 step sound (parts next s u.0 step u.1) in
      let b = spend_all steps u.0 t (step_sound s u.0 step u.1 sound) u.2 in
      let c : idle_parks next s (step ∷ steps) ≡ idle s step + idle_parks next u.0 steps = ap (λ o. idle s step + unwrap_or (option_map (λ v. idle_parks next v steps) o) 0) u.1 in
      omega arith

  pub all_within : (steps : List CoreStep) (t : List (PieceState O)) → replayed next (all_fresh m.pieces) steps ≡ Some t → IsWithinBound m next steps
  all_within steps t e = let a = spend_all steps (all_fresh m.pieces) t (fresh_sound m) e in
      let b = within m t (all_sound steps (all_fresh m.pieces) t (fresh_sound m) e) in omega arith

  -- what the clauses of a replay say of its answer
  pub replay_sound : (steps : List CoreStep) (o : Option (List (PieceState O))) → o ≡ replayed next (all_fresh m.pieces) steps → IfSome o (Sound m)
  replay_sound steps None e = tt
  replay_sound steps (Some t) e = all_sound steps (all_fresh m.pieces) t (fresh_sound m) (sym e)

  pub replay_fold : (steps : List CoreStep) (o : Option (List (PieceState O))) → o ≡ replayed next (all_fresh m.pieces) steps → IfSome o (SettlesFold m)
  replay_fold steps None e = tt
  replay_fold steps (Some t) e = settled_outcome m t (replay_sound steps (Some t) e)

  pub replay_goes_on : (steps : List CoreStep) (o : Option (List (PieceState O))) → o ≡ replayed next (all_fresh m.pieces) steps → IfSome o EarliestGoesOn
  replay_goes_on steps None e = tt
  replay_goes_on steps (Some t) e = goes_on m t (replay_sound steps (Some t) e)

  pub replay_within : (steps : List CoreStep) (o : Option (List (PieceState O))) → o ≡ replayed next (all_fresh m.pieces) steps → OnSome o (IsWithinBound m next steps)
  replay_within steps None e = tt
  replay_within steps (Some t) e = all_within steps t (sym e)

module _ {O : Type 0} (next : ℕ → List (ℕ × O) → NextOf O) where
  pub step_length : (s t : List (PieceState O)) (step : CoreStep) → stepped next s step ≡ Some t → length t ≡ length s
  step_length s t step e = same_length next s t step (parts next s t step e)

  -- one step of what is left of a list
  pub one_step : (s t : List (PieceState O)) (steps : List CoreStep) (i : ℕ) (d : CoreStep) → i < length steps → stepped next s (get_or steps i d) ≡ Some t → replayed next s (drop i steps) ≡ replayed next t (drop (i + 1) steps)
  one_step s t steps i d l e = ap (replayed next s) (drop_more steps i d l) ∙ ap (λ o. option_bind o (λ u. replayed next u (drop (i + 1) steps))) e

  pub no_step : (s : List (PieceState O)) (steps : List CoreStep) (i : ℕ) (d : CoreStep) → i < length steps → stepped next s (get_or steps i d) ≡ None → replayed next s (drop i steps) ≡ None
  no_step s steps i d l e = ap (replayed next s) (drop_more steps i d l) ∙ ap (λ o. option_bind o (λ u. replayed next u (drop (i + 1) steps))) e

  pub no_more : (s : List (PieceState O)) (steps : List CoreStep) (i : ℕ) → length steps ≤ i → replayed next s (drop i steps) ≡ Some s
  no_more s steps i l = ap (replayed next s) (drop_all i steps l)
