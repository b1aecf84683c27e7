-- A turn of the loop that looks for a name among those before it.
use Rattle.std.proofs.Common.{◌≡◌, ℕ, suc, ◌+◌, ◌<◌, Bool, true, false, not, ◌&&◌, cond, nat_eq, List, [], ◌∷◌, ◌++◌, length, get_or, drop, refl, sym, ap, ◌∙◌, add-one, drop-cons, true≢false}
use Rattle.std.specs.List.{list_any}
use Rattle.reflect_cli.specs.declared.form_tree.Declaration.{Declaration}
use Rattle.reflect_cli.specs.Form.{names_in}
use Rattle.reflect_cli.specs.Search.{are_new}

module _ (before : List ℕ) (ds : List Declaration) (i : ℕ) (d : Declaration) (h : i < length ds) (e : d ≡ get_or ds i d) where
  rest : drop i ds ≡ d ∷ drop (i + 1) ds
  rest = drop-cons ds i d h ∙ ap (λ x. x ∷ drop (suc i) ds) (sym e) ∙ ap (λ k. d ∷ drop k ds) (sym (add-one i))

  step : are_new before (names_in (drop i ds))
      ≡ (not (list_any (λ other. nat_eq d.name.0 other) before) && are_new (before ++ d.name.0 ∷ []) (names_in (drop (i + 1) ds)))
  step = ap (λ xs. are_new before (names_in xs)) rest

  pub new_turn : (after : List ℕ) (added : Bool) → added ≡ not (list_any (nat_eq d.name.0) before)
      → after ≡ cond (list_any (nat_eq d.name.0) before) before (before ++ d.name.0 ∷ []) → added ≡ true
      → are_new after (names_in (drop (i + 1) ds)) ≡ are_new before (names_in (drop i ds))
  new_turn after added a k t = by (list_any (nat_eq d.name.0) before) refl
    where
      by : (b : Bool) → list_any (nat_eq d.name.0) before ≡ b → are_new after (names_in (drop (i + 1) ds)) ≡ are_new before (names_in (drop i ds))
      by true q = absurd (true≢false (sym t ∙ a ∙ ap not q))
      by false q = ap (λ xs. are_new xs (names_in (drop (i + 1) ds))) (k ∙ ap (λ b. cond b before (before ++ d.name.0 ∷ [])) q)
          ∙ sym (step ∙ ap (λ b. not b && are_new (before ++ d.name.0 ∷ []) (names_in (drop (i + 1) ds))) q)

  pub old_turn : (added : Bool) → added ≡ not (list_any (nat_eq d.name.0) before) → added ≡ false
      → false ≡ are_new before (names_in (drop i ds))
  old_turn added a f = sym (step ∙ ap (λ b. b && are_new (before ++ d.name.0 ∷ []) (names_in (drop (i + 1) ds))) (sym a ∙ f))
