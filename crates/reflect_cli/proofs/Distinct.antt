-- The search for a name that stands twice answers whether the names are distinct.
use Rattle.std.proofs.Common.{◌≡◌, ℕ, Bool, true, false, not, ◌&&◌, ◌||◌, nat_eq, List, [], ◌∷◌, ◌++◌, refl, ap, ◌∙◌, arith}
use Rattle.std.proofs.lemmas.Bool.Decides.{nat_tests}
use Rattle.std.proofs.lemmas.List.Folds.{list_any-append}
use Rattle.std.specs.List.{list_any, list_all}
use Rattle.reflect_cli.specs.Form.{are_distinct}
use Rattle.reflect_cli.specs.Search.{are_new}

abbrev among : List ℕ → ℕ → Bool
among names name = list_any (λ other. nat_eq name other) names

-- none of the names is among those before
abbrev none_of : List ℕ → List ℕ → Bool
none_of before names = list_all (λ name. not (among before name)) names

flipped : (m n : ℕ) → nat_eq m n ≡ nat_eq n m
flipped m n = grind (arith, nat_tests)

-- (not (a or b)) and (c and not d), where b is the first of what d asks
joined : (a b c d : Bool) → (not (a || (b || false)) && (c && not d)) ≡ ((not a && c) && not (b || d))
joined true b c d = refl
joined false true true d = refl
joined false true false d = refl
joined false false c d = refl

one_more : (before names : List ℕ) (name : ℕ) → none_of (before ++ name ∷ []) names ≡ (none_of before names && not (among names name))
one_more before [] name = refl
one_more before (n ∷ names) name =
    ap (λ b. not b && none_of (before ++ name ∷ []) names) (list_any-append (λ other. nat_eq n other) before (name ∷ []))
    ∙ ap (λ b. not (among before n || (b || false)) && none_of (before ++ name ∷ []) names) (flipped n name)
    ∙ ap (λ b. not (among before n || (nat_eq name n || false)) && b) (one_more before names name)
    ∙ joined (among before n) (nat_eq name n) (none_of before names) (among names name)

regrouped : (a b c d : Bool) → (not a && ((b && not c) && d)) ≡ ((not a && b) && (not c && d))
regrouped true b c d = refl
regrouped false true c d = refl
regrouped false false c d = refl

searched : (before names : List ℕ) → are_new before names ≡ (none_of before names && are_distinct names)
searched before [] = refl
searched before (name ∷ names) =
    ap (λ b. not (among before name) && b) (searched (before ++ name ∷ []) names
    ∙ ap (λ b. b && are_distinct names) (one_more before names name))
    ∙ regrouped (among before name) (none_of before names) (among names name) (are_distinct names)

none_before : (names : List ℕ) → none_of [] names ≡ true
none_before [] = refl
none_before (name ∷ names) = none_before names

pub new_are_distinct : (names : List ℕ) → are_new [] names ≡ are_distinct names
new_are_distinct names = searched [] names ∙ ap (λ b. b && are_distinct names) (none_before names)
