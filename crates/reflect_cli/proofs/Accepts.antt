-- One item more, behind those that were taken.
use Rattle.std.proofs.Common.{◌≡◌, Bool, true, false, if◌then◌else◌, List, [], ◌∷◌, ◌++◌, Option, None, Some, refl, ap, ◌∙◌, true≢false, sym}
use Rattle.std.specs.Option.{option_and_then}
use Rattle.cxx_tree.specs.declared.decl.Item.{Item}
use Rattle.reflect_cli.specs.Accepted.{all_of, declaration, declarations}
use Rattle.reflect_cli.specs.declared.form_tree.Declaration.{Declaration}

abbrev with_last : {B : Type 0} → Option B → List B → Option (List B)
with_last last found = option_and_then (λ y. Some (found ++ y ∷ [])) last

last_of : {A B : Type 0} (read : A → Option B) (found : List B) (xs : List A) (x : A)
    → all_of read found (xs ++ x ∷ []) ≡ option_and_then (with_last (read x)) (all_of read found xs)
last_of read found [] x = refl
last_of {B = B} read found (z ∷ zs) x = by (read z) (λ y. last_of read (found ++ y ∷ []) zs x)
  where
    by : (o : Option B) → ((y : B) → all_of read (found ++ y ∷ []) (zs ++ x ∷ []) ≡ option_and_then (with_last (read x)) (all_of read (found ++ y ∷ []) zs))
        → option_and_then (λ y. all_of read (found ++ y ∷ []) (zs ++ x ∷ [])) o ≡ option_and_then (with_last (read x)) (option_and_then (λ y. all_of read (found ++ y ∷ []) zs) o)
    by None go = refl
    by (Some y) go = go y

module _ (items : List Item) (x : Item) where
  behind : (so_far : Option (List Declaration)) → declarations items ≡ so_far → declarations (items ++ x ∷ []) ≡ option_and_then (with_last (declaration x)) so_far
  unfolding declarations
  behind so_far e = last_of declaration [] items x ∙ ap (option_and_then (with_last (declaration x))) e

  pub one_more : (is_accepted : Bool) (found : List Declaration) (y : Declaration) → is_accepted ≡ true → declarations items ≡ (if is_accepted then Some found else None) → Some y ≡ declaration x
      → declarations (items ++ x ∷ []) ≡ (if is_accepted then Some (found ++ y ∷ []) else None)
  one_more true found y accepted e is = behind (Some found) e ∙ ap (λ (o : Option Declaration). with_last o found) (sym is)
  one_more false found y accepted e is = absurd (true≢false (sym accepted))

  pub no_more : (is_accepted : Bool) (found : List Declaration) → is_accepted ≡ true → declarations items ≡ (if is_accepted then Some found else None) → None ≡ declaration x
      → declarations (items ++ x ∷ []) ≡ None
  no_more true found accepted e is = behind (Some found) e ∙ ap (λ (o : Option Declaration). with_last o found) (sym is)
  no_more false found accepted e is = absurd (true≢false (sym accepted))

  pub stays_none : (is_accepted : Bool) (found : List Declaration) → is_accepted ≡ false → declarations items ≡ (if is_accepted then Some found else None)
      → declarations (items ++ x ∷ []) ≡ (if is_accepted then Some found else None)
  stays_none false found accepted e = behind None e
  stays_none true found accepted e = absurd (true≢false accepted)
