-- A turn of the loop over a chain.
use Rattle.std.proofs.Common.{◌≡◌, ℕ, suc, ◌+◌, ◌<◌, ℤ, List, ◌∷◌, length, get_or, drop, Ok, Err, sym, ap, ◌∙◌, add-one, drop-cons}
use Rattle.cxx_base.specs.declared.place.Place.{Place}
use Rattle.reflect_cli.specs.declared.const_eval.Refused.{Refused}
use Rattle.reflect_cli.specs.declared.form_tree.Link.{Link}
use Rattle.reflect_cli.specs.Values.{Evaluated, ◌>>=◌}
use Rattle.reflect_cli.specs.Chains.{link_value, links_value}

module _ {A : Type 0} (place : Place) (value : A → Evaluated) (left : ℤ) (links : List (Link A)) (i : ℕ) (link d : Link A)
    (h : i < length links) (e : link ≡ get_or links i d) where
  rest : drop i links ≡ link ∷ drop (i + 1) links
  rest = drop-cons links i d h ∙ ap (λ x. x ∷ drop (suc i) links) (sym e) ∙ ap (λ k. link ∷ drop k links) (sym (add-one i))

  whole : links_value place value left (drop i links) ≡ (link_value place value left link >>= λ result. links_value place value result (drop (i + 1) links))
  whole = ap (links_value place value left) rest

  -- an operation that has a value, which the loop keeps as it is
  pub goes : (result kept : ℤ) → Ok result ≡ link_value place value left link → kept ≡ result
      → links_value place value kept (drop (i + 1) links) ≡ links_value place value left (drop i links)
  goes result kept a same = ap (λ v. links_value place value v (drop (i + 1) links)) same
      ∙ sym (whole ∙ ap (λ found. found >>= λ result. links_value place value result (drop (i + 1) links)) (sym a))

  -- one that is refused
  pub stops : (refused : Refused) → Err refused ≡ link_value place value left link → Err refused ≡ links_value place value left (drop i links)
  stops refused a = sym (whole ∙ ap (λ found. found >>= λ result. links_value place value result (drop (i + 1) links)) (sym a))
