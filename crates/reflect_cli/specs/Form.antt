-- The accepted form: what a list of declarations meets beside the grammar.
use Rattle.std.specs.Prelude.{ℕ, ◌+◌, Bool, true, not, ◌&&◌, ◌==◌, nat_le, List, [], ◌∷◌, length, map, sum_by}
use Rattle.std.specs.List.{list_all, list_any}
use Rattle.cxx_base.specs.declared.library.TheConstants.{STD}
use Rattle.cxx_base.specs.declared.limits.TheConstants.{MAX_PIECES}
use Rattle.reflect_cli.specs.declared.form_tree.Chain.{Chain}
use Rattle.reflect_cli.specs.declared.form_tree.Literal.{Literal}
use Rattle.reflect_cli.specs.declared.form_tree.Declaration.{Declaration}

-- how many literals a tree has
abbrev pub product_size : Chain Literal → ℕ
product_size product = 1 + length product.rest

abbrev pub sum_size : Chain (Chain Literal) → ℕ
sum_size sum = product_size sum.first + sum_by (λ link. product_size link.operand) sum.rest

-- the name is not `std`, and there are at most 256 literals
abbrev pub fits : Declaration → Bool
fits declaration = not (declaration.name.0 == STD.0) && nat_le (sum_size declaration.initializer) 256

-- no name stands twice
abbrev pub are_distinct : List ℕ → Bool
are_distinct [] = true
are_distinct (name ∷ names) = not (list_any (λ other. name == other) names) && are_distinct names

abbrev pub names_in : List Declaration → List ℕ
names_in declarations = map (λ declaration. declaration.name.0) declarations

-- at most as many declarations as a source may have pieces, which fit, of different names
unfoldable pub is_in_form : List Declaration → Bool
is_in_form declarations = nat_le (length declarations) MAX_PIECES && (list_all fits declarations && are_distinct (names_in declarations))
