-- The value of a chain as the loops compute it, from the left. Nobody has to believe this: it equals the value of the chain's
-- tree.
use Rattle.std.specs.Prelude.{ℤ, List, [], ◌∷◌, Ok}
use Rattle.cxx_base.specs.declared.operator.IntKind.TheVariants.{Int}
use Rattle.cxx_base.specs.declared.place.Place.{Place}
use Rattle.int_kinds.specs.Operate.{applied}
use Rattle.reflect_cli.specs.Values.{Evaluated, at_place, operator_of, ◌>>=◌}
use Rattle.reflect_cli.specs.declared.form_tree.Link.{Link}
use Rattle.reflect_cli.specs.declared.form_tree.Literal.{Literal}

-- the left operand is there
abbrev pub link_value : {A : Type 0} → Place → (A → Evaluated) → ℤ → Link A → Evaluated
link_value place value left link =
    value link.operand >>= λ right. at_place place (applied (operator_of link.operator) Int left right)

abbrev pub links_value : {A : Type 0} → Place → (A → Evaluated) → ℤ → List (Link A) → Evaluated
links_value place value left [] = Ok left
links_value place value left (link ∷ links) = link_value place value left link >>= λ result. links_value place value result links

abbrev pub literal_value : Literal → Evaluated
literal_value literal = Ok literal.value
