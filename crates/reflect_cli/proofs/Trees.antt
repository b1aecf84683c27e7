-- The value of a chain is that of its tree.
use Rattle.std.proofs.Common.{◌≡◌, List, [], ◌∷◌, fold, Ok, Err, refl, ap, ◌∙◌}
use Rattle.cxx_base.specs.declared.operator.IntKind.TheVariants.{Int}
use Rattle.cxx_base.specs.declared.place.Place.{Place}
use Rattle.int_kinds.specs.Operate.{applied}
use Rattle.reflect_cli.specs.declared.form_tree.Chain.{Chain}
use Rattle.reflect_cli.specs.declared.form_tree.Link.{Link}
use Rattle.reflect_cli.specs.declared.form_tree.Literal.{Literal}
use Rattle.reflect_cli.specs.Values.{Evaluated, Tree, Leaf, Operation, product_tree, product_value, sum_value, sum_place, first_token, value, at_place, operator_of, ◌>>=◌}
use Rattle.reflect_cli.specs.Chains.{links_value, literal_value}

ends : (found : Evaluated) → found ≡ (found >>= Ok)
ends (Ok x) = refl
ends (Err refused) = refl

-- one operation, and then the others
steps : {A : Type 0} (place : Place) (v : A → Evaluated) (link : Link A) (links : List (Link A)) (found : Evaluated)
    → ((found >>= λ a. v link.operand >>= λ b. at_place place (applied (operator_of link.operator) Int a b)) >>= λ x. links_value place v x links)
    ≡ (found >>= λ x. links_value place v x (link ∷ links))
steps place v link links (Ok x) = refl
steps place v link links (Err refused) = refl

folded : {A : Type 0} (tree : A → Tree) (left : Tree) (links : List (Link A))
    → value (fold (λ left link. Operation link.operator left (tree link.operand)) left links)
    ≡ (value left >>= λ x. links_value (first_token left) (λ operand. value (tree operand)) x links)
folded tree left [] = ends (value left)
folded tree left (link ∷ links) =
    folded tree (Operation link.operator left (tree link.operand)) links
    ∙ steps (first_token left) (λ operand. value (tree operand)) link links (value left)

first_of : {A : Type 0} (tree : A → Tree) (left : Tree) (links : List (Link A))
    → first_token (fold (λ left link. Operation link.operator left (tree link.operand)) left links) ≡ first_token left
first_of tree left [] = refl
first_of tree left (link ∷ links) = first_of tree (Operation link.operator left (tree link.operand)) links

pub product_is : (product : Chain Literal) → product_value product ≡ links_value product.first.place literal_value product.first.value product.rest
unfolding product_value
product_is product = folded Leaf (Leaf product.first) product.rest

pub place_is : (sum : Chain (Chain Literal)) → sum_place sum ≡ sum.first.first.place
unfolding sum_place
place_is sum = first_of product_tree (product_tree sum.first) sum.rest ∙ first_of Leaf (Leaf sum.first.first) sum.first.rest

pub sum_is : (sum : Chain (Chain Literal))
    → sum_value sum ≡ (product_value sum.first >>= λ x. links_value sum.first.first.place product_value x sum.rest)
unfolding sum_value product_value
sum_is sum =
    folded product_tree (product_tree sum.first) sum.rest
    ∙ ap (λ place. value (product_tree sum.first) >>= λ x. links_value place (λ operand. value (product_tree operand)) x sum.rest)
    (first_of Leaf (Leaf sum.first.first) sum.first.rest)
