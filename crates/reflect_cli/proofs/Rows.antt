-- What boxes and lists of parsed trees hold, of which the definitions see rows.
use Rattle.std.proofs.Common.{◌≡◌, List, [], refl}
use denote.Hole.Carrier
use Rattle.cxx_base.specs.declared.place.Span.{Span}
use Rattle.cxx_tree.specs.declared.expr.Expr as expr-of
use Rattle.cxx_tree.specs.declared.expr.Expr.{Expr, items_hidden-the_row-Operation-9}
use Rattle.cxx_tree.specs.declared.expr.Operation.{Operation}
use Rattle.cxx_tree.specs.declared.expr.ArgTree.TheBlock.{hidden-the_row-Expr-2, shape-the_row-Expr-2}
use Rattle.reflect_cli.specs.Accepted.{all_of, link, literal, multiplicative, additive, chain_with, product, sum_of_products}

pub product_of_chain : (x : Expr) (s : Span) (first : Expr) (operations : List Operation) → x ≡ expr-of.Chain s first operations
    → chain_with (literal first) (all_of (link multiplicative literal) [] operations) ≡ product x
unfolding product hidden-the_row-Expr-2 shape-the_row-Expr-2 denote.Hole.Carrier.hidden
product_of_chain x s first operations e = rw (e, items_hidden-the_row-Operation-9 operations) refl

pub sum_of_chain : (x : Expr) (s : Span) (first : Expr) (operations : List Operation) → x ≡ expr-of.Chain s first operations
    → chain_with (product first) (all_of (link additive product) [] operations) ≡ sum_of_products x
unfolding hidden-the_row-Expr-2 shape-the_row-Expr-2 denote.Hole.Carrier.hidden
sum_of_chain x s first operations e = rw (e, items_hidden-the_row-Operation-9 operations) refl
