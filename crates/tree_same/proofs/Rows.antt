-- What boxes hold is the same where their rows are, and lists are the same where their rows are.
use Rattle.std.proofs.Common.{◌↔◌, List, [], ◌∷◌, Option, None, Some}
use denote.Hole.Carrier
use Rattle.tree_same.specs.Lists.{AreSame, AreSameIfAny}
use Rattle.tree_same.specs.Same.{Same, SameBasic, SameBraced, SameArgs, SameType, SameNewInit, SameExprs, SameBasics, SameBraceds, SameArgss, SameTypes, SameNewInits, SameArg, SameDesignator, SameSuffix, SameOperation, SameArgList, SameDesignators, SameSuffixes, SameOperations, SameBound, SameInit}
use Rattle.cxx_tree.specs.declared.expr.Expr.{Expr}
use Rattle.cxx_tree.specs.declared.expr.BasicTree.{BasicTree}
use Rattle.cxx_tree.specs.declared.expr.BracedTree.{BracedTree}
use Rattle.cxx_tree.specs.declared.expr.ArgTrees.{ArgTrees}
use Rattle.cxx_tree.specs.declared.expr.TypeTree.{TypeTree}
use Rattle.cxx_tree.specs.declared.expr.NewInit.{NewInit}
use Rattle.cxx_tree.specs.declared.expr.ArgTree.{ArgTree}
use Rattle.cxx_tree.specs.declared.expr.Designator.{Designator}
use Rattle.cxx_tree.specs.declared.expr.Suffix.{Suffix}
use Rattle.cxx_tree.specs.declared.expr.Operation.{Operation}
use Rattle.cxx_tree.specs.declared.expr.ArgTree.TheBlock.{hidden-the_row-Expr-2, shape-the_row-Expr-2, hidden-the_row-BasicTree-3, shape-the_row-BasicTree-3, hidden-the_row-BracedTree-4, shape-the_row-BracedTree-4, hidden-the_row-ArgTrees-5, shape-the_row-ArgTrees-5, hidden-the_row-TypeTree-6, shape-the_row-TypeTree-6, hidden-the_row-NewInit-8, shape-the_row-NewInit-8, hidden-the_row-ArgTree-0, shape-the_row-ArgTree-0, hidden-the_row-Designator-1, shape-the_row-Designator-1, hidden-the_row-Suffix-7, shape-the_row-Suffix-7, hidden-the_row-Operation-9, shape-the_row-Operation-9, back-Expr-New-2, back-Expr-New-3}

pub boxed_expr : (x y : Expr) → Same x y ↔ SameExprs (hidden-the_row-Expr-2 x) (hidden-the_row-Expr-2 y)
unfolding hidden-the_row-Expr-2 shape-the_row-Expr-2 denote.Hole.Carrier.hidden
boxed_expr x y = (λ same. (same, tt), λ same. same.0)

pub boxed_basic : (x y : BasicTree) → SameBasic x y ↔ SameBasics (hidden-the_row-BasicTree-3 x) (hidden-the_row-BasicTree-3 y)
unfolding hidden-the_row-BasicTree-3 shape-the_row-BasicTree-3 denote.Hole.Carrier.hidden
boxed_basic x y = (λ same. (same, tt), λ same. same.0)

pub boxed_braced : (x y : BracedTree) → SameBraced x y ↔ SameBraceds (hidden-the_row-BracedTree-4 x) (hidden-the_row-BracedTree-4 y)
unfolding hidden-the_row-BracedTree-4 shape-the_row-BracedTree-4 denote.Hole.Carrier.hidden
boxed_braced x y = (λ same. (same, tt), λ same. same.0)

pub boxed_args : (x y : ArgTrees) → SameArgs x y ↔ SameArgss (hidden-the_row-ArgTrees-5 x) (hidden-the_row-ArgTrees-5 y)
unfolding hidden-the_row-ArgTrees-5 shape-the_row-ArgTrees-5 denote.Hole.Carrier.hidden
boxed_args x y = (λ same. (same, tt), λ same. same.0)

pub boxed_type : (x y : TypeTree) → SameType x y ↔ SameTypes (hidden-the_row-TypeTree-6 x) (hidden-the_row-TypeTree-6 y)
unfolding hidden-the_row-TypeTree-6 shape-the_row-TypeTree-6 denote.Hole.Carrier.hidden
boxed_type x y = (λ same. (same, tt), λ same. same.0)

pub boxed_init : (x y : NewInit) → SameNewInit x y ↔ SameNewInits (hidden-the_row-NewInit-8 x) (hidden-the_row-NewInit-8 y)
unfolding hidden-the_row-NewInit-8 shape-the_row-NewInit-8 denote.Hole.Carrier.hidden
boxed_init x y = (λ same. (same, tt), λ same. same.0)

pub row_of_args : (xs ys : List ArgTree) → AreSame SameArg xs ys ↔ SameArgList (hidden-the_row-ArgTree-0 xs) (hidden-the_row-ArgTree-0 ys)
unfolding hidden-the_row-ArgTree-0 shape-the_row-ArgTree-0 denote.Hole.Carrier.hidden
row_of_args [] [] = (λ same. same, λ same. same)
row_of_args [] (y ∷ ys) = (λ same. same, λ same. same)
row_of_args (x ∷ xs) [] = (λ same. same, λ same. same)
row_of_args (x ∷ xs) (y ∷ ys) =
    (λ same. (same.0, (row_of_args xs ys).0 same.1), λ same. (same.0, (row_of_args xs ys).1 same.1))

pub row_of_designators : (xs ys : List Designator) → AreSame SameDesignator xs ys ↔ SameDesignators (hidden-the_row-Designator-1 xs) (hidden-the_row-Designator-1 ys)
unfolding hidden-the_row-Designator-1 shape-the_row-Designator-1 denote.Hole.Carrier.hidden
row_of_designators [] [] = (λ same. same, λ same. same)
row_of_designators [] (y ∷ ys) = (λ same. same, λ same. same)
row_of_designators (x ∷ xs) [] = (λ same. same, λ same. same)
row_of_designators (x ∷ xs) (y ∷ ys) =
    (λ same. (same.0, (row_of_designators xs ys).0 same.1), λ same. (same.0, (row_of_designators xs ys).1 same.1))

pub row_of_suffixes : (xs ys : List Suffix) → AreSame SameSuffix xs ys ↔ SameSuffixes (hidden-the_row-Suffix-7 xs) (hidden-the_row-Suffix-7 ys)
unfolding hidden-the_row-Suffix-7 shape-the_row-Suffix-7 denote.Hole.Carrier.hidden
row_of_suffixes [] [] = (λ same. same, λ same. same)
row_of_suffixes [] (y ∷ ys) = (λ same. same, λ same. same)
row_of_suffixes (x ∷ xs) [] = (λ same. same, λ same. same)
row_of_suffixes (x ∷ xs) (y ∷ ys) =
    (λ same. (same.0, (row_of_suffixes xs ys).0 same.1), λ same. (same.0, (row_of_suffixes xs ys).1 same.1))

pub row_of_operations : (xs ys : List Operation) → AreSame SameOperation xs ys ↔ SameOperations (hidden-the_row-Operation-9 xs) (hidden-the_row-Operation-9 ys)
unfolding hidden-the_row-Operation-9 shape-the_row-Operation-9 denote.Hole.Carrier.hidden
row_of_operations [] [] = (λ same. same, λ same. same)
row_of_operations [] (y ∷ ys) = (λ same. same, λ same. same)
row_of_operations (x ∷ xs) [] = (λ same. same, λ same. same)
row_of_operations (x ∷ xs) (y ∷ ys) =
    (λ same. (same.0, (row_of_operations xs ys).0 same.1), λ same. (same.0, (row_of_operations xs ys).1 same.1))

pub optional_bound : (x y : Option Expr) → AreSameIfAny Same x y ↔ SameBound (back-Expr-New-2 x) (back-Expr-New-2 y)
optional_bound None None = (λ same. same, λ same. same)
optional_bound None (Some y) = (λ same. same, λ same. same)
optional_bound (Some x) None = (λ same. same, λ same. same)
optional_bound (Some x) (Some y) = boxed_expr x y

pub optional_init : (x y : Option NewInit) → AreSameIfAny SameNewInit x y ↔ SameInit (back-Expr-New-3 x) (back-Expr-New-3 y)
optional_init None None = (λ same. same, λ same. same)
optional_init None (Some y) = (λ same. same, λ same. same)
optional_init (Some x) None = (λ same. same, λ same. same)
optional_init (Some x) (Some y) = boxed_init x y
