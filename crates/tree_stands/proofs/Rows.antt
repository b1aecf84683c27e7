-- What boxes and lists hold stands where their rows do.
use Rattle.std.proofs.Common.{ℕ, List, [], ◌∷◌, Option, None, Some}
use denote.Hole.Carrier
use Rattle.cxx_tokens.specs.declared.token.Tokens.{Tokens}
use Rattle.tree_stands.specs.Stands.{InOrder, IfAny, Stands, StandsBasic, StandsBraced, StandsArgs, StandsType, StandsNewInit, StandsArg, StandsDesignator, StandsSuffix, StandsOperation, StandsExprs, StandsBasics, StandsBraceds, StandsArgss, StandsTypes, StandsNewInits, StandsArgList, StandsDesignators, StandsSuffixes, StandsOperations, StandsBound, StandsInit}
use Rattle.cxx_tree.specs.declared.expr.Expr.{Expr}
use Rattle.cxx_tree.specs.declared.expr.BasicTree.{BasicTree}
use Rattle.cxx_tree.specs.declared.expr.BracedTree.{BracedTree}
use Rattle.cxx_tree.specs.declared.expr.ArgTrees.{ArgTrees}
use Rattle.cxx_tree.specs.declared.expr.TypeTree.{TypeTree}
use Rattle.cxx_tree.specs.declared.expr.NewInit.{NewInit}
use Rattle.cxx_tree.specs.declared.expr.ArgTree.{ArgTree}
use Rattle.cxx_tree.specs.declared.expr.Designator.{Designator}
use Rattle.cxx_tree.specs.declared.expr.Suffix.{Suffix}
use Rattle.cxx_tree.specs.declared.expr.Operation.{Operation}
use Rattle.cxx_tree.specs.declared.expr.ArgTree.TheBlock.{hidden-the_row-Expr-2, shape-the_row-Expr-2, hidden-the_row-BasicTree-3, shape-the_row-BasicTree-3, hidden-the_row-BracedTree-4, shape-the_row-BracedTree-4, hidden-the_row-ArgTrees-5, shape-the_row-ArgTrees-5, hidden-the_row-TypeTree-6, shape-the_row-TypeTree-6, hidden-the_row-NewInit-8, shape-the_row-NewInit-8, hidden-the_row-ArgTree-0, shape-the_row-ArgTree-0, hidden-the_row-Designator-1, shape-the_row-Designator-1, hidden-the_row-Suffix-7, shape-the_row-Suffix-7, hidden-the_row-Operation-9, shape-the_row-Operation-9, back-Expr-New-2, back-Expr-New-3}
use Rattle.tree_stands.proofs.Holding.{In}

module _ (tokens : Tokens) where
  pub boxed_expr : (i j : ℕ) (x : Expr) → In (Stands tokens) i j x → StandsExprs tokens i j (hidden-the_row-Expr-2 x)
  unfolding hidden-the_row-Expr-2 shape-the_row-Expr-2 denote.Hole.Carrier.hidden
  boxed_expr i j x h = h

  pub boxed_basic : (i j : ℕ) (x : BasicTree) → In (StandsBasic tokens) i j x → StandsBasics tokens i j (hidden-the_row-BasicTree-3 x)
  unfolding hidden-the_row-BasicTree-3 shape-the_row-BasicTree-3 denote.Hole.Carrier.hidden
  boxed_basic i j x h = h

  pub boxed_braced : (i j : ℕ) (x : BracedTree) → In (StandsBraced tokens) i j x → StandsBraceds tokens i j (hidden-the_row-BracedTree-4 x)
  unfolding hidden-the_row-BracedTree-4 shape-the_row-BracedTree-4 denote.Hole.Carrier.hidden
  boxed_braced i j x h = h

  pub boxed_args : (i j : ℕ) (x : ArgTrees) → In (StandsArgs tokens) i j x → StandsArgss tokens i j (hidden-the_row-ArgTrees-5 x)
  unfolding hidden-the_row-ArgTrees-5 shape-the_row-ArgTrees-5 denote.Hole.Carrier.hidden
  boxed_args i j x h = h

  pub boxed_type : (i j : ℕ) (x : TypeTree) → In (StandsType tokens) i j x → StandsTypes tokens i j (hidden-the_row-TypeTree-6 x)
  unfolding hidden-the_row-TypeTree-6 shape-the_row-TypeTree-6 denote.Hole.Carrier.hidden
  boxed_type i j x h = h

  pub boxed_init : (i j : ℕ) (x : NewInit) → In (StandsNewInit tokens) i j x → StandsNewInits tokens i j (hidden-the_row-NewInit-8 x)
  unfolding hidden-the_row-NewInit-8 shape-the_row-NewInit-8 denote.Hole.Carrier.hidden
  boxed_init i j x h = h

  pub row_of_args : (i j : ℕ) (xs : List ArgTree) → InOrder (StandsArg tokens) i j xs → StandsArgList tokens i j (hidden-the_row-ArgTree-0 xs)
  unfolding hidden-the_row-ArgTree-0 shape-the_row-ArgTree-0 denote.Hole.Carrier.hidden
  row_of_args i j [] h = h
  row_of_args i j (x ∷ xs) h = (h.0, h.1, h.2, h.3, row_of_args h.1 j xs h.4)

  pub row_of_designators : (i j : ℕ) (xs : List Designator) → InOrder (StandsDesignator tokens) i j xs → StandsDesignators tokens i j (hidden-the_row-Designator-1 xs)
  unfolding hidden-the_row-Designator-1 shape-the_row-Designator-1 denote.Hole.Carrier.hidden
  row_of_designators i j [] h = h
  row_of_designators i j (x ∷ xs) h = (h.0, h.1, h.2, h.3, row_of_designators h.1 j xs h.4)

  pub row_of_suffixes : (i j : ℕ) (xs : List Suffix) → InOrder (StandsSuffix tokens) i j xs → StandsSuffixes tokens i j (hidden-the_row-Suffix-7 xs)
  unfolding hidden-the_row-Suffix-7 shape-the_row-Suffix-7 denote.Hole.Carrier.hidden
  row_of_suffixes i j [] h = h
  row_of_suffixes i j (x ∷ xs) h = (h.0, h.1, h.2, h.3, row_of_suffixes h.1 j xs h.4)

  pub row_of_operations : (i j : ℕ) (xs : List Operation) → InOrder (StandsOperation tokens) i j xs → StandsOperations tokens i j (hidden-the_row-Operation-9 xs)
  unfolding hidden-the_row-Operation-9 shape-the_row-Operation-9 denote.Hole.Carrier.hidden
  row_of_operations i j [] h = h
  row_of_operations i j (x ∷ xs) h = (h.0, h.1, h.2, h.3, row_of_operations h.1 j xs h.4)

  pub bound_stands : (i j : ℕ) (x : Option Expr) → IfAny (Stands tokens) i j x → StandsBound tokens i j (back-Expr-New-2 x)
  bound_stands i j None h = h
  bound_stands i j (Some x) h = boxed_expr i j x h

  pub init_stands : (i j : ℕ) (x : Option NewInit) → IfAny (StandsNewInit tokens) i j x → StandsInit tokens i j (back-Expr-New-3 x)
  init_stands i j None h = h
  init_stands i j (Some x) h = boxed_init i j x h
