-- A tree is the same as itself.
use Rattle.std.proofs.Common.{List, [], ◌∷◌, refl}
use Rattle.cxx_tree.specs.declared.identifier.NameTree.{NameTree}
use Rattle.cxx_tree.specs.declared.expr.Expr as expr
use Rattle.cxx_tree.specs.declared.expr.Expr.{Expr, Held-Expr-New-2, Held-Expr-New-3}
use Rattle.cxx_tree.specs.declared.expr.Operation.TheVariants as operation
use Rattle.cxx_tree.specs.declared.expr.Operation.{Operation}
use Rattle.cxx_tree.specs.declared.expr.Suffix as suffix
use Rattle.cxx_tree.specs.declared.expr.Suffix.{Suffix}
use Rattle.cxx_tree.specs.declared.expr.NewInit as init
use Rattle.cxx_tree.specs.declared.expr.NewInit.{NewInit}
use Rattle.cxx_tree.specs.declared.expr.SpliceTree as splice
use Rattle.cxx_tree.specs.declared.expr.SpliceTree.{SpliceTree}
use Rattle.cxx_tree.specs.declared.expr.TypeTree as type
use Rattle.cxx_tree.specs.declared.expr.TypeTree.{TypeTree}
use Rattle.cxx_tree.specs.declared.expr.BasicTree as basic
use Rattle.cxx_tree.specs.declared.expr.BasicTree.{BasicTree}
use Rattle.cxx_tree.specs.declared.expr.BracedTree as braced
use Rattle.cxx_tree.specs.declared.expr.BracedTree.{BracedTree}
use Rattle.cxx_tree.specs.declared.expr.Designator as designator
use Rattle.cxx_tree.specs.declared.expr.Designator.{Designator}
use Rattle.cxx_tree.specs.declared.expr.ArgTrees as args
use Rattle.cxx_tree.specs.declared.expr.ArgTrees.{ArgTrees}
use Rattle.cxx_tree.specs.declared.expr.ArgTree as arg
use Rattle.cxx_tree.specs.declared.expr.ArgTree.{ArgTree}
use Rattle.cxx_tree.specs.declared.expr.Expr.{Row_of-Expr, end_of-Expr, more_of-Expr, Row_of-Operation, end_of-Operation, more_of-Operation, Row_of-Suffix, end_of-Suffix, more_of-Suffix, Row_of-NewInit, end_of-NewInit, more_of-NewInit, Row_of-TypeTree, end_of-TypeTree, more_of-TypeTree, Row_of-BasicTree, end_of-BasicTree, more_of-BasicTree, Row_of-BracedTree, end_of-BracedTree, more_of-BracedTree, Row_of-ArgTrees, end_of-ArgTrees, more_of-ArgTrees}
use Rattle.cxx_tree.specs.declared.expr.ArgTrees.{Row_of-ArgTree, end_of-ArgTree, more_of-ArgTree}
use Rattle.cxx_tree.specs.declared.expr.BracedTree.{Row_of-Designator, end_of-Designator, more_of-Designator}
use Rattle.tree_same.specs.Same.{Same, SameOperation, SameSuffix, SameNewInit, SameSplice, SameType, SameBasic, SameBraced, SameDesignator, SameArgs, SameArg, SameBound, SameInit, SameExprs, SameOperations, SameSuffixes, SameNewInits, SameTypes, SameBasics, SameBraceds, SameDesignators, SameArgss, SameArgList}
use Rattle.cxx_tree.specs.declared.identifier.Identifier.{Identifier}
use Rattle.tree_same.specs.Lists.{AreSame}
use Rattle.tree_same.specs.Names.{SameIdentifier, SameName}

identifiers : (xs : List Identifier) → AreSame SameIdentifier xs xs
identifiers [] = tt
identifiers (x ∷ xs) = (refl, identifiers xs)

pub name_itself : (x : NameTree) → SameName x x
name_itself x = (refl, refl, identifiers x.more)

mutual
  pub expr_itself : (x : Expr) → Same x x
  expr_itself (expr.Integer _ x1) = refl
  expr_itself (expr.Character _ x1) = refl
  expr_itself (expr.Text _ x1) = refl
  expr_itself (expr.Truth _ x1) = refl
  expr_itself (expr.Nullptr _) = tt
  expr_itself (expr.This _) = tt
  expr_itself (expr.Name x1) = name_itself x1
  expr_itself (expr.Paren' _ _ x1) = exprs_itself x1
  expr_itself (expr.Splice x1) = splice_itself x1
  expr_itself (expr.Braced' _ _ x1 _ x2) = (basics_itself x1, braceds_itself x2)
  expr_itself (expr.FundCall _ x1 x2) = (refl, args_itself x2)
  expr_itself (expr.TypenameCall' _ x1 _ x2) = (splice_itself x1, argss_itself x2)
  expr_itself (expr.StaticCast' _ _ x1 _ x2) = (types_itself x1, exprs_itself x2)
  expr_itself (expr.Extract' _ x1 _ x2 _ x3) = (name_itself x1, types_itself x2, exprs_itself x3)
  expr_itself (expr.Postfix' _ _ x1 _ x2) = (exprs_itself x1, suffixes_itself x2)
  expr_itself (expr.Unary' _ x1 _ x2) = (refl, exprs_itself x2)
  expr_itself (expr.ReflectGlobal _) = tt
  expr_itself (expr.Reflect' _ _ x1) = types_itself x1
  expr_itself (expr.SizeofType' _ _ x1) = types_itself x1
  expr_itself (expr.SizeofExpr' _ _ x1) = exprs_itself x1
  expr_itself (expr.Delete' _ x1 _ x2) = (refl, exprs_itself x2)
  expr_itself (expr.New' _ _ x1 x2 x3) = (types_itself x1, bound_itself x2, init_itself x3)
  expr_itself (expr.Chain' _ _ x1 _ x2) = (exprs_itself x1, operations_itself x2)
  expr_itself (expr.Conditional' _ _ x1 _ x2 _ x3) = (exprs_itself x1, exprs_itself x2, exprs_itself x3)

  pub operation_itself : (x : Operation) → SameOperation x x
  operation_itself (operation.Operation _ x1 x2) = (refl, expr_itself x2)

  pub suffix_itself : (x : Suffix) → SameSuffix x x
  suffix_itself (suffix.Call x1) = args_itself x1
  suffix_itself (suffix.Subscript' _ _ x1) = exprs_itself x1
  suffix_itself (suffix.Member _ x1 x2) = (refl, refl)
  suffix_itself (suffix.MemberSplice _ x1 x2) = (refl, splice_itself x2)

  pub newinit_itself : (x : NewInit) → SameNewInit x x
  newinit_itself (init.Args x1) = args_itself x1
  newinit_itself (init.Braced x1) = braced_itself x1

  pub splice_itself : (x : SpliceTree) → SameSplice x x
  splice_itself (splice.Splice' _ _ x1) = exprs_itself x1

  pub type_itself : (x : TypeTree) → SameType x x
  type_itself (type.«Type» _ x1 x2 x3 x4) = (refl, basic_itself x2, refl, refl)

  pub basic_itself : (x : BasicTree) → SameBasic x x
  basic_itself (basic.Fund _ x1) = refl
  basic_itself (basic.Name x1) = name_itself x1
  basic_itself (basic.Typename _ x1) = splice_itself x1
  basic_itself (basic.Vector _ x1) = name_itself x1

  pub braced_itself : (x : BracedTree) → SameBraced x x
  braced_itself (braced.Clauses' _ _ x1) = arg_list_itself x1
  braced_itself (braced.Designated' _ _ x1) = designators_itself x1

  pub designator_itself : (x : Designator) → SameDesignator x x
  designator_itself (designator.Equal _ x1 x2) = (refl, arg_itself x2)
  designator_itself (designator.Braced _ x1 x2) = (refl, braced_itself x2)

  pub args_itself : (x : ArgTrees) → SameArgs x x
  args_itself (args.Args' _ _ x1) = arg_list_itself x1

  pub arg_itself : (x : ArgTree) → SameArg x x
  arg_itself (arg.Expr x1) = expr_itself x1
  arg_itself (arg.Braced x1) = braced_itself x1

  pub bound_itself : (x : Held-Expr-New-2) → SameBound x x
  bound_itself expr.Expr-New-2-None' = tt
  bound_itself (expr.Expr-New-2-Some' _ x1) = exprs_itself x1

  pub init_itself : (x : Held-Expr-New-3) → SameInit x x
  init_itself expr.Expr-New-3-None' = tt
  init_itself (expr.Expr-New-3-Some' _ x1) = newinits_itself x1

  pub exprs_itself : {m : _} → (xs : Row_of-Expr m) → SameExprs xs xs
  exprs_itself end_of-Expr = tt
  exprs_itself (more_of-Expr x xs) = (expr_itself x, exprs_itself xs)

  pub operations_itself : {m : _} → (xs : Row_of-Operation m) → SameOperations xs xs
  operations_itself end_of-Operation = tt
  operations_itself (more_of-Operation x xs) = (operation_itself x, operations_itself xs)

  pub suffixes_itself : {m : _} → (xs : Row_of-Suffix m) → SameSuffixes xs xs
  suffixes_itself end_of-Suffix = tt
  suffixes_itself (more_of-Suffix x xs) = (suffix_itself x, suffixes_itself xs)

  pub newinits_itself : {m : _} → (xs : Row_of-NewInit m) → SameNewInits xs xs
  newinits_itself end_of-NewInit = tt
  newinits_itself (more_of-NewInit x xs) = (newinit_itself x, newinits_itself xs)

  pub types_itself : {m : _} → (xs : Row_of-TypeTree m) → SameTypes xs xs
  types_itself end_of-TypeTree = tt
  types_itself (more_of-TypeTree x xs) = (type_itself x, types_itself xs)

  pub basics_itself : {m : _} → (xs : Row_of-BasicTree m) → SameBasics xs xs
  basics_itself end_of-BasicTree = tt
  basics_itself (more_of-BasicTree x xs) = (basic_itself x, basics_itself xs)

  pub braceds_itself : {m : _} → (xs : Row_of-BracedTree m) → SameBraceds xs xs
  braceds_itself end_of-BracedTree = tt
  braceds_itself (more_of-BracedTree x xs) = (braced_itself x, braceds_itself xs)

  pub designators_itself : {m : _} → (xs : Row_of-Designator m) → SameDesignators xs xs
  designators_itself end_of-Designator = tt
  designators_itself (more_of-Designator x xs) = (designator_itself x, designators_itself xs)

  pub argss_itself : {m : _} → (xs : Row_of-ArgTrees m) → SameArgss xs xs
  argss_itself end_of-ArgTrees = tt
  argss_itself (more_of-ArgTrees x xs) = (args_itself x, argss_itself xs)

  pub arg_list_itself : {m : _} → (xs : Row_of-ArgTree m) → SameArgList xs xs
  arg_list_itself end_of-ArgTree = tt
  arg_list_itself (more_of-ArgTree x xs) = (arg_itself x, arg_list_itself xs)
