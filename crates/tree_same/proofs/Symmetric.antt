-- Where one tree is the same as another, the other is the same as it.
use Rattle.std.proofs.Common.{List, [], ◌∷◌, sym}
use Rattle.cxx_tree.specs.declared.identifier.NameTree.{NameTree}
use Rattle.cxx_tree.specs.declared.expr.Expr as expr
use Rattle.cxx_tree.specs.declared.expr.Expr.{Expr, Held-Expr-New-2, Held-Expr-New-3}
use Rattle.cxx_tree.specs.declared.expr.Operation.TheVariants as operation
use Rattle.cxx_tree.specs.declared.expr.Operation.{Operation}
use Rattle.cxx_tree.specs.declared.expr.Suffix as suffix
use Rattle.cxx_tree.specs.declared.expr.Suffix.{Suffix}
use Rattle.cxx_tree.specs.declared.expr.NewInit as init
use Rattle.cxx_tree.specs.declared.expr.NewInit.{NewInit}
use Rattle.cxx_tree.specs.declared.expr.SpliceTree as splice
use Rattle.cxx_tree.specs.declared.expr.SpliceTree.{SpliceTree}
use Rattle.cxx_tree.specs.declared.expr.TypeTree as type
use Rattle.cxx_tree.specs.declared.expr.TypeTree.{TypeTree}
use Rattle.cxx_tree.specs.declared.expr.BasicTree as basic
use Rattle.cxx_tree.specs.declared.expr.BasicTree.{BasicTree}
use Rattle.cxx_tree.specs.declared.expr.BracedTree as braced
use Rattle.cxx_tree.specs.declared.expr.BracedTree.{BracedTree}
use Rattle.cxx_tree.specs.declared.expr.Designator as designator
use Rattle.cxx_tree.specs.declared.expr.Designator.{Designator}
use Rattle.cxx_tree.specs.declared.expr.ArgTrees as args
use Rattle.cxx_tree.specs.declared.expr.ArgTrees.{ArgTrees}
use Rattle.cxx_tree.specs.declared.expr.ArgTree as arg
use Rattle.cxx_tree.specs.declared.expr.ArgTree.{ArgTree}
use Rattle.cxx_tree.specs.declared.expr.Expr.{Row_of-Expr, end_of-Expr, more_of-Expr, Row_of-Operation, end_of-Operation, more_of-Operation, Row_of-Suffix, end_of-Suffix, more_of-Suffix, Row_of-NewInit, end_of-NewInit, more_of-NewInit, Row_of-TypeTree, end_of-TypeTree, more_of-TypeTree, Row_of-BasicTree, end_of-BasicTree, more_of-BasicTree, Row_of-BracedTree, end_of-BracedTree, more_of-BracedTree, Row_of-ArgTrees, end_of-ArgTrees, more_of-ArgTrees}
use Rattle.cxx_tree.specs.declared.expr.ArgTrees.{Row_of-ArgTree, end_of-ArgTree, more_of-ArgTree}
use Rattle.cxx_tree.specs.declared.expr.BracedTree.{Row_of-Designator, end_of-Designator, more_of-Designator}
use Rattle.tree_same.specs.Same.{Same, SameOperation, SameSuffix, SameNewInit, SameSplice, SameType, SameBasic, SameBraced, SameDesignator, SameArgs, SameArg, SameBound, SameInit, SameExprs, SameOperations, SameSuffixes, SameNewInits, SameTypes, SameBasics, SameBraceds, SameDesignators, SameArgss, SameArgList}
use Rattle.cxx_tree.specs.declared.identifier.Identifier.{Identifier}
use Rattle.tree_same.specs.Lists.{AreSame}
use Rattle.tree_same.specs.Names.{SameIdentifier, SameName}

identifiers : (xs ys : List Identifier) → AreSame SameIdentifier xs ys → AreSame SameIdentifier ys xs
identifiers [] [] h = h
identifiers [] (y ∷ ys) h = h
identifiers (x ∷ xs) [] h = h
identifiers (x ∷ xs) (y ∷ ys) h = (sym h.0, identifiers xs ys h.1)

pub name_back : (x y : NameTree) → SameName x y → SameName y x
name_back x y h = (sym h.0, sym h.1, identifiers x.more y.more h.2)

mutual
  pub expr_back : (x y : Expr) → Same x y → Same y x
  expr_back (expr.Integer _ x1) (expr.Integer _ y1) h = sym h
  expr_back (expr.Character _ x1) (expr.Character _ y1) h = sym h
  expr_back (expr.Text _ x1) (expr.Text _ y1) h = sym h
  expr_back (expr.Truth _ x1) (expr.Truth _ y1) h = sym h
  expr_back (expr.Nullptr _) (expr.Nullptr _) h = tt
  expr_back (expr.This _) (expr.This _) h = tt
  expr_back (expr.Name x1) (expr.Name y1) h = name_back x1 y1 h
  expr_back (expr.Paren' _ _ x1) (expr.Paren' _ _ y1) h = exprs_back x1 y1 h
  expr_back (expr.Splice x1) (expr.Splice y1) h = splice_back x1 y1 h
  expr_back (expr.Braced' _ _ x1 _ x2) (expr.Braced' _ _ y1 _ y2) h = (basics_back x1 y1 h.0, braceds_back x2 y2 h.1)
  expr_back (expr.FundCall _ x1 x2) (expr.FundCall _ y1 y2) h = (sym h.0, args_back x2 y2 h.1)
  expr_back (expr.TypenameCall' _ x1 _ x2) (expr.TypenameCall' _ y1 _ y2) h = (splice_back x1 y1 h.0, argss_back x2 y2 h.1)
  expr_back (expr.StaticCast' _ _ x1 _ x2) (expr.StaticCast' _ _ y1 _ y2) h = (types_back x1 y1 h.0, exprs_back x2 y2 h.1)
  expr_back (expr.Extract' _ x1 _ x2 _ x3) (expr.Extract' _ y1 _ y2 _ y3) h = (name_back x1 y1 h.0, types_back x2 y2 h.1, exprs_back x3 y3 h.2)
  expr_back (expr.Postfix' _ _ x1 _ x2) (expr.Postfix' _ _ y1 _ y2) h = (exprs_back x1 y1 h.0, suffixes_back x2 y2 h.1)
  expr_back (expr.Unary' _ x1 _ x2) (expr.Unary' _ y1 _ y2) h = (sym h.0, exprs_back x2 y2 h.1)
  expr_back (expr.ReflectGlobal _) (expr.ReflectGlobal _) h = tt
  expr_back (expr.Reflect' _ _ x1) (expr.Reflect' _ _ y1) h = types_back x1 y1 h
  expr_back (expr.SizeofType' _ _ x1) (expr.SizeofType' _ _ y1) h = types_back x1 y1 h
  expr_back (expr.SizeofExpr' _ _ x1) (expr.SizeofExpr' _ _ y1) h = exprs_back x1 y1 h
  expr_back (expr.Delete' _ x1 _ x2) (expr.Delete' _ y1 _ y2) h = (sym h.0, exprs_back x2 y2 h.1)
  expr_back (expr.New' _ _ x1 x2 x3) (expr.New' _ _ y1 y2 y3) h = (types_back x1 y1 h.0, bound_back x2 y2 h.1, init_back x3 y3 h.2)
  expr_back (expr.Chain' _ _ x1 _ x2) (expr.Chain' _ _ y1 _ y2) h = (exprs_back x1 y1 h.0, operations_back x2 y2 h.1)
  expr_back (expr.Conditional' _ _ x1 _ x2 _ x3) (expr.Conditional' _ _ y1 _ y2 _ y3) h = (exprs_back x1 y1 h.0, exprs_back x2 y2 h.1, exprs_back x3 y3 h.2)
  expr_back _ _ h = absurd h

  pub operation_back : (x y : Operation) → SameOperation x y → SameOperation y x
  operation_back (operation.Operation _ x1 x2) (operation.Operation _ y1 y2) h = (sym h.0, expr_back x2 y2 h.1)

  pub suffix_back : (x y : Suffix) → SameSuffix x y → SameSuffix y x
  suffix_back (suffix.Call x1) (suffix.Call y1) h = args_back x1 y1 h
  suffix_back (suffix.Subscript' _ _ x1) (suffix.Subscript' _ _ y1) h = exprs_back x1 y1 h
  suffix_back (suffix.Member _ x1 x2) (suffix.Member _ y1 y2) h = (sym h.0, sym h.1)
  suffix_back (suffix.MemberSplice _ x1 x2) (suffix.MemberSplice _ y1 y2) h = (sym h.0, splice_back x2 y2 h.1)
  suffix_back _ _ h = absurd h

  pub newinit_back : (x y : NewInit) → SameNewInit x y → SameNewInit y x
  newinit_back (init.Args x1) (init.Args y1) h = args_back x1 y1 h
  newinit_back (init.Braced x1) (init.Braced y1) h = braced_back x1 y1 h
  newinit_back _ _ h = absurd h

  pub splice_back : (x y : SpliceTree) → SameSplice x y → SameSplice y x
  splice_back (splice.Splice' _ _ x1) (splice.Splice' _ _ y1) h = exprs_back x1 y1 h

  pub type_back : (x y : TypeTree) → SameType x y → SameType y x
  type_back (type.«Type» _ x1 x2 x3 x4) (type.«Type» _ y1 y2 y3 y4) h = (sym h.0, basic_back x2 y2 h.1, sym h.2, sym h.3)

  pub basic_back : (x y : BasicTree) → SameBasic x y → SameBasic y x
  basic_back (basic.Fund _ x1) (basic.Fund _ y1) h = sym h
  basic_back (basic.Name x1) (basic.Name y1) h = name_back x1 y1 h
  basic_back (basic.Typename _ x1) (basic.Typename _ y1) h = splice_back x1 y1 h
  basic_back (basic.Vector _ x1) (basic.Vector _ y1) h = name_back x1 y1 h
  basic_back _ _ h = absurd h

  pub braced_back : (x y : BracedTree) → SameBraced x y → SameBraced y x
  braced_back (braced.Clauses' _ _ x1) (braced.Clauses' _ _ y1) h = arg_list_back x1 y1 h
  braced_back (braced.Designated' _ _ x1) (braced.Designated' _ _ y1) h = designators_back x1 y1 h
  braced_back _ _ h = absurd h

  pub designator_back : (x y : Designator) → SameDesignator x y → SameDesignator y x
  designator_back (designator.Equal _ x1 x2) (designator.Equal _ y1 y2) h = (sym h.0, arg_back x2 y2 h.1)
  designator_back (designator.Braced _ x1 x2) (designator.Braced _ y1 y2) h = (sym h.0, braced_back x2 y2 h.1)
  designator_back _ _ h = absurd h

  pub args_back : (x y : ArgTrees) → SameArgs x y → SameArgs y x
  args_back (args.Args' _ _ x1) (args.Args' _ _ y1) h = arg_list_back x1 y1 h

  pub arg_back : (x y : ArgTree) → SameArg x y → SameArg y x
  arg_back (arg.Expr x1) (arg.Expr y1) h = expr_back x1 y1 h
  arg_back (arg.Braced x1) (arg.Braced y1) h = braced_back x1 y1 h
  arg_back _ _ h = absurd h

  pub bound_back : (x y : Held-Expr-New-2) → SameBound x y → SameBound y x
  bound_back expr.Expr-New-2-None' expr.Expr-New-2-None' h = tt
  bound_back (expr.Expr-New-2-Some' _ x1) (expr.Expr-New-2-Some' _ y1) h = exprs_back x1 y1 h
  bound_back _ _ h = absurd h

  pub init_back : (x y : Held-Expr-New-3) → SameInit x y → SameInit y x
  init_back expr.Expr-New-3-None' expr.Expr-New-3-None' h = tt
  init_back (expr.Expr-New-3-Some' _ x1) (expr.Expr-New-3-Some' _ y1) h = newinits_back x1 y1 h
  init_back _ _ h = absurd h

  pub exprs_back : {m n : _} → (xs : Row_of-Expr m) (ys : Row_of-Expr n) → SameExprs xs ys → SameExprs ys xs
  exprs_back end_of-Expr end_of-Expr h = h
  exprs_back (more_of-Expr x xs) (more_of-Expr y ys) h = (expr_back x y h.0, exprs_back xs ys h.1)
  exprs_back _ _ h = absurd h

  pub operations_back : {m n : _} → (xs : Row_of-Operation m) (ys : Row_of-Operation n) → SameOperations xs ys → SameOperations ys xs
  operations_back end_of-Operation end_of-Operation h = h
  operations_back (more_of-Operation x xs) (more_of-Operation y ys) h = (operation_back x y h.0, operations_back xs ys h.1)
  operations_back _ _ h = absurd h

  pub suffixes_back : {m n : _} → (xs : Row_of-Suffix m) (ys : Row_of-Suffix n) → SameSuffixes xs ys → SameSuffixes ys xs
  suffixes_back end_of-Suffix end_of-Suffix h = h
  suffixes_back (more_of-Suffix x xs) (more_of-Suffix y ys) h = (suffix_back x y h.0, suffixes_back xs ys h.1)
  suffixes_back _ _ h = absurd h

  pub newinits_back : {m n : _} → (xs : Row_of-NewInit m) (ys : Row_of-NewInit n) → SameNewInits xs ys → SameNewInits ys xs
  newinits_back end_of-NewInit end_of-NewInit h = h
  newinits_back (more_of-NewInit x xs) (more_of-NewInit y ys) h = (newinit_back x y h.0, newinits_back xs ys h.1)
  newinits_back _ _ h = absurd h

  pub types_back : {m n : _} → (xs : Row_of-TypeTree m) (ys : Row_of-TypeTree n) → SameTypes xs ys → SameTypes ys xs
  types_back end_of-TypeTree end_of-TypeTree h = h
  types_back (more_of-TypeTree x xs) (more_of-TypeTree y ys) h = (type_back x y h.0, types_back xs ys h.1)
  types_back _ _ h = absurd h

  pub basics_back : {m n : _} → (xs : Row_of-BasicTree m) (ys : Row_of-BasicTree n) → SameBasics xs ys → SameBasics ys xs
  basics_back end_of-BasicTree end_of-BasicTree h = h
  basics_back (more_of-BasicTree x xs) (more_of-BasicTree y ys) h = (basic_back x y h.0, basics_back xs ys h.1)
  basics_back _ _ h = absurd h

  pub braceds_back : {m n : _} → (xs : Row_of-BracedTree m) (ys : Row_of-BracedTree n) → SameBraceds xs ys → SameBraceds ys xs
  braceds_back end_of-BracedTree end_of-BracedTree h = h
  braceds_back (more_of-BracedTree x xs) (more_of-BracedTree y ys) h = (braced_back x y h.0, braceds_back xs ys h.1)
  braceds_back _ _ h = absurd h

  pub designators_back : {m n : _} → (xs : Row_of-Designator m) (ys : Row_of-Designator n) → SameDesignators xs ys → SameDesignators ys xs
  designators_back end_of-Designator end_of-Designator h = h
  designators_back (more_of-Designator x xs) (more_of-Designator y ys) h = (designator_back x y h.0, designators_back xs ys h.1)
  designators_back _ _ h = absurd h

  pub argss_back : {m n : _} → (xs : Row_of-ArgTrees m) (ys : Row_of-ArgTrees n) → SameArgss xs ys → SameArgss ys xs
  argss_back end_of-ArgTrees end_of-ArgTrees h = h
  argss_back (more_of-ArgTrees x xs) (more_of-ArgTrees y ys) h = (args_back x y h.0, argss_back xs ys h.1)
  argss_back _ _ h = absurd h

  pub arg_list_back : {m n : _} → (xs : Row_of-ArgTree m) (ys : Row_of-ArgTree n) → SameArgList xs ys → SameArgList ys xs
  arg_list_back end_of-ArgTree end_of-ArgTree h = h
  arg_list_back (more_of-ArgTree x xs) (more_of-ArgTree y ys) h = (arg_back x y h.0, arg_list_back xs ys h.1)
  arg_list_back _ _ h = absurd h
