-- Where one tree is the same as a second, and that as a third, the first is the same as the third.
use Rattle.std.proofs.Common.{List, [], ◌∷◌, ◌∙◌}
use Rattle.cxx_tree.specs.declared.identifier.NameTree.{NameTree}
use Rattle.cxx_tree.specs.declared.expr.Expr as expr
use Rattle.cxx_tree.specs.declared.expr.Expr.{Expr, Held-Expr-New-2, Held-Expr-New-3}
use Rattle.cxx_tree.specs.declared.expr.Operation.TheVariants as operation
use Rattle.cxx_tree.specs.declared.expr.Operation.{Operation}
use Rattle.cxx_tree.specs.declared.expr.Suffix as suffix
use Rattle.cxx_tree.specs.declared.expr.Suffix.{Suffix}
use Rattle.cxx_tree.specs.declared.expr.NewInit as init
use Rattle.cxx_tree.specs.declared.expr.NewInit.{NewInit}
use Rattle.cxx_tree.specs.declared.expr.SpliceTree as splice
use Rattle.cxx_tree.specs.declared.expr.SpliceTree.{SpliceTree}
use Rattle.cxx_tree.specs.declared.expr.TypeTree as type
use Rattle.cxx_tree.specs.declared.expr.TypeTree.{TypeTree}
use Rattle.cxx_tree.specs.declared.expr.BasicTree as basic
use Rattle.cxx_tree.specs.declared.expr.BasicTree.{BasicTree}
use Rattle.cxx_tree.specs.declared.expr.BracedTree as braced
use Rattle.cxx_tree.specs.declared.expr.BracedTree.{BracedTree}
use Rattle.cxx_tree.specs.declared.expr.Designator as designator
use Rattle.cxx_tree.specs.declared.expr.Designator.{Designator}
use Rattle.cxx_tree.specs.declared.expr.ArgTrees as args
use Rattle.cxx_tree.specs.declared.expr.ArgTrees.{ArgTrees}
use Rattle.cxx_tree.specs.declared.expr.ArgTree as arg
use Rattle.cxx_tree.specs.declared.expr.ArgTree.{ArgTree}
use Rattle.cxx_tree.specs.declared.expr.Expr.{Row_of-Expr, end_of-Expr, more_of-Expr, Row_of-Operation, end_of-Operation, more_of-Operation, Row_of-Suffix, end_of-Suffix, more_of-Suffix, Row_of-NewInit, end_of-NewInit, more_of-NewInit, Row_of-TypeTree, end_of-TypeTree, more_of-TypeTree, Row_of-BasicTree, end_of-BasicTree, more_of-BasicTree, Row_of-BracedTree, end_of-BracedTree, more_of-BracedTree, Row_of-ArgTrees, end_of-ArgTrees, more_of-ArgTrees}
use Rattle.cxx_tree.specs.declared.expr.ArgTrees.{Row_of-ArgTree, end_of-ArgTree, more_of-ArgTree}
use Rattle.cxx_tree.specs.declared.expr.BracedTree.{Row_of-Designator, end_of-Designator, more_of-Designator}
use Rattle.tree_same.specs.Same.{Same, SameOperation, SameSuffix, SameNewInit, SameSplice, SameType, SameBasic, SameBraced, SameDesignator, SameArgs, SameArg, SameBound, SameInit, SameExprs, SameOperations, SameSuffixes, SameNewInits, SameTypes, SameBasics, SameBraceds, SameDesignators, SameArgss, SameArgList}
use Rattle.cxx_tree.specs.declared.identifier.Identifier.{Identifier}
use Rattle.tree_same.specs.Lists.{AreSame}
use Rattle.tree_same.specs.Names.{SameIdentifier, SameName}

identifiers : (xs ys zs : List Identifier) → AreSame SameIdentifier xs ys → AreSame SameIdentifier ys zs → AreSame SameIdentifier xs zs
identifiers [] [] zs h k = k
identifiers [] (y ∷ ys) zs h k = absurd h
identifiers (x ∷ xs) [] zs h k = absurd h
identifiers (x ∷ xs) (y ∷ ys) [] h k = absurd k
identifiers (x ∷ xs) (y ∷ ys) (z ∷ zs) h k = (h.0 ∙ k.0, identifiers xs ys zs h.1 k.1)

pub name_on : (x y z : NameTree) → SameName x y → SameName y z → SameName x z
name_on x y z h k = (h.0 ∙ k.0, h.1 ∙ k.1, identifiers x.more y.more z.more h.2 k.2)

mutual
  pub expr_on : (x y z : Expr) → Same x y → Same y z → Same x z
  expr_on (expr.Integer _ x1) (expr.Integer _ y1) (expr.Integer _ z1) h k = h ∙ k
  expr_on (expr.Integer _ _) (expr.Integer _ _) _ h k = absurd k
  expr_on (expr.Character _ x1) (expr.Character _ y1) (expr.Character _ z1) h k = h ∙ k
  expr_on (expr.Character _ _) (expr.Character _ _) _ h k = absurd k
  expr_on (expr.Text _ x1) (expr.Text _ y1) (expr.Text _ z1) h k = h ∙ k
  expr_on (expr.Text _ _) (expr.Text _ _) _ h k = absurd k
  expr_on (expr.Truth _ x1) (expr.Truth _ y1) (expr.Truth _ z1) h k = h ∙ k
  expr_on (expr.Truth _ _) (expr.Truth _ _) _ h k = absurd k
  expr_on (expr.Nullptr _) (expr.Nullptr _) (expr.Nullptr _) h k = tt
  expr_on (expr.Nullptr _) (expr.Nullptr _) _ h k = absurd k
  expr_on (expr.This _) (expr.This _) (expr.This _) h k = tt
  expr_on (expr.This _) (expr.This _) _ h k = absurd k
  expr_on (expr.Name x1) (expr.Name y1) (expr.Name z1) h k = name_on x1 y1 z1 h k
  expr_on (expr.Name _) (expr.Name _) _ h k = absurd k
  expr_on (expr.Paren' _ _ x1) (expr.Paren' _ _ y1) (expr.Paren' _ _ z1) h k = exprs_on x1 y1 z1 h k
  expr_on (expr.Paren' _ _ _) (expr.Paren' _ _ _) _ h k = absurd k
  expr_on (expr.Splice x1) (expr.Splice y1) (expr.Splice z1) h k = splice_on x1 y1 z1 h k
  expr_on (expr.Splice _) (expr.Splice _) _ h k = absurd k
  expr_on (expr.Braced' _ _ x1 _ x2) (expr.Braced' _ _ y1 _ y2) (expr.Braced' _ _ z1 _ z2) h k = (basics_on x1 y1 z1 h.0 k.0, braceds_on x2 y2 z2 h.1 k.1)
  expr_on (expr.Braced' _ _ _ _ _) (expr.Braced' _ _ _ _ _) _ h k = absurd k
  expr_on (expr.FundCall _ x1 x2) (expr.FundCall _ y1 y2) (expr.FundCall _ z1 z2) h k = (h.0 ∙ k.0, args_on x2 y2 z2 h.1 k.1)
  expr_on (expr.FundCall _ _ _) (expr.FundCall _ _ _) _ h k = absurd k
  expr_on (expr.TypenameCall' _ x1 _ x2) (expr.TypenameCall' _ y1 _ y2) (expr.TypenameCall' _ z1 _ z2) h k = (splice_on x1 y1 z1 h.0 k.0, argss_on x2 y2 z2 h.1 k.1)
  expr_on (expr.TypenameCall' _ _ _ _) (expr.TypenameCall' _ _ _ _) _ h k = absurd k
  expr_on (expr.StaticCast' _ _ x1 _ x2) (expr.StaticCast' _ _ y1 _ y2) (expr.StaticCast' _ _ z1 _ z2) h k = (types_on x1 y1 z1 h.0 k.0, exprs_on x2 y2 z2 h.1 k.1)
  expr_on (expr.StaticCast' _ _ _ _ _) (expr.StaticCast' _ _ _ _ _) _ h k = absurd k
  expr_on (expr.Extract' _ x1 _ x2 _ x3) (expr.Extract' _ y1 _ y2 _ y3) (expr.Extract' _ z1 _ z2 _ z3) h k = (name_on x1 y1 z1 h.0 k.0, types_on x2 y2 z2 h.1 k.1, exprs_on x3 y3 z3 h.2 k.2)
  expr_on (expr.Extract' _ _ _ _ _ _) (expr.Extract' _ _ _ _ _ _) _ h k = absurd k
  expr_on (expr.Postfix' _ _ x1 _ x2) (expr.Postfix' _ _ y1 _ y2) (expr.Postfix' _ _ z1 _ z2) h k = (exprs_on x1 y1 z1 h.0 k.0, suffixes_on x2 y2 z2 h.1 k.1)
  expr_on (expr.Postfix' _ _ _ _ _) (expr.Postfix' _ _ _ _ _) _ h k = absurd k
  expr_on (expr.Unary' _ x1 _ x2) (expr.Unary' _ y1 _ y2) (expr.Unary' _ z1 _ z2) h k = (h.0 ∙ k.0, exprs_on x2 y2 z2 h.1 k.1)
  expr_on (expr.Unary' _ _ _ _) (expr.Unary' _ _ _ _) _ h k = absurd k
  expr_on (expr.ReflectGlobal _) (expr.ReflectGlobal _) (expr.ReflectGlobal _) h k = tt
  expr_on (expr.ReflectGlobal _) (expr.ReflectGlobal _) _ h k = absurd k
  expr_on (expr.Reflect' _ _ x1) (expr.Reflect' _ _ y1) (expr.Reflect' _ _ z1) h k = types_on x1 y1 z1 h k
  expr_on (expr.Reflect' _ _ _) (expr.Reflect' _ _ _) _ h k = absurd k
  expr_on (expr.SizeofType' _ _ x1) (expr.SizeofType' _ _ y1) (expr.SizeofType' _ _ z1) h k = types_on x1 y1 z1 h k
  expr_on (expr.SizeofType' _ _ _) (expr.SizeofType' _ _ _) _ h k = absurd k
  expr_on (expr.SizeofExpr' _ _ x1) (expr.SizeofExpr' _ _ y1) (expr.SizeofExpr' _ _ z1) h k = exprs_on x1 y1 z1 h k
  expr_on (expr.SizeofExpr' _ _ _) (expr.SizeofExpr' _ _ _) _ h k = absurd k
  expr_on (expr.Delete' _ x1 _ x2) (expr.Delete' _ y1 _ y2) (expr.Delete' _ z1 _ z2) h k = (h.0 ∙ k.0, exprs_on x2 y2 z2 h.1 k.1)
  expr_on (expr.Delete' _ _ _ _) (expr.Delete' _ _ _ _) _ h k = absurd k
  expr_on (expr.New' _ _ x1 x2 x3) (expr.New' _ _ y1 y2 y3) (expr.New' _ _ z1 z2 z3) h k = (types_on x1 y1 z1 h.0 k.0, bound_on x2 y2 z2 h.1 k.1, init_on x3 y3 z3 h.2 k.2)
  expr_on (expr.New' _ _ _ _ _) (expr.New' _ _ _ _ _) _ h k = absurd k
  expr_on (expr.Chain' _ _ x1 _ x2) (expr.Chain' _ _ y1 _ y2) (expr.Chain' _ _ z1 _ z2) h k = (exprs_on x1 y1 z1 h.0 k.0, operations_on x2 y2 z2 h.1 k.1)
  expr_on (expr.Chain' _ _ _ _ _) (expr.Chain' _ _ _ _ _) _ h k = absurd k
  expr_on (expr.Conditional' _ _ x1 _ x2 _ x3) (expr.Conditional' _ _ y1 _ y2 _ y3) (expr.Conditional' _ _ z1 _ z2 _ z3) h k = (exprs_on x1 y1 z1 h.0 k.0, exprs_on x2 y2 z2 h.1 k.1, exprs_on x3 y3 z3 h.2 k.2)
  expr_on (expr.Conditional' _ _ _ _ _ _ _) (expr.Conditional' _ _ _ _ _ _ _) _ h k = absurd k
  expr_on _ _ _ h k = absurd h

  pub operation_on : (x y z : Operation) → SameOperation x y → SameOperation y z → SameOperation x z
  operation_on (operation.Operation _ x1 x2) (operation.Operation _ y1 y2) (operation.Operation _ z1 z2) h k = (h.0 ∙ k.0, expr_on x2 y2 z2 h.1 k.1)

  pub suffix_on : (x y z : Suffix) → SameSuffix x y → SameSuffix y z → SameSuffix x z
  suffix_on (suffix.Call x1) (suffix.Call y1) (suffix.Call z1) h k = args_on x1 y1 z1 h k
  suffix_on (suffix.Call _) (suffix.Call _) _ h k = absurd k
  suffix_on (suffix.Subscript' _ _ x1) (suffix.Subscript' _ _ y1) (suffix.Subscript' _ _ z1) h k = exprs_on x1 y1 z1 h k
  suffix_on (suffix.Subscript' _ _ _) (suffix.Subscript' _ _ _) _ h k = absurd k
  suffix_on (suffix.Member _ x1 x2) (suffix.Member _ y1 y2) (suffix.Member _ z1 z2) h k = (h.0 ∙ k.0, h.1 ∙ k.1)
  suffix_on (suffix.Member _ _ _) (suffix.Member _ _ _) _ h k = absurd k
  suffix_on (suffix.MemberSplice _ x1 x2) (suffix.MemberSplice _ y1 y2) (suffix.MemberSplice _ z1 z2) h k = (h.0 ∙ k.0, splice_on x2 y2 z2 h.1 k.1)
  suffix_on (suffix.MemberSplice _ _ _) (suffix.MemberSplice _ _ _) _ h k = absurd k
  suffix_on _ _ _ h k = absurd h

  pub newinit_on : (x y z : NewInit) → SameNewInit x y → SameNewInit y z → SameNewInit x z
  newinit_on (init.Args x1) (init.Args y1) (init.Args z1) h k = args_on x1 y1 z1 h k
  newinit_on (init.Args _) (init.Args _) _ h k = absurd k
  newinit_on (init.Braced x1) (init.Braced y1) (init.Braced z1) h k = braced_on x1 y1 z1 h k
  newinit_on (init.Braced _) (init.Braced _) _ h k = absurd k
  newinit_on _ _ _ h k = absurd h

  pub splice_on : (x y z : SpliceTree) → SameSplice x y → SameSplice y z → SameSplice x z
  splice_on (splice.Splice' _ _ x1) (splice.Splice' _ _ y1) (splice.Splice' _ _ z1) h k = exprs_on x1 y1 z1 h k

  pub type_on : (x y z : TypeTree) → SameType x y → SameType y z → SameType x z
  type_on (type.«Type» _ x1 x2 x3 x4) (type.«Type» _ y1 y2 y3 y4) (type.«Type» _ z1 z2 z3 z4) h k = (h.0 ∙ k.0, basic_on x2 y2 z2 h.1 k.1, h.2 ∙ k.2, h.3 ∙ k.3)

  pub basic_on : (x y z : BasicTree) → SameBasic x y → SameBasic y z → SameBasic x z
  basic_on (basic.Fund _ x1) (basic.Fund _ y1) (basic.Fund _ z1) h k = h ∙ k
  basic_on (basic.Fund _ _) (basic.Fund _ _) _ h k = absurd k
  basic_on (basic.Name x1) (basic.Name y1) (basic.Name z1) h k = name_on x1 y1 z1 h k
  basic_on (basic.Name _) (basic.Name _) _ h k = absurd k
  basic_on (basic.Typename _ x1) (basic.Typename _ y1) (basic.Typename _ z1) h k = splice_on x1 y1 z1 h k
  basic_on (basic.Typename _ _) (basic.Typename _ _) _ h k = absurd k
  basic_on (basic.Vector _ x1) (basic.Vector _ y1) (basic.Vector _ z1) h k = name_on x1 y1 z1 h k
  basic_on (basic.Vector _ _) (basic.Vector _ _) _ h k = absurd k
  basic_on _ _ _ h k = absurd h

  pub braced_on : (x y z : BracedTree) → SameBraced x y → SameBraced y z → SameBraced x z
  braced_on (braced.Clauses' _ _ x1) (braced.Clauses' _ _ y1) (braced.Clauses' _ _ z1) h k = arg_list_on x1 y1 z1 h k
  braced_on (braced.Clauses' _ _ _) (braced.Clauses' _ _ _) _ h k = absurd k
  braced_on (braced.Designated' _ _ x1) (braced.Designated' _ _ y1) (braced.Designated' _ _ z1) h k = designators_on x1 y1 z1 h k
  braced_on (braced.Designated' _ _ _) (braced.Designated' _ _ _) _ h k = absurd k
  braced_on _ _ _ h k = absurd h

  pub designator_on : (x y z : Designator) → SameDesignator x y → SameDesignator y z → SameDesignator x z
  designator_on (designator.Equal _ x1 x2) (designator.Equal _ y1 y2) (designator.Equal _ z1 z2) h k = (h.0 ∙ k.0, arg_on x2 y2 z2 h.1 k.1)
  designator_on (designator.Equal _ _ _) (designator.Equal _ _ _) _ h k = absurd k
  designator_on (designator.Braced _ x1 x2) (designator.Braced _ y1 y2) (designator.Braced _ z1 z2) h k = (h.0 ∙ k.0, braced_on x2 y2 z2 h.1 k.1)
  designator_on (designator.Braced _ _ _) (designator.Braced _ _ _) _ h k = absurd k
  designator_on _ _ _ h k = absurd h

  pub args_on : (x y z : ArgTrees) → SameArgs x y → SameArgs y z → SameArgs x z
  args_on (args.Args' _ _ x1) (args.Args' _ _ y1) (args.Args' _ _ z1) h k = arg_list_on x1 y1 z1 h k

  pub arg_on : (x y z : ArgTree) → SameArg x y → SameArg y z → SameArg x z
  arg_on (arg.Expr x1) (arg.Expr y1) (arg.Expr z1) h k = expr_on x1 y1 z1 h k
  arg_on (arg.Expr _) (arg.Expr _) _ h k = absurd k
  arg_on (arg.Braced x1) (arg.Braced y1) (arg.Braced z1) h k = braced_on x1 y1 z1 h k
  arg_on (arg.Braced _) (arg.Braced _) _ h k = absurd k
  arg_on _ _ _ h k = absurd h

  pub bound_on : (x y z : Held-Expr-New-2) → SameBound x y → SameBound y z → SameBound x z
  bound_on expr.Expr-New-2-None' expr.Expr-New-2-None' expr.Expr-New-2-None' h k = tt
  bound_on expr.Expr-New-2-None' expr.Expr-New-2-None' _ h k = absurd k
  bound_on (expr.Expr-New-2-Some' _ x1) (expr.Expr-New-2-Some' _ y1) (expr.Expr-New-2-Some' _ z1) h k = exprs_on x1 y1 z1 h k
  bound_on (expr.Expr-New-2-Some' _ _) (expr.Expr-New-2-Some' _ _) _ h k = absurd k
  bound_on _ _ _ h k = absurd h

  pub init_on : (x y z : Held-Expr-New-3) → SameInit x y → SameInit y z → SameInit x z
  init_on expr.Expr-New-3-None' expr.Expr-New-3-None' expr.Expr-New-3-None' h k = tt
  init_on expr.Expr-New-3-None' expr.Expr-New-3-None' _ h k = absurd k
  init_on (expr.Expr-New-3-Some' _ x1) (expr.Expr-New-3-Some' _ y1) (expr.Expr-New-3-Some' _ z1) h k = newinits_on x1 y1 z1 h k
  init_on (expr.Expr-New-3-Some' _ _) (expr.Expr-New-3-Some' _ _) _ h k = absurd k
  init_on _ _ _ h k = absurd h

  pub exprs_on : {l m n : _} → (xs : Row_of-Expr l) (ys : Row_of-Expr m) (zs : Row_of-Expr n) → SameExprs xs ys → SameExprs ys zs → SameExprs xs zs
  exprs_on end_of-Expr end_of-Expr zs h k = k
  exprs_on (more_of-Expr x xs) (more_of-Expr y ys) (more_of-Expr z zs) h k = (expr_on x y z h.0 k.0, exprs_on xs ys zs h.1 k.1)
  exprs_on (more_of-Expr _ _) (more_of-Expr _ _) _ h k = absurd k
  exprs_on _ _ _ h k = absurd h

  pub operations_on : {l m n : _} → (xs : Row_of-Operation l) (ys : Row_of-Operation m) (zs : Row_of-Operation n) → SameOperations xs ys → SameOperations ys zs → SameOperations xs zs
  operations_on end_of-Operation end_of-Operation zs h k = k
  operations_on (more_of-Operation x xs) (more_of-Operation y ys) (more_of-Operation z zs) h k = (operation_on x y z h.0 k.0, operations_on xs ys zs h.1 k.1)
  operations_on (more_of-Operation _ _) (more_of-Operation _ _) _ h k = absurd k
  operations_on _ _ _ h k = absurd h

  pub suffixes_on : {l m n : _} → (xs : Row_of-Suffix l) (ys : Row_of-Suffix m) (zs : Row_of-Suffix n) → SameSuffixes xs ys → SameSuffixes ys zs → SameSuffixes xs zs
  suffixes_on end_of-Suffix end_of-Suffix zs h k = k
  suffixes_on (more_of-Suffix x xs) (more_of-Suffix y ys) (more_of-Suffix z zs) h k = (suffix_on x y z h.0 k.0, suffixes_on xs ys zs h.1 k.1)
  suffixes_on (more_of-Suffix _ _) (more_of-Suffix _ _) _ h k = absurd k
  suffixes_on _ _ _ h k = absurd h

  pub newinits_on : {l m n : _} → (xs : Row_of-NewInit l) (ys : Row_of-NewInit m) (zs : Row_of-NewInit n) → SameNewInits xs ys → SameNewInits ys zs → SameNewInits xs zs
  newinits_on end_of-NewInit end_of-NewInit zs h k = k
  newinits_on (more_of-NewInit x xs) (more_of-NewInit y ys) (more_of-NewInit z zs) h k = (newinit_on x y z h.0 k.0, newinits_on xs ys zs h.1 k.1)
  newinits_on (more_of-NewInit _ _) (more_of-NewInit _ _) _ h k = absurd k
  newinits_on _ _ _ h k = absurd h

  pub types_on : {l m n : _} → (xs : Row_of-TypeTree l) (ys : Row_of-TypeTree m) (zs : Row_of-TypeTree n) → SameTypes xs ys → SameTypes ys zs → SameTypes xs zs
  types_on end_of-TypeTree end_of-TypeTree zs h k = k
  types_on (more_of-TypeTree x xs) (more_of-TypeTree y ys) (more_of-TypeTree z zs) h k = (type_on x y z h.0 k.0, types_on xs ys zs h.1 k.1)
  types_on (more_of-TypeTree _ _) (more_of-TypeTree _ _) _ h k = absurd k
  types_on _ _ _ h k = absurd h

  pub basics_on : {l m n : _} → (xs : Row_of-BasicTree l) (ys : Row_of-BasicTree m) (zs : Row_of-BasicTree n) → SameBasics xs ys → SameBasics ys zs → SameBasics xs zs
  basics_on end_of-BasicTree end_of-BasicTree zs h k = k
  basics_on (more_of-BasicTree x xs) (more_of-BasicTree y ys) (more_of-BasicTree z zs) h k = (basic_on x y z h.0 k.0, basics_on xs ys zs h.1 k.1)
  basics_on (more_of-BasicTree _ _) (more_of-BasicTree _ _) _ h k = absurd k
  basics_on _ _ _ h k = absurd h

  pub braceds_on : {l m n : _} → (xs : Row_of-BracedTree l) (ys : Row_of-BracedTree m) (zs : Row_of-BracedTree n) → SameBraceds xs ys → SameBraceds ys zs → SameBraceds xs zs
  braceds_on end_of-BracedTree end_of-BracedTree zs h k = k
  braceds_on (more_of-BracedTree x xs) (more_of-BracedTree y ys) (more_of-BracedTree z zs) h k = (braced_on x y z h.0 k.0, braceds_on xs ys zs h.1 k.1)
  braceds_on (more_of-BracedTree _ _) (more_of-BracedTree _ _) _ h k = absurd k
  braceds_on _ _ _ h k = absurd h

  pub designators_on : {l m n : _} → (xs : Row_of-Designator l) (ys : Row_of-Designator m) (zs : Row_of-Designator n) → SameDesignators xs ys → SameDesignators ys zs → SameDesignators xs zs
  designators_on end_of-Designator end_of-Designator zs h k = k
  designators_on (more_of-Designator x xs) (more_of-Designator y ys) (more_of-Designator z zs) h k = (designator_on x y z h.0 k.0, designators_on xs ys zs h.1 k.1)
  designators_on (more_of-Designator _ _) (more_of-Designator _ _) _ h k = absurd k
  designators_on _ _ _ h k = absurd h

  pub argss_on : {l m n : _} → (xs : Row_of-ArgTrees l) (ys : Row_of-ArgTrees m) (zs : Row_of-ArgTrees n) → SameArgss xs ys → SameArgss ys zs → SameArgss xs zs
  argss_on end_of-ArgTrees end_of-ArgTrees zs h k = k
  argss_on (more_of-ArgTrees x xs) (more_of-ArgTrees y ys) (more_of-ArgTrees z zs) h k = (args_on x y z h.0 k.0, argss_on xs ys zs h.1 k.1)
  argss_on (more_of-ArgTrees _ _) (more_of-ArgTrees _ _) _ h k = absurd k
  argss_on _ _ _ h k = absurd h

  pub arg_list_on : {l m n : _} → (xs : Row_of-ArgTree l) (ys : Row_of-ArgTree m) (zs : Row_of-ArgTree n) → SameArgList xs ys → SameArgList ys zs → SameArgList xs zs
  arg_list_on end_of-ArgTree end_of-ArgTree zs h k = k
  arg_list_on (more_of-ArgTree x xs) (more_of-ArgTree y ys) (more_of-ArgTree z zs) h k = (arg_on x y z h.0 k.0, arg_list_on xs ys zs h.1 k.1)
  arg_list_on (more_of-ArgTree _ _) (more_of-ArgTree _ _) _ h k = absurd k
  arg_list_on _ _ _ h k = absurd h
