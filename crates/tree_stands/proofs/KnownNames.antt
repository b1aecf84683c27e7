-- A tree that stands among tokens whose names are known has names that are known.
use Rattle.std.proofs.Common.{◌≡◌, ℕ, ◌+◌, List, [], ◌∷◌, Option, None, Some, All, IfSome, slice_get}
use Rattle.std.proofs.lemmas.List.Elements.{All-nil, All-cons}
use Rattle.cxx_base.specs.declared.name.Name.{Name}
use Rattle.cxx_tokens.specs.declared.token.Token.{Token}
use Rattle.cxx_tokens.specs.declared.token.TokenKind.TheVariants as token_kind
use Rattle.cxx_tokens.specs.declared.token.Tokens.{Tokens}
use Rattle.cxx_tree.specs.declared.identifier.Identifier.{Identifier}
use Rattle.cxx_tree.specs.declared.identifier.NameTree.{NameTree}
use Rattle.cxx_tree.specs.declared.expr.Expr as expr
use Rattle.cxx_tree.specs.declared.expr.Expr.{Expr, Held-Expr-New-2, Held-Expr-New-3, Row_of-Expr, end_of-Expr, more_of-Expr}
use Rattle.cxx_tree.specs.declared.expr.Expr.{Row_of-ArgTrees, end_of-ArgTrees, more_of-ArgTrees}
use Rattle.cxx_tree.specs.declared.expr.Expr.{Row_of-BasicTree, end_of-BasicTree, more_of-BasicTree}
use Rattle.cxx_tree.specs.declared.expr.Expr.{Row_of-BracedTree, end_of-BracedTree, more_of-BracedTree}
use Rattle.cxx_tree.specs.declared.expr.Expr.{Row_of-NewInit, end_of-NewInit, more_of-NewInit}
use Rattle.cxx_tree.specs.declared.expr.Expr.{Row_of-Operation, end_of-Operation, more_of-Operation}
use Rattle.cxx_tree.specs.declared.expr.Expr.{Row_of-Suffix, end_of-Suffix, more_of-Suffix}
use Rattle.cxx_tree.specs.declared.expr.Expr.{Row_of-TypeTree, end_of-TypeTree, more_of-TypeTree}
use Rattle.cxx_tree.specs.declared.expr.ArgTree as arg
use Rattle.cxx_tree.specs.declared.expr.ArgTree.{ArgTree}
use Rattle.cxx_tree.specs.declared.expr.ArgTrees as args
use Rattle.cxx_tree.specs.declared.expr.ArgTrees.{ArgTrees, Row_of-ArgTree, end_of-ArgTree, more_of-ArgTree}
use Rattle.cxx_tree.specs.declared.expr.BasicTree as basic
use Rattle.cxx_tree.specs.declared.expr.BasicTree.{BasicTree}
use Rattle.cxx_tree.specs.declared.expr.BracedTree as braced
use Rattle.cxx_tree.specs.declared.expr.BracedTree.{BracedTree, Row_of-Designator, end_of-Designator, more_of-Designator}
use Rattle.cxx_tree.specs.declared.expr.Designator as designator
use Rattle.cxx_tree.specs.declared.expr.Designator.{Designator}
use Rattle.cxx_tree.specs.declared.expr.NewInit as init
use Rattle.cxx_tree.specs.declared.expr.NewInit.{NewInit}
use Rattle.cxx_tree.specs.declared.expr.Operation.TheVariants as operation
use Rattle.cxx_tree.specs.declared.expr.Operation.{Operation}
use Rattle.cxx_tree.specs.declared.expr.SpliceTree as splice
use Rattle.cxx_tree.specs.declared.expr.SpliceTree.{SpliceTree}
use Rattle.cxx_tree.specs.declared.expr.Suffix as suffix
use Rattle.cxx_tree.specs.declared.expr.Suffix.{Suffix}
use Rattle.cxx_tree.specs.declared.expr.TypeTree as type
use Rattle.cxx_tree.specs.declared.expr.TypeTree.{TypeTree}
use Rattle.cxx_tree.specs.declared.decl.AliasedTree.{AliasedTree}
use Rattle.cxx_tree.specs.declared.decl.AliasedTree.TheVariants as aliased-of
use Rattle.cxx_tree.specs.declared.decl.AliasTree.{AliasTree}
use Rattle.cxx_tree.specs.declared.decl.AssertTree.{AssertTree}
use Rattle.cxx_tree.specs.declared.stmt.BoundTree.{BoundTree}
use Rattle.cxx_tree.specs.declared.stmt.InitTree.{InitTree}
use Rattle.cxx_tree.specs.declared.stmt.InitTree.TheVariants as init-of
use Rattle.cxx_tree.specs.declared.stmt.LocalTree.{LocalTree}
use Rattle.cxx_tree.specs.declared.stmt.AssignTree.{AssignTree}
use Rattle.cxx_tree.specs.declared.stmt.AssignTree.TheVariants as assign-of
use Rattle.cxx_tree.specs.declared.stmt.Returned.{Returned}
use Rattle.cxx_tree.specs.declared.stmt.Returned.TheVariants as returned-of
use Rattle.cxx_tree.specs.declared.stmt.ForInit.{ForInit}
use Rattle.cxx_tree.specs.declared.stmt.ForInit.TheVariants as for_init-of
use Rattle.cxx_tree.specs.declared.stmt.ForStep.{ForStep}
use Rattle.cxx_tree.specs.declared.stmt.ForStep.TheVariants as for_step-of
use Rattle.cxx_tree.specs.declared.stmt.ForHead.{ForHead}
use Rattle.cxx_tree.specs.declared.stmt.ForRange.{ForRange}
use Rattle.cxx_tree.specs.declared.decl.VariableTree.{VariableTree}
use Rattle.cxx_tree.specs.declared.decl.ParameterTree.{ParameterTree}
use Rattle.cxx_tree.specs.declared.decl.EnumeratorTree.{EnumeratorTree}
use Rattle.cxx_tree.specs.declared.decl.EnumTree.{EnumTree}
use Rattle.cxx_tree.specs.declared.decl.BasedTree.{BasedTree}
use Rattle.cxx_tree.specs.declared.decl.BasedTree.TheVariants as based-of
use Rattle.cxx_tree.specs.declared.decl.BaseTree.{BaseTree}
use Rattle.cxx_tree.specs.declared.decl.MemberInitValue.{MemberInitValue}
use Rattle.cxx_tree.specs.declared.decl.MemberInitValue.TheVariants as member_init_value-of
use Rattle.cxx_tree.specs.declared.decl.MemberInit.{MemberInit}
use Rattle.cxx_tree.specs.declared.decl.NamespaceNamed.{NamespaceNamed}
use Rattle.cxx_tree.specs.declared.decl.NamespaceNamed.TheVariants as namespace_named-of
use Rattle.cxx_tree.specs.declared.decl.NamespaceAliasTree.{NamespaceAliasTree}
use Rattle.cxx_tree.specs.declared.stmt.Stmt as stmt
use Rattle.cxx_tree.specs.declared.stmt.Stmt.{Stmt, Held-Stmt-If-3, Row_of-Stmt, end_of-Stmt, more_of-Stmt, Row_of-ClassTree, end_of-ClassTree, more_of-ClassTree}
use Rattle.cxx_tree.specs.declared.stmt.BodyTree as body
use Rattle.cxx_tree.specs.declared.stmt.BodyTree.{BodyTree}
use Rattle.cxx_tree.specs.declared.decl.BlockTree.{BlockTree}
use Rattle.cxx_tree.specs.declared.decl.ClassTree as class
use Rattle.cxx_tree.specs.declared.decl.ClassTree.{ClassTree, Row_of-Member, end_of-Member, more_of-Member}
use Rattle.cxx_tree.specs.declared.decl.Member as member
use Rattle.cxx_tree.specs.declared.decl.Member.{Member, Held-FunctionTree-body, Row_of-BodyTree, end_of-BodyTree, more_of-BodyTree}
use Rattle.cxx_tree.specs.declared.decl.FunctionTree.{FunctionTree}
use Rattle.cxx_tree.specs.declared.decl.Decl.{Decl}
use Rattle.cxx_tree.specs.declared.decl.Decl.TheVariants as decl-of
use Rattle.cxx_tree.specs.declared.decl.Item.{Item}
use Rattle.cxx_tree.specs.declared.decl.Item.TheVariants as item-of
use Rattle.tree_stands.specs.Stands.{InOrder, IfAny, Stands, StandsAlias, StandsAliased, StandsArg, StandsArgList, StandsArgs, StandsArgss, StandsAssert, StandsAssign, StandsBase, StandsBased, StandsBasic, StandsBasics, StandsBlock, StandsBodies, StandsBody, StandsBodyIfAny, StandsBound, StandsBoundTree, StandsBraced, StandsBraceds, StandsClass, StandsClasses, StandsDecl, StandsDesignator, StandsDesignators, StandsElse, StandsEnum, StandsEnumerator, StandsExprs, StandsForHead, StandsForInit, StandsForRange, StandsForStep, StandsFunction, StandsIdentifier, StandsInit, StandsInitTree, StandsItem, StandsLocal, StandsMember, StandsMemberInit, StandsMemberValue, StandsMembers, StandsName, StandsNamespace, StandsNamespaceAlias, StandsNewInit, StandsNewInits, StandsOperation, StandsOperations, StandsParameter, StandsReturned, StandsSplice, StandsStmt, StandsStmts, StandsSuffix, StandsSuffixes, StandsType, StandsTypes, StandsVariable}
use Rattle.tree_stands.specs.Known.{Known, KnownAlias, KnownAliased, KnownArg, KnownArgList, KnownArgs, KnownArgss, KnownAssert, KnownAssign, KnownBase, KnownBased, KnownBasic, KnownBasics, KnownBlock, KnownBodies, KnownBody, KnownBodyIfAny, KnownBound, KnownBoundTree, KnownBraced, KnownBraceds, KnownClass, KnownClasses, KnownDecl, KnownDesignator, KnownDesignators, KnownElse, KnownEnum, KnownEnumerator, KnownExprs, KnownForHead, KnownForInit, KnownForRange, KnownForStep, KnownFunction, KnownIdentifier, KnownInit, KnownInitTree, KnownItem, KnownLocal, KnownMember, KnownMemberInit, KnownMemberValue, KnownMembers, KnownName, KnownNamespace, KnownNamespaceAlias, KnownNewInit, KnownNewInits, KnownOperation, KnownOperations, KnownParameter, KnownReturned, KnownSplice, KnownStmt, KnownStmts, KnownSuffix, KnownSuffixes, KnownType, KnownTypes, KnownVariable}

all_in_order : {A : Type 0} (StandsAt : ℕ → ℕ → A → Type 0) (P : A → Type 0) → ((i j : ℕ) (x : A) → StandsAt i j x → P x)
    → (i j : ℕ) (xs : List A) → InOrder StandsAt i j xs → All P xs
all_in_order StandsAt P f i j [] h = All-nil P
all_in_order StandsAt P f i j (x ∷ xs) h = All-cons P x xs (f h.0 h.1 x h.3) (all_in_order StandsAt P f h.1 j xs h.4)

if_any : {A : Type 0} (StandsAt : ℕ → ℕ → A → Type 0) (P : A → Type 0) → ((i j : ℕ) (x : A) → StandsAt i j x → P x)
    → (i j : ℕ) (o : Option A) → IfAny StandsAt i j o → IfSome o P
if_any StandsAt P f i j None h = tt
if_any StandsAt P f i j (Some x) h = f h.0 h.1 x h.3

module _ (tokens : Tokens) (P : Name → Type 0)
    (known : (i : ℕ) (t : Token) (n : Name) → slice_get tokens.list i ≡ Some t → t.kind ≡ token_kind.Identifier n → P n) where
  of_identifier : (i j : ℕ) (x : Identifier) → StandsIdentifier tokens i j x → KnownIdentifier P x
  of_identifier i j x h = known i h.2 x.name h.3 h.4

  pub of_name : (i j : ℕ) (x : NameTree) → StandsName tokens i j x → KnownName P x
  of_name i j x h = (
    (let g = h.2 in of_identifier g.0 g.1 x.first g.3),
    all_in_order (StandsIdentifier tokens) (KnownIdentifier P) of_identifier h.1 j x.more h.3,
  )

  mutual
    pub of_expr : (i j : ℕ) (x : Expr) → Stands tokens i j x → Known P x
    of_expr i j (expr.Integer _ _) h = tt
    of_expr i j (expr.Character _ _) h = tt
    of_expr i j (expr.Text _ _) h = tt
    of_expr i j (expr.Truth _ _) h = tt
    of_expr i j (expr.Nullptr _) h = tt
    of_expr i j (expr.This _) h = tt
    of_expr i j (expr.Name m) h = of_name i j m h
    of_expr i j (expr.Paren' _ _ x) h = of_exprs i j x h.1
    of_expr i j (expr.Splice x) h = of_splice i j x h
    of_expr i j (expr.Braced' _ _ t _ x) h = (of_basics i h.1 t h.2, of_braceds h.1 j x h.3)
    of_expr i j (expr.FundCall _ _ x) h = let g = h.1 in of_args g.0 g.1 x g.3
    of_expr i j (expr.TypenameCall' _ p _ x) h = ((let g = h.2 in of_splice g.0 g.1 p g.3), of_argss h.1 j x h.3)
    of_expr i j (expr.StaticCast' _ _ t _ x) h = (of_types i h.1 t h.2, of_exprs h.1 j x h.3)
    of_expr i j (expr.Extract' _ m _ t _ x) h = ((let g = h.3 in of_name g.0 g.1 m g.3), of_types h.1 h.2 t h.4, of_exprs h.2 j x h.5)
    of_expr i j (expr.Postfix' _ _ x _ xs) h = (of_exprs i h.1 x h.2, of_suffixes h.1 j xs h.3)
    of_expr i j (expr.Unary' _ _ _ x) h = of_exprs i j x h.1
    of_expr i j (expr.ReflectGlobal _) h = tt
    of_expr i j (expr.Reflect' _ _ t) h = of_types i j t h.1
    of_expr i j (expr.SizeofType' _ _ t) h = of_types i j t h.1
    of_expr i j (expr.SizeofExpr' _ _ x) h = of_exprs i j x h.1
    of_expr i j (expr.Delete' _ _ _ x) h = of_exprs i j x h.1
    of_expr i j (expr.New' _ _ t x p) h = (of_types i h.1 t h.3, of_bound h.1 h.2 x h.4, of_init h.2 j p h.5)
    of_expr i j (expr.Chain' _ _ x _ xs) h = (of_exprs i h.1 x h.2, of_operations h.1 j xs h.3)
    of_expr i j (expr.Conditional' _ _ x _ y _ z) h = (of_exprs i h.1 x h.3, of_exprs h.1 h.2 y h.4, of_exprs h.2 j z h.5)

    pub of_operation : (i j : ℕ) (x : Operation) → StandsOperation tokens i j x → KnownOperation P x
    of_operation i j (operation.Operation _ _ x) h = let g = h.1 in of_expr g.0 g.1 x g.3

    pub of_suffix : (i j : ℕ) (x : Suffix) → StandsSuffix tokens i j x → KnownSuffix P x
    of_suffix i j (suffix.Call x) h = of_args i j x h
    of_suffix i j (suffix.Subscript' _ _ x) h = of_exprs i j x h.1
    of_suffix i j (suffix.Member _ _ x) h = let g = h.1 in of_identifier g.0 g.1 x g.3
    of_suffix i j (suffix.MemberSplice _ _ x) h = let g = h.1 in of_splice g.0 g.1 x g.3

    pub of_new_init : (i j : ℕ) (x : NewInit) → StandsNewInit tokens i j x → KnownNewInit P x
    of_new_init i j (init.Args x) h = of_args i j x h
    of_new_init i j (init.Braced x) h = of_braced i j x h

    pub of_splice : (i j : ℕ) (x : SpliceTree) → StandsSplice tokens i j x → KnownSplice P x
    of_splice i j (splice.Splice' _ _ x) h = of_exprs i j x h.1

    pub of_type : (i j : ℕ) (x : TypeTree) → StandsType tokens i j x → KnownType P x
    of_type i j (type.«Type» _ _ t _ _) h = let g = h.1 in of_basic g.0 g.1 t g.3

    pub of_basic : (i j : ℕ) (x : BasicTree) → StandsBasic tokens i j x → KnownBasic P x
    of_basic i j (basic.Fund _ _) h = tt
    of_basic i j (basic.Name m) h = of_name i j m h
    of_basic i j (basic.Typename _ x) h = let g = h.1 in of_splice g.0 g.1 x g.3
    of_basic i j (basic.Vector _ m) h = let g = h.1 in of_name g.0 g.1 m g.3

    pub of_braced : (i j : ℕ) (x : BracedTree) → StandsBraced tokens i j x → KnownBraced P x
    of_braced i j (braced.Clauses' _ _ xs) h = of_arg_list i j xs h.1
    of_braced i j (braced.Designated' _ _ xs) h = of_designators i j xs h.1

    pub of_designator : (i j : ℕ) (x : Designator) → StandsDesignator tokens i j x → KnownDesignator P x
    of_designator i j (designator.Equal _ m x) h = ((let g = h.2 in of_identifier g.0 g.1 m g.3), (let g = h.3 in of_arg g.0 g.1 x g.3))
    of_designator i j (designator.Braced _ m x) h = ((let g = h.2 in of_identifier g.0 g.1 m g.3), (let g = h.3 in of_braced g.0 g.1 x g.3))

    pub of_args : (i j : ℕ) (x : ArgTrees) → StandsArgs tokens i j x → KnownArgs P x
    of_args i j (args.Args' _ _ xs) h = of_arg_list i j xs h.1

    pub of_arg : (i j : ℕ) (x : ArgTree) → StandsArg tokens i j x → KnownArg P x
    of_arg i j (arg.Expr x) h = of_expr i j x h
    of_arg i j (arg.Braced x) h = of_braced i j x h

    pub of_bound : (i j : ℕ) (x : Held-Expr-New-2) → StandsBound tokens i j x → KnownBound P x
    of_bound i j expr.Expr-New-2-None' h = tt
    of_bound i j (expr.Expr-New-2-Some' _ x) h = of_exprs i j x h

    pub of_init : (i j : ℕ) (x : Held-Expr-New-3) → StandsInit tokens i j x → KnownInit P x
    of_init i j expr.Expr-New-3-None' h = tt
    of_init i j (expr.Expr-New-3-Some' _ x) h = of_new_inits i j x h

    pub of_exprs : {m : _} (i j : ℕ) (x : Row_of-Expr m) → StandsExprs tokens i j x → KnownExprs P x
    of_exprs i j end_of-Expr h = tt
    of_exprs i j (more_of-Expr x xs) h = (of_expr h.0 h.1 x h.3, of_exprs h.1 j xs h.4)

    pub of_operations : {m : _} (i j : ℕ) (x : Row_of-Operation m) → StandsOperations tokens i j x → KnownOperations P x
    of_operations i j end_of-Operation h = tt
    of_operations i j (more_of-Operation x xs) h = (of_operation h.0 h.1 x h.3, of_operations h.1 j xs h.4)

    pub of_suffixes : {m : _} (i j : ℕ) (x : Row_of-Suffix m) → StandsSuffixes tokens i j x → KnownSuffixes P x
    of_suffixes i j end_of-Suffix h = tt
    of_suffixes i j (more_of-Suffix x xs) h = (of_suffix h.0 h.1 x h.3, of_suffixes h.1 j xs h.4)

    pub of_new_inits : {m : _} (i j : ℕ) (x : Row_of-NewInit m) → StandsNewInits tokens i j x → KnownNewInits P x
    of_new_inits i j end_of-NewInit h = tt
    of_new_inits i j (more_of-NewInit x xs) h = (of_new_init h.0 h.1 x h.3, of_new_inits h.1 j xs h.4)

    pub of_types : {m : _} (i j : ℕ) (x : Row_of-TypeTree m) → StandsTypes tokens i j x → KnownTypes P x
    of_types i j end_of-TypeTree h = tt
    of_types i j (more_of-TypeTree x xs) h = (of_type h.0 h.1 x h.3, of_types h.1 j xs h.4)

    pub of_basics : {m : _} (i j : ℕ) (x : Row_of-BasicTree m) → StandsBasics tokens i j x → KnownBasics P x
    of_basics i j end_of-BasicTree h = tt
    of_basics i j (more_of-BasicTree x xs) h = (of_basic h.0 h.1 x h.3, of_basics h.1 j xs h.4)

    pub of_braceds : {m : _} (i j : ℕ) (x : Row_of-BracedTree m) → StandsBraceds tokens i j x → KnownBraceds P x
    of_braceds i j end_of-BracedTree h = tt
    of_braceds i j (more_of-BracedTree x xs) h = (of_braced h.0 h.1 x h.3, of_braceds h.1 j xs h.4)

    pub of_designators : {m : _} (i j : ℕ) (x : Row_of-Designator m) → StandsDesignators tokens i j x → KnownDesignators P x
    of_designators i j end_of-Designator h = tt
    of_designators i j (more_of-Designator x xs) h = (of_designator h.0 h.1 x h.3, of_designators h.1 j xs h.4)

    pub of_argss : {m : _} (i j : ℕ) (x : Row_of-ArgTrees m) → StandsArgss tokens i j x → KnownArgss P x
    of_argss i j end_of-ArgTrees h = tt
    of_argss i j (more_of-ArgTrees x xs) h = (of_args h.0 h.1 x h.3, of_argss h.1 j xs h.4)

    pub of_arg_list : {m : _} (i j : ℕ) (x : Row_of-ArgTree m) → StandsArgList tokens i j x → KnownArgList P x
    of_arg_list i j end_of-ArgTree h = tt
    of_arg_list i j (more_of-ArgTree x xs) h = (of_arg h.0 h.1 x h.3, of_arg_list h.1 j xs h.4)

  pub of_aliased : (i j : ℕ) (x : AliasedTree) → StandsAliased tokens i j x → KnownAliased P x
  of_aliased i j (aliased-of.«Type» x) h = of_type i j x h
  of_aliased i j (aliased-of.Splice x) h = of_splice i j x h

  pub of_alias : (i j : ℕ) (x : AliasTree) → StandsAlias tokens i j x → KnownAlias P x
  of_alias i j x h = ((let g = h.2 in of_identifier g.0 g.1 x.name g.3), (let g = h.3 in of_aliased g.0 g.1 x.of g.3))

  pub of_assert : (i j : ℕ) (x : AssertTree) → StandsAssert tokens i j x → KnownAssert P x
  of_assert i j x h = let g = h.2 in of_expr g.0 g.1 x.condition g.3

  pub of_bound_tree : (i j : ℕ) (x : BoundTree) → StandsBoundTree tokens i j x → KnownBoundTree P x
  of_bound_tree i j x h = if_any (Stands tokens) (Known P) of_expr i j x.length h.1

  pub of_init_tree : (i j : ℕ) (x : InitTree) → StandsInitTree tokens i j x → KnownInitTree P x
  of_init_tree i j (init-of.Equal x) h = let g = h in of_expr g.0 g.1 x g.3
  of_init_tree i j (init-of.EqualBraced x) h = let g = h in of_braced g.0 g.1 x g.3
  of_init_tree i j (init-of.Braced x) h = of_braced i j x h

  pub of_local : (i j : ℕ) (x : LocalTree) → StandsLocal tokens i j x → KnownLocal P x
  of_local i j x h = (
    (let g = h.4 in of_type g.0 g.1 x.of_type g.3),
    (let g = h.5 in of_identifier g.0 g.1 x.name g.3),
    all_in_order (StandsBoundTree tokens) (KnownBoundTree P) of_bound_tree h.2 h.3 x.bounds h.6,
    if_any (StandsInitTree tokens) (KnownInitTree P) of_init_tree h.3 j x.init h.7,
  )

  pub of_assign : (i j : ℕ) (x : AssignTree) → StandsAssign tokens i j x → KnownAssign P x
  of_assign i j (assign-of.Equal _ x y) h = ((let g = h.2 in of_expr g.0 g.1 x g.3), (let g = h.3 in of_arg g.0 g.1 y g.3))
  of_assign i j (assign-of.Compound _ _ x y) h = ((let g = h.2 in of_expr g.0 g.1 x g.3), (let g = h.3 in of_expr g.0 g.1 y g.3))
  of_assign i j (assign-of.Step _ _ x) h = let g = h.1 in of_expr g.0 g.1 x g.3

  pub of_returned : (i j : ℕ) (x : Returned) → StandsReturned tokens i j x → KnownReturned P x
  of_returned i j (returned-of.Expr x) h = of_expr i j x h
  of_returned i j (returned-of.Braced x) h = of_braced i j x h

  pub of_for_init : (i j : ℕ) (x : ForInit) → StandsForInit tokens i j x → KnownForInit P x
  of_for_init i j (for_init-of.Local x) h = of_local i j x h
  of_for_init i j (for_init-of.Assign x) h = of_assign i h.0 x h.1
  of_for_init i j (for_init-of.Empty _) h = tt

  pub of_for_step : (i j : ℕ) (x : ForStep) → StandsForStep tokens i j x → KnownForStep P x
  of_for_step i j (for_step-of.Assign x) h = of_assign i j x h
  of_for_step i j (for_step-of.Expr x) h = of_expr i j x h

  pub of_for_head : (i j : ℕ) (x : ForHead) → StandsForHead tokens i j x → KnownForHead P x
  of_for_head i j x h = (
    (let g = h.2 in of_for_init g.0 g.1 x.first g.3),
    if_any (Stands tokens) (Known P) of_expr h.0 h.1 x.condition h.3,
    if_any (StandsForStep tokens) (KnownForStep P) of_for_step h.1 j x.step h.4,
  )

  pub of_for_range : (i j : ℕ) (x : ForRange) → StandsForRange tokens i j x → KnownForRange P x
  of_for_range i j x h = (
    (let g = h.2 in of_type g.0 g.1 x.of_type g.3),
    (let g = h.3 in of_identifier g.0 g.1 x.name g.3),
    (let g = h.4 in of_expr g.0 g.1 x.over g.3),
  )

  pub of_variable : (i j : ℕ) (x : VariableTree) → StandsVariable tokens i j x → KnownVariable P x
  of_variable i j x h = (
    (let g = h.4 in of_type g.0 g.1 x.of_type g.3),
    (let g = h.5 in of_identifier g.0 g.1 x.name g.3),
    all_in_order (StandsBoundTree tokens) (KnownBoundTree P) of_bound_tree h.2 h.3 x.bounds h.6,
    if_any (StandsInitTree tokens) (KnownInitTree P) of_init_tree h.3 j x.init h.7,
  )

  pub of_parameter : (i j : ℕ) (x : ParameterTree) → StandsParameter tokens i j x → KnownParameter P x
  of_parameter i j x h = (
    (let g = h.2 in of_type g.0 g.1 x.of_type g.3),
    if_any (StandsIdentifier tokens) (KnownIdentifier P) of_identifier h.1 j x.name h.3,
  )

  pub of_enumerator : (i j : ℕ) (x : EnumeratorTree) → StandsEnumerator tokens i j x → KnownEnumerator P x
  of_enumerator i j x h = ((let g = h.2 in of_identifier g.0 g.1 x.name g.3), if_any (Stands tokens) (Known P) of_expr h.1 j x.value h.3)

  pub of_enum : (i j : ℕ) (x : EnumTree) → StandsEnum tokens i j x → KnownEnum P x
  of_enum i j x h = (
    (let g = h.3 in of_identifier g.0 g.1 x.name g.3),
    if_any (StandsType tokens) (KnownType P) of_type h.1 h.2 x.underlying h.4,
    all_in_order (StandsEnumerator tokens) (KnownEnumerator P) of_enumerator h.2 j x.enumerators h.5,
  )

  pub of_based : (i j : ℕ) (x : BasedTree) → StandsBased tokens i j x → KnownBased P x
  of_based i j (based-of.Name x) h = of_name i j x h
  of_based i j (based-of.Splice x) h = of_splice i j x h
  of_based i j (based-of.Typename _ x) h = let g = h.1 in of_splice g.0 g.1 x g.3

  pub of_base : (i j : ℕ) (x : BaseTree) → StandsBase tokens i j x → KnownBase P x
  of_base i j x h = let g = h.1 in of_based g.0 g.1 x.of g.3

  pub of_member_value : (i j : ℕ) (x : MemberInitValue) → StandsMemberValue tokens i j x → KnownMemberValue P x
  of_member_value i j (member_init_value-of.Args x) h = of_args i j x h
  of_member_value i j (member_init_value-of.Braced x) h = of_braced i j x h

  pub of_member_init : (i j : ℕ) (x : MemberInit) → StandsMemberInit tokens i j x → KnownMemberInit P x
  of_member_init i j x h = ((let g = h.2 in of_name g.0 g.1 x.name g.3), (let g = h.3 in of_member_value g.0 g.1 x.value g.3))

  pub of_namespace : (i j : ℕ) (x : NamespaceNamed) → StandsNamespace tokens i j x → KnownNamespace P x
  of_namespace i j (namespace_named-of.Name x) h = of_name i j x h
  of_namespace i j (namespace_named-of.Splice x) h = of_splice i j x h

  pub of_namespace_alias : (i j : ℕ) (x : NamespaceAliasTree) → StandsNamespaceAlias tokens i j x → KnownNamespaceAlias P x
  of_namespace_alias i j x h = ((let g = h.2 in of_identifier g.0 g.1 x.name g.3), (let g = h.3 in of_namespace g.0 g.1 x.of g.3))

  mutual
    pub of_stmt : (i j : ℕ) (x : Stmt) → StandsStmt tokens i j x → KnownStmt P x
    of_stmt i j (stmt.Body x) h = of_body i j x h
    of_stmt i j (stmt.Empty _) h = tt
    of_stmt i j (stmt.Assert x) h = of_assert i j x h
    of_stmt i j (stmt.Alias x) h = of_alias i j x h
    of_stmt i j (stmt.Class' _ (more_of-ClassTree x _)) h = of_class i j x h
    of_stmt i j (stmt.Block' _ x) h = let g = h.1 in of_body g.0 g.1 x g.3
    of_stmt i j (stmt.Local x) h = of_local i j x h
    of_stmt i j (stmt.Assign x) h = of_assign i h.0 x h.1
    of_stmt i j (stmt.Expr _ x) h = let g = h.1 in of_expr g.0 g.1 x g.3
    of_stmt i j (stmt.If' _ x _ y z) h = ((let g = h.3 in of_expr g.0 g.1 x g.3), of_stmts h.1 h.2 y h.4, of_else h.2 j z h.5)
    of_stmt i j (stmt.While' _ x _ y) h = ((let g = h.2 in of_expr g.0 g.1 x g.3), of_stmts h.1 j y h.3)
    of_stmt i j (stmt.For' _ x _ y) h = ((let g = h.2 in of_for_head g.0 g.1 x g.3), of_stmts h.1 j y h.3)
    of_stmt i j (stmt.RangeFor' _ x _ y) h = ((let g = h.2 in of_for_range g.0 g.1 x g.3), of_stmts h.1 j y h.3)
    of_stmt i j (stmt.Return _ x) h = if_any (StandsReturned tokens) (KnownReturned P) of_returned i j x h.1
    of_stmt i j (stmt.Break _) h = tt
    of_stmt i j (stmt.Continue _) h = tt

    pub of_body : (i j : ℕ) (x : BodyTree) → StandsBody tokens i j x → KnownBody P x
    of_body i j (body.Body' _ _ xs) h = of_stmts i j xs h.1

    pub of_class : (i j : ℕ) (x : ClassTree) → StandsClass tokens i j x → KnownClass P x
    of_class i j (class.Declared _ _ x) h = let g = h.1 in of_identifier g.0 g.1 x g.3
    of_class i j (class.Defined' _ _ x xs _ ys) h = (
      (let g = h.3 in of_identifier g.0 g.1 x g.3),
      all_in_order (StandsBase tokens) (KnownBase P) of_base h.1 h.2 xs h.4,
      of_members h.2 j ys h.5,
    )

    pub of_member : (i j : ℕ) (x : Member) → StandsMember tokens i j x → KnownMember P x
    of_member i j (member.Access _ _) h = tt
    of_member i j (member.Empty _) h = tt
    of_member i j (member.Alias x) h = of_alias i j x h
    of_member i j (member.Class x) h = of_class i j x h
    of_member i j (member.Enum x) h = of_enum i j x h
    of_member i j (member.Assert x) h = of_assert i j x h
    of_member i j (member.Block' _ x) h = let g = h.1 in of_body g.0 g.1 x g.3
    of_member i j (member.Data x) h = of_variable i j x h
    of_member i j (member.Function' _ _ x y xs _ _ z) h = (
      (let g = h.4 in of_type g.0 g.1 x g.3),
      (let g = h.5 in of_identifier g.0 g.1 y g.3),
      all_in_order (StandsParameter tokens) (KnownParameter P) of_parameter h.2 h.3 xs h.6,
      of_body_if_any h.3 j z h.7,
    )
    of_member i j (member.Constructor' _ _ _ x xs _ ys _ z) h = (
      (let g = h.4 in of_identifier g.0 g.1 x g.3),
      all_in_order (StandsParameter tokens) (KnownParameter P) of_parameter h.1 h.2 xs h.5,
      all_in_order (StandsMemberInit tokens) (KnownMemberInit P) of_member_init h.2 h.3 ys h.6,
      of_bodies h.3 j z h.7,
    )
    of_member i j (member.Destructor' _ _ _ x _ y) h = (of_identifier (h.1 + 1) (h.1 + 2) x h.4, (let g = h.5 in of_body g.0 g.1 y g.3))

    pub of_else : (i j : ℕ) (x : Held-Stmt-If-3) → StandsElse tokens i j x → KnownElse P x
    of_else i j stmt.Stmt-If-3-None' h = tt
    of_else i j (stmt.Stmt-If-3-Some' _ x) h = of_stmts i j x h

    pub of_body_if_any : (i j : ℕ) (x : Held-FunctionTree-body) → StandsBodyIfAny tokens i j x → KnownBodyIfAny P x
    of_body_if_any i j member.FunctionTree-body-None' h = tt
    of_body_if_any i j (member.FunctionTree-body-Some' _ x) h = of_bodies i j x h

    pub of_stmts : {m : _} (i j : ℕ) (x : Row_of-Stmt m) → StandsStmts tokens i j x → KnownStmts P x
    of_stmts i j end_of-Stmt h = tt
    of_stmts i j (more_of-Stmt x xs) h = (of_stmt h.0 h.1 x h.3, of_stmts h.1 j xs h.4)

    pub of_classes : {m : _} (i j : ℕ) (x : Row_of-ClassTree m) → StandsClasses tokens i j x → KnownClasses P x
    of_classes i j end_of-ClassTree h = tt
    of_classes i j (more_of-ClassTree x xs) h = (of_class h.0 h.1 x h.3, of_classes h.1 j xs h.4)

    pub of_members : {m : _} (i j : ℕ) (x : Row_of-Member m) → StandsMembers tokens i j x → KnownMembers P x
    of_members i j end_of-Member h = tt
    of_members i j (more_of-Member x xs) h = (of_member h.0 h.1 x h.3, of_members h.1 j xs h.4)

    pub of_bodies : {m : _} (i j : ℕ) (x : Row_of-BodyTree m) → StandsBodies tokens i j x → KnownBodies P x
    of_bodies i j end_of-BodyTree h = tt
    of_bodies i j (more_of-BodyTree x xs) h = (of_body h.0 h.1 x h.3, of_bodies h.1 j xs h.4)

  pub of_block : (i j : ℕ) (x : BlockTree) → StandsBlock tokens i j x → KnownBlock P x
  of_block i j x h = let g = h.1 in of_body g.0 g.1 x.body g.3

  pub of_function : (i j : ℕ) (x : FunctionTree) → StandsFunction tokens i j x → KnownFunction P x
  of_function i j x h = (
    (let g = h.4 in of_type g.0 g.1 x.returned g.3),
    (let g = h.5 in of_identifier g.0 g.1 x.name g.3),
    all_in_order (StandsParameter tokens) (KnownParameter P) of_parameter h.2 h.3 x.parameters h.6,
    if_any (StandsBody tokens) (KnownBody P) of_body h.3 j x.body h.7,
  )

  pub of_decl : (i j : ℕ) (x : Decl) → StandsDecl tokens i j x → KnownDecl P x
  of_decl i j (decl-of.NamespaceAlias x) h = of_namespace_alias i j x h
  of_decl i j (decl-of.Alias x) h = of_alias i j x h
  of_decl i j (decl-of.Class x) h = of_class i j x h
  of_decl i j (decl-of.Enum x) h = of_enum i j x h
  of_decl i j (decl-of.Function x) h = of_function i j x h
  of_decl i j (decl-of.Variable x) h = of_variable i j x h
  of_decl i j (decl-of.Assert x) h = of_assert i j x h
  of_decl i j (decl-of.Block x) h = of_block i j x h

  pub of_item : (i j : ℕ) (x : Item) → StandsItem tokens i j x → KnownItem P x
  of_item i j (item-of.NamespaceHead _ xs) h = all_in_order (StandsIdentifier tokens) (KnownIdentifier P) of_identifier i j xs h.1
  of_item i j (item-of.Close _) h = tt
  of_item i j (item-of.Decl x) h = of_decl i j x h
  of_item i j (item-of.Empty _) h = tt
