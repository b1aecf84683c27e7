-- What it is that each name in a tree is known, as one that has a number.
use Rattle.std.specs.Prelude.{All, IfSome}
use Rattle.cxx_base.specs.declared.name.Name.{Name}
use Rattle.cxx_tree.specs.declared.identifier.Identifier.{Identifier}
use Rattle.cxx_tree.specs.declared.identifier.NameTree.{NameTree}
use Rattle.cxx_tree.specs.declared.expr.Expr as expr
use Rattle.cxx_tree.specs.declared.expr.Expr.{Expr, Held-Expr-New-2, Held-Expr-New-3, Row_of-Expr, end_of-Expr, more_of-Expr}
use Rattle.cxx_tree.specs.declared.expr.Expr.{Row_of-ArgTrees, end_of-ArgTrees, more_of-ArgTrees}
use Rattle.cxx_tree.specs.declared.expr.Expr.{Row_of-BasicTree, end_of-BasicTree, more_of-BasicTree}
use Rattle.cxx_tree.specs.declared.expr.Expr.{Row_of-BracedTree, end_of-BracedTree, more_of-BracedTree}
use Rattle.cxx_tree.specs.declared.expr.Expr.{Row_of-NewInit, end_of-NewInit, more_of-NewInit}
use Rattle.cxx_tree.specs.declared.expr.Expr.{Row_of-Operation, end_of-Operation, more_of-Operation}
use Rattle.cxx_tree.specs.declared.expr.Expr.{Row_of-Suffix, end_of-Suffix, more_of-Suffix}
use Rattle.cxx_tree.specs.declared.expr.Expr.{Row_of-TypeTree, end_of-TypeTree, more_of-TypeTree}
use Rattle.cxx_tree.specs.declared.expr.ArgTree as arg
use Rattle.cxx_tree.specs.declared.expr.ArgTree.{ArgTree}
use Rattle.cxx_tree.specs.declared.expr.ArgTrees as args
use Rattle.cxx_tree.specs.declared.expr.ArgTrees.{ArgTrees, Row_of-ArgTree, end_of-ArgTree, more_of-ArgTree}
use Rattle.cxx_tree.specs.declared.expr.BasicTree as basic
use Rattle.cxx_tree.specs.declared.expr.BasicTree.{BasicTree}
use Rattle.cxx_tree.specs.declared.expr.BracedTree as braced
use Rattle.cxx_tree.specs.declared.expr.BracedTree.{BracedTree, Row_of-Designator, end_of-Designator, more_of-Designator}
use Rattle.cxx_tree.specs.declared.expr.Designator as designator
use Rattle.cxx_tree.specs.declared.expr.Designator.{Designator}
use Rattle.cxx_tree.specs.declared.expr.NewInit as init
use Rattle.cxx_tree.specs.declared.expr.NewInit.{NewInit}
use Rattle.cxx_tree.specs.declared.expr.Operation.TheVariants as operation
use Rattle.cxx_tree.specs.declared.expr.Operation.{Operation}
use Rattle.cxx_tree.specs.declared.expr.SpliceTree as splice
use Rattle.cxx_tree.specs.declared.expr.SpliceTree.{SpliceTree}
use Rattle.cxx_tree.specs.declared.expr.Suffix as suffix
use Rattle.cxx_tree.specs.declared.expr.Suffix.{Suffix}
use Rattle.cxx_tree.specs.declared.expr.TypeTree as type
use Rattle.cxx_tree.specs.declared.expr.TypeTree.{TypeTree}
use Rattle.cxx_tree.specs.declared.decl.AliasedTree.{AliasedTree}
use Rattle.cxx_tree.specs.declared.decl.AliasedTree.TheVariants as aliased-of
use Rattle.cxx_tree.specs.declared.decl.AliasTree.{AliasTree}
use Rattle.cxx_tree.specs.declared.decl.AssertTree.{AssertTree}
use Rattle.cxx_tree.specs.declared.stmt.BoundTree.{BoundTree}
use Rattle.cxx_tree.specs.declared.stmt.InitTree.{InitTree}
use Rattle.cxx_tree.specs.declared.stmt.InitTree.TheVariants as init-of
use Rattle.cxx_tree.specs.declared.stmt.LocalTree.{LocalTree}
use Rattle.cxx_tree.specs.declared.stmt.AssignTree.{AssignTree}
use Rattle.cxx_tree.specs.declared.stmt.AssignTree.TheVariants as assign-of
use Rattle.cxx_tree.specs.declared.stmt.Returned.{Returned}
use Rattle.cxx_tree.specs.declared.stmt.Returned.TheVariants as returned-of
use Rattle.cxx_tree.specs.declared.stmt.ForInit.{ForInit}
use Rattle.cxx_tree.specs.declared.stmt.ForInit.TheVariants as for_init-of
use Rattle.cxx_tree.specs.declared.stmt.ForStep.{ForStep}
use Rattle.cxx_tree.specs.declared.stmt.ForStep.TheVariants as for_step-of
use Rattle.cxx_tree.specs.declared.stmt.ForHead.{ForHead}
use Rattle.cxx_tree.specs.declared.stmt.ForRange.{ForRange}
use Rattle.cxx_tree.specs.declared.decl.VariableTree.{VariableTree}
use Rattle.cxx_tree.specs.declared.decl.ParameterTree.{ParameterTree}
use Rattle.cxx_tree.specs.declared.decl.EnumeratorTree.{EnumeratorTree}
use Rattle.cxx_tree.specs.declared.decl.EnumTree.{EnumTree}
use Rattle.cxx_tree.specs.declared.decl.BasedTree.{BasedTree}
use Rattle.cxx_tree.specs.declared.decl.BasedTree.TheVariants as based-of
use Rattle.cxx_tree.specs.declared.decl.BaseTree.{BaseTree}
use Rattle.cxx_tree.specs.declared.decl.MemberInitValue.{MemberInitValue}
use Rattle.cxx_tree.specs.declared.decl.MemberInitValue.TheVariants as member_init_value-of
use Rattle.cxx_tree.specs.declared.decl.MemberInit.{MemberInit}
use Rattle.cxx_tree.specs.declared.decl.NamespaceNamed.{NamespaceNamed}
use Rattle.cxx_tree.specs.declared.decl.NamespaceNamed.TheVariants as namespace_named-of
use Rattle.cxx_tree.specs.declared.decl.NamespaceAliasTree.{NamespaceAliasTree}
use Rattle.cxx_tree.specs.declared.stmt.Stmt as stmt
use Rattle.cxx_tree.specs.declared.stmt.Stmt.{Stmt, Held-Stmt-If-3, Row_of-Stmt, end_of-Stmt, more_of-Stmt, Row_of-ClassTree, end_of-ClassTree, more_of-ClassTree}
use Rattle.cxx_tree.specs.declared.stmt.BodyTree as body
use Rattle.cxx_tree.specs.declared.stmt.BodyTree.{BodyTree}
use Rattle.cxx_tree.specs.declared.decl.BlockTree.{BlockTree}
use Rattle.cxx_tree.specs.declared.decl.ClassTree as class
use Rattle.cxx_tree.specs.declared.decl.ClassTree.{ClassTree, Row_of-Member, end_of-Member, more_of-Member}
use Rattle.cxx_tree.specs.declared.decl.Member as member
use Rattle.cxx_tree.specs.declared.decl.Member.{Member, Held-FunctionTree-body, Row_of-BodyTree, end_of-BodyTree, more_of-BodyTree}
use Rattle.cxx_tree.specs.declared.decl.FunctionTree.{FunctionTree}
use Rattle.cxx_tree.specs.declared.decl.Decl.{Decl}
use Rattle.cxx_tree.specs.declared.decl.Decl.TheVariants as decl-of
use Rattle.cxx_tree.specs.declared.decl.Item.{Item}
use Rattle.cxx_tree.specs.declared.decl.Item.TheVariants as item-of

-- Each predicate says of a tree that each identifier in it has a name that is known, which is what the caller says.
module _ (IsKnown : Name → Type 0) where
  abbrev pub KnownIdentifier : Identifier → Type 0
  KnownIdentifier x = IsKnown x.name

  abbrev pub KnownName : NameTree → Type 0
  KnownName x = KnownIdentifier x.first × All KnownIdentifier x.more

  abbrev mutual
    pub Known : Expr → Type 0
    Known (expr.Integer _ _) = Unit {0}
    Known (expr.Character _ _) = Unit {0}
    Known (expr.Text _ _) = Unit {0}
    Known (expr.Truth _ _) = Unit {0}
    Known (expr.Nullptr _) = Unit {0}
    Known (expr.This _) = Unit {0}
    Known (expr.Name m) = KnownName m
    Known (expr.Paren' _ _ x) = KnownExprs x
    Known (expr.Splice x) = KnownSplice x
    Known (expr.Braced' _ _ t _ x) = KnownBasics t × KnownBraceds x
    Known (expr.FundCall _ _ x) = KnownArgs x
    Known (expr.TypenameCall' _ p _ x) = KnownSplice p × KnownArgss x
    Known (expr.StaticCast' _ _ t _ x) = KnownTypes t × KnownExprs x
    Known (expr.Extract' _ m _ t _ x) = KnownName m × KnownTypes t × KnownExprs x
    Known (expr.Postfix' _ _ x _ xs) = KnownExprs x × KnownSuffixes xs
    Known (expr.Unary' _ _ _ x) = KnownExprs x
    Known (expr.ReflectGlobal _) = Unit {0}
    Known (expr.Reflect' _ _ t) = KnownTypes t
    Known (expr.SizeofType' _ _ t) = KnownTypes t
    Known (expr.SizeofExpr' _ _ x) = KnownExprs x
    Known (expr.Delete' _ _ _ x) = KnownExprs x
    Known (expr.New' _ _ t x p) = KnownTypes t × KnownBound x × KnownInit p
    Known (expr.Chain' _ _ x _ xs) = KnownExprs x × KnownOperations xs
    Known (expr.Conditional' _ _ x _ y _ z) = KnownExprs x × KnownExprs y × KnownExprs z

    pub KnownOperation : Operation → Type 0
    KnownOperation (operation.Operation _ _ x) = Known x

    pub KnownSuffix : Suffix → Type 0
    KnownSuffix (suffix.Call x) = KnownArgs x
    KnownSuffix (suffix.Subscript' _ _ x) = KnownExprs x
    KnownSuffix (suffix.Member _ _ x) = KnownIdentifier x
    KnownSuffix (suffix.MemberSplice _ _ x) = KnownSplice x

    pub KnownNewInit : NewInit → Type 0
    KnownNewInit (init.Args x) = KnownArgs x
    KnownNewInit (init.Braced x) = KnownBraced x

    pub KnownSplice : SpliceTree → Type 0
    KnownSplice (splice.Splice' _ _ x) = KnownExprs x

    pub KnownType : TypeTree → Type 0
    KnownType (type.«Type» _ _ t _ _) = KnownBasic t

    pub KnownBasic : BasicTree → Type 0
    KnownBasic (basic.Fund _ _) = Unit {0}
    KnownBasic (basic.Name m) = KnownName m
    KnownBasic (basic.Typename _ x) = KnownSplice x
    KnownBasic (basic.Vector _ m) = KnownName m

    pub KnownBraced : BracedTree → Type 0
    KnownBraced (braced.Clauses' _ _ xs) = KnownArgList xs
    KnownBraced (braced.Designated' _ _ xs) = KnownDesignators xs

    pub KnownDesignator : Designator → Type 0
    KnownDesignator (designator.Equal _ m x) = KnownIdentifier m × KnownArg x
    KnownDesignator (designator.Braced _ m x) = KnownIdentifier m × KnownBraced x

    pub KnownArgs : ArgTrees → Type 0
    KnownArgs (args.Args' _ _ xs) = KnownArgList xs

    pub KnownArg : ArgTree → Type 0
    KnownArg (arg.Expr x) = Known x
    KnownArg (arg.Braced x) = KnownBraced x

    -- The bound and the initializer of `new`, where they are.
    pub KnownBound : Held-Expr-New-2 → Type 0
    KnownBound expr.Expr-New-2-None' = Unit {0}
    KnownBound (expr.Expr-New-2-Some' _ x) = KnownExprs x

    pub KnownInit : Held-Expr-New-3 → Type 0
    KnownInit expr.Expr-New-3-None' = Unit {0}
    KnownInit (expr.Expr-New-3-Some' _ x) = KnownNewInits x

    -- Rows of each kind.
    pub KnownExprs : {m : _} → Row_of-Expr m → Type 0
    KnownExprs end_of-Expr = Unit {0}
    KnownExprs (more_of-Expr x xs) = Known x × KnownExprs xs

    pub KnownOperations : {m : _} → Row_of-Operation m → Type 0
    KnownOperations end_of-Operation = Unit {0}
    KnownOperations (more_of-Operation x xs) = KnownOperation x × KnownOperations xs

    pub KnownSuffixes : {m : _} → Row_of-Suffix m → Type 0
    KnownSuffixes end_of-Suffix = Unit {0}
    KnownSuffixes (more_of-Suffix x xs) = KnownSuffix x × KnownSuffixes xs

    pub KnownNewInits : {m : _} → Row_of-NewInit m → Type 0
    KnownNewInits end_of-NewInit = Unit {0}
    KnownNewInits (more_of-NewInit x xs) = KnownNewInit x × KnownNewInits xs

    pub KnownTypes : {m : _} → Row_of-TypeTree m → Type 0
    KnownTypes end_of-TypeTree = Unit {0}
    KnownTypes (more_of-TypeTree x xs) = KnownType x × KnownTypes xs

    pub KnownBasics : {m : _} → Row_of-BasicTree m → Type 0
    KnownBasics end_of-BasicTree = Unit {0}
    KnownBasics (more_of-BasicTree x xs) = KnownBasic x × KnownBasics xs

    pub KnownBraceds : {m : _} → Row_of-BracedTree m → Type 0
    KnownBraceds end_of-BracedTree = Unit {0}
    KnownBraceds (more_of-BracedTree x xs) = KnownBraced x × KnownBraceds xs

    pub KnownDesignators : {m : _} → Row_of-Designator m → Type 0
    KnownDesignators end_of-Designator = Unit {0}
    KnownDesignators (more_of-Designator x xs) = KnownDesignator x × KnownDesignators xs

    pub KnownArgss : {m : _} → Row_of-ArgTrees m → Type 0
    KnownArgss end_of-ArgTrees = Unit {0}
    KnownArgss (more_of-ArgTrees x xs) = KnownArgs x × KnownArgss xs

    pub KnownArgList : {m : _} → Row_of-ArgTree m → Type 0
    KnownArgList end_of-ArgTree = Unit {0}
    KnownArgList (more_of-ArgTree x xs) = KnownArg x × KnownArgList xs

  abbrev pub KnownAliased : AliasedTree → Type 0
  KnownAliased (aliased-of.«Type» x) = KnownType x
  KnownAliased (aliased-of.Splice x) = KnownSplice x

  abbrev pub KnownAlias : AliasTree → Type 0
  KnownAlias x = KnownIdentifier x.name × KnownAliased x.of

  abbrev pub KnownAssert : AssertTree → Type 0
  KnownAssert x = Known x.condition

  abbrev pub KnownBoundTree : BoundTree → Type 0
  KnownBoundTree x = IfSome x.length Known

  abbrev pub KnownInitTree : InitTree → Type 0
  KnownInitTree (init-of.Equal x) = Known x
  KnownInitTree (init-of.EqualBraced x) = KnownBraced x
  KnownInitTree (init-of.Braced x) = KnownBraced x

  abbrev pub KnownLocal : LocalTree → Type 0
  KnownLocal x = KnownType x.of_type × KnownIdentifier x.name × All KnownBoundTree x.bounds × IfSome x.init KnownInitTree

  abbrev pub KnownAssign : AssignTree → Type 0
  KnownAssign (assign-of.Equal _ x y) = Known x × KnownArg y
  KnownAssign (assign-of.Compound _ _ x y) = Known x × Known y
  KnownAssign (assign-of.Step _ _ x) = Known x

  abbrev pub KnownReturned : Returned → Type 0
  KnownReturned (returned-of.Expr x) = Known x
  KnownReturned (returned-of.Braced x) = KnownBraced x

  abbrev pub KnownForInit : ForInit → Type 0
  KnownForInit (for_init-of.Local x) = KnownLocal x
  KnownForInit (for_init-of.Assign x) = KnownAssign x
  KnownForInit (for_init-of.Empty _) = Unit {0}

  abbrev pub KnownForStep : ForStep → Type 0
  KnownForStep (for_step-of.Assign x) = KnownAssign x
  KnownForStep (for_step-of.Expr x) = Known x

  abbrev pub KnownForHead : ForHead → Type 0
  KnownForHead x = KnownForInit x.first × IfSome x.condition Known × IfSome x.step KnownForStep

  abbrev pub KnownForRange : ForRange → Type 0
  KnownForRange x = KnownType x.of_type × KnownIdentifier x.name × Known x.over

  abbrev pub KnownVariable : VariableTree → Type 0
  KnownVariable x = KnownType x.of_type × KnownIdentifier x.name × All KnownBoundTree x.bounds × IfSome x.init KnownInitTree

  abbrev pub KnownParameter : ParameterTree → Type 0
  KnownParameter x = KnownType x.of_type × IfSome x.name KnownIdentifier

  abbrev pub KnownEnumerator : EnumeratorTree → Type 0
  KnownEnumerator x = KnownIdentifier x.name × IfSome x.value Known

  abbrev pub KnownEnum : EnumTree → Type 0
  KnownEnum x = KnownIdentifier x.name × IfSome x.underlying KnownType × All KnownEnumerator x.enumerators

  abbrev pub KnownBased : BasedTree → Type 0
  KnownBased (based-of.Name x) = KnownName x
  KnownBased (based-of.Splice x) = KnownSplice x
  KnownBased (based-of.Typename _ x) = KnownSplice x

  abbrev pub KnownBase : BaseTree → Type 0
  KnownBase x = KnownBased x.of

  abbrev pub KnownMemberValue : MemberInitValue → Type 0
  KnownMemberValue (member_init_value-of.Args x) = KnownArgs x
  KnownMemberValue (member_init_value-of.Braced x) = KnownBraced x

  abbrev pub KnownMemberInit : MemberInit → Type 0
  KnownMemberInit x = KnownName x.name × KnownMemberValue x.value

  abbrev pub KnownNamespace : NamespaceNamed → Type 0
  KnownNamespace (namespace_named-of.Name x) = KnownName x
  KnownNamespace (namespace_named-of.Splice x) = KnownSplice x

  abbrev pub KnownNamespaceAlias : NamespaceAliasTree → Type 0
  KnownNamespaceAlias x = KnownIdentifier x.name × KnownNamespace x.of

  abbrev mutual
    pub KnownStmt : Stmt → Type 0
    KnownStmt (stmt.Body x) = KnownBody x
    KnownStmt (stmt.Empty _) = Unit {0}
    KnownStmt (stmt.Assert x) = KnownAssert x
    KnownStmt (stmt.Alias x) = KnownAlias x
    KnownStmt (stmt.Class' _ (more_of-ClassTree x _)) = KnownClass x
    KnownStmt (stmt.Block' _ x) = KnownBody x
    KnownStmt (stmt.Local x) = KnownLocal x
    KnownStmt (stmt.Assign x) = KnownAssign x
    KnownStmt (stmt.Expr _ x) = Known x
    KnownStmt (stmt.If' _ x _ y z) = Known x × KnownStmts y × KnownElse z
    KnownStmt (stmt.While' _ x _ y) = Known x × KnownStmts y
    KnownStmt (stmt.For' _ x _ y) = KnownForHead x × KnownStmts y
    KnownStmt (stmt.RangeFor' _ x _ y) = KnownForRange x × KnownStmts y
    KnownStmt (stmt.Return _ x) = IfSome x KnownReturned
    KnownStmt (stmt.Break _) = Unit {0}
    KnownStmt (stmt.Continue _) = Unit {0}

    pub KnownBody : BodyTree → Type 0
    KnownBody (body.Body' _ _ xs) = KnownStmts xs

    pub KnownClass : ClassTree → Type 0
    KnownClass (class.Declared _ _ x) = KnownIdentifier x
    KnownClass (class.Defined' _ _ x xs _ ys) = KnownIdentifier x × All KnownBase xs × KnownMembers ys

    pub KnownMember : Member → Type 0
    KnownMember (member.Access _ _) = Unit {0}
    KnownMember (member.Empty _) = Unit {0}
    KnownMember (member.Alias x) = KnownAlias x
    KnownMember (member.Class x) = KnownClass x
    KnownMember (member.Enum x) = KnownEnum x
    KnownMember (member.Assert x) = KnownAssert x
    KnownMember (member.Block' _ x) = KnownBody x
    KnownMember (member.Data x) = KnownVariable x
    KnownMember (member.Function' _ _ x y xs _ _ z) = KnownType x × KnownIdentifier y × All KnownParameter xs × KnownBodyIfAny z
    KnownMember (member.Constructor' _ _ _ x xs _ ys _ z) = KnownIdentifier x × All KnownParameter xs × All KnownMemberInit ys × KnownBodies z
    KnownMember (member.Destructor' _ _ _ x _ y) = KnownIdentifier x × KnownBody y

    -- What stands behind `else`, and the body of a function, where they are.
    pub KnownElse : Held-Stmt-If-3 → Type 0
    KnownElse stmt.Stmt-If-3-None' = Unit {0}
    KnownElse (stmt.Stmt-If-3-Some' _ x) = KnownStmts x

    pub KnownBodyIfAny : Held-FunctionTree-body → Type 0
    KnownBodyIfAny member.FunctionTree-body-None' = Unit {0}
    KnownBodyIfAny (member.FunctionTree-body-Some' _ x) = KnownBodies x

    -- Rows of each kind.
    pub KnownStmts : {m : _} → Row_of-Stmt m → Type 0
    KnownStmts end_of-Stmt = Unit {0}
    KnownStmts (more_of-Stmt x xs) = KnownStmt x × KnownStmts xs

    pub KnownClasses : {m : _} → Row_of-ClassTree m → Type 0
    KnownClasses end_of-ClassTree = Unit {0}
    KnownClasses (more_of-ClassTree x xs) = KnownClass x × KnownClasses xs

    pub KnownMembers : {m : _} → Row_of-Member m → Type 0
    KnownMembers end_of-Member = Unit {0}
    KnownMembers (more_of-Member x xs) = KnownMember x × KnownMembers xs

    pub KnownBodies : {m : _} → Row_of-BodyTree m → Type 0
    KnownBodies end_of-BodyTree = Unit {0}
    KnownBodies (more_of-BodyTree x xs) = KnownBody x × KnownBodies xs

  abbrev pub KnownBlock : BlockTree → Type 0
  KnownBlock x = KnownBody x.body

  abbrev pub KnownFunction : FunctionTree → Type 0
  KnownFunction x = KnownType x.returned × KnownIdentifier x.name × All KnownParameter x.parameters × IfSome x.body KnownBody

  abbrev pub KnownDecl : Decl → Type 0
  KnownDecl (decl-of.NamespaceAlias x) = KnownNamespaceAlias x
  KnownDecl (decl-of.Alias x) = KnownAlias x
  KnownDecl (decl-of.Class x) = KnownClass x
  KnownDecl (decl-of.Enum x) = KnownEnum x
  KnownDecl (decl-of.Function x) = KnownFunction x
  KnownDecl (decl-of.Variable x) = KnownVariable x
  KnownDecl (decl-of.Assert x) = KnownAssert x
  KnownDecl (decl-of.Block x) = KnownBlock x

  abbrev pub KnownItem : Item → Type 0
  KnownItem (item-of.NamespaceHead _ xs) = All KnownIdentifier xs
  KnownItem (item-of.Close _) = Unit {0}
  KnownItem (item-of.Decl x) = KnownDecl x
  KnownItem (item-of.Empty _) = Unit {0}
