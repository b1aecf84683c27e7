-- What it is that a tree stands where it was read.
use Rattle.std.specs.Prelude.{ℕ, ◌+◌, ◌≡◌, ◌≤◌, ◌<◌, true, List, [], ◌∷◌, length, slice_get, Option, None, Some}
use Rattle.cxx_base.specs.declared.place.Place.{Place}
use Rattle.cxx_base.specs.declared.place.Span.{Span}
use Rattle.cxx_tokens.specs.declared.mark.TheConstants.{TILDE}
use Rattle.cxx_tokens.specs.declared.token.Token.{Token}
use Rattle.cxx_tokens.specs.declared.token.TokenKind.TheVariants as token_kind
use Rattle.cxx_tokens.specs.declared.token.Tokens.{Tokens}
use Rattle.cxx_reading.specs.Reading.{span, place_of, sees_punctuator}
use Rattle.cxx_tree.specs.declared.identifier.Identifier.{Identifier}
use Rattle.cxx_tree.specs.declared.identifier.NameTree.{NameTree}
use Rattle.cxx_tree.specs.declared.expr.Expr as expr
use Rattle.cxx_tree.specs.declared.expr.Expr.{Expr, Held-Expr-New-2, Held-Expr-New-3, Row_of-Expr, end_of-Expr, more_of-Expr}
use Rattle.cxx_tree.specs.declared.expr.Expr.{Row_of-ArgTrees, end_of-ArgTrees, more_of-ArgTrees}
use Rattle.cxx_tree.specs.declared.expr.Expr.{Row_of-BasicTree, end_of-BasicTree, more_of-BasicTree}
use Rattle.cxx_tree.specs.declared.expr.Expr.{Row_of-BracedTree, end_of-BracedTree, more_of-BracedTree}
use Rattle.cxx_tree.specs.declared.expr.Expr.{Row_of-NewInit, end_of-NewInit, more_of-NewInit}
use Rattle.cxx_tree.specs.declared.expr.Expr.{Row_of-Operation, end_of-Operation, more_of-Operation}
use Rattle.cxx_tree.specs.declared.expr.Expr.{Row_of-Suffix, end_of-Suffix, more_of-Suffix}
use Rattle.cxx_tree.specs.declared.expr.Expr.{Row_of-TypeTree, end_of-TypeTree, more_of-TypeTree}
use Rattle.cxx_tree.specs.declared.expr.ArgTree as arg
use Rattle.cxx_tree.specs.declared.expr.ArgTree.{ArgTree}
use Rattle.cxx_tree.specs.declared.expr.ArgTrees as args
use Rattle.cxx_tree.specs.declared.expr.ArgTrees.{ArgTrees, Row_of-ArgTree, end_of-ArgTree, more_of-ArgTree}
use Rattle.cxx_tree.specs.declared.expr.BasicTree as basic
use Rattle.cxx_tree.specs.declared.expr.BasicTree.{BasicTree}
use Rattle.cxx_tree.specs.declared.expr.BracedTree as braced
use Rattle.cxx_tree.specs.declared.expr.BracedTree.{BracedTree, Row_of-Designator, end_of-Designator, more_of-Designator}
use Rattle.cxx_tree.specs.declared.expr.Designator as designator
use Rattle.cxx_tree.specs.declared.expr.Designator.{Designator}
use Rattle.cxx_tree.specs.declared.expr.NewInit as init
use Rattle.cxx_tree.specs.declared.expr.NewInit.{NewInit}
use Rattle.cxx_tree.specs.declared.expr.Operation.TheVariants as operation
use Rattle.cxx_tree.specs.declared.expr.Operation.{Operation}
use Rattle.cxx_tree.specs.declared.expr.SpliceTree as splice
use Rattle.cxx_tree.specs.declared.expr.SpliceTree.{SpliceTree}
use Rattle.cxx_tree.specs.declared.expr.Suffix as suffix
use Rattle.cxx_tree.specs.declared.expr.Suffix.{Suffix}
use Rattle.cxx_tree.specs.declared.expr.TypeTree as type
use Rattle.cxx_tree.specs.declared.expr.TypeTree.{TypeTree}
use Rattle.cxx_tree.specs.declared.decl.AliasedTree.{AliasedTree}
use Rattle.cxx_tree.specs.declared.decl.AliasedTree.TheVariants as aliased-of
use Rattle.cxx_tree.specs.declared.decl.AliasTree.{AliasTree}
use Rattle.cxx_tree.specs.declared.decl.AssertTree.{AssertTree}
use Rattle.cxx_tree.specs.declared.stmt.BoundTree.{BoundTree}
use Rattle.cxx_tree.specs.declared.stmt.InitTree.{InitTree}
use Rattle.cxx_tree.specs.declared.stmt.InitTree.TheVariants as init-of
use Rattle.cxx_tree.specs.declared.stmt.LocalTree.{LocalTree}
use Rattle.cxx_tree.specs.declared.stmt.AssignTree.{AssignTree}
use Rattle.cxx_tree.specs.declared.stmt.AssignTree.TheVariants as assign-of
use Rattle.cxx_tree.specs.declared.stmt.Returned.{Returned}
use Rattle.cxx_tree.specs.declared.stmt.Returned.TheVariants as returned-of
use Rattle.cxx_tree.specs.declared.stmt.ForInit.{ForInit}
use Rattle.cxx_tree.specs.declared.stmt.ForInit.TheVariants as for_init-of
use Rattle.cxx_tree.specs.declared.stmt.ForStep.{ForStep}
use Rattle.cxx_tree.specs.declared.stmt.ForStep.TheVariants as for_step-of
use Rattle.cxx_tree.specs.declared.stmt.ForHead.{ForHead}
use Rattle.cxx_tree.specs.declared.stmt.ForRange.{ForRange}
use Rattle.cxx_tree.specs.declared.decl.VariableTree.{VariableTree}
use Rattle.cxx_tree.specs.declared.decl.ParameterTree.{ParameterTree}
use Rattle.cxx_tree.specs.declared.decl.EnumeratorTree.{EnumeratorTree}
use Rattle.cxx_tree.specs.declared.decl.EnumTree.{EnumTree}
use Rattle.cxx_tree.specs.declared.decl.BasedTree.{BasedTree}
use Rattle.cxx_tree.specs.declared.decl.BasedTree.TheVariants as based-of
use Rattle.cxx_tree.specs.declared.decl.BaseTree.{BaseTree}
use Rattle.cxx_tree.specs.declared.decl.MemberInitValue.{MemberInitValue}
use Rattle.cxx_tree.specs.declared.decl.MemberInitValue.TheVariants as member_init_value-of
use Rattle.cxx_tree.specs.declared.decl.MemberInit.{MemberInit}
use Rattle.cxx_tree.specs.declared.decl.NamespaceNamed.{NamespaceNamed}
use Rattle.cxx_tree.specs.declared.decl.NamespaceNamed.TheVariants as namespace_named-of
use Rattle.cxx_tree.specs.declared.decl.NamespaceAliasTree.{NamespaceAliasTree}
use Rattle.cxx_tree.specs.declared.stmt.Stmt as stmt
use Rattle.cxx_tree.specs.declared.stmt.Stmt.{Stmt, Held-Stmt-If-3, Row_of-Stmt, end_of-Stmt, more_of-Stmt, Row_of-ClassTree, end_of-ClassTree, more_of-ClassTree}
use Rattle.cxx_tree.specs.declared.stmt.BodyTree as body
use Rattle.cxx_tree.specs.declared.stmt.BodyTree.{BodyTree}
use Rattle.cxx_tree.specs.declared.decl.BlockTree.{BlockTree}
use Rattle.cxx_tree.specs.declared.decl.ClassTree as class
use Rattle.cxx_tree.specs.declared.decl.ClassTree.{ClassTree, Row_of-Member, end_of-Member, more_of-Member}
use Rattle.cxx_tree.specs.declared.decl.Member as member
use Rattle.cxx_tree.specs.declared.decl.Member.{Member, Held-FunctionTree-body, Row_of-BodyTree, end_of-BodyTree, more_of-BodyTree}
use Rattle.cxx_tree.specs.declared.decl.FunctionTree.{FunctionTree}
use Rattle.cxx_tree.specs.declared.decl.Decl.{Decl}
use Rattle.cxx_tree.specs.declared.decl.Decl.TheVariants as decl-of
use Rattle.cxx_tree.specs.declared.decl.Item.{Item}
use Rattle.cxx_tree.specs.declared.decl.Item.TheVariants as item-of

-- Where trees stand among the tokens of a text. Each predicate says of a tree that it was read from the tokens i up to, but not
-- with, j, and from all of them: its span is theirs, and its parts stand in order among them, each from the tokens that its own
-- span says. So no two parts share a token, and each identifier is the token at its place.

-- Something stands in some of the tokens from i up to j. Others may stand before and behind it.
abbrev pub Among : (ℕ → ℕ → Type 0) → ℕ → ℕ → Type 0
Among StandsAt i j = (a b : ℕ) × (i ≤ a) × StandsAt a b × (b ≤ j)

-- the same of each of a list, one behind the other
abbrev pub InOrder : {A : Type 0} → (ℕ → ℕ → A → Type 0) → ℕ → ℕ → List A → Type 0
InOrder StandsAt i j [] = i ≤ j
InOrder StandsAt i j (x ∷ xs) = (a b : ℕ) × (i ≤ a) × StandsAt a b x × InOrder StandsAt b j xs

-- the same of what may be missing
abbrev pub IfAny : {A : Type 0} → (ℕ → ℕ → A → Type 0) → ℕ → ℕ → Option A → Type 0
IfAny StandsAt i j None = i ≤ j
IfAny StandsAt i j (Some x) = Among (λ a b. StandsAt a b x) i j

module _ (tokens : Tokens) where
  -- the span of these tokens, of which there is at least one, and none behind the last
  abbrev pub Spans : ℕ → ℕ → Span → Type 0
  Spans i j s = (s ≡ span tokens i j) × (i < j) × (j ≤ length tokens.list)

  -- one token, which is an identifier of this name
  abbrev pub StandsIdentifier : ℕ → ℕ → Identifier → Type 0
  StandsIdentifier i j x = Spans i j x.span × (j ≡ i + 1) × (t : Token) × (slice_get tokens.list i ≡ Some t) × (t.kind ≡ token_kind.Identifier x.name)

  abbrev pub StandsName : ℕ → ℕ → NameTree → Type 0
  StandsName i j x = Spans i j x.span × (k : ℕ) × Among (λ a b. StandsIdentifier a b x.first) i k × InOrder StandsIdentifier k j x.more

  abbrev mutual
    pub Stands : ℕ → ℕ → Expr → Type 0
    Stands i j (expr.Integer s _) = Spans i j s
    Stands i j (expr.Character s _) = Spans i j s
    Stands i j (expr.Text s _) = Spans i j s
    Stands i j (expr.Truth s _) = Spans i j s
    Stands i j (expr.Nullptr s) = Spans i j s
    Stands i j (expr.This s) = Spans i j s
    Stands i j (expr.Name m) = StandsName i j m
    Stands i j (expr.Paren' s _ x) = Spans i j s × StandsExprs i j x
    Stands i j (expr.Splice x) = StandsSplice i j x
    Stands i j (expr.Braced' s _ t _ x) = Spans i j s × (k : ℕ) × StandsBasics i k t × StandsBraceds k j x
    Stands i j (expr.FundCall s _ x) = Spans i j s × Among (λ a b. StandsArgs a b x) i j
    Stands i j (expr.TypenameCall' s p _ x) = Spans i j s × (k : ℕ) × Among (λ a b. StandsSplice a b p) i k × StandsArgss k j x
    Stands i j (expr.StaticCast' s _ t _ x) = Spans i j s × (k : ℕ) × StandsTypes i k t × StandsExprs k j x
    Stands i j (expr.Extract' s m _ t _ x) = Spans i j s × (k l : ℕ) × Among (λ a b. StandsName a b m) i k × StandsTypes k l t × StandsExprs l j x
    Stands i j (expr.Postfix' s _ x _ xs) = Spans i j s × (k : ℕ) × StandsExprs i k x × StandsSuffixes k j xs
    Stands i j (expr.Unary' s _ _ x) = Spans i j s × StandsExprs i j x
    Stands i j (expr.ReflectGlobal s) = Spans i j s
    Stands i j (expr.Reflect' s _ t) = Spans i j s × StandsTypes i j t
    Stands i j (expr.SizeofType' s _ t) = Spans i j s × StandsTypes i j t
    Stands i j (expr.SizeofExpr' s _ x) = Spans i j s × StandsExprs i j x
    Stands i j (expr.Delete' s _ _ x) = Spans i j s × StandsExprs i j x
    Stands i j (expr.New' s _ t x p) = Spans i j s × (k l : ℕ) × StandsTypes i k t × StandsBound k l x × StandsInit l j p
    Stands i j (expr.Chain' s _ x _ xs) = Spans i j s × (k : ℕ) × StandsExprs i k x × StandsOperations k j xs
    Stands i j (expr.Conditional' s _ x _ y _ z) = Spans i j s × (k l : ℕ) × StandsExprs i k x × StandsExprs k l y × StandsExprs l j z

    pub StandsOperation : ℕ → ℕ → Operation → Type 0
    StandsOperation i j (operation.Operation s _ x) = Spans i j s × Among (λ a b. Stands a b x) i j

    pub StandsSuffix : ℕ → ℕ → Suffix → Type 0
    StandsSuffix i j (suffix.Call x) = StandsArgs i j x
    StandsSuffix i j (suffix.Subscript' s _ x) = Spans i j s × StandsExprs i j x
    StandsSuffix i j (suffix.Member s _ x) = Spans i j s × Among (λ a b. StandsIdentifier a b x) i j
    StandsSuffix i j (suffix.MemberSplice s _ x) = Spans i j s × Among (λ a b. StandsSplice a b x) i j

    pub StandsNewInit : ℕ → ℕ → NewInit → Type 0
    StandsNewInit i j (init.Args x) = StandsArgs i j x
    StandsNewInit i j (init.Braced x) = StandsBraced i j x

    pub StandsSplice : ℕ → ℕ → SpliceTree → Type 0
    StandsSplice i j (splice.Splice' s _ x) = Spans i j s × StandsExprs i j x

    pub StandsType : ℕ → ℕ → TypeTree → Type 0
    StandsType i j (type.«Type» s _ t _ _) = Spans i j s × Among (λ a b. StandsBasic a b t) i j

    pub StandsBasic : ℕ → ℕ → BasicTree → Type 0
    StandsBasic i j (basic.Fund s _) = Spans i j s
    StandsBasic i j (basic.Name m) = StandsName i j m
    StandsBasic i j (basic.Typename s x) = Spans i j s × Among (λ a b. StandsSplice a b x) i j
    StandsBasic i j (basic.Vector s m) = Spans i j s × Among (λ a b. StandsName a b m) i j

    pub StandsBraced : ℕ → ℕ → BracedTree → Type 0
    StandsBraced i j (braced.Clauses' s _ xs) = Spans i j s × StandsArgList i j xs
    StandsBraced i j (braced.Designated' s _ xs) = Spans i j s × StandsDesignators i j xs

    pub StandsDesignator : ℕ → ℕ → Designator → Type 0
    StandsDesignator i j (designator.Equal s m x) = Spans i j s × (k : ℕ) × Among (λ a b. StandsIdentifier a b m) i k
        × Among (λ a b. StandsArg a b x) k j
    StandsDesignator i j (designator.Braced s m x) = Spans i j s × (k : ℕ) × Among (λ a b. StandsIdentifier a b m) i k
        × Among (λ a b. StandsBraced a b x) k j

    pub StandsArgs : ℕ → ℕ → ArgTrees → Type 0
    StandsArgs i j (args.Args' s _ xs) = Spans i j s × StandsArgList i j xs

    pub StandsArg : ℕ → ℕ → ArgTree → Type 0
    StandsArg i j (arg.Expr x) = Stands i j x
    StandsArg i j (arg.Braced x) = StandsBraced i j x

    -- The bound and the initializer of `new`, where they are.
    pub StandsBound : ℕ → ℕ → Held-Expr-New-2 → Type 0
    StandsBound i j expr.Expr-New-2-None' = i ≤ j
    StandsBound i j (expr.Expr-New-2-Some' _ x) = StandsExprs i j x

    pub StandsInit : ℕ → ℕ → Held-Expr-New-3 → Type 0
    StandsInit i j expr.Expr-New-3-None' = i ≤ j
    StandsInit i j (expr.Expr-New-3-Some' _ x) = StandsNewInits i j x

    -- Rows of each kind.
    pub StandsExprs : {m : _} → ℕ → ℕ → Row_of-Expr m → Type 0
    StandsExprs i j end_of-Expr = i ≤ j
    StandsExprs i j (more_of-Expr x xs) = (a b : ℕ) × (i ≤ a) × Stands a b x × StandsExprs b j xs

    pub StandsOperations : {m : _} → ℕ → ℕ → Row_of-Operation m → Type 0
    StandsOperations i j end_of-Operation = i ≤ j
    StandsOperations i j (more_of-Operation x xs) = (a b : ℕ) × (i ≤ a) × StandsOperation a b x × StandsOperations b j xs

    pub StandsSuffixes : {m : _} → ℕ → ℕ → Row_of-Suffix m → Type 0
    StandsSuffixes i j end_of-Suffix = i ≤ j
    StandsSuffixes i j (more_of-Suffix x xs) = (a b : ℕ) × (i ≤ a) × StandsSuffix a b x × StandsSuffixes b j xs

    pub StandsNewInits : {m : _} → ℕ → ℕ → Row_of-NewInit m → Type 0
    StandsNewInits i j end_of-NewInit = i ≤ j
    StandsNewInits i j (more_of-NewInit x xs) = (a b : ℕ) × (i ≤ a) × StandsNewInit a b x × StandsNewInits b j xs

    pub StandsTypes : {m : _} → ℕ → ℕ → Row_of-TypeTree m → Type 0
    StandsTypes i j end_of-TypeTree = i ≤ j
    StandsTypes i j (more_of-TypeTree x xs) = (a b : ℕ) × (i ≤ a) × StandsType a b x × StandsTypes b j xs

    pub StandsBasics : {m : _} → ℕ → ℕ → Row_of-BasicTree m → Type 0
    StandsBasics i j end_of-BasicTree = i ≤ j
    StandsBasics i j (more_of-BasicTree x xs) = (a b : ℕ) × (i ≤ a) × StandsBasic a b x × StandsBasics b j xs

    pub StandsBraceds : {m : _} → ℕ → ℕ → Row_of-BracedTree m → Type 0
    StandsBraceds i j end_of-BracedTree = i ≤ j
    StandsBraceds i j (more_of-BracedTree x xs) = (a b : ℕ) × (i ≤ a) × StandsBraced a b x × StandsBraceds b j xs

    pub StandsDesignators : {m : _} → ℕ → ℕ → Row_of-Designator m → Type 0
    StandsDesignators i j end_of-Designator = i ≤ j
    StandsDesignators i j (more_of-Designator x xs) = (a b : ℕ) × (i ≤ a) × StandsDesignator a b x × StandsDesignators b j xs

    pub StandsArgss : {m : _} → ℕ → ℕ → Row_of-ArgTrees m → Type 0
    StandsArgss i j end_of-ArgTrees = i ≤ j
    StandsArgss i j (more_of-ArgTrees x xs) = (a b : ℕ) × (i ≤ a) × StandsArgs a b x × StandsArgss b j xs

    pub StandsArgList : {m : _} → ℕ → ℕ → Row_of-ArgTree m → Type 0
    StandsArgList i j end_of-ArgTree = i ≤ j
    StandsArgList i j (more_of-ArgTree x xs) = (a b : ℕ) × (i ≤ a) × StandsArg a b x × StandsArgList b j xs

  abbrev pub StandsAliased : ℕ → ℕ → AliasedTree → Type 0
  StandsAliased i j (aliased-of.«Type» x) = StandsType i j x
  StandsAliased i j (aliased-of.Splice x) = StandsSplice i j x

  abbrev pub StandsAlias : ℕ → ℕ → AliasTree → Type 0
  StandsAlias i j x = Spans i j x.span × (k : ℕ) × Among (λ a b. StandsIdentifier a b x.name) i k × Among (λ a b. StandsAliased a b x.of) k j

  abbrev pub StandsAssert : ℕ → ℕ → AssertTree → Type 0
  StandsAssert i j x = Spans i j x.span × (k : ℕ) × Among (λ a b. Stands a b x.condition) i k × IfAny Spans k j x.message

  abbrev pub StandsBoundTree : ℕ → ℕ → BoundTree → Type 0
  StandsBoundTree i j x = Spans i j x.span × IfAny Stands i j x.length

  -- An initializer stands from its `=` on, where it has one.
  abbrev pub StandsInitTree : ℕ → ℕ → InitTree → Type 0
  StandsInitTree i j (init-of.Equal x) = Among (λ a b. Stands a b x) i j
  StandsInitTree i j (init-of.EqualBraced x) = Among (λ a b. StandsBraced a b x) i j
  StandsInitTree i j (init-of.Braced x) = StandsBraced i j x

  abbrev pub StandsLocal : ℕ → ℕ → LocalTree → Type 0
  StandsLocal i j x = Spans i j x.span × (k l m : ℕ) × Among (λ a b. StandsType a b x.of_type) i k
      × Among (λ a b. StandsIdentifier a b x.name) k l × InOrder StandsBoundTree l m x.bounds × IfAny StandsInitTree m j x.init

  abbrev pub StandsAssign : ℕ → ℕ → AssignTree → Type 0
  StandsAssign i j (assign-of.Equal s x y) = Spans i j s × (k : ℕ) × Among (λ a b. Stands a b x) i k × Among (λ a b. StandsArg a b y) k j
  StandsAssign i j (assign-of.Compound s _ x y) = Spans i j s × (k : ℕ) × Among (λ a b. Stands a b x) i k × Among (λ a b. Stands a b y) k j
  StandsAssign i j (assign-of.Step s _ x) = Spans i j s × Among (λ a b. Stands a b x) i j

  abbrev pub StandsReturned : ℕ → ℕ → Returned → Type 0
  StandsReturned i j (returned-of.Expr x) = Stands i j x
  StandsReturned i j (returned-of.Braced x) = StandsBraced i j x

  -- Behind an assignment stands its `;`, which is no part of it.
  abbrev pub StandsForInit : ℕ → ℕ → ForInit → Type 0
  StandsForInit i j (for_init-of.Local x) = StandsLocal i j x
  StandsForInit i j (for_init-of.Assign x) = (k : ℕ) × StandsAssign i k x × (k < j)
  StandsForInit i j (for_init-of.Empty s) = Spans i j s

  abbrev pub StandsForStep : ℕ → ℕ → ForStep → Type 0
  StandsForStep i j (for_step-of.Assign x) = StandsAssign i j x
  StandsForStep i j (for_step-of.Expr x) = Stands i j x

  abbrev pub StandsForHead : ℕ → ℕ → ForHead → Type 0
  StandsForHead i j x = (k l : ℕ) × Among (λ a b. StandsForInit a b x.first) i k × IfAny Stands k l x.condition × IfAny StandsForStep l j x.step

  abbrev pub StandsForRange : ℕ → ℕ → ForRange → Type 0
  StandsForRange i j x = (k l : ℕ) × Among (λ a b. StandsType a b x.of_type) i k × Among (λ a b. StandsIdentifier a b x.name) k l
      × Among (λ a b. Stands a b x.over) l j

  abbrev pub StandsVariable : ℕ → ℕ → VariableTree → Type 0
  StandsVariable i j x = Spans i j x.span × (k l m : ℕ) × Among (λ a b. StandsType a b x.of_type) i k
      × Among (λ a b. StandsIdentifier a b x.name) k l × InOrder StandsBoundTree l m x.bounds × IfAny StandsInitTree m j x.init

  abbrev pub StandsParameter : ℕ → ℕ → ParameterTree → Type 0
  StandsParameter i j x = Spans i j x.span × (k : ℕ) × Among (λ a b. StandsType a b x.of_type) i k × IfAny StandsIdentifier k j x.name

  abbrev pub StandsEnumerator : ℕ → ℕ → EnumeratorTree → Type 0
  StandsEnumerator i j x = Spans i j x.span × (k : ℕ) × Among (λ a b. StandsIdentifier a b x.name) i k × IfAny Stands k j x.value

  abbrev pub StandsEnum : ℕ → ℕ → EnumTree → Type 0
  StandsEnum i j x = Spans i j x.span × (k l : ℕ) × Among (λ a b. StandsIdentifier a b x.name) i k × IfAny StandsType k l x.underlying
      × InOrder StandsEnumerator l j x.enumerators

  -- The splice of a base may have a `typename` before it.
  abbrev pub StandsBased : ℕ → ℕ → BasedTree → Type 0
  StandsBased i j (based-of.Name x) = StandsName i j x
  StandsBased i j (based-of.Splice x) = StandsSplice i j x
  StandsBased i j (based-of.Typename s x) = Spans i j s × Among (λ a b. StandsSplice a b x) i j

  abbrev pub StandsBase : ℕ → ℕ → BaseTree → Type 0
  StandsBase i j x = Spans i j x.span × Among (λ a b. StandsBased a b x.of) i j

  abbrev pub StandsMemberValue : ℕ → ℕ → MemberInitValue → Type 0
  StandsMemberValue i j (member_init_value-of.Args x) = StandsArgs i j x
  StandsMemberValue i j (member_init_value-of.Braced x) = StandsBraced i j x

  abbrev pub StandsMemberInit : ℕ → ℕ → MemberInit → Type 0
  StandsMemberInit i j x = Spans i j x.span × (k : ℕ) × Among (λ a b. StandsName a b x.name) i k × Among (λ a b. StandsMemberValue a b x.value) k j

  abbrev pub StandsNamespace : ℕ → ℕ → NamespaceNamed → Type 0
  StandsNamespace i j (namespace_named-of.Name x) = StandsName i j x
  StandsNamespace i j (namespace_named-of.Splice x) = StandsSplice i j x

  abbrev pub StandsNamespaceAlias : ℕ → ℕ → NamespaceAliasTree → Type 0
  StandsNamespaceAlias i j x = Spans i j x.span × (k : ℕ) × Among (λ a b. StandsIdentifier a b x.name) i k
      × Among (λ a b. StandsNamespace a b x.of) k j

  -- the `~` of a destructor, by its place
  abbrev pub StandsTilde : ℕ → Place → Type 0
  StandsTilde k place = (place ≡ place_of tokens.end (slice_get tokens.list k)) × (sees_punctuator tokens TILDE k ≡ true)

  abbrev mutual
    -- Behind an assignment stands its `;`, which is no part of it.
    pub StandsStmt : ℕ → ℕ → Stmt → Type 0
    StandsStmt i j (stmt.Body x) = StandsBody i j x
    StandsStmt i j (stmt.Empty s) = Spans i j s
    StandsStmt i j (stmt.Assert x) = StandsAssert i j x
    StandsStmt i j (stmt.Alias x) = StandsAlias i j x
    StandsStmt i j (stmt.Class' _ (more_of-ClassTree x _)) = StandsClass i j x
    StandsStmt i j (stmt.Block' s x) = Spans i j s × Among (λ a b. StandsBody a b x) i j
    StandsStmt i j (stmt.Local x) = StandsLocal i j x
    StandsStmt i j (stmt.Assign x) = (k : ℕ) × StandsAssign i k x × (k < j)
    StandsStmt i j (stmt.Expr s x) = Spans i j s × Among (λ a b. Stands a b x) i j
    StandsStmt i j (stmt.If' s x _ y z) = Spans i j s × (k l : ℕ) × Among (λ a b. Stands a b x) i k × StandsStmts k l y × StandsElse l j z
    StandsStmt i j (stmt.While' s x _ y) = Spans i j s × (k : ℕ) × Among (λ a b. Stands a b x) i k × StandsStmts k j y
    StandsStmt i j (stmt.For' s x _ y) = Spans i j s × (k : ℕ) × Among (λ a b. StandsForHead a b x) i k × StandsStmts k j y
    StandsStmt i j (stmt.RangeFor' s x _ y) = Spans i j s × (k : ℕ) × Among (λ a b. StandsForRange a b x) i k × StandsStmts k j y
    StandsStmt i j (stmt.Return s x) = Spans i j s × IfAny StandsReturned i j x
    StandsStmt i j (stmt.Break s) = Spans i j s
    StandsStmt i j (stmt.Continue s) = Spans i j s

    pub StandsBody : ℕ → ℕ → BodyTree → Type 0
    StandsBody i j (body.Body' s _ xs) = Spans i j s × StandsStmts i j xs

    pub StandsClass : ℕ → ℕ → ClassTree → Type 0
    StandsClass i j (class.Declared s _ x) = Spans i j s × Among (λ a b. StandsIdentifier a b x) i j
    StandsClass i j (class.Defined' s _ x xs _ ys) = Spans i j s × (k l : ℕ) × Among (λ a b. StandsIdentifier a b x) i k
        × InOrder StandsBase k l xs × StandsMembers l j ys

    pub StandsMember : ℕ → ℕ → Member → Type 0
    StandsMember i j (member.Access s _) = Spans i j s
    StandsMember i j (member.Empty s) = Spans i j s
    StandsMember i j (member.Alias x) = StandsAlias i j x
    StandsMember i j (member.Class x) = StandsClass i j x
    StandsMember i j (member.Enum x) = StandsEnum i j x
    StandsMember i j (member.Assert x) = StandsAssert i j x
    StandsMember i j (member.Block' s x) = Spans i j s × Among (λ a b. StandsBody a b x) i j
    StandsMember i j (member.Data x) = StandsVariable i j x
    StandsMember i j (member.Function' s _ x y xs _ _ z) = Spans i j s × (k l m : ℕ) × Among (λ a b. StandsType a b x) i k
        × Among (λ a b. StandsIdentifier a b y) k l × InOrder StandsParameter l m xs × StandsBodyIfAny m j z
    StandsMember i j (member.Constructor' s _ _ x xs _ ys _ z) = Spans i j s × (k l m : ℕ) × Among (λ a b. StandsIdentifier a b x) i k
        × InOrder StandsParameter k l xs × InOrder StandsMemberInit l m ys × StandsBodies m j z
    StandsMember i j (member.Destructor' s _ tilde x _ y) = Spans i j s × (k : ℕ) × (i ≤ k) × StandsTilde k tilde × StandsIdentifier (k + 1) (k + 2) x
        × Among (λ a b. StandsBody a b y) (k + 2) j

    -- What stands behind `else`, and the body of a function, where they are.
    pub StandsElse : ℕ → ℕ → Held-Stmt-If-3 → Type 0
    StandsElse i j stmt.Stmt-If-3-None' = i ≤ j
    StandsElse i j (stmt.Stmt-If-3-Some' _ x) = StandsStmts i j x

    pub StandsBodyIfAny : ℕ → ℕ → Held-FunctionTree-body → Type 0
    StandsBodyIfAny i j member.FunctionTree-body-None' = i ≤ j
    StandsBodyIfAny i j (member.FunctionTree-body-Some' _ x) = StandsBodies i j x

    -- Rows of each kind.
    pub StandsStmts : {m : _} → ℕ → ℕ → Row_of-Stmt m → Type 0
    StandsStmts i j end_of-Stmt = i ≤ j
    StandsStmts i j (more_of-Stmt x xs) = (a b : ℕ) × (i ≤ a) × StandsStmt a b x × StandsStmts b j xs

    pub StandsClasses : {m : _} → ℕ → ℕ → Row_of-ClassTree m → Type 0
    StandsClasses i j end_of-ClassTree = i ≤ j
    StandsClasses i j (more_of-ClassTree x xs) = (a b : ℕ) × (i ≤ a) × StandsClass a b x × StandsClasses b j xs

    pub StandsMembers : {m : _} → ℕ → ℕ → Row_of-Member m → Type 0
    StandsMembers i j end_of-Member = i ≤ j
    StandsMembers i j (more_of-Member x xs) = (a b : ℕ) × (i ≤ a) × StandsMember a b x × StandsMembers b j xs

    pub StandsBodies : {m : _} → ℕ → ℕ → Row_of-BodyTree m → Type 0
    StandsBodies i j end_of-BodyTree = i ≤ j
    StandsBodies i j (more_of-BodyTree x xs) = (a b : ℕ) × (i ≤ a) × StandsBody a b x × StandsBodies b j xs

  abbrev pub StandsBlock : ℕ → ℕ → BlockTree → Type 0
  StandsBlock i j x = Spans i j x.span × Among (λ a b. StandsBody a b x.body) i j

  abbrev pub StandsFunction : ℕ → ℕ → FunctionTree → Type 0
  StandsFunction i j x = Spans i j x.span × (k l m : ℕ) × Among (λ a b. StandsType a b x.returned) i k
      × Among (λ a b. StandsIdentifier a b x.name) k l × InOrder StandsParameter l m x.parameters × IfAny StandsBody m j x.body

  abbrev pub StandsDecl : ℕ → ℕ → Decl → Type 0
  StandsDecl i j (decl-of.NamespaceAlias x) = StandsNamespaceAlias i j x
  StandsDecl i j (decl-of.Alias x) = StandsAlias i j x
  StandsDecl i j (decl-of.Class x) = StandsClass i j x
  StandsDecl i j (decl-of.Enum x) = StandsEnum i j x
  StandsDecl i j (decl-of.Function x) = StandsFunction i j x
  StandsDecl i j (decl-of.Variable x) = StandsVariable i j x
  StandsDecl i j (decl-of.Assert x) = StandsAssert i j x
  StandsDecl i j (decl-of.Block x) = StandsBlock i j x

  abbrev pub StandsItem : ℕ → ℕ → Item → Type 0
  StandsItem i j (item-of.NamespaceHead s xs) = Spans i j s × InOrder StandsIdentifier i j xs
  StandsItem i j (item-of.Close s) = Spans i j s
  StandsItem i j (item-of.Decl x) = StandsDecl i j x
  StandsItem i j (item-of.Empty s) = Spans i j s
