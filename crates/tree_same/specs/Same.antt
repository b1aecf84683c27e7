-- Two trees are the same where they have the same form and the same parts. Spans are left aside.
--
-- A tree is matched by its form. The parts that a list or a box holds come as a row of trees, with a shape before it: a box
-- holds a row of one.
use Rattle.std.specs.Prelude.{◌≡◌}
use Rattle.tree_same.specs.Names.{SameIdentifier, SameName}
use Rattle.cxx_tree.specs.declared.expr.Expr as expr
use Rattle.cxx_tree.specs.declared.expr.Expr.{Expr, Held-Expr-New-2, Held-Expr-New-3, Row_of-Expr, end_of-Expr, more_of-Expr}
use Rattle.cxx_tree.specs.declared.expr.Expr.{Row_of-ArgTrees, end_of-ArgTrees, more_of-ArgTrees}
use Rattle.cxx_tree.specs.declared.expr.Expr.{Row_of-BasicTree, end_of-BasicTree, more_of-BasicTree}
use Rattle.cxx_tree.specs.declared.expr.Expr.{Row_of-BracedTree, end_of-BracedTree, more_of-BracedTree}
use Rattle.cxx_tree.specs.declared.expr.Expr.{Row_of-NewInit, end_of-NewInit, more_of-NewInit}
use Rattle.cxx_tree.specs.declared.expr.Expr.{Row_of-Operation, end_of-Operation, more_of-Operation}
use Rattle.cxx_tree.specs.declared.expr.Expr.{Row_of-Suffix, end_of-Suffix, more_of-Suffix}
use Rattle.cxx_tree.specs.declared.expr.Expr.{Row_of-TypeTree, end_of-TypeTree, more_of-TypeTree}
use Rattle.cxx_tree.specs.declared.expr.ArgTree as arg
use Rattle.cxx_tree.specs.declared.expr.ArgTree.{ArgTree}
use Rattle.cxx_tree.specs.declared.expr.ArgTrees as args
use Rattle.cxx_tree.specs.declared.expr.ArgTrees.{ArgTrees, Row_of-ArgTree, end_of-ArgTree, more_of-ArgTree}
use Rattle.cxx_tree.specs.declared.expr.BasicTree as basic
use Rattle.cxx_tree.specs.declared.expr.BasicTree.{BasicTree}
use Rattle.cxx_tree.specs.declared.expr.BracedTree as braced
use Rattle.cxx_tree.specs.declared.expr.BracedTree.{BracedTree, Row_of-Designator, end_of-Designator, more_of-Designator}
use Rattle.cxx_tree.specs.declared.expr.Designator as designator
use Rattle.cxx_tree.specs.declared.expr.Designator.{Designator}
use Rattle.cxx_tree.specs.declared.expr.NewInit as init
use Rattle.cxx_tree.specs.declared.expr.NewInit.{NewInit}
use Rattle.cxx_tree.specs.declared.expr.Operation.TheVariants as operation
use Rattle.cxx_tree.specs.declared.expr.Operation.{Operation}
use Rattle.cxx_tree.specs.declared.expr.SpliceTree as splice
use Rattle.cxx_tree.specs.declared.expr.SpliceTree.{SpliceTree}
use Rattle.cxx_tree.specs.declared.expr.Suffix as suffix
use Rattle.cxx_tree.specs.declared.expr.Suffix.{Suffix}
use Rattle.cxx_tree.specs.declared.expr.TypeTree as type
use Rattle.cxx_tree.specs.declared.expr.TypeTree.{TypeTree}

abbrev mutual
  pub Same : Expr → Expr → Type 0
  Same (expr.Integer _ m) (expr.Integer _ n) = m ≡ n
  Same (expr.Character _ m) (expr.Character _ n) = m ≡ n
  Same (expr.Text _ m) (expr.Text _ n) = m ≡ n
  Same (expr.Truth _ m) (expr.Truth _ n) = m ≡ n
  Same (expr.Nullptr _) (expr.Nullptr _) = Unit {0}
  Same (expr.This _) (expr.This _) = Unit {0}
  Same (expr.Name m) (expr.Name n) = SameName m n
  Same (expr.Paren' _ _ x) (expr.Paren' _ _ y) = SameExprs x y
  Same (expr.Splice x) (expr.Splice y) = SameSplice x y
  Same (expr.Braced' _ _ t _ x) (expr.Braced' _ _ u _ y) = SameBasics t u × SameBraceds x y
  Same (expr.FundCall _ m x) (expr.FundCall _ n y) = (m ≡ n) × SameArgs x y
  Same (expr.TypenameCall' _ p _ x) (expr.TypenameCall' _ q _ y) = SameSplice p q × SameArgss x y
  Same (expr.StaticCast' _ _ t _ x) (expr.StaticCast' _ _ u _ y) = SameTypes t u × SameExprs x y
  Same (expr.Extract' _ m _ t _ x) (expr.Extract' _ n _ u _ y) = SameName m n × SameTypes t u × SameExprs x y
  Same (expr.Postfix' _ _ x _ xs) (expr.Postfix' _ _ y _ ys) = SameExprs x y × SameSuffixes xs ys
  Same (expr.Unary' _ m _ x) (expr.Unary' _ n _ y) = (m ≡ n) × SameExprs x y
  Same (expr.ReflectGlobal _) (expr.ReflectGlobal _) = Unit {0}
  Same (expr.Reflect' _ _ t) (expr.Reflect' _ _ u) = SameTypes t u
  Same (expr.SizeofType' _ _ t) (expr.SizeofType' _ _ u) = SameTypes t u
  Same (expr.SizeofExpr' _ _ x) (expr.SizeofExpr' _ _ y) = SameExprs x y
  Same (expr.Delete' _ m _ x) (expr.Delete' _ n _ y) = (m ≡ n) × SameExprs x y
  Same (expr.New' _ _ t x p) (expr.New' _ _ u y q) = SameTypes t u × SameBound x y × SameInit p q
  Same (expr.Chain' _ _ x _ xs) (expr.Chain' _ _ y _ ys) = SameExprs x y × SameOperations xs ys
  Same (expr.Conditional' _ _ x _ y _ z) (expr.Conditional' _ _ u _ v _ w) = SameExprs x u × SameExprs y v × SameExprs z w
  Same _ _ = ⊥

  pub SameOperation : Operation → Operation → Type 0
  SameOperation (operation.Operation _ m x) (operation.Operation _ n y) = (m ≡ n) × Same x y

  pub SameSuffix : Suffix → Suffix → Type 0
  SameSuffix (suffix.Call x) (suffix.Call y) = SameArgs x y
  SameSuffix (suffix.Subscript' _ _ x) (suffix.Subscript' _ _ y) = SameExprs x y
  SameSuffix (suffix.Member _ m x) (suffix.Member _ n y) = (m ≡ n) × SameIdentifier x y
  SameSuffix (suffix.MemberSplice _ m x) (suffix.MemberSplice _ n y) = (m ≡ n) × SameSplice x y
  SameSuffix _ _ = ⊥

  pub SameNewInit : NewInit → NewInit → Type 0
  SameNewInit (init.Args x) (init.Args y) = SameArgs x y
  SameNewInit (init.Braced x) (init.Braced y) = SameBraced x y
  SameNewInit _ _ = ⊥

  pub SameSplice : SpliceTree → SpliceTree → Type 0
  SameSplice (splice.Splice' _ _ x) (splice.Splice' _ _ y) = SameExprs x y

  pub SameType : TypeTree → TypeTree → Type 0
  SameType (type.«Type» _ m t marks r) (type.«Type» _ n u others s) = (m ≡ n) × SameBasic t u × (marks ≡ others) × (r ≡ s)

  pub SameBasic : BasicTree → BasicTree → Type 0
  SameBasic (basic.Fund _ m) (basic.Fund _ n) = m ≡ n
  SameBasic (basic.Name m) (basic.Name n) = SameName m n
  SameBasic (basic.Typename _ x) (basic.Typename _ y) = SameSplice x y
  SameBasic (basic.Vector _ m) (basic.Vector _ n) = SameName m n
  SameBasic _ _ = ⊥

  pub SameBraced : BracedTree → BracedTree → Type 0
  SameBraced (braced.Clauses' _ _ xs) (braced.Clauses' _ _ ys) = SameArgList xs ys
  SameBraced (braced.Designated' _ _ xs) (braced.Designated' _ _ ys) = SameDesignators xs ys
  SameBraced _ _ = ⊥

  pub SameDesignator : Designator → Designator → Type 0
  SameDesignator (designator.Equal _ m x) (designator.Equal _ n y) = SameIdentifier m n × SameArg x y
  SameDesignator (designator.Braced _ m x) (designator.Braced _ n y) = SameIdentifier m n × SameBraced x y
  SameDesignator _ _ = ⊥

  pub SameArgs : ArgTrees → ArgTrees → Type 0
  SameArgs (args.Args' _ _ xs) (args.Args' _ _ ys) = SameArgList xs ys

  pub SameArg : ArgTree → ArgTree → Type 0
  SameArg (arg.Expr x) (arg.Expr y) = Same x y
  SameArg (arg.Braced x) (arg.Braced y) = SameBraced x y
  SameArg _ _ = ⊥

  -- The bound and the initializer of `new` stand in both or in neither.
  pub SameBound : Held-Expr-New-2 → Held-Expr-New-2 → Type 0
  SameBound expr.Expr-New-2-None' expr.Expr-New-2-None' = Unit {0}
  SameBound (expr.Expr-New-2-Some' _ x) (expr.Expr-New-2-Some' _ y) = SameExprs x y
  SameBound _ _ = ⊥

  pub SameInit : Held-Expr-New-3 → Held-Expr-New-3 → Type 0
  SameInit expr.Expr-New-3-None' expr.Expr-New-3-None' = Unit {0}
  SameInit (expr.Expr-New-3-Some' _ x) (expr.Expr-New-3-Some' _ y) = SameNewInits x y
  SameInit _ _ = ⊥

  -- Rows of each kind: as long as each other, and the same trees in order.
  pub SameExprs : {m n : _} → Row_of-Expr m → Row_of-Expr n → Type 0
  SameExprs end_of-Expr end_of-Expr = Unit {0}
  SameExprs (more_of-Expr x xs) (more_of-Expr y ys) = Same x y × SameExprs xs ys
  SameExprs _ _ = ⊥

  pub SameOperations : {m n : _} → Row_of-Operation m → Row_of-Operation n → Type 0
  SameOperations end_of-Operation end_of-Operation = Unit {0}
  SameOperations (more_of-Operation x xs) (more_of-Operation y ys) = SameOperation x y × SameOperations xs ys
  SameOperations _ _ = ⊥

  pub SameSuffixes : {m n : _} → Row_of-Suffix m → Row_of-Suffix n → Type 0
  SameSuffixes end_of-Suffix end_of-Suffix = Unit {0}
  SameSuffixes (more_of-Suffix x xs) (more_of-Suffix y ys) = SameSuffix x y × SameSuffixes xs ys
  SameSuffixes _ _ = ⊥

  pub SameNewInits : {m n : _} → Row_of-NewInit m → Row_of-NewInit n → Type 0
  SameNewInits end_of-NewInit end_of-NewInit = Unit {0}
  SameNewInits (more_of-NewInit x xs) (more_of-NewInit y ys) = SameNewInit x y × SameNewInits xs ys
  SameNewInits _ _ = ⊥

  pub SameTypes : {m n : _} → Row_of-TypeTree m → Row_of-TypeTree n → Type 0
  SameTypes end_of-TypeTree end_of-TypeTree = Unit {0}
  SameTypes (more_of-TypeTree x xs) (more_of-TypeTree y ys) = SameType x y × SameTypes xs ys
  SameTypes _ _ = ⊥

  pub SameBasics : {m n : _} → Row_of-BasicTree m → Row_of-BasicTree n → Type 0
  SameBasics end_of-BasicTree end_of-BasicTree = Unit {0}
  SameBasics (more_of-BasicTree x xs) (more_of-BasicTree y ys) = SameBasic x y × SameBasics xs ys
  SameBasics _ _ = ⊥

  pub SameBraceds : {m n : _} → Row_of-BracedTree m → Row_of-BracedTree n → Type 0
  SameBraceds end_of-BracedTree end_of-BracedTree = Unit {0}
  SameBraceds (more_of-BracedTree x xs) (more_of-BracedTree y ys) = SameBraced x y × SameBraceds xs ys
  SameBraceds _ _ = ⊥

  pub SameDesignators : {m n : _} → Row_of-Designator m → Row_of-Designator n → Type 0
  SameDesignators end_of-Designator end_of-Designator = Unit {0}
  SameDesignators (more_of-Designator x xs) (more_of-Designator y ys) = SameDesignator x y × SameDesignators xs ys
  SameDesignators _ _ = ⊥

  pub SameArgss : {m n : _} → Row_of-ArgTrees m → Row_of-ArgTrees n → Type 0
  SameArgss end_of-ArgTrees end_of-ArgTrees = Unit {0}
  SameArgss (more_of-ArgTrees x xs) (more_of-ArgTrees y ys) = SameArgs x y × SameArgss xs ys
  SameArgss _ _ = ⊥

  pub SameArgList : {m n : _} → Row_of-ArgTree m → Row_of-ArgTree n → Type 0
  SameArgList end_of-ArgTree end_of-ArgTree = Unit {0}
  SameArgList (more_of-ArgTree x xs) (more_of-ArgTree y ys) = SameArg x y × SameArgList xs ys
  SameArgList _ _ = ⊥
