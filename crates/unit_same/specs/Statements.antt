-- Statements and declarations that are the same: those that lead back to statements, and all above them.
use Rattle.std.specs.Prelude.{◌≡◌}
use Rattle.tree_same.specs.Lists.{AreSame, AreSameIfAny}
use Rattle.tree_same.specs.Names.{SameIdentifier}
use Rattle.tree_same.specs.Same.{Same, SameType}
use Rattle.unit_same.specs.Parts.{SameAlias, SameAssert, SameAssign, SameBase, SameEnum, SameForHead, SameForRange, SameLocal, SameMemberInit, SameNamespaceAlias, SameParameter, SameReturned, SameVariable}
use Rattle.cxx_tree.specs.declared.stmt.Stmt as stmt
use Rattle.cxx_tree.specs.declared.stmt.Stmt.{Stmt, Held-Stmt-If-3, Row_of-Stmt, end_of-Stmt, more_of-Stmt, Row_of-ClassTree, end_of-ClassTree, more_of-ClassTree}
use Rattle.cxx_tree.specs.declared.stmt.BodyTree as body
use Rattle.cxx_tree.specs.declared.stmt.BodyTree.{BodyTree}
use Rattle.cxx_tree.specs.declared.decl.BlockTree.{BlockTree}
use Rattle.cxx_tree.specs.declared.decl.ClassTree as class
use Rattle.cxx_tree.specs.declared.decl.ClassTree.{ClassTree, Row_of-Member, end_of-Member, more_of-Member}
use Rattle.cxx_tree.specs.declared.decl.Member as member
use Rattle.cxx_tree.specs.declared.decl.Member.{Member, Held-FunctionTree-body, Row_of-BodyTree, end_of-BodyTree, more_of-BodyTree}
use Rattle.cxx_tree.specs.declared.decl.FunctionTree.{FunctionTree}
use Rattle.cxx_tree.specs.declared.decl.ConstructorTree.{ConstructorTree}
use Rattle.cxx_tree.specs.declared.decl.DestructorTree.{DestructorTree}
use Rattle.cxx_tree.specs.declared.decl.Decl.{Decl}
use Rattle.cxx_tree.specs.declared.decl.Decl.TheVariants as decl-of
use Rattle.cxx_tree.specs.declared.decl.Item.{Item}
use Rattle.cxx_tree.specs.declared.decl.Item.TheVariants as item-of

abbrev mutual
  pub SameStmt : Stmt → Stmt → Type 0
  SameStmt (stmt.Body x) (stmt.Body y) = SameBody x y
  SameStmt (stmt.Empty _) (stmt.Empty _) = Unit {0}
  SameStmt (stmt.Assert x) (stmt.Assert y) = SameAssert x y
  SameStmt (stmt.Alias x) (stmt.Alias y) = SameAlias x y
  SameStmt (stmt.Class' _ x) (stmt.Class' _ y) = SameClasses x y
  SameStmt (stmt.Block' _ x) (stmt.Block' _ y) = SameBody x y
  SameStmt (stmt.Local x) (stmt.Local y) = SameLocal x y
  SameStmt (stmt.Assign x) (stmt.Assign y) = SameAssign x y
  SameStmt (stmt.Expr _ x) (stmt.Expr _ y) = Same x y
  SameStmt (stmt.If' _ x _ p u) (stmt.If' _ y _ q v) = Same x y × SameStmts p q × SameElse u v
  SameStmt (stmt.While' _ x _ p) (stmt.While' _ y _ q) = Same x y × SameStmts p q
  SameStmt (stmt.For' _ x _ p) (stmt.For' _ y _ q) = SameForHead x y × SameStmts p q
  SameStmt (stmt.RangeFor' _ x _ p) (stmt.RangeFor' _ y _ q) = SameForRange x y × SameStmts p q
  SameStmt (stmt.Return _ x) (stmt.Return _ y) = AreSameIfAny SameReturned x y
  SameStmt (stmt.Break _) (stmt.Break _) = Unit {0}
  SameStmt (stmt.Continue _) (stmt.Continue _) = Unit {0}
  SameStmt _ _ = ⊥

  pub SameBody : BodyTree → BodyTree → Type 0
  SameBody (body.Body' _ _ xs) (body.Body' _ _ ys) = SameStmts xs ys

  pub SameClass : ClassTree → ClassTree → Type 0
  SameClass (class.Declared _ p x) (class.Declared _ q y) = (p ≡ q) × SameIdentifier x y
  SameClass (class.Defined' _ p x bs _ ms) (class.Defined' _ q y cs _ ns) = (p ≡ q) × SameIdentifier x y × AreSame SameBase bs cs × SameMembers ms ns
  SameClass _ _ = ⊥

  pub SameMember : Member → Member → Type 0
  SameMember (member.Access _ x) (member.Access _ y) = x ≡ y
  SameMember (member.Empty _) (member.Empty _) = Unit {0}
  SameMember (member.Alias x) (member.Alias y) = SameAlias x y
  SameMember (member.Class x) (member.Class y) = SameClass x y
  SameMember (member.Enum x) (member.Enum y) = SameEnum x y
  SameMember (member.Assert x) (member.Assert y) = SameAssert x y
  SameMember (member.Block' _ x) (member.Block' _ y) = SameBody x y
  SameMember (member.Data x) (member.Data y) = SameVariable x y
  SameMember (member.Function' _ p t n ps c e b) (member.Function' _ q u m qs d f x) =
      (p ≡ q) × SameType t u × SameIdentifier n m × AreSame SameParameter ps qs × (c ≡ d) × (e ≡ f) × SameBodyIfAny b x
  SameMember (member.Constructor' _ k p n ps e is _ b) (member.Constructor' _ l q m qs f js _ x) =
      (k ≡ l) × (p ≡ q) × SameIdentifier n m × AreSame SameParameter ps qs × (e ≡ f) × AreSame SameMemberInit is js × SameBodies b x
  SameMember (member.Destructor' _ p _ n e b) (member.Destructor' _ q _ m f x) = (p ≡ q) × SameIdentifier n m × (e ≡ f) × SameBody b x
  SameMember _ _ = ⊥

  -- What stands behind `else`, and the body of a function, are there in both or in neither.
  pub SameElse : Held-Stmt-If-3 → Held-Stmt-If-3 → Type 0
  SameElse stmt.Stmt-If-3-None' stmt.Stmt-If-3-None' = Unit {0}
  SameElse (stmt.Stmt-If-3-Some' _ x) (stmt.Stmt-If-3-Some' _ y) = SameStmts x y
  SameElse _ _ = ⊥

  pub SameBodyIfAny : Held-FunctionTree-body → Held-FunctionTree-body → Type 0
  SameBodyIfAny member.FunctionTree-body-None' member.FunctionTree-body-None' = Unit {0}
  SameBodyIfAny (member.FunctionTree-body-Some' _ x) (member.FunctionTree-body-Some' _ y) = SameBodies x y
  SameBodyIfAny _ _ = ⊥

  -- Rows of each kind: as long as each other, and the same trees in order.
  pub SameStmts : {m n : _} → Row_of-Stmt m → Row_of-Stmt n → Type 0
  SameStmts end_of-Stmt end_of-Stmt = Unit {0}
  SameStmts (more_of-Stmt x xs) (more_of-Stmt y ys) = SameStmt x y × SameStmts xs ys
  SameStmts _ _ = ⊥

  pub SameClasses : {m n : _} → Row_of-ClassTree m → Row_of-ClassTree n → Type 0
  SameClasses end_of-ClassTree end_of-ClassTree = Unit {0}
  SameClasses (more_of-ClassTree x xs) (more_of-ClassTree y ys) = SameClass x y × SameClasses xs ys
  SameClasses _ _ = ⊥

  pub SameMembers : {m n : _} → Row_of-Member m → Row_of-Member n → Type 0
  SameMembers end_of-Member end_of-Member = Unit {0}
  SameMembers (more_of-Member x xs) (more_of-Member y ys) = SameMember x y × SameMembers xs ys
  SameMembers _ _ = ⊥

  pub SameBodies : {m n : _} → Row_of-BodyTree m → Row_of-BodyTree n → Type 0
  SameBodies end_of-BodyTree end_of-BodyTree = Unit {0}
  SameBodies (more_of-BodyTree x xs) (more_of-BodyTree y ys) = SameBody x y × SameBodies xs ys
  SameBodies _ _ = ⊥

-- A block, a function, a constructor and a destructor are records.
abbrev pub SameBlock : BlockTree → BlockTree → Type 0
SameBlock x y = SameBody x.body y.body

abbrev pub SameFunction : FunctionTree → FunctionTree → Type 0
SameFunction x y =
    (x.specifiers ≡ y.specifiers) × SameType x.returned y.returned × SameIdentifier x.name y.name × AreSame SameParameter x.parameters y.parameters
    × (x.is_const ≡ y.is_const) × (x.is_noexcept ≡ y.is_noexcept) × AreSameIfAny SameBody x.body y.body

abbrev pub SameConstructor : ConstructorTree → ConstructorTree → Type 0
SameConstructor x y =
    (x.is_explicit ≡ y.is_explicit) × (x.specifiers ≡ y.specifiers) × SameIdentifier x.name y.name × AreSame SameParameter x.parameters y.parameters
    × (x.is_noexcept ≡ y.is_noexcept) × AreSame SameMemberInit x.inits y.inits × SameBody x.body y.body

abbrev pub SameDestructor : DestructorTree → DestructorTree → Type 0
SameDestructor x y =
    (x.specifiers ≡ y.specifiers) × SameIdentifier x.name y.name × (x.is_noexcept ≡ y.is_noexcept) × SameBody x.body y.body

abbrev pub SameDecl : Decl → Decl → Type 0
SameDecl (decl-of.NamespaceAlias x) (decl-of.NamespaceAlias y) = SameNamespaceAlias x y
SameDecl (decl-of.Alias x) (decl-of.Alias y) = SameAlias x y
SameDecl (decl-of.Class x) (decl-of.Class y) = SameClass x y
SameDecl (decl-of.Enum x) (decl-of.Enum y) = SameEnum x y
SameDecl (decl-of.Function x) (decl-of.Function y) = SameFunction x y
SameDecl (decl-of.Variable x) (decl-of.Variable y) = SameVariable x y
SameDecl (decl-of.Assert x) (decl-of.Assert y) = SameAssert x y
SameDecl (decl-of.Block x) (decl-of.Block y) = SameBlock x y
SameDecl _ _ = ⊥

abbrev pub SameItem : Item → Item → Type 0
SameItem (item-of.NamespaceHead _ xs) (item-of.NamespaceHead _ ys) = AreSame SameIdentifier xs ys
SameItem (item-of.Close _) (item-of.Close _) = Unit {0}
SameItem (item-of.Decl x) (item-of.Decl y) = SameDecl x y
SameItem (item-of.Empty _) (item-of.Empty _) = Unit {0}
SameItem _ _ = ⊥
