-- Two statements, bodies, classes or members of one form are the same where their parts are: the definition, over boxes and lists instead
-- of rows.
use Rattle.std.proofs.Common.{◌≡◌, ◌↔◌, List, Option, subst}
use Rattle.cxx_base.specs.declared.place.Span.{Span}
use Rattle.cxx_tree.specs.declared.expr.Expr.{Expr}
use Rattle.cxx_tree.specs.declared.identifier.Identifier.{Identifier}
use Rattle.cxx_tree.specs.declared.decl.ClassKey.{ClassKey}
use Rattle.cxx_tree.specs.declared.decl.BaseTree.{BaseTree}
use Rattle.cxx_tree.specs.declared.decl.BlockTree.{BlockTree}
use Rattle.cxx_tree.specs.declared.decl.FunctionTree.{FunctionTree}
use Rattle.cxx_tree.specs.declared.decl.ConstructorTree.{ConstructorTree}
use Rattle.cxx_tree.specs.declared.decl.DestructorTree.{DestructorTree}
use Rattle.cxx_tree.specs.declared.decl.ClassTree as class
use Rattle.cxx_tree.specs.declared.decl.ClassTree.{ClassTree}
use Rattle.cxx_tree.specs.declared.decl.Member as member
use Rattle.cxx_tree.specs.declared.decl.Member.{Member}
use Rattle.cxx_tree.specs.declared.stmt.ForHead.{ForHead}
use Rattle.cxx_tree.specs.declared.stmt.ForRange.{ForRange}
use Rattle.cxx_tree.specs.declared.stmt.Stmt as stmt
use Rattle.cxx_tree.specs.declared.stmt.Stmt.{Stmt}
use Rattle.cxx_tree.specs.declared.stmt.BodyTree as body
use Rattle.cxx_tree.specs.declared.stmt.BodyTree.{BodyTree}
use Rattle.cxx_tree.specs.declared.stmt.BodyTree.TheVariants.{rolls-Body}
use Rattle.cxx_tree.specs.declared.decl.ClassTree.TheOpen.{BodyTree-F}
use Rattle.tree_same.specs.Lists.{AreSame, AreSameIfAny}
use Rattle.tree_same.specs.Names.{SameIdentifier}
use Rattle.tree_same.specs.Same.{Same}
use Rattle.unit_same.specs.Parts.{SameBase, SameForHead, SameForRange}
use Rattle.unit_same.specs.Statements.{SameStmt, SameBody, SameClass, SameMember, SameBlock, SameFunction, SameConstructor, SameDestructor}
use Rattle.unit_same.proofs.StatementRows.{boxed_stmt, boxed_class, boxed_body, row_of_stmts, row_of_members, optional_else, optional_body}

pub are_class : (p q : Stmt) (a b : ClassTree) → p ≡ stmt.Class a → q ≡ stmt.Class b → SameClass a b ↔ SameStmt p q
are_class p q a b of_p of_q = rw (of_p, of_q) (λ h. (boxed_class a b).0 h, λ h. (boxed_class a b).1 h)

pub are_block : (p q : Stmt) (a b : BlockTree) → p ≡ stmt.Block a → q ≡ stmt.Block b → SameBlock a b ↔ SameStmt p q
are_block p q a b of_p of_q = rw (of_p, of_q) (λ h. h, λ h. h)

pub are_if : (p q : Stmt) (s t : Span) (a b : Expr) (c d : Stmt) (e f : Option Stmt) → p ≡ stmt.If s a c e → q ≡ stmt.If t b d f →
    (Same a b × SameStmt c d × AreSameIfAny SameStmt e f) ↔ SameStmt p q
are_if p q s t a b c d e f of_p of_q =
    rw (of_p, of_q) (λ h. (h.0, (boxed_stmt c d).0 h.1, (optional_else e f).0 h.2), λ h. (h.0, (boxed_stmt c d).1 h.1, (optional_else e f).1 h.2))

pub are_while : (p q : Stmt) (s t : Span) (a b : Expr) (c d : Stmt) → p ≡ stmt.While s a c → q ≡ stmt.While t b d →
    (Same a b × SameStmt c d) ↔ SameStmt p q
are_while p q s t a b c d of_p of_q = rw (of_p, of_q) (λ h. (h.0, (boxed_stmt c d).0 h.1), λ h. (h.0, (boxed_stmt c d).1 h.1))

pub are_for : (p q : Stmt) (s t : Span) (a b : ForHead) (c d : Stmt) → p ≡ stmt.For s a c → q ≡ stmt.For t b d →
    (SameForHead a b × SameStmt c d) ↔ SameStmt p q
are_for p q s t a b c d of_p of_q = rw (of_p, of_q) (λ h. (h.0, (boxed_stmt c d).0 h.1), λ h. (h.0, (boxed_stmt c d).1 h.1))

pub are_range_for : (p q : Stmt) (s t : Span) (a b : ForRange) (c d : Stmt) → p ≡ stmt.RangeFor s a c → q ≡ stmt.RangeFor t b d →
    (SameForRange a b × SameStmt c d) ↔ SameStmt p q
are_range_for p q s t a b c d of_p of_q = rw (of_p, of_q) (λ h. (h.0, (boxed_stmt c d).0 h.1), λ h. (h.0, (boxed_stmt c d).1 h.1))

pub are_body : (p q : BodyTree) (s t : Span) (a b : List Stmt) → p ≡ body.Body s a → q ≡ body.Body t b → AreSame SameStmt a b ↔ SameBody p q
are_body p q s t a b of_p of_q = rw (of_p, of_q) (λ h. (row_of_stmts a b).0 h, λ h. (row_of_stmts a b).1 h)

pub are_defined : (p q : ClassTree) (s t : Span) (k l : ClassKey) (m n : Identifier) (a b : List BaseTree) (c d : List Member) →
    p ≡ class.Defined s k m a c → q ≡ class.Defined t l n b d →
    ((k ≡ l) × SameIdentifier m n × AreSame SameBase a b × AreSame SameMember c d) ↔ SameClass p q
are_defined p q s t k l m n a b c d of_p of_q =
    rw (of_p, of_q) (λ h. (h.0, h.1, h.2, (row_of_members c d).0 h.3), λ h. (h.0, h.1, h.2, (row_of_members c d).1 h.3))

pub are_block_member : (p q : Member) (a b : BlockTree) → p ≡ member.Block a → q ≡ member.Block b → SameBlock a b ↔ SameMember p q
are_block_member p q a b of_p of_q = rw (of_p, of_q) (λ h. h, λ h. h)

pub are_function : (p q : Member) (a b : FunctionTree) → p ≡ member.Function a → q ≡ member.Function b → SameFunction a b ↔ SameMember p q
are_function p q a b of_p of_q =
    rw (of_p, of_q) (λ h. (h.0, h.1, h.2, h.3, h.4, h.5, (optional_body a.body b.body).0 h.6), λ h. (h.0, h.1, h.2, h.3, h.4, h.5, (optional_body a.body b.body).1 h.6))

pub are_constructor : (p q : Member) (a b : ConstructorTree) → p ≡ member.Constructor a → q ≡ member.Constructor b → SameConstructor a b ↔ SameMember p q
are_constructor p q a b of_p of_q =
    rw (of_p, of_q) (λ h. (h.0, h.1, h.2, h.3, h.4, h.5, (boxed_body a.body b.body).0 h.6), λ h. (h.0, h.1, h.2, h.3, h.4, h.5, (boxed_body a.body b.body).1 h.6))

pub are_destructor : (p q : Member) (a b : DestructorTree) → p ≡ member.Destructor a → q ≡ member.Destructor b → SameDestructor a b ↔ SameMember p q
are_destructor p q a b of_p of_q = rw (of_p, of_q) (λ h. h, λ h. h)

-- A body has one form.
rolled_body : (layer : BodyTree-F ClassTree Member BodyTree Stmt BlockTree ConstructorTree DestructorTree FunctionTree) → (v : Span × List Stmt) × (body.roll-BodyTree layer ≡ body.Body v.0 v.1)
rolled_body (BodyTree-F.BodyTree::Body s xs) = ((s, xs), rolls-Body s xs)

pub is_body : (p : BodyTree) → (v : Span × List Stmt) × (p ≡ body.Body v.0 v.1)
is_body p =
    let P : BodyTree → Type 0 = λ q. (v : Span × List Stmt) × (q ≡ body.Body v.0 v.1) in
    subst P (body.roll-out-BodyTree p) (rolled_body (body.out-BodyTree p))
