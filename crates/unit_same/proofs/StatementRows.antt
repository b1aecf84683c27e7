-- What boxes hold is the same where their rows are, and lists are the same where their rows are: of statements and classes.
use Rattle.std.proofs.Common.{◌↔◌, List, [], ◌∷◌, Option, None, Some}
use denote.Hole.Carrier
use Rattle.tree_same.specs.Lists.{AreSame, AreSameIfAny}
use Rattle.unit_same.specs.Statements.{SameStmt, SameBody, SameClass, SameMember, SameStmts, SameBodies, SameClasses, SameMembers, SameElse, SameBodyIfAny}
use Rattle.cxx_tree.specs.declared.stmt.Stmt.{Stmt}
use Rattle.cxx_tree.specs.declared.stmt.BodyTree.{BodyTree}
use Rattle.cxx_tree.specs.declared.decl.ClassTree.{ClassTree}
use Rattle.cxx_tree.specs.declared.decl.Member.{Member}
use Rattle.cxx_tree.specs.declared.decl.ClassTree.TheBlock.{hidden-the_row-Stmt-2, shape-the_row-Stmt-2, hidden-the_row-Member-0, shape-the_row-Member-0, hidden-the_row-BodyTree-1, shape-the_row-BodyTree-1, hidden-the_row-ClassTree-3, shape-the_row-ClassTree-3, hidden-the_row-Stmt-4, shape-the_row-Stmt-4, back-Stmt-If-3, back-FunctionTree-body}

pub boxed_stmt : (x y : Stmt) → SameStmt x y ↔ SameStmts (hidden-the_row-Stmt-4 x) (hidden-the_row-Stmt-4 y)
unfolding hidden-the_row-Stmt-4 shape-the_row-Stmt-4 denote.Hole.Carrier.hidden
boxed_stmt x y = (λ same. (same, tt), λ same. same.0)

pub boxed_class : (x y : ClassTree) → SameClass x y ↔ SameClasses (hidden-the_row-ClassTree-3 x) (hidden-the_row-ClassTree-3 y)
unfolding hidden-the_row-ClassTree-3 shape-the_row-ClassTree-3 denote.Hole.Carrier.hidden
boxed_class x y = (λ same. (same, tt), λ same. same.0)

pub boxed_body : (x y : BodyTree) → SameBody x y ↔ SameBodies (hidden-the_row-BodyTree-1 x) (hidden-the_row-BodyTree-1 y)
unfolding hidden-the_row-BodyTree-1 shape-the_row-BodyTree-1 denote.Hole.Carrier.hidden
boxed_body x y = (λ same. (same, tt), λ same. same.0)

pub row_of_stmts : (xs ys : List Stmt) → AreSame SameStmt xs ys ↔ SameStmts (hidden-the_row-Stmt-2 xs) (hidden-the_row-Stmt-2 ys)
unfolding hidden-the_row-Stmt-2 shape-the_row-Stmt-2 denote.Hole.Carrier.hidden
row_of_stmts [] [] = (λ same. same, λ same. same)
row_of_stmts [] (y ∷ ys) = (λ same. same, λ same. same)
row_of_stmts (x ∷ xs) [] = (λ same. same, λ same. same)
row_of_stmts (x ∷ xs) (y ∷ ys) =
    (λ same. (same.0, (row_of_stmts xs ys).0 same.1), λ same. (same.0, (row_of_stmts xs ys).1 same.1))

pub row_of_members : (xs ys : List Member) → AreSame SameMember xs ys ↔ SameMembers (hidden-the_row-Member-0 xs) (hidden-the_row-Member-0 ys)
unfolding hidden-the_row-Member-0 shape-the_row-Member-0 denote.Hole.Carrier.hidden
row_of_members [] [] = (λ same. same, λ same. same)
row_of_members [] (y ∷ ys) = (λ same. same, λ same. same)
row_of_members (x ∷ xs) [] = (λ same. same, λ same. same)
row_of_members (x ∷ xs) (y ∷ ys) =
    (λ same. (same.0, (row_of_members xs ys).0 same.1), λ same. (same.0, (row_of_members xs ys).1 same.1))

pub optional_else : (x y : Option Stmt) → AreSameIfAny SameStmt x y ↔ SameElse (back-Stmt-If-3 x) (back-Stmt-If-3 y)
optional_else None None = (λ same. same, λ same. same)
optional_else None (Some y) = (λ same. same, λ same. same)
optional_else (Some x) None = (λ same. same, λ same. same)
optional_else (Some x) (Some y) = boxed_stmt x y

pub optional_body : (x y : Option BodyTree) → AreSameIfAny SameBody x y ↔ SameBodyIfAny (back-FunctionTree-body x) (back-FunctionTree-body y)
optional_body None None = (λ same. same, λ same. same)
optional_body None (Some y) = (λ same. same, λ same. same)
optional_body (Some x) None = (λ same. same, λ same. same)
optional_body (Some x) (Some y) = boxed_body x y
