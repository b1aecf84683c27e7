-- What boxes and lists hold stands where their rows do: of statements and classes.
use Rattle.std.proofs.Common.{ℕ, List, [], ◌∷◌, Option, None, Some}
use denote.Hole.Carrier
use Rattle.cxx_tokens.specs.declared.token.Tokens.{Tokens}
use Rattle.tree_stands.specs.Stands.{InOrder, IfAny, StandsStmt, StandsBody, StandsClass, StandsMember, StandsStmts, StandsBodies, StandsMembers, StandsElse, StandsBodyIfAny}
use Rattle.cxx_tree.specs.declared.stmt.Stmt.{Stmt}
use Rattle.cxx_tree.specs.declared.stmt.Stmt.TheVariants as stmt-of
use Rattle.cxx_tree.specs.declared.stmt.BodyTree.{BodyTree}
use Rattle.cxx_tree.specs.declared.decl.ClassTree.{ClassTree}
use Rattle.cxx_tree.specs.declared.decl.Member.{Member}
use Rattle.cxx_tree.specs.declared.decl.ClassTree.TheBlock.{hidden-the_row-Stmt-2, shape-the_row-Stmt-2, hidden-the_row-Member-0, shape-the_row-Member-0, hidden-the_row-BodyTree-1, shape-the_row-BodyTree-1, hidden-the_row-ClassTree-3, shape-the_row-ClassTree-3, hidden-the_row-Stmt-4, shape-the_row-Stmt-4, back-Stmt-If-3, back-FunctionTree-body}
use Rattle.tree_stands.proofs.Holding.{In}

module _ (tokens : Tokens) where
  pub boxed_stmt : (i j : ℕ) (x : Stmt) → In (StandsStmt tokens) i j x → StandsStmts tokens i j (hidden-the_row-Stmt-4 x)
  unfolding hidden-the_row-Stmt-4 shape-the_row-Stmt-4 denote.Hole.Carrier.hidden
  boxed_stmt i j x h = h

  pub boxed_body : (i j : ℕ) (x : BodyTree) → In (StandsBody tokens) i j x → StandsBodies tokens i j (hidden-the_row-BodyTree-1 x)
  unfolding hidden-the_row-BodyTree-1 shape-the_row-BodyTree-1 denote.Hole.Carrier.hidden
  boxed_body i j x h = h

  pub row_of_stmts : (i j : ℕ) (xs : List Stmt) → InOrder (StandsStmt tokens) i j xs → StandsStmts tokens i j (hidden-the_row-Stmt-2 xs)
  unfolding hidden-the_row-Stmt-2 shape-the_row-Stmt-2 denote.Hole.Carrier.hidden
  row_of_stmts i j [] h = h
  row_of_stmts i j (x ∷ xs) h = (h.0, h.1, h.2, h.3, row_of_stmts h.1 j xs h.4)

  pub row_of_members : (i j : ℕ) (xs : List Member) → InOrder (StandsMember tokens) i j xs → StandsMembers tokens i j (hidden-the_row-Member-0 xs)
  unfolding hidden-the_row-Member-0 shape-the_row-Member-0 denote.Hole.Carrier.hidden
  row_of_members i j [] h = h
  row_of_members i j (x ∷ xs) h = (h.0, h.1, h.2, h.3, row_of_members h.1 j xs h.4)

  pub else_stands : (i j : ℕ) (x : Option Stmt) → IfAny (StandsStmt tokens) i j x → StandsElse tokens i j (back-Stmt-If-3 x)
  else_stands i j None h = h
  else_stands i j (Some x) h = boxed_stmt i j x h

  pub body_if_any_stands : (i j : ℕ) (x : Option BodyTree) → IfAny (StandsBody tokens) i j x → StandsBodyIfAny tokens i j (back-FunctionTree-body x)
  body_if_any_stands i j None h = h
  body_if_any_stands i j (Some x) h = boxed_body i j x h

  -- a class as a statement
  pub class_stands : (i j : ℕ) (x : ClassTree) → StandsClass tokens i j x → StandsStmt tokens i j (stmt-of.Class x)
  unfolding hidden-the_row-ClassTree-3 shape-the_row-ClassTree-3 denote.Hole.Carrier.hidden
  class_stands i j x h = h
