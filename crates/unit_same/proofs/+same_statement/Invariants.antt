-- The lists are the same where what is left of them is.
use Rattle.std.proofs.Common.{◌↔◌, drop}
use Rattle.tree_same.specs.Lists.{AreSame}
use Rattle.unit_same.specs.Statements.{SameMember, SameStmt}
use Rattle.unit_same.proofs.+same_statement.Given as goal

abbrev pub invariant-class::members_same-loop-x : goal.invariant-class::members_same-loop-x
invariant-class::members_same-loop-x l = AreSame SameMember l.fn.members l.fn.others ↔ AreSame SameMember (drop l.x-index l.fn.members) l.rest

abbrev pub invariant-stmt::stmts_same-loop-x : goal.invariant-stmt::stmts_same-loop-x
invariant-stmt::stmts_same-loop-x l = AreSame SameStmt l.fn.stmts l.fn.others ↔ AreSame SameStmt (drop l.x-index l.fn.stmts) l.rest
