-- The statement of a head.
use Rattle.cxx_base.specs.declared.place.Span.{Span}
use Rattle.cxx_tree.specs.declared.stmt.Stmt.{Stmt}
use Rattle.cxx_tree.specs.declared.stmt.Stmt.TheVariants as stmt-of
use Rattle.parse_head.specs.declared.tree.HeadTree.{HeadTree}
use Rattle.parse_head.specs.declared.tree.HeadTree.TheVariants as head-of

-- what is repeated by a head, with this span
abbrev pub statement_of : Span → HeadTree → Stmt → Stmt
statement_of s (head-of.For h) turn = stmt-of.For s h turn
statement_of s (head-of.Range h) turn = stmt-of.RangeFor s h turn
