-- The span of a statement that is a class is that of the class in its box.
use Rattle.std.proofs.Common.{◌≡◌, ap}
use denote.Hole.Carrier
use Rattle.cxx_tree.specs.declared.decl.ClassTree.{ClassTree}
use Rattle.cxx_tree.specs.declared.decl.ClassTree.TheBlock.{hidden-the_row-ClassTree-3}
use Rattle.cxx_tree.specs.declared.stmt.Stmt as stmt
use Rattle.cxx_tree.specs.declared.stmt.Stmt.{Stmt}
use Rattle.cxx_tree.specs.MoreSpans.{span_of_class, span_of_stmt}

pub class_span : (x : Stmt) (c : ClassTree) → x ≡ stmt.Class c → span_of_stmt x ≡ span_of_class c
unfolding hidden-the_row-ClassTree-3 denote.Hole.Carrier.hidden
class_span x c e = ap span_of_stmt e
