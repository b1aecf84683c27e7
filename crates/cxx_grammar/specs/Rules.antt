-- The rules at one level, as values: what each gives at each token. `args` are arguments with their parentheses.
use Rattle.cxx_tree.specs.declared.expr.Expr.{Expr}
use Rattle.cxx_tree.specs.declared.expr.TypeTree.{TypeTree}
use Rattle.cxx_tree.specs.declared.expr.BracedTree.{BracedTree}
use Rattle.cxx_tree.specs.declared.identifier.NameTree.{NameTree}
use Rattle.cxx_tree.specs.declared.expr.SpliceTree.{SpliceTree}
use Rattle.cxx_tree.specs.declared.expr.ArgTrees.{ArgTrees}
use Rattle.cxx_reading.specs.Reading.{Rule}

pub record Rules : Type 0 where
  pub expr : Rule Expr
  pub type_tree : Rule TypeTree
  pub braced : Rule BracedTree
  pub unary : Rule Expr
  pub name : Rule NameTree
  pub splice : Rule SpliceTree
  pub args : Rule ArgTrees
