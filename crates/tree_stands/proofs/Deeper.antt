-- What is asked of the rules of names, types and expressions one level deeper.
use Rattle.tree_stands.specs.Stands.{Stands, StandsName, StandsSplice, StandsType, StandsArgs, StandsBraced}
use Rattle.cxx_tokens.specs.declared.token.Tokens.{Tokens}
use Rattle.cxx_grammar.specs.Rules.{Rules}
use Rattle.tree_stands.proofs.Holding.{TreeStands}

pub record StandRules (tokens : Tokens) (deeper : Rules) : Type 0 where
  pub exprs : TreeStands tokens (Stands tokens) deeper.expr
  pub types : TreeStands tokens (StandsType tokens) deeper.type_tree
  pub braceds : TreeStands tokens (StandsBraced tokens) deeper.braced
  pub unarys : TreeStands tokens (Stands tokens) deeper.unary
  pub names : TreeStands tokens (StandsName tokens) deeper.name
  pub splices : TreeStands tokens (StandsSplice tokens) deeper.splice
  pub argss : TreeStands tokens (StandsArgs tokens) deeper.args
