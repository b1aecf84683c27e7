-- What is asked of the rules of statements and members one level deeper.
use Rattle.tree_stands.specs.Stands.{StandsStmt, StandsMember}
use Rattle.cxx_tokens.specs.declared.token.Tokens.{Tokens}
use Rattle.cxx_grammar.specs.declared.within.Within.{Within}
use Rattle.cxx_grammar.specs.Nests.{Nests}
use Rattle.tree_stands.proofs.Holding.{TreeStands}

pub record StandNests (tokens : Tokens) (inner : Nests) : Type 0 where
  pub of_stmt : (within : Within) → TreeStands tokens (StandsStmt tokens) (inner.stmt within)
  pub of_sub : (within : Within) → TreeStands tokens (StandsStmt tokens) (inner.sub within)
  pub of_member : TreeStands tokens (StandsMember tokens) inner.member
