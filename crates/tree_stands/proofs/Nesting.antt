-- The rules of what nests at each level, and of a declaration of a unit.
use Rattle.std.proofs.Common.{ℕ, zero, suc, ◌+◌}
use Rattle.tree_stands.specs.Stands.{StandsDecl}
use Rattle.cxx_tokens.specs.declared.token.Tokens.{Tokens}
use Rattle.cxx_grammar.specs.Read.{levels_from}
use Rattle.cxx_grammar.specs.Nesting.{nests_at, read_nests, declaration}
use Rattle.tree_stands.proofs.Holding.{TreeStands}
use Rattle.tree_stands.proofs.Inner.{StandNests}
use Rattle.tree_stands.proofs.Statements.{stmt, sub}
use Rattle.tree_stands.proofs.Classes.{member, decl}

module _ (tokens : Tokens) where
  pub nests : (n level : ℕ) → StandNests tokens (nests_at tokens n level)
  unfolding nests_at
  nests zero level = record {
    of_stmt = λ within i. record { holds = tt };
    of_sub = λ within i. record { holds = tt };
    of_member = λ i. record { holds = tt };
  }
  nests (suc n) level = let inner = nests_at tokens n (level + 1) in let h = nests n (level + 1) in record {
    of_stmt = stmt tokens level inner h;
    of_sub = sub tokens level inner h;
    of_member = member tokens level inner h;
  }

  pub at_level : (level : ℕ) → StandNests tokens (read_nests tokens level)
  unfolding read_nests
  at_level level = nests (levels_from level) level

  pub declared : TreeStands tokens (StandsDecl tokens) (declaration tokens)
  unfolding declaration
  declared = decl tokens 0 (read_nests tokens 1) (at_level 1)
