-- The rules of what nests at each level, and what a declaration of a unit is.
use Rattle.std.specs.Prelude.{ℕ, zero, suc, ◌+◌}
use Rattle.cxx_tree.specs.declared.decl.Decl.{Decl}
use Rattle.cxx_tokens.specs.declared.token.Tokens.{Tokens}
use Rattle.cxx_reading.specs.Reading.{Rule, too_deep}
use Rattle.cxx_grammar.specs.Read.{levels_from}
use Rattle.cxx_grammar.specs.Nests.{Nests}
use Rattle.cxx_grammar.specs.Statements.{stmt, sub}
use Rattle.cxx_grammar.specs.Classes.{member, decl}

module _ (tokens : Tokens) where
  -- the rules at a level, where those one level deeper are known
  abbrev nests_over : ℕ → Nests → Nests
  nests_over level inner = record { stmt = stmt tokens level inner; sub = sub tokens level inner; member = member tokens level inner }

  -- the rules at a level, of which so many are left with it
  unfoldable pub nests_at : ℕ → ℕ → Nests
  nests_at zero level = record { stmt = λ within. too_deep; sub = λ within. too_deep; member = too_deep }
  nests_at (suc n) level = nests_over level (nests_at n (level + 1))

  unfoldable pub read_nests : ℕ → Nests
  read_nests level = nests_at (levels_from level) level

  -- a declaration of a unit stands at level 0
  unfoldable pub declaration : Rule Decl
  declaration = decl tokens 0 (read_nests 1)
