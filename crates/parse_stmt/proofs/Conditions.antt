-- `if` and `while` share the form of their conditions.
use Rattle.std.proofs.Common.{◌≡◌, ℕ}
use Rattle.cxx_tokens.specs.declared.token.Tokens.{Tokens}
use Rattle.cxx_reading.proofs.Factor.{assoc}
use Rattle.cxx_grammar.specs.declared.within.Within.{Within}
use Rattle.cxx_grammar.specs.Nests.{Nests, looping}
use Rattle.cxx_grammar.specs.Statements.{if_form, while_form}
use Rattle.parse_stmt.specs.Joined.{condition, if_joined, while_joined}

module _ (tokens : Tokens) (level : ℕ) (inner : Nests) (within : Within) (i : ℕ) where
  pub if_is : if_form tokens level inner within i ≡ if_joined tokens level (inner.sub within) i
  unfolding if_form if_joined condition
  if_is = simp assoc

  pub while_is : while_form tokens level inner within i ≡ while_joined tokens level (inner.sub (looping within)) i
  unfolding while_form while_joined condition
  while_is = simp assoc
