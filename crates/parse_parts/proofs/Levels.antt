-- An enumerator is read at the level of the braces around it.
use Rattle.std.proofs.Common.{◌≡◌, ℕ, ◌+◌, ◌≤◌, true, nat_le, arith}
use Rattle.std.proofs.lemmas.Bool.{le-leb}
use Rattle.cxx_tokens.specs.declared.token.Tokens.{Tokens}
use Rattle.cxx_reading.specs.Reading.{No, TooDeep}
use Rattle.cxx_grammar.specs.Declarations.{enumerator, enumerator_form}

module _ (tokens : Tokens) (level i : ℕ) where
  pub past_the_last : level ≡ 256 → enumerator tokens level i ≡ No TooDeep
  unfolding enumerator
  past_the_last e = rw e

  pub at_most_the_last : level ≤ 256 → (level ≡ 256 → ⊥) → enumerator tokens level i ≡ enumerator_form tokens level i
  unfolding enumerator
  at_most_the_last low before =
      let below : level + 1 ≤ 256 = omega arith in
      let holds : nat_le (level + 1) 256 ≡ true = le-leb (level + 1) 256 below in
      rw holds

pub ruleset levels = (past_the_last, at_most_the_last)
