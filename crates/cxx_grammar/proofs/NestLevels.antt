-- The rules of what nests at a level, from those one level deeper.
use Rattle.std.proofs.Common.{◌≡◌, ℕ, suc, ◌+◌, ◌≤◌, ap, arith}
use Rattle.cxx_base.specs.declared.limits.TheConstants.{TOO_DEEP}
use Rattle.cxx_tokens.specs.declared.token.Tokens.{Tokens}
use Rattle.cxx_reading.specs.Reading.{No, TooDeep}
use Rattle.cxx_grammar.specs.declared.within.Within.{Within}
use Rattle.cxx_grammar.specs.Read.{levels_from}
use Rattle.cxx_grammar.specs.Statements as statements
use Rattle.cxx_grammar.specs.Classes as classes
use Rattle.cxx_grammar.specs.Nesting.{nests_at, read_nests}

module _ (tokens : Tokens) (level i : ℕ) where
  -- at the last level
  module _ (last : level ≡ TOO_DEEP) where
    pub last_stmt : (within : Within) → (read_nests tokens level).stmt within i ≡ No TooDeep
    unfolding read_nests nests_at
    last_stmt within = rw last

    pub last_sub : (within : Within) → (read_nests tokens level).sub within i ≡ No TooDeep
    unfolding read_nests nests_at
    last_sub within = rw last

    pub last_member : (read_nests tokens level).member i ≡ No TooDeep
    unfolding read_nests nests_at
    last_member = rw last

  -- at each other
  module _ (low : level ≤ TOO_DEEP) (before : level ≡ TOO_DEEP → ⊥) where
    one_more : levels_from level ≡ suc (levels_from (level + 1))
    one_more = omega arith

    pub at_stmt : (within : Within) → (read_nests tokens level).stmt within i ≡ statements.stmt tokens level (read_nests tokens (level + 1)) within i
    unfolding read_nests nests_at
    at_stmt within = ap (λ (n : ℕ). (nests_at tokens n level).stmt within i) one_more

    pub at_sub : (within : Within) → (read_nests tokens level).sub within i ≡ statements.sub tokens level (read_nests tokens (level + 1)) within i
    unfolding read_nests nests_at
    at_sub within = ap (λ (n : ℕ). (nests_at tokens n level).sub within i) one_more

    pub at_member : (read_nests tokens level).member i ≡ classes.member tokens level (read_nests tokens (level + 1)) i
    unfolding read_nests nests_at
    at_member = ap (λ (n : ℕ). (nests_at tokens n level).member i) one_more

pub ruleset nest_levels = (last_stmt, last_sub, last_member, at_stmt, at_sub, at_member)
