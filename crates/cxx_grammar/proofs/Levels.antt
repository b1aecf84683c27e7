-- The rules at a level, from those one level deeper.
use Rattle.std.proofs.Common.{◌≡◌, ℕ, suc, ◌+◌, ◌≤◌, ap, arith}
use Rattle.cxx_base.specs.declared.limits.TheConstants.{TOO_DEEP}
use Rattle.cxx_tokens.specs.declared.token.Tokens.{Tokens}
use Rattle.cxx_reading.specs.Reading.{No, TooDeep}
use Rattle.cxx_grammar.specs.Names as names
use Rattle.cxx_grammar.specs.Types as types
use Rattle.cxx_grammar.specs.Lists as lists
use Rattle.cxx_grammar.specs.Unaries as unaries
use Rattle.cxx_grammar.specs.Expressions as expressions
use Rattle.cxx_grammar.specs.Read.{levels_from, rules, read}
use Rattle.cxx_grammar.specs.Joined.{sized_here}

module _ (tokens : Tokens) (level i : ℕ) where
  -- at the last level
  module _ (last : level ≡ TOO_DEEP) where
    pub last_expr : (read tokens level).expr i ≡ No TooDeep
    unfolding read rules
    last_expr = rw last

    pub last_type_tree : (read tokens level).type_tree i ≡ No TooDeep
    unfolding read rules
    last_type_tree = rw last

    pub last_braced : (read tokens level).braced i ≡ No TooDeep
    unfolding read rules
    last_braced = rw last

    pub last_unary : (read tokens level).unary i ≡ No TooDeep
    unfolding read rules
    last_unary = rw last

    pub last_name : (read tokens level).name i ≡ No TooDeep
    unfolding read rules
    last_name = rw last

    pub last_splice : (read tokens level).splice i ≡ No TooDeep
    unfolding read rules
    last_splice = rw last

    pub last_args : (read tokens level).args i ≡ No TooDeep
    unfolding read rules
    last_args = rw last

    pub last_sized : unaries.sized tokens (read tokens level) i ≡ No TooDeep
    unfolding read rules unaries.sized unaries.sized_type unaries.sized_expr
    last_sized = rw last

  -- at each other
  module _ (low : level ≤ TOO_DEEP) (before : level ≡ TOO_DEEP → ⊥) where
    one_more : levels_from level ≡ suc (levels_from (level + 1))
    one_more = omega arith

    pub at_expr : (read tokens level).expr i ≡ expressions.expr tokens (read tokens (level + 1)) i
    unfolding read rules
    at_expr = ap (λ (n : ℕ). (rules tokens n).expr i) one_more

    pub at_type_tree : (read tokens level).type_tree i ≡ types.type_tree tokens (read tokens (level + 1)) i
    unfolding read rules
    at_type_tree = ap (λ (n : ℕ). (rules tokens n).type_tree i) one_more

    pub at_braced : (read tokens level).braced i ≡ lists.braced tokens (read tokens (level + 1)) i
    unfolding read rules
    at_braced = ap (λ (n : ℕ). (rules tokens n).braced i) one_more

    pub at_unary : (read tokens level).unary i ≡ unaries.unary tokens (read tokens (level + 1)) i
    unfolding read rules
    at_unary = ap (λ (n : ℕ). (rules tokens n).unary i) one_more

    pub at_name : (read tokens level).name i ≡ names.name tokens i
    unfolding read rules
    at_name = ap (λ (n : ℕ). (rules tokens n).name i) one_more

    pub at_splice : (read tokens level).splice i ≡ types.splice tokens (read tokens (level + 1)) i
    unfolding read rules
    at_splice = ap (λ (n : ℕ). (rules tokens n).splice i) one_more

    pub at_args : (read tokens level).args i ≡ lists.args tokens (read tokens (level + 1)) i
    unfolding read rules
    at_args = ap (λ (n : ℕ). (rules tokens n).args i) one_more

    pub at_sized : unaries.sized tokens (read tokens level) i ≡ sized_here tokens (read tokens (level + 1)) i
    unfolding read rules unaries.sized unaries.sized_type unaries.sized_expr sized_here
    at_sized = ap (λ (n : ℕ). unaries.sized tokens (rules tokens n) i) one_more

pub ruleset levels = (last_sized, at_sized, last_expr, last_type_tree, last_braced, last_unary, last_name, last_splice, last_args, at_expr, at_type_tree, at_braced, at_unary, at_name, at_splice, at_args)
