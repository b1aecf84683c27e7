-- The rules at each level of nesting.
use Rattle.std.specs.Prelude.{ℕ, zero, suc, ◌-◌}
use Rattle.cxx_base.specs.declared.limits.TheConstants.{TOO_DEEP}
use Rattle.cxx_tokens.specs.declared.token.Tokens.{Tokens}
use Rattle.cxx_reading.specs.Reading.{too_deep}
use Rattle.cxx_grammar.specs.Rules.{Rules}
use Rattle.cxx_grammar.specs.Names.{name}
use Rattle.cxx_grammar.specs.Types.{splice, type_tree}
use Rattle.cxx_grammar.specs.Lists.{args, braced}
use Rattle.cxx_grammar.specs.Unaries.{unary}
use Rattle.cxx_grammar.specs.Expressions.{expr}

-- how many levels there are from this one on; what stands deeper than the last one is too deep
abbrev pub levels_from : ℕ → ℕ
levels_from level = TOO_DEEP - level

module _ (tokens : Tokens) where
  -- the rules at a level, where those one level deeper are known
  abbrev at_level : Rules → Rules
  at_level deeper = record {
    expr = expr tokens deeper;
    type_tree = type_tree tokens deeper;
    braced = braced tokens deeper;
    unary = unary tokens deeper;
    name = name tokens;
    splice = splice tokens deeper;
    args = args tokens deeper;
  }

  -- the rules where so many levels are left below
  unfoldable pub rules : ℕ → Rules
  rules zero = record {
    expr = too_deep;
    type_tree = too_deep;
    braced = too_deep;
    unary = too_deep;
    name = too_deep;
    splice = too_deep;
    args = too_deep;
  }
  rules (suc n) = at_level (rules n)

unfoldable pub read : Tokens → ℕ → Rules
read tokens level = rules tokens (levels_from level)
