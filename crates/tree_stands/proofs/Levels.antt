-- The rules of names, types and expressions at each level.
use Rattle.std.proofs.Common.{ℕ, zero, suc}
use Rattle.tree_stands.specs.Stands.{Stands, StandsName, StandsSplice, StandsType, StandsArg, StandsArgs, StandsBraced}
use Rattle.cxx_tokens.specs.declared.token.Tokens.{Tokens}
use Rattle.cxx_grammar.specs.Lists as lists
use Rattle.cxx_grammar.specs.Read as levels
use Rattle.tree_stands.proofs.Holding.{TreeStands}
use Rattle.tree_stands.proofs.Deeper.{StandRules}
use Rattle.tree_stands.proofs.Names.{name}
use Rattle.tree_stands.proofs.Types.{splice, type_tree}
use Rattle.tree_stands.proofs.Lists.{arg, args, braced}
use Rattle.tree_stands.proofs.Unaries.{unary}
use Rattle.tree_stands.proofs.Expressions.{expr}

module _ (tokens : Tokens) where
  pub rules : (n : ℕ) → StandRules tokens (levels.rules tokens n)
  unfolding levels.rules
  rules zero = record {
    exprs = λ i. record { holds = tt };
    types = λ i. record { holds = tt };
    braceds = λ i. record { holds = tt };
    unarys = λ i. record { holds = tt };
    names = λ i. record { holds = tt };
    splices = λ i. record { holds = tt };
    argss = λ i. record { holds = tt };
  }
  rules (suc n) = let d = levels.rules tokens n in let h = rules n in record {
    exprs = expr tokens d h;
    types = type_tree tokens d h;
    braceds = braced tokens d h;
    unarys = unary tokens d h;
    names = name tokens;
    splices = splice tokens d h;
    argss = args tokens d h;
  }

  pub read : (level : ℕ) → StandRules tokens (levels.read tokens level)
  unfolding levels.read
  read level = rules (levels.levels_from level)

  pub at_expr : (level : ℕ) → TreeStands tokens (Stands tokens) (levels.read tokens level).expr
  at_expr level = (read level).exprs

  pub at_type : (level : ℕ) → TreeStands tokens (StandsType tokens) (levels.read tokens level).type_tree
  at_type level = (read level).types

  pub at_braced : (level : ℕ) → TreeStands tokens (StandsBraced tokens) (levels.read tokens level).braced
  at_braced level = (read level).braceds

  pub at_unary : (level : ℕ) → TreeStands tokens (Stands tokens) (levels.read tokens level).unary
  at_unary level = (read level).unarys

  pub at_name : (level : ℕ) → TreeStands tokens (StandsName tokens) (levels.read tokens level).name
  at_name level = (read level).names

  pub at_splice : (level : ℕ) → TreeStands tokens (StandsSplice tokens) (levels.read tokens level).splice
  at_splice level = (read level).splices

  pub at_args : (level : ℕ) → TreeStands tokens (StandsArgs tokens) (levels.read tokens level).args
  at_args level = (read level).argss

  pub at_arg : (level : ℕ) → TreeStands tokens (StandsArg tokens) (lists.arg tokens (levels.read tokens level))
  at_arg level = arg tokens (levels.read tokens level) (read level)
