-- An expression is a unary one, and what goes on behind it; and which of an assignment and an expression does.
use Rattle.std.proofs.Common.{◌≡◌, ℕ, ◌+◌, ◌≤◌, true, false, ap, ◌∙◌, sym, arith}
use Rattle.cxx_tree.specs.declared.expr.Expr.{Expr}
use Rattle.cxx_tokens.specs.declared.token.Tokens.{Tokens}
use Rattle.cxx_reading.specs.Reading.{End, No, Nothing, and_then, kind}
use Rattle.cxx_grammar.specs.Joined.{expr_from}
use Rattle.cxx_grammar.specs.Read.{read}
use Rattle.cxx_grammar.proofs.Chains.{expr_by_unary}
use Rattle.cxx_grammar.proofs.Levels.{at_expr, at_unary}
use Rattle.parse_assign.specs.Joined.{assigns, closed_assign, closed_expr, closed_rest}

module _ (level : ℕ) (low : level ≤ 256) where
  pub below : level ≤ 257
  below = omega arith

  pub before : level ≡ 257 → ⊥
  before e = omega arith

module _ (tokens : Tokens) (level i : ℕ) (low : level ≤ 256) where
  pub expr_is : (read tokens level).expr i ≡ and_then ((read tokens level).unary i) (expr_from tokens (read tokens (level + 1)) i)
  expr_is = at_expr tokens level i (below level low) (before level low) ∙ expr_by_unary tokens (read tokens (level + 1)) i
      ∙ ap (λ (e : End Expr). and_then e (expr_from tokens (read tokens (level + 1)) i)) (sym (at_unary tokens level i (below level low) (before level low)))

  pub no_expr : (read tokens level).unary i ≡ No Nothing → (read tokens level).expr i ≡ No Nothing
  no_expr e = expr_is ∙ ap (λ (u : End Expr). and_then u (expr_from tokens (read tokens (level + 1)) i)) e

-- which of the two goes on behind the unary expression, where this mark stands behind the whole
module _ (tokens : Tokens) (level start m : ℕ) (x : Expr) (j : ℕ) where
  pub closed_at_assign : assigns (kind tokens j) ≡ true → closed_rest tokens level m start x j ≡ closed_assign tokens level m start x j
  unfolding closed_rest
  closed_at_assign a = simp a

  pub closed_at_expr : assigns (kind tokens j) ≡ false → closed_rest tokens level m start x j ≡ closed_expr tokens level m start x j
  unfolding closed_rest
  closed_at_expr a = simp a
