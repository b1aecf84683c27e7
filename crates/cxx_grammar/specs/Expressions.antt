-- Chains of operators ([expr.mul] to [expr.log.or]) and whole expressions ([expr.cond]).
use Rattle.std.specs.Prelude.{ℕ, zero, suc, List, [], ◌∷◌, ◌++◌, Option, Some, None}
use Rattle.cxx_base.specs.declared.place.Span.{Span}
use Rattle.cxx_tree.specs.declared.expr.Expr.{Expr}
use Rattle.cxx_tree.specs.declared.expr.Expr.TheVariants as expr-of
use Rattle.cxx_tree.specs.declared.expr.Operation.{Operation}
use Rattle.cxx_tree.specs.declared.expr.Operation.TheVariants as operation-of
use Rattle.cxx_tokens.specs.declared.token.Tokens.{Tokens}
use Rattle.cxx_tokens.specs.declared.mark.TheConstants.{QUESTION, COLON}
use Rattle.cxx_reading.specs.Reading.{Rule, ◌>>=◌, ◌>>◌, pure, optional, punctuator, repeated, node}
use Rattle.cxx_grammar.specs.declared.parts.Arms.{Arms}
use Rattle.cxx_grammar.specs.Operators.{line}
use Rattle.cxx_grammar.specs.Unaries.{unary}
use Rattle.cxx_grammar.specs.Rules.{Rules}

-- a first operand with the operations behind it, where there are any; they group to the left
abbrev pub with_operations : Expr → List Operation → Span → Expr
with_operations x [] s = x
with_operations x (first ∷ more) s = expr-of.Chain s x (first ∷ more)

abbrev pub with_arms : Expr → Option Arms → Span → Expr
with_arms x (Some arms) s = expr-of.Conditional s x arms.on_true arms.on_false
with_arms x None s = x

module _ (tokens : Tokens) (deeper : Rules) where
  -- an operator of a line, and an operand of what binds more
  abbrev pub operation : ℕ → Rule Expr → Rule Operation
  operation n operand = node tokens (do
    op ← line tokens n
    x ← operand
    pure (λ s. operation-of.Operation s op x))

  abbrev pub operations_on : ℕ → Rule Expr → List Operation → Rule (List Operation)
  operations_on n operand found = do
    x ← operation n operand
    pure (found ++ x ∷ [])

  -- chains of the operators of so many lines, from the one that binds most; all ten are `chain` of the grammar
  unfoldable pub chain : ℕ → Rule Expr
  chain zero = unary tokens deeper
  chain (suc n) = node tokens (do
    x ← chain n
    all ← repeated tokens (operations_on n (chain n)) []
    pure (with_operations x all))

  -- "?" expr ":" expr
  unfoldable pub arms : Rule Arms
  arms = do
    punctuator tokens QUESTION
    on_true ← deeper.expr
    punctuator tokens COLON
    on_false ← deeper.expr
    pure (record { on_true = on_true; on_false = on_false })

  -- expr : chain ("?" expr ":" expr)?
  unfoldable pub expr : Rule Expr
  expr = node tokens (do
    x ← chain 10
    found ← optional arms
    pure (with_arms x found))
