-- Assignments and expressions, which share their first unary expression, as the parser reads them. Nobody need believe this file: in
-- proofs/ each form is shown to give what the grammar's own forms give.
use Rattle.std.specs.Prelude.{ℕ, ◌+◌, Bool, false, ◌||◌, if◌then◌else◌, Option, Some}
use Rattle.std.specs.Option.{is_some}
use Rattle.cxx_tree.specs.declared.expr.ArgTree.{ArgTree}
use Rattle.cxx_tree.specs.declared.expr.Expr.{Expr}
use Rattle.cxx_tree.specs.declared.stmt.AssignTree.{AssignTree}
use Rattle.cxx_tree.specs.declared.stmt.AssignTree.TheVariants as assign-of
use Rattle.cxx_tree.specs.declared.stmt.ForStep.{ForStep}
use Rattle.cxx_tree.specs.declared.stmt.ForStep.TheVariants as for-step-of
use Rattle.cxx_tokens.specs.declared.token.Tokens.{Tokens}
use Rattle.cxx_tokens.specs.declared.mark.TheConstants as mark
use Rattle.cxx_reading.specs.declared.seen.Seen.{Seen}
use Rattle.cxx_reading.specs.declared.seen.Seen.TheVariants as seen_kind
use Rattle.cxx_reading.specs.Reading.{Rule, and_then, ◌>>=◌, ◌>>◌, longer, pure, punctuator, is_punctuator, kind, from}
use Rattle.cxx_grammar.specs.Lists.{arg}
use Rattle.cxx_grammar.specs.Read.{read}
use Rattle.cxx_grammar.specs.Joined.{expr_from}
use Rattle.cxx_grammar.specs.Locals.{compound_mark, step_before_mark, step_behind_mark, compound, behind, step_before}

-- ---- tests of the token there

-- `++` or `--`
abbrev pub is_step : Option Seen → Bool
is_step (Some (seen_kind.Punctuator m)) = is_some (step_before_mark m)
is_step _ = false

abbrev pub is_step_behind : Option Seen → Bool
is_step_behind (Some (seen_kind.Punctuator m)) = is_some (step_behind_mark m)
is_step_behind _ = false

abbrev pub is_compound : Option Seen → Bool
is_compound (Some (seen_kind.Punctuator m)) = is_some (compound_mark m)
is_compound _ = false

-- whether a unary expression before it is what an assignment changes
abbrev pub assigns : Option Seen → Bool
assigns k = is_punctuator mark.EQUAL k || (is_step_behind k || is_compound k)

module _ (tokens : Tokens) where
  -- ---- assignments, and expressions beside them, behind a unary expression that began at `start`

  unfoldable pub behind_rest : ℕ → Expr → Rule AssignTree
  behind_rest start x = from tokens start (do
    op ← behind tokens
    pure (λ s. assign-of.Step s op x))

  module _ (level : ℕ) where
    -- "=" (expr | braced)
    unfoldable pub equal_value : Rule ArgTree
    equal_value = punctuator tokens mark.EQUAL >> arg tokens (read tokens level)

    unfoldable pub equal_rest : ℕ → Expr → Rule AssignTree
    equal_rest start place = from tokens start (do
      x ← equal_value
      pure (λ s. assign-of.Equal s place x))

    unfoldable pub compound_rest : ℕ → Expr → Rule AssignTree
    compound_rest start place = from tokens start (do
      op ← compound tokens
      x ← (read tokens level).expr
      pure (λ s. assign-of.Compound s op place x))

    unfoldable pub assign_rest : ℕ → Expr → Rule AssignTree
    assign_rest start x = λ i. longer (equal_rest start x i) (longer (compound_rest start x i) (behind_rest start x i))

    unfoldable pub assign_placed : Rule AssignTree
    assign_placed = λ start. and_then ((read tokens level).unary start) (assign_rest start)

    -- an assignment or an expression, behind which this mark stands
    module _ (m : ℕ) where
      unfoldable pub closed_assign : ℕ → Expr → Rule ForStep
      closed_assign start x = do a ← assign_rest start x; punctuator tokens m; pure (for-step-of.Assign a)

      unfoldable pub closed_expr : ℕ → Expr → Rule ForStep
      closed_expr start x = do y ← expr_from tokens (read tokens (level + 1)) start x; punctuator tokens m; pure (for-step-of.Expr y)

      unfoldable pub closed_rest : ℕ → Expr → Rule ForStep
      closed_rest start x = λ i. if assigns (kind tokens i) then closed_assign start x i else closed_expr start x i

      unfoldable pub closed_placed : Rule ForStep
      closed_placed = λ start. and_then ((read tokens level).unary start) (closed_rest start)

      unfoldable pub closed_step : Rule ForStep
      closed_step = do a ← step_before tokens level; punctuator tokens m; pure (for-step-of.Assign a)

      unfoldable pub closed : Rule ForStep
      closed = λ start. if is_step (kind tokens start) then closed_step start else closed_placed start
