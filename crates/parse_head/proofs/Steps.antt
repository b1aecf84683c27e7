-- The step of a `for`: an assignment or an expression, which share their first unary expression, with the parenthesis behind it.
use Rattle.std.proofs.Common.{◌≡◌, ℕ, ◌+◌, ◌≤◌, Bool, true, false, Option, Some, refl, ap, ◌∙◌}
use Rattle.cxx_tree.specs.declared.expr.Expr.{Expr}
use Rattle.cxx_tree.specs.declared.stmt.AssignTree.{AssignTree}
use Rattle.cxx_tree.specs.declared.stmt.ForStep.{ForStep}
use Rattle.cxx_tree.specs.declared.stmt.ForStep.TheVariants as for-step-of
use Rattle.cxx_tokens.specs.declared.token.Tokens.{Tokens}
use Rattle.cxx_tokens.specs.declared.mark.TheConstants as mark
use Rattle.cxx_reading.specs.declared.seen.Seen.TheVariants.{Punctuator}
use Rattle.cxx_reading.specs.Extents.{EndsFrom, Forward}
use Rattle.cxx_reading.specs.Reading.{End, Tree, No, Nothing, TooDeep, Rule, and_then, longer, or_none, optional, kind, is_punctuator, punctuator}
use Rattle.cxx_reading.proofs.Starts.{is_that_punctuator, longer_nothing, no_punctuator_at, punctuator_there, optional_none}
use Rattle.cxx_reading.proofs.Factor.{assoc, pointwise, factor}
use Rattle.cxx_reading.proofs.Choices.{goes_before}
use Rattle.cxx_reading.proofs.Forward.{steps}
use Rattle.cxx_grammar.proofs.Tables.{tables}
use Rattle.cxx_grammar.proofs.Forwards as forwards
use Rattle.cxx_grammar.specs.Lists.{arg}
use Rattle.cxx_grammar.specs.Joined.{expr_from}
use Rattle.cxx_grammar.specs.Read.{read}
use Rattle.cxx_grammar.specs.Locals.{compound, behind}
use Rattle.cxx_grammar.specs.Statements.{for_step}
use Rattle.parse_assign.specs.Joined.{is_step, assigns, equal_value, equal_rest, compound_rest, behind_rest, assign_rest, assign_placed, closed_assign, closed_expr, closed_rest, closed_placed, closed_step, closed}
use Rattle.parse_assign.proofs.Assignments.{no_unary_at_step, no_unary_at_mark, no_assign_rest, alone_paren, expr_ends, assign_at_step, assign_elsewhere}
use Rattle.parse_assign.proofs.Expressions.{below, before, expr_is, no_expr, closed_at_assign, closed_at_expr}
use Rattle.parse_head.specs.Joined.{step_there, step_closed}

module _ (tokens : Tokens) where
  abbrev behind_step : ForStep → Rule ForStep
  behind_step y k = and_then (punctuator tokens mark.RIGHT_PAREN k) (λ t l. Tree y l)

  forward_compound : Forward (compound tokens)
  unfolding compound
  forward_compound = search (steps, tables) depth 14

  forward_behind : Forward (behind tokens)
  unfolding behind
  forward_behind = search (steps, tables) depth 14

  forward_arg : (level : ℕ) → Forward (arg tokens (read tokens level))
  forward_arg level = forwards.arg tokens (read tokens level) (forwards.read tokens level)

  forward_expr : (level : ℕ) → Forward (read tokens level).expr
  forward_expr level = (forwards.read tokens level).exprs

  forward_assign_rest : (level start : ℕ) (x : Expr) → Forward (assign_rest tokens level start x)
  unfolding assign_rest equal_rest equal_value compound_rest behind_rest
  forward_assign_rest level start x = search (steps, forward_compound, forward_behind, forward_arg, forward_expr) depth 14

module _ (tokens : Tokens) (level start : ℕ) (x : Expr) (j : ℕ) where
  abbrev as_step : End ForStep
  as_step = and_then (longer (and_then (assign_rest tokens level start x j) (λ a k. Tree (for-step-of.Assign a) k)) (and_then (expr_from tokens (read tokens (level + 1)) start x j) (λ y k. Tree (for-step-of.Expr y) k))) (behind_step tokens)

  -- what an expression alone comes to before this token is dropped with what stands behind it
  assigned_alone : (e : End AssignTree) → EndsFrom j e → punctuator tokens mark.RIGHT_PAREN j ≡ No Nothing
      → and_then (longer (and_then e (λ a k. Tree (for-step-of.Assign a) k)) (Tree (for-step-of.Expr x) j)) (behind_step tokens) ≡ and_then e (λ a. behind_step tokens (for-step-of.Assign a))
  assigned_alone (Tree a k) h n = ap (λ (e : End ForStep). and_then e (behind_step tokens)) (goes_before (Tree (for-step-of.Assign a) k) (for-step-of.Expr x) j h)
  assigned_alone (No Nothing) h n = simp n
  assigned_alone (No TooDeep) h n = refl

  step_rest : (b : Bool) → assigns (kind tokens j) ≡ b → as_step ≡ closed_rest tokens level mark.RIGHT_PAREN start x j
  unfolding closed_assign closed_expr
  step_rest true a = simp (expr_ends tokens (level + 1) start x j a, closed_at_assign tokens level start mark.RIGHT_PAREN x j a)
      (assigned_alone (assign_rest tokens level start x j) ((forward_assign_rest tokens level start x).at j) (no_punctuator_at tokens j _ refl mark.RIGHT_PAREN (alone_paren (kind tokens j) a)))
  step_rest false a = simp (no_assign_rest tokens level start x j a, closed_at_expr tokens level start mark.RIGHT_PAREN x j a, assoc)

module _ (tokens : Tokens) (level i : ℕ) (low : level ≤ 256) where
  step_by : (b : Bool) → is_step (kind tokens i) ≡ b → and_then (for_step tokens level i) (behind_step tokens) ≡ closed tokens level mark.RIGHT_PAREN i
  unfolding for_step closed closed_step closed_placed assign_placed
  step_by true h = simp (h, assign_at_step tokens level i low h, no_expr tokens level i low (no_unary_at_step tokens level i low h), longer_nothing, assoc)
  step_by false h = simp (h, assign_elsewhere tokens level i h, expr_is tokens level i low, assoc, factor)
      (pointwise ((read tokens level).unary i) _ _ (λ x j. step_rest tokens level i x j (assigns (kind tokens j)) refl))

  -- ---- where no step stands

  no_step_at_paren : kind tokens i ≡ Some (Punctuator mark.RIGHT_PAREN) → for_step tokens level i ≡ No Nothing
  unfolding for_step assign_placed
  no_step_at_paren e =
      let u : (read tokens level).unary i ≡ No Nothing = no_unary_at_mark tokens level i (below level low) (before level low) mark.RIGHT_PAREN e refl refl refl refl refl in
      let s : is_step (kind tokens i) ≡ false = rw e refl in
      simp (assign_elsewhere tokens level i s, no_expr tokens level i low u, u)

  step_or_none : {A : Type 0} (e : End ForStep) (r : Option ForStep → Rule A) → punctuator tokens mark.RIGHT_PAREN i ≡ No Nothing
      → and_then (or_none e i) (λ s j. and_then (punctuator tokens mark.RIGHT_PAREN j) (λ t. r s)) ≡ and_then (and_then (and_then e (behind_step tokens)) (λ y k. Tree (Some y) k)) r
  step_or_none (Tree y j) r n = simp assoc
  step_or_none (No Nothing) r n = simp n
  step_or_none (No TooDeep) r n = refl

  closed_else : {A : Type 0} (r : Option ForStep → Rule A) → is_punctuator mark.RIGHT_PAREN (kind tokens i) ≡ false
      → and_then (optional (for_step tokens level) i) (λ s j. and_then (punctuator tokens mark.RIGHT_PAREN j) (λ t. r s)) ≡ and_then (step_closed tokens level i) r
  unfolding optional step_closed step_there
  closed_else r h = step_or_none (for_step tokens level i) r (no_punctuator_at tokens i _ refl mark.RIGHT_PAREN h)
      ∙ (simp h (ap (λ (e : End ForStep). and_then (and_then e (λ y k. Tree (Some y) k)) r) (step_by (is_step (kind tokens i)) refl)))

  closed_by : {A : Type 0} (r : Option ForStep → Rule A) (b : Bool) → is_punctuator mark.RIGHT_PAREN (kind tokens i) ≡ b
      → and_then (optional (for_step tokens level) i) (λ s j. and_then (punctuator tokens mark.RIGHT_PAREN j) (λ t. r s)) ≡ and_then (step_closed tokens level i) r
  unfolding step_closed
  closed_by r true h = simp (h, optional_none (for_step tokens level) i (no_step_at_paren (is_that_punctuator mark.RIGHT_PAREN (kind tokens i) h)), punctuator_there tokens i mark.RIGHT_PAREN h)
  closed_by r false h = closed_else r h

  pub step_closes : {A : Type 0} (r : Option ForStep → Rule A)
      → and_then (optional (for_step tokens level) i) (λ s j. and_then (punctuator tokens mark.RIGHT_PAREN j) (λ t. r s)) ≡ and_then (step_closed tokens level i) r
  step_closes r = closed_by r (is_punctuator mark.RIGHT_PAREN (kind tokens i)) refl
