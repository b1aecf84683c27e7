-- The heads of both forms of `for`, which share their beginning, read as one. Nobody need believe this file: in proofs/ they are shown
-- to give what the grammar's own forms give.
use Rattle.std.specs.Prelude.{ℕ, ◌+◌, Bool, false, if◌then◌else◌, Option, Some, None}
use Rattle.cxx_tree.specs.declared.identifier.Identifier.{Identifier}
use Rattle.cxx_tree.specs.declared.expr.Expr.{Expr}
use Rattle.cxx_tree.specs.declared.expr.TypeTree.{TypeTree}
use Rattle.cxx_tree.specs.declared.stmt.ForInit.{ForInit}
use Rattle.cxx_tree.specs.declared.stmt.ForInit.TheVariants as for-init-of
use Rattle.cxx_tree.specs.declared.stmt.ForStep.{ForStep}
use Rattle.cxx_tokens.specs.declared.token.Tokens.{Tokens}
use Rattle.cxx_tokens.specs.declared.mark.TheConstants as mark
use Rattle.cxx_tokens.specs.declared.keyword.TheConstants as keyword
use Rattle.cxx_reading.specs.Reading.{Tree, Rule, and_then, ◌>>=◌, ◌>>◌, ◌<|>◌, pure, optional, punctuator, identifier, is_punctuator, is_word, kind}
use Rattle.cxx_grammar.specs.Read.{read}
use Rattle.cxx_grammar.specs.Locals.{begins_local, local, assign}
use Rattle.cxx_grammar.specs.Statements.{for_empty}
use Rattle.parse_local.specs.Joined.{local_rest}
use Rattle.parse_assign.specs.Joined.{closed}
use Rattle.parse_head.specs.declared.tree.HeadTree.{HeadTree}
use Rattle.parse_head.specs.declared.tree.HeadTree.TheVariants as head-of

module _ (tokens : Tokens) (level : ℕ) where
  -- the first statement of the head, where no declaration begins
  unfoldable pub first_assign : Rule ForInit
  first_assign = do x ← assign tokens level; punctuator tokens mark.SEMICOLON; pure (for-init-of.Assign x)

  unfoldable pub plain_first : Rule ForInit
  plain_first = first_assign <|> for_empty tokens

  -- the step of the head, where there is one, and the parenthesis behind it
  unfoldable pub step_there : Rule (Option ForStep)
  step_there = do x ← closed tokens level mark.RIGHT_PAREN; pure (Some x)

  unfoldable pub step_closed : Rule (Option ForStep)
  step_closed = λ i. if is_punctuator mark.RIGHT_PAREN (kind tokens i) then Tree None (i + 1) else step_there i

  -- what stands behind the first statement
  unfoldable pub behind_first : ForInit → Rule HeadTree
  behind_first first = do
    condition ← optional (read tokens level).expr
    punctuator tokens mark.SEMICOLON
    step ← step_closed
    pure (head-of.For (record { first = first; condition = condition; step = step }))

  unfoldable pub over : Rule Expr
  over = do
    punctuator tokens mark.COLON
    x ← (read tokens level).expr
    punctuator tokens mark.RIGHT_PAREN
    pure x

  -- behind the type and the name of a `for` over a range
  unfoldable pub range_rest : TypeTree → Identifier → Rule HeadTree
  range_rest t n = do
    x ← over
    pure (head-of.Range (record { of_type = t; name = n; over = x }))

  -- behind a type that began at `start`, and a name
  unfoldable pub typed : ℕ → Bool → TypeTree → Identifier → Rule HeadTree
  typed start c t n = λ i. if is_punctuator mark.COLON (kind tokens i) then range_rest t n i
      else and_then (local_rest tokens level start c t n i) (λ x. behind_first (for-init-of.Local x))

  unfoldable pub declared : Rule HeadTree
  declared = λ i. and_then ((read tokens level).type_tree i) (λ t j. and_then (identifier tokens j) (λ n. typed i false t n))

  unfoldable pub constexpr_local : Rule HeadTree
  constexpr_local = do x ← local tokens level; behind_first (for-init-of.Local x)

  unfoldable pub undeclared : Rule HeadTree
  undeclared = plain_first >>= behind_first

  unfoldable pub head : Rule HeadTree
  head = λ i. if begins_local tokens i then (if is_word keyword.CONSTEXPR (kind tokens i) then constexpr_local i else declared i) else undeclared i
