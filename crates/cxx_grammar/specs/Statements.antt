-- Statements ([stmt]) at a level.
use Rattle.std.specs.Prelude.{ℕ, ◌+◌, not}
use Rattle.cxx_tree.specs.declared.stmt.Stmt.{Stmt}
use Rattle.cxx_tree.specs.declared.stmt.Stmt.TheVariants as stmt-of
use Rattle.cxx_tree.specs.declared.stmt.ForInit.{ForInit}
use Rattle.cxx_tree.specs.declared.stmt.ForInit.TheVariants as for-init-of
use Rattle.cxx_tree.specs.declared.stmt.ForRange.{ForRange}
use Rattle.cxx_tree.specs.declared.stmt.ForStep.{ForStep}
use Rattle.cxx_tree.specs.declared.stmt.ForStep.TheVariants as for-step-of
use Rattle.cxx_tree.specs.declared.stmt.Returned.{Returned}
use Rattle.cxx_tree.specs.declared.stmt.Returned.TheVariants as returned-of
use Rattle.cxx_tree.specs.declared.decl.Member.{Member}
use Rattle.cxx_tokens.specs.declared.token.Tokens.{Tokens}
use Rattle.cxx_tokens.specs.declared.mark.TheConstants as mark
use Rattle.cxx_tokens.specs.declared.keyword.TheConstants as keyword
use Rattle.cxx_reading.specs.Reading.{Rule, ◌>>=◌, ◌>>◌, ◌<|>◌, pure, guard, optional, punctuator, word, identifier, node}
use Rattle.cxx_grammar.specs.declared.within.Within.{Within}
use Rattle.cxx_grammar.specs.Read.{read}
use Rattle.cxx_grammar.specs.Locals.{locally, elsewhere, local, assign, assert, alias}
use Rattle.cxx_grammar.specs.Declarations.{body, block}
use Rattle.cxx_grammar.specs.Nests.{Nests, of_block, looping}
use Rattle.cxx_grammar.specs.Classes.{class, member}

module _ (tokens : Tokens) where
  abbrev p : ℕ → Rule (Unit {0})
  p = punctuator tokens

  abbrev w : ℕ → Rule (Unit {0})
  w = word tokens

  unfoldable pub empty_form : Rule Stmt
  empty_form = node tokens (do p mark.SEMICOLON; pure (λ s. stmt-of.Empty s))

  -- "break" ";" and "continue" ";", in a loop alone
  unfoldable pub break_form : Within → Rule Stmt
  break_form within = node tokens (do guard within.in_loop; w keyword.BREAK; p mark.SEMICOLON; pure (λ s. stmt-of.Break s))

  unfoldable pub continue_form : Within → Rule Stmt
  continue_form within = node tokens (do guard within.in_loop; w keyword.CONTINUE; p mark.SEMICOLON; pure (λ s. stmt-of.Continue s))

  unfoldable pub for_empty : Rule ForInit
  for_empty = node tokens (do p mark.SEMICOLON; pure (λ s. for-init-of.Empty s))

  -- ---- statements at a level in which no statement stands

  module _ (level : ℕ) where
    unfoldable pub alias_form : Rule Stmt
    alias_form = do x ← alias tokens level; pure (stmt-of.Alias x)

    unfoldable pub local_form : Rule Stmt
    local_form = locally tokens (do x ← local tokens level; pure (stmt-of.Local x))

    -- assign ";"
    unfoldable pub assign_form : Rule Stmt
    assign_form = elsewhere tokens (do x ← assign tokens level; p mark.SEMICOLON; pure (stmt-of.Assign x))

    -- expr ";"
    unfoldable pub expr_form : Rule Stmt
    expr_form = elsewhere tokens (node tokens (do x ← (read tokens level).expr; p mark.SEMICOLON; pure (λ s. stmt-of.Expr s x)))

    -- "return" (expr | braced)? ";"
    unfoldable pub returned : Rule Returned
    returned = (do x ← (read tokens level).expr; pure (returned-of.Expr x)) <|> (do x ← (read tokens level).braced; pure (returned-of.Braced x))

    unfoldable pub return_form : Rule Stmt
    return_form = node tokens (do
      w keyword.RETURN
      x ← optional returned
      p mark.SEMICOLON
      pure (λ s. stmt-of.Return s x))

  -- ---- what stands in the parentheses of a statement, at their level

  module _ (level : ℕ) where
    unfoldable pub assert_form : Rule Stmt
    assert_form = do x ← assert tokens level; pure (stmt-of.Assert x)

    unfoldable pub for_local : Rule ForInit
    for_local = locally tokens (do x ← local tokens level; pure (for-init-of.Local x))

    unfoldable pub for_assign : Rule ForInit
    for_assign = elsewhere tokens (do x ← assign tokens level; p mark.SEMICOLON; pure (for-init-of.Assign x))

    -- local | assign ";" | ";", where too a declaration stands exactly where one begins
    unfoldable pub for_init : Rule ForInit
    for_init = for_local <|> for_assign <|> for_empty

    -- assign | expr
    unfoldable pub for_step : Rule ForStep
    for_step = (do x ← assign tokens level; pure (for-step-of.Assign x)) <|> (do x ← (read tokens level).expr; pure (for-step-of.Expr x))

    -- type ID ":" expr, which stands nowhere else than where a declaration begins
    unfoldable pub range : Rule ForRange
    range = locally tokens (do
      of_type ← (read tokens level).type_tree
      n ← identifier tokens
      p mark.COLON
      over ← (read tokens level).expr
      pure (record { of_type = of_type; name = n; over = over }))

    -- ---- statements in which a statement stands, where `inner` are the rules one level deeper than the statement around

    module _ (inner : Nests) (within : Within) where
      -- "if" "(" expr ")" stmt ("else" stmt)?
      unfoldable pub if_form : Rule Stmt
      if_form = node tokens (do
        w keyword.IF
        p mark.LEFT_PAREN
        condition ← (read tokens level).expr
        p mark.RIGHT_PAREN
        holds ← inner.sub within
        fails ← optional (w keyword.ELSE >> inner.sub within)
        pure (λ s. stmt-of.If s condition holds fails))

      -- "while" "(" expr ")" stmt
      unfoldable pub while_form : Rule Stmt
      while_form = node tokens (do
        w keyword.WHILE
        p mark.LEFT_PAREN
        condition ← (read tokens level).expr
        p mark.RIGHT_PAREN
        turn ← inner.sub (looping within)
        pure (λ s. stmt-of.While s condition turn))

      -- "for" "(" (local | assign ";" | ";") expr? ";" (assign | expr)? ")" stmt
      unfoldable pub for_form : Rule Stmt
      for_form = node tokens (do
        w keyword.FOR
        p mark.LEFT_PAREN
        first ← for_init
        condition ← optional (read tokens level).expr
        p mark.SEMICOLON
        step ← optional for_step
        p mark.RIGHT_PAREN
        turn ← inner.sub (looping within)
        pure (λ s. stmt-of.For s (record { first = first; condition = condition; step = step }) turn))

      -- "for" "(" type ID ":" expr ")" stmt
      unfoldable pub range_for_form : Rule Stmt
      range_for_form = node tokens (do
        w keyword.FOR
        p mark.LEFT_PAREN
        r ← range
        p mark.RIGHT_PAREN
        turn ← inner.sub (looping within)
        pure (λ s. stmt-of.RangeFor s r turn))

  -- ---- statements with braces of their own, where `inside` reads what stands in them

  unfoldable pub body_form : Rule Stmt → Rule Stmt
  body_form inside = do x ← body tokens inside; pure (stmt-of.Body x)

  -- A class stands in the body of a function, and not in that of a block. That is asked behind the form, as the side rules on
  -- whole forms are, so that the form is too deep where a part of it is.
  unfoldable pub class_form : ℕ → Rule Member → Within → Rule Stmt
  class_form level inside within = do
    x ← class tokens level inside
    guard (not within.in_block)
    pure (stmt-of.Class x)

  -- A block stands there too, and not in the body of a block.
  unfoldable pub block_form : Rule Stmt → Within → Rule Stmt
  block_form inside within = do
    x ← block tokens inside
    guard (not within.in_block)
    pure (stmt-of.Block x)

  -- any of them at a level, where the statements and the members in its braces are read by these rules
  unfoldable pub bracketed : ℕ → (Within → Rule Stmt) → Rule Member → Within → Rule Stmt
  bracketed level statement inside within =
      body_form (statement within) <|> class_form level inside within <|> block_form (statement of_block) within

  -- ---- all statements

  module _ (level : ℕ) (inner : Nests) where
    -- Those without braces of their own. What stands in their parentheses is at the level `in_parens`.
    unfoldable pub other_stmt : ℕ → Within → Rule Stmt
    other_stmt in_parens within = empty_form <|> assert_form in_parens <|> alias_form level <|> local_form level <|> assign_form level
        <|> expr_form level <|> if_form in_parens inner within <|> while_form in_parens inner within <|> for_form in_parens inner within
        <|> range_for_form in_parens inner within <|> return_form level <|> break_form within <|> continue_form within

    -- stmt : body | ";" | assert | alias | class | block | local | assign ";" | expr ";" | "if" .. | "while" .. | "for" .. | "return" ..
    -- | "break" ";" | "continue" ";"
    --
    -- A statement of a body. Its own braces or parentheses are a level.
    unfoldable pub stmt : Within → Rule Stmt
    stmt within = bracketed level inner.stmt inner.member within <|> other_stmt (level + 1) within

    -- A statement within a statement, which is a level by itself. Its own braces or parentheses are that level.
    unfoldable pub sub : Within → Rule Stmt
    sub within = bracketed level stmt (member tokens level inner) within <|> other_stmt level within
