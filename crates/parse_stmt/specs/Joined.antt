-- Statements that share a beginning, each read as one, as the parser reads them. Nobody need believe this file: in proofs/ each is
-- shown to give what the grammar's own forms give.
use Rattle.std.specs.Prelude.{ℕ, Bool, false, ◌||◌, if◌then◌else◌, ◌==◌, Option, Some}
use Rattle.cxx_tree.specs.declared.expr.Expr.{Expr}
use Rattle.cxx_tree.specs.declared.decl.Member.{Member}
use Rattle.cxx_tree.specs.declared.stmt.Stmt.{Stmt}
use Rattle.cxx_tree.specs.declared.stmt.Stmt.TheVariants as stmt-of
use Rattle.cxx_tokens.specs.declared.token.Tokens.{Tokens}
use Rattle.cxx_tokens.specs.declared.mark.TheConstants as mark
use Rattle.cxx_tokens.specs.declared.keyword.TheConstants as keyword
use Rattle.cxx_reading.specs.declared.seen.Seen.{Seen}
use Rattle.cxx_reading.specs.declared.seen.Seen.TheVariants as seen
use Rattle.cxx_reading.specs.Reading.{Rule, ◌>>=◌, ◌>>◌, pure, optional, too_deep, punctuator, word, is_punctuator, is_word, kind, node}
use Rattle.cxx_grammar.specs.declared.within.Within.{Within}
use Rattle.cxx_grammar.specs.Read.{read}
use Rattle.cxx_grammar.specs.Nests.{Nests, of_block}
use Rattle.cxx_grammar.specs.Classes.{member}
use Rattle.cxx_grammar.specs.Statements.{body_form, class_form, block_form, stmt}
use Rattle.parse_head.specs.declared.tree.HeadTree.{HeadTree}
use Rattle.parse_head.specs.Turned.{statement_of}
use Rattle.parse_head.specs.Joined.{head}

-- whether a statement with braces of its own begins there
abbrev pub begins_bracketed : Option Seen → Bool
begins_bracketed (Some (seen.Punctuator m)) = m == mark.LEFT_BRACE
begins_bracketed (Some (seen.Word n)) = (n == keyword.STRUCT || n == keyword.CLASS) || n == keyword.CONSTEVAL
begins_bracketed _ = false

module _ (tokens : Tokens) where
  -- "else" and a statement
  abbrev pub else_part : Rule Stmt → Rule Stmt
  else_part q = word tokens keyword.ELSE >> q

  -- `for (` where what stands in the parentheses is too deep
  unfoldable pub for_beyond : Rule Stmt
  for_beyond = do word tokens keyword.FOR; punctuator tokens mark.LEFT_PAREN; too_deep

  -- ---- what stands in parentheses, at their level

  module _ (level : ℕ) where
    -- this word, and an expression in parentheses
    unfoldable pub condition : ℕ → Rule Expr
    condition n = do
      word tokens n
      punctuator tokens mark.LEFT_PAREN
      x ← (read tokens level).expr
      punctuator tokens mark.RIGHT_PAREN
      pure x

    -- `if` and `while`, where `sub` and `turned` read the statements in them
    unfoldable pub if_joined : Rule Stmt → Rule Stmt
    if_joined sub = node tokens (do
      x ← condition keyword.IF
      holds ← sub
      fails ← optional (else_part sub)
      pure (λ s. stmt-of.If s x holds fails))

    unfoldable pub while_joined : Rule Stmt → Rule Stmt
    while_joined turned = node tokens (do
      x ← condition keyword.WHILE
      turn ← turned
      pure (λ s. stmt-of.While s x turn))

    unfoldable pub for_head : Rule HeadTree
    for_head = do
      word tokens keyword.FOR
      punctuator tokens mark.LEFT_PAREN
      head tokens level

    unfoldable pub for_joined : Rule Stmt → Rule Stmt
    for_joined sub = node tokens (do
      h ← for_head
      turn ← sub
      pure (λ s. statement_of s h turn))

  -- ---- statements with braces of their own, where these rules read what stands in the braces of each

  module _ (level : ℕ) where
    unfoldable pub braces : Rule Stmt → Rule Member → Rule Stmt → Within → Rule Stmt
    braces statements members evaluated within = λ i. if is_punctuator mark.LEFT_BRACE (kind tokens i) then body_form tokens statements i
        else (if is_word keyword.CONSTEVAL (kind tokens i) then block_form tokens evaluated within i else class_form tokens level members within i)

    unfoldable pub stmt_braces : Nests → Within → Rule Stmt
    stmt_braces inner within = braces (inner.stmt within) inner.member (inner.stmt of_block) within

    unfoldable pub sub_braces : Nests → Within → Rule Stmt
    sub_braces inner within = braces (stmt tokens level inner within) (member tokens level inner) (stmt tokens level inner of_block) within
