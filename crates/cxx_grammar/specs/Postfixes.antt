-- Postfix expressions ([expr.post]). The suffixes of one are a list.
use Rattle.std.specs.Prelude.{Bool, true, false, List, [], ◌∷◌, ◌++◌}
use Rattle.cxx_base.specs.declared.place.Span.{Span}
use Rattle.cxx_tree.specs.declared.expr.Expr.{Expr}
use Rattle.cxx_tree.specs.declared.expr.Expr.TheVariants as expr-of
use Rattle.cxx_tree.specs.declared.expr.Suffix.{Suffix}
use Rattle.cxx_tree.specs.declared.expr.Suffix.TheVariants as suffix-of
use Rattle.cxx_tokens.specs.declared.token.Tokens.{Tokens}
use Rattle.cxx_tokens.specs.declared.mark.TheConstants.{LEFT_BRACKET, RIGHT_BRACKET, DOT, ARROW}
use Rattle.cxx_reading.specs.Reading.{Rule, ◌>>=◌, ◌>>◌, ◌<|>◌, pure, punctuator, identifier, repeated, node}
use Rattle.cxx_grammar.specs.Types.{splice}
use Rattle.cxx_grammar.specs.Lists.{args}
use Rattle.cxx_grammar.specs.Primaries.{primary}
use Rattle.cxx_grammar.specs.Rules.{Rules}

-- a primary expression with its suffixes, where there are any
abbrev pub with_suffixes : Expr → List Suffix → Span → Expr
with_suffixes x [] s = x
with_suffixes x (first ∷ more) s = expr-of.Postfix s x (first ∷ more)

module _ (tokens : Tokens) where
  abbrev pub dot : Rule Bool
  dot = punctuator tokens DOT >> pure false

  abbrev pub pointing : Rule Bool
  pointing = punctuator tokens ARROW >> pure true

  -- "." | "->"
  unfoldable pub arrow : Rule Bool
  arrow = dot <|> pointing

  module _ (deeper : Rules) where
    unfoldable pub call_suffix : Rule Suffix
    call_suffix = do found ← args tokens deeper; pure (suffix-of.Call found)

    unfoldable pub subscript_suffix : Rule Suffix
    subscript_suffix = node tokens (do
      punctuator tokens LEFT_BRACKET
      x ← deeper.expr
      punctuator tokens RIGHT_BRACKET
      pure (λ s. suffix-of.Subscript s x))

    unfoldable pub member_suffix : Rule Suffix
    member_suffix = node tokens (do
      is_arrow ← arrow
      n ← identifier tokens
      pure (λ s. suffix-of.Member s is_arrow n))

    unfoldable pub member_splice_suffix : Rule Suffix
    member_splice_suffix = node tokens (do
      is_arrow ← arrow
      x ← splice tokens deeper
      pure (λ s. suffix-of.MemberSplice s is_arrow x))

    abbrev pub any_member : Rule Suffix
    any_member = member_suffix <|> member_splice_suffix

    -- "(" arg,* ")" | "[" expr "]" | ("." | "->") (ID | splice)
    unfoldable pub suffix : Rule Suffix
    suffix = call_suffix <|> subscript_suffix <|> any_member

    abbrev pub suffixes_on : List Suffix → Rule (List Suffix)
    suffixes_on found = do
      x ← suffix
      pure (found ++ x ∷ [])

    unfoldable pub suffixes : List Suffix → Rule (List Suffix)
    suffixes = repeated tokens suffixes_on

    -- postfix : primary ("(" arg,* ")" | "[" expr "]" | ("." | "->") (ID | splice))*
    unfoldable pub postfix : Rule Expr
    postfix = node tokens (do
      x ← primary tokens deeper
      all ← suffixes []
      pure (with_suffixes x all))
