-- Primary expressions ([expr.prim]), with conversions in the functional notation ([expr.type.conv]) and casts
-- ([expr.static.cast]).
use Rattle.std.specs.Prelude.{true, false, if◌then◌else◌}
use Rattle.cxx_base.specs.declared.place.Span.{Span}
use Rattle.cxx_tree.specs.declared.expr.Expr.{Expr}
use Rattle.cxx_tree.specs.declared.expr.Expr.TheVariants as expr-of
use Rattle.cxx_tree.specs.declared.identifier.NameTree.{NameTree}
use Rattle.cxx_tokens.specs.declared.token.Tokens.{Tokens}
use Rattle.cxx_tokens.specs.declared.mark.TheConstants.{LEFT_PAREN, RIGHT_PAREN, LESS, GREATER}
use Rattle.cxx_tokens.specs.declared.keyword.TheConstants.{TRUE, FALSE, NULLPTR, THIS, TYPENAME, STATIC_CAST}
use Rattle.cxx_reading.specs.Reading.{Rule, ◌>>=◌, ◌>>◌, ◌<|>◌, pure, punctuator, word, integer, character, text, node, No, Nothing, Tree}
use Rattle.cxx_grammar.specs.Names.{name, extracts}
use Rattle.cxx_grammar.specs.Fundamentals.{fund}
use Rattle.cxx_grammar.specs.Types.{splice, basic, type_tree}
use Rattle.cxx_grammar.specs.Lists.{args, braced}
use Rattle.cxx_grammar.specs.Rules.{Rules}

module _ (tokens : Tokens) where
  unfoldable pub integer_form : Rule Expr
  integer_form = node tokens (do n ← integer tokens; pure (λ s. expr-of.Integer s n))

  unfoldable pub character_form : Rule Expr
  character_form = node tokens (do c ← character tokens; pure (λ s. expr-of.Character s c))

  unfoldable pub text_form : Rule Expr
  text_form = node tokens (do t ← text tokens; pure (λ s. expr-of.Text s t))

  unfoldable pub true_form : Rule Expr
  true_form = node tokens (do word tokens TRUE; pure (λ s. expr-of.Truth s true))

  unfoldable pub false_form : Rule Expr
  false_form = node tokens (do word tokens FALSE; pure (λ s. expr-of.Truth s false))

  unfoldable pub nullptr_form : Rule Expr
  nullptr_form = node tokens (do word tokens NULLPTR; pure (λ s. expr-of.Nullptr s))

  unfoldable pub this_form : Rule Expr
  this_form = node tokens (do word tokens THIS; pure (λ s. expr-of.This s))

  -- A name of at least two parts whose last is `extract`, with < behind it, begins the last form of a primary expression
  -- and no other. So this side rule is asked right behind the name, and not at the end of the form.
  abbrev pub name_alone : NameTree → Rule Expr
  name_alone n = λ i. if extracts tokens n i then No Nothing else Tree (expr-of.Name n) i

  unfoldable pub name_form : Rule Expr
  name_form = name tokens >>= name_alone

  module _ (deeper : Rules) where
    unfoldable pub paren_form : Rule Expr
    paren_form = node tokens (do
      punctuator tokens LEFT_PAREN
      x ← deeper.expr
      punctuator tokens RIGHT_PAREN
      pure (λ s. expr-of.Paren s x))

    unfoldable pub splice_form : Rule Expr
    splice_form = do x ← splice tokens deeper; pure (expr-of.Splice x)

    -- (name | fund | "typename" splice | vector) braced
    unfoldable pub braced_form : Rule Expr
    braced_form = node tokens (do
      t ← basic tokens deeper
      x ← braced tokens deeper
      pure (λ s. expr-of.Braced s t x))

    -- (fund | "typename" splice) "(" arg,* ")"
    unfoldable pub fund_call_form : Rule Expr
    fund_call_form = node tokens (do
      f ← fund tokens
      x ← args tokens deeper
      pure (λ s. expr-of.FundCall s f x))

    unfoldable pub typename_call_form : Rule Expr
    typename_call_form = node tokens (do
      word tokens TYPENAME
      t ← splice tokens deeper
      x ← args tokens deeper
      pure (λ s. expr-of.TypenameCall s t x))

    -- "static_cast" "<" type ">" "(" expr ")"
    unfoldable pub cast_form : Rule Expr
    cast_form = node tokens (do
      word tokens STATIC_CAST
      punctuator tokens LESS
      to ← type_tree tokens deeper
      punctuator tokens GREATER
      punctuator tokens LEFT_PAREN
      x ← deeper.expr
      punctuator tokens RIGHT_PAREN
      pure (λ s. expr-of.StaticCast s to x))

    -- name "<" type ">" "(" expr ")"
    abbrev pub extract_of : NameTree → Rule (Span → Expr)
    extract_of n = do
      punctuator tokens LESS
      to ← type_tree tokens deeper
      punctuator tokens GREATER
      punctuator tokens LEFT_PAREN
      x ← deeper.expr
      punctuator tokens RIGHT_PAREN
      pure (λ s. expr-of.Extract s n to x)

    unfoldable pub extract_form : Rule Expr
    extract_form = node tokens (do
      n ← name tokens
      λ i. if extracts tokens n i then extract_of n i else No Nothing)

    -- primary : INT | CHAR | STRING | "true" | "false" | "nullptr" | "this" | name | "(" expr ")" | splice
    --         | (name | fund | "typename" splice | vector) braced | (fund | "typename" splice) "(" arg,* ")"
    --         | "static_cast" "<" type ">" "(" expr ")" | name "<" type ">" "(" expr ")"
    unfoldable pub primary : Rule Expr
    primary = integer_form <|> character_form <|> text_form <|> true_form <|> false_form <|> nullptr_form <|> this_form
        <|> name_form <|> paren_form <|> splice_form <|> braced_form <|> fund_call_form <|> typename_call_form
        <|> cast_form <|> extract_form
