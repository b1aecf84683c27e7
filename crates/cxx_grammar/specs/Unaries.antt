-- Unary expressions ([expr.unary], [expr.sizeof], [expr.new], [expr.delete], [expr.reflect]).
use Rattle.cxx_base.specs.declared.place.Span.{Span}
use Rattle.cxx_tree.specs.declared.expr.Expr.{Expr}
use Rattle.cxx_tree.specs.declared.expr.Expr.TheVariants as expr-of
use Rattle.cxx_tree.specs.declared.expr.NewInit.{NewInit}
use Rattle.cxx_tree.specs.declared.expr.NewInit.TheVariants as init-of
use Rattle.cxx_tokens.specs.declared.token.Tokens.{Tokens}
use Rattle.cxx_tokens.specs.declared.mark.TheConstants.{LEFT_PAREN, RIGHT_PAREN, LEFT_BRACKET, RIGHT_BRACKET, SCOPE, REFLECT}
use Rattle.cxx_tokens.specs.declared.keyword.TheConstants.{SIZEOF, NEW, DELETE}
use Rattle.cxx_reading.specs.Reading.{Rule, ◌>>=◌, ◌>>◌, ◌<|>◌, pure, present, optional, punctuator, word, node}
use Rattle.cxx_grammar.specs.declared.parts.SizedOperand.{SizedOperand}
use Rattle.cxx_grammar.specs.declared.parts.SizedOperand.TheVariants as sized-of
use Rattle.cxx_grammar.specs.Lists.{args, braced}
use Rattle.cxx_grammar.specs.Postfixes.{postfix}
use Rattle.cxx_grammar.specs.Operators.{unary_operator}
use Rattle.cxx_grammar.specs.Rules.{Rules}

abbrev pub sizeof_of : SizedOperand → Span → Expr
sizeof_of (sized-of.Type x) s = expr-of.SizeofType s x
sizeof_of (sized-of.Expr x) s = expr-of.SizeofExpr s x

module _ (tokens : Tokens) (deeper : Rules) where
  -- ("+" | "-" | "!" | "~" | "*" | "&") unary
  unfoldable pub prefixed_form : Rule Expr
  prefixed_form = node tokens (do
    op ← unary_operator tokens
    x ← deeper.unary
    pure (λ s. expr-of.Unary s op x))

  -- "^^" operand, where operand is "::" or a type. Where an identifier follows ::, the type is the longer one. At the last
  -- level the type is too deep, and so is the choice, also at "::".
  unfoldable pub reflect_global : Rule Expr
  reflect_global = node tokens (do
    punctuator tokens REFLECT
    punctuator tokens SCOPE
    pure (λ s. expr-of.ReflectGlobal s))

  unfoldable pub reflect_type : Rule Expr
  reflect_type = node tokens (do
    punctuator tokens REFLECT
    t ← deeper.type_tree
    pure (λ s. expr-of.Reflect s t))

  unfoldable pub reflect_form : Rule Expr
  reflect_form = reflect_global <|> reflect_type

  -- Both are read at the level of the rules that they ask.
  unfoldable pub sized_type : Rule SizedOperand
  sized_type = do x ← deeper.type_tree; pure (sized-of.Type x)

  unfoldable pub sized_expr : Rule SizedOperand
  sized_expr = do x ← deeper.expr; pure (sized-of.Expr x)

  -- type | expr; where both read to one token, the type stands
  unfoldable pub sized : Rule SizedOperand
  sized = sized_type <|> sized_expr

  -- "sizeof" "(" (type | expr) ")"
  unfoldable pub sizeof_form : Rule Expr
  sizeof_form = node tokens (do
    word tokens SIZEOF
    punctuator tokens LEFT_PAREN
    x ← sized
    punctuator tokens RIGHT_PAREN
    pure (sizeof_of x))

  unfoldable pub empty_brackets : Rule (Unit {0})
  empty_brackets = punctuator tokens LEFT_BRACKET >> punctuator tokens RIGHT_BRACKET

  -- "delete" ("[" "]")? unary
  unfoldable pub delete_form : Rule Expr
  delete_form = node tokens (do
    word tokens DELETE
    is_array ← present empty_brackets
    x ← deeper.unary
    pure (λ s. expr-of.Delete s is_array x))

  -- "[" expr "]"
  unfoldable pub new_bound : Rule Expr
  new_bound = do
    punctuator tokens LEFT_BRACKET
    x ← deeper.expr
    punctuator tokens RIGHT_BRACKET
    pure x

  -- "(" arg,* ")" | braced
  unfoldable pub init_args : Rule NewInit
  init_args = do x ← args tokens deeper; pure (init-of.Args x)

  unfoldable pub init_braced : Rule NewInit
  init_braced = do x ← braced tokens deeper; pure (init-of.Braced x)

  unfoldable pub new_init : Rule NewInit
  new_init = init_args <|> init_braced

  -- "new" type ("[" expr "]")? ("(" arg,* ")" | braced)?
  unfoldable pub new_form : Rule Expr
  new_form = node tokens (do
    word tokens NEW
    t ← deeper.type_tree
    bound ← optional new_bound
    init ← optional new_init
    pure (λ s. expr-of.New s t bound init))

  -- unary : (an operator) unary | "^^" operand | "sizeof" "(" (type | expr) ")" | "delete" ("[" "]")? unary
  --       | "new" type ("[" expr "]")? ("(" arg,* ")" | braced)? | postfix
  unfoldable pub unary : Rule Expr
  unary = prefixed_form <|> reflect_form <|> sizeof_form <|> delete_form <|> new_form <|> postfix tokens deeper
