-- Forms that share a beginning, each read as one, as the parsers read them. Nobody need believe this file: in proofs/ each
-- is shown to give what the grammar's own forms give.
use Rattle.std.specs.Prelude.{ℕ, zero, suc, Bool, ◌||◌, if◌then◌else◌, [], Option, Some, None}
use Rattle.cxx_base.specs.declared.place.Span.{Span}
use Rattle.cxx_tree.specs.declared.identifier.NameTree.{NameTree}
use Rattle.cxx_tree.specs.declared.types.Fund.{Fund}
use Rattle.cxx_tree.specs.declared.expr.Expr.{Expr}
use Rattle.cxx_tree.specs.declared.expr.Expr.TheVariants as expr-of
use Rattle.cxx_tree.specs.declared.expr.NewInit.{NewInit}
use Rattle.cxx_tree.specs.declared.expr.NewInit.TheVariants as init-of
use Rattle.cxx_tree.specs.declared.expr.SpliceTree.{SpliceTree}
use Rattle.cxx_tree.specs.declared.expr.BasicTree.TheVariants as basic-of
use Rattle.cxx_tree.specs.declared.expr.TypeTree.{TypeTree}
use Rattle.cxx_tree.specs.declared.expr.TypeTree.TheVariants as type-of
use Rattle.cxx_tree.specs.declared.expr.BracedTree.{BracedTree}
use Rattle.cxx_tokens.specs.declared.token.Tokens.{Tokens}
use Rattle.cxx_tokens.specs.declared.mark.TheConstants.{AMPERSAND, ARROW, COMMA, DOT, LEFT_BRACKET, LEFT_PAREN}
use Rattle.cxx_tokens.specs.declared.keyword.TheConstants.{CONST, TYPENAME}
use Rattle.cxx_reading.specs.declared.seen.Seen.{Seen}
use Rattle.cxx_reading.specs.Reading.{End, Tree, No, Nothing, TooDeep, Rule, and_then, ◌>>=◌, ◌>>◌, ◌<|>◌, pure, present, optional, punctuator, is_punctuator, word, repeated, from, node, span}
use Rattle.cxx_grammar.specs.declared.clause.Clauses.{Clauses}
use Rattle.cxx_grammar.specs.declared.parts.SizedOperand.{SizedOperand}
use Rattle.cxx_grammar.specs.declared.parts.SizedOperand.TheVariants as sized-of
use Rattle.cxx_grammar.specs.Names.{vector_head, name, extracts}
use Rattle.cxx_grammar.specs.Fundamentals.{fund}
use Rattle.cxx_grammar.specs.Types.{pointers, basic_vector, splice, type_tree}
use Rattle.cxx_grammar.specs.Lists.{braced, clause, first_clause, more_clauses}
use Rattle.cxx_grammar.specs.Primaries.{extract_of}
use Rattle.cxx_grammar.specs.Postfixes.{with_suffixes, suffixes}
use Rattle.cxx_grammar.specs.Unaries.{new_init}
use Rattle.cxx_grammar.specs.Expressions.{with_operations, with_arms, operations_on, chain, arms, expr}
use Rattle.cxx_grammar.specs.Rules.{Rules}

-- a fundamental type, whose words have the second span, with what stands behind it
abbrev pub fund_made : Span → Span → Fund → NewInit → Expr
fund_made s b f (init-of.Args x) = expr-of.FundCall s f x
fund_made s b f (init-of.Braced x) = expr-of.Braced s (basic-of.Fund b f) x

-- the same of `typename` and a splice
abbrev pub typename_made : Span → Span → SpliceTree → NewInit → Expr
typename_made s b n (init-of.Args x) = expr-of.TypenameCall s n x
typename_made s b n (init-of.Braced x) = expr-of.Braced s (basic-of.Typename b n) x

-- a name, and the braced list behind it where there is one
abbrev pub name_made : NameTree → Option BracedTree → Span → Expr
name_made n (Some x) s = expr-of.Braced s (basic-of.Name n) x
name_made n None s = expr-of.Name n

-- at an identifier: what begins with the type of a vector where its four tokens stand, and else what begins with a name
abbrev pub by_head : {A : Type 0} → End (Unit {0}) → End A → End A → End A
by_head (Tree t j) vector named = vector
by_head (No Nothing) vector named = named
by_head (No TooDeep) vector named = No TooDeep

-- a token with which a suffix begins
abbrev pub begins_suffix : Option Seen → Bool
begins_suffix k = is_punctuator LEFT_PAREN k || (is_punctuator LEFT_BRACKET k || (is_punctuator DOT k || is_punctuator ARROW k))

module _ (tokens : Tokens) (deeper : Rules) where
  -- the first clause of a list
  unfoldable pub one_clause : Rule Clauses
  one_clause = do x ← clause tokens deeper; pure (first_clause x)

  -- behind the first clause
  unfoldable pub clauses_from : Clauses → Rule Clauses
  clauses_from found = do
    all ← more_clauses tokens deeper found
    present (punctuator tokens COMMA)
    pure all

  -- behind a fundamental type
  unfoldable pub fund_rest : ℕ → Fund → Rule Expr
  fund_rest start f = λ j. and_then (new_init tokens deeper j) (λ m k. Tree (fund_made (span tokens start k) (span tokens start j) f m) k)

  unfoldable pub fund_joined : Rule Expr
  fund_joined = λ start. and_then (fund tokens start) (fund_rest start)

  -- behind "typename" splice
  unfoldable pub typename_rest : ℕ → SpliceTree → Rule Expr
  typename_rest start n = λ j. and_then (new_init tokens deeper j) (λ m k. Tree (typename_made (span tokens start k) (span tokens start j) n m) k)

  unfoldable pub typename_joined : Rule Expr
  typename_joined = λ start. (do word tokens TYPENAME; n ← splice tokens deeper; typename_rest start n) start

  -- behind a name
  unfoldable pub extract_rest : ℕ → NameTree → Rule Expr
  extract_rest start n = from tokens start (extract_of tokens deeper n)

  unfoldable pub name_rest : ℕ → NameTree → Rule Expr
  name_rest start n = from tokens start (do x ← optional (braced tokens deeper); pure (name_made n x))

  unfoldable pub named_rest : ℕ → NameTree → Rule Expr
  named_rest start n = λ i. if extracts tokens n i then extract_rest start n i else name_rest start n i

  unfoldable pub named_joined : Rule Expr
  named_joined = λ start. and_then (name tokens start) (named_rest start)

  -- behind a primary expression that began at `start`
  unfoldable pub postfix_from : ℕ → Expr → Rule Expr
  postfix_from start x = from tokens start (do all ← suffixes tokens deeper []; pure (with_suffixes x all))

  -- behind a unary expression: the operations of each line, from the one that binds most
  unfoldable pub operations : ℕ → ℕ → Expr → Rule Expr
  operations n start x = from tokens start (do
    all ← repeated tokens (operations_on tokens deeper n (chain tokens deeper n)) []
    pure (with_operations x all))

  unfoldable pub climbed : ℕ → ℕ → Expr → Rule Expr
  climbed zero start x = λ i. Tree x i
  climbed (suc n) start x = climbed n start x >>= operations n start

  unfoldable pub choice_from : ℕ → Expr → Rule Expr
  choice_from start x = from tokens start (do found ← optional (arms tokens deeper); pure (with_arms x found))

  unfoldable pub expr_from : ℕ → Expr → Rule Expr
  expr_from start x = climbed 10 start x >>= choice_from start

  unfoldable pub expr_after : ℕ → Expr → Rule Expr
  expr_after start x = postfix_from start x >>= expr_from start

  -- The operand of `sizeof`, at its own level. Behind "typename" splice it is an expression exactly where arguments or a
  -- braced list follow, and else a type.
  abbrev pub sized_as_type : Rule SizedOperand
  sized_as_type = do x ← type_tree tokens deeper; pure (sized-of.Type x)

  abbrev pub sized_as_expr : Rule SizedOperand
  sized_as_expr = do x ← expr tokens deeper; pure (sized-of.Expr x)

  unfoldable pub sized_here : Rule SizedOperand
  sized_here = sized_as_type <|> sized_as_expr

  unfoldable pub type_rest : ℕ → SpliceTree → Rule TypeTree
  type_rest start n = λ k. from tokens start (do
    after ← present (word tokens CONST)
    all ← pointers tokens []
    reference ← present (punctuator tokens AMPERSAND)
    pure (λ s. type-of.Type s after (basic-of.Typename (span tokens start k) n) all reference)) k

  unfoldable pub sized_expr_rest : ℕ → ℕ → SpliceTree → NewInit → Rule SizedOperand
  sized_expr_rest start k n m = λ l. and_then (expr_after start (typename_made (span tokens start l) (span tokens start k) n m) l) (λ x j. Tree (sized-of.Expr x) j)

  unfoldable pub sized_type_rest : ℕ → SpliceTree → Rule SizedOperand
  sized_type_rest start n = do x ← type_rest start n; pure (sized-of.Type x)

  abbrev pub sized_by : ℕ → SpliceTree → ℕ → End NewInit → End SizedOperand
  sized_by start n k (Tree m l) = sized_expr_rest start k n m l
  sized_by start n k (No Nothing) = sized_type_rest start n k
  sized_by start n k (No TooDeep) = No TooDeep

  unfoldable pub sized_rest : ℕ → SpliceTree → Rule SizedOperand
  sized_rest start n = λ k. sized_by start n k (new_init tokens deeper k)

  unfoldable pub sized_joined : Rule SizedOperand
  sized_joined = λ start. (do word tokens TYPENAME; n ← splice tokens deeper; sized_rest start n) start

  -- at an identifier, the type of a vector with its braced list, or a name
  unfoldable pub vector_form : Rule Expr
  vector_form = node tokens (do
    t ← basic_vector tokens
    x ← braced tokens deeper
    pure (λ s. expr-of.Braced s t x))

  unfoldable pub identified : Rule Expr
  identified = λ i. by_head (vector_head tokens i) (vector_form i) (named_joined i)
