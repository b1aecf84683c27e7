-- Arguments ([expr.call]) and braced lists ([dcl.init.list], [dcl.init.aggr]).
use Rattle.std.specs.Prelude.{List, [], ◌∷◌, ◌++◌, Option, Some, None}
use Rattle.cxx_base.specs.declared.place.Span.{Span}
use Rattle.cxx_tree.specs.declared.expr.ArgTree.{ArgTree}
use Rattle.cxx_tree.specs.declared.expr.ArgTree.TheVariants as arg-of
use Rattle.cxx_tree.specs.declared.expr.ArgTrees.{ArgTrees}
use Rattle.cxx_tree.specs.declared.expr.ArgTrees.TheVariants as args-of
use Rattle.cxx_tree.specs.declared.expr.Designator.{Designator}
use Rattle.cxx_tree.specs.declared.expr.Designator.TheVariants as designator-of
use Rattle.cxx_tree.specs.declared.expr.BracedTree.{BracedTree}
use Rattle.cxx_tree.specs.declared.expr.BracedTree.TheVariants as braced-of
use Rattle.cxx_tokens.specs.declared.token.Tokens.{Tokens}
use Rattle.cxx_tokens.specs.declared.mark.TheConstants.{LEFT_BRACE, RIGHT_BRACE, LEFT_PAREN, RIGHT_PAREN, COMMA, DOT, EQUAL}
use Rattle.cxx_reading.specs.Reading.{No, Nothing, Rule, ◌>>=◌, ◌>>◌, ◌<|>◌, pure, present, optional, if_any, punctuator, identifier, repeated, node}
use Rattle.cxx_grammar.specs.declared.clause.Clause.{Clause}
use Rattle.cxx_grammar.specs.declared.clause.Clause.TheVariants as clause-of
use Rattle.cxx_grammar.specs.declared.clause.Clauses.{Clauses}
use Rattle.cxx_grammar.specs.declared.clause.Clauses.TheVariants as clauses-of
use Rattle.cxx_grammar.specs.Rules.{Rules}

-- the clauses with one more behind them
abbrev pub with_clause : Clauses → Clause → Clauses
with_clause (clauses-of.Plain found) (clause-of.Plain x) = clauses-of.Plain (found ++ x ∷ [])
with_clause (clauses-of.Designated found) (clause-of.Designator x) = clauses-of.Designated (found ++ x ∷ [])
with_clause _ _ = clauses-of.Mixed

abbrev pub first_clause : Clause → Clauses
first_clause (clause-of.Plain x) = clauses-of.Plain (x ∷ [])
first_clause (clause-of.Designator x) = clauses-of.Designated (x ∷ [])

abbrev pub clauses_or_none : Option Clauses → Clauses
clauses_or_none (Some found) = found
clauses_or_none None = clauses-of.Plain []

-- Designators stand with all clauses of a list or with none.
abbrev pub braced_of : Clauses → Rule (Span → BracedTree)
braced_of (clauses-of.Plain found) = pure (λ s. braced-of.Clauses s found)
braced_of (clauses-of.Designated found) = pure (λ s. braced-of.Designated s found)
braced_of clauses-of.Mixed = λ i. No Nothing

module _ (tokens : Tokens) (deeper : Rules) where
  -- arg : expr | braced
  -- Arguments and clauses are read at the level of the rules that they ask, the lists around them one level above.
  unfoldable pub arg_expr : Rule ArgTree
  arg_expr = do x ← deeper.expr; pure (arg-of.Expr x)

  unfoldable pub arg_braced : Rule ArgTree
  arg_braced = do x ← deeper.braced; pure (arg-of.Braced x)

  unfoldable pub arg : Rule ArgTree
  arg = arg_expr <|> arg_braced

  unfoldable pub next_arg : Rule ArgTree
  next_arg = punctuator tokens COMMA >> arg

  abbrev pub args_on : List ArgTree → Rule (List ArgTree)
  args_on found = do
    x ← next_arg
    pure (found ++ x ∷ [])

  unfoldable pub more_args : List ArgTree → Rule (List ArgTree)
  more_args = repeated tokens args_on

  -- arg ("," arg)*
  unfoldable pub some_args : Rule (List ArgTree)
  some_args = do
    first ← arg
    more_args (first ∷ [])

  unfoldable pub args_if_any : Rule (List ArgTree)
  args_if_any = if_any some_args

  -- "(" arg,* ")"
  unfoldable pub args : Rule ArgTrees
  args = node tokens (do
    punctuator tokens LEFT_PAREN
    inner ← args_if_any
    punctuator tokens RIGHT_PAREN
    pure (λ s. args-of.Args s inner))

  -- "." ID "=" (expr | braced)
  unfoldable pub designator_equal : Rule Designator
  designator_equal = node tokens (do
    punctuator tokens DOT
    n ← identifier tokens
    punctuator tokens EQUAL
    x ← arg
    pure (λ s. designator-of.Equal s n x))

  -- "." ID braced
  unfoldable pub designator_braced : Rule Designator
  designator_braced = node tokens (do
    punctuator tokens DOT
    n ← identifier tokens
    x ← deeper.braced
    pure (λ s. designator-of.Braced s n x))

  unfoldable pub designator : Rule Designator
  designator = designator_equal <|> designator_braced

  unfoldable pub clause_plain : Rule Clause
  clause_plain = do x ← arg; pure (clause-of.Plain x)

  unfoldable pub clause_designator : Rule Clause
  clause_designator = do x ← designator; pure (clause-of.Designator x)

  -- clause : expr | braced | "." ID "=" (expr | braced) | "." ID braced
  unfoldable pub clause : Rule Clause
  clause = clause_plain <|> clause_designator

  unfoldable pub next_clause : Rule Clause
  next_clause = punctuator tokens COMMA >> clause

  abbrev pub clauses_on : Clauses → Rule Clauses
  clauses_on found = do
    x ← next_clause
    pure (with_clause found x)

  unfoldable pub more_clauses : Clauses → Rule Clauses
  more_clauses = repeated tokens clauses_on

  -- clause ("," clause)* ","?
  unfoldable pub some_clauses : Rule Clauses
  some_clauses = do
    first ← clause
    found ← more_clauses (first_clause first)
    present (punctuator tokens COMMA)
    pure found

  unfoldable pub clauses_if_any : Rule Clauses
  clauses_if_any = do
    found ← optional some_clauses
    pure (clauses_or_none found)

  -- braced : "{" (clause ("," clause)* ","?)? "}"
  unfoldable pub braced : Rule BracedTree
  braced = node tokens (do
    punctuator tokens LEFT_BRACE
    inner ← clauses_if_any
    punctuator tokens RIGHT_BRACE
    braced_of inner)
