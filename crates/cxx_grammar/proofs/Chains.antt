-- A chain is its first operand and then its operations, and a postfix expression is its primary one and then its suffixes.
use Rattle.std.proofs.Common.{◌≡◌, ℕ, zero, suc, ◌+◌, ◌-◌, ◌<◌, ◌≤◌, false, ◌==◌, [], Option, Some, None, ap, ◌∙◌, sym, refl, arith}
use Rattle.std.proofs.lemmas.Bool.{ne_eqb}
use Rattle.cxx_tree.specs.declared.expr.Expr.{Expr}
use Rattle.cxx_tokens.specs.declared.token.Tokens.{Tokens}
use Rattle.cxx_reading.specs.declared.seen.Seen.{Seen}
use Rattle.cxx_reading.specs.declared.seen.Seen.TheVariants.{Identifier, Integer, Character, Text, Word, Punctuator}
use Rattle.cxx_reading.specs.Any.{given, any_punctuator, punctuator_of}
use Rattle.cxx_reading.specs.Reading.{End, Tree, No, Nothing, and_then, kind, left}
use Rattle.cxx_reading.proofs.Turns.{turns_none}
use Rattle.cxx_reading.proofs.Factor.{assoc, unit}
use Rattle.cxx_grammar.specs.Primaries.{primary}
use Rattle.cxx_grammar.specs.Postfixes.{postfix}
use Rattle.cxx_grammar.specs.declared.operator.Operator.{Operator}
use Rattle.cxx_grammar.specs.Operators.{binary_mark, of_line, line_of, line_at, line, next_line}
use Rattle.cxx_grammar.specs.Unaries.{unary}
use Rattle.cxx_grammar.specs.Expressions.{operations_on, chain, expr}
use Rattle.cxx_grammar.specs.Rules.{Rules}
use Rattle.cxx_grammar.specs.Joined.{postfix_from, operations, climbed, choice_from, expr_from}

not_of_line : (n : ℕ) (o : Option Operator) (i : ℕ) → (line_of o == n) ≡ false → given (of_line n o) i ≡ No Nothing
not_of_line n (Some o) i h = rw h
not_of_line n None i h = refl

no_line_at : (n : ℕ) (k : Option Seen) (i : ℕ) → (line_at k == n) ≡ false → and_then (punctuator_of k i) (λ m. given (of_line n (binary_mark m))) ≡ No Nothing
no_line_at n (Some (Punctuator m)) i h = not_of_line n (binary_mark m) i h
no_line_at n (Some (Word m)) i h = refl
no_line_at n (Some Identifier) i h = refl
no_line_at n (Some Integer) i h = refl
no_line_at n (Some Character) i h = refl
no_line_at n (Some Text) i h = refl
no_line_at n None i h = refl

no_line : (tokens : Tokens) (n i : ℕ) → (next_line tokens i == n) ≡ false → line tokens n i ≡ No Nothing
unfolding line any_punctuator next_line
no_line tokens n i h = no_line_at n (kind tokens i) (i + 1) h

module _ (tokens : Tokens) (deeper : Rules) where
  pub postfix_by_primary : (start : ℕ) → postfix tokens deeper start ≡ and_then (primary tokens deeper start) (postfix_from tokens deeper start)
  unfolding postfix postfix_from
  postfix_by_primary start = assoc (primary tokens deeper start) _ _

  chain_more : (n start : ℕ) → chain tokens deeper (suc n) start ≡ and_then (chain tokens deeper n start) (operations tokens deeper n start)
  unfolding chain operations
  chain_more n start = assoc (chain tokens deeper n start) _ _

  chain_none : (start : ℕ) → chain tokens deeper 0 start ≡ unary tokens deeper start
  unfolding chain
  chain_none start = refl

  pub chain_by_unary : (n start : ℕ) → chain tokens deeper n start ≡ and_then (unary tokens deeper start) (climbed tokens deeper n start)
  unfolding climbed
  chain_by_unary zero start = chain_none start ∙ sym (unit (unary tokens deeper start))
  chain_by_unary (suc n) start = chain_more n start
      ∙ ap (λ (e : End Expr). and_then e (operations tokens deeper n start)) (chain_by_unary n start)
      ∙ assoc (unary tokens deeper start) (climbed tokens deeper n start) (operations tokens deeper n start)

  -- ---- where the next operator is of another line

  pub no_operations : (n start : ℕ) (x : Expr) (i : ℕ) → (next_line tokens i ≡ n → ⊥) → operations tokens deeper n start x i ≡ Tree x i
  unfolding operations
  no_operations n start x i h =
      let none : operations_on tokens deeper n (chain tokens deeper n) [] i ≡ No Nothing = simp (no_line tokens n i (ne_eqb (next_line tokens i) n h)) in
      simp (turns_none (operations_on tokens deeper n (chain tokens deeper n)) [] i (left tokens i) none)

  pub climbs_no_further : (n start : ℕ) (x : Expr) (i : ℕ) → n ≤ next_line tokens i → climbed tokens deeper n start x i ≡ Tree x i
  unfolding climbed
  climbs_no_further zero start x i h = refl
  climbs_no_further (suc n) start x i h =
      let before : climbed tokens deeper n start x i ≡ Tree x i = climbs_no_further n start x i (omega arith) in
      rw before (no_operations n start x i (λ e. omega arith))

  pub climbs : (n start : ℕ) (x : Expr) (i : ℕ) → next_line tokens i < n → climbed tokens deeper n start x i ≡ and_then (climbed tokens deeper (n - 1) start x i) (operations tokens deeper (n - 1) start)
  unfolding climbed
  climbs zero start x i h = absurd (omega arith)
  climbs (suc n) start x i h = let e : n ≡ suc n - 1 = omega arith in ap (λ (m : ℕ). and_then (climbed tokens deeper m start x i) (operations tokens deeper m start)) e

  expr_by_chain : (start : ℕ) → expr tokens deeper start ≡ and_then (chain tokens deeper 10 start) (choice_from tokens deeper start)
  unfolding expr choice_from
  expr_by_chain start = assoc (chain tokens deeper 10 start) _ _

  pub expr_by_unary : (start : ℕ) → expr tokens deeper start ≡ and_then (unary tokens deeper start) (expr_from tokens deeper start)
  unfolding expr_from
  expr_by_unary start = expr_by_chain start
      ∙ ap (λ (e : End Expr). and_then e (choice_from tokens deeper start)) (chain_by_unary 10 start)
      ∙ assoc (unary tokens deeper start) (climbed tokens deeper 10 start) (choice_from tokens deeper start)

pub ruleset climbing = (climbs, climbs_no_further)
