-- What one look tells: a unary expression that is an integer or a name alone, and where an expression ends.
use Rattle.std.proofs.Common.{◌≡◌, ℕ, ◌+◌, Bool, true, false, Option, Some, None, refl, ap, ◌∙◌}
use Rattle.cxx_tree.specs.declared.expr.Expr.{Expr}
use Rattle.cxx_tokens.specs.declared.token.Tokens.{Tokens}
use Rattle.cxx_tokens.specs.declared.mark.TheConstants.{QUESTION}
use Rattle.cxx_reading.specs.declared.seen.Seen.{Seen}
use Rattle.cxx_reading.specs.declared.seen.Seen.TheVariants.{Identifier, Integer, Character, Text, Word, Punctuator}
use Rattle.cxx_reading.specs.Reading.{End, Tree, and_then, kind, sees_punctuator}
use Rattle.cxx_grammar.specs.declared.operator.Operator.{Operator}
use Rattle.cxx_grammar.specs.Joined.{climbed, choice_from, expr_from}
use Rattle.cxx_grammar.specs.Postfixes.{postfix}
use Rattle.cxx_grammar.specs.Read.{read}
use Rattle.cxx_grammar.specs.Rules.{Rules}
use Rattle.cxx_grammar.specs.Unaries.{unary}
use Rattle.cxx_grammar.proofs.UnaryArms.{unary_identifier, unary_integer}
use Rattle.parse_chain.specs.Next.{operator_at}
use Rattle.cxx_grammar.proofs.Looks.{no_choice}
use Rattle.parse_chain.proofs.Placing.{ends_at_once}
use Rattle.parse_primary.specs.Looks.{is_operand}
use Rattle.parse_expr.specs.Looks.{ends_before, is_end}

-- ---- a unary expression

module _ (tokens : Tokens) (deeper : Rules) (i : ℕ) where
  operand_is : (k behind : Option Seen) → kind tokens i ≡ k → is_operand k behind ≡ true → unary tokens deeper i ≡ postfix tokens deeper i
  operand_is (Some Identifier) behind e h = unary_identifier tokens deeper i e
  operand_is (Some Integer) behind e h = unary_integer tokens deeper i e
  operand_is (Some Character) behind e h = cc
  operand_is (Some Text) behind e h = cc
  operand_is (Some (Word n)) behind e h = cc
  operand_is (Some (Punctuator n)) behind e h = cc
  operand_is None behind e h = cc

  pub unary_operand : is_operand (kind tokens i) (kind tokens (i + 1)) ≡ true → unary tokens deeper i ≡ postfix tokens deeper i
  unary_operand h = operand_is (kind tokens i) (kind tokens (i + 1)) refl h

-- ---- the end of an expression

no_operator : (o : Option (Operator × ℕ)) (asks : Bool) → ends_before o asks ≡ true → o ≡ None
no_operator (Some found) asks h = cc
no_operator None asks h = refl

no_question : (o : Option (Operator × ℕ)) (asks : Bool) → ends_before o asks ≡ true → asks ≡ false
no_question (Some found) asks h = cc
no_question None true h = cc
no_question None false h = refl

module _ (tokens : Tokens) (i : ℕ) where
  pub ended : (level start : ℕ) (x : Expr) → is_end tokens i ≡ true → expr_from tokens (read tokens level) start x i ≡ Tree x i
  unfolding expr_from
  ended level start x h =
      let asks : Bool = sees_punctuator tokens QUESTION i in
      let c : climbed tokens (read tokens level) 10 start x i ≡ Tree x i = ends_at_once tokens level start x i (no_operator (operator_at tokens i) asks h) in
      ap (λ (e : End Expr). and_then e (choice_from tokens (read tokens level) start)) c
      ∙ no_choice tokens (read tokens level) start x i (no_question (operator_at tokens i) asks h)
