-- What a look at the token behind a unary expression tells.
use Rattle.std.specs.Prelude.{ℕ, Bool, false, not, Option, Some, None}
use Rattle.cxx_tokens.specs.declared.token.Tokens.{Tokens}
use Rattle.cxx_tokens.specs.declared.mark.TheConstants.{QUESTION}
use Rattle.cxx_reading.specs.Reading.{sees_punctuator}
use Rattle.cxx_grammar.specs.declared.operator.Operator.{Operator}
use Rattle.parse_chain.specs.Next.{operator_at}

-- whether the expression ends before this operator, or else before what is `?` or not
abbrev pub ends_before : Option (Operator × ℕ) → Bool → Bool
ends_before (Some found) asks = false
ends_before None asks = not asks

-- whether the expression ends there
abbrev pub is_end : Tokens → ℕ → Bool
is_end tokens i = ends_before (operator_at tokens i) (sees_punctuator tokens QUESTION i)
