-- The operator that stands at a token.
use Rattle.std.specs.Prelude.{ℕ, ◌+◌, Option, Some, None}
use Rattle.cxx_tokens.specs.declared.token.Tokens.{Tokens}
use Rattle.cxx_reading.specs.declared.seen.Seen.{Seen}
use Rattle.cxx_reading.specs.declared.seen.Seen.TheVariants.{Punctuator}
use Rattle.cxx_reading.specs.Reading.{kind}
use Rattle.cxx_grammar.specs.declared.operator.Operator.{Operator}
use Rattle.cxx_grammar.specs.Operators.{binary_mark}

-- the operator that a token is
abbrev pub mark_at : Option Seen → Option Operator
mark_at (Some (Punctuator m)) = binary_mark m
mark_at _ = None

abbrev pub before : Option Operator → ℕ → Option (Operator × ℕ)
before (Some o) i = Some (o, i)
before None i = None

-- the operator that stands there, if one does, and the token behind it
unfoldable pub operator_at : Tokens → ℕ → Option (Operator × ℕ)
operator_at tokens i = before (mark_at (kind tokens i)) (i + 1)
