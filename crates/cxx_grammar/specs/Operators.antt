-- Operators ([expr.unary.op], [expr.mul] to [expr.log.or]).
use Rattle.std.specs.Prelude.{ℕ, if◌then◌else◌, ◌==◌, Option, Some, None}
use Rattle.cxx_base.specs.declared.operator.IntOp.{IntOp}
use Rattle.cxx_base.specs.declared.operator.IntOp.TheVariants as int
use Rattle.cxx_base.specs.declared.operator.CompareOp.{CompareOp}
use Rattle.cxx_base.specs.declared.operator.CompareOp.TheVariants as compare
use Rattle.cxx_tree.specs.declared.operator.UnaryOp.{UnaryOp}
use Rattle.cxx_tree.specs.declared.operator.UnaryOp.TheVariants as unary
use Rattle.cxx_tree.specs.declared.operator.BinaryOp.{BinaryOp}
use Rattle.cxx_tree.specs.declared.operator.BinaryOp.TheVariants as binary
use Rattle.cxx_tokens.specs.declared.token.Tokens.{Tokens}
use Rattle.cxx_tokens.specs.declared.mark.TheConstants.{PLUS, MINUS, STAR, SLASH, PERCENT, CARET, AMPERSAND, PIPE, TILDE, NOT, LESS, GREATER, LESS_EQUAL, GREATER_EQUAL, EQUAL_EQUAL, NOT_EQUAL, SHIFT_LEFT, SHIFT_RIGHT, AND, OR}
use Rattle.cxx_reading.specs.declared.seen.Seen.{Seen}
use Rattle.cxx_reading.specs.declared.seen.Seen.TheVariants.{Punctuator}
use Rattle.cxx_reading.specs.Any.{given, any_punctuator}
use Rattle.cxx_reading.specs.Reading.{Rule, ◌>>=◌, kind}
use Rattle.cxx_grammar.specs.declared.operator.Operator.{Operator}

-- "+" | "-" | "!" | "~" | "*" | "&"
abbrev pub unary_mark : ℕ → Option UnaryOp
unary_mark m = if m == PLUS then Some unary.Plus
    else (if m == MINUS then Some unary.Minus
    else (if m == NOT then Some unary.Not
    else (if m == TILDE then Some unary.Complement
    else (if m == STAR then Some unary.Deref
    else (if m == AMPERSAND then Some unary.AddressOf else None)))))

abbrev pub on_line : ℕ → BinaryOp → Option Operator
on_line n o = Some (record { line = n; op = o })

abbrev pub computed : ℕ → IntOp → Option Operator
computed n o = on_line n (binary.Int o)

abbrev pub compared : ℕ → CompareOp → Option Operator
compared n o = on_line n (binary.Compare o)

-- The operators with their lines, from line 0, the last of these:
-- || && | ^ & (== !=) (< <= > >=) (<< >>) (+ -) (* / %)
abbrev pub binary_mark : ℕ → Option Operator
binary_mark m = if m == STAR then computed 0 int.Mul
    else (if m == SLASH then computed 0 int.Div
    else (if m == PERCENT then computed 0 int.Rem
    else (if m == PLUS then computed 1 int.Add
    else (if m == MINUS then computed 1 int.Sub
    else (if m == SHIFT_LEFT then computed 2 int.Shl
    else (if m == SHIFT_RIGHT then computed 2 int.Shr
    else (if m == LESS then compared 3 compare.Lt
    else (if m == LESS_EQUAL then compared 3 compare.Le
    else (if m == GREATER then compared 3 compare.Gt
    else (if m == GREATER_EQUAL then compared 3 compare.Ge
    else (if m == EQUAL_EQUAL then compared 4 compare.Eq
    else (if m == NOT_EQUAL then compared 4 compare.Ne
    else (if m == AMPERSAND then computed 5 int.And
    else (if m == CARET then computed 6 int.Xor
    else (if m == PIPE then computed 7 int.Or
    else (if m == AND then on_line 8 binary.LogicalAnd
    else (if m == OR then on_line 9 binary.LogicalOr else None)))))))))))))))))

abbrev pub of_line : ℕ → Option Operator → Option BinaryOp
of_line n (Some o) = if o.line == n then Some o.op else None
of_line n None = None

-- the line of the operator that a token is, and 10 where it is none
abbrev pub line_of : Option Operator → ℕ
line_of (Some o) = o.line
line_of None = 10

abbrev pub line_at : Option Seen → ℕ
line_at (Some (Punctuator m)) = line_of (binary_mark m)
line_at _ = 10

module _ (tokens : Tokens) where
  unfoldable pub unary_operator : Rule UnaryOp
  unary_operator = do m ← any_punctuator tokens; given (unary_mark m)

  -- an operator of one line
  unfoldable pub line : ℕ → Rule BinaryOp
  line n = do m ← any_punctuator tokens; given (of_line n (binary_mark m))

  -- the line of the operator that stands there, and 10 where none does
  unfoldable pub next_line : ℕ → ℕ
  next_line i = line_at (kind tokens i)
