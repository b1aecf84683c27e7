-- What a look at the token behind an operand tells, and the operands of one token. Nobody need believe this file: in proofs/ each is
-- shown to give what the grammar's own forms give.
use Rattle.std.specs.Prelude.{Bool, false, not, ◌||◌, [], Option, Some}
use Rattle.cxx_tree.specs.declared.expr.Expr.{Expr}
use Rattle.cxx_tree.specs.declared.expr.Expr.TheVariants as expr-of
use Rattle.cxx_tokens.specs.declared.token.Tokens.{Tokens}
use Rattle.cxx_tokens.specs.declared.mark.TheConstants.{SCOPE, LEFT_BRACE}
use Rattle.cxx_reading.specs.declared.seen.Seen.{Seen}
use Rattle.cxx_reading.specs.declared.seen.Seen.TheVariants.{Identifier, Integer}
use Rattle.cxx_grammar.specs.Joined.{begins_suffix}
use Rattle.cxx_reading.specs.Reading.{Rule, ◌>>=◌, pure, identifier, is_punctuator}

-- whether it belongs to the name before it
abbrev pub goes_on : Option Seen → Bool
goes_on k = is_punctuator SCOPE k || is_punctuator LEFT_BRACE k

-- whether the first is an operand, and the second does not belong to it
abbrev pub is_operand : Option Seen → Option Seen → Bool
is_operand (Some Integer) behind = not (begins_suffix behind)
is_operand (Some Identifier) behind = not (begins_suffix behind || goes_on behind)
is_operand _ behind = false

-- a name of one part
abbrev pub lone_name : Tokens → Rule Expr
lone_name tokens = do
  x ← identifier tokens
  pure (expr-of.Name (record { span = x.span; rooted = false; first = x; more = [] }))
