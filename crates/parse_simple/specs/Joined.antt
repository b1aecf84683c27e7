-- Statements that begin with neither a word nor a mark of their own, as the parser reads them. Nobody need believe this file: in
-- proofs/ they are shown to give what the grammar's own forms give.
use Rattle.std.specs.Prelude.{ℕ, if◌then◌else◌}
use Rattle.cxx_base.specs.declared.place.Span.{Span}
use Rattle.cxx_tree.specs.declared.stmt.ForStep.{ForStep}
use Rattle.cxx_tree.specs.declared.stmt.ForStep.TheVariants as for-step-of
use Rattle.cxx_tree.specs.declared.stmt.Stmt.{Stmt}
use Rattle.cxx_tree.specs.declared.stmt.Stmt.TheVariants as stmt-of
use Rattle.cxx_tokens.specs.declared.token.Tokens.{Tokens}
use Rattle.cxx_tokens.specs.declared.mark.TheConstants as mark
use Rattle.cxx_reading.specs.Reading.{Tree, Rule, and_then, ◌>>=◌, pure, span}
use Rattle.cxx_grammar.specs.Locals.{begins_local, local}
use Rattle.parse_assign.specs.Joined.{closed}

-- an assignment or an expression, as a statement with this span
abbrev pub statement_of : Span → ForStep → Stmt
statement_of s (for-step-of.Assign a) = stmt-of.Assign a
statement_of s (for-step-of.Expr x) = stmt-of.Expr s x

module _ (tokens : Tokens) (level : ℕ) where
  unfoldable pub local_stmt : Rule Stmt
  local_stmt = do x ← local tokens level; pure (stmt-of.Local x)

  unfoldable pub worked : Rule Stmt
  worked = λ start. and_then (closed tokens level mark.SEMICOLON start) (λ x j. Tree (statement_of (span tokens start j) x) j)

  unfoldable pub simple : Rule Stmt
  simple = λ i. if begins_local tokens i then local_stmt i else worked i
