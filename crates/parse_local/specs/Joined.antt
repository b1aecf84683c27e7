-- Forms as the parser reads them, and how far names go of which no tree is made. Nobody need believe this file: in proofs/ each is
-- shown to give what the grammar's own forms give.
use Rattle.std.specs.Prelude.{ℕ, ◌+◌, Bool, if◌then◌else◌, [], Option, Some, None}
use Rattle.cxx_tree.specs.declared.identifier.Identifier.{Identifier}
use Rattle.cxx_tree.specs.declared.expr.TypeTree.{TypeTree}
use Rattle.cxx_tree.specs.declared.stmt.InitTree.{InitTree}
use Rattle.cxx_tree.specs.declared.stmt.LocalTree.{LocalTree}
use Rattle.cxx_tokens.specs.declared.token.Tokens.{Tokens}
use Rattle.cxx_tokens.specs.declared.mark.TheConstants as mark
use Rattle.cxx_reading.specs.Reading.{Rule, ◌>>=◌, ◌>>◌, ◌<|>◌, pure, guard, present, optional, punctuator, identifier, repeated, from}
use Rattle.cxx_grammar.specs.Names.{part}
use Rattle.cxx_grammar.specs.Locals.{fit_bounds, points, bounds, init_equal, init_equal_braced, init}

module _ (tokens : Tokens) where
  -- ---- names that are skipped

  abbrev pub part_on : Unit {0} → Rule (Unit {0})
  part_on t = part tokens >> pure t

  -- ("::" ID)*
  unfoldable pub behind_parts : Rule (Unit {0})
  behind_parts = repeated tokens part_on tt

  -- "::"? ID ("::" ID)*
  unfoldable pub behind_name : Rule (Unit {0})
  behind_name = do present (punctuator tokens mark.SCOPE); identifier tokens; behind_parts

  -- the token behind one of "*", "&" and "const"
  abbrev pub behind_point : ℕ → Option ℕ
  behind_point i = if points tokens i then Some (i + 1) else None

  -- ---- initializers that begin with "="

  unfoldable pub equals : ℕ → Rule InitTree
  equals level = init_equal tokens level <|> init_equal_braced tokens level

  -- ---- declarations of local variables behind their name

  unfoldable pub local_rest : ℕ → ℕ → Bool → TypeTree → Identifier → Rule LocalTree
  local_rest level start is_constexpr of_type n = from tokens start (do
    all ← bounds tokens level []
    value ← optional (init tokens level)
    punctuator tokens mark.SEMICOLON
    guard (fit_bounds all value)
    pure (λ s. record { span = s; is_constexpr = is_constexpr; of_type = of_type; name = n; bounds = all; init = value }))
