-- Names ([expr.prim.id]).
use Rattle.std.specs.Prelude.{ℕ, ◌-◌, Bool, false, ◌&&◌, ◌==◌, nat_le, List, [], ◌∷◌, ◌++◌, length, slice_get, Option, Some, None}
use Rattle.cxx_tree.specs.declared.identifier.Identifier.{Identifier}
use Rattle.cxx_tree.specs.declared.identifier.NameTree.{NameTree}
use Rattle.cxx_base.specs.declared.library.TheConstants.{STD, VECTOR, EXTRACT}
use Rattle.cxx_tokens.specs.declared.token.Tokens.{Tokens}
use Rattle.cxx_tokens.specs.declared.mark.TheConstants.{SCOPE, LESS}
use Rattle.cxx_reading.specs.Any.{unless}
use Rattle.cxx_reading.specs.Reading.{Rule, ◌>>=◌, ◌>>◌, pure, present, guard, punctuator, identifier, sees_punctuator, repeated, node}

abbrev pub is_part : ℕ → Option Identifier → Bool
is_part n (Some part) = part.name.0 == n
is_part n None = false

-- whether a name has at least two parts and the last is `extract`
abbrev pub is_extract : NameTree → Bool
is_extract n = nat_le 1 (length n.more) && is_part EXTRACT.0 (slice_get n.more (length n.more - 1))

module _ (tokens : Tokens) where
  unfoldable pub named : ℕ → Rule (Unit {0})
  named n = do
    found ← identifier tokens
    guard (found.name.0 == n)

  -- The four tokens std :: vector < always begin the type of a vector, so no name begins there.
  unfoldable pub vector_head : Rule (Unit {0})
  vector_head = do named STD.0; punctuator tokens SCOPE; named VECTOR.0; punctuator tokens LESS

  -- "::" ID
  unfoldable pub part : Rule Identifier
  part = punctuator tokens SCOPE >> identifier tokens

  abbrev pub parts_on : List Identifier → Rule (List Identifier)
  parts_on found = do
    next ← part
    pure (found ++ next ∷ [])

  unfoldable pub parts : List Identifier → Rule (List Identifier)
  parts = repeated tokens parts_on

  unfoldable pub any_name : Rule NameTree
  any_name = node tokens (do
    rooted ← present (punctuator tokens SCOPE)
    first ← identifier tokens
    more ← parts []
    pure (λ s. record { span = s; rooted = rooted; first = first; more = more }))

  -- name : "::"? ID ("::" ID)*
  unfoldable pub name : Rule NameTree
  name = λ i. unless (vector_head i) (any_name i)

  -- whether a name that ends there is followed by the type of an `extract`
  abbrev pub extracts : NameTree → ℕ → Bool
  extracts n i = is_extract n && sees_punctuator tokens LESS i
