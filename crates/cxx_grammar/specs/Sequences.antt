-- Parts one after the other, and lists with commas.
use Rattle.std.specs.Prelude.{List, [], ◌∷◌, ◌++◌}
use Rattle.cxx_tokens.specs.declared.token.Tokens.{Tokens}
use Rattle.cxx_tokens.specs.declared.mark.TheConstants.{COMMA}
use Rattle.cxx_reading.specs.Reading.{Rule, ◌>>=◌, ◌>>◌, pure, punctuator, repeated}

-- what was read so far, with one more part
abbrev pub with_next : {A : Type 0} → Rule A → List A → Rule (List A)
with_next q found = do
  x ← q
  pure (found ++ x ∷ [])

module _ (tokens : Tokens) where
  -- x*, behind what was read so far
  abbrev pub many : {A : Type 0} → Rule A → List A → Rule (List A)
  many q = repeated tokens (with_next q)

  -- "," x
  abbrev pub next_of : {A : Type 0} → Rule A → Rule A
  next_of q = punctuator tokens COMMA >> q
