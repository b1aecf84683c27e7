-- Lists of parts.
use Rattle.std.specs.Prelude.{List, [], ◌∷◌}
use Rattle.cxx_tokens.specs.declared.token.Tokens.{Tokens}
use Rattle.cxx_reading.specs.Reading.{Rule, ◌>>=◌}
use Rattle.cxx_grammar.specs.Sequences.{many, next_of}

module _ (tokens : Tokens) where
  -- x ("," x)*
  abbrev pub comma_list : {A : Type 0} → Rule A → Rule (List A)
  comma_list q = q >>= (λ first. many tokens (next_of tokens q) (first ∷ []))

  -- x x*
  abbrev pub list : {A : Type 0} → Rule A → Rule (List A)
  list q = q >>= (λ first. many tokens q (first ∷ []))
