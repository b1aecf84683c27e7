-- The token at the front of a text, by its first character.
use Rattle.std.proofs.Common.{◌≡◌, ◌≢◌, ℕ, ◌<◌, true, false, eqb, List, [], ◌∷◌, take, Result, Ok, Err, IfOk, refl, arith}
use Rattle.std.proofs.lemmas.Bool.{ne_eqb}
use Rattle.std.proofs.lemmas.Bool.Decides.{Decides-eqb}
use Rattle.std.specs.Char.{is_ascii_digit}
use Rattle.cxx_base.specs.Texts.{Text}
use Rattle.cxx_base.specs.declared.place.Place.{Place}
use Rattle.cxx_tokens.specs.Characters.{Characters, begins_identifier, double_quote, single_quote}
use Rattle.cxx_tokens.specs.Lex.{character_token, integer_token, punctuator_token, string_token, token_at, word_len, word_token}
use Rattle.cxx_tokens.specs.Literals.{character_at, integer_at}
use Rattle.cxx_tokens.specs.Punctuators.{punctuator_at}
use Rattle.cxx_tokens.specs.Faults.{L2}

module _ (place : Place) (names : List Text) (text : Characters) where
  pub at_end : text ≡ [] → token_at place names text ≡ Err (L2 place)
  unfolding token_at
  at_end h = rw h refl

module _ (place : Place) (names : List Text) (text : Characters) (c : ℕ) (rest : Characters) (h : text ≡ c ∷ rest) where
  pub word_here : begins_identifier c ≡ true → token_at place names text ≡ word_token place names (take (word_len text) text)
  unfolding token_at
  word_here word = rw (h, word) refl

  pub integer_here : begins_identifier c ≡ false → is_ascii_digit c ≡ true → token_at place names text ≡ integer_token place names text (integer_at text)
  unfolding token_at
  integer_here word digit = rw (h, word, digit) refl

  pub character_here : begins_identifier c ≡ false → is_ascii_digit c ≡ false → c ≡ single_quote
      → token_at place names text ≡ character_token place names (character_at rest)
  unfolding token_at
  character_here word digit quote =
      let yes : eqb c single_quote ≡ true = (Decides-eqb c single_quote).1 quote in
      rw (h, word, digit, yes) refl

  pub string_here : begins_identifier c ≡ false → is_ascii_digit c ≡ false → c ≢ single_quote → c ≡ double_quote
      → token_at place names text ≡ string_token place names rest
  unfolding token_at
  string_here word digit single quote =
      let no : eqb c single_quote ≡ false = ne_eqb c single_quote single in
      let yes : eqb c double_quote ≡ true = (Decides-eqb c double_quote).1 quote in
      rw (h, word, digit, no, yes) refl

  pub punctuator_here : begins_identifier c ≡ false → is_ascii_digit c ≡ false → c ≢ single_quote → c ≢ double_quote
      → token_at place names text ≡ punctuator_token place names (punctuator_at text)
  unfolding token_at
  punctuator_here word digit single double =
      let no : eqb c single_quote ≡ false = ne_eqb c single_quote single in
      let none : eqb c double_quote ≡ false = ne_eqb c double_quote double in
      rw (h, word, digit, no, none) refl

-- an answer of this length has a character at least
pub ok_with_length : {X E : Type 0} (r : Result X E) (len : X → ℕ) (n : ℕ) (Q : X → Type 0) → 0 < n → IfOk r (λ x. len x ≡ n) → IfOk r Q
    → IfOk r (λ x. (0 < len x) × Q x)
ok_with_length (Ok x) len n Q some e q = (omega (arith, some, e), q)
ok_with_length (Err fault) len n Q some e q = tt
