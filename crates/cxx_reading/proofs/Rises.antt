-- A rule that reads takes at least one token.
use Rattle.std.proofs.Common.{ℕ, ◌+◌, Bool, true, false, Option, Some, None, arith, if◌then◌else◌, slice_get}
use Rattle.cxx_base.specs.declared.place.Span.{Span}
use Rattle.cxx_tokens.specs.declared.token.Token.{Token}
use Rattle.cxx_tokens.specs.declared.token.TokenKind.{TokenKind}
use Rattle.cxx_tokens.specs.declared.token.TokenKind.TheVariants as token_kind
use Rattle.cxx_tokens.specs.declared.token.Tokens.{Tokens}
use Rattle.cxx_reading.specs.declared.seen.Seen.{Seen}
use Rattle.cxx_reading.specs.declared.seen.Seen.TheVariants as seen_kind
use Rattle.cxx_reading.specs.Any.{unless, word_of, punctuator_of, any_word, any_punctuator}
use Rattle.cxx_reading.specs.Extents.{EndsFrom, Forward, Rises}
use Rattle.cxx_reading.specs.Reading.{End, Tree, No, Why, Nothing, Rule, and_then, longer, kind, is_punctuator, is_word, identifier_of, integer_of, character_of, text_of, of_token, span, punctuator, word, identifier, integer, character, text}
use Rattle.cxx_reading.proofs.Forward.{later, longer_ends, unless_ends, bound, steps}

pub forward_rises : {A : Type 0} (p : Rule A) → Rises p → Forward p
forward_rises p h = record { at = λ i. later i (i + 1) (p i) (omega arith) (h.at i) }

-- ---- parts in order: one of them takes a token

pub rises_bind : {A B : Type 0} (p : Rule A) (f : ℕ → A → Rule B) → Rises p → ((i : ℕ) (a : A) → Forward (f i a)) → Rises {A = B} (λ i. and_then (p i) (f i))
rises_bind p f h g = record { at = λ i. bound (i + 1) (p i) (f i) (h.at i) (g i) }

then_rises : {A B : Type 0} (i : ℕ) (e : End A) (f : A → Rule B) → EndsFrom i e → ((a : A) → Rises (f a)) → EndsFrom (i + 1) (and_then e f)
then_rises i (Tree a j) f h g = later (i + 1) (j + 1) (f a j) (omega arith) ((g a).at j)
then_rises i (No why) f h g = tt

pub rises_then : {A B : Type 0} (p : Rule A) (f : ℕ → A → Rule B) → Forward p → ((i : ℕ) (a : A) → Rises (f i a)) → Rises {A = B} (λ i. and_then (p i) (f i))
rises_then p f h g = record { at = λ i. then_rises i (p i) (f i) (h.at i) (g i) }

pub rises_longer : {A : Type 0} (p q : Rule A) → Rises p → Rises q → Rises {A = A} (λ i. longer (p i) (q i))
rises_longer p q h g = record { at = λ i. longer_ends (i + 1) (p i) (q i) (h.at i) (g.at i) }

pub rises_unless : {A B : Type 0} (p : Rule A) (q : Rule B) → Rises q → Rises {A = B} (λ i. unless (p i) (q i))
rises_unless p q h = record { at = λ i. unless_ends (i + 1) (p i) (q i) (h.at i) }

pub rises_none : {A : Type 0} (why : ℕ → Why) → Rises {A = A} (λ i. No (why i))
rises_none why = record { at = λ i. tt }

-- ---- single tokens

one : (b : Bool) (i : ℕ) → EndsFrom {A = Unit {0}} (i + 1) (if b then Tree tt (i + 1) else No Nothing)
one true i = omega arith
one false i = tt

identifier_kind : (t : TokenKind) (s : Span) → EndsFrom s.end (identifier_of t s)
identifier_kind (token_kind.Identifier name) s = omega arith
identifier_kind (token_kind.Word n) s = tt
identifier_kind (token_kind.Punctuator n) s = tt
identifier_kind (token_kind.Integer decimal unsigned longs n) s = tt
identifier_kind (token_kind.Character byte) s = tt
identifier_kind (token_kind.Text bytes) s = tt

identifier_token : (t : Option Token) (s : Span) → EndsFrom s.end (of_token t (λ k. identifier_of k s))
identifier_token (Some t) s = identifier_kind t.kind s
identifier_token None s = tt

integer_kind : (t : TokenKind) (after : ℕ) → EndsFrom after (integer_of t after)
integer_kind (token_kind.Identifier name) after = tt
integer_kind (token_kind.Word n) after = tt
integer_kind (token_kind.Punctuator n) after = tt
integer_kind (token_kind.Integer decimal unsigned longs n) after = omega arith
integer_kind (token_kind.Character byte) after = tt
integer_kind (token_kind.Text bytes) after = tt

integer_token : (t : Option Token) (after : ℕ) → EndsFrom after (of_token t (λ k. integer_of k after))
integer_token (Some t) after = integer_kind t.kind after
integer_token None after = tt

character_kind : (t : TokenKind) (after : ℕ) → EndsFrom after (character_of t after)
character_kind (token_kind.Identifier name) after = tt
character_kind (token_kind.Word n) after = tt
character_kind (token_kind.Punctuator n) after = tt
character_kind (token_kind.Integer decimal unsigned longs n) after = tt
character_kind (token_kind.Character byte) after = omega arith
character_kind (token_kind.Text bytes) after = tt

character_token : (t : Option Token) (after : ℕ) → EndsFrom after (of_token t (λ k. character_of k after))
character_token (Some t) after = character_kind t.kind after
character_token None after = tt

text_kind : (t : TokenKind) (after : ℕ) → EndsFrom after (text_of t after)
text_kind (token_kind.Identifier name) after = tt
text_kind (token_kind.Word n) after = tt
text_kind (token_kind.Punctuator n) after = tt
text_kind (token_kind.Integer decimal unsigned longs n) after = tt
text_kind (token_kind.Character byte) after = tt
text_kind (token_kind.Text bytes) after = omega arith

text_token : (t : Option Token) (after : ℕ) → EndsFrom after (of_token t (λ k. text_of k after))
text_token (Some t) after = text_kind t.kind after
text_token None after = tt

word_ends : (k : Option Seen) (after : ℕ) → EndsFrom after (word_of k after)
word_ends (Some seen_kind.Identifier) after = tt
word_ends (Some seen_kind.Integer) after = tt
word_ends (Some seen_kind.Character) after = tt
word_ends (Some seen_kind.Text) after = tt
word_ends (Some (seen_kind.Word n)) after = omega arith
word_ends (Some (seen_kind.Punctuator n)) after = tt
word_ends None after = tt

punctuator_ends : (k : Option Seen) (after : ℕ) → EndsFrom after (punctuator_of k after)
punctuator_ends (Some seen_kind.Identifier) after = tt
punctuator_ends (Some seen_kind.Integer) after = tt
punctuator_ends (Some seen_kind.Character) after = tt
punctuator_ends (Some seen_kind.Text) after = tt
punctuator_ends (Some (seen_kind.Word n)) after = tt
punctuator_ends (Some (seen_kind.Punctuator n)) after = omega arith
punctuator_ends None after = tt

module _ (tokens : Tokens) where
  pub rises_any_word : Rises (any_word tokens)
  unfolding any_word
  rises_any_word = record { at = λ i. word_ends (kind tokens i) (i + 1) }

  pub rises_any_punctuator : Rises (any_punctuator tokens)
  unfolding any_punctuator
  rises_any_punctuator = record { at = λ i. punctuator_ends (kind tokens i) (i + 1) }

  pub rises_punctuator : (n : ℕ) → Rises (punctuator tokens n)
  unfolding punctuator
  rises_punctuator n = record { at = λ i. one (is_punctuator n (kind tokens i)) i }

  pub rises_word : (n : ℕ) → Rises (word tokens n)
  unfolding word
  rises_word n = record { at = λ i. one (is_word n (kind tokens i)) i }

  pub rises_identifier : Rises (identifier tokens)
  unfolding identifier span
  rises_identifier = record { at = λ i. identifier_token (slice_get tokens.list i) (span tokens i (i + 1)) }

  pub rises_integer : Rises (integer tokens)
  unfolding integer
  rises_integer = record { at = λ i. integer_token (slice_get tokens.list i) (i + 1) }

  pub rises_character : Rises (character tokens)
  unfolding character
  rises_character = record { at = λ i. character_token (slice_get tokens.list i) (i + 1) }

  pub rises_text : Rises (text tokens)
  unfolding text
  rises_text = record { at = λ i. text_token (slice_get tokens.list i) (i + 1) }

pub ruleset rising = (rises_bind, rises_then, rises_longer, rises_none, rises_unless, rises_any_word, rises_any_punctuator, rises_punctuator, rises_word, rises_identifier, rises_integer, rises_character, rises_text, steps)
