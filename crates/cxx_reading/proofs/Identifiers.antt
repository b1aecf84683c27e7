-- An identifier is one token.
use Rattle.std.proofs.Common.{◌≡◌, ℕ, ◌+◌, Bool, true, false, Option, Some, None, refl, ◌⊎◌, inl, inr, slice_get}
use Rattle.cxx_base.specs.declared.place.Span.{Span}
use Rattle.cxx_tree.specs.declared.identifier.Identifier.{Identifier as IdentifierTree}
use Rattle.cxx_tokens.specs.declared.token.Token.{Token}
use Rattle.cxx_tokens.specs.declared.token.TokenKind.{TokenKind}
use Rattle.cxx_tokens.specs.declared.token.TokenKind.TheVariants as token_kind
use Rattle.cxx_tokens.specs.declared.token.Tokens.{Tokens}
use Rattle.cxx_reading.specs.declared.seen.Seen.{Seen}
use Rattle.cxx_reading.specs.declared.seen.Seen.TheVariants.{Identifier, Integer, Character, Text, Word, Punctuator}
use Rattle.cxx_reading.specs.Reading.{Tree, No, Nothing, seen, kind_of, is_identifier, identifier_of, of_token, kind, span, identifier}
use Rattle.cxx_reading.proofs.Starts.{no_identifier}

of_kind : (t : TokenKind) (s : Span) → Some (seen t) ≡ Some Identifier → (x : IdentifierTree) × (identifier_of t s ≡ Tree x s.end)
of_kind (token_kind.Identifier name) s e = (record { span = s; name = name }, refl)
of_kind (token_kind.Word n) s e = cc
of_kind (token_kind.Punctuator n) s e = cc
of_kind (token_kind.Integer decimal unsigned longs n) s e = cc
of_kind (token_kind.Character byte) s e = cc
of_kind (token_kind.Text bytes) s e = cc

of_one : (t : Option Token) (s : Span) → kind_of t ≡ Some Identifier → (x : IdentifierTree) × (of_token t (λ k. identifier_of k s) ≡ Tree x s.end)
of_one (Some t) s e = of_kind t.kind s e
of_one None s e = cc

pub is_that_identifier : (k : Option Seen) → is_identifier k ≡ true → k ≡ Some Identifier
is_that_identifier (Some Identifier) h = refl
is_that_identifier (Some (Word n)) h = cc
is_that_identifier (Some (Punctuator n)) h = cc
is_that_identifier (Some Integer) h = cc
is_that_identifier (Some Character) h = cc
is_that_identifier (Some Text) h = cc
is_that_identifier None h = cc

module _ (tokens : Tokens) (i : ℕ) where
  pub identifier_there : kind tokens i ≡ Some Identifier → (x : IdentifierTree) × (identifier tokens i ≡ Tree x (i + 1))
  unfolding kind identifier span
  identifier_there e = of_one (slice_get tokens.list i) (span tokens i (i + 1)) e

  -- whether one is there or not
  by_test : (b : Bool) → is_identifier (kind tokens i) ≡ b → (identifier tokens i ≡ No Nothing) ⊎ ((x : IdentifierTree) × (identifier tokens i ≡ Tree x (i + 1)))
  by_test true h = inr (identifier_there (is_that_identifier (kind tokens i) h))
  by_test false h = inl (no_identifier tokens i h)

  pub identifier_or_none : (identifier tokens i ≡ No Nothing) ⊎ ((x : IdentifierTree) × (identifier tokens i ≡ Tree x (i + 1)))
  identifier_or_none = by_test (is_identifier (kind tokens i)) refl

  -- where an identifier reads, one is there
  reads_one : (b : Bool) (x : IdentifierTree) (j : ℕ) → is_identifier (kind tokens i) ≡ b → identifier tokens i ≡ Tree x j → b ≡ true
  reads_one true x j h e = refl
  reads_one false x j h e = let none : identifier tokens i ≡ No Nothing = no_identifier tokens i h in cc

  pub is_identifier_there : (x : IdentifierTree) → identifier tokens i ≡ Tree x (i + 1) → is_identifier (kind tokens i) ≡ true
  is_identifier_there x e = reads_one (is_identifier (kind tokens i)) x (i + 1) refl e
