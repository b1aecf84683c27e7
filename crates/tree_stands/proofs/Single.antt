-- Single tokens, and rules that ask a table or a side rule.
use Rattle.std.proofs.Common.{◌≡◌, ℕ, ◌+◌, ◌<◌, ◌≤◌, Bool, true, false, length, slice_get, Option, Some, None, refl, arith, if◌then◌else◌}
use Rattle.std.proofs.lemmas.Option.{slice_get_within}
use Rattle.cxx_tokens.specs.declared.token.Token.{Token}
use Rattle.cxx_tokens.specs.declared.token.TokenKind.{TokenKind}
use Rattle.cxx_tokens.specs.declared.token.TokenKind.TheVariants as token_kind
use Rattle.cxx_tokens.specs.declared.token.Tokens.{Tokens}
use Rattle.tree_stands.specs.Stands.{StandsIdentifier}
use Rattle.cxx_reading.specs.declared.seen.Seen.{Seen}
use Rattle.cxx_reading.specs.declared.seen.Seen.TheVariants as seen_kind
use Rattle.cxx_reading.specs.Any.{given, word_of, punctuator_of, any_word, any_punctuator}
use Rattle.cxx_reading.specs.Reading.{Tree, No, Nothing, kind_of, seen, kind, sees_punctuator, is_punctuator, is_word, identifier_of, integer_of, character_of, text_of, of_token, span, punctuator, word, identifier, integer, character, text}
use Rattle.tree_stands.proofs.Holding.{Holds, Where, so, both, one_of, Took, Passed, Takes, Part, TreeStands}

-- ---- tables and side rules take no token

asked : {A : Type 0} (P : ℕ → Type 0) (o : Option A) (i : ℕ) → P i → Holds (λ x k. P k) (given o i)
asked P (Some a) i h = h
asked P None i h = tt

pub where_given : {A : Type 0} (P : ℕ → Type 0) (o : Option A) (i : ℕ) → P i → Where (λ x k. P k) (given o i)
where_given P o i h = record { holds = asked P o i h }

pub where_guard : (P : ℕ → Type 0) (b : Bool) (i : ℕ) → P i → Where {A = Unit {0}} (λ x k. P k) (if b then Tree tt i else No Nothing)
where_guard P b i h = one_of (λ x k. P k) b (Tree tt i) (No Nothing) (record { holds = h }) (record { holds = tt })

pub passes_guard : (tokens : Tokens) (b : Bool) (i : ℕ) → Where {A = Unit {0}} (λ x k. Passed tokens i k) (if b then Tree tt i else No Nothing)
passes_guard tokens b i = where_guard (λ k. Passed tokens i k) b i (record { goes = omega arith; within = λ before. before })

-- ---- single tokens

module _ (tokens : Tokens) where
  -- one token, which is not behind the last
  pub record IsOne (i k : ℕ) : Type 0 where
    pub ends : k ≡ i + 1
    pub within : k ≤ length tokens.list

  module _ (i : ℕ) where
    one : (t : Token) → slice_get tokens.list i ≡ Some t → Took tokens i (i + 1)
    one t e = let h : i < length tokens.list = slice_get_within tokens.list i t e in record { rises = omega arith; within = omega arith }

    marked : (test : Option Seen → Bool) (o : Option Token) → test None ≡ false → slice_get tokens.list i ≡ o
        → Where {A = Unit {0}} (λ x k. IsOne i k) (if test (kind_of o) then Tree tt (i + 1) else No Nothing)
    marked test (Some t) none e = one_of (λ x k. IsOne i k) (test (Some (seen t.kind))) (Tree tt (i + 1)) (No Nothing)
        (record { holds = record { ends = refl; within = (one t e).within } }) (record { holds = tt })
    marked test None none e = rw none (record { holds = tt })

    word_kind : (k : Seen) → Took tokens i (i + 1) → Holds (λ x k. Took tokens i k) (word_of (Some k) (i + 1))
    word_kind seen_kind.Identifier h = tt
    word_kind seen_kind.Integer h = tt
    word_kind seen_kind.Character h = tt
    word_kind seen_kind.Text h = tt
    word_kind (seen_kind.Word n) h = h
    word_kind (seen_kind.Punctuator n) h = tt

    word_token : (o : Option Token) → slice_get tokens.list i ≡ o → Holds (λ x k. Took tokens i k) (word_of (kind_of o) (i + 1))
    word_token (Some t) e = word_kind (seen t.kind) (one t e)
    word_token None e = tt

    punctuator_kind : (k : Seen) → Took tokens i (i + 1) → Holds (λ x k. Took tokens i k) (punctuator_of (Some k) (i + 1))
    punctuator_kind seen_kind.Identifier h = tt
    punctuator_kind seen_kind.Integer h = tt
    punctuator_kind seen_kind.Character h = tt
    punctuator_kind seen_kind.Text h = tt
    punctuator_kind (seen_kind.Word n) h = tt
    punctuator_kind (seen_kind.Punctuator n) h = h

    punctuator_token : (o : Option Token) → slice_get tokens.list i ≡ o → Holds (λ x k. Took tokens i k) (punctuator_of (kind_of o) (i + 1))
    punctuator_token (Some t) e = punctuator_kind (seen t.kind) (one t e)
    punctuator_token None e = tt

    identifier_kind : (t : Token) (k : TokenKind) → t.kind ≡ k → slice_get tokens.list i ≡ Some t → Took tokens i (i + 1)
        → Holds (λ x k. Part tokens (StandsIdentifier tokens) i x k) (identifier_of k (span tokens i (i + 1)))
    unfolding span
    identifier_kind t (token_kind.Identifier name) e g h = record { rises = h.rises; within = h.within; stands = ((refl, h.rises, h.within), refl, t, g, e) }
    identifier_kind t (token_kind.Word n) e g h = tt
    identifier_kind t (token_kind.Punctuator n) e g h = tt
    identifier_kind t (token_kind.Integer decimal unsigned longs n) e g h = tt
    identifier_kind t (token_kind.Character byte) e g h = tt
    identifier_kind t (token_kind.Text bytes) e g h = tt

    identifier_token : (o : Option Token) → slice_get tokens.list i ≡ o → Holds (λ x k. Part tokens (StandsIdentifier tokens) i x k) (of_token o (λ t. identifier_of t (span tokens i (i + 1))))
    identifier_token (Some t) e = identifier_kind t t.kind refl e (one t e)
    identifier_token None e = tt

    integer_kind : (t : TokenKind) → Took tokens i (i + 1) → Holds (λ x k. Took tokens i k) (integer_of t (i + 1))
    integer_kind (token_kind.Identifier name) h = tt
    integer_kind (token_kind.Word n) h = tt
    integer_kind (token_kind.Punctuator n) h = tt
    integer_kind (token_kind.Integer decimal unsigned longs n) h = h
    integer_kind (token_kind.Character byte) h = tt
    integer_kind (token_kind.Text bytes) h = tt

    integer_token : (o : Option Token) → slice_get tokens.list i ≡ o → Holds (λ x k. Took tokens i k) (of_token o (λ t. integer_of t (i + 1)))
    integer_token (Some t) e = integer_kind t.kind (one t e)
    integer_token None e = tt

    character_kind : (t : TokenKind) → Took tokens i (i + 1) → Holds (λ x k. Took tokens i k) (character_of t (i + 1))
    character_kind (token_kind.Identifier name) h = tt
    character_kind (token_kind.Word n) h = tt
    character_kind (token_kind.Punctuator n) h = tt
    character_kind (token_kind.Integer decimal unsigned longs n) h = tt
    character_kind (token_kind.Character byte) h = h
    character_kind (token_kind.Text bytes) h = tt

    character_token : (o : Option Token) → slice_get tokens.list i ≡ o → Holds (λ x k. Took tokens i k) (of_token o (λ t. character_of t (i + 1)))
    character_token (Some t) e = character_kind t.kind (one t e)
    character_token None e = tt

    text_kind : (t : TokenKind) → Took tokens i (i + 1) → Holds (λ x k. Took tokens i k) (text_of t (i + 1))
    text_kind (token_kind.Identifier name) h = tt
    text_kind (token_kind.Word n) h = tt
    text_kind (token_kind.Punctuator n) h = tt
    text_kind (token_kind.Integer decimal unsigned longs n) h = tt
    text_kind (token_kind.Character byte) h = tt
    text_kind (token_kind.Text bytes) h = h

    text_token : (o : Option Token) → slice_get tokens.list i ≡ o → Holds (λ x k. Took tokens i k) (of_token o (λ t. text_of t (i + 1)))
    text_token (Some t) e = text_kind t.kind (one t e)
    text_token None e = tt

  takes : (i k : ℕ) → IsOne i k → Took tokens i k
  takes i k h = let e : k ≡ i + 1 = h.ends in record { rises = omega arith; within = h.within }

  pub is_mark : (n i : ℕ) → Where (λ x k. IsOne i k) (punctuator tokens n i)
  unfolding punctuator kind
  is_mark n i = marked i (is_punctuator n) (slice_get tokens.list i) refl refl

  is_this_word : (n i : ℕ) → Where (λ x k. IsOne i k) (word tokens n i)
  unfolding word kind
  is_this_word n i = marked i (is_word n) (slice_get tokens.list i) refl refl

  pub takes_punctuator : (n : ℕ) → Takes tokens (punctuator tokens n)
  takes_punctuator n i = so (λ x k. IsOne i k) (λ x k. Took tokens i k) (punctuator tokens n i) (is_mark n i) (λ x k h. takes i k h)

  pub takes_word : (n : ℕ) → Takes tokens (word tokens n)
  takes_word n i = so (λ x k. IsOne i k) (λ x k. Took tokens i k) (word tokens n i) (is_this_word n i) (λ x k h. takes i k h)

  pub takes_any_word : Takes tokens (any_word tokens)
  unfolding any_word kind
  takes_any_word i = record { holds = word_token i (slice_get tokens.list i) refl }

  pub takes_any_punctuator : Takes tokens (any_punctuator tokens)
  unfolding any_punctuator kind
  takes_any_punctuator i = record { holds = punctuator_token i (slice_get tokens.list i) refl }

  pub takes_integer : Takes tokens (integer tokens)
  unfolding integer
  takes_integer i = record { holds = integer_token i (slice_get tokens.list i) refl }

  pub takes_character : Takes tokens (character tokens)
  unfolding character
  takes_character i = record { holds = character_token i (slice_get tokens.list i) refl }

  pub takes_text : Takes tokens (text tokens)
  unfolding text
  takes_text i = record { holds = text_token i (slice_get tokens.list i) refl }

  pub identifier_stands : TreeStands tokens (StandsIdentifier tokens) (identifier tokens)
  unfolding identifier
  identifier_stands i = record { holds = identifier_token i (slice_get tokens.list i) refl }

  -- ---- a punctuator that is seen where it stands

  pub record IsSeen (n i k : ℕ) : Type 0 where
    pub sees : sees_punctuator tokens n i ≡ true
    pub ends : k ≡ i + 1
    pub within : k ≤ length tokens.list

  seen_if : (b : Bool) (i : ℕ) → Holds {A = Unit {0}} (λ x k. b ≡ true) (if b then Tree tt (i + 1) else No Nothing)
  seen_if true i = refl
  seen_if false i = tt

  sees : (n i : ℕ) → Where (λ x k. sees_punctuator tokens n i ≡ true) (punctuator tokens n i)
  unfolding punctuator
  sees n i = record { holds = seen_if (sees_punctuator tokens n i) i }

  pub is_seen : (n i : ℕ) → Where (λ x k. IsSeen n i k) (punctuator tokens n i)
  is_seen n i = both (λ x k. IsOne i k) (λ x k. sees_punctuator tokens n i ≡ true) (λ x k. IsSeen n i k) (punctuator tokens n i) (is_mark n i) (sees n i)
      (λ x k h g. record { sees = g; ends = h.ends; within = h.within })
