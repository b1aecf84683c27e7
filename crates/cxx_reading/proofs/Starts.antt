-- What rules give where their first token does not stand, and where it does.
use Rattle.std.proofs.Common.{◌≡◌, ℕ, ◌+◌, Bool, true, false, ◌||◌, List, [], Option, Some, None, refl, ap, slice_get}
use Rattle.std.proofs.lemmas.Bool.{eqb-true}
use Rattle.cxx_base.specs.declared.place.Span.{Span}
use Rattle.cxx_tokens.specs.declared.token.Token.{Token}
use Rattle.cxx_tokens.specs.declared.token.TokenKind.{TokenKind}
use Rattle.cxx_tokens.specs.declared.token.TokenKind.TheVariants as token_kind
use Rattle.cxx_tokens.specs.declared.token.Tokens.{Tokens}
use Rattle.cxx_reading.specs.declared.seen.Seen.{Seen}
use Rattle.cxx_reading.specs.declared.seen.Seen.TheVariants.{Identifier as SeenIdentifier, Integer, Character, Text, Word, Punctuator}
use Rattle.cxx_reading.specs.Any.{given, unless, word_of, punctuator_of, any_word, any_punctuator}
use Rattle.cxx_reading.specs.Reading.{End, Tree, No, Why, Nothing, TooDeep, Rule, and_then, guard, longer, present, optional, if_any, seen, kind_of, is_punctuator, is_word, is_identifier, identifier_of, integer_of, character_of, text_of, of_token, kind, span, punctuator, word, identifier, integer, character, text}

-- a test of the token there
abbrev pub Kinds : Type 0
Kinds = Option Seen → Bool

abbrev pub is_integer : Kinds
is_integer (Some Integer) = true
is_integer _ = false

abbrev pub is_character : Kinds
is_character (Some Character) = true
is_character _ = false

abbrev pub is_text : Kinds
is_text (Some Text) = true
is_text _ = false

-- ---- tests

pub or_left : (a b : Bool) → (a || b) ≡ false → a ≡ false
or_left true b h = h
or_left false b h = refl

pub or_right : (a b : Bool) → (a || b) ≡ false → b ≡ false
or_right true true h = h
or_right true false h = refl
or_right false b h = h

pub is_false : (b : Bool) → (b ≡ true → ⊥) → b ≡ false
is_false true h = absurd (h refl)
is_false false h = refl

-- a test that holds tells the token
pub is_that_punctuator : (n : ℕ) (k : Option Seen) → is_punctuator n k ≡ true → k ≡ Some (Punctuator n)
is_that_punctuator n (Some (Punctuator m)) h = ap (λ (x : ℕ). Some (Punctuator x)) (eqb-true m n h)
is_that_punctuator n (Some (Word m)) h = cc
is_that_punctuator n (Some SeenIdentifier) h = cc
is_that_punctuator n (Some Integer) h = cc
is_that_punctuator n (Some Character) h = cc
is_that_punctuator n (Some Text) h = cc
is_that_punctuator n None h = cc

pub is_that_word : (n : ℕ) (k : Option Seen) → is_word n k ≡ true → k ≡ Some (Word n)
is_that_word n (Some (Word m)) h = ap (λ (x : ℕ). Some (Word x)) (eqb-true m n h)
is_that_word n (Some (Punctuator m)) h = cc
is_that_word n (Some SeenIdentifier) h = cc
is_that_word n (Some Integer) h = cc
is_that_word n (Some Character) h = cc
is_that_word n (Some Text) h = cc
is_that_word n None h = cc

-- ---- choices and parts of which one is known

pub longer_nothing : {A : Type 0} (e : End A) → longer e (No Nothing) ≡ e
longer_nothing (Tree a i) = refl
longer_nothing (No Nothing) = refl
longer_nothing (No TooDeep) = refl

pub nothing_longer : {A : Type 0} (e : End A) → longer (No Nothing) e ≡ e
nothing_longer e = refl

pub longer_deep : {A : Type 0} (e : End A) → longer e (No TooDeep) ≡ No TooDeep
longer_deep (Tree a i) = refl
longer_deep (No Nothing) = refl
longer_deep (No TooDeep) = refl

pub deep_longer : {A : Type 0} (e : End A) → longer (No TooDeep) e ≡ No TooDeep
deep_longer e = refl

pub no_part : {A B : Type 0} (why : Why) (f : A → Rule B) → and_then (No why) f ≡ No why
no_part why f = refl

pub given_none : {A : Type 0} (o : Option A) (i : ℕ) → o ≡ None → given o i ≡ No Nothing
given_none o i h = rw h

pub given_some : {A : Type 0} (o : Option A) (a : A) (i : ℕ) → o ≡ Some a → given o i ≡ Tree a i
given_some o a i h = rw h

pub no_guard : (b : Bool) (i : ℕ) → b ≡ false → guard b i ≡ No Nothing
no_guard b i h = rw h

pub guard_holds : (b : Bool) (i : ℕ) → b ≡ true → guard b i ≡ Tree tt i
guard_holds b i h = rw h

module _ {A : Type 0} (p : Rule A) (i : ℕ) where
  pub present_none : p i ≡ No Nothing → present p i ≡ Tree false i
  unfolding present
  present_none h = rw h

  pub optional_none : p i ≡ No Nothing → optional p i ≡ Tree None i
  unfolding optional
  optional_none h = rw h

pub if_any_none : {A : Type 0} (p : Rule (List A)) (i : ℕ) → p i ≡ No Nothing → if_any p i ≡ Tree [] i
unfolding if_any
if_any_none p i h = rw h

-- ---- single tokens

no_identifier_kind : (t : TokenKind) (s : Span) → is_identifier (Some (seen t)) ≡ false → identifier_of t s ≡ No Nothing
no_identifier_kind (token_kind.Identifier name) s h = cc
no_identifier_kind (token_kind.Word n) s h = refl
no_identifier_kind (token_kind.Punctuator n) s h = refl
no_identifier_kind (token_kind.Integer decimal unsigned longs n) s h = refl
no_identifier_kind (token_kind.Character byte) s h = refl
no_identifier_kind (token_kind.Text bytes) s h = refl

no_identifier_token : (t : Option Token) (s : Span) → is_identifier (kind_of t) ≡ false → of_token t (λ k. identifier_of k s) ≡ No Nothing
no_identifier_token (Some t) s h = no_identifier_kind t.kind s h
no_identifier_token None s h = refl

no_integer_kind : (t : TokenKind) (after : ℕ) → is_integer (Some (seen t)) ≡ false → integer_of t after ≡ No Nothing
no_integer_kind (token_kind.Identifier name) after h = refl
no_integer_kind (token_kind.Word n) after h = refl
no_integer_kind (token_kind.Punctuator n) after h = refl
no_integer_kind (token_kind.Integer decimal unsigned longs n) after h = cc
no_integer_kind (token_kind.Character byte) after h = refl
no_integer_kind (token_kind.Text bytes) after h = refl

no_integer_token : (t : Option Token) (after : ℕ) → is_integer (kind_of t) ≡ false → of_token t (λ k. integer_of k after) ≡ No Nothing
no_integer_token (Some t) after h = no_integer_kind t.kind after h
no_integer_token None after h = refl

no_character_kind : (t : TokenKind) (after : ℕ) → is_character (Some (seen t)) ≡ false → character_of t after ≡ No Nothing
no_character_kind (token_kind.Identifier name) after h = refl
no_character_kind (token_kind.Word n) after h = refl
no_character_kind (token_kind.Punctuator n) after h = refl
no_character_kind (token_kind.Integer decimal unsigned longs n) after h = refl
no_character_kind (token_kind.Character byte) after h = cc
no_character_kind (token_kind.Text bytes) after h = refl

no_character_token : (t : Option Token) (after : ℕ) → is_character (kind_of t) ≡ false → of_token t (λ k. character_of k after) ≡ No Nothing
no_character_token (Some t) after h = no_character_kind t.kind after h
no_character_token None after h = refl

no_text_kind : (t : TokenKind) (after : ℕ) → is_text (Some (seen t)) ≡ false → text_of t after ≡ No Nothing
no_text_kind (token_kind.Identifier name) after h = refl
no_text_kind (token_kind.Word n) after h = refl
no_text_kind (token_kind.Punctuator n) after h = refl
no_text_kind (token_kind.Integer decimal unsigned longs n) after h = refl
no_text_kind (token_kind.Character byte) after h = refl
no_text_kind (token_kind.Text bytes) after h = cc

no_text_token : (t : Option Token) (after : ℕ) → is_text (kind_of t) ≡ false → of_token t (λ k. text_of k after) ≡ No Nothing
no_text_token (Some t) after h = no_text_kind t.kind after h
no_text_token None after h = refl

-- any word, and any punctuator
abbrev pub is_any_word : Kinds
is_any_word (Some (Word n)) = true
is_any_word _ = false

abbrev pub is_any_punctuator : Kinds
is_any_punctuator (Some (Punctuator n)) = true
is_any_punctuator _ = false

no_word_of : (k : Option Seen) (after : ℕ) → is_any_word k ≡ false → word_of k after ≡ No Nothing
no_word_of (Some SeenIdentifier) after h = refl
no_word_of (Some Integer) after h = refl
no_word_of (Some Character) after h = refl
no_word_of (Some Text) after h = refl
no_word_of (Some (Word n)) after h = cc
no_word_of (Some (Punctuator n)) after h = refl
no_word_of None after h = refl

no_punctuator_of : (k : Option Seen) (after : ℕ) → is_any_punctuator k ≡ false → punctuator_of k after ≡ No Nothing
no_punctuator_of (Some SeenIdentifier) after h = refl
no_punctuator_of (Some Integer) after h = refl
no_punctuator_of (Some Character) after h = refl
no_punctuator_of (Some Text) after h = refl
no_punctuator_of (Some (Word n)) after h = refl
no_punctuator_of (Some (Punctuator n)) after h = cc
no_punctuator_of None after h = refl

pub unless_there : {A B : Type 0} (x : End A) (a : A) (i : ℕ) (e : End B) → x ≡ Tree a i → unless x e ≡ No Nothing
unless_there x a i e h = rw h

pub unless_none : {A B : Type 0} (x : End A) (why : Why) (e : End B) → x ≡ No why → unless x e ≡ e
unless_none x why e h = rw h

module _ (tokens : Tokens) (i : ℕ) where
  pub no_word : (n : ℕ) → is_word n (kind tokens i) ≡ false → word tokens n i ≡ No Nothing
  unfolding word
  no_word n h = rw h

  pub word_there : (n : ℕ) → is_word n (kind tokens i) ≡ true → word tokens n i ≡ Tree tt (i + 1)
  unfolding word
  word_there n h = rw h

  pub no_punctuator : (n : ℕ) → is_punctuator n (kind tokens i) ≡ false → punctuator tokens n i ≡ No Nothing
  unfolding punctuator
  no_punctuator n h = rw h

  pub punctuator_there : (n : ℕ) → is_punctuator n (kind tokens i) ≡ true → punctuator tokens n i ≡ Tree tt (i + 1)
  unfolding punctuator
  punctuator_there n h = rw h

  pub no_identifier : is_identifier (kind tokens i) ≡ false → identifier tokens i ≡ No Nothing
  unfolding kind identifier
  no_identifier h = no_identifier_token (slice_get tokens.list i) (span tokens i (i + 1)) h

  pub no_integer : is_integer (kind tokens i) ≡ false → integer tokens i ≡ No Nothing
  unfolding kind integer
  no_integer h = no_integer_token (slice_get tokens.list i) (i + 1) h

  pub no_character : is_character (kind tokens i) ≡ false → character tokens i ≡ No Nothing
  unfolding kind character
  no_character h = no_character_token (slice_get tokens.list i) (i + 1) h

  pub no_text : is_text (kind tokens i) ≡ false → text tokens i ≡ No Nothing
  unfolding kind text
  no_text h = no_text_token (slice_get tokens.list i) (i + 1) h

  pub no_any_word : is_any_word (kind tokens i) ≡ false → any_word tokens i ≡ No Nothing
  unfolding any_word
  no_any_word h = no_word_of (kind tokens i) (i + 1) h

  pub any_word_there : (n : ℕ) → kind tokens i ≡ Some (Word n) → any_word tokens i ≡ Tree n (i + 1)
  unfolding any_word
  any_word_there n e = rw e

  pub no_any_punctuator : is_any_punctuator (kind tokens i) ≡ false → any_punctuator tokens i ≡ No Nothing
  unfolding any_punctuator
  no_any_punctuator h = no_punctuator_of (kind tokens i) (i + 1) h

  pub any_punctuator_there : (n : ℕ) → kind tokens i ≡ Some (Punctuator n) → any_punctuator tokens i ≡ Tree n (i + 1)
  unfolding any_punctuator
  any_punctuator_there n e = rw e

  -- the same, where the token is told
  module _ (k : Option Seen) (e : kind tokens i ≡ k) where
    pub no_word_at : (n : ℕ) → is_word n k ≡ false → word tokens n i ≡ No Nothing
    no_word_at n h = let f : is_word n (kind tokens i) ≡ false = rw e h in no_word n f

    pub no_punctuator_at : (n : ℕ) → is_punctuator n k ≡ false → punctuator tokens n i ≡ No Nothing
    no_punctuator_at n h = let f : is_punctuator n (kind tokens i) ≡ false = rw e h in no_punctuator n f

    pub no_identifier_at : is_identifier k ≡ false → identifier tokens i ≡ No Nothing
    no_identifier_at h = let f : is_identifier (kind tokens i) ≡ false = rw e h in no_identifier f

    pub no_integer_at : is_integer k ≡ false → integer tokens i ≡ No Nothing
    no_integer_at h = let f : is_integer (kind tokens i) ≡ false = rw e h in no_integer f

    pub no_character_at : is_character k ≡ false → character tokens i ≡ No Nothing
    no_character_at h = let f : is_character (kind tokens i) ≡ false = rw e h in no_character f

    pub no_text_at : is_text k ≡ false → text tokens i ≡ No Nothing
    no_text_at h = let f : is_text (kind tokens i) ≡ false = rw e h in no_text f

    pub no_any_word_at : is_any_word k ≡ false → any_word tokens i ≡ No Nothing
    no_any_word_at h = let f : is_any_word (kind tokens i) ≡ false = rw e h in no_any_word f

    pub no_any_punctuator_at : is_any_punctuator k ≡ false → any_punctuator tokens i ≡ No Nothing
    no_any_punctuator_at h = let f : is_any_punctuator (kind tokens i) ≡ false = rw e h in no_any_punctuator f

pub ruleset nothing_begins = (longer_nothing, nothing_longer, longer_deep, deep_longer, no_part, present_none, optional_none, if_any_none)
