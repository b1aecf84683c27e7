-- No rule ends before the token at which it is read.
use Rattle.std.proofs.Common.{ℕ, zero, suc, ◌+◌, ◌≤◌, Bool, true, false, List, Option, Some, None, arith, nat_lt, if◌then◌else◌, slice_get}
use Rattle.cxx_base.specs.declared.place.Span.{Span}
use Rattle.cxx_tokens.specs.declared.token.Token.{Token}
use Rattle.cxx_tokens.specs.declared.token.TokenKind.{TokenKind}
use Rattle.cxx_tokens.specs.declared.token.TokenKind.TheVariants as token_kind
use Rattle.cxx_tokens.specs.declared.token.Tokens.{Tokens}
use Rattle.cxx_reading.specs.declared.seen.Seen.{Seen}
use Rattle.cxx_reading.specs.declared.seen.Seen.TheVariants as seen_kind
use Rattle.cxx_reading.specs.Any.{given, unless, word_of, punctuator_of, any_word, any_punctuator}
use Rattle.cxx_reading.specs.Extents.{EndsFrom, Forward}
use Rattle.cxx_reading.specs.Reading.{End, Tree, No, Why, Nothing, TooDeep, Rule, and_then, longer, or_absent, or_none, or_empty, go_on, turns, present, optional, if_any, kind, is_punctuator, is_word, identifier_of, integer_of, character_of, text_of, of_token, span, punctuator, word, identifier, integer, character, text}

pub later : {A : Type 0} (i j : ℕ) (e : End A) → i ≤ j → EndsFrom j e → EndsFrom i e
later i j (Tree a k) h g = omega arith
later i j (No why) h g = tt

-- ---- parts in order

pub bound : {A B : Type 0} (i : ℕ) (e : End A) (f : A → Rule B) → EndsFrom i e → ((a : A) → Forward (f a)) → EndsFrom i (and_then e f)
bound i (Tree a j) f h g = later i j (f a j) h ((g a).at j)
bound i (No why) f h g = tt

pub forward_bind : {A B : Type 0} (p : Rule A) (f : ℕ → A → Rule B) → Forward p → ((i : ℕ) (a : A) → Forward (f i a)) → Forward {A = B} (λ i. and_then (p i) (f i))
forward_bind p f h g = record { at = λ i. bound i (p i) (f i) (h.at i) (g i) }

pub forward_pure : {A : Type 0} (a : ℕ → A) → Forward {A = A} (λ i. Tree (a i) i)
forward_pure a = record { at = λ i. omega arith }

pub forward_none : {A : Type 0} (why : ℕ → Why) → Forward {A = A} (λ i. No (why i))
forward_none why = record { at = λ i. tt }

given_ends : {A : Type 0} (o : Option A) (i : ℕ) → EndsFrom i (given o i)
given_ends (Some a) i = omega arith
given_ends None i = tt

pub forward_given : {A : Type 0} (o : Option A) → Forward (given o)
forward_given o = record { at = λ i. given_ends o i }

guarded : (b : Bool) (i : ℕ) → EndsFrom {A = Unit {0}} i (if b then Tree tt i else No Nothing)
guarded true i = omega arith
guarded false i = tt

pub forward_guard : (b : ℕ → Bool) → Forward {A = Unit {0}} (λ i. if b i then Tree tt i else No Nothing)
forward_guard b = record { at = λ i. guarded (b i) i }

-- ---- choices

either : {A : Type 0} (i : ℕ) (b : Bool) (x y : End A) → EndsFrom i x → EndsFrom i y → EndsFrom i (if b then x else y)
either i true x y h g = h
either i false x y h g = g

pub longer_ends : {A : Type 0} (i : ℕ) (x y : End A) → EndsFrom i x → EndsFrom i y → EndsFrom i (longer x y)
longer_ends i (No Nothing) y h g = g
longer_ends i (No TooDeep) y h g = tt
longer_ends i (Tree a j) (No Nothing) h g = h
longer_ends i (Tree a j) (No TooDeep) h g = tt
longer_ends i (Tree a j) (Tree b k) h g = either i (nat_lt j k) (Tree b k) (Tree a j) g h

pub forward_longer : {A : Type 0} (p q : Rule A) → Forward p → Forward q → Forward {A = A} (λ i. longer (p i) (q i))
forward_longer p q h g = record { at = λ i. longer_ends i (p i) (q i) (h.at i) (g.at i) }

pub unless_ends : {A B : Type 0} (i : ℕ) (x : End A) (e : End B) → EndsFrom i e → EndsFrom i (unless x e)
unless_ends i (Tree a j) e h = tt
unless_ends i (No why) e h = h

pub forward_unless : {A B : Type 0} (p : Rule A) (q : Rule B) → Forward q → Forward {A = B} (λ i. unless (p i) (q i))
forward_unless p q h = record { at = λ i. unless_ends i (p i) (q i) (h.at i) }

-- ---- parts that may be missing

absent : {A : Type 0} (i : ℕ) (e : End A) → EndsFrom i e → EndsFrom i (or_absent e i)
absent i (Tree a j) h = h
absent i (No Nothing) h = omega arith
absent i (No TooDeep) h = tt

pub forward_present : {A : Type 0} (p : Rule A) → Forward p → Forward (present p)
unfolding present
forward_present p h = record { at = λ i. absent i (p i) (h.at i) }

none : {A : Type 0} (i : ℕ) (e : End A) → EndsFrom i e → EndsFrom i (or_none e i)
none i (Tree a j) h = h
none i (No Nothing) h = omega arith
none i (No TooDeep) h = tt

pub forward_optional : {A : Type 0} (p : Rule A) → Forward p → Forward (optional p)
unfolding optional
forward_optional p h = record { at = λ i. none i (p i) (h.at i) }

empty : {A : Type 0} (i : ℕ) (e : End (List A)) → EndsFrom i e → EndsFrom i (or_empty e i)
empty i (Tree a j) h = h
empty i (No Nothing) h = omega arith
empty i (No TooDeep) h = tt

pub forward_if_any : {A : Type 0} (p : Rule (List A)) → Forward p → Forward (if_any p)
unfolding if_any
forward_if_any p h = record { at = λ i. empty i (p i) (h.at i) }

-- ---- repetitions

went : {A : Type 0} (again : A → Rule A) (x : A) (i : ℕ) (e : End A) → EndsFrom i e → ((y : A) → Forward (again y)) → EndsFrom i (go_on again x i e)
went again x i (Tree y j) h g = later i j (again y j) h ((g y).at j)
went again x i (No Nothing) h g = omega arith
went again x i (No TooDeep) h g = tt

pub forward_turns : {A : Type 0} (n : ℕ) (p : A → Rule A) → ((y : A) → Forward (p y)) → (x : A) → Forward (turns n p x)
unfolding turns
forward_turns zero p h x = record { at = λ i. omega arith }
forward_turns (suc n) p h x = record { at = λ i. went (turns n p) x i (p x i) ((h x).at i) (λ y. forward_turns n p h y) }

pub forward_repeated : {A : Type 0} (n : ℕ → ℕ) (p : A → Rule A) (x : A) → ((y : A) → Forward (p y)) → Forward {A = A} (λ i. turns (n i) p x i)
forward_repeated n p x h = record { at = λ i. (forward_turns (n i) p h x).at i }

-- ---- single tokens

one : (b : Bool) (i : ℕ) → EndsFrom {A = Unit {0}} i (if b then Tree tt (i + 1) else No Nothing)
one true i = omega arith
one false i = tt

identifier_kind : (t : TokenKind) (i : ℕ) (s : Span) → i ≤ s.end → EndsFrom i (identifier_of t s)
identifier_kind (token_kind.Identifier name) i s h = h
identifier_kind (token_kind.Word n) i s h = tt
identifier_kind (token_kind.Punctuator n) i s h = tt
identifier_kind (token_kind.Integer decimal unsigned longs n) i s h = tt
identifier_kind (token_kind.Character byte) i s h = tt
identifier_kind (token_kind.Text bytes) i s h = tt

identifier_token : (t : Option Token) (i : ℕ) (s : Span) → i ≤ s.end → EndsFrom i (of_token t (λ k. identifier_of k s))
identifier_token (Some t) i s h = identifier_kind t.kind i s h
identifier_token None i s h = tt

integer_kind : (t : TokenKind) (i : ℕ) → EndsFrom i (integer_of t (i + 1))
integer_kind (token_kind.Identifier name) i = tt
integer_kind (token_kind.Word n) i = tt
integer_kind (token_kind.Punctuator n) i = tt
integer_kind (token_kind.Integer decimal unsigned longs n) i = omega arith
integer_kind (token_kind.Character byte) i = tt
integer_kind (token_kind.Text bytes) i = tt

integer_token : (t : Option Token) (i : ℕ) → EndsFrom i (of_token t (λ k. integer_of k (i + 1)))
integer_token (Some t) i = integer_kind t.kind i
integer_token None i = tt

character_kind : (t : TokenKind) (i : ℕ) → EndsFrom i (character_of t (i + 1))
character_kind (token_kind.Identifier name) i = tt
character_kind (token_kind.Word n) i = tt
character_kind (token_kind.Punctuator n) i = tt
character_kind (token_kind.Integer decimal unsigned longs n) i = tt
character_kind (token_kind.Character byte) i = omega arith
character_kind (token_kind.Text bytes) i = tt

character_token : (t : Option Token) (i : ℕ) → EndsFrom i (of_token t (λ k. character_of k (i + 1)))
character_token (Some t) i = character_kind t.kind i
character_token None i = tt

text_kind : (t : TokenKind) (i : ℕ) → EndsFrom i (text_of t (i + 1))
text_kind (token_kind.Identifier name) i = tt
text_kind (token_kind.Word n) i = tt
text_kind (token_kind.Punctuator n) i = tt
text_kind (token_kind.Integer decimal unsigned longs n) i = tt
text_kind (token_kind.Character byte) i = tt
text_kind (token_kind.Text bytes) i = omega arith

text_token : (t : Option Token) (i : ℕ) → EndsFrom i (of_token t (λ k. text_of k (i + 1)))
text_token (Some t) i = text_kind t.kind i
text_token None i = tt

word_ends : (k : Option Seen) (i : ℕ) → EndsFrom i (word_of k (i + 1))
word_ends (Some seen_kind.Identifier) i = tt
word_ends (Some seen_kind.Integer) i = tt
word_ends (Some seen_kind.Character) i = tt
word_ends (Some seen_kind.Text) i = tt
word_ends (Some (seen_kind.Word n)) i = omega arith
word_ends (Some (seen_kind.Punctuator n)) i = tt
word_ends None i = tt

punctuator_ends : (k : Option Seen) (i : ℕ) → EndsFrom i (punctuator_of k (i + 1))
punctuator_ends (Some seen_kind.Identifier) i = tt
punctuator_ends (Some seen_kind.Integer) i = tt
punctuator_ends (Some seen_kind.Character) i = tt
punctuator_ends (Some seen_kind.Text) i = tt
punctuator_ends (Some (seen_kind.Word n)) i = tt
punctuator_ends (Some (seen_kind.Punctuator n)) i = omega arith
punctuator_ends None i = tt

module _ (tokens : Tokens) where
  pub forward_any_word : Forward (any_word tokens)
  unfolding any_word
  forward_any_word = record { at = λ i. word_ends (kind tokens i) i }

  pub forward_any_punctuator : Forward (any_punctuator tokens)
  unfolding any_punctuator
  forward_any_punctuator = record { at = λ i. punctuator_ends (kind tokens i) i }

  pub forward_punctuator : (n : ℕ) → Forward (punctuator tokens n)
  unfolding punctuator
  forward_punctuator n = record { at = λ i. one (is_punctuator n (kind tokens i)) i }

  pub forward_word : (n : ℕ) → Forward (word tokens n)
  unfolding word
  forward_word n = record { at = λ i. one (is_word n (kind tokens i)) i }

  pub forward_identifier : Forward (identifier tokens)
  unfolding identifier span
  forward_identifier = record { at = λ i. identifier_token (slice_get tokens.list i) i (span tokens i (i + 1)) (omega arith) }

  pub forward_integer : Forward (integer tokens)
  unfolding integer
  forward_integer = record { at = λ i. integer_token (slice_get tokens.list i) i }

  pub forward_character : Forward (character tokens)
  unfolding character
  forward_character = record { at = λ i. character_token (slice_get tokens.list i) i }

  pub forward_text : Forward (text tokens)
  unfolding text
  forward_text = record { at = λ i. text_token (slice_get tokens.list i) i }

pub ruleset steps = (forward_bind, forward_pure, forward_none, forward_given, forward_guard, forward_longer, forward_unless, forward_present, forward_optional, forward_if_any, forward_repeated, forward_any_word, forward_any_punctuator, forward_punctuator, forward_word, forward_identifier, forward_integer, forward_character, forward_text)
