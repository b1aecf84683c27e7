-- What rules give where no token is left.
use Rattle.std.proofs.Common.{◌≡◌, ℕ, ◌≤◌, Bool, true, false, if◌then◌else◌, List, Option, Some, None, length, slice_get, refl, ap, ◌∙◌, arith}
use Rattle.std.proofs.lemmas.Option.{slice_get_past}
use Rattle.cxx_tokens.specs.declared.token.Tokens.{Tokens}
use Rattle.cxx_reading.specs.Extents.{Needs, Stays, StaysAt}
use Rattle.cxx_reading.specs.Any.{given, unless, any_word, any_punctuator}
use Rattle.cxx_reading.specs.Reading.{End, Tree, No, Nothing, TooDeep, Rule, and_then, longer, or_absent, or_none, or_empty, turns, present, optional, if_any, kind, left, punctuator, word, identifier, integer, character, text}

-- ---- rules that take no token there

stays_nothing : {A : Type 0} (i : ℕ) (e : End A) → e ≡ No Nothing → StaysAt i e
stays_nothing i e h = rw h tt

pub stays_needs : {A : Type 0} (tokens : Tokens) (p : Rule A) → Needs tokens p → Stays tokens p
stays_needs tokens p h = record { at = λ i none. stays_nothing i (p i) (h.at i none) }

pub stays_pure : {A : Type 0} (tokens : Tokens) (a : ℕ → A) → Stays {A = A} tokens (λ i. Tree (a i) i)
stays_pure tokens a = record { at = λ i none. refl }

given_stays : {A : Type 0} (o : Option A) (i : ℕ) → StaysAt i (given o i)
given_stays (Some a) i = refl
given_stays None i = tt

pub stays_given : {A : Type 0} (tokens : Tokens) (o : Option A) → Stays tokens (given o)
stays_given tokens o = record { at = λ i none. given_stays o i }

guarded : (b : Bool) (i : ℕ) → StaysAt {A = Unit {0}} i (if b then Tree tt i else No Nothing)
guarded true i = refl
guarded false i = tt

pub stays_guard : (tokens : Tokens) (b : ℕ → Bool) → Stays {A = Unit {0}} tokens (λ i. if b i then Tree tt i else No Nothing)
stays_guard tokens b = record { at = λ i none. guarded (b i) i }

absent : {A : Type 0} (i : ℕ) (e : End A) → StaysAt i e → StaysAt i (or_absent e i)
absent i (Tree a j) h = h
absent i (No Nothing) h = refl
absent i (No TooDeep) h = h

pub stays_present : {A : Type 0} (tokens : Tokens) (p : Rule A) → Stays tokens p → Stays tokens (present p)
unfolding present
stays_present tokens p h = record { at = λ i none. absent i (p i) (h.at i none) }

missing : {A : Type 0} (i : ℕ) (e : End A) → StaysAt i e → StaysAt i (or_none e i)
missing i (Tree a j) h = h
missing i (No Nothing) h = refl
missing i (No TooDeep) h = h

pub stays_optional : {A : Type 0} (tokens : Tokens) (p : Rule A) → Stays tokens p → Stays tokens (optional p)
unfolding optional
stays_optional tokens p h = record { at = λ i none. missing i (p i) (h.at i none) }

empty : {A : Type 0} (i : ℕ) (e : End (List A)) → StaysAt i e → StaysAt i (or_empty e i)
empty i (Tree a j) h = h
empty i (No Nothing) h = refl
empty i (No TooDeep) h = h

pub stays_if_any : {A : Type 0} (tokens : Tokens) (p : Rule (List A)) → Stays tokens p → Stays tokens (if_any p)
unfolding if_any
stays_if_any tokens p h = record { at = λ i none. empty i (p i) (h.at i none) }

-- a repetition has no turn there
no_turn : (tokens : Tokens) (i : ℕ) {A : Type 0} (n : ℕ) (p : A → Rule A) (x : A) → n ≡ 0 → StaysAt i (turns n p x i)
unfolding turns
no_turn tokens i n p x e = rw e refl

pub stays_repeated : {A : Type 0} (tokens : Tokens) (p : A → Rule A) (x : A) → Stays {A = A} tokens (λ i. turns (left tokens i) p x i)
stays_repeated tokens p x = record { at = λ i none. no_turn tokens i (left tokens i) p x none }

both_stay : {A B : Type 0} (i : ℕ) (e : End A) (f : A → Rule B) → StaysAt i e → ((a : A) → StaysAt i (f a i)) → StaysAt i (and_then e f)
both_stay i (Tree a j) f h g = rw h (g a)
both_stay i (No Nothing) f h g = tt
both_stay i (No TooDeep) f h g = h

pub stays_bind : {A B : Type 0} (tokens : Tokens) (p : Rule A) (f : ℕ → A → Rule B) → Stays tokens p → ((i : ℕ) (a : A) → Stays tokens (f i a)) → Stays {A = B} tokens (λ i. and_then (p i) (f i))
stays_bind tokens p f h g = record { at = λ i none. both_stay i (p i) (f i) (h.at i none) (λ a. (g i a).at i none) }

-- ---- rules that read nothing there

pub needs_bind : {A B : Type 0} (tokens : Tokens) (p : Rule A) (f : ℕ → A → Rule B) → Needs tokens p → Needs {A = B} tokens (λ i. and_then (p i) (f i))
needs_bind tokens p f h = record { at = λ i none. ap (λ e. and_then e (f i)) (h.at i none) }

then_nothing : {A B : Type 0} (i : ℕ) (e : End A) (f : A → Rule B) → StaysAt i e → ((a : A) → f a i ≡ No Nothing) → and_then e f ≡ No Nothing
then_nothing i (Tree a j) f h g = rw h (g a)
then_nothing i (No Nothing) f h g = refl
then_nothing i (No TooDeep) f h g = absurd h

pub needs_then : {A B : Type 0} (tokens : Tokens) (p : Rule A) (f : ℕ → A → Rule B) → Stays tokens p → ((i : ℕ) (a : A) → Needs tokens (f i a)) → Needs {A = B} tokens (λ i. and_then (p i) (f i))
needs_then tokens p f h g = record { at = λ i none. then_nothing i (p i) (f i) (h.at i none) (λ a. (g i a).at i none) }

pub needs_longer : {A : Type 0} (tokens : Tokens) (p q : Rule A) → Needs tokens p → Needs tokens q → Needs {A = A} tokens (λ i. longer (p i) (q i))
needs_longer tokens p q h g = record { at = λ i none. ap (λ e. longer e (q i)) (h.at i none) ∙ g.at i none }

unless_nothing : {A B : Type 0} (x : End A) (e : End B) → e ≡ No Nothing → unless x e ≡ No Nothing
unless_nothing (Tree a i) e h = refl
unless_nothing (No why) e h = h

pub needs_unless : {A B : Type 0} (tokens : Tokens) (p : Rule A) (q : Rule B) → Needs tokens q → Needs {A = B} tokens (λ i. unless (p i) (q i))
needs_unless tokens p q h = record { at = λ i none. unless_nothing (p i) (q i) (h.at i none) }

-- ---- single tokens

module _ (tokens : Tokens) where
  no_token : (i : ℕ) → left tokens i ≡ 0 → slice_get tokens.list i ≡ None
  unfolding left
  no_token i none = let past : length tokens.list ≤ i = omega arith in slice_get_past tokens.list i past

  pub needs_any_word : Needs tokens (any_word tokens)
  unfolding any_word kind
  needs_any_word = record { at = λ i none. rw (no_token i none) }

  pub needs_any_punctuator : Needs tokens (any_punctuator tokens)
  unfolding any_punctuator kind
  needs_any_punctuator = record { at = λ i none. rw (no_token i none) }

  pub needs_punctuator : (n : ℕ) → Needs tokens (punctuator tokens n)
  unfolding punctuator kind
  needs_punctuator n = record { at = λ i none. rw (no_token i none) }

  pub needs_word : (n : ℕ) → Needs tokens (word tokens n)
  unfolding word kind
  needs_word n = record { at = λ i none. rw (no_token i none) }

  pub needs_identifier : Needs tokens (identifier tokens)
  unfolding identifier
  needs_identifier = record { at = λ i none. rw (no_token i none) }

  pub needs_integer : Needs tokens (integer tokens)
  unfolding integer
  needs_integer = record { at = λ i none. rw (no_token i none) }

  pub needs_character : Needs tokens (character tokens)
  unfolding character
  needs_character = record { at = λ i none. rw (no_token i none) }

  pub needs_text : Needs tokens (text tokens)
  unfolding text
  needs_text = record { at = λ i none. rw (no_token i none) }

pub ruleset needing = (needs_bind, needs_then, needs_longer, needs_unless, needs_any_word, needs_any_punctuator, needs_punctuator, needs_word, needs_identifier, needs_integer, needs_character, needs_text, stays_pure, stays_given, stays_guard, stays_present, stays_optional, stays_if_any, stays_repeated, stays_needs)
