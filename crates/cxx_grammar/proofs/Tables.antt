-- How far rules read that ask a table, or that another rule turns away.
use Rattle.std.proofs.Common.{ℕ, ◌+◌, Bool, true, false, if◌then◌else◌, Option, Some, None, arith}
use Rattle.cxx_tokens.specs.declared.token.Tokens.{Tokens}
use Rattle.cxx_reading.specs.declared.seen.Seen.{Seen}
use Rattle.cxx_reading.specs.declared.seen.Seen.TheVariants.{Identifier, Integer, Character, Text, Word, Punctuator}
use Rattle.cxx_reading.specs.Any.{given, unless, word_of, punctuator_of, any_word, any_punctuator}
use Rattle.cxx_reading.specs.Extents.{EndsFrom, Forward, Rises}
use Rattle.cxx_reading.specs.Reading.{End, Tree, No, Why, Rule, kind}
use Rattle.cxx_reading.proofs.Rises.{forward_rises}

pub forward_no : {A : Type 0} (why : Why) → Forward {A = A} (λ i. No why)
forward_no why = record { at = λ i. tt }

given_ends : {A : Type 0} (o : Option A) (i : ℕ) → EndsFrom i (given o i)
given_ends (Some a) i = omega arith
given_ends None i = tt

pub forward_given : {A : Type 0} (o : Option A) → Forward (given o)
forward_given o = record { at = λ i. given_ends o i }

unless_ends : {A B : Type 0} (i : ℕ) (e : End A) (f : End B) → EndsFrom i f → EndsFrom i (unless e f)
unless_ends i (Tree a j) f h = tt
unless_ends i (No why) f h = h

pub forward_unless : {A B : Type 0} (p : Rule A) (q : Rule B) → Forward q → Forward {A = B} (λ i. unless (p i) (q i))
forward_unless p q h = record { at = λ i. unless_ends i (p i) (q i) (h.at i) }

pub rises_unless : {A B : Type 0} (p : Rule A) (q : Rule B) → Rises q → Rises {A = B} (λ i. unless (p i) (q i))
rises_unless p q h = record { at = λ i. unless_ends (i + 1) (p i) (q i) (h.at i) }

either : {A : Type 0} (i : ℕ) (b : Bool) (x y : End A) → EndsFrom i x → EndsFrom i y → EndsFrom i (if b then x else y)
either i true x y h g = h
either i false x y h g = g

pub forward_if : {A : Type 0} (b : ℕ → Bool) (p q : Rule A) → Forward p → Forward q → Forward {A = A} (λ i. if b i then p i else q i)
forward_if b p q h g = record { at = λ i. either i (b i) (p i) (q i) (h.at i) (g.at i) }

word_ends : (k : Option Seen) (after : ℕ) → EndsFrom after (word_of k after)
word_ends (Some (Word n)) after = omega arith
word_ends (Some (Punctuator n)) after = tt
word_ends (Some Identifier) after = tt
word_ends (Some Integer) after = tt
word_ends (Some Character) after = tt
word_ends (Some Text) after = tt
word_ends None after = tt

punctuator_ends : (k : Option Seen) (after : ℕ) → EndsFrom after (punctuator_of k after)
punctuator_ends (Some (Punctuator n)) after = omega arith
punctuator_ends (Some (Word n)) after = tt
punctuator_ends (Some Identifier) after = tt
punctuator_ends (Some Integer) after = tt
punctuator_ends (Some Character) after = tt
punctuator_ends (Some Text) after = tt
punctuator_ends None after = tt

module _ (tokens : Tokens) where
  pub rises_any_word : Rises (any_word tokens)
  unfolding any_word
  rises_any_word = record { at = λ i. word_ends (kind tokens i) (i + 1) }

  pub rises_any_punctuator : Rises (any_punctuator tokens)
  unfolding any_punctuator
  rises_any_punctuator = record { at = λ i. punctuator_ends (kind tokens i) (i + 1) }

  pub forward_any_word : Forward (any_word tokens)
  forward_any_word = forward_rises _ rises_any_word

  pub forward_any_punctuator : Forward (any_punctuator tokens)
  forward_any_punctuator = forward_rises _ rises_any_punctuator

pub ruleset tables = (forward_no, forward_given, forward_unless, forward_if, forward_any_word, forward_any_punctuator)
