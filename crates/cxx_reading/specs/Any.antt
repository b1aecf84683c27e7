-- Rules that take a word or punctuator of any number and then ask a table what it stands for.
use Rattle.std.specs.Prelude.{ℕ, ◌+◌, Option, Some, None}
use Rattle.cxx_tokens.specs.declared.token.Tokens.{Tokens}
use Rattle.cxx_reading.specs.declared.seen.Seen.{Seen}
use Rattle.cxx_reading.specs.declared.seen.Seen.TheVariants as seen_kind
use Rattle.cxx_reading.specs.Reading.{End, Tree, No, Nothing, Rule, kind}

-- what a table gives, which need not have an entry
abbrev pub given : {A : Type 0} → Option A → Rule A
given (Some a) = λ i. Tree a i
given None = λ i. No Nothing

-- a rule where another one does not read
abbrev pub unless : {A B : Type 0} → End A → End B → End B
unless (Tree a i) e = No Nothing
unless (No why) e = e

-- the number of a word
abbrev pub word_of : Option Seen → ℕ → End ℕ
word_of (Some (seen_kind.Word n)) after = Tree n after
word_of _ after = No Nothing

-- the number of a punctuator
abbrev pub punctuator_of : Option Seen → ℕ → End ℕ
punctuator_of (Some (seen_kind.Punctuator n)) after = Tree n after
punctuator_of _ after = No Nothing

module _ (tokens : Tokens) where
  -- a word, by its number
  unfoldable pub any_word : Rule ℕ
  any_word = λ i. word_of (kind tokens i) (i + 1)

  -- a punctuator, by its number
  unfoldable pub any_punctuator : Rule ℕ
  any_punctuator = λ i. punctuator_of (kind tokens i) (i + 1)
