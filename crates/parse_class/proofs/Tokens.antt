-- The key of a class is one token.
use Rattle.std.proofs.Common.{◌≡◌, ℕ, ◌+◌, Option, Some, None, refl, ◌⊎◌, inl, inr}
use Rattle.cxx_tree.specs.declared.decl.ClassKey.{ClassKey}
use Rattle.cxx_tokens.specs.declared.token.Tokens.{Tokens}
use Rattle.cxx_reading.specs.declared.seen.Seen.{Seen}
use Rattle.cxx_reading.specs.declared.seen.Seen.TheVariants.{Identifier, Integer, Character, Text, Word, Punctuator}
use Rattle.cxx_reading.specs.Any.{given, word_of, any_word}
use Rattle.cxx_reading.specs.Reading.{Tree, No, Nothing, and_then, kind}
use Rattle.cxx_grammar.specs.Declarations.{key_of_word, key}

of_table : (o : Option ClassKey) (j : ℕ) → (given o j ≡ No Nothing) ⊎ ((k : ClassKey) × (given o j ≡ Tree k j))
of_table (Some k) j = inr (k, refl)
of_table None j = inl refl

of_seen : (k : Option Seen) (j : ℕ) → (and_then (word_of k j) (λ n. given (key_of_word n)) ≡ No Nothing) ⊎ ((x : ClassKey) × (and_then (word_of k j) (λ n. given (key_of_word n)) ≡ Tree x j))
of_seen (Some (Word n)) j = of_table (key_of_word n) j
of_seen (Some (Punctuator n)) j = inl refl
of_seen (Some Identifier) j = inl refl
of_seen (Some Integer) j = inl refl
of_seen (Some Character) j = inl refl
of_seen (Some Text) j = inl refl
of_seen None j = inl refl

pub key_or_none : (tokens : Tokens) (i : ℕ) → (key tokens i ≡ No Nothing) ⊎ ((k : ClassKey) × (key tokens i ≡ Tree k (i + 1)))
unfolding key any_word
key_or_none tokens i = of_seen (kind tokens i) (i + 1)
