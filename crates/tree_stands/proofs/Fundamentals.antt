-- Fundamental types take a token or more.
use Rattle.std.proofs.Common.{ℕ, arith}
use Rattle.cxx_tokens.specs.declared.token.Tokens.{Tokens}
use Rattle.cxx_tokens.specs.declared.keyword.TheConstants.{VOID, BOOL}
use Rattle.cxx_reading.specs.Reading.{◌>>◌, pure, left, word}
use Rattle.cxx_grammar.specs.declared.words.TypeWords.{TypeWords}
use Rattle.cxx_grammar.specs.Fundamentals as fundamentals
use Rattle.tree_stands.proofs.Holding.{Where, next, either, Took, Passed, Takes, passes_repeated}
use Rattle.tree_stands.proofs.Single.{where_given, takes_word, takes_any_word}

module _ (tokens : Tokens) where
  pub type_word : (t : TypeWords) → Takes tokens (fundamentals.type_word tokens t)
  unfolding fundamentals.type_word
  type_word t i = next _ _ _ _ (takes_any_word tokens i) (λ n a ha. where_given (λ k. Took tokens i k) _ a ha)

  pub more_type_words : (t : TypeWords) (i : ℕ) → Where (λ x k. Passed tokens i k) (fundamentals.more_type_words tokens t i)
  unfolding fundamentals.more_type_words
  more_type_words t i = passes_repeated tokens (fundamentals.type_word tokens) type_word (left tokens i) t i

  pub number_type : Takes tokens (fundamentals.number_type tokens)
  unfolding fundamentals.number_type
  number_type i =
      next _ _ _ _ (type_word fundamentals.no_words i) (λ t a ha.
      next _ _ _ _ (more_type_words t a) (λ all b hb.
      record { holds = record { rises = omega arith; within = hb.within ha.within } }))

  word_type : (n : ℕ) {A : Type 0} (x : A) → Takes tokens (word tokens n >> pure x)
  word_type n x i = next _ _ _ _ (takes_word tokens n i) (λ _ a ha. record { holds = ha })

  pub fund : Takes tokens (fundamentals.fund tokens)
  unfolding fundamentals.fund
  fund i = either _ _ _ (word_type VOID _ i) (either _ _ _ (word_type BOOL _ i) (number_type i))
