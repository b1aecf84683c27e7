-- The words of a declaration, and those of a constructor, among which `explicit` may stand.
use Rattle.std.proofs.Common.{◌≡◌, ℕ, zero, suc, ◌+◌, true, false, Option, Some, None, refl, ◌∙◌}
use Rattle.cxx_tokens.specs.declared.token.Tokens.{Tokens}
use Rattle.cxx_tokens.specs.declared.keyword.TheConstants.{EXPLICIT}
use Rattle.cxx_reading.specs.declared.seen.Seen.{Seen}
use Rattle.cxx_reading.specs.declared.seen.Seen.TheVariants.{Identifier, Integer, Character, Text, Word, Punctuator}
use Rattle.cxx_reading.specs.Any.{given, word_of, any_word}
use Rattle.cxx_reading.specs.Reading.{End, Tree, No, Nothing, TooDeep, and_then, kind, is_word, left, turns}
use Rattle.cxx_reading.proofs.Starts.{is_false, is_that_word}
use Rattle.cxx_reading.proofs.Turns.{turns_none, turns_more}
use Rattle.cxx_grammar.specs.declared.specifier.DeclWords.{DeclWords}
use Rattle.cxx_grammar.specs.Declarations.{with_spec, with_constructor_word, specifier, specifiers, constructor_word, constructor_words}

same_word_of : (w : DeclWords) (k : Option Seen) (j : ℕ) → is_word EXPLICIT k ≡ false
    → and_then (word_of k j) (λ n. given (with_constructor_word w n)) ≡ and_then (word_of k j) (λ n. given (with_spec w n))
same_word_of w (Some (Word n)) j h = rw h
same_word_of w (Some (Punctuator n)) j h = refl
same_word_of w (Some Identifier) j h = refl
same_word_of w (Some Integer) j h = refl
same_word_of w (Some Character) j h = refl
same_word_of w (Some Text) j h = refl
same_word_of w None j h = refl

not_deep : {A : Type 0} (o : Option A) (j : ℕ) → given o j ≡ No TooDeep → ⊥
not_deep (Some a) j h = cc
not_deep None j h = cc

no_word_is_deep : (w : DeclWords) (k : Option Seen) (j : ℕ) → and_then (word_of k j) (λ n. given (with_spec w n)) ≡ No TooDeep → ⊥
no_word_is_deep w (Some (Word n)) j h = not_deep (with_spec w n) j h
no_word_is_deep w (Some (Punctuator n)) j h = cc
no_word_is_deep w (Some Identifier) j h = cc
no_word_is_deep w (Some Integer) j h = cc
no_word_is_deep w (Some Character) j h = cc
no_word_is_deep w (Some Text) j h = cc
no_word_is_deep w None j h = cc

module _ (tokens : Tokens) where
  same_word : (w : DeclWords) (i : ℕ) → is_word EXPLICIT (kind tokens i) ≡ false → constructor_word tokens w i ≡ specifier tokens w i
  unfolding specifier constructor_word any_word
  same_word w i h = same_word_of w (kind tokens i) (i + 1) h

  explicit_is_none : (w : DeclWords) (i : ℕ) → is_word EXPLICIT (kind tokens i) ≡ true → specifier tokens w i ≡ No Nothing
  unfolding specifier any_word
  explicit_is_none w i h = rw (is_that_word EXPLICIT (kind tokens i) h)

  never_deep : (w : DeclWords) (i : ℕ) → specifier tokens w i ≡ No TooDeep → ⊥
  unfolding specifier any_word
  never_deep w i h = no_word_is_deep w (kind tokens i) (i + 1) h

  -- Specifiers always read; where `explicit` does not stand behind them, the words of a constructor are the same.
  pub record Ends (n : ℕ) (w : DeclWords) (i : ℕ) : Type 0 where
    pub words : DeclWords
    pub after : ℕ
    pub read : turns n (specifier tokens) w i ≡ Tree words after
    pub also : is_word EXPLICIT (kind tokens after) ≡ false → turns n (constructor_word tokens) w i ≡ Tree words after

  one_more : (n : ℕ) (w : DeclWords) (i : ℕ) (e : End DeclWords) → specifier tokens w i ≡ e → ((y : DeclWords) (j : ℕ) → Ends n y j) → Ends (suc n) w i
  one_more n w i (Tree y j) h rest =
      let r : Ends n y j = rest y j in
      let plain : is_word EXPLICIT (kind tokens i) ≡ false = is_false (is_word EXPLICIT (kind tokens i)) (λ t. let none : specifier tokens w i ≡ No Nothing = explicit_is_none w i t in cc) in
      record {
        words = r.words;
        after = r.after;
        read = turns_more (specifier tokens) w i n y j h ∙ r.read;
        also = λ g. turns_more (constructor_word tokens) w i n y j (same_word w i plain ∙ h) ∙ r.also g;
      }
  one_more n w i (No Nothing) h rest = record {
    words = w;
    after = i;
    read = turns_none (specifier tokens) w i (suc n) h;
    also = λ g. turns_none (constructor_word tokens) w i (suc n) (same_word w i g ∙ h);
  }
  one_more n w i (No TooDeep) h rest = absurd (never_deep w i h)

  pub ends : (n : ℕ) (w : DeclWords) (i : ℕ) → Ends n w i
  unfolding turns
  ends zero w i = record { words = w; after = i; read = refl; also = λ g. refl }
  ends (suc n) w i = one_more n w i (specifier tokens w i) refl (λ y j. ends n y j)

  pub specifiers_read : (w : DeclWords) (i : ℕ) → specifiers tokens w i ≡ Tree (ends (left tokens i) w i).words (ends (left tokens i) w i).after
  unfolding specifiers
  specifiers_read w i = (ends (left tokens i) w i).read

  pub constructor_words_read : (w : DeclWords) (i : ℕ) → is_word EXPLICIT (kind tokens (ends (left tokens i) w i).after) ≡ false
      → constructor_words tokens w i ≡ Tree (ends (left tokens i) w i).words (ends (left tokens i) w i).after
  unfolding constructor_words
  constructor_words_read w i h = (ends (left tokens i) w i).also h
