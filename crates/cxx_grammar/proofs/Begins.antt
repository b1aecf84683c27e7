-- What names, types and lists give where their first token does not stand.
use Rattle.std.proofs.Common.{◌≡◌, ℕ, ◌+◌, false, ◌||◌, Option, Some, None, refl}
use Rattle.std.specs.Option.{is_some}
use Rattle.cxx_tokens.specs.declared.token.Tokens.{Tokens}
use Rattle.cxx_tokens.specs.declared.mark.TheConstants.{LEFT_PAREN, LEFT_BRACE, LEFT_SPLICE, SCOPE, DOT, STAR}
use Rattle.cxx_tokens.specs.declared.keyword.TheConstants.{VOID, BOOL, CONST, TYPENAME}
use Rattle.cxx_reading.specs.declared.seen.Seen.{Seen}
use Rattle.cxx_reading.specs.declared.seen.Seen.TheVariants.{Identifier, Integer, Character, Text, Word, Punctuator}
use Rattle.cxx_reading.specs.Any.{given, word_of, any_word}
use Rattle.cxx_reading.specs.Reading.{No, Nothing, and_then, present, kind, is_word, is_punctuator, is_identifier}
use Rattle.cxx_reading.proofs.Starts.{Kinds, or_left, or_right, no_word_at, no_punctuator_at, no_identifier_at}
use Rattle.cxx_base.specs.declared.library.TheConstants.{STD}
use Rattle.cxx_grammar.specs.declared.words.TypeWords.{TypeWords}
use Rattle.cxx_grammar.specs.Names.{named, vector_head, any_name, name}
use Rattle.cxx_grammar.specs.Fundamentals.{no_words, with_word, type_word, number_type, fund}
use Rattle.cxx_grammar.specs.Types.{pointer, basic_fund, basic_name, basic_vector, basic_typename, basic, splice, type_tree}
use Rattle.cxx_grammar.specs.Lists.{args, designator_equal, designator_braced, designator, braced}
use Rattle.cxx_grammar.specs.Unaries.{init_args, init_braced, new_init}
use Rattle.cxx_grammar.specs.Rules.{Rules}

abbrev pub starts_name : Kinds
starts_name k = is_identifier k || is_punctuator SCOPE k

-- a word that may stand behind those of a type
abbrev pub goes_with : TypeWords → Kinds
goes_with t (Some (Word n)) = is_some (with_word t n)
goes_with t _ = false

abbrev pub starts_fund : Kinds
starts_fund k = is_word VOID k || (is_word BOOL k || goes_with no_words k)

abbrev pub starts_basic : Kinds
starts_basic k = starts_fund k || (is_word TYPENAME k || starts_name k)

abbrev pub starts_type : Kinds
starts_type k = is_word CONST k || starts_basic k

abbrev pub starts_init : Kinds
starts_init k = is_punctuator LEFT_PAREN k || is_punctuator LEFT_BRACE k

-- ---- tables without an entry

pub no_given : {A : Type 0} (o : Option A) (j : ℕ) → is_some o ≡ false → given o j ≡ No Nothing
no_given (Some a) j h = cc
no_given None j h = refl

pub no_type_word_of : (t : TypeWords) (k : Option Seen) (j : ℕ) → goes_with t k ≡ false → and_then (word_of k j) (λ n. given (with_word t n)) ≡ No Nothing
no_type_word_of t (Some (Word n)) j h = no_given (with_word t n) j h
no_type_word_of t (Some (Punctuator n)) j h = refl
no_type_word_of t (Some Identifier) j h = refl
no_type_word_of t (Some Integer) j h = refl
no_type_word_of t (Some Character) j h = refl
no_type_word_of t (Some Text) j h = refl
no_type_word_of t None j h = refl

module _ (tokens : Tokens) (i : ℕ) where
  -- ---- names

  pub no_named : (n : ℕ) (k : Option Seen) → kind tokens i ≡ k → is_identifier k ≡ false → named tokens n i ≡ No Nothing
  unfolding named
  no_named n k e h = simp (no_identifier_at tokens i k e h)

  pub no_vector_head : (k : Option Seen) → kind tokens i ≡ k → is_identifier k ≡ false → vector_head tokens i ≡ No Nothing
  unfolding vector_head
  no_vector_head k e h = simp (no_named STD.0 k e h)

  pub no_any_name : (k : Option Seen) → kind tokens i ≡ k → starts_name k ≡ false → any_name tokens i ≡ No Nothing
  unfolding any_name present
  no_any_name k e h =
      let a : is_identifier k ≡ false = or_left (is_identifier k) (is_punctuator SCOPE k) h in
      let b : is_punctuator SCOPE k ≡ false = or_right (is_identifier k) (is_punctuator SCOPE k) h in
      simp (no_punctuator_at tokens i k e SCOPE b, no_identifier_at tokens i k e a)

  pub no_name : (k : Option Seen) → kind tokens i ≡ k → starts_name k ≡ false → name tokens i ≡ No Nothing
  unfolding name
  no_name k e h =
      let a : is_identifier k ≡ false = or_left (is_identifier k) (is_punctuator SCOPE k) h in
      simp (no_vector_head k e a, no_any_name k e h)

  -- ---- fundamental types

  pub no_type_word : (t : TypeWords) (k : Option Seen) → kind tokens i ≡ k → goes_with t k ≡ false → type_word tokens t i ≡ No Nothing
  unfolding type_word any_word
  no_type_word t k e h = rw e (no_type_word_of t k (i + 1) h)

  pub no_number_type : (k : Option Seen) → kind tokens i ≡ k → goes_with no_words k ≡ false → number_type tokens i ≡ No Nothing
  unfolding number_type
  no_number_type k e h = simp (no_type_word no_words k e h)

  pub no_fund : (k : Option Seen) → kind tokens i ≡ k → starts_fund k ≡ false → fund tokens i ≡ No Nothing
  unfolding fund
  no_fund k e h =
      let a : is_word VOID k ≡ false = or_left (is_word VOID k) (is_word BOOL k || goes_with no_words k) h in
      let bc : (is_word BOOL k || goes_with no_words k) ≡ false = or_right (is_word VOID k) (is_word BOOL k || goes_with no_words k) h in
      let b : is_word BOOL k ≡ false = or_left (is_word BOOL k) (goes_with no_words k) bc in
      let c : goes_with no_words k ≡ false = or_right (is_word BOOL k) (goes_with no_words k) bc in
      simp (no_word_at tokens i k e VOID a, no_word_at tokens i k e BOOL b, no_number_type k e c)

  -- ---- types

  pub no_pointer : (k : Option Seen) → kind tokens i ≡ k → is_punctuator STAR k ≡ false → pointer tokens i ≡ No Nothing
  unfolding pointer
  no_pointer k e h = simp (no_punctuator_at tokens i k e STAR h)

  pub no_basic_fund : (k : Option Seen) → kind tokens i ≡ k → starts_fund k ≡ false → basic_fund tokens i ≡ No Nothing
  unfolding basic_fund
  no_basic_fund k e h = simp (no_fund k e h)

  pub no_basic_name : (k : Option Seen) → kind tokens i ≡ k → starts_name k ≡ false → basic_name tokens i ≡ No Nothing
  unfolding basic_name
  no_basic_name k e h = simp (no_name k e h)

  pub no_basic_vector : (k : Option Seen) → kind tokens i ≡ k → is_identifier k ≡ false → basic_vector tokens i ≡ No Nothing
  unfolding basic_vector
  no_basic_vector k e h = simp (no_vector_head k e h)

module _ (tokens : Tokens) (deeper : Rules) (i : ℕ) where
  pub no_splice : (k : Option Seen) → kind tokens i ≡ k → is_punctuator LEFT_SPLICE k ≡ false → splice tokens deeper i ≡ No Nothing
  unfolding splice
  no_splice k e h = simp (no_punctuator_at tokens i k e LEFT_SPLICE h)

  pub no_basic_typename : (k : Option Seen) → kind tokens i ≡ k → is_word TYPENAME k ≡ false → basic_typename tokens deeper i ≡ No Nothing
  unfolding basic_typename
  no_basic_typename k e h = simp (no_word_at tokens i k e TYPENAME h)

  pub no_basic : (k : Option Seen) → kind tokens i ≡ k → starts_basic k ≡ false → basic tokens deeper i ≡ No Nothing
  unfolding basic
  no_basic k e h =
      let a : starts_fund k ≡ false = or_left (starts_fund k) (is_word TYPENAME k || starts_name k) h in
      let cb : (is_word TYPENAME k || starts_name k) ≡ false = or_right (starts_fund k) (is_word TYPENAME k || starts_name k) h in
      let c : is_word TYPENAME k ≡ false = or_left (is_word TYPENAME k) (starts_name k) cb in
      let b : starts_name k ≡ false = or_right (is_word TYPENAME k) (starts_name k) cb in
      let d : is_identifier k ≡ false = or_left (is_identifier k) (is_punctuator SCOPE k) b in
      simp (no_basic_fund tokens i k e a, no_basic_name tokens i k e b, no_basic_typename k e c, no_basic_vector tokens i k e d)

  pub no_type : (k : Option Seen) → kind tokens i ≡ k → starts_type k ≡ false → type_tree tokens deeper i ≡ No Nothing
  unfolding type_tree present
  no_type k e h =
      let a : is_word CONST k ≡ false = or_left (is_word CONST k) (starts_basic k) h in
      let b : starts_basic k ≡ false = or_right (is_word CONST k) (starts_basic k) h in
      simp (no_word_at tokens i k e CONST a, no_basic k e b)

  -- ---- lists

  pub no_args : (k : Option Seen) → kind tokens i ≡ k → is_punctuator LEFT_PAREN k ≡ false → args tokens deeper i ≡ No Nothing
  unfolding args
  no_args k e h = simp (no_punctuator_at tokens i k e LEFT_PAREN h)

  pub no_braced : (k : Option Seen) → kind tokens i ≡ k → is_punctuator LEFT_BRACE k ≡ false → braced tokens deeper i ≡ No Nothing
  unfolding braced
  no_braced k e h = simp (no_punctuator_at tokens i k e LEFT_BRACE h)

  pub no_designator : (k : Option Seen) → kind tokens i ≡ k → is_punctuator DOT k ≡ false → designator tokens deeper i ≡ No Nothing
  unfolding designator designator_equal designator_braced
  no_designator k e h = simp (no_punctuator_at tokens i k e DOT h)

  pub no_new_init : (k : Option Seen) → kind tokens i ≡ k → starts_init k ≡ false → new_init tokens deeper i ≡ No Nothing
  unfolding new_init init_args init_braced
  no_new_init k e h =
      let a : is_punctuator LEFT_PAREN k ≡ false = or_left (is_punctuator LEFT_PAREN k) (is_punctuator LEFT_BRACE k) h in
      let b : is_punctuator LEFT_BRACE k ≡ false = or_right (is_punctuator LEFT_PAREN k) (is_punctuator LEFT_BRACE k) h in
      simp (no_args k e a, no_braced k e b)
