-- At most one of the forms of a type begins with a token.
use Rattle.std.proofs.Common.{◌≡◌, ℕ, Some, None, refl}
use Rattle.std.proofs.lemmas.Bool.{ne_eqb}
use Rattle.cxx_base.specs.declared.operator.IntKind.TheVariants as int
use Rattle.cxx_tree.specs.declared.types.Fund.TheVariants as fund_of
use Rattle.cxx_tokens.specs.declared.token.Tokens.{Tokens}
use Rattle.cxx_tokens.specs.declared.keyword.TheConstants.{VOID, BOOL, TYPENAME}
use Rattle.cxx_reading.specs.declared.seen.Seen.TheVariants.{Identifier, Integer, Character, Text, Word, Punctuator}
use Rattle.cxx_reading.specs.Reading.{Tree, No, Nothing, and_then, pure, kind, word}
use Rattle.cxx_reading.proofs.Starts.{no_word_at, longer_nothing}
use Rattle.cxx_grammar.specs.Names.{vector_head, any_name, name}
use Rattle.cxx_grammar.specs.Fundamentals.{number_type, fund}
use Rattle.cxx_grammar.specs.Types.{basic_fund, basic_name, basic_vector, basic_typename, basic}
use Rattle.cxx_grammar.specs.Rules.{Rules}
use Rattle.cxx_grammar.proofs.Begins.{no_vector_head, no_number_type, no_fund, no_basic_fund, no_basic_name, no_basic_typename, no_basic_vector}

-- ---- names

module _ (tokens : Tokens) (i : ℕ) where
  pub no_name_at_vector : (j : ℕ) → vector_head tokens i ≡ Tree tt j → name tokens i ≡ No Nothing
  unfolding name
  no_name_at_vector j e = rw e

  pub name_elsewhere : vector_head tokens i ≡ No Nothing → name tokens i ≡ any_name tokens i
  unfolding name
  name_elsewhere e = rw e

  pub name_at_scope : (n : ℕ) → kind tokens i ≡ Some (Punctuator n) → name tokens i ≡ any_name tokens i
  name_at_scope n e = name_elsewhere (no_vector_head tokens i _ e refl)

  -- ---- fundamental types

  pub fund_void : kind tokens i ≡ Some (Word VOID) → fund tokens i ≡ and_then (word tokens VOID i) (λ _. pure fund_of.Void)
  unfolding fund
  fund_void e = simp (no_word_at tokens i _ e BOOL refl, no_number_type tokens i _ e refl, longer_nothing)

  pub fund_bool : kind tokens i ≡ Some (Word BOOL) → fund tokens i ≡ and_then (word tokens BOOL i) (λ _. pure (fund_of.Int int.Bool))
  unfolding fund
  fund_bool e = simp (no_word_at tokens i _ e VOID refl, no_number_type tokens i _ e refl, longer_nothing)

  pub fund_number : (n : ℕ) → kind tokens i ≡ Some (Word n) → (n ≡ VOID → ⊥) → (n ≡ BOOL → ⊥) → fund tokens i ≡ number_type tokens i
  unfolding fund
  fund_number n e a b = simp (no_word_at tokens i _ e VOID (ne_eqb n VOID a), no_word_at tokens i _ e BOOL (ne_eqb n BOOL b))

  pub fund_identifier : kind tokens i ≡ Some Identifier → fund tokens i ≡ No Nothing
  fund_identifier e = no_fund tokens i _ e refl

  pub fund_integer : kind tokens i ≡ Some Integer → fund tokens i ≡ No Nothing
  fund_integer e = no_fund tokens i _ e refl

  pub fund_character : kind tokens i ≡ Some Character → fund tokens i ≡ No Nothing
  fund_character e = no_fund tokens i _ e refl

  pub fund_text : kind tokens i ≡ Some Text → fund tokens i ≡ No Nothing
  fund_text e = no_fund tokens i _ e refl

  pub fund_punctuator : (n : ℕ) → kind tokens i ≡ Some (Punctuator n) → fund tokens i ≡ No Nothing
  fund_punctuator n e = no_fund tokens i _ e refl

  pub fund_none : kind tokens i ≡ None → fund tokens i ≡ No Nothing
  fund_none e = no_fund tokens i _ e refl

  -- ---- types

  no_basic_name_at_vector : (j : ℕ) → vector_head tokens i ≡ Tree tt j → basic_name tokens i ≡ No Nothing
  unfolding basic_name
  no_basic_name_at_vector j e = simp (no_name_at_vector j e)

  no_basic_vector_at : vector_head tokens i ≡ No Nothing → basic_vector tokens i ≡ No Nothing
  unfolding basic_vector
  no_basic_vector_at e = simp e

module _ (tokens : Tokens) (deeper : Rules) (i : ℕ) where
  pub basic_at_vector : (j : ℕ) → kind tokens i ≡ Some Identifier → vector_head tokens i ≡ Tree tt j → basic tokens deeper i ≡ basic_vector tokens i
  unfolding basic
  basic_at_vector j e v = simp (no_basic_fund tokens i _ e refl, no_basic_name_at_vector tokens i j v, no_basic_typename tokens deeper i _ e refl)

  pub basic_at_name : kind tokens i ≡ Some Identifier → vector_head tokens i ≡ No Nothing → basic tokens deeper i ≡ basic_name tokens i
  unfolding basic
  basic_at_name e v = simp (no_basic_fund tokens i _ e refl, no_basic_typename tokens deeper i _ e refl, no_basic_vector_at tokens i v, longer_nothing)

  pub basic_punctuator : (n : ℕ) → kind tokens i ≡ Some (Punctuator n) → basic tokens deeper i ≡ basic_name tokens i
  unfolding basic
  basic_punctuator n e = simp (no_basic_fund tokens i _ e refl, no_basic_typename tokens deeper i _ e refl, no_basic_vector tokens i _ e refl, longer_nothing)

  pub basic_at_typename : kind tokens i ≡ Some (Word TYPENAME) → basic tokens deeper i ≡ basic_typename tokens deeper i
  unfolding basic
  basic_at_typename e = simp (no_basic_fund tokens i _ e refl, no_basic_name tokens i _ e refl, no_basic_vector tokens i _ e refl, longer_nothing)

  pub basic_word : (n : ℕ) → kind tokens i ≡ Some (Word n) → (n ≡ TYPENAME → ⊥) → basic tokens deeper i ≡ basic_fund tokens i
  unfolding basic
  basic_word n e h = simp (no_basic_name tokens i _ e refl, no_basic_typename tokens deeper i _ e (ne_eqb n TYPENAME h), no_basic_vector tokens i _ e refl, longer_nothing)

  pub basic_integer : kind tokens i ≡ Some Integer → basic tokens deeper i ≡ No Nothing
  unfolding basic
  basic_integer e = simp (no_basic_fund tokens i _ e refl, no_basic_name tokens i _ e refl, no_basic_typename tokens deeper i _ e refl, no_basic_vector tokens i _ e refl)

  pub basic_character : kind tokens i ≡ Some Character → basic tokens deeper i ≡ No Nothing
  unfolding basic
  basic_character e = simp (no_basic_fund tokens i _ e refl, no_basic_name tokens i _ e refl, no_basic_typename tokens deeper i _ e refl, no_basic_vector tokens i _ e refl)

  pub basic_text : kind tokens i ≡ Some Text → basic tokens deeper i ≡ No Nothing
  unfolding basic
  basic_text e = simp (no_basic_fund tokens i _ e refl, no_basic_name tokens i _ e refl, no_basic_typename tokens deeper i _ e refl, no_basic_vector tokens i _ e refl)

  pub basic_none : kind tokens i ≡ None → basic tokens deeper i ≡ No Nothing
  unfolding basic
  basic_none e = simp (no_basic_fund tokens i _ e refl, no_basic_name tokens i _ e refl, no_basic_typename tokens deeper i _ e refl, no_basic_vector tokens i _ e refl)

pub ruleset fund_arms = (fund_void, fund_bool, fund_number, fund_identifier, fund_integer, fund_character, fund_text, fund_punctuator, fund_none)

pub ruleset basic_arms = (basic_at_vector, basic_at_name, basic_punctuator, basic_at_typename, basic_word, basic_integer, basic_character, basic_text, basic_none)
