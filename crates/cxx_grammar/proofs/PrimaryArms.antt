-- At most one of the forms of a primary expression begins with a token, or they are read as one.
use Rattle.std.proofs.Common.{◌≡◌, ℕ, false, ◌==◌, Option, Some, None, refl, sym, ◌∙◌}
use Rattle.std.proofs.lemmas.Bool.{ne_eqb}
use Rattle.cxx_tokens.specs.declared.token.Tokens.{Tokens}
use Rattle.cxx_tokens.specs.declared.mark.TheConstants.{LEFT_PAREN, LEFT_SPLICE, SCOPE}
use Rattle.cxx_tokens.specs.declared.keyword.TheConstants.{TRUE, FALSE, NULLPTR, THIS, TYPENAME, STATIC_CAST, SIZEOF, DELETE, NEW}
use Rattle.cxx_reading.specs.declared.seen.Seen.{Seen}
use Rattle.cxx_reading.specs.declared.seen.Seen.TheVariants.{Identifier, Integer, Character, Text, Word, Punctuator}
use Rattle.cxx_reading.specs.Extents.{Rises}
use Rattle.cxx_reading.specs.Reading.{End, Tree, No, Nothing, TooDeep, kind, is_word, is_punctuator}
use Rattle.cxx_reading.proofs.Starts.{is_integer, is_character, is_text, no_word_at, no_punctuator_at, no_integer_at, no_character_at, no_text_at, longer_nothing, longer_deep}
use Rattle.cxx_grammar.specs.Names.{vector_head}
use Rattle.cxx_grammar.specs.Types.{basic, basic_vector}
use Rattle.cxx_grammar.specs.Lists.{braced}
use Rattle.cxx_grammar.specs.Primaries.{integer_form, character_form, text_form, true_form, false_form, nullptr_form, this_form, name_form, paren_form, splice_form, braced_form, fund_call_form, typename_call_form, cast_form, extract_form, primary}
use Rattle.cxx_grammar.specs.Rules.{Rules}
use Rattle.cxx_grammar.specs.Read.{read}
use Rattle.cxx_grammar.specs.Joined.{fund_joined, typename_joined, named_joined, vector_form, identified}
use Rattle.cxx_grammar.proofs.Begins.{starts_name, starts_fund, starts_basic, no_name, no_fund, no_splice, no_basic}
use Rattle.cxx_grammar.proofs.TypeArms.{no_name_at_vector, basic_at_vector}
use Rattle.cxx_grammar.proofs.JoinedForms.{fund_is, typename_is, named_is_identifier, named_is_punctuator}
use Rattle.cxx_grammar.proofs.Ends.{rises_braced}

module _ (tokens : Tokens) (i : ℕ) where
  pub no_integer_form : (k : Option Seen) → kind tokens i ≡ k → is_integer k ≡ false → integer_form tokens i ≡ No Nothing
  unfolding integer_form
  no_integer_form k e h = simp (no_integer_at tokens i k e h)

  pub no_character_form : (k : Option Seen) → kind tokens i ≡ k → is_character k ≡ false → character_form tokens i ≡ No Nothing
  unfolding character_form
  no_character_form k e h = simp (no_character_at tokens i k e h)

  pub no_text_form : (k : Option Seen) → kind tokens i ≡ k → is_text k ≡ false → text_form tokens i ≡ No Nothing
  unfolding text_form
  no_text_form k e h = simp (no_text_at tokens i k e h)

  pub no_true_form : (k : Option Seen) → kind tokens i ≡ k → is_word TRUE k ≡ false → true_form tokens i ≡ No Nothing
  unfolding true_form
  no_true_form k e h = simp (no_word_at tokens i k e TRUE h)

  pub no_false_form : (k : Option Seen) → kind tokens i ≡ k → is_word FALSE k ≡ false → false_form tokens i ≡ No Nothing
  unfolding false_form
  no_false_form k e h = simp (no_word_at tokens i k e FALSE h)

  pub no_nullptr_form : (k : Option Seen) → kind tokens i ≡ k → is_word NULLPTR k ≡ false → nullptr_form tokens i ≡ No Nothing
  unfolding nullptr_form
  no_nullptr_form k e h = simp (no_word_at tokens i k e NULLPTR h)

  pub no_this_form : (k : Option Seen) → kind tokens i ≡ k → is_word THIS k ≡ false → this_form tokens i ≡ No Nothing
  unfolding this_form
  no_this_form k e h = simp (no_word_at tokens i k e THIS h)

  pub no_name_form : (k : Option Seen) → kind tokens i ≡ k → starts_name k ≡ false → name_form tokens i ≡ No Nothing
  unfolding name_form
  no_name_form k e h = simp (no_name tokens i k e h)

module _ (tokens : Tokens) (deeper : Rules) (i : ℕ) where
  pub no_paren_form : (k : Option Seen) → kind tokens i ≡ k → is_punctuator LEFT_PAREN k ≡ false → paren_form tokens deeper i ≡ No Nothing
  unfolding paren_form
  no_paren_form k e h = simp (no_punctuator_at tokens i k e LEFT_PAREN h)

  pub no_splice_form : (k : Option Seen) → kind tokens i ≡ k → is_punctuator LEFT_SPLICE k ≡ false → splice_form tokens deeper i ≡ No Nothing
  unfolding splice_form
  no_splice_form k e h = simp (no_splice tokens deeper i k e h)

  pub no_braced_form : (k : Option Seen) → kind tokens i ≡ k → starts_basic k ≡ false → braced_form tokens deeper i ≡ No Nothing
  unfolding braced_form
  no_braced_form k e h = simp (no_basic tokens deeper i k e h)

  pub no_fund_call_form : (k : Option Seen) → kind tokens i ≡ k → starts_fund k ≡ false → fund_call_form tokens deeper i ≡ No Nothing
  unfolding fund_call_form
  no_fund_call_form k e h = simp (no_fund tokens i k e h)

  pub no_typename_call_form : (k : Option Seen) → kind tokens i ≡ k → is_word TYPENAME k ≡ false → typename_call_form tokens deeper i ≡ No Nothing
  unfolding typename_call_form
  no_typename_call_form k e h = simp (no_word_at tokens i k e TYPENAME h)

  pub no_cast_form : (k : Option Seen) → kind tokens i ≡ k → is_word STATIC_CAST k ≡ false → cast_form tokens deeper i ≡ No Nothing
  unfolding cast_form
  no_cast_form k e h = simp (no_word_at tokens i k e STATIC_CAST h)

  pub no_extract_form : (k : Option Seen) → kind tokens i ≡ k → starts_name k ≡ false → extract_form tokens deeper i ≡ No Nothing
  unfolding extract_form
  no_extract_form k e h = simp (no_name tokens i k e h)

  pub primary_integer : kind tokens i ≡ Some Integer → primary tokens deeper i ≡ integer_form tokens i
  unfolding primary
  primary_integer e = simp (no_character_form tokens i _ e refl, no_text_form tokens i _ e refl, no_true_form tokens i _ e refl, no_false_form tokens i _ e refl, no_nullptr_form tokens i _ e refl, no_this_form tokens i _ e refl, no_name_form tokens i _ e refl, no_paren_form _ e refl, no_splice_form _ e refl, no_braced_form _ e refl, no_fund_call_form _ e refl, no_typename_call_form _ e refl, no_cast_form _ e refl, no_extract_form _ e refl, longer_nothing)

  pub primary_character : kind tokens i ≡ Some Character → primary tokens deeper i ≡ character_form tokens i
  unfolding primary
  primary_character e = simp (no_integer_form tokens i _ e refl, no_text_form tokens i _ e refl, no_true_form tokens i _ e refl, no_false_form tokens i _ e refl, no_nullptr_form tokens i _ e refl, no_this_form tokens i _ e refl, no_name_form tokens i _ e refl, no_paren_form _ e refl, no_splice_form _ e refl, no_braced_form _ e refl, no_fund_call_form _ e refl, no_typename_call_form _ e refl, no_cast_form _ e refl, no_extract_form _ e refl, longer_nothing)

  pub primary_text : kind tokens i ≡ Some Text → primary tokens deeper i ≡ text_form tokens i
  unfolding primary
  primary_text e = simp (no_integer_form tokens i _ e refl, no_character_form tokens i _ e refl, no_true_form tokens i _ e refl, no_false_form tokens i _ e refl, no_nullptr_form tokens i _ e refl, no_this_form tokens i _ e refl, no_name_form tokens i _ e refl, no_paren_form _ e refl, no_splice_form _ e refl, no_braced_form _ e refl, no_fund_call_form _ e refl, no_typename_call_form _ e refl, no_cast_form _ e refl, no_extract_form _ e refl, longer_nothing)

  pub primary_paren : kind tokens i ≡ Some (Punctuator LEFT_PAREN) → primary tokens deeper i ≡ paren_form tokens deeper i
  unfolding primary
  primary_paren e = simp (no_integer_form tokens i _ e refl, no_character_form tokens i _ e refl, no_text_form tokens i _ e refl, no_true_form tokens i _ e refl, no_false_form tokens i _ e refl, no_nullptr_form tokens i _ e refl, no_this_form tokens i _ e refl, no_name_form tokens i _ e refl, no_splice_form _ e refl, no_braced_form _ e refl, no_fund_call_form _ e refl, no_typename_call_form _ e refl, no_cast_form _ e refl, no_extract_form _ e refl, longer_nothing)

  pub primary_splice : kind tokens i ≡ Some (Punctuator LEFT_SPLICE) → primary tokens deeper i ≡ splice_form tokens deeper i
  unfolding primary
  primary_splice e = simp (no_integer_form tokens i _ e refl, no_character_form tokens i _ e refl, no_text_form tokens i _ e refl, no_true_form tokens i _ e refl, no_false_form tokens i _ e refl, no_nullptr_form tokens i _ e refl, no_this_form tokens i _ e refl, no_name_form tokens i _ e refl, no_paren_form _ e refl, no_braced_form _ e refl, no_fund_call_form _ e refl, no_typename_call_form _ e refl, no_cast_form _ e refl, no_extract_form _ e refl, longer_nothing)

  pub primary_true : kind tokens i ≡ Some (Word TRUE) → primary tokens deeper i ≡ true_form tokens i
  unfolding primary
  primary_true e = simp (no_integer_form tokens i _ e refl, no_character_form tokens i _ e refl, no_text_form tokens i _ e refl, no_false_form tokens i _ e refl, no_nullptr_form tokens i _ e refl, no_this_form tokens i _ e refl, no_name_form tokens i _ e refl, no_paren_form _ e refl, no_splice_form _ e refl, no_braced_form _ e refl, no_fund_call_form _ e refl, no_typename_call_form _ e refl, no_cast_form _ e refl, no_extract_form _ e refl, longer_nothing)

  pub primary_false : kind tokens i ≡ Some (Word FALSE) → primary tokens deeper i ≡ false_form tokens i
  unfolding primary
  primary_false e = simp (no_integer_form tokens i _ e refl, no_character_form tokens i _ e refl, no_text_form tokens i _ e refl, no_true_form tokens i _ e refl, no_nullptr_form tokens i _ e refl, no_this_form tokens i _ e refl, no_name_form tokens i _ e refl, no_paren_form _ e refl, no_splice_form _ e refl, no_braced_form _ e refl, no_fund_call_form _ e refl, no_typename_call_form _ e refl, no_cast_form _ e refl, no_extract_form _ e refl, longer_nothing)

  pub primary_nullptr : kind tokens i ≡ Some (Word NULLPTR) → primary tokens deeper i ≡ nullptr_form tokens i
  unfolding primary
  primary_nullptr e = simp (no_integer_form tokens i _ e refl, no_character_form tokens i _ e refl, no_text_form tokens i _ e refl, no_true_form tokens i _ e refl, no_false_form tokens i _ e refl, no_this_form tokens i _ e refl, no_name_form tokens i _ e refl, no_paren_form _ e refl, no_splice_form _ e refl, no_braced_form _ e refl, no_fund_call_form _ e refl, no_typename_call_form _ e refl, no_cast_form _ e refl, no_extract_form _ e refl, longer_nothing)

  pub primary_this : kind tokens i ≡ Some (Word THIS) → primary tokens deeper i ≡ this_form tokens i
  unfolding primary
  primary_this e = simp (no_integer_form tokens i _ e refl, no_character_form tokens i _ e refl, no_text_form tokens i _ e refl, no_true_form tokens i _ e refl, no_false_form tokens i _ e refl, no_nullptr_form tokens i _ e refl, no_name_form tokens i _ e refl, no_paren_form _ e refl, no_splice_form _ e refl, no_braced_form _ e refl, no_fund_call_form _ e refl, no_typename_call_form _ e refl, no_cast_form _ e refl, no_extract_form _ e refl, longer_nothing)

  pub primary_cast : kind tokens i ≡ Some (Word STATIC_CAST) → primary tokens deeper i ≡ cast_form tokens deeper i
  unfolding primary
  primary_cast e = simp (no_integer_form tokens i _ e refl, no_character_form tokens i _ e refl, no_text_form tokens i _ e refl, no_true_form tokens i _ e refl, no_false_form tokens i _ e refl, no_nullptr_form tokens i _ e refl, no_this_form tokens i _ e refl, no_name_form tokens i _ e refl, no_paren_form _ e refl, no_splice_form _ e refl, no_braced_form _ e refl, no_fund_call_form _ e refl, no_typename_call_form _ e refl, no_extract_form _ e refl, longer_nothing)

  pub primary_typename : kind tokens i ≡ Some (Word TYPENAME) → primary tokens deeper i ≡ typename_joined tokens deeper i
  unfolding primary
  primary_typename e = simp (no_integer_form tokens i _ e refl, no_character_form tokens i _ e refl, no_text_form tokens i _ e refl, no_true_form tokens i _ e refl, no_false_form tokens i _ e refl, no_nullptr_form tokens i _ e refl, no_this_form tokens i _ e refl, no_name_form tokens i _ e refl, no_paren_form _ e refl, no_splice_form _ e refl, no_fund_call_form _ e refl, no_cast_form _ e refl, no_extract_form _ e refl, longer_nothing) (typename_is tokens deeper i e)

  pub primary_word : (n : ℕ) → kind tokens i ≡ Some (Word n) → (n ≡ TRUE → ⊥) → (n ≡ FALSE → ⊥) → (n ≡ NULLPTR → ⊥) → (n ≡ THIS → ⊥) → (n ≡ STATIC_CAST → ⊥) → (n ≡ TYPENAME → ⊥) → primary tokens deeper i ≡ fund_joined tokens deeper i
  unfolding primary
  primary_word n e h0 h1 h2 h3 h4 h5 = simp (no_integer_form tokens i _ e refl, no_character_form tokens i _ e refl, no_text_form tokens i _ e refl, no_true_form tokens i _ e (ne_eqb n TRUE h0), no_false_form tokens i _ e (ne_eqb n FALSE h1), no_nullptr_form tokens i _ e (ne_eqb n NULLPTR h2), no_this_form tokens i _ e (ne_eqb n THIS h3), no_name_form tokens i _ e refl, no_paren_form _ e refl, no_splice_form _ e refl, no_typename_call_form _ e (ne_eqb n TYPENAME h5), no_cast_form _ e (ne_eqb n STATIC_CAST h4), no_extract_form _ e refl, longer_nothing) (fund_is tokens deeper i n e h5)

  pub primary_none : kind tokens i ≡ None → primary tokens deeper i ≡ No Nothing
  unfolding primary
  primary_none e = simp (no_integer_form tokens i _ e refl, no_character_form tokens i _ e refl, no_text_form tokens i _ e refl, no_true_form tokens i _ e refl, no_false_form tokens i _ e refl, no_nullptr_form tokens i _ e refl, no_this_form tokens i _ e refl, no_name_form tokens i _ e refl, no_paren_form _ e refl, no_splice_form _ e refl, no_braced_form _ e refl, no_fund_call_form _ e refl, no_typename_call_form _ e refl, no_cast_form _ e refl, no_extract_form _ e refl)

  pub no_primary_at_sizeof : kind tokens i ≡ Some (Word SIZEOF) → primary tokens deeper i ≡ No Nothing
  unfolding primary
  no_primary_at_sizeof e = simp (no_integer_form tokens i _ e refl, no_character_form tokens i _ e refl, no_text_form tokens i _ e refl, no_true_form tokens i _ e refl, no_false_form tokens i _ e refl, no_nullptr_form tokens i _ e refl, no_this_form tokens i _ e refl, no_name_form tokens i _ e refl, no_paren_form _ e refl, no_splice_form _ e refl, no_braced_form _ e refl, no_fund_call_form _ e refl, no_typename_call_form _ e refl, no_cast_form _ e refl, no_extract_form _ e refl)

  pub no_primary_at_delete : kind tokens i ≡ Some (Word DELETE) → primary tokens deeper i ≡ No Nothing
  unfolding primary
  no_primary_at_delete e = simp (no_integer_form tokens i _ e refl, no_character_form tokens i _ e refl, no_text_form tokens i _ e refl, no_true_form tokens i _ e refl, no_false_form tokens i _ e refl, no_nullptr_form tokens i _ e refl, no_this_form tokens i _ e refl, no_name_form tokens i _ e refl, no_paren_form _ e refl, no_splice_form _ e refl, no_braced_form _ e refl, no_fund_call_form _ e refl, no_typename_call_form _ e refl, no_cast_form _ e refl, no_extract_form _ e refl)

  pub no_primary_at_new : kind tokens i ≡ Some (Word NEW) → primary tokens deeper i ≡ No Nothing
  unfolding primary
  no_primary_at_new e = simp (no_integer_form tokens i _ e refl, no_character_form tokens i _ e refl, no_text_form tokens i _ e refl, no_true_form tokens i _ e refl, no_false_form tokens i _ e refl, no_nullptr_form tokens i _ e refl, no_this_form tokens i _ e refl, no_name_form tokens i _ e refl, no_paren_form _ e refl, no_splice_form _ e refl, no_braced_form _ e refl, no_fund_call_form _ e refl, no_typename_call_form _ e refl, no_cast_form _ e refl, no_extract_form _ e refl)

  pub no_primary_at : (n : ℕ) → kind tokens i ≡ Some (Punctuator n) → (n == LEFT_PAREN) ≡ false → (n == LEFT_SPLICE) ≡ false → (n == SCOPE) ≡ false → primary tokens deeper i ≡ No Nothing
  unfolding primary
  no_primary_at n e a b c = simp (no_integer_form tokens i _ e refl, no_character_form tokens i _ e refl, no_text_form tokens i _ e refl, no_true_form tokens i _ e refl, no_false_form tokens i _ e refl, no_nullptr_form tokens i _ e refl, no_this_form tokens i _ e refl, no_name_form tokens i _ e c, no_paren_form _ e a, no_splice_form _ e b, no_braced_form _ e c, no_fund_call_form _ e refl, no_typename_call_form _ e refl, no_cast_form _ e refl, no_extract_form _ e c)

  primary_by_name : Rises (braced tokens deeper) → (n : ℕ) → kind tokens i ≡ Some (Punctuator n) → (n ≡ LEFT_PAREN → ⊥) → (n ≡ LEFT_SPLICE → ⊥) → primary tokens deeper i ≡ named_joined tokens deeper i
  unfolding primary
  primary_by_name r n e a b = simp (no_integer_form tokens i _ e refl, no_character_form tokens i _ e refl, no_text_form tokens i _ e refl, no_true_form tokens i _ e refl, no_false_form tokens i _ e refl, no_nullptr_form tokens i _ e refl, no_this_form tokens i _ e refl, no_paren_form _ e (ne_eqb n LEFT_PAREN a), no_splice_form _ e (ne_eqb n LEFT_SPLICE b), no_fund_call_form _ e refl, no_typename_call_form _ e refl, no_cast_form _ e refl) (named_is_punctuator tokens deeper i r n e)

  -- ---- at an identifier

  primary_at_vector : (j : ℕ) → kind tokens i ≡ Some Identifier → vector_head tokens i ≡ Tree tt j → primary tokens deeper i ≡ vector_form tokens deeper i
  unfolding primary name_form braced_form extract_form vector_form
  primary_at_vector j e v = simp (no_integer_form tokens i _ e refl, no_character_form tokens i _ e refl, no_text_form tokens i _ e refl, no_true_form tokens i _ e refl, no_false_form tokens i _ e refl, no_nullptr_form tokens i _ e refl, no_this_form tokens i _ e refl, no_paren_form _ e refl, no_splice_form _ e refl, no_fund_call_form _ e refl, no_typename_call_form _ e refl, no_cast_form _ e refl, no_name_at_vector tokens i j v, basic_at_vector tokens deeper i j e v, longer_nothing)

  primary_at_name : Rises (braced tokens deeper) → kind tokens i ≡ Some Identifier → vector_head tokens i ≡ No Nothing → primary tokens deeper i ≡ named_joined tokens deeper i
  unfolding primary
  primary_at_name r e v = simp (no_integer_form tokens i _ e refl, no_character_form tokens i _ e refl, no_text_form tokens i _ e refl, no_true_form tokens i _ e refl, no_false_form tokens i _ e refl, no_nullptr_form tokens i _ e refl, no_this_form tokens i _ e refl, no_paren_form _ e refl, no_splice_form _ e refl, no_fund_call_form _ e refl, no_typename_call_form _ e refl, no_cast_form _ e refl) (named_is_identifier tokens deeper i r e v)

  primary_deep : kind tokens i ≡ Some Identifier → vector_head tokens i ≡ No TooDeep → primary tokens deeper i ≡ No TooDeep
  unfolding primary braced_form basic basic_vector
  primary_deep e v = simp (no_integer_form tokens i _ e refl, no_character_form tokens i _ e refl, no_text_form tokens i _ e refl, no_true_form tokens i _ e refl, no_false_form tokens i _ e refl, no_nullptr_form tokens i _ e refl, no_this_form tokens i _ e refl, no_paren_form _ e refl, no_splice_form _ e refl, no_fund_call_form _ e refl, no_typename_call_form _ e refl, no_cast_form _ e refl, v, longer_deep)

  identified_by : Rises (braced tokens deeper) → kind tokens i ≡ Some Identifier → (h : End (Unit {0})) → vector_head tokens i ≡ h → primary tokens deeper i ≡ identified tokens deeper i
  unfolding identified
  identified_by r e (Tree t j) v = primary_at_vector j e v ∙ sym (rw v refl)
  identified_by r e (No Nothing) v = primary_at_name r e v ∙ sym (rw v refl)
  identified_by r e (No TooDeep) v = primary_deep e v ∙ sym (rw v refl)

module _ (tokens : Tokens) (level i : ℕ) where
  pub primary_identifier : kind tokens i ≡ Some Identifier → primary tokens (read tokens level) i ≡ identified tokens (read tokens level) i
  primary_identifier e = identified_by tokens (read tokens level) i (rises_braced tokens level) e (vector_head tokens i) refl

  pub primary_punctuator : (n : ℕ) → kind tokens i ≡ Some (Punctuator n) → (n ≡ LEFT_PAREN → ⊥) → (n ≡ LEFT_SPLICE → ⊥) → primary tokens (read tokens level) i ≡ named_joined tokens (read tokens level) i
  primary_punctuator n e a b = primary_by_name tokens (read tokens level) i (rises_braced tokens level) n e a b

pub ruleset primary_arms = (primary_integer, primary_character, primary_text, primary_identifier, primary_paren, primary_splice, primary_punctuator, primary_true, primary_false, primary_nullptr, primary_this, primary_cast, primary_typename, primary_word, primary_none)
