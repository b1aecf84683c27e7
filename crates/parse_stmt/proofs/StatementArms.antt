-- At most one of the forms of a statement without braces of its own begins with a token, or they are read as one.
use Rattle.std.proofs.Common.{◌≡◌, ℕ, ◌≤◌, Bool, true, false, Option, Some, None, refl, ◌∙◌}
use Rattle.std.proofs.lemmas.Bool.{ne_eqb}
use Rattle.cxx_tokens.specs.declared.token.Tokens.{Tokens}
use Rattle.cxx_tokens.specs.declared.mark.TheConstants as mark
use Rattle.cxx_tokens.specs.declared.keyword.TheConstants as keyword
use Rattle.cxx_reading.specs.declared.seen.Seen.{Seen}
use Rattle.cxx_reading.specs.declared.seen.Seen.TheVariants.{Identifier, Integer, Character, Text, Word, Punctuator}
use Rattle.cxx_reading.specs.Reading.{No, Nothing, longer, kind, is_punctuator, is_word}
use Rattle.cxx_reading.proofs.Starts.{longer_nothing, no_punctuator_at, no_word_at}
use Rattle.cxx_grammar.specs.declared.within.Within.{Within}
use Rattle.cxx_grammar.specs.Read.{read}
use Rattle.cxx_grammar.specs.Nests.{Nests}
use Rattle.cxx_grammar.specs.Locals.{begins_local, assert, alias}
use Rattle.cxx_grammar.specs.Statements.{empty_form, assert_form, alias_form, if_form, while_form, for_form, range_for_form, return_form, break_form, continue_form, other_stmt}
use Rattle.cxx_grammar.proofs.Begins.{no_any_name}
use Rattle.parse_local.proofs.Begin.{begins_at_punctuator}
use Rattle.parse_assign.specs.Joined.{is_step, closed, closed_placed}
use Rattle.parse_assign.proofs.Assignments.{no_unary_at_mark}
use Rattle.parse_assign.proofs.Expressions.{below, before}
use Rattle.parse_simple.specs.Joined.{worked, simple}
use Rattle.parse_simple.proofs.SimpleForms.{barren_if, barren_while, barren_for, barren_return, barren_break, barren_continue, barren_using, barren_static_assert, barren_struct, barren_class, barren_consteval, local_none, assign_none, expr_none, local_none_at_semicolon, assign_none_at_semicolon, expr_none_at_semicolon, simple_is}

module _ (tokens : Tokens) (level in_parens : ℕ) (inner : Nests) (within : Within) (i : ℕ) where
  no_empty_form : (k : Option Seen) → kind tokens i ≡ k → is_punctuator mark.SEMICOLON k ≡ false → empty_form tokens i ≡ No Nothing
  unfolding empty_form
  no_empty_form k e h = simp (no_punctuator_at tokens i k e mark.SEMICOLON h)

  no_assert_form : (k : Option Seen) → kind tokens i ≡ k → is_word keyword.STATIC_ASSERT k ≡ false → assert_form tokens in_parens i ≡ No Nothing
  unfolding assert_form assert
  no_assert_form k e h = simp (no_word_at tokens i k e keyword.STATIC_ASSERT h)

  no_alias_form : (k : Option Seen) → kind tokens i ≡ k → is_word keyword.USING k ≡ false → alias_form tokens level i ≡ No Nothing
  unfolding alias_form alias
  no_alias_form k e h = simp (no_word_at tokens i k e keyword.USING h)

  no_if_form : (k : Option Seen) → kind tokens i ≡ k → is_word keyword.IF k ≡ false → if_form tokens in_parens inner within i ≡ No Nothing
  unfolding if_form
  no_if_form k e h = simp (no_word_at tokens i k e keyword.IF h)

  no_while_form : (k : Option Seen) → kind tokens i ≡ k → is_word keyword.WHILE k ≡ false → while_form tokens in_parens inner within i ≡ No Nothing
  unfolding while_form
  no_while_form k e h = simp (no_word_at tokens i k e keyword.WHILE h)

  no_for_form : (k : Option Seen) → kind tokens i ≡ k → is_word keyword.FOR k ≡ false → for_form tokens in_parens inner within i ≡ No Nothing
  unfolding for_form
  no_for_form k e h = simp (no_word_at tokens i k e keyword.FOR h)

  no_range_for_form : (k : Option Seen) → kind tokens i ≡ k → is_word keyword.FOR k ≡ false → range_for_form tokens in_parens inner within i ≡ No Nothing
  unfolding range_for_form
  no_range_for_form k e h = simp (no_word_at tokens i k e keyword.FOR h)

  no_return_form : (k : Option Seen) → kind tokens i ≡ k → is_word keyword.RETURN k ≡ false → return_form tokens level i ≡ No Nothing
  unfolding return_form
  no_return_form k e h = simp (no_word_at tokens i k e keyword.RETURN h)

  no_break_by : (b : Bool) → within.in_loop ≡ b → (k : Option Seen) → kind tokens i ≡ k → is_word keyword.BREAK k ≡ false → break_form tokens within i ≡ No Nothing
  unfolding break_form
  no_break_by true w k e h = simp (w, no_word_at tokens i k e keyword.BREAK h)
  no_break_by false w k e h = simp w

  no_break_form : (k : Option Seen) → kind tokens i ≡ k → is_word keyword.BREAK k ≡ false → break_form tokens within i ≡ No Nothing
  no_break_form = no_break_by within.in_loop refl

  no_continue_by : (b : Bool) → within.in_loop ≡ b → (k : Option Seen) → kind tokens i ≡ k → is_word keyword.CONTINUE k ≡ false → continue_form tokens within i ≡ No Nothing
  unfolding continue_form
  no_continue_by true w k e h = simp (w, no_word_at tokens i k e keyword.CONTINUE h)
  no_continue_by false w k e h = simp w

  no_continue_form : (k : Option Seen) → kind tokens i ≡ k → is_word keyword.CONTINUE k ≡ false → continue_form tokens within i ≡ No Nothing
  no_continue_form = no_continue_by within.in_loop refl

  module _ (low : level ≤ 256) where
    pub other_semicolon : kind tokens i ≡ Some (Punctuator mark.SEMICOLON) → other_stmt tokens level inner in_parens within i ≡ empty_form tokens i
    unfolding other_stmt
    other_semicolon e = simp (no_assert_form _ e refl, no_alias_form _ e refl, no_if_form _ e refl, no_while_form _ e refl, no_for_form _ e refl, no_range_for_form _ e refl, no_return_form _ e refl, no_break_form _ e refl, no_continue_form _ e refl, local_none_at_semicolon tokens level i low e, assign_none_at_semicolon tokens level i low e, expr_none_at_semicolon tokens level i low e, longer_nothing)

    pub other_assert : kind tokens i ≡ Some (Word keyword.STATIC_ASSERT) → other_stmt tokens level inner in_parens within i ≡ assert_form tokens in_parens i
    unfolding other_stmt
    other_assert e = simp (no_empty_form _ e refl, no_alias_form _ e refl, no_if_form _ e refl, no_while_form _ e refl, no_for_form _ e refl, no_range_for_form _ e refl, no_return_form _ e refl, no_break_form _ e refl, no_continue_form _ e refl, local_none tokens level i low _ e barren_static_assert, assign_none tokens level i low _ e barren_static_assert, expr_none tokens level i low _ e barren_static_assert, longer_nothing)

    pub other_alias : kind tokens i ≡ Some (Word keyword.USING) → other_stmt tokens level inner in_parens within i ≡ alias_form tokens level i
    unfolding other_stmt
    other_alias e = simp (no_empty_form _ e refl, no_assert_form _ e refl, no_if_form _ e refl, no_while_form _ e refl, no_for_form _ e refl, no_range_for_form _ e refl, no_return_form _ e refl, no_break_form _ e refl, no_continue_form _ e refl, local_none tokens level i low _ e barren_using, assign_none tokens level i low _ e barren_using, expr_none tokens level i low _ e barren_using, longer_nothing)

    pub other_if : kind tokens i ≡ Some (Word keyword.IF) → other_stmt tokens level inner in_parens within i ≡ if_form tokens in_parens inner within i
    unfolding other_stmt
    other_if e = simp (no_empty_form _ e refl, no_assert_form _ e refl, no_alias_form _ e refl, no_while_form _ e refl, no_for_form _ e refl, no_range_for_form _ e refl, no_return_form _ e refl, no_break_form _ e refl, no_continue_form _ e refl, local_none tokens level i low _ e barren_if, assign_none tokens level i low _ e barren_if, expr_none tokens level i low _ e barren_if, longer_nothing)

    pub other_while : kind tokens i ≡ Some (Word keyword.WHILE) → other_stmt tokens level inner in_parens within i ≡ while_form tokens in_parens inner within i
    unfolding other_stmt
    other_while e = simp (no_empty_form _ e refl, no_assert_form _ e refl, no_alias_form _ e refl, no_if_form _ e refl, no_for_form _ e refl, no_range_for_form _ e refl, no_return_form _ e refl, no_break_form _ e refl, no_continue_form _ e refl, local_none tokens level i low _ e barren_while, assign_none tokens level i low _ e barren_while, expr_none tokens level i low _ e barren_while, longer_nothing)

    pub other_for : kind tokens i ≡ Some (Word keyword.FOR) → other_stmt tokens level inner in_parens within i ≡ longer (for_form tokens in_parens inner within i) (range_for_form tokens in_parens inner within i)
    unfolding other_stmt
    other_for e = simp (no_empty_form _ e refl, no_assert_form _ e refl, no_alias_form _ e refl, no_if_form _ e refl, no_while_form _ e refl, no_return_form _ e refl, no_break_form _ e refl, no_continue_form _ e refl, local_none tokens level i low _ e barren_for, assign_none tokens level i low _ e barren_for, expr_none tokens level i low _ e barren_for, longer_nothing)

    pub other_return : kind tokens i ≡ Some (Word keyword.RETURN) → other_stmt tokens level inner in_parens within i ≡ return_form tokens level i
    unfolding other_stmt
    other_return e = simp (no_empty_form _ e refl, no_assert_form _ e refl, no_alias_form _ e refl, no_if_form _ e refl, no_while_form _ e refl, no_for_form _ e refl, no_range_for_form _ e refl, no_break_form _ e refl, no_continue_form _ e refl, local_none tokens level i low _ e barren_return, assign_none tokens level i low _ e barren_return, expr_none tokens level i low _ e barren_return, longer_nothing)

    pub other_break : kind tokens i ≡ Some (Word keyword.BREAK) → other_stmt tokens level inner in_parens within i ≡ break_form tokens within i
    unfolding other_stmt
    other_break e = simp (no_empty_form _ e refl, no_assert_form _ e refl, no_alias_form _ e refl, no_if_form _ e refl, no_while_form _ e refl, no_for_form _ e refl, no_range_for_form _ e refl, no_return_form _ e refl, no_continue_form _ e refl, local_none tokens level i low _ e barren_break, assign_none tokens level i low _ e barren_break, expr_none tokens level i low _ e barren_break, longer_nothing)

    pub other_continue : kind tokens i ≡ Some (Word keyword.CONTINUE) → other_stmt tokens level inner in_parens within i ≡ continue_form tokens within i
    unfolding other_stmt
    other_continue e = simp (no_empty_form _ e refl, no_assert_form _ e refl, no_alias_form _ e refl, no_if_form _ e refl, no_while_form _ e refl, no_for_form _ e refl, no_range_for_form _ e refl, no_return_form _ e refl, no_break_form _ e refl, local_none tokens level i low _ e barren_continue, assign_none tokens level i low _ e barren_continue, expr_none tokens level i low _ e barren_continue)

    pub other_word : (n : ℕ) → kind tokens i ≡ Some (Word n) → (n ≡ keyword.IF → ⊥) → (n ≡ keyword.WHILE → ⊥) → (n ≡ keyword.FOR → ⊥) → (n ≡ keyword.RETURN → ⊥) → (n ≡ keyword.BREAK → ⊥) → (n ≡ keyword.CONTINUE → ⊥) → (n ≡ keyword.USING → ⊥) → (n ≡ keyword.STATIC_ASSERT → ⊥)
        → other_stmt tokens level inner in_parens within i ≡ simple tokens level i
    unfolding other_stmt
    other_word n x a b c d e f g h = simp (no_empty_form _ x refl, no_assert_form _ x (ne_eqb n keyword.STATIC_ASSERT h), no_alias_form _ x (ne_eqb n keyword.USING g), no_if_form _ x (ne_eqb n keyword.IF a), no_while_form _ x (ne_eqb n keyword.WHILE b), no_for_form _ x (ne_eqb n keyword.FOR c), no_range_for_form _ x (ne_eqb n keyword.FOR c), no_return_form _ x (ne_eqb n keyword.RETURN d), no_break_form _ x (ne_eqb n keyword.BREAK e), no_continue_form _ x (ne_eqb n keyword.CONTINUE f), longer_nothing) (simple_is tokens level i low)

    pub other_punctuator : (n : ℕ) → kind tokens i ≡ Some (Punctuator n) → (n ≡ mark.SEMICOLON → ⊥) → other_stmt tokens level inner in_parens within i ≡ simple tokens level i
    unfolding other_stmt
    other_punctuator n e h = simp (no_empty_form _ e (ne_eqb n mark.SEMICOLON h), no_assert_form _ e refl, no_alias_form _ e refl, no_if_form _ e refl, no_while_form _ e refl, no_for_form _ e refl, no_range_for_form _ e refl, no_return_form _ e refl, no_break_form _ e refl, no_continue_form _ e refl, longer_nothing) (simple_is tokens level i low)

    pub other_identifier : kind tokens i ≡ Some Identifier → other_stmt tokens level inner in_parens within i ≡ simple tokens level i
    unfolding other_stmt
    other_identifier e = simp (no_empty_form _ e refl, no_assert_form _ e refl, no_alias_form _ e refl, no_if_form _ e refl, no_while_form _ e refl, no_for_form _ e refl, no_range_for_form _ e refl, no_return_form _ e refl, no_break_form _ e refl, no_continue_form _ e refl, longer_nothing) (simple_is tokens level i low)

    pub other_integer : kind tokens i ≡ Some Integer → other_stmt tokens level inner in_parens within i ≡ simple tokens level i
    unfolding other_stmt
    other_integer e = simp (no_empty_form _ e refl, no_assert_form _ e refl, no_alias_form _ e refl, no_if_form _ e refl, no_while_form _ e refl, no_for_form _ e refl, no_range_for_form _ e refl, no_return_form _ e refl, no_break_form _ e refl, no_continue_form _ e refl, longer_nothing) (simple_is tokens level i low)

    pub other_character : kind tokens i ≡ Some Character → other_stmt tokens level inner in_parens within i ≡ simple tokens level i
    unfolding other_stmt
    other_character e = simp (no_empty_form _ e refl, no_assert_form _ e refl, no_alias_form _ e refl, no_if_form _ e refl, no_while_form _ e refl, no_for_form _ e refl, no_range_for_form _ e refl, no_return_form _ e refl, no_break_form _ e refl, no_continue_form _ e refl, longer_nothing) (simple_is tokens level i low)

    pub other_text : kind tokens i ≡ Some Text → other_stmt tokens level inner in_parens within i ≡ simple tokens level i
    unfolding other_stmt
    other_text e = simp (no_empty_form _ e refl, no_assert_form _ e refl, no_alias_form _ e refl, no_if_form _ e refl, no_while_form _ e refl, no_for_form _ e refl, no_range_for_form _ e refl, no_return_form _ e refl, no_break_form _ e refl, no_continue_form _ e refl, longer_nothing) (simple_is tokens level i low)

    pub other_none : kind tokens i ≡ None → other_stmt tokens level inner in_parens within i ≡ simple tokens level i
    unfolding other_stmt
    other_none e = simp (no_empty_form _ e refl, no_assert_form _ e refl, no_alias_form _ e refl, no_if_form _ e refl, no_while_form _ e refl, no_for_form _ e refl, no_range_for_form _ e refl, no_return_form _ e refl, no_break_form _ e refl, no_continue_form _ e refl, longer_nothing) (simple_is tokens level i low)

    pub other_at_struct : kind tokens i ≡ Some (Word keyword.STRUCT) → other_stmt tokens level inner in_parens within i ≡ No Nothing
    unfolding other_stmt
    other_at_struct e = simp (no_empty_form _ e refl, no_assert_form _ e refl, no_alias_form _ e refl, no_if_form _ e refl, no_while_form _ e refl, no_for_form _ e refl, no_range_for_form _ e refl, no_return_form _ e refl, no_break_form _ e refl, no_continue_form _ e refl, local_none tokens level i low _ e barren_struct, assign_none tokens level i low _ e barren_struct, expr_none tokens level i low _ e barren_struct)

    pub other_at_class : kind tokens i ≡ Some (Word keyword.CLASS) → other_stmt tokens level inner in_parens within i ≡ No Nothing
    unfolding other_stmt
    other_at_class e = simp (no_empty_form _ e refl, no_assert_form _ e refl, no_alias_form _ e refl, no_if_form _ e refl, no_while_form _ e refl, no_for_form _ e refl, no_range_for_form _ e refl, no_return_form _ e refl, no_break_form _ e refl, no_continue_form _ e refl, local_none tokens level i low _ e barren_class, assign_none tokens level i low _ e barren_class, expr_none tokens level i low _ e barren_class)

    pub other_at_consteval : kind tokens i ≡ Some (Word keyword.CONSTEVAL) → other_stmt tokens level inner in_parens within i ≡ No Nothing
    unfolding other_stmt
    other_at_consteval e = simp (no_empty_form _ e refl, no_assert_form _ e refl, no_alias_form _ e refl, no_if_form _ e refl, no_while_form _ e refl, no_for_form _ e refl, no_range_for_form _ e refl, no_return_form _ e refl, no_break_form _ e refl, no_continue_form _ e refl, local_none tokens level i low _ e barren_consteval, assign_none tokens level i low _ e barren_consteval, expr_none tokens level i low _ e barren_consteval)

    -- ---- nothing else where braces are a statement's own

    no_simple_at_brace : kind tokens i ≡ Some (Punctuator mark.LEFT_BRACE) → simple tokens level i ≡ No Nothing
    unfolding simple worked closed closed_placed
    no_simple_at_brace e =
        let b : begins_local tokens i ≡ false = begins_at_punctuator tokens i mark.LEFT_BRACE e ∙ simp (no_any_name tokens i _ e refl) in
        let s : is_step (kind tokens i) ≡ false = rw e refl in
        let u : (read tokens level).unary i ≡ No Nothing = no_unary_at_mark tokens level i (below level low) (before level low) mark.LEFT_BRACE e refl refl refl refl refl in
        simp (b, s, u)

    pub other_at_brace : kind tokens i ≡ Some (Punctuator mark.LEFT_BRACE) → other_stmt tokens level inner in_parens within i ≡ No Nothing
    other_at_brace e = other_punctuator mark.LEFT_BRACE e (λ g. cc) ∙ no_simple_at_brace e

pub ruleset other_arms = (other_semicolon, other_assert, other_alias, other_if, other_while, other_for, other_return, other_break, other_continue, other_word, other_punctuator, other_identifier, other_integer, other_character, other_text, other_none)
