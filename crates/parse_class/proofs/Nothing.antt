-- What members, declarations and items give where their first token does not stand.
use Rattle.std.proofs.Common.{◌≡◌, ℕ, ◌+◌, ◌≤◌, Bool, false, Option, Some, None, refl, ◌∙◌}
use Rattle.std.specs.Option.{is_some}
use Rattle.cxx_tokens.specs.declared.token.Tokens.{Tokens}
use Rattle.cxx_tokens.specs.declared.mark.TheConstants.{SEMICOLON, TILDE}
use Rattle.cxx_tokens.specs.declared.keyword.TheConstants.{NAMESPACE, USING, ENUM, STATIC_ASSERT, CONSTEVAL}
use Rattle.cxx_reading.specs.declared.seen.Seen.{Seen}
use Rattle.cxx_reading.specs.declared.seen.Seen.TheVariants.{Identifier, Integer, Character, Text, Word, Punctuator}
use Rattle.cxx_reading.specs.Any.{given, word_of, any_word}
use Rattle.cxx_reading.specs.Reading.{Tree, No, Nothing, and_then, kind, left, is_word, is_punctuator, is_identifier}
use Rattle.cxx_reading.proofs.Starts.{no_word_at, no_punctuator_at, no_identifier_at}
use Rattle.cxx_reading.proofs.Turns.{turns_none}
use Rattle.cxx_grammar.specs.Read.{read}
use Rattle.cxx_grammar.specs.Nests.{Nests}
use Rattle.cxx_grammar.specs.Locals.{assert, alias}
use Rattle.cxx_grammar.specs.Declarations.{no_words, with_spec, with_constructor_word, key_of_word, specifier, specifiers, constructor_word, constructor_words, key, namespace_alias, block, enumeration}
use Rattle.cxx_grammar.specs.Classes.{access_of_word, access, access_member, empty_member, alias_member, enum_member, assert_member, block_member, data_member, function_member, constructor_member, destructor_member, namespace_decl, alias_decl, enum_decl, function_decl, variable_decl, assert_decl, block_decl, class_declared, class_defined, class, class_member, class_decl}
use Rattle.cxx_grammar.proofs.Begins.{starts_type, no_given}
use Rattle.parse_class.specs.Joined.{is_access, is_key, constructor_behind, constructor_rest}
use Rattle.parse_class.proofs.Declarators.{no_type_here}
use Rattle.parse_class.proofs.Joins.{no_data, no_function, no_destructor, no_function_decl, no_variable_decl, constructor_by_words}

-- ---- words of a table

abbrev pub is_specifier : Option Seen → Bool
is_specifier (Some (Word n)) = is_some (with_spec no_words n)
is_specifier _ = false

abbrev pub is_constructor_word : Option Seen → Bool
is_constructor_word (Some (Word n)) = is_some (with_constructor_word no_words n)
is_constructor_word _ = false

no_access_of : (k : Option Seen) (j : ℕ) → is_access k ≡ false → and_then (word_of k j) (λ n. given (access_of_word n)) ≡ No Nothing
no_access_of (Some (Word n)) j h = no_given (access_of_word n) j h
no_access_of (Some (Punctuator n)) j h = refl
no_access_of (Some Identifier) j h = refl
no_access_of (Some Integer) j h = refl
no_access_of (Some Character) j h = refl
no_access_of (Some Text) j h = refl
no_access_of None j h = refl

no_key_of : (k : Option Seen) (j : ℕ) → is_key k ≡ false → and_then (word_of k j) (λ n. given (key_of_word n)) ≡ No Nothing
no_key_of (Some (Word n)) j h = no_given (key_of_word n) j h
no_key_of (Some (Punctuator n)) j h = refl
no_key_of (Some Identifier) j h = refl
no_key_of (Some Integer) j h = refl
no_key_of (Some Character) j h = refl
no_key_of (Some Text) j h = refl
no_key_of None j h = refl

no_specifier_of : (k : Option Seen) (j : ℕ) → is_specifier k ≡ false → and_then (word_of k j) (λ n. given (with_spec no_words n)) ≡ No Nothing
no_specifier_of (Some (Word n)) j h = no_given (with_spec no_words n) j h
no_specifier_of (Some (Punctuator n)) j h = refl
no_specifier_of (Some Identifier) j h = refl
no_specifier_of (Some Integer) j h = refl
no_specifier_of (Some Character) j h = refl
no_specifier_of (Some Text) j h = refl
no_specifier_of None j h = refl

no_constructor_of : (k : Option Seen) (j : ℕ) → is_constructor_word k ≡ false → and_then (word_of k j) (λ n. given (with_constructor_word no_words n)) ≡ No Nothing
no_constructor_of (Some (Word n)) j h = no_given (with_constructor_word no_words n) j h
no_constructor_of (Some (Punctuator n)) j h = refl
no_constructor_of (Some Identifier) j h = refl
no_constructor_of (Some Integer) j h = refl
no_constructor_of (Some Character) j h = refl
no_constructor_of (Some Text) j h = refl
no_constructor_of None j h = refl

module _ (tokens : Tokens) (i : ℕ) (k : Option Seen) (e : kind tokens i ≡ k) where
  no_access : is_access k ≡ false → access tokens i ≡ No Nothing
  unfolding access any_word
  no_access h = rw e (no_access_of k (i + 1) h)

  pub no_key : is_key k ≡ false → key tokens i ≡ No Nothing
  unfolding key any_word
  no_key h = rw e (no_key_of k (i + 1) h)

  no_specifier : is_specifier k ≡ false → specifier tokens no_words i ≡ No Nothing
  unfolding specifier any_word
  no_specifier h = rw e (no_specifier_of k (i + 1) h)

  no_constructor_word : is_constructor_word k ≡ false → constructor_word tokens no_words i ≡ No Nothing
  unfolding constructor_word any_word
  no_constructor_word h = rw e (no_constructor_of k (i + 1) h)

  pub no_specifiers : is_specifier k ≡ false → specifiers tokens no_words i ≡ Tree no_words i
  unfolding specifiers
  no_specifiers h = turns_none (specifier tokens) no_words i (left tokens i) (no_specifier h)

  no_constructor_words : is_constructor_word k ≡ false → constructor_words tokens no_words i ≡ Tree no_words i
  unfolding constructor_words
  no_constructor_words h = turns_none (constructor_word tokens) no_words i (left tokens i) (no_constructor_word h)

  -- ---- forms of members

  pub no_access_member : is_access k ≡ false → access_member tokens i ≡ No Nothing
  unfolding access_member
  no_access_member h = simp (no_access h)

  pub no_empty_member : is_punctuator SEMICOLON k ≡ false → empty_member tokens i ≡ No Nothing
  unfolding empty_member
  no_empty_member h = simp (no_punctuator_at tokens i k e SEMICOLON h)

  module _ (level : ℕ) (inner : Nests) where
    pub no_alias_member : is_word USING k ≡ false → alias_member tokens level i ≡ No Nothing
    unfolding alias_member alias
    no_alias_member h = simp (no_word_at tokens i k e USING h)

    pub no_enum_member : is_word ENUM k ≡ false → enum_member tokens level i ≡ No Nothing
    unfolding enum_member enumeration
    no_enum_member h = simp (no_word_at tokens i k e ENUM h)

    pub no_assert_member : is_word STATIC_ASSERT k ≡ false → assert_member tokens level i ≡ No Nothing
    unfolding assert_member assert
    no_assert_member h = simp (no_word_at tokens i k e STATIC_ASSERT h)

    pub no_block_member : is_word CONSTEVAL k ≡ false → block_member tokens level inner i ≡ No Nothing
    unfolding block_member block
    no_block_member h = simp (no_word_at tokens i k e CONSTEVAL h)

    pub no_class_member : is_key k ≡ false → class_member tokens level inner i ≡ No Nothing
    unfolding class_member class class_declared class_defined
    no_class_member h = simp (no_key h)

    -- ---- forms of declarations

    pub no_namespace_decl : is_word NAMESPACE k ≡ false → namespace_decl tokens level i ≡ No Nothing
    unfolding namespace_decl namespace_alias
    no_namespace_decl h = simp (no_word_at tokens i k e NAMESPACE h)

    pub no_alias_decl : is_word USING k ≡ false → alias_decl tokens level i ≡ No Nothing
    unfolding alias_decl alias
    no_alias_decl h = simp (no_word_at tokens i k e USING h)

    pub no_enum_decl : is_word ENUM k ≡ false → enum_decl tokens level i ≡ No Nothing
    unfolding enum_decl enumeration
    no_enum_decl h = simp (no_word_at tokens i k e ENUM h)

    pub no_assert_decl : is_word STATIC_ASSERT k ≡ false → assert_decl tokens level i ≡ No Nothing
    unfolding assert_decl assert
    no_assert_decl h = simp (no_word_at tokens i k e STATIC_ASSERT h)

    pub no_block_decl : is_word CONSTEVAL k ≡ false → block_decl tokens level inner i ≡ No Nothing
    unfolding block_decl block
    no_block_decl h = simp (no_word_at tokens i k e CONSTEVAL h)

    pub no_class_decl : is_key k ≡ false → class_decl tokens level inner i ≡ No Nothing
    unfolding class_decl class class_declared class_defined
    no_class_decl h = simp (no_key h)

    -- ---- what begins with specifiers

    module _ (low : level ≤ 256) (plain : is_specifier k ≡ false) (other : starts_type k ≡ false) where
      no_type_there : (read tokens level).type_tree i ≡ No Nothing
      no_type_there = no_type_here tokens level low i k e other

      pub no_data_member : data_member tokens level i ≡ No Nothing
      no_data_member = no_data tokens level low inner i no_words i (no_specifiers plain) no_type_there

      pub no_function_member : function_member tokens level inner i ≡ No Nothing
      no_function_member = no_function tokens level low inner i no_words i (no_specifiers plain) no_type_there

      pub no_function_declared : function_decl tokens level inner i ≡ No Nothing
      no_function_declared = no_function_decl tokens level low inner i no_words i (no_specifiers plain) no_type_there

      pub no_variable_declared : variable_decl tokens level i ≡ No Nothing
      no_variable_declared = no_variable_decl tokens level low inner i no_words i (no_specifiers plain) no_type_there

      pub no_destructor_member : is_punctuator TILDE k ≡ false → destructor_member tokens level inner i ≡ No Nothing
      no_destructor_member h = let f : is_punctuator TILDE (kind tokens i) ≡ false = rw e h in no_destructor tokens level low inner i no_words i (no_specifiers plain) f

      pub no_constructor_member : is_constructor_word k ≡ false → is_identifier k ≡ false → constructor_member tokens level inner i ≡ No Nothing
      unfolding constructor_behind constructor_rest
      no_constructor_member c n = constructor_by_words tokens level low inner i no_words i (no_specifiers plain) (no_constructor_words c) ∙ simp (no_identifier_at tokens i k e n)
