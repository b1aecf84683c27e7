-- What a member and a declaration are, by their first tokens.
use Rattle.std.proofs.Common.{◌≡◌, ℕ, ◌+◌, ◌≤◌, Bool, true, false, ◌&&◌, ◌||◌, ◌==◌, Option, Some, None, refl, subst, sym}
use Rattle.std.specs.Option.{is_some}
use Rattle.std.proofs.lemmas.Bool.{eqb-true}
use Rattle.cxx_tokens.specs.declared.token.Tokens.{Tokens}
use Rattle.cxx_tokens.specs.declared.mark.TheConstants.{SEMICOLON, LEFT_BRACE}
use Rattle.cxx_tokens.specs.declared.keyword.TheConstants.{NAMESPACE, USING, STRUCT, CLASS, ENUM, STATIC_ASSERT, CONSTEVAL, PUBLIC, PROTECTED, PRIVATE}
use Rattle.cxx_reading.specs.declared.seen.Seen.{Seen}
use Rattle.cxx_reading.specs.declared.seen.Seen.TheVariants.{Identifier, Integer, Character, Text, Word, Punctuator}
use Rattle.cxx_reading.specs.Reading.{No, Nothing, kind, is_punctuator, is_word}
use Rattle.cxx_reading.proofs.Factor.{assoc}
use Rattle.cxx_reading.proofs.Starts.{or_left, or_right, is_that_punctuator, is_that_word, longer_nothing}
use Rattle.cxx_grammar.specs.Nests.{Nests}
use Rattle.cxx_grammar.specs.Declarations.{key_of_word}
use Rattle.cxx_grammar.specs.Classes.{access_of_word, access_member, empty_member, alias_member, enum_member, assert_member, block_member, class_member, namespace_decl, alias_decl, enum_decl, assert_decl, block_decl, class_decl, member, decl}
use Rattle.parse_class.specs.Joined.{is_access, is_key, is_plain, plain_alias, plain_enum, plain_assert, plain_block, plain_class, plain, plain_decl, plain_member, declared_decl, member_declared}
use Rattle.parse_class.proofs.Joins.{member_declared_is, decl_declared_is}
use Rattle.parse_class.proofs.Blocks.{no_block_at, no_block_decl_at, no_data_at_block, no_function_at_block, no_constructor_at_block, no_destructor_at_block, no_function_decl_at_block, no_variable_decl_at_block}
use Rattle.parse_class.proofs.Nothing.{no_access_member, no_empty_member, no_alias_member, no_class_member, no_enum_member, no_assert_member, no_block_member, no_data_member, no_function_member, no_constructor_member, no_destructor_member, no_namespace_decl, no_alias_decl, no_class_decl, no_enum_decl, no_assert_decl, no_block_decl, no_function_declared, no_variable_declared}

-- ---- the words of a table

-- a property of a word that holds of each word of a table holds where the table has an entry
of_key_word : (P : ℕ → Type 0) → P STRUCT → P CLASS → (n : ℕ) (a b : Bool) → (n == STRUCT) ≡ a → (n == CLASS) ≡ b → is_some (key_of_word n) ≡ true → P n
of_key_word P p q n true b e f h = subst P (sym (eqb-true n STRUCT e)) p
of_key_word P p q n false true e f h = subst P (sym (eqb-true n CLASS f)) q
of_key_word P p q n false false e f h = let none : is_some (key_of_word n) ≡ false = simp (e, f) in cc

of_key : (P : Option Seen → Type 0) → P (Some (Word STRUCT)) → P (Some (Word CLASS)) → (k : Option Seen) → is_key k ≡ true → P k
of_key P p q (Some (Word n)) h = of_key_word (λ (m : ℕ). P (Some (Word m))) p q n (n == STRUCT) (n == CLASS) refl refl h
of_key P p q (Some (Punctuator n)) h = cc
of_key P p q (Some Identifier) h = cc
of_key P p q (Some Integer) h = cc
of_key P p q (Some Character) h = cc
of_key P p q (Some Text) h = cc
of_key P p q None h = cc

of_access_word : (P : ℕ → Type 0) → P PUBLIC → P PROTECTED → P PRIVATE → (n : ℕ) (a b c : Bool) → (n == PUBLIC) ≡ a → (n == PROTECTED) ≡ b → (n == PRIVATE) ≡ c → is_some (access_of_word n) ≡ true → P n
of_access_word P p q r n true b c e f g h = subst P (sym (eqb-true n PUBLIC e)) p
of_access_word P p q r n false true c e f g h = subst P (sym (eqb-true n PROTECTED f)) q
of_access_word P p q r n false false true e f g h = subst P (sym (eqb-true n PRIVATE g)) r
of_access_word P p q r n false false false e f g h = let none : is_some (access_of_word n) ≡ false = simp (e, f, g) in cc

of_access : (P : Option Seen → Type 0) → P (Some (Word PUBLIC)) → P (Some (Word PROTECTED)) → P (Some (Word PRIVATE)) → (k : Option Seen) → is_access k ≡ true → P k
of_access P p q r (Some (Word n)) h = of_access_word (λ (m : ℕ). P (Some (Word m))) p q r n (n == PUBLIC) (n == PROTECTED) (n == PRIVATE) refl refl refl h
of_access P p q r (Some (Punctuator n)) h = cc
of_access P p q r (Some Identifier) h = cc
of_access P p q r (Some Integer) h = cc
of_access P p q r (Some Character) h = cc
of_access P p q r (Some Text) h = cc
of_access P p q r None h = cc

both_left : (a b : Bool) → (a && b) ≡ true → a ≡ true
both_left true b h = refl
both_left false b h = h

both_right : (a b : Bool) → (a && b) ≡ true → b ≡ true
both_right true b h = h
both_right false b h = cc

module _ (tokens : Tokens) (level : ℕ) (low : level ≤ 256) (inner : Nests) (i : ℕ) where
  -- ---- members that a word of their own tells

  member_alias : kind tokens i ≡ Some (Word USING) → member tokens level inner i ≡ plain_member tokens level inner i
  unfolding member plain_member plain plain_alias alias_member
  member_alias e = simp (e, no_access_member tokens i (Some (Word USING)) e refl, no_empty_member tokens i (Some (Word USING)) e refl, no_class_member tokens i (Some (Word USING)) e level inner refl, no_enum_member tokens i (Some (Word USING)) e level inner refl, no_assert_member tokens i (Some (Word USING)) e level inner refl, no_block_member tokens i (Some (Word USING)) e level inner refl, no_data_member tokens i (Some (Word USING)) e level inner low refl refl, no_function_member tokens i (Some (Word USING)) e level inner low refl refl, no_constructor_member tokens i (Some (Word USING)) e level inner low refl refl refl refl, no_destructor_member tokens i (Some (Word USING)) e level inner low refl refl refl, longer_nothing, assoc)

  member_enum : kind tokens i ≡ Some (Word ENUM) → member tokens level inner i ≡ plain_member tokens level inner i
  unfolding member plain_member plain plain_enum enum_member
  member_enum e = simp (e, no_access_member tokens i (Some (Word ENUM)) e refl, no_empty_member tokens i (Some (Word ENUM)) e refl, no_alias_member tokens i (Some (Word ENUM)) e level inner refl, no_class_member tokens i (Some (Word ENUM)) e level inner refl, no_assert_member tokens i (Some (Word ENUM)) e level inner refl, no_block_member tokens i (Some (Word ENUM)) e level inner refl, no_data_member tokens i (Some (Word ENUM)) e level inner low refl refl, no_function_member tokens i (Some (Word ENUM)) e level inner low refl refl, no_constructor_member tokens i (Some (Word ENUM)) e level inner low refl refl refl refl, no_destructor_member tokens i (Some (Word ENUM)) e level inner low refl refl refl, longer_nothing, assoc)

  member_assert : kind tokens i ≡ Some (Word STATIC_ASSERT) → member tokens level inner i ≡ plain_member tokens level inner i
  unfolding member plain_member plain plain_assert assert_member
  member_assert e = simp (e, no_access_member tokens i (Some (Word STATIC_ASSERT)) e refl, no_empty_member tokens i (Some (Word STATIC_ASSERT)) e refl, no_alias_member tokens i (Some (Word STATIC_ASSERT)) e level inner refl, no_class_member tokens i (Some (Word STATIC_ASSERT)) e level inner refl, no_enum_member tokens i (Some (Word STATIC_ASSERT)) e level inner refl, no_block_member tokens i (Some (Word STATIC_ASSERT)) e level inner refl, no_data_member tokens i (Some (Word STATIC_ASSERT)) e level inner low refl refl, no_function_member tokens i (Some (Word STATIC_ASSERT)) e level inner low refl refl, no_constructor_member tokens i (Some (Word STATIC_ASSERT)) e level inner low refl refl refl refl, no_destructor_member tokens i (Some (Word STATIC_ASSERT)) e level inner low refl refl refl, longer_nothing, assoc)

  member_struct : kind tokens i ≡ Some (Word STRUCT) → member tokens level inner i ≡ plain_member tokens level inner i
  unfolding member plain_member plain plain_class class_member
  member_struct e = simp (e, no_access_member tokens i (Some (Word STRUCT)) e refl, no_empty_member tokens i (Some (Word STRUCT)) e refl, no_alias_member tokens i (Some (Word STRUCT)) e level inner refl, no_enum_member tokens i (Some (Word STRUCT)) e level inner refl, no_assert_member tokens i (Some (Word STRUCT)) e level inner refl, no_block_member tokens i (Some (Word STRUCT)) e level inner refl, no_data_member tokens i (Some (Word STRUCT)) e level inner low refl refl, no_function_member tokens i (Some (Word STRUCT)) e level inner low refl refl, no_constructor_member tokens i (Some (Word STRUCT)) e level inner low refl refl refl refl, no_destructor_member tokens i (Some (Word STRUCT)) e level inner low refl refl refl, longer_nothing, assoc)

  member_class : kind tokens i ≡ Some (Word CLASS) → member tokens level inner i ≡ plain_member tokens level inner i
  unfolding member plain_member plain plain_class class_member
  member_class e = simp (e, no_access_member tokens i (Some (Word CLASS)) e refl, no_empty_member tokens i (Some (Word CLASS)) e refl, no_alias_member tokens i (Some (Word CLASS)) e level inner refl, no_enum_member tokens i (Some (Word CLASS)) e level inner refl, no_assert_member tokens i (Some (Word CLASS)) e level inner refl, no_block_member tokens i (Some (Word CLASS)) e level inner refl, no_data_member tokens i (Some (Word CLASS)) e level inner low refl refl, no_function_member tokens i (Some (Word CLASS)) e level inner low refl refl, no_constructor_member tokens i (Some (Word CLASS)) e level inner low refl refl refl refl, no_destructor_member tokens i (Some (Word CLASS)) e level inner low refl refl refl, longer_nothing, assoc)

  member_block : kind tokens i ≡ Some (Word CONSTEVAL) → kind tokens (i + 1) ≡ Some (Punctuator LEFT_BRACE) → member tokens level inner i ≡ plain_member tokens level inner i
  unfolding member plain_member plain plain_block block_member
  member_block e brace = simp (e, no_access_member tokens i (Some (Word CONSTEVAL)) e refl, no_empty_member tokens i (Some (Word CONSTEVAL)) e refl, no_alias_member tokens i (Some (Word CONSTEVAL)) e level inner refl, no_class_member tokens i (Some (Word CONSTEVAL)) e level inner refl, no_enum_member tokens i (Some (Word CONSTEVAL)) e level inner refl, no_assert_member tokens i (Some (Word CONSTEVAL)) e level inner refl, no_data_at_block tokens level inner low i e brace, no_function_at_block tokens level inner low i e brace, no_constructor_at_block tokens level inner low i e brace, no_destructor_at_block tokens level inner low i e brace, longer_nothing, assoc)

  -- ---- declarations that a word of their own tells

  decl_alias : kind tokens i ≡ Some (Word USING) → decl tokens level inner i ≡ plain_decl tokens level inner i
  unfolding decl plain_decl plain plain_alias alias_decl
  decl_alias e = simp (e, no_namespace_decl tokens i (Some (Word USING)) e level inner refl, no_class_decl tokens i (Some (Word USING)) e level inner refl, no_enum_decl tokens i (Some (Word USING)) e level inner refl, no_function_declared tokens i (Some (Word USING)) e level inner low refl refl, no_variable_declared tokens i (Some (Word USING)) e level inner low refl refl, no_assert_decl tokens i (Some (Word USING)) e level inner refl, no_block_decl tokens i (Some (Word USING)) e level inner refl, longer_nothing, assoc)

  decl_enum : kind tokens i ≡ Some (Word ENUM) → decl tokens level inner i ≡ plain_decl tokens level inner i
  unfolding decl plain_decl plain plain_enum enum_decl
  decl_enum e = simp (e, no_namespace_decl tokens i (Some (Word ENUM)) e level inner refl, no_alias_decl tokens i (Some (Word ENUM)) e level inner refl, no_class_decl tokens i (Some (Word ENUM)) e level inner refl, no_function_declared tokens i (Some (Word ENUM)) e level inner low refl refl, no_variable_declared tokens i (Some (Word ENUM)) e level inner low refl refl, no_assert_decl tokens i (Some (Word ENUM)) e level inner refl, no_block_decl tokens i (Some (Word ENUM)) e level inner refl, longer_nothing, assoc)

  decl_assert : kind tokens i ≡ Some (Word STATIC_ASSERT) → decl tokens level inner i ≡ plain_decl tokens level inner i
  unfolding decl plain_decl plain plain_assert assert_decl
  decl_assert e = simp (e, no_namespace_decl tokens i (Some (Word STATIC_ASSERT)) e level inner refl, no_alias_decl tokens i (Some (Word STATIC_ASSERT)) e level inner refl, no_class_decl tokens i (Some (Word STATIC_ASSERT)) e level inner refl, no_enum_decl tokens i (Some (Word STATIC_ASSERT)) e level inner refl, no_function_declared tokens i (Some (Word STATIC_ASSERT)) e level inner low refl refl, no_variable_declared tokens i (Some (Word STATIC_ASSERT)) e level inner low refl refl, no_block_decl tokens i (Some (Word STATIC_ASSERT)) e level inner refl, longer_nothing, assoc)

  decl_struct : kind tokens i ≡ Some (Word STRUCT) → decl tokens level inner i ≡ plain_decl tokens level inner i
  unfolding decl plain_decl plain plain_class class_decl
  decl_struct e = simp (e, no_namespace_decl tokens i (Some (Word STRUCT)) e level inner refl, no_alias_decl tokens i (Some (Word STRUCT)) e level inner refl, no_enum_decl tokens i (Some (Word STRUCT)) e level inner refl, no_function_declared tokens i (Some (Word STRUCT)) e level inner low refl refl, no_variable_declared tokens i (Some (Word STRUCT)) e level inner low refl refl, no_assert_decl tokens i (Some (Word STRUCT)) e level inner refl, no_block_decl tokens i (Some (Word STRUCT)) e level inner refl, longer_nothing, assoc)

  decl_class : kind tokens i ≡ Some (Word CLASS) → decl tokens level inner i ≡ plain_decl tokens level inner i
  unfolding decl plain_decl plain plain_class class_decl
  decl_class e = simp (e, no_namespace_decl tokens i (Some (Word CLASS)) e level inner refl, no_alias_decl tokens i (Some (Word CLASS)) e level inner refl, no_enum_decl tokens i (Some (Word CLASS)) e level inner refl, no_function_declared tokens i (Some (Word CLASS)) e level inner low refl refl, no_variable_declared tokens i (Some (Word CLASS)) e level inner low refl refl, no_assert_decl tokens i (Some (Word CLASS)) e level inner refl, no_block_decl tokens i (Some (Word CLASS)) e level inner refl, longer_nothing, assoc)

  decl_block : kind tokens i ≡ Some (Word CONSTEVAL) → kind tokens (i + 1) ≡ Some (Punctuator LEFT_BRACE) → decl tokens level inner i ≡ plain_decl tokens level inner i
  unfolding decl plain_decl plain plain_block block_decl
  decl_block e brace = simp (e, no_namespace_decl tokens i (Some (Word CONSTEVAL)) e level inner refl, no_alias_decl tokens i (Some (Word CONSTEVAL)) e level inner refl, no_class_decl tokens i (Some (Word CONSTEVAL)) e level inner refl, no_enum_decl tokens i (Some (Word CONSTEVAL)) e level inner refl, no_assert_decl tokens i (Some (Word CONSTEVAL)) e level inner refl, no_function_decl_at_block tokens level inner low i e brace, no_variable_decl_at_block tokens level inner low i e brace, assoc)

  -- ---- both, by the test of the first tokens

  of_plain : (P : Type 0) → (kind tokens i ≡ Some (Word USING) → P) → (kind tokens i ≡ Some (Word STRUCT) → P) → (kind tokens i ≡ Some (Word CLASS) → P) → (kind tokens i ≡ Some (Word ENUM) → P) → (kind tokens i ≡ Some (Word STATIC_ASSERT) → P)
      → (kind tokens i ≡ Some (Word CONSTEVAL) → kind tokens (i + 1) ≡ Some (Punctuator LEFT_BRACE) → P) → (a b c d : Bool)
      → is_word USING (kind tokens i) ≡ a → is_key (kind tokens i) ≡ b → is_word ENUM (kind tokens i) ≡ c → is_word STATIC_ASSERT (kind tokens i) ≡ d
      → (a || (b || (c || (d || (is_word CONSTEVAL (kind tokens i) && is_punctuator LEFT_BRACE (kind tokens (i + 1))))))) ≡ true → P
  of_plain P p q r s t u true b c d e f g h x = p (is_that_word USING (kind tokens i) e)
  of_plain P p q r s t u false true c d e f g h x = of_key (λ (k : Option Seen). kind tokens i ≡ k → P) q r (kind tokens i) f refl
  of_plain P p q r s t u false false true d e f g h x = s (is_that_word ENUM (kind tokens i) g)
  of_plain P p q r s t u false false false true e f g h x = t (is_that_word STATIC_ASSERT (kind tokens i) h)
  of_plain P p q r s t u false false false false e f g h x =
      u (is_that_word CONSTEVAL (kind tokens i) (both_left (is_word CONSTEVAL (kind tokens i)) (is_punctuator LEFT_BRACE (kind tokens (i + 1))) x))
      (is_that_punctuator LEFT_BRACE (kind tokens (i + 1)) (both_right (is_word CONSTEVAL (kind tokens i)) (is_punctuator LEFT_BRACE (kind tokens (i + 1))) x))

  pub member_plain : is_plain (kind tokens i) (kind tokens (i + 1)) ≡ true → member tokens level inner i ≡ plain_member tokens level inner i
  member_plain h = of_plain (member tokens level inner i ≡ plain_member tokens level inner i) member_alias member_struct member_class member_enum member_assert member_block
      (is_word USING (kind tokens i)) (is_key (kind tokens i)) (is_word ENUM (kind tokens i)) (is_word STATIC_ASSERT (kind tokens i)) refl refl refl refl h

  pub decl_plain : is_plain (kind tokens i) (kind tokens (i + 1)) ≡ true → decl tokens level inner i ≡ plain_decl tokens level inner i
  decl_plain h = of_plain (decl tokens level inner i ≡ plain_decl tokens level inner i) decl_alias decl_struct decl_class decl_enum decl_assert decl_block
      (is_word USING (kind tokens i)) (is_key (kind tokens i)) (is_word ENUM (kind tokens i)) (is_word STATIC_ASSERT (kind tokens i)) refl refl refl refl h

  -- ---- the others

  pub member_empty : is_punctuator SEMICOLON (kind tokens i) ≡ true → member tokens level inner i ≡ empty_member tokens i
  unfolding member
  member_empty h =
      let e : kind tokens i ≡ Some (Punctuator SEMICOLON) = is_that_punctuator SEMICOLON (kind tokens i) h in
      simp (no_access_member tokens i (Some (Punctuator SEMICOLON)) e refl, no_alias_member tokens i (Some (Punctuator SEMICOLON)) e level inner refl, no_class_member tokens i (Some (Punctuator SEMICOLON)) e level inner refl, no_enum_member tokens i (Some (Punctuator SEMICOLON)) e level inner refl, no_assert_member tokens i (Some (Punctuator SEMICOLON)) e level inner refl, no_block_member tokens i (Some (Punctuator SEMICOLON)) e level inner refl, no_data_member tokens i (Some (Punctuator SEMICOLON)) e level inner low refl refl, no_function_member tokens i (Some (Punctuator SEMICOLON)) e level inner low refl refl, no_constructor_member tokens i (Some (Punctuator SEMICOLON)) e level inner low refl refl refl refl, no_destructor_member tokens i (Some (Punctuator SEMICOLON)) e level inner low refl refl refl, longer_nothing)

  at_public : kind tokens i ≡ Some (Word PUBLIC) → member tokens level inner i ≡ access_member tokens i
  unfolding member
  at_public e = simp (no_empty_member tokens i (Some (Word PUBLIC)) e refl, no_alias_member tokens i (Some (Word PUBLIC)) e level inner refl, no_class_member tokens i (Some (Word PUBLIC)) e level inner refl, no_enum_member tokens i (Some (Word PUBLIC)) e level inner refl, no_assert_member tokens i (Some (Word PUBLIC)) e level inner refl, no_block_member tokens i (Some (Word PUBLIC)) e level inner refl, no_data_member tokens i (Some (Word PUBLIC)) e level inner low refl refl, no_function_member tokens i (Some (Word PUBLIC)) e level inner low refl refl, no_constructor_member tokens i (Some (Word PUBLIC)) e level inner low refl refl refl refl, no_destructor_member tokens i (Some (Word PUBLIC)) e level inner low refl refl refl, longer_nothing)

  at_protected : kind tokens i ≡ Some (Word PROTECTED) → member tokens level inner i ≡ access_member tokens i
  unfolding member
  at_protected e = simp (no_empty_member tokens i (Some (Word PROTECTED)) e refl, no_alias_member tokens i (Some (Word PROTECTED)) e level inner refl, no_class_member tokens i (Some (Word PROTECTED)) e level inner refl, no_enum_member tokens i (Some (Word PROTECTED)) e level inner refl, no_assert_member tokens i (Some (Word PROTECTED)) e level inner refl, no_block_member tokens i (Some (Word PROTECTED)) e level inner refl, no_data_member tokens i (Some (Word PROTECTED)) e level inner low refl refl, no_function_member tokens i (Some (Word PROTECTED)) e level inner low refl refl, no_constructor_member tokens i (Some (Word PROTECTED)) e level inner low refl refl refl refl, no_destructor_member tokens i (Some (Word PROTECTED)) e level inner low refl refl refl, longer_nothing)

  at_private : kind tokens i ≡ Some (Word PRIVATE) → member tokens level inner i ≡ access_member tokens i
  unfolding member
  at_private e = simp (no_empty_member tokens i (Some (Word PRIVATE)) e refl, no_alias_member tokens i (Some (Word PRIVATE)) e level inner refl, no_class_member tokens i (Some (Word PRIVATE)) e level inner refl, no_enum_member tokens i (Some (Word PRIVATE)) e level inner refl, no_assert_member tokens i (Some (Word PRIVATE)) e level inner refl, no_block_member tokens i (Some (Word PRIVATE)) e level inner refl, no_data_member tokens i (Some (Word PRIVATE)) e level inner low refl refl, no_function_member tokens i (Some (Word PRIVATE)) e level inner low refl refl, no_constructor_member tokens i (Some (Word PRIVATE)) e level inner low refl refl refl refl, no_destructor_member tokens i (Some (Word PRIVATE)) e level inner low refl refl refl, longer_nothing)

  pub member_access : is_access (kind tokens i) ≡ true → member tokens level inner i ≡ access_member tokens i
  member_access h = of_access (λ (k : Option Seen). kind tokens i ≡ k → member tokens level inner i ≡ access_member tokens i) at_public at_protected at_private (kind tokens i) h refl

  pub decl_namespace : is_word NAMESPACE (kind tokens i) ≡ true → decl tokens level inner i ≡ namespace_decl tokens level i
  unfolding decl
  decl_namespace h =
      let e : kind tokens i ≡ Some (Word NAMESPACE) = is_that_word NAMESPACE (kind tokens i) h in
      simp (no_alias_decl tokens i (Some (Word NAMESPACE)) e level inner refl, no_class_decl tokens i (Some (Word NAMESPACE)) e level inner refl, no_enum_decl tokens i (Some (Word NAMESPACE)) e level inner refl, no_function_declared tokens i (Some (Word NAMESPACE)) e level inner low refl refl, no_variable_declared tokens i (Some (Word NAMESPACE)) e level inner low refl refl, no_assert_decl tokens i (Some (Word NAMESPACE)) e level inner refl, no_block_decl tokens i (Some (Word NAMESPACE)) e level inner refl, longer_nothing)

  -- what is left is a function or a variable, or in a class a constructor or a destructor

  no_block_by : (c : Bool) → is_word CONSTEVAL (kind tokens i) ≡ c → (c && is_punctuator LEFT_BRACE (kind tokens (i + 1))) ≡ false → (block_member tokens level inner i ≡ No Nothing) × (block_decl tokens level inner i ≡ No Nothing)
  no_block_by true e h = let word : kind tokens i ≡ Some (Word CONSTEVAL) = is_that_word CONSTEVAL (kind tokens i) e in (no_block_at tokens level inner i word h, no_block_decl_at tokens level inner i word h)
  no_block_by false e h = (no_block_member tokens i (kind tokens i) refl level inner e, no_block_decl tokens i (kind tokens i) refl level inner e)

  module _ (h : is_plain (kind tokens i) (kind tokens (i + 1)) ≡ false) where
    no_using : is_word USING (kind tokens i) ≡ false
    no_using = or_left _ _ h

    later : (is_key (kind tokens i) || (is_word ENUM (kind tokens i) || (is_word STATIC_ASSERT (kind tokens i) || (is_word CONSTEVAL (kind tokens i) && is_punctuator LEFT_BRACE (kind tokens (i + 1)))))) ≡ false
    later = or_right (is_word USING (kind tokens i)) _ h

    no_class_key : is_key (kind tokens i) ≡ false
    no_class_key = or_left _ _ later

    still_later : (is_word ENUM (kind tokens i) || (is_word STATIC_ASSERT (kind tokens i) || (is_word CONSTEVAL (kind tokens i) && is_punctuator LEFT_BRACE (kind tokens (i + 1))))) ≡ false
    still_later = or_right (is_key (kind tokens i)) _ later

    no_enum : is_word ENUM (kind tokens i) ≡ false
    no_enum = or_left _ _ still_later

    last : (is_word STATIC_ASSERT (kind tokens i) || (is_word CONSTEVAL (kind tokens i) && is_punctuator LEFT_BRACE (kind tokens (i + 1)))) ≡ false
    last = or_right (is_word ENUM (kind tokens i)) _ still_later

    no_assert : is_word STATIC_ASSERT (kind tokens i) ≡ false
    no_assert = or_left _ _ last

    no_blocks : (block_member tokens level inner i ≡ No Nothing) × (block_decl tokens level inner i ≡ No Nothing)
    no_blocks = no_block_by (is_word CONSTEVAL (kind tokens i)) refl (or_right (is_word STATIC_ASSERT (kind tokens i)) _ last)

    pub member_other : is_punctuator SEMICOLON (kind tokens i) ≡ false → is_access (kind tokens i) ≡ false → member tokens level inner i ≡ member_declared tokens level inner i
    unfolding member
    member_other s a = simp (no_access_member tokens i (kind tokens i) refl a, no_empty_member tokens i (kind tokens i) refl s, no_alias_member tokens i (kind tokens i) refl level inner no_using, no_class_member tokens i (kind tokens i) refl level inner no_class_key, no_enum_member tokens i (kind tokens i) refl level inner no_enum, no_assert_member tokens i (kind tokens i) refl level inner no_assert, no_blocks.0) (member_declared_is tokens level low inner i)

    pub decl_other : is_word NAMESPACE (kind tokens i) ≡ false → decl tokens level inner i ≡ declared_decl tokens level inner i
    unfolding decl
    decl_other n = simp (no_namespace_decl tokens i (kind tokens i) refl level inner n, no_alias_decl tokens i (kind tokens i) refl level inner no_using, no_class_decl tokens i (kind tokens i) refl level inner no_class_key, no_enum_decl tokens i (kind tokens i) refl level inner no_enum, no_assert_decl tokens i (kind tokens i) refl level inner no_assert, no_blocks.1, longer_nothing) (decl_declared_is tokens level low inner i)

pub ruleset member_arms = (member_plain, member_empty, member_access, member_other)

pub ruleset decl_arms = (decl_plain, decl_namespace, decl_other)
