-- At most one of the forms of an item begins with a token, or they are told apart by the token behind the name.
use Rattle.std.proofs.Common.{◌≡◌, ℕ, ◌+◌, ◌≤◌, Bool, true, false, ◌∷◌, [], Option, Some, None, refl, inl, inr, arith}
use Rattle.std.proofs.lemmas.Bool.{ne_eqb}
use Rattle.cxx_tree.specs.declared.identifier.Identifier.{Identifier as IdentifierTree}
use Rattle.cxx_tokens.specs.declared.token.Tokens.{Tokens}
use Rattle.cxx_tokens.specs.declared.mark.TheConstants.{EQUAL, LEFT_BRACE, RIGHT_BRACE, SEMICOLON, SCOPE}
use Rattle.cxx_tokens.specs.declared.keyword.TheConstants.{NAMESPACE}
use Rattle.cxx_reading.specs.declared.seen.Seen.{Seen}
use Rattle.cxx_reading.specs.declared.seen.Seen.TheVariants.{Identifier, Integer, Character, Text, Word, Punctuator}
use Rattle.cxx_reading.specs.Reading.{Tree, No, Nothing, kind, left, is_word, is_punctuator}
use Rattle.cxx_reading.proofs.Starts.{no_word_at, no_punctuator, no_punctuator_at, is_that_punctuator, word_there, longer_nothing}
use Rattle.cxx_reading.proofs.Turns.{turns_none}
use Rattle.cxx_grammar.specs.Names.{part, parts, parts_on}
use Rattle.cxx_grammar.specs.Declarations.{namespace_alias}
use Rattle.cxx_grammar.specs.Classes.{namespace_decl, decl}
use Rattle.cxx_grammar.specs.Nesting.{read_nests, declaration}
use Rattle.cxx_grammar.specs.Units.{namespace_head, close_item, decl_item, empty_item, item}
use Rattle.parse_decl.specs.Joined.{namespace_item}
use Rattle.cxx_reading.proofs.Identifiers.{identifier_or_none}
use Rattle.parse_class.proofs.Arms.{decl_namespace}
use Rattle.parse_class.proofs.Nothing.{no_namespace_decl, no_alias_decl, no_class_decl, no_enum_decl, no_function_declared, no_variable_declared, no_assert_decl, no_block_decl}

module _ (tokens : Tokens) (i : ℕ) where
  no_namespace_head : (k : Option Seen) → kind tokens i ≡ k → is_word NAMESPACE k ≡ false → namespace_head tokens i ≡ No Nothing
  unfolding namespace_head
  no_namespace_head k e h = simp (no_word_at tokens i k e NAMESPACE h)

  no_close_item : (k : Option Seen) → kind tokens i ≡ k → is_punctuator RIGHT_BRACE k ≡ false → close_item tokens i ≡ No Nothing
  unfolding close_item
  no_close_item k e h = simp (no_punctuator_at tokens i k e RIGHT_BRACE h)

  no_empty_item : (k : Option Seen) → kind tokens i ≡ k → is_punctuator SEMICOLON k ≡ false → empty_item tokens i ≡ No Nothing
  unfolding empty_item
  no_empty_item k e h = simp (no_punctuator_at tokens i k e SEMICOLON h)

  low : 0 ≤ 256
  low = omega arith

  no_decl_at_brace : kind tokens i ≡ Some (Punctuator RIGHT_BRACE) → decl_item tokens i ≡ No Nothing
  unfolding decl_item declaration decl
  no_decl_at_brace e = simp (no_namespace_decl tokens i (Some (Punctuator RIGHT_BRACE)) e 0 (read_nests tokens 1) refl, no_alias_decl tokens i (Some (Punctuator RIGHT_BRACE)) e 0 (read_nests tokens 1) refl, no_class_decl tokens i (Some (Punctuator RIGHT_BRACE)) e 0 (read_nests tokens 1) refl, no_enum_decl tokens i (Some (Punctuator RIGHT_BRACE)) e 0 (read_nests tokens 1) refl, no_function_declared tokens i (Some (Punctuator RIGHT_BRACE)) e 0 (read_nests tokens 1) low refl refl, no_variable_declared tokens i (Some (Punctuator RIGHT_BRACE)) e 0 (read_nests tokens 1) low refl refl, no_assert_decl tokens i (Some (Punctuator RIGHT_BRACE)) e 0 (read_nests tokens 1) refl, no_block_decl tokens i (Some (Punctuator RIGHT_BRACE)) e 0 (read_nests tokens 1) refl)

  no_decl_at_semicolon : kind tokens i ≡ Some (Punctuator SEMICOLON) → decl_item tokens i ≡ No Nothing
  unfolding decl_item declaration decl
  no_decl_at_semicolon e = simp (no_namespace_decl tokens i (Some (Punctuator SEMICOLON)) e 0 (read_nests tokens 1) refl, no_alias_decl tokens i (Some (Punctuator SEMICOLON)) e 0 (read_nests tokens 1) refl, no_class_decl tokens i (Some (Punctuator SEMICOLON)) e 0 (read_nests tokens 1) refl, no_enum_decl tokens i (Some (Punctuator SEMICOLON)) e 0 (read_nests tokens 1) refl, no_function_declared tokens i (Some (Punctuator SEMICOLON)) e 0 (read_nests tokens 1) low refl refl, no_variable_declared tokens i (Some (Punctuator SEMICOLON)) e 0 (read_nests tokens 1) low refl refl, no_assert_decl tokens i (Some (Punctuator SEMICOLON)) e 0 (read_nests tokens 1) refl, no_block_decl tokens i (Some (Punctuator SEMICOLON)) e 0 (read_nests tokens 1) refl)

  -- ---- `namespace` and a name: an alias where "=" follows, and else a head

  behind : i + 1 + 1 ≡ i + 2
  behind = omega arith

  module _ (e : kind tokens i ≡ Some (Word NAMESPACE)) where
    word_is : is_word NAMESPACE (kind tokens i) ≡ true
    word_is = rw e

    one_part : (x : IdentifierTree) (j : ℕ) → kind tokens j ≡ Some (Punctuator EQUAL) → parts tokens (x ∷ []) j ≡ Tree (x ∷ []) j
    unfolding parts part
    one_part x j h = let none : parts_on tokens (x ∷ []) j ≡ No Nothing = simp (no_punctuator_at tokens j (Some (Punctuator EQUAL)) h SCOPE refl) in turns_none (parts_on tokens) (x ∷ []) j (left tokens j) none

    not_head : kind tokens (i + 2) ≡ Some (Punctuator EQUAL) → namespace_head tokens i ≡ No Nothing
    unfolding namespace_head
    not_head h = elim (identifier_or_none tokens (i + 1)) [
      | inl none ↦ simp (word_there tokens i NAMESPACE word_is, none)
      | inr x ↦ let here : kind tokens (i + 1 + 1) ≡ Some (Punctuator EQUAL) = rw behind h in
          simp (word_there tokens i NAMESPACE word_is, x.1, one_part x.0 (i + 1 + 1) here, no_punctuator_at tokens (i + 1 + 1) (Some (Punctuator EQUAL)) here LEFT_BRACE refl)
    ]

    not_alias : is_punctuator EQUAL (kind tokens (i + 2)) ≡ false → decl_item tokens i ≡ No Nothing
    unfolding decl_item declaration namespace_decl namespace_alias
    not_alias h = elim (identifier_or_none tokens (i + 1)) [
      | inl none ↦ simp (decl_namespace tokens 0 low (read_nests tokens 1) i word_is, word_there tokens i NAMESPACE word_is, none)
      | inr x ↦ let here : is_punctuator EQUAL (kind tokens (i + 1 + 1)) ≡ false = rw behind h in
          simp (decl_namespace tokens 0 low (read_nests tokens 1) i word_is, word_there tokens i NAMESPACE word_is, x.1, no_punctuator tokens (i + 1 + 1) EQUAL here)
    ]

    by_mark : (b : Bool) → is_punctuator EQUAL (kind tokens (i + 2)) ≡ b → item tokens i ≡ namespace_item tokens i
    unfolding item namespace_item
    by_mark true h = simp (h, not_head (is_that_punctuator EQUAL (kind tokens (i + 2)) h), no_close_item (Some (Word NAMESPACE)) e refl, no_empty_item (Some (Word NAMESPACE)) e refl, longer_nothing)
    by_mark false h = simp (h, not_alias h, no_close_item (Some (Word NAMESPACE)) e refl, no_empty_item (Some (Word NAMESPACE)) e refl, longer_nothing)

  pub item_namespace : kind tokens i ≡ Some (Word NAMESPACE) → item tokens i ≡ namespace_item tokens i
  item_namespace e = by_mark e (is_punctuator EQUAL (kind tokens (i + 2))) refl

  -- ---- the others

  pub item_close : kind tokens i ≡ Some (Punctuator RIGHT_BRACE) → item tokens i ≡ close_item tokens i
  unfolding item
  item_close e = simp (no_namespace_head (Some (Punctuator RIGHT_BRACE)) e refl, no_decl_at_brace e, no_empty_item (Some (Punctuator RIGHT_BRACE)) e refl, longer_nothing)

  pub item_empty : kind tokens i ≡ Some (Punctuator SEMICOLON) → item tokens i ≡ empty_item tokens i
  unfolding item
  item_empty e = simp (no_namespace_head (Some (Punctuator SEMICOLON)) e refl, no_close_item (Some (Punctuator SEMICOLON)) e refl, no_decl_at_semicolon e)

  pub item_punctuator : (n : ℕ) → kind tokens i ≡ Some (Punctuator n) → (n ≡ RIGHT_BRACE → ⊥) → (n ≡ SEMICOLON → ⊥) → item tokens i ≡ decl_item tokens i
  unfolding item
  item_punctuator n e a b = simp (no_namespace_head (Some (Punctuator n)) e refl, no_close_item (Some (Punctuator n)) e (ne_eqb n RIGHT_BRACE a), no_empty_item (Some (Punctuator n)) e (ne_eqb n SEMICOLON b), longer_nothing)

  pub item_word : (n : ℕ) → kind tokens i ≡ Some (Word n) → (n ≡ NAMESPACE → ⊥) → item tokens i ≡ decl_item tokens i
  unfolding item
  item_word n e a = simp (no_namespace_head (Some (Word n)) e (ne_eqb n NAMESPACE a), no_close_item (Some (Word n)) e refl, no_empty_item (Some (Word n)) e refl, longer_nothing)

  pub item_identifier : kind tokens i ≡ Some Identifier → item tokens i ≡ decl_item tokens i
  unfolding item
  item_identifier e = simp (no_namespace_head (Some Identifier) e refl, no_close_item (Some Identifier) e refl, no_empty_item (Some Identifier) e refl, longer_nothing)

  pub item_integer : kind tokens i ≡ Some Integer → item tokens i ≡ decl_item tokens i
  unfolding item
  item_integer e = simp (no_namespace_head (Some Integer) e refl, no_close_item (Some Integer) e refl, no_empty_item (Some Integer) e refl, longer_nothing)

  pub item_character : kind tokens i ≡ Some Character → item tokens i ≡ decl_item tokens i
  unfolding item
  item_character e = simp (no_namespace_head (Some Character) e refl, no_close_item (Some Character) e refl, no_empty_item (Some Character) e refl, longer_nothing)

  pub item_text : kind tokens i ≡ Some Text → item tokens i ≡ decl_item tokens i
  unfolding item
  item_text e = simp (no_namespace_head (Some Text) e refl, no_close_item (Some Text) e refl, no_empty_item (Some Text) e refl, longer_nothing)

  pub item_none : kind tokens i ≡ None → item tokens i ≡ decl_item tokens i
  unfolding item
  item_none e = simp (no_namespace_head None e refl, no_close_item None e refl, no_empty_item None e refl, longer_nothing)

pub ruleset item_arms = (item_namespace, item_close, item_empty, item_punctuator, item_word, item_identifier, item_integer, item_character, item_text, item_none)
