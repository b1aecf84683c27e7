-- `consteval` and a brace begin a block, and else `consteval` is a specifier.
use Rattle.std.proofs.Common.{◌≡◌, ℕ, zero, suc, ◌+◌, ◌≤◌, true, false, Some, refl, ◌∙◌}
use Rattle.cxx_tree.specs.declared.stmt.Stmt.{Stmt}
use Rattle.cxx_tokens.specs.declared.token.Tokens.{Tokens}
use Rattle.cxx_tokens.specs.declared.mark.TheConstants.{LEFT_BRACE, TILDE}
use Rattle.cxx_tokens.specs.declared.keyword.TheConstants.{CONSTEVAL}
use Rattle.cxx_reading.specs.declared.seen.Seen.TheVariants.{Word, Punctuator}
use Rattle.cxx_reading.specs.Any.{any_word}
use Rattle.cxx_reading.specs.Reading.{Rule, Tree, No, Nothing, kind, left, is_word, is_punctuator}
use Rattle.cxx_reading.proofs.Starts.{word_there, no_punctuator, no_any_word_at, any_word_there, no_identifier_at}
use Rattle.cxx_reading.proofs.Needs.{needs_any_word}
use Rattle.cxx_reading.proofs.Turns.{turns_none, turns_more}
use Rattle.cxx_grammar.specs.declared.specifier.DeclWords.{DeclWords}
use Rattle.cxx_grammar.specs.Read.{read}
use Rattle.cxx_grammar.specs.Nests.{Nests, of_block}
use Rattle.cxx_grammar.specs.Declarations.{no_words, specifier, specifiers, constructor_word, constructor_words, body, block}
use Rattle.cxx_grammar.specs.Classes.{block_member, block_decl, data_member, function_member, constructor_member, destructor_member, function_decl, variable_decl}
use Rattle.parse_class.specs.Joined.{constructor_behind, constructor_rest}
use Rattle.parse_class.proofs.Declarators.{no_type_here}
use Rattle.parse_class.proofs.Joins.{no_data, no_function, no_destructor, no_function_decl, no_variable_decl, constructor_by_words}

module _ (tokens : Tokens) (i : ℕ) (e : kind tokens i ≡ Some (Word CONSTEVAL)) where
  word_is : is_word CONSTEVAL (kind tokens i) ≡ true
  word_is = rw e

  -- ---- no block without a brace

  module _ (inside : Rule Stmt) (h : is_punctuator LEFT_BRACE (kind tokens (i + 1)) ≡ false) where
    no_block : block tokens inside i ≡ No Nothing
    unfolding block body
    no_block = simp (word_there tokens i CONSTEVAL word_is, no_punctuator tokens (i + 1) LEFT_BRACE h)

  -- ---- nothing else with a brace

  module _ (brace : kind tokens (i + 1) ≡ Some (Punctuator LEFT_BRACE)) where
    one_word : DeclWords
    one_word = record { is_inline = false; is_static = false; is_constexpr = false; is_consteval = true; is_explicit = false; is_twice = false }

    by_left : (m : ℕ) → left tokens i ≡ m → (p : ℕ) × (left tokens i ≡ suc p)
    by_left zero h = let none : any_word tokens i ≡ No Nothing = (needs_any_word tokens).at i h in
        let there : any_word tokens i ≡ Tree CONSTEVAL (i + 1) = any_word_there tokens i CONSTEVAL e in cc
    by_left (suc p) h = (p, h)

    one_left : (p : ℕ) × (left tokens i ≡ suc p)
    one_left = by_left (left tokens i) refl

    takes : specifier tokens no_words i ≡ Tree one_word (i + 1)
    unfolding specifier one_word
    takes = simp (any_word_there tokens i CONSTEVAL e)

    ends_there : specifier tokens one_word (i + 1) ≡ No Nothing
    unfolding specifier
    ends_there = simp (no_any_word_at tokens (i + 1) (Some (Punctuator LEFT_BRACE)) brace refl)

    one_specifier : specifiers tokens no_words i ≡ Tree one_word (i + 1)
    unfolding specifiers
    one_specifier = simp (one_left.1) (turns_more (specifier tokens) no_words i one_left.0 one_word (i + 1) takes ∙ turns_none (specifier tokens) one_word (i + 1) one_left.0 ends_there)

    also_takes : constructor_word tokens no_words i ≡ Tree one_word (i + 1)
    unfolding constructor_word one_word
    also_takes = simp (any_word_there tokens i CONSTEVAL e)

    also_ends : constructor_word tokens one_word (i + 1) ≡ No Nothing
    unfolding constructor_word
    also_ends = simp (no_any_word_at tokens (i + 1) (Some (Punctuator LEFT_BRACE)) brace refl)

    one_constructor_word : constructor_words tokens no_words i ≡ Tree one_word (i + 1)
    unfolding constructor_words
    one_constructor_word = simp (one_left.1) (turns_more (constructor_word tokens) no_words i one_left.0 one_word (i + 1) also_takes ∙ turns_none (constructor_word tokens) one_word (i + 1) one_left.0 also_ends)

module _ (tokens : Tokens) (level : ℕ) (inner : Nests) where
  module _ (i : ℕ) (e : kind tokens i ≡ Some (Word CONSTEVAL)) (h : is_punctuator LEFT_BRACE (kind tokens (i + 1)) ≡ false) where
    pub no_block_at : block_member tokens level inner i ≡ No Nothing
    unfolding block_member
    no_block_at = simp (no_block tokens i e (inner.stmt of_block) h)

    pub no_block_decl_at : block_decl tokens level inner i ≡ No Nothing
    unfolding block_decl
    no_block_decl_at = simp (no_block tokens i e (inner.stmt of_block) h)

  module _ (low : level ≤ 256) (i : ℕ) (e : kind tokens i ≡ Some (Word CONSTEVAL)) (brace : kind tokens (i + 1) ≡ Some (Punctuator LEFT_BRACE)) where
    no_type_there : (read tokens level).type_tree (i + 1) ≡ No Nothing
    no_type_there = no_type_here tokens level low (i + 1) (Some (Punctuator LEFT_BRACE)) brace refl

    pub no_data_at_block : data_member tokens level i ≡ No Nothing
    no_data_at_block = no_data tokens level low inner i (one_word tokens i e brace) (i + 1) (one_specifier tokens i e brace) no_type_there

    pub no_function_at_block : function_member tokens level inner i ≡ No Nothing
    no_function_at_block = no_function tokens level low inner i (one_word tokens i e brace) (i + 1) (one_specifier tokens i e brace) no_type_there

    pub no_function_decl_at_block : function_decl tokens level inner i ≡ No Nothing
    no_function_decl_at_block = no_function_decl tokens level low inner i (one_word tokens i e brace) (i + 1) (one_specifier tokens i e brace) no_type_there

    pub no_variable_decl_at_block : variable_decl tokens level i ≡ No Nothing
    no_variable_decl_at_block = no_variable_decl tokens level low inner i (one_word tokens i e brace) (i + 1) (one_specifier tokens i e brace) no_type_there

    pub no_destructor_at_block : destructor_member tokens level inner i ≡ No Nothing
    no_destructor_at_block = let f : is_punctuator TILDE (kind tokens (i + 1)) ≡ false = rw brace in no_destructor tokens level low inner i (one_word tokens i e brace) (i + 1) (one_specifier tokens i e brace) f

    pub no_constructor_at_block : constructor_member tokens level inner i ≡ No Nothing
    unfolding constructor_behind constructor_rest
    no_constructor_at_block = constructor_by_words tokens level low inner i (one_word tokens i e brace) (i + 1) (one_specifier tokens i e brace) (one_constructor_word tokens i e brace) ∙ simp (no_identifier_at tokens (i + 1) (Some (Punctuator LEFT_BRACE)) brace refl)
