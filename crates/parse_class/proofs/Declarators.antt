-- What stands behind the name of a function and of a variable, and types that stand before no name.
use Rattle.std.proofs.Common.{◌≡◌, ℕ, ◌+◌, ◌≤◌, Bool, true, false, ◌&&◌, [], Option, Some, refl, ◌∙◌, arith, ◌==◌}
use Rattle.cxx_tree.specs.declared.identifier.Identifier.{Identifier as IdentifierTree}
use Rattle.cxx_tree.specs.declared.identifier.NameTree.{NameTree}
use Rattle.cxx_tree.specs.declared.expr.BasicTree.{BasicTree}
use Rattle.cxx_tree.specs.declared.expr.BasicTree.TheVariants as basic-of
use Rattle.cxx_tree.specs.declared.expr.TypeTree.{TypeTree}
use Rattle.cxx_tree.specs.declared.expr.TypeTree.TheVariants as type-of
use Rattle.cxx_tokens.specs.declared.token.Tokens.{Tokens}
use Rattle.cxx_tokens.specs.declared.mark.TheConstants.{LEFT_PAREN, LEFT_BRACKET, LEFT_BRACE, EQUAL, SEMICOLON, SCOPE, AMPERSAND}
use Rattle.cxx_tokens.specs.declared.keyword.TheConstants.{CONST}
use Rattle.cxx_reading.specs.declared.seen.Seen.{Seen}
use Rattle.cxx_reading.specs.declared.seen.Seen.TheVariants.{Identifier, Punctuator}
use Rattle.cxx_reading.specs.Reading.{Tree, No, Nothing, Rule, and_then, kind, left, span, punctuator, word, identifier, is_identifier, is_punctuator}
use Rattle.cxx_reading.proofs.Starts.{no_punctuator, no_punctuator_at, no_word_at, no_identifier_at, is_that_punctuator, present_none, optional_none, guard_holds, no_guard}
use Rattle.cxx_reading.proofs.Turns.{turns_none}
use Rattle.cxx_base.specs.declared.library.TheConstants.{STD}
use Rattle.cxx_grammar.specs.declared.specifier.DeclWords.{DeclWords}
use Rattle.cxx_grammar.specs.Names.{named, vector_head, part, parts, parts_on, any_name, name}
use Rattle.cxx_grammar.specs.Types.{pointers, pointers_on, basic_name, basic, type_tree}
use Rattle.cxx_grammar.specs.Read.{read}
use Rattle.cxx_grammar.specs.Sequences.{with_next}
use Rattle.cxx_grammar.specs.Nests.{Nests}
use Rattle.cxx_grammar.specs.Locals.{bound, bounds, init_equal, init_equal_braced, init_braced, init}
use Rattle.cxx_grammar.specs.Declarations.{parameters}
use Rattle.cxx_grammar.proofs.Begins.{starts_type, no_type, no_braced, no_pointer}
use Rattle.cxx_grammar.proofs.Levels.{at_type_tree, at_braced}
use Rattle.cxx_grammar.proofs.TypeArms.{name_elsewhere, basic_at_name}
use Rattle.parse_class.specs.Joined.{begins_constructor, function_rest, variable_rest}
use Rattle.cxx_reading.proofs.Identifiers.{is_that_identifier, identifier_there}

both_left : (a b : Bool) → (a && b) ≡ true → a ≡ true
both_left true b h = refl
both_left false b h = h

both_right : (a b : Bool) → (a && b) ≡ true → b ≡ true
both_right true b h = h
both_right false b h = cc

module _ (tokens : Tokens) (level : ℕ) (low : level ≤ 256) where
  low_enough : level ≤ 257
  low_enough = omega arith

  not_last : level ≡ 257 → ⊥
  not_last e = omega arith

  pub no_type_here : (i : ℕ) (k : Option Seen) → kind tokens i ≡ k → starts_type k ≡ false → (read tokens level).type_tree i ≡ No Nothing
  no_type_here i k e h = at_type_tree tokens level i low_enough not_last ∙ no_type tokens (read tokens (level + 1)) i k e h

  no_braced_here : (i : ℕ) (k : Option Seen) → kind tokens i ≡ k → is_punctuator LEFT_BRACE k ≡ false → (read tokens level).braced i ≡ No Nothing
  no_braced_here i k e h = at_braced tokens level i low_enough not_last ∙ no_braced tokens (read tokens (level + 1)) i k e h

  -- ---- a parenthesis behind the name

  module _ (i : ℕ) (paren : kind tokens i ≡ Some (Punctuator LEFT_PAREN)) where
    no_bound : bound tokens level i ≡ No Nothing
    unfolding bound
    no_bound = simp (no_punctuator_at tokens i _ paren LEFT_BRACKET refl)

    no_bounds : bounds tokens level [] i ≡ Tree [] i
    unfolding bounds
    no_bounds = let none : with_next (bound tokens level) [] i ≡ No Nothing = simp (no_bound) in turns_none (with_next (bound tokens level)) [] i (left tokens i) none

    no_init : init tokens level i ≡ No Nothing
    unfolding init init_equal init_equal_braced init_braced
    no_init = simp (no_punctuator_at tokens i _ paren EQUAL refl, no_braced_here i _ paren refl)

    pub no_variable_rest : (in_class : Bool) (start : ℕ) (w : DeclWords) (t : TypeTree) (n : IdentifierTree) → variable_rest tokens level in_class start w t n i ≡ No Nothing
    unfolding variable_rest
    no_variable_rest in_class start w t n = simp (no_bounds, optional_none (init tokens level) i no_init, no_punctuator_at tokens i _ paren SEMICOLON refl)

  pub no_function_rest : (i : ℕ) → is_punctuator LEFT_PAREN (kind tokens i) ≡ false → (inner : Nests) (in_class : Bool) (start : ℕ) (w : DeclWords) (t : TypeTree) (n : IdentifierTree) → function_rest tokens level inner in_class start w t n i ≡ No Nothing
  unfolding function_rest parameters
  no_function_rest i h inner in_class start w t n = simp (no_punctuator tokens i LEFT_PAREN h)

  -- ---- an identifier and a parenthesis are no type before a name

  module _ (i : ℕ) (there : kind tokens i ≡ Some Identifier) (paren : kind tokens (i + 1) ≡ Some (Punctuator LEFT_PAREN)) where
    found : (x : IdentifierTree) × (identifier tokens i ≡ Tree x (i + 1))
    found = identifier_there tokens i there

    if_std : (b : Bool) → (found.0.name.0 == STD.0) ≡ b → vector_head tokens i ≡ No Nothing
    unfolding vector_head named
    if_std true h = simp (found.1, guard_holds _ (i + 1) h, no_punctuator_at tokens (i + 1) _ paren SCOPE refl)
    if_std false h = simp (found.1, no_guard _ (i + 1) h)

    no_vector : vector_head tokens i ≡ No Nothing
    no_vector = if_std (found.0.name.0 == STD.0) refl

    no_part : part tokens (i + 1) ≡ No Nothing
    unfolding part
    no_part = simp (no_punctuator_at tokens (i + 1) _ paren SCOPE refl)

    one_part : parts tokens [] (i + 1) ≡ Tree [] (i + 1)
    unfolding parts
    one_part = let none : parts_on tokens [] (i + 1) ≡ No Nothing = simp (no_part) in turns_none (parts_on tokens) [] (i + 1) (left tokens (i + 1)) none

    one_name : (n : NameTree) × (any_name tokens i ≡ Tree n (i + 1))
    unfolding any_name
    one_name = (record { span = span tokens i (i + 1); rooted = false; first = found.0; more = [] }, simp (present_none (punctuator tokens SCOPE) i (no_punctuator_at tokens i (Some Identifier) there SCOPE refl), found.1, one_part))

    one_basic : (b : BasicTree) × (basic tokens (read tokens (level + 1)) i ≡ Tree b (i + 1))
    unfolding basic_name
    one_basic = (basic-of.Name one_name.0, simp (basic_at_name tokens (read tokens (level + 1)) i there no_vector, name_elsewhere tokens i no_vector, one_name.1))

    no_pointers : pointers tokens [] (i + 1) ≡ Tree [] (i + 1)
    unfolding pointers
    no_pointers = let none : pointers_on tokens [] (i + 1) ≡ No Nothing = simp (no_pointer tokens (i + 1) _ paren refl) in turns_none (pointers_on tokens) [] (i + 1) (left tokens (i + 1)) none

    one_type : (t : TypeTree) × (type_tree tokens (read tokens (level + 1)) i ≡ Tree t (i + 1))
    unfolding type_tree
    one_type = (type-of.Type (span tokens i (i + 1)) false one_basic.0 [] false, simp (present_none (word tokens CONST) i (no_word_at tokens i (Some Identifier) there CONST refl), one_basic.1, present_none (word tokens CONST) (i + 1) (no_word_at tokens (i + 1) (Some (Punctuator LEFT_PAREN)) paren CONST refl), no_pointers, present_none (punctuator tokens AMPERSAND) (i + 1) (no_punctuator_at tokens (i + 1) (Some (Punctuator LEFT_PAREN)) paren AMPERSAND refl)))

    pub no_typed : {A : Type 0} (f : TypeTree → IdentifierTree → Rule A) → and_then ((read tokens level).type_tree i) (λ t j. and_then (identifier tokens j) (f t)) ≡ No Nothing
    no_typed f = simp (at_type_tree tokens level i low_enough not_last, one_type.1, no_identifier_at tokens (i + 1) _ paren refl)

  pub no_typed_at : (i : ℕ) → begins_constructor tokens i ≡ true → {A : Type 0} (f : TypeTree → IdentifierTree → Rule A) → and_then ((read tokens level).type_tree i) (λ t j. and_then (identifier tokens j) (f t)) ≡ No Nothing
  no_typed_at i h f = no_typed i (is_that_identifier (kind tokens i) (both_left (is_identifier (kind tokens i)) (is_punctuator LEFT_PAREN (kind tokens (i + 1))) h))
      (is_that_punctuator LEFT_PAREN (kind tokens (i + 1)) (both_right (is_identifier (kind tokens i)) (is_punctuator LEFT_PAREN (kind tokens (i + 1))) h)) f
