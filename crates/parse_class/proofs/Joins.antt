-- Declarations that begin with specifiers give together what the joined forms give.
use Rattle.std.proofs.Common.{◌≡◌, ℕ, ◌+◌, ◌≤◌, Bool, true, false, ◌&&◌, Some, refl, inl, inr, ◌∙◌}
use Rattle.cxx_tree.specs.declared.identifier.Identifier.{Identifier as IdentifierTree}
use Rattle.cxx_tree.specs.declared.expr.TypeTree.{TypeTree}
use Rattle.cxx_tree.specs.declared.decl.Decl.TheVariants as decl-of
use Rattle.cxx_tree.specs.declared.decl.Member.TheVariants as member-of
use Rattle.cxx_tokens.specs.declared.token.Tokens.{Tokens}
use Rattle.cxx_tokens.specs.declared.mark.TheConstants.{LEFT_PAREN, TILDE}
use Rattle.cxx_tokens.specs.declared.keyword.TheConstants.{EXPLICIT}
use Rattle.cxx_reading.specs.declared.seen.Seen.TheVariants.{Punctuator, Word}
use Rattle.cxx_reading.specs.Reading.{End, Tree, No, Nothing, Rule, and_then, longer, kind, left, is_identifier, is_punctuator, is_word, identifier}
use Rattle.cxx_reading.proofs.Factor.{assoc, pointwise, factor}
use Rattle.cxx_reading.proofs.Starts.{no_punctuator, no_identifier, is_that_punctuator, is_that_word, longer_nothing}
use Rattle.cxx_grammar.specs.declared.specifier.DeclWords.{DeclWords}
use Rattle.cxx_grammar.specs.Read.{read}
use Rattle.cxx_grammar.specs.Nests.{Nests}
use Rattle.cxx_grammar.specs.Declarations.{no_words, specifiers, constructor_words, parameters, variable, function}
use Rattle.cxx_grammar.specs.Classes.{tilde, constructor_form, destructor_form, data_member, function_member, constructor_member, destructor_member, function_decl, variable_decl}
use Rattle.parse_class.specs.Joined.{decl_of, member_of, begins_constructor, function_rest, variable_rest, constructor_rest, destructor_rest, function_behind, variable_behind, behind_name, behind_words, declared, declared_decl, member_typed, constructor_behind, destructor_behind, member_behind, member_worded, member_declared}
use Rattle.cxx_reading.proofs.Identifiers.{identifier_or_none, is_identifier_there}
use Rattle.parse_class.proofs.Words.{ends, specifiers_read, constructor_words_read}
use Rattle.parse_class.proofs.Declarators.{no_type_here, no_variable_rest, no_function_rest, no_typed_at}

-- what follows twice may follow at once
thrice : {A B C D : Type 0} (e : End A) (f : A → Rule B) (g : B → Rule C) (h : C → Rule D)
    → and_then (and_then (and_then e f) g) h ≡ and_then e (λ a i. and_then (and_then (f a i) g) h)
thrice (Tree a i) f g h = refl
thrice (No why) f g h = refl

right_of : (a b : Bool) → a ≡ true → (a && b) ≡ false → b ≡ false
right_of true b e h = h
right_of false b e h = cc

module _ (tokens : Tokens) (level : ℕ) (low : level ≤ 256) (inner : Nests) where
  -- ---- where the words of a declaration are known

  module _ (i : ℕ) (u : DeclWords) (k : ℕ) (words : specifiers tokens no_words i ≡ Tree u k) where
    data_by_words : data_member tokens level i ≡ and_then ((read tokens level).type_tree k) (λ t j. and_then (identifier tokens j) (λ n l. and_then (variable_rest tokens level true i u t n l) (λ x m. Tree (member-of.Data x) m)))
    unfolding data_member variable variable_rest
    data_by_words = rw words (thrice ((read tokens level).type_tree k) _ _ _ ∙ pointwise ((read tokens level).type_tree k) _ _ (λ t j. thrice (identifier tokens j) _ _ _))

    function_by_words : function_member tokens level inner i ≡ and_then ((read tokens level).type_tree k) (λ t j. and_then (identifier tokens j) (λ n l. and_then (function_rest tokens level inner true i u t n l) (λ x m. Tree (member-of.Function x) m)))
    unfolding function_member function function_rest
    function_by_words = rw words (thrice ((read tokens level).type_tree k) _ _ _ ∙ pointwise ((read tokens level).type_tree k) _ _ (λ t j. thrice (identifier tokens j) _ _ _))

    pub destructor_by_words : destructor_member tokens level inner i ≡ destructor_behind tokens inner i u k
    unfolding destructor_member destructor_form destructor_behind destructor_rest
    destructor_by_words = rw words

    function_decl_by_words : function_decl tokens level inner i ≡ and_then ((read tokens level).type_tree k) (λ t j. and_then (identifier tokens j) (λ n l. and_then (function_rest tokens level inner false i u t n l) (λ x m. Tree (decl-of.Function x) m)))
    unfolding function_decl function function_rest
    function_decl_by_words = rw words (thrice ((read tokens level).type_tree k) _ _ _ ∙ pointwise ((read tokens level).type_tree k) _ _ (λ t j. thrice (identifier tokens j) _ _ _))

    variable_decl_by_words : variable_decl tokens level i ≡ and_then ((read tokens level).type_tree k) (λ t j. and_then (identifier tokens j) (λ n l. and_then (variable_rest tokens level false i u t n l) (λ x m. Tree (decl-of.Variable x) m)))
    unfolding variable_decl variable variable_rest
    variable_decl_by_words = rw words (thrice ((read tokens level).type_tree k) _ _ _ ∙ pointwise ((read tokens level).type_tree k) _ _ (λ t j. thrice (identifier tokens j) _ _ _))

    pub constructor_by_words : constructor_words tokens no_words i ≡ Tree u k → constructor_member tokens level inner i ≡ constructor_behind tokens level inner i u k
    unfolding constructor_member constructor_form constructor_behind constructor_rest
    constructor_by_words also = rw also

    -- none of them where no type begins behind the words
    module _ (none : (read tokens level).type_tree k ≡ No Nothing) where
      pub no_data : data_member tokens level i ≡ No Nothing
      no_data = data_by_words ∙ simp (none)

      pub no_function : function_member tokens level inner i ≡ No Nothing
      no_function = function_by_words ∙ simp (none)

      pub no_function_decl : function_decl tokens level inner i ≡ No Nothing
      no_function_decl = function_decl_by_words ∙ simp (none)

      pub no_variable_decl : variable_decl tokens level i ≡ No Nothing
      no_variable_decl = variable_decl_by_words ∙ simp (none)

    pub no_destructor : is_punctuator TILDE (kind tokens k) ≡ false → destructor_member tokens level inner i ≡ No Nothing
    unfolding destructor_behind destructor_rest tilde
    no_destructor h = destructor_by_words ∙ simp (no_punctuator tokens k TILDE h)

    -- ---- behind the name

    member_leaf : (w : DeclWords) (t : TypeTree) (n : IdentifierTree) (j : ℕ) (b : Bool) → is_punctuator LEFT_PAREN (kind tokens j) ≡ b
        → longer (and_then (variable_rest tokens level true i w t n j) (λ x m. Tree (member-of.Data x) m)) (and_then (function_rest tokens level inner true i w t n j) (λ x m. Tree (member-of.Function x) m))
        ≡ and_then (behind_name tokens level inner true i w t n j) (λ x m. Tree (member_of x) m)
    unfolding behind_name variable_behind function_behind
    member_leaf w t n j true h = simp (h, no_variable_rest tokens level low j (is_that_punctuator LEFT_PAREN (kind tokens j) h) true i w t n, assoc)
    member_leaf w t n j false h = simp (h, no_function_rest tokens level low j h inner true i w t n, longer_nothing, assoc)

    decl_leaf : (w : DeclWords) (t : TypeTree) (n : IdentifierTree) (j : ℕ) (b : Bool) → is_punctuator LEFT_PAREN (kind tokens j) ≡ b
        → longer (and_then (function_rest tokens level inner false i w t n j) (λ x m. Tree (decl-of.Function x) m)) (and_then (variable_rest tokens level false i w t n j) (λ x m. Tree (decl-of.Variable x) m))
        ≡ and_then (behind_name tokens level inner false i w t n j) (λ x m. Tree (decl_of x) m)
    unfolding behind_name variable_behind function_behind
    decl_leaf w t n j true h = simp (h, no_variable_rest tokens level low j (is_that_punctuator LEFT_PAREN (kind tokens j) h) false i w t n, longer_nothing, assoc)
    decl_leaf w t n j false h = simp (h, no_function_rest tokens level low j h inner false i w t n, assoc)

    member_out : member_typed tokens level inner i u k ≡ and_then ((read tokens level).type_tree k) (λ t j. and_then (identifier tokens j) (λ n l. and_then (behind_name tokens level inner true i u t n l) (λ x m. Tree (member_of x) m)))
    unfolding member_typed behind_words
    member_out = assoc ((read tokens level).type_tree k) _ _ ∙ pointwise ((read tokens level).type_tree k) _ _ (λ t j. assoc (identifier tokens j) _ _)

    decl_out : and_then (behind_words tokens level inner false i u k) (λ x m. Tree (decl_of x) m) ≡ and_then ((read tokens level).type_tree k) (λ t j. and_then (identifier tokens j) (λ n l. and_then (behind_name tokens level inner false i u t n l) (λ x m. Tree (decl_of x) m)))
    unfolding behind_words
    decl_out = assoc ((read tokens level).type_tree k) _ _ ∙ pointwise ((read tokens level).type_tree k) _ _ (λ t j. assoc (identifier tokens j) _ _)

    typed_is : longer (data_member tokens level i) (function_member tokens level inner i) ≡ member_typed tokens level inner i u k
    typed_is = simp (data_by_words, function_by_words, member_out, factor) (pointwise ((read tokens level).type_tree k) _ _ (λ t j. pointwise (identifier tokens j) _ _ (λ n l. member_leaf u t n l (is_punctuator LEFT_PAREN (kind tokens l)) refl)))

    pub decl_typed_is : longer (function_decl tokens level inner i) (variable_decl tokens level i) ≡ and_then (behind_words tokens level inner false i u k) (λ x m. Tree (decl_of x) m)
    decl_typed_is = simp (function_decl_by_words, variable_decl_by_words, decl_out, factor) (pointwise ((read tokens level).type_tree k) _ _ (λ t j. pointwise (identifier tokens j) _ _ (λ n l. decl_leaf u t n l (is_punctuator LEFT_PAREN (kind tokens l)) refl)))

  -- ---- members: by the token behind the words

  module _ (i : ℕ) where
    u : DeclWords
    u = (ends tokens (left tokens i) no_words i).words

    k : ℕ
    k = (ends tokens (left tokens i) no_words i).after

    words : specifiers tokens no_words i ≡ Tree u k
    unfolding u k
    words = specifiers_read tokens no_words i

    no_constructor_behind : (w : DeclWords) (j : ℕ) → is_identifier (kind tokens j) ≡ false → constructor_behind tokens level inner i w j ≡ No Nothing
    unfolding constructor_behind constructor_rest
    no_constructor_behind w j h = simp (no_identifier tokens j h)

    no_constructor_there : (w : DeclWords) (j : ℕ) → begins_constructor tokens j ≡ false → constructor_behind tokens level inner i w j ≡ No Nothing
    unfolding constructor_behind constructor_rest parameters
    no_constructor_there w j h = elim (identifier_or_none tokens j) [
      | inl none ↦ simp (none)
      | inr found ↦ let there : is_identifier (kind tokens j) ≡ true = is_identifier_there tokens j found.0 found.1 in
          let none : is_punctuator LEFT_PAREN (kind tokens (j + 1)) ≡ false = right_of (is_identifier (kind tokens j)) (is_punctuator LEFT_PAREN (kind tokens (j + 1))) there h in
          simp (found.1, no_punctuator tokens (j + 1) LEFT_PAREN none)
    ]

    behind_typed : (b : Bool) → begins_constructor tokens k ≡ b → is_punctuator TILDE (kind tokens k) ≡ false
        → longer (data_member tokens level i) (longer (function_member tokens level inner i) (longer (constructor_behind tokens level inner i u k) (destructor_member tokens level inner i))) ≡ member_behind tokens level inner i u k
    unfolding member_behind
    behind_typed true h g = simp (h, g, data_by_words i u k words ∙ no_typed_at tokens level low k h _, function_by_words i u k words ∙ no_typed_at tokens level low k h _, no_destructor i u k words g, longer_nothing)
    behind_typed false h g = simp (h, g, no_constructor_there u k h, no_destructor i u k words g, longer_nothing) (typed_is i u k words)

    by_tilde : (b : Bool) → is_punctuator TILDE (kind tokens k) ≡ b
        → longer (data_member tokens level i) (longer (function_member tokens level inner i) (longer (constructor_behind tokens level inner i u k) (destructor_member tokens level inner i))) ≡ member_behind tokens level inner i u k
    unfolding member_behind
    by_tilde true h =
        let there : kind tokens k ≡ Some (Punctuator TILDE) = is_that_punctuator TILDE (kind tokens k) h in
        let none : (read tokens level).type_tree k ≡ No Nothing = no_type_here tokens level low k (Some (Punctuator TILDE)) there refl in
        let other : is_identifier (kind tokens k) ≡ false = rw there in
        simp (h, no_data i u k words none, no_function i u k words none, no_constructor_behind u k other, destructor_by_words i u k words)
    by_tilde false h = behind_typed (begins_constructor tokens k) refl h

    by_explicit : (b : Bool) → is_word EXPLICIT (kind tokens k) ≡ b
        → longer (data_member tokens level i) (longer (function_member tokens level inner i) (longer (constructor_member tokens level inner i) (destructor_member tokens level inner i))) ≡ member_worded tokens level inner i u k
    unfolding member_worded u k
    by_explicit true h =
        let explicit : kind tokens k ≡ Some (Word EXPLICIT) = is_that_word EXPLICIT (kind tokens k) h in
        let none : (read tokens level).type_tree k ≡ No Nothing = no_type_here tokens level low k (Some (Word EXPLICIT)) explicit refl in
        let plain : is_punctuator TILDE (kind tokens k) ≡ false = rw explicit in
        simp (h, no_data i u k words none, no_function i u k words none, no_destructor i u k words plain, longer_nothing)
    by_explicit false h = simp (h, constructor_by_words i u k words (constructor_words_read tokens no_words i h)) (by_tilde (is_punctuator TILDE (kind tokens k)) refl)

    pub member_declared_is : longer (data_member tokens level i) (longer (function_member tokens level inner i) (longer (constructor_member tokens level inner i) (destructor_member tokens level inner i))) ≡ member_declared tokens level inner i
    unfolding member_declared
    member_declared_is = simp (words) (by_explicit (is_word EXPLICIT (kind tokens k)) refl)

    pub decl_declared_is : longer (function_decl tokens level inner i) (variable_decl tokens level i) ≡ declared_decl tokens level inner i
    unfolding declared_decl declared
    decl_declared_is = simp (words) (decl_typed_is i u k words)
