-- Declarations that share a beginning, each read as one, as the parser reads them, and those of namespaces and classes together.
-- Nobody need believe this file: in proofs/ each is shown to give what the grammar's own forms give.
use Rattle.std.specs.Prelude.{ℕ, ◌+◌, Bool, true, false, ◌&&◌, ◌||◌, if◌then◌else◌, [], Option, Some}
use Rattle.std.specs.Option.{is_some}
use Rattle.cxx_tree.specs.declared.identifier.Identifier.{Identifier}
use Rattle.cxx_tree.specs.declared.expr.TypeTree.{TypeTree}
use Rattle.cxx_tree.specs.declared.decl.VariableTree.{VariableTree}
use Rattle.cxx_tree.specs.declared.decl.FunctionTree.{FunctionTree, roll-FunctionTree}
use Rattle.cxx_tree.specs.declared.decl.ConstructorTree.{ConstructorTree, roll-ConstructorTree}
use Rattle.cxx_tree.specs.declared.decl.DestructorTree.{DestructorTree, roll-DestructorTree}
use Rattle.cxx_tree.specs.declared.decl.Decl.{Decl}
use Rattle.cxx_tree.specs.declared.decl.Decl.TheVariants as decl-of
use Rattle.cxx_tree.specs.declared.decl.ClassTree.{ClassTree}
use Rattle.cxx_tree.specs.declared.decl.Member.{Member}
use Rattle.cxx_tree.specs.declared.decl.Member.TheVariants as member-of
use Rattle.cxx_tokens.specs.declared.token.Tokens.{Tokens}
use Rattle.cxx_tokens.specs.declared.mark.TheConstants as mark
use Rattle.cxx_tokens.specs.declared.keyword.TheConstants as keyword
use Rattle.cxx_reading.specs.declared.seen.Seen.{Seen}
use Rattle.cxx_reading.specs.declared.seen.Seen.TheVariants as seen
use Rattle.cxx_reading.specs.Reading.{Tree, Rule, and_then, ◌>>=◌, ◌>>◌, pure, guard, present, optional, punctuator, word, identifier, is_identifier, is_punctuator, is_word, kind, from}
use Rattle.cxx_grammar.specs.declared.specifier.DeclWords.{DeclWords}
use Rattle.cxx_grammar.specs.Read.{read}
use Rattle.cxx_grammar.specs.Nests.{Nests, of_function, of_block}
use Rattle.cxx_grammar.specs.Locals.{bounds, init, fit_bounds, alias, assert}
use Rattle.cxx_grammar.specs.Declarations.{no_words, stand_together, fit_words, specifiers_of, specifiers, key_of_word, parameters, const_if, body, block, body_or_none, enumeration}
use Rattle.cxx_grammar.specs.Classes.{access_of_word, member_inits, tilde, constructor_member, class_declared, class_defined, class}
use Rattle.parse_class.specs.declared.common.Common.{Common}
use Rattle.parse_class.specs.declared.common.Common.TheVariants as common-of

-- ---- what a declaration is in a namespace, and in a class

abbrev pub decl_of : Common → Decl
decl_of (common-of.Alias x) = decl-of.Alias x
decl_of (common-of.Class x) = decl-of.Class x
decl_of (common-of.Enum x) = decl-of.Enum x
decl_of (common-of.Assert x) = decl-of.Assert x
decl_of (common-of.Block x) = decl-of.Block x
decl_of (common-of.Function x) = decl-of.Function x
decl_of (common-of.Variable x) = decl-of.Variable x

abbrev pub member_of : Common → Member
member_of (common-of.Alias x) = member-of.Alias x
member_of (common-of.Class x) = member-of.Class x
member_of (common-of.Enum x) = member-of.Enum x
member_of (common-of.Assert x) = member-of.Assert x
member_of (common-of.Block x) = member-of.Block x
member_of (common-of.Function x) = member-of.Function x
member_of (common-of.Variable x) = member-of.Data x

-- ---- tests of the tokens there

abbrev pub is_access : Option Seen → Bool
is_access (Some (seen.Word n)) = is_some (access_of_word n)
is_access _ = false

abbrev pub is_key : Option Seen → Bool
is_key (Some (seen.Word n)) = is_some (key_of_word n)
is_key _ = false

-- whether a word of its own tells what begins there: `consteval` does so before a brace
abbrev pub is_plain : Option Seen → Option Seen → Bool
is_plain k next = is_word keyword.USING k || (is_key k || (is_word keyword.ENUM k || (is_word keyword.STATIC_ASSERT k
    || (is_word keyword.CONSTEVAL k && is_punctuator mark.LEFT_BRACE next))))

module _ (tokens : Tokens) where
  -- an identifier and a parenthesis
  abbrev pub begins_constructor : ℕ → Bool
  begins_constructor i = is_identifier (kind tokens i) && is_punctuator mark.LEFT_PAREN (kind tokens (i + 1))

  -- ---- declarations at a level that began at `start`

  module _ (level : ℕ) where
    unfoldable pub variable_rest : Bool → ℕ → DeclWords → TypeTree → Identifier → Rule VariableTree
    variable_rest in_class start words t n = from tokens start (do
      all ← bounds tokens level []
      value ← optional (init tokens level)
      punctuator tokens mark.SEMICOLON
      guard ((stand_together words && fit_words in_class words) && fit_bounds all value)
      pure (λ s. record { span = s; specifiers = specifiers_of words; of_type = t; name = n; bounds = all; init = value }))

    unfoldable pub variable_behind : Bool → ℕ → DeclWords → TypeTree → Identifier → Rule Common
    variable_behind in_class start words t n = do x ← variable_rest in_class start words t n; pure (common-of.Variable x)

    -- ---- declarations that a word of their own tells

    unfoldable pub plain_alias : Rule Common
    plain_alias = do x ← alias tokens level; pure (common-of.Alias x)

    unfoldable pub plain_enum : Rule Common
    plain_enum = do x ← enumeration tokens level; pure (common-of.Enum x)

    unfoldable pub plain_assert : Rule Common
    plain_assert = do x ← assert tokens (level + 1); pure (common-of.Assert x)

    -- ---- classes, which are declared alone where `;` follows their name

    unfoldable pub class_joined : Rule Member → Rule ClassTree
    class_joined inside = λ i. if is_punctuator mark.SEMICOLON (kind tokens (i + 2)) then class_declared tokens i else class_defined tokens level inside i

  -- ---- what has a body, where `inner` are the rules one level deeper

  unfoldable pub destructor_rest : Nests → ℕ → DeclWords → Rule DestructorTree
  destructor_rest inner start words = from tokens start (do
    at ← tilde tokens
    n ← identifier tokens
    punctuator tokens mark.LEFT_PAREN
    punctuator tokens mark.RIGHT_PAREN
    is_noexcept ← present (word tokens keyword.NOEXCEPT)
    b ← body tokens (inner.stmt of_function)
    guard (stand_together words)
    pure (λ s. roll-DestructorTree (record { span = s; specifiers = specifiers_of words; tilde = at; name = n; is_noexcept = is_noexcept; body = b })))

  unfoldable pub destructor_behind : Nests → ℕ → DeclWords → Rule Member
  destructor_behind inner start words = do x ← destructor_rest inner start words; pure (member-of.Destructor x)

  unfoldable pub plain_block : Nests → Rule Common
  plain_block inner = do x ← block tokens (inner.stmt of_block); pure (common-of.Block x)

  module _ (level : ℕ) (inner : Nests) where
    unfoldable pub function_rest : Bool → ℕ → DeclWords → TypeTree → Identifier → Rule FunctionTree
    function_rest in_class start words t n = from tokens start (do
      all ← parameters tokens level
      is_const ← const_if tokens in_class
      is_noexcept ← present (word tokens keyword.NOEXCEPT)
      b ← body_or_none tokens (inner.stmt of_function)
      guard (stand_together words)
      pure (λ s. roll-FunctionTree (record { span = s; specifiers = specifiers_of words; returned = t; name = n; parameters = all; is_const = is_const; is_noexcept = is_noexcept; body = b })))

    unfoldable pub function_behind : Bool → ℕ → DeclWords → TypeTree → Identifier → Rule Common
    function_behind in_class start words t n = do x ← function_rest in_class start words t n; pure (common-of.Function x)

    unfoldable pub behind_name : Bool → ℕ → DeclWords → TypeTree → Identifier → Rule Common
    behind_name in_class start words t n = λ i. if is_punctuator mark.LEFT_PAREN (kind tokens i) then function_behind in_class start words t n i
        else variable_behind level in_class start words t n i

    unfoldable pub behind_words : Bool → ℕ → DeclWords → Rule Common
    behind_words in_class start words = λ i. and_then ((read tokens level).type_tree i) (λ t j. and_then (identifier tokens j) (behind_name in_class start words t))

    -- a function or a variable of a namespace
    unfoldable pub declared : Rule Common
    declared = λ start. and_then (specifiers tokens no_words start) (behind_words false start)

    unfoldable pub declared_decl : Rule Decl
    declared_decl = do x ← declared; pure (decl_of x)

    -- ---- declarations that a word of their own tells

    unfoldable pub plain_class : Rule Common
    plain_class = do x ← class tokens level inner.member; pure (common-of.Class x)

    unfoldable pub plain : Rule Common
    plain = λ i. if is_word keyword.USING (kind tokens i) then plain_alias level i
        else (if is_word keyword.ENUM (kind tokens i) then plain_enum level i
        else (if is_word keyword.STATIC_ASSERT (kind tokens i) then plain_assert level i
        else (if is_word keyword.CONSTEVAL (kind tokens i) then plain_block inner i else plain_class i)))

    unfoldable pub plain_decl : Rule Decl
    plain_decl = do x ← plain; pure (decl_of x)

    unfoldable pub plain_member : Rule Member
    plain_member = do x ← plain; pure (member_of x)

    -- ---- members behind their words

    unfoldable pub constructor_rest : ℕ → DeclWords → Rule ConstructorTree
    constructor_rest start words = from tokens start (do
      n ← identifier tokens
      all ← parameters tokens level
      is_noexcept ← present (word tokens keyword.NOEXCEPT)
      inits ← member_inits tokens level
      b ← body tokens (inner.stmt of_function)
      guard (stand_together words)
      pure (λ s. roll-ConstructorTree (record { span = s; is_explicit = words.is_explicit; specifiers = specifiers_of words; name = n; parameters = all; is_noexcept = is_noexcept; inits = inits; body = b })))

    unfoldable pub constructor_behind : ℕ → DeclWords → Rule Member
    constructor_behind start words = do x ← constructor_rest start words; pure (member-of.Constructor x)

    unfoldable pub member_typed : ℕ → DeclWords → Rule Member
    member_typed start words = λ i. and_then (behind_words true start words i) (λ x j. Tree (member_of x) j)

    unfoldable pub member_behind : ℕ → DeclWords → Rule Member
    member_behind start words = λ i. if is_punctuator mark.TILDE (kind tokens i) then destructor_behind inner start words i
        else (if begins_constructor i then constructor_behind start words i else member_typed start words i)

    unfoldable pub member_worded : ℕ → DeclWords → Rule Member
    member_worded start words = λ i. if is_word keyword.EXPLICIT (kind tokens i) then constructor_member tokens level inner start else member_behind start words i

    unfoldable pub member_declared : Rule Member
    member_declared = λ start. and_then (specifiers tokens no_words start) (member_worded start)
