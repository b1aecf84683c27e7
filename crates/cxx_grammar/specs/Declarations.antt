-- Declarations ([dcl.dcl], [dcl.fct], [dcl.enum]) at a level, but for classes. What has a body is given the rule of the statements
-- in it, `inside`.
use Rattle.std.specs.Prelude.{ℕ, ◌+◌, Bool, true, false, ◌&&◌, ◌||◌, not, if◌then◌else◌, ◌==◌, nat_le, List, [], ◌∷◌, Option, Some, None}
use Rattle.cxx_base.specs.declared.limits.TheConstants.{MAX_NESTING}
use Rattle.cxx_tree.specs.declared.expr.Expr.{Expr}
use Rattle.cxx_tree.specs.declared.expr.TypeTree.{TypeTree}
use Rattle.cxx_tree.specs.declared.stmt.Stmt.{Stmt}
use Rattle.cxx_tree.specs.declared.stmt.BodyTree.{BodyTree}
use Rattle.cxx_tree.specs.declared.stmt.BodyTree.TheVariants as body-of
use Rattle.cxx_tree.specs.declared.decl.NamespaceAliasTree.{NamespaceAliasTree}
use Rattle.cxx_tree.specs.declared.decl.NamespaceNamed.{NamespaceNamed}
use Rattle.cxx_tree.specs.declared.decl.NamespaceNamed.TheVariants as namespace-of
use Rattle.cxx_tree.specs.declared.decl.BlockTree.{BlockTree, roll-BlockTree}
use Rattle.cxx_tree.specs.declared.decl.Specifiers.{Specifiers}
use Rattle.cxx_tree.specs.declared.decl.Evaluated.{Evaluated}
use Rattle.cxx_tree.specs.declared.decl.Evaluated.TheVariants as evaluated
use Rattle.cxx_tree.specs.declared.decl.VariableTree.{VariableTree}
use Rattle.cxx_tree.specs.declared.decl.FunctionTree.{FunctionTree, roll-FunctionTree}
use Rattle.cxx_tree.specs.declared.decl.ParameterTree.{ParameterTree}
use Rattle.cxx_tree.specs.declared.decl.EnumTree.{EnumTree}
use Rattle.cxx_tree.specs.declared.decl.EnumeratorTree.{EnumeratorTree}
use Rattle.cxx_tree.specs.declared.decl.ClassKey.{ClassKey}
use Rattle.cxx_tree.specs.declared.decl.ClassKey.TheVariants as key-of
use Rattle.cxx_tokens.specs.declared.token.Tokens.{Tokens}
use Rattle.cxx_tokens.specs.declared.mark.TheConstants as mark
use Rattle.cxx_tokens.specs.declared.keyword.TheConstants as keyword
use Rattle.cxx_reading.specs.Any.{given, any_word}
use Rattle.cxx_reading.specs.Reading.{No, TooDeep, Rule, ◌>>=◌, ◌>>◌, ◌<|>◌, pure, guard, present, optional, if_any, punctuator, word, identifier, repeated, node}
use Rattle.cxx_grammar.specs.declared.specifier.DeclWords.{DeclWords}
use Rattle.cxx_grammar.specs.Sequences.{many, next_of}
use Rattle.cxx_grammar.specs.Rules.{Rules}
use Rattle.cxx_grammar.specs.Read.{read}
use Rattle.cxx_grammar.specs.Locals.{bounds, init, fit_bounds}

-- ---- words before a declared type or name

abbrev pub no_words : DeclWords
no_words = record { is_inline = false; is_static = false; is_constexpr = false; is_consteval = false; is_explicit = false; is_twice = false }

-- the words with one of `spec` more; a word that stood already stands twice
abbrev pub with_spec : DeclWords → ℕ → Option DeclWords
with_spec t n = if n == keyword.INLINE then Some (record { is_inline = true; is_static = t.is_static; is_constexpr = t.is_constexpr; is_consteval = t.is_consteval; is_explicit = t.is_explicit; is_twice = t.is_twice || t.is_inline })
    else (if n == keyword.STATIC then Some (record { is_inline = t.is_inline; is_static = true; is_constexpr = t.is_constexpr; is_consteval = t.is_consteval; is_explicit = t.is_explicit; is_twice = t.is_twice || t.is_static })
    else (if n == keyword.CONSTEXPR then Some (record { is_inline = t.is_inline; is_static = t.is_static; is_constexpr = true; is_consteval = t.is_consteval; is_explicit = t.is_explicit; is_twice = t.is_twice || t.is_constexpr })
    else (if n == keyword.CONSTEVAL then Some (record { is_inline = t.is_inline; is_static = t.is_static; is_constexpr = t.is_constexpr; is_consteval = true; is_explicit = t.is_explicit; is_twice = t.is_twice || t.is_consteval })
    else None)))

-- the same where `explicit` may stand too; it is no word of `spec`, and may stand again
abbrev pub with_constructor_word : DeclWords → ℕ → Option DeclWords
with_constructor_word t n = if n == keyword.EXPLICIT then Some (record { is_inline = t.is_inline; is_static = t.is_static; is_constexpr = t.is_constexpr; is_consteval = t.is_consteval; is_explicit = true; is_twice = t.is_twice })
    else with_spec t n

-- A word of `spec` stands once, and `constexpr` and `consteval` do not stand together.
abbrev pub stand_together : DeclWords → Bool
stand_together t = not (t.is_twice || (t.is_constexpr && t.is_consteval))

-- A variable is not `consteval`.
abbrev pub fit_variable : DeclWords → Bool
fit_variable t = not t.is_consteval

-- A `static` data member has `constexpr`, and one that is not `static` has it not. Neither has `consteval`.
abbrev pub fit_data_member : DeclWords → Bool
fit_data_member t = fit_variable t && (if t.is_static then t.is_constexpr else not t.is_constexpr)

-- whether the words fit a variable, or in a class a data member
abbrev pub fit_words : Bool → DeclWords → Bool
fit_words in_class t = if in_class then fit_data_member t else fit_variable t

abbrev pub evaluated_of : DeclWords → Evaluated
evaluated_of t = if t.is_consteval then evaluated.Consteval else (if t.is_constexpr then evaluated.Constexpr else evaluated.Plain)

abbrev pub specifiers_of : DeclWords → Specifiers
specifiers_of t = record { is_inline = t.is_inline; is_static = t.is_static; evaluated = evaluated_of t }

abbrev pub key_of_word : ℕ → Option ClassKey
key_of_word n = if n == keyword.STRUCT then Some key-of.Struct else (if n == keyword.CLASS then Some key-of.Class else None)

module _ (tokens : Tokens) where
  abbrev p : ℕ → Rule (Unit {0})
  p = punctuator tokens

  abbrev w : ℕ → Rule (Unit {0})
  w = word tokens

  -- a rule that is read at a level: past the last one each rule is too deep
  abbrev pub read_at : {A : Type 0} → ℕ → Rule A → Rule A
  read_at level q = λ i. if nat_le level MAX_NESTING then q i else No TooDeep

  unfoldable pub specifier : DeclWords → Rule DeclWords
  specifier found = do n ← any_word tokens; given (with_spec found n)

  -- spec*
  unfoldable pub specifiers : DeclWords → Rule DeclWords
  specifiers = repeated tokens specifier

  unfoldable pub constructor_word : DeclWords → Rule DeclWords
  constructor_word found = do n ← any_word tokens; given (with_constructor_word found n)

  -- ("explicit" | spec)*
  unfoldable pub constructor_words : DeclWords → Rule DeclWords
  constructor_words = repeated tokens constructor_word

  -- key : "struct" | "class"
  unfoldable pub key : Rule ClassKey
  key = do n ← any_word tokens; given (key_of_word n)

  -- "const"?, of a member function alone
  abbrev pub const_if : Bool → Rule Bool
  const_if true = present (w keyword.CONST)
  const_if false = pure false

  -- ---- bodies

  -- The statements of a body, each read by the rule. It is asked at least once, so that a body of the last level is too deep
  -- also where the text ends behind its brace.
  unfoldable pub more_statements : Rule Stmt → List Stmt → Rule (List Stmt)
  more_statements inside = many tokens inside

  unfoldable pub some_statements : Rule Stmt → Rule (List Stmt)
  some_statements inside = do
    first ← inside
    more_statements inside (first ∷ [])

  -- stmt*
  unfoldable pub statements : Rule Stmt → Rule (List Stmt)
  statements inside = if_any (some_statements inside)

  -- body : "{" stmt* "}"
  unfoldable pub body : Rule Stmt → Rule BodyTree
  body inside = node tokens (do
    p mark.LEFT_BRACE
    all ← statements inside
    p mark.RIGHT_BRACE
    pure (λ s. body-of.Body s all))

  -- block : "consteval" body
  unfoldable pub block : Rule Stmt → Rule BlockTree
  block inside = node tokens (do
    w keyword.CONSTEVAL
    b ← body inside
    pure (λ s. roll-BlockTree (record { span = s; body = b })))

  unfoldable pub without_body : Rule (Option BodyTree)
  without_body = do p mark.SEMICOLON; pure None

  unfoldable pub with_body : Rule Stmt → Rule (Option BodyTree)
  with_body inside = do b ← body inside; pure (Some b)

  -- ";" | body
  unfoldable pub body_or_none : Rule Stmt → Rule (Option BodyTree)
  body_or_none inside = without_body <|> with_body inside

  -- ---- forms at a level: `here` are the rules of expressions there, `deeper` those one level deeper

  module _ (level : ℕ) where
    abbrev here : Rules
    here = read tokens level

    abbrev deeper : Rules
    deeper = read tokens (level + 1)

    unfoldable pub namespace_name : Rule NamespaceNamed
    namespace_name = do n ← here.name; pure (namespace-of.Name n)

    unfoldable pub namespace_splice : Rule NamespaceNamed
    namespace_splice = do x ← here.splice; pure (namespace-of.Splice x)

    unfoldable pub namespace_named : Rule NamespaceNamed
    namespace_named = namespace_name <|> namespace_splice

    -- nsalias : "namespace" ID "=" (name | splice) ";"
    unfoldable pub namespace_alias : Rule NamespaceAliasTree
    namespace_alias = node tokens (do
      w keyword.NAMESPACE
      n ← identifier tokens
      p mark.EQUAL
      x ← namespace_named
      p mark.SEMICOLON
      pure (λ s. record { span = s; name = n; of = x }))

    -- "=" expr
    unfoldable pub enumerator_value : Rule Expr
    enumerator_value = p mark.EQUAL >> deeper.expr

    -- ID ("=" expr)?
    unfoldable pub enumerator_form : Rule EnumeratorTree
    enumerator_form = node tokens (do
      n ← identifier tokens
      value ← optional enumerator_value
      pure (λ s. record { span = s; name = n; value = value }))

    -- enumr : ID ("=" expr)?, at the level of the braces of the enumeration
    unfoldable pub enumerator : Rule EnumeratorTree
    enumerator = read_at (level + 1) enumerator_form

    unfoldable pub more_enumerators : List EnumeratorTree → Rule (List EnumeratorTree)
    more_enumerators = many tokens (next_of tokens enumerator)

    -- enumr ("," enumr)* ","?
    unfoldable pub some_enumerators : Rule (List EnumeratorTree)
    some_enumerators = do
      first ← enumerator
      all ← more_enumerators (first ∷ [])
      present (p mark.COMMA)
      pure all

    unfoldable pub enumerators : Rule (List EnumeratorTree)
    enumerators = if_any some_enumerators

    -- ":" type
    unfoldable pub underlying : Rule TypeTree
    underlying = p mark.COLON >> here.type_tree

    -- enum : "enum" key? ID (":" type)? "{" (enumr ("," enumr)* ","?)? "}" ";"
    unfoldable pub enumeration : Rule EnumTree
    enumeration = node tokens (do
      w keyword.ENUM
      k ← optional key
      n ← identifier tokens
      t ← optional underlying
      p mark.LEFT_BRACE
      all ← enumerators
      p mark.RIGHT_BRACE
      p mark.SEMICOLON
      pure (λ s. record { span = s; key = k; name = n; underlying = t; enumerators = all }))

    -- var : spec* type ID bound* init? ";"; in a class it is a data member
    unfoldable pub variable : Bool → Rule VariableTree
    variable in_class = node tokens (do
      words ← specifiers no_words
      of_type ← here.type_tree
      n ← identifier tokens
      all ← bounds tokens level []
      value ← optional (init tokens level)
      p mark.SEMICOLON
      guard ((stand_together words && fit_words in_class words) && fit_bounds all value)
      pure (λ s. record { span = s; specifiers = specifiers_of words; of_type = of_type; name = n; bounds = all; init = value }))

    -- param : type ID?, in the parentheses of the function
    unfoldable pub parameter : Rule ParameterTree
    parameter = node tokens (do
      of_type ← deeper.type_tree
      n ← optional (identifier tokens)
      pure (λ s. record { span = s; of_type = of_type; name = n }))

    unfoldable pub more_parameters : List ParameterTree → Rule (List ParameterTree)
    more_parameters = many tokens (next_of tokens parameter)

    unfoldable pub some_parameters : Rule (List ParameterTree)
    some_parameters = do
      first ← parameter
      more_parameters (first ∷ [])

    unfoldable pub parameters_if_any : Rule (List ParameterTree)
    parameters_if_any = if_any some_parameters

    -- "(" param,* ")"
    unfoldable pub parameters : Rule (List ParameterTree)
    parameters = do
      p mark.LEFT_PAREN
      all ← parameters_if_any
      p mark.RIGHT_PAREN
      pure all

    -- func : spec* type ID "(" param,* ")" "noexcept"? (";" | body); in a class it is a member function
    unfoldable pub function : Rule Stmt → Bool → Rule FunctionTree
    function inside in_class = node tokens (do
      words ← specifiers no_words
      returned ← here.type_tree
      n ← identifier tokens
      all ← parameters
      is_const ← const_if in_class
      is_noexcept ← present (w keyword.NOEXCEPT)
      b ← body_or_none inside
      guard (stand_together words)
      pure (λ s. roll-FunctionTree (record { span = s; specifiers = specifiers_of words; returned = returned; name = n; parameters = all; is_const = is_const; is_noexcept = is_noexcept; body = b })))
