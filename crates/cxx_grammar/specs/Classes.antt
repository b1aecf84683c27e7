-- Classes ([class], [class.mem], [class.derived], [class.ctor], [class.dtor]) at a level, and what a declaration is.
use Rattle.std.specs.Prelude.{ℕ, ◌+◌, Bool, true, false, ◌&&◌, if◌then◌else◌, ◌==◌, List, [], ◌∷◌, Option, Some, None}
use Rattle.cxx_base.specs.declared.place.Place.{Place}
use Rattle.cxx_tree.specs.declared.stmt.Stmt.{Stmt}
use Rattle.cxx_tree.specs.declared.stmt.BodyTree.{BodyTree}
use Rattle.cxx_tree.specs.declared.decl.Decl.{Decl}
use Rattle.cxx_tree.specs.declared.decl.Decl.TheVariants as decl-of
use Rattle.cxx_tree.specs.declared.decl.BlockTree.{BlockTree}
use Rattle.cxx_tree.specs.declared.decl.FunctionTree.{FunctionTree}
use Rattle.cxx_tree.specs.declared.decl.Access.{Access}
use Rattle.cxx_tree.specs.declared.decl.Access.TheVariants as access-of
use Rattle.cxx_tree.specs.declared.decl.ClassTree.{ClassTree}
use Rattle.cxx_tree.specs.declared.decl.ClassTree.TheVariants as class-of
use Rattle.cxx_tree.specs.declared.decl.BaseTree.{BaseTree}
use Rattle.cxx_tree.specs.declared.decl.BasedTree.{BasedTree}
use Rattle.cxx_tree.specs.declared.decl.BasedTree.TheVariants as based-of
use Rattle.cxx_tree.specs.declared.decl.Member.{Member, out-Member}
use Rattle.cxx_tree.specs.declared.decl.ClassTree.TheOpen.{Member-F}
use Rattle.cxx_tree.specs.declared.decl.Member.TheVariants as member-of
use Rattle.cxx_tree.specs.declared.decl.ConstructorTree.{ConstructorTree, roll-ConstructorTree, out-ConstructorTree}
use Rattle.cxx_tree.specs.declared.decl.MemberInit.{MemberInit}
use Rattle.cxx_tree.specs.declared.decl.MemberInitValue.{MemberInitValue}
use Rattle.cxx_tree.specs.declared.decl.MemberInitValue.TheVariants as value-of
use Rattle.cxx_tree.specs.declared.decl.DestructorTree.{DestructorTree, roll-DestructorTree, out-DestructorTree}
use Rattle.cxx_tokens.specs.declared.token.Tokens.{Tokens}
use Rattle.cxx_tokens.specs.declared.mark.TheConstants as mark
use Rattle.cxx_tokens.specs.declared.keyword.TheConstants as keyword
use Rattle.cxx_reading.specs.Any.{given, any_word}
use Rattle.cxx_reading.specs.Reading.{Rule, ◌>>=◌, ◌>>◌, ◌<|>◌, pure, guard, present, optional, if_any, punctuator, word, identifier, node}
use Rattle.cxx_grammar.specs.Sequences.{many, next_of}
use Rattle.cxx_grammar.specs.Rules.{Rules}
use Rattle.cxx_grammar.specs.Read.{read}
use Rattle.cxx_grammar.specs.Locals.{assert, alias}
use Rattle.cxx_grammar.specs.Declarations.{no_words, stand_together, specifiers_of, specifiers, constructor_words, key, namespace_alias, body, block, enumeration, variable, parameters, function}
use Rattle.cxx_grammar.specs.Nests.{Nests, of_function, of_block}

abbrev pub access_of_word : ℕ → Option Access
access_of_word n = if n == keyword.PUBLIC then Some access-of.Public
    else (if n == keyword.PROTECTED then Some access-of.Protected
    else (if n == keyword.PRIVATE then Some access-of.Private else None))

-- one layer of a member
abbrev pub Layer : Type 0
Layer = Member-F ClassTree Member BodyTree Stmt BlockTree ConstructorTree DestructorTree FunctionTree

abbrev pub is_named_in : ℕ → Layer → Bool
is_named_in n (Member-F.Constructor c) = (out-ConstructorTree c).name.name.0 == n
is_named_in n (Member-F.Destructor d) = (out-DestructorTree d).name.name.0 == n
is_named_in n _ = true

-- whether a member that is a constructor or a destructor has the name of the class
abbrev pub is_named : ℕ → Member → Bool
is_named n m = is_named_in n (out-Member m)

abbrev pub are_named : ℕ → List Member → Bool
are_named n [] = true
are_named n (m ∷ more) = is_named n m && are_named n more

module _ (tokens : Tokens) where
  abbrev p : ℕ → Rule (Unit {0})
  p = punctuator tokens

  abbrev w : ℕ → Rule (Unit {0})
  w = word tokens

  -- access : "public" | "protected" | "private"
  unfoldable pub access : Rule Access
  access = do n ← any_word tokens; given (access_of_word n)

  -- access ":"
  unfoldable pub access_member : Rule Member
  access_member = node tokens (do a ← access; p mark.COLON; pure (λ s. member-of.Access s a))

  unfoldable pub empty_member : Rule Member
  empty_member = node tokens (do p mark.SEMICOLON; pure (λ s. member-of.Empty s))

  -- "~", by its place
  unfoldable pub tilde : Rule Place
  tilde = node tokens (p mark.TILDE >> pure (λ s. s.place))

  -- key ID ";"
  unfoldable pub class_declared : Rule ClassTree
  class_declared = node tokens (do
    k ← key tokens
    n ← identifier tokens
    p mark.SEMICOLON
    pure (λ s. class-of.Declared s k n))

  module _ (level : ℕ) where
    abbrev here : Rules
    here = read tokens level

    -- ---- bases and member initializers

    unfoldable pub based_name : Rule BasedTree
    based_name = do n ← here.name; pure (based-of.Name n)

    unfoldable pub based_splice : Rule BasedTree
    based_splice = do x ← here.splice; pure (based-of.Splice x)

    unfoldable pub based_typename : Rule BasedTree
    based_typename = node tokens (do w keyword.TYPENAME; x ← here.splice; pure (λ s. based-of.Typename s x))

    unfoldable pub based : Rule BasedTree
    based = based_name <|> based_splice <|> based_typename

    -- base : access? (name | splice | "typename" splice)
    unfoldable pub base : Rule BaseTree
    base = node tokens (do
      a ← optional access
      x ← based
      pure (λ s. record { span = s; access = a; of = x }))

    unfoldable pub more_bases : List BaseTree → Rule (List BaseTree)
    more_bases = many tokens (next_of tokens base)

    -- ":" base,+
    unfoldable pub some_bases : Rule (List BaseTree)
    some_bases = do
      p mark.COLON
      first ← base
      more_bases (first ∷ [])

    -- (":" base,+)?
    unfoldable pub bases : Rule (List BaseTree)
    bases = if_any some_bases

    unfoldable pub value_args : Rule MemberInitValue
    value_args = do x ← here.args; pure (value-of.Args x)

    unfoldable pub value_braced : Rule MemberInitValue
    value_braced = do x ← here.braced; pure (value-of.Braced x)

    unfoldable pub init_value : Rule MemberInitValue
    init_value = value_args <|> value_braced

    -- minit : name ("(" arg,* ")" | braced)
    unfoldable pub member_init : Rule MemberInit
    member_init = node tokens (do
      n ← here.name
      x ← init_value
      pure (λ s. record { span = s; name = n; value = x }))

    unfoldable pub more_inits : List MemberInit → Rule (List MemberInit)
    more_inits = many tokens (next_of tokens member_init)

    -- ":" minit,+
    unfoldable pub some_inits : Rule (List MemberInit)
    some_inits = do
      p mark.COLON
      first ← member_init
      more_inits (first ∷ [])

    -- (":" minit,+)?
    unfoldable pub member_inits : Rule (List MemberInit)
    member_inits = if_any some_inits

    -- ---- members and declarations in which nothing of their own kind stands

    unfoldable pub alias_member : Rule Member
    alias_member = do x ← alias tokens level; pure (member-of.Alias x)

    unfoldable pub enum_member : Rule Member
    enum_member = do x ← enumeration tokens level; pure (member-of.Enum x)

    unfoldable pub assert_member : Rule Member
    assert_member = do x ← assert tokens (level + 1); pure (member-of.Assert x)

    unfoldable pub data_member : Rule Member
    data_member = do x ← variable tokens level true; pure (member-of.Data x)

    unfoldable pub namespace_decl : Rule Decl
    namespace_decl = do x ← namespace_alias tokens level; pure (decl-of.NamespaceAlias x)

    unfoldable pub alias_decl : Rule Decl
    alias_decl = do x ← alias tokens level; pure (decl-of.Alias x)

    unfoldable pub enum_decl : Rule Decl
    enum_decl = do x ← enumeration tokens level; pure (decl-of.Enum x)

    unfoldable pub variable_decl : Rule Decl
    variable_decl = do x ← variable tokens level false; pure (decl-of.Variable x)

    unfoldable pub assert_decl : Rule Decl
    assert_decl = do x ← assert tokens (level + 1); pure (decl-of.Assert x)

    -- ---- what has a body

    -- ("explicit" | spec)* ID "(" param,* ")" "noexcept"? (":" minit,+)? body
    unfoldable pub constructor_form : Rule Stmt → Rule ConstructorTree
    constructor_form inside = node tokens (do
      words ← constructor_words tokens no_words
      n ← identifier tokens
      all ← parameters tokens level
      is_noexcept ← present (w keyword.NOEXCEPT)
      inits ← member_inits
      b ← body tokens inside
      guard (stand_together words)
      pure (λ s. roll-ConstructorTree (record { span = s; is_explicit = words.is_explicit; specifiers = specifiers_of words; name = n; parameters = all; is_noexcept = is_noexcept; inits = inits; body = b })))

    -- spec* "~" ID "(" ")" "noexcept"? body
    unfoldable pub destructor_form : Rule Stmt → Rule DestructorTree
    destructor_form inside = node tokens (do
      words ← specifiers tokens no_words
      at ← tilde
      n ← identifier tokens
      p mark.LEFT_PAREN
      p mark.RIGHT_PAREN
      is_noexcept ← present (w keyword.NOEXCEPT)
      b ← body tokens inside
      guard (stand_together words)
      pure (λ s. roll-DestructorTree (record { span = s; specifiers = specifiers_of words; tilde = at; name = n; is_noexcept = is_noexcept; body = b })))

    -- Forms of a class, where `inside` reads a member in its braces.
    module _ (inside : Rule Member) where
      -- The members of a class. The rule is asked at least once, as with statements.
      unfoldable pub more_members : List Member → Rule (List Member)
      more_members = many tokens inside

      unfoldable pub some_members : Rule (List Member)
      some_members = do
        first ← inside
        more_members (first ∷ [])

      -- member*
      unfoldable pub members : Rule (List Member)
      members = if_any some_members

      -- key ID (":" base,+)? "{" member* "}" ";", where its own constructors and destructors have its name
      unfoldable pub class_defined : Rule ClassTree
      class_defined = node tokens (do
        k ← key tokens
        n ← identifier tokens
        from ← bases
        p mark.LEFT_BRACE
        all ← members
        p mark.RIGHT_BRACE
        p mark.SEMICOLON
        guard (are_named n.name.0 all)
        pure (λ s. class-of.Defined s k n from all))

      -- class : key ID ";" | key ID (":" base,+)? "{" member* "}" ";"
      unfoldable pub class : Rule ClassTree
      class = class_declared <|> class_defined

    -- Members and declarations, where `inner` are the rules one level deeper.
    module _ (inner : Nests) where
      unfoldable pub class_member : Rule Member
      class_member = do x ← class inner.member; pure (member-of.Class x)

      unfoldable pub block_member : Rule Member
      block_member = do x ← block tokens (inner.stmt of_block); pure (member-of.Block x)

      unfoldable pub function_member : Rule Member
      function_member = do x ← function tokens level (inner.stmt of_function) true; pure (member-of.Function x)

      unfoldable pub constructor_member : Rule Member
      constructor_member = do x ← constructor_form (inner.stmt of_function); pure (member-of.Constructor x)

      unfoldable pub destructor_member : Rule Member
      destructor_member = do x ← destructor_form (inner.stmt of_function); pure (member-of.Destructor x)

      -- member : access ":" | ";" | alias | class | enum | assert | block | var | a member function | a constructor | a destructor
      unfoldable pub member : Rule Member
      member = access_member <|> empty_member <|> alias_member <|> class_member <|> enum_member <|> assert_member <|> block_member
          <|> data_member <|> function_member <|> constructor_member <|> destructor_member

      unfoldable pub class_decl : Rule Decl
      class_decl = do x ← class inner.member; pure (decl-of.Class x)

      unfoldable pub function_decl : Rule Decl
      function_decl = do x ← function tokens level (inner.stmt of_function) false; pure (decl-of.Function x)

      unfoldable pub block_decl : Rule Decl
      block_decl = do x ← block tokens (inner.stmt of_block); pure (decl-of.Block x)

      -- decl : nsalias | alias | class | enum | func | var | assert | block
      unfoldable pub decl : Rule Decl
      decl = namespace_decl <|> alias_decl <|> class_decl <|> enum_decl <|> function_decl <|> variable_decl <|> assert_decl <|> block_decl
