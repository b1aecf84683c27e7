-- No rule of statements and declarations ends before the token at which it is read.
use Rattle.std.proofs.Common.{ℕ, zero, suc, ◌+◌, Bool, true, false, List}
use Rattle.cxx_tree.specs.declared.stmt.Stmt.{Stmt}
use Rattle.cxx_tree.specs.declared.stmt.BoundTree.{BoundTree}
use Rattle.cxx_tree.specs.declared.decl.EnumeratorTree.{EnumeratorTree}
use Rattle.cxx_tree.specs.declared.decl.ParameterTree.{ParameterTree}
use Rattle.cxx_tree.specs.declared.decl.BaseTree.{BaseTree}
use Rattle.cxx_tree.specs.declared.decl.Member.{Member}
use Rattle.cxx_tree.specs.declared.decl.MemberInit.{MemberInit}
use Rattle.cxx_tokens.specs.declared.token.Tokens.{Tokens}
use Rattle.cxx_reading.specs.Extents.{Forward}
use Rattle.cxx_reading.specs.Reading.{Rule}
use Rattle.cxx_grammar.specs.declared.specifier.DeclWords.{DeclWords}
use Rattle.cxx_grammar.specs.declared.within.Within.{Within}
use Rattle.cxx_grammar.specs.Lists as lists
use Rattle.cxx_grammar.specs.Read as levels
use Rattle.cxx_grammar.specs.Nests.{Nests}
use Rattle.cxx_grammar.specs.Locals as locals
use Rattle.cxx_grammar.specs.Declarations as decls
use Rattle.cxx_grammar.specs.Classes as classes
use Rattle.cxx_grammar.specs.Statements as forms
use Rattle.cxx_grammar.specs.Nesting as nesting
use Rattle.cxx_reading.proofs.Forward.{steps, forward_longer}
use Rattle.cxx_grammar.proofs.Tables.{tables}
use Rattle.cxx_grammar.proofs.Forwards as forwards

-- what is asked of the rules one level deeper
pub record ForwardNests (inner : Nests) : Type 0 where
  pub of_stmt : (w : Within) → Forward (inner.stmt w)
  pub of_sub : (w : Within) → Forward (inner.sub w)
  pub of_member : Forward inner.member

module _ (inner : Nests) (deep : ForwardNests inner) where
  pub inner_stmt : (w : Within) → Forward (inner.stmt w)
  inner_stmt w = deep.of_stmt w

  pub inner_sub : (w : Within) → Forward (inner.sub w)
  inner_sub w = deep.of_sub w

  pub inner_member : Forward inner.member
  inner_member = deep.of_member

module _ (tokens : Tokens) where
  -- ---- expressions at a level

  pub at_expr : (level : ℕ) → Forward (levels.read tokens level).expr
  at_expr level = (forwards.read tokens level).exprs

  pub at_type : (level : ℕ) → Forward (levels.read tokens level).type_tree
  at_type level = (forwards.read tokens level).types

  pub at_braced : (level : ℕ) → Forward (levels.read tokens level).braced
  at_braced level = (forwards.read tokens level).braceds

  pub at_unary : (level : ℕ) → Forward (levels.read tokens level).unary
  at_unary level = (forwards.read tokens level).unarys

  pub at_name : (level : ℕ) → Forward (levels.read tokens level).name
  at_name level = forwards.read_name tokens level

  pub at_splice : (level : ℕ) → Forward (levels.read tokens level).splice
  at_splice level = forwards.read_splice tokens level

  pub at_args : (level : ℕ) → Forward (levels.read tokens level).args
  at_args level = forwards.read_args tokens level

  pub at_arg : (level : ℕ) → Forward (lists.arg tokens (levels.read tokens level))
  at_arg level = forwards.arg tokens (levels.read tokens level) (forwards.read tokens level)

  -- ---- the rules of statements and declarations

  pub compound : Forward (locals.compound tokens)
  unfolding locals.compound
  compound = search (steps, tables) depth 14

  pub before : Forward (locals.before tokens)
  unfolding locals.before
  before = search (steps, tables) depth 14

  pub behind : Forward (locals.behind tokens)
  unfolding locals.behind
  behind = search (steps, tables) depth 14

  pub message : Forward (locals.message tokens)
  unfolding locals.message
  message = search (steps, tables) depth 14

  module _ (level : ℕ) where
    pub bound : Forward (locals.bound tokens level)
    unfolding locals.bound
    bound = search (steps, tables, at_expr) depth 14

    pub bounds : (x : List BoundTree) → Forward (locals.bounds tokens level x)
    unfolding locals.bounds
    bounds x = search (steps, tables, bound) depth 14

    pub init_equal : Forward (locals.init_equal tokens level)
    unfolding locals.init_equal
    init_equal = search (steps, tables, at_expr) depth 14

    pub init_equal_braced : Forward (locals.init_equal_braced tokens level)
    unfolding locals.init_equal_braced
    init_equal_braced = search (steps, tables, at_braced) depth 14

    pub init_braced : Forward (locals.init_braced tokens level)
    unfolding locals.init_braced
    init_braced = search (steps, tables, at_braced) depth 14

    pub init : Forward (locals.init tokens level)
    unfolding locals.init
    init = search (forward_longer, init_equal, init_equal_braced, init_braced) depth 14

    pub local : Forward (locals.local tokens level)
    unfolding locals.local
    local = search (steps, tables, at_type, bounds, init) depth 14

    pub assign_equal : Forward (locals.assign_equal tokens level)
    unfolding locals.assign_equal
    assign_equal = search (steps, tables, at_unary, at_arg) depth 14

    pub assign_compound : Forward (locals.assign_compound tokens level)
    unfolding locals.assign_compound
    assign_compound = search (steps, tables, at_unary, at_expr, compound) depth 14

    pub step_before : Forward (locals.step_before tokens level)
    unfolding locals.step_before
    step_before = search (steps, tables, at_unary, before) depth 14

    pub step_behind : Forward (locals.step_behind tokens level)
    unfolding locals.step_behind
    step_behind = search (steps, tables, at_unary, behind) depth 14

    pub assign : Forward (locals.assign tokens level)
    unfolding locals.assign
    assign = search (forward_longer, assign_equal, assign_compound, step_before, step_behind) depth 14

    pub assert : Forward (locals.assert tokens level)
    unfolding locals.assert
    assert = search (steps, tables, at_expr, message) depth 14

    pub aliased : Forward (locals.aliased tokens level)
    unfolding locals.aliased
    aliased = search (steps, tables, at_type, at_splice) depth 14

    pub alias : Forward (locals.alias tokens level)
    unfolding locals.alias
    alias = search (steps, tables, aliased) depth 14

  pub specifier : (x : DeclWords) → Forward (decls.specifier tokens x)
  unfolding decls.specifier
  specifier x = search (steps, tables) depth 14

  pub specifiers : (x : DeclWords) → Forward (decls.specifiers tokens x)
  unfolding decls.specifiers
  specifiers x = search (steps, tables, specifier) depth 14

  pub constructor_word : (x : DeclWords) → Forward (decls.constructor_word tokens x)
  unfolding decls.constructor_word
  constructor_word x = search (steps, tables) depth 14

  pub constructor_words : (x : DeclWords) → Forward (decls.constructor_words tokens x)
  unfolding decls.constructor_words
  constructor_words x = search (steps, tables, constructor_word) depth 14

  pub key : Forward (decls.key tokens)
  unfolding decls.key
  key = search (steps, tables) depth 14

  pub const_if : (b : Bool) → Forward (decls.const_if tokens b)
  const_if true = search (steps) depth 14
  const_if false = search (steps) depth 14

  pub more_statements : (q : Rule Stmt) (x : List Stmt) → Forward q → Forward (decls.more_statements tokens q x)
  unfolding decls.more_statements
  more_statements q x h = search (steps, tables) depth 14

  pub some_statements : (q : Rule Stmt) → Forward q → Forward (decls.some_statements tokens q)
  unfolding decls.some_statements
  some_statements q h = search (steps, tables, more_statements) depth 14

  pub statements : (q : Rule Stmt) → Forward q → Forward (decls.statements tokens q)
  unfolding decls.statements
  statements q h = search (steps, tables, some_statements) depth 14

  pub body : (q : Rule Stmt) → Forward q → Forward (decls.body tokens q)
  unfolding decls.body
  body q h = search (steps, tables, statements) depth 14

  pub block : (q : Rule Stmt) → Forward q → Forward (decls.block tokens q)
  unfolding decls.block
  block q h = search (steps, tables, body) depth 14

  pub without_body : Forward (decls.without_body tokens)
  unfolding decls.without_body
  without_body = search (steps, tables) depth 14

  pub with_body : (q : Rule Stmt) → Forward q → Forward (decls.with_body tokens q)
  unfolding decls.with_body
  with_body q h = search (steps, tables, body) depth 14

  pub body_or_none : (q : Rule Stmt) → Forward q → Forward (decls.body_or_none tokens q)
  unfolding decls.body_or_none
  body_or_none q h = search (forward_longer, without_body, with_body) depth 14

  module _ (level : ℕ) where
    pub namespace_name : Forward (decls.namespace_name tokens level)
    unfolding decls.namespace_name
    namespace_name = search (steps, tables, at_name) depth 14

    pub namespace_splice : Forward (decls.namespace_splice tokens level)
    unfolding decls.namespace_splice
    namespace_splice = search (steps, tables, at_splice) depth 14

    pub namespace_named : Forward (decls.namespace_named tokens level)
    unfolding decls.namespace_named
    namespace_named = search (forward_longer, namespace_name, namespace_splice) depth 14

    pub namespace_alias : Forward (decls.namespace_alias tokens level)
    unfolding decls.namespace_alias
    namespace_alias = search (steps, tables, namespace_named) depth 14

    pub enumerator_value : Forward (decls.enumerator_value tokens level)
    unfolding decls.enumerator_value
    enumerator_value = search (steps, tables, at_expr) depth 14

    pub enumerator_form : Forward (decls.enumerator_form tokens level)
    unfolding decls.enumerator_form
    enumerator_form = search (steps, tables, enumerator_value) depth 14

    pub enumerator : Forward (decls.enumerator tokens level)
    unfolding decls.enumerator
    enumerator = search (steps, tables, enumerator_form) depth 14

    pub more_enumerators : (x : List EnumeratorTree) → Forward (decls.more_enumerators tokens level x)
    unfolding decls.more_enumerators
    more_enumerators x = search (steps, tables, enumerator) depth 14

    pub some_enumerators : Forward (decls.some_enumerators tokens level)
    unfolding decls.some_enumerators
    some_enumerators = search (steps, tables, enumerator, more_enumerators) depth 14

    pub enumerators : Forward (decls.enumerators tokens level)
    unfolding decls.enumerators
    enumerators = search (steps, tables, some_enumerators) depth 14

    pub underlying : Forward (decls.underlying tokens level)
    unfolding decls.underlying
    underlying = search (steps, tables, at_type) depth 14

    pub enumeration : Forward (decls.enumeration tokens level)
    unfolding decls.enumeration
    enumeration = search (steps, tables, key, underlying, enumerators) depth 14

    pub variable : (b : Bool) → Forward (decls.variable tokens level b)
    unfolding decls.variable
    variable b = search (steps, tables, at_type, specifiers, bounds, init) depth 14

    pub parameter : Forward (decls.parameter tokens level)
    unfolding decls.parameter
    parameter = search (steps, tables, at_type) depth 14

    pub more_parameters : (x : List ParameterTree) → Forward (decls.more_parameters tokens level x)
    unfolding decls.more_parameters
    more_parameters x = search (steps, tables, parameter) depth 14

    pub some_parameters : Forward (decls.some_parameters tokens level)
    unfolding decls.some_parameters
    some_parameters = search (steps, tables, parameter, more_parameters) depth 14

    pub parameters_if_any : Forward (decls.parameters_if_any tokens level)
    unfolding decls.parameters_if_any
    parameters_if_any = search (steps, tables, some_parameters) depth 14

    pub parameters : Forward (decls.parameters tokens level)
    unfolding decls.parameters
    parameters = search (steps, tables, parameters_if_any) depth 14

    pub function : (q : Rule Stmt) (b : Bool) → Forward q → Forward (decls.function tokens level q b)
    unfolding decls.function
    function q true h = search (steps, tables, at_type, specifiers, parameters, body_or_none) depth 24
    function q false h = search (steps, tables, at_type, specifiers, parameters, body_or_none) depth 24

  pub access : Forward (classes.access tokens)
  unfolding classes.access
  access = search (steps, tables) depth 14

  pub access_member : Forward (classes.access_member tokens)
  unfolding classes.access_member
  access_member = search (steps, tables, access) depth 14

  pub empty_member : Forward (classes.empty_member tokens)
  unfolding classes.empty_member
  empty_member = search (steps, tables) depth 14

  pub tilde : Forward (classes.tilde tokens)
  unfolding classes.tilde
  tilde = search (steps, tables) depth 14

  pub class_declared : Forward (classes.class_declared tokens)
  unfolding classes.class_declared
  class_declared = search (steps, tables, key) depth 14

  module _ (level : ℕ) where
    pub based_name : Forward (classes.based_name tokens level)
    unfolding classes.based_name
    based_name = search (steps, tables, at_name) depth 14

    pub based_splice : Forward (classes.based_splice tokens level)
    unfolding classes.based_splice
    based_splice = search (steps, tables, at_splice) depth 14

    pub based_typename : Forward (classes.based_typename tokens level)
    unfolding classes.based_typename
    based_typename = search (steps, tables, at_splice) depth 14

    pub based : Forward (classes.based tokens level)
    unfolding classes.based
    based = search (forward_longer, based_name, based_splice, based_typename) depth 14

    pub base : Forward (classes.base tokens level)
    unfolding classes.base
    base = search (steps, tables, access, based) depth 14

    pub more_bases : (x : List BaseTree) → Forward (classes.more_bases tokens level x)
    unfolding classes.more_bases
    more_bases x = search (steps, tables, base) depth 14

    pub some_bases : Forward (classes.some_bases tokens level)
    unfolding classes.some_bases
    some_bases = search (steps, tables, base, more_bases) depth 14

    pub bases : Forward (classes.bases tokens level)
    unfolding classes.bases
    bases = search (steps, tables, some_bases) depth 14

    pub value_args : Forward (classes.value_args tokens level)
    unfolding classes.value_args
    value_args = search (steps, tables, at_args) depth 14

    pub value_braced : Forward (classes.value_braced tokens level)
    unfolding classes.value_braced
    value_braced = search (steps, tables, at_braced) depth 14

    pub init_value : Forward (classes.init_value tokens level)
    unfolding classes.init_value
    init_value = search (forward_longer, value_args, value_braced) depth 14

    pub member_init : Forward (classes.member_init tokens level)
    unfolding classes.member_init
    member_init = search (steps, tables, at_name, init_value) depth 14

    pub more_inits : (x : List MemberInit) → Forward (classes.more_inits tokens level x)
    unfolding classes.more_inits
    more_inits x = search (steps, tables, member_init) depth 14

    pub some_inits : Forward (classes.some_inits tokens level)
    unfolding classes.some_inits
    some_inits = search (steps, tables, member_init, more_inits) depth 14

    pub member_inits : Forward (classes.member_inits tokens level)
    unfolding classes.member_inits
    member_inits = search (steps, tables, some_inits) depth 14

    pub alias_member : Forward (classes.alias_member tokens level)
    unfolding classes.alias_member
    alias_member = search (steps, tables, alias) depth 14

    pub enum_member : Forward (classes.enum_member tokens level)
    unfolding classes.enum_member
    enum_member = search (steps, tables, enumeration) depth 14

    pub assert_member : Forward (classes.assert_member tokens level)
    unfolding classes.assert_member
    assert_member = search (steps, tables, assert) depth 14

    pub data_member : Forward (classes.data_member tokens level)
    unfolding classes.data_member
    data_member = search (steps, tables, variable) depth 14

    pub namespace_decl : Forward (classes.namespace_decl tokens level)
    unfolding classes.namespace_decl
    namespace_decl = search (steps, tables, namespace_alias) depth 14

    pub alias_decl : Forward (classes.alias_decl tokens level)
    unfolding classes.alias_decl
    alias_decl = search (steps, tables, alias) depth 14

    pub enum_decl : Forward (classes.enum_decl tokens level)
    unfolding classes.enum_decl
    enum_decl = search (steps, tables, enumeration) depth 14

    pub variable_decl : Forward (classes.variable_decl tokens level)
    unfolding classes.variable_decl
    variable_decl = search (steps, tables, variable) depth 14

    pub assert_decl : Forward (classes.assert_decl tokens level)
    unfolding classes.assert_decl
    assert_decl = search (steps, tables, assert) depth 14

    pub constructor_form : (q : Rule Stmt) → Forward q → Forward (classes.constructor_form tokens level q)
    unfolding classes.constructor_form
    constructor_form q h = search (steps, tables, constructor_words, parameters, member_inits, body) depth 14

    pub destructor_form : (q : Rule Stmt) → Forward q → Forward (classes.destructor_form tokens level q)
    unfolding classes.destructor_form
    destructor_form q h = search (steps, tables, specifiers, tilde, body) depth 14

    module _ (inside : Rule Member) (deep : Forward inside) where
      pub more_members : (x : List Member) → Forward (classes.more_members tokens level inside x)
      unfolding classes.more_members
      more_members x = search (steps, tables) depth 14

      pub some_members : Forward (classes.some_members tokens level inside)
      unfolding classes.some_members
      some_members = search (steps, tables, more_members) depth 14

      pub members : Forward (classes.members tokens level inside)
      unfolding classes.members
      members = search (steps, tables, some_members) depth 14

      pub class_defined : Forward (classes.class_defined tokens level inside)
      unfolding classes.class_defined
      class_defined = search (steps, tables, key, bases, members) depth 14

      pub class : Forward (classes.class tokens level inside)
      unfolding classes.class
      class = search (forward_longer, class_declared, class_defined) depth 14

    module _ (inner : Nests) (deep : ForwardNests inner) where
      pub class_member : Forward (classes.class_member tokens level inner)
      unfolding classes.class_member
      class_member = search (steps, tables, inner_member, class) depth 14

      pub block_member : Forward (classes.block_member tokens level inner)
      unfolding classes.block_member
      block_member = search (steps, tables, inner_stmt, block) depth 14

      pub function_member : Forward (classes.function_member tokens level inner)
      unfolding classes.function_member
      function_member = search (steps, tables, inner_stmt, function) depth 14

      pub constructor_member : Forward (classes.constructor_member tokens level inner)
      unfolding classes.constructor_member
      constructor_member = search (steps, tables, inner_stmt, constructor_form) depth 14

      pub destructor_member : Forward (classes.destructor_member tokens level inner)
      unfolding classes.destructor_member
      destructor_member = search (steps, tables, inner_stmt, destructor_form) depth 14

      pub member : Forward (classes.member tokens level inner)
      unfolding classes.member
      member = search (forward_longer, access_member, empty_member, alias_member, class_member, enum_member, assert_member, block_member, data_member, function_member, constructor_member, destructor_member) depth 30

      pub class_decl : Forward (classes.class_decl tokens level inner)
      unfolding classes.class_decl
      class_decl = search (steps, tables, inner_member, class) depth 14

      pub function_decl : Forward (classes.function_decl tokens level inner)
      unfolding classes.function_decl
      function_decl = search (steps, tables, inner_stmt, function) depth 14

      pub block_decl : Forward (classes.block_decl tokens level inner)
      unfolding classes.block_decl
      block_decl = search (steps, tables, inner_stmt, block) depth 14

      pub decl : Forward (classes.decl tokens level inner)
      unfolding classes.decl
      decl = search (forward_longer, namespace_decl, alias_decl, class_decl, enum_decl, function_decl, variable_decl, assert_decl, block_decl) depth 30

  pub empty_form : Forward (forms.empty_form tokens)
  unfolding forms.empty_form
  empty_form = search (steps, tables) depth 14

  pub break_form : (w : Within) → Forward (forms.break_form tokens w)
  unfolding forms.break_form
  break_form w = search (steps, tables) depth 14

  pub continue_form : (w : Within) → Forward (forms.continue_form tokens w)
  unfolding forms.continue_form
  continue_form w = search (steps, tables) depth 14

  pub for_empty : Forward (forms.for_empty tokens)
  unfolding forms.for_empty
  for_empty = search (steps, tables) depth 14

  module _ (level : ℕ) where
    pub alias_form : Forward (forms.alias_form tokens level)
    unfolding forms.alias_form
    alias_form = search (steps, tables, alias) depth 14

    pub local_form : Forward (forms.local_form tokens level)
    unfolding forms.local_form
    local_form = search (steps, tables, local) depth 14

    pub assign_form : Forward (forms.assign_form tokens level)
    unfolding forms.assign_form
    assign_form = search (steps, tables, assign) depth 14

    pub expr_form : Forward (forms.expr_form tokens level)
    unfolding forms.expr_form
    expr_form = search (steps, tables, at_expr) depth 14

    pub returned : Forward (forms.returned tokens level)
    unfolding forms.returned
    returned = search (steps, tables, at_expr, at_braced) depth 14

    pub return_form : Forward (forms.return_form tokens level)
    unfolding forms.return_form
    return_form = search (steps, tables, returned) depth 14

    pub assert_form : Forward (forms.assert_form tokens level)
    unfolding forms.assert_form
    assert_form = search (steps, tables, assert) depth 14

    pub for_local : Forward (forms.for_local tokens level)
    unfolding forms.for_local
    for_local = search (steps, tables, local) depth 14

    pub for_assign : Forward (forms.for_assign tokens level)
    unfolding forms.for_assign
    for_assign = search (steps, tables, assign) depth 14

    pub for_init : Forward (forms.for_init tokens level)
    unfolding forms.for_init
    for_init = search (forward_longer, for_local, for_assign, for_empty) depth 14

    pub for_step : Forward (forms.for_step tokens level)
    unfolding forms.for_step
    for_step = search (steps, tables, at_expr, assign) depth 14

    pub range : Forward (forms.range tokens level)
    unfolding forms.range
    range = search (steps, tables, at_type, at_expr) depth 14

    module _ (inner : Nests) (deep : ForwardNests inner) where
      -- (a lemma of its own, since a search takes no field under a binder)
      sub_inside : (w : Within) → Forward (inner.sub w)
      sub_inside w = deep.of_sub w

      pub if_form : (within : Within) → Forward (forms.if_form tokens level inner within)
      unfolding forms.if_form
      if_form within = search (steps, tables, at_expr, sub_inside) depth 24

      pub while_form : (within : Within) → Forward (forms.while_form tokens level inner within)
      unfolding forms.while_form
      while_form within = search (steps, tables, at_expr, sub_inside) depth 14

      pub for_form : (within : Within) → Forward (forms.for_form tokens level inner within)
      unfolding forms.for_form
      for_form within = search (steps, tables, at_expr, sub_inside, for_init, for_step) depth 24

      pub range_for_form : (within : Within) → Forward (forms.range_for_form tokens level inner within)
      unfolding forms.range_for_form
      range_for_form within = search (steps, tables, sub_inside, range) depth 14

  pub body_form : (q : Rule Stmt) → Forward q → Forward (forms.body_form tokens q)
  unfolding forms.body_form
  body_form q h = search (steps, tables, body) depth 14

  pub class_form : (n : ℕ) (q : Rule Member) (w : Within) → Forward q → Forward (forms.class_form tokens n q w)
  unfolding forms.class_form
  class_form n q w h = search (steps, tables, class) depth 14

  pub block_form : (q : Rule Stmt) (w : Within) → Forward q → Forward (forms.block_form tokens q w)
  unfolding forms.block_form
  block_form q w h = search (steps, tables, block) depth 14

  pub bracketed : (n : ℕ) (s : Within → Rule Stmt) (q : Rule Member) (w : Within) → ((w : Within) → Forward (s w)) → Forward q → Forward (forms.bracketed tokens n s q w)
  unfolding forms.bracketed
  bracketed n s q w h h' = search (forward_longer, body_form, class_form, block_form) depth 14

  module _ (level : ℕ) where
    module _ (inner : Nests) (deep : ForwardNests inner) where
      pub other_stmt : (n : ℕ) (w : Within) → Forward (forms.other_stmt tokens level inner n w)
      unfolding forms.other_stmt
      other_stmt n w = search (forward_longer, empty_form, assert_form, alias_form, local_form, assign_form, expr_form, if_form, while_form, for_form, range_for_form, return_form, break_form, continue_form) depth 30

      pub stmt : (w : Within) → Forward (forms.stmt tokens level inner w)
      unfolding forms.stmt
      stmt w = search (forward_longer, inner_stmt, inner_member, bracketed, other_stmt) depth 14

      pub sub : (w : Within) → Forward (forms.sub tokens level inner w)
      unfolding forms.sub
      sub w = search (forward_longer, bracketed, stmt, member, other_stmt) depth 14

  -- ---- all levels

  pub nests_at : (n level : ℕ) → ForwardNests (nesting.nests_at tokens n level)
  unfolding nesting.nests_at
  nests_at zero level = record { of_stmt = λ w. record { at = λ i. tt }; of_sub = λ w. record { at = λ i. tt }; of_member = record { at = λ i. tt } }
  nests_at (suc n) level = let inner = nesting.nests_at tokens n (level + 1) in let deep = nests_at n (level + 1) in
      record { of_stmt = stmt level inner deep; of_sub = sub level inner deep; of_member = member level inner deep }

  pub read_nests : (level : ℕ) → ForwardNests (nesting.read_nests tokens level)
  unfolding nesting.read_nests
  read_nests level = nests_at (levels.levels_from level) level
