-- No rule of the grammar ends before the token at which it is read.
use Rattle.std.proofs.Common.{ℕ, zero, suc, List}
use Rattle.cxx_tokens.specs.declared.token.Tokens.{Tokens}
use Rattle.cxx_tree.specs.declared.expr.ArgTree.{ArgTree}
use Rattle.cxx_tree.specs.declared.expr.Suffix.{Suffix}
use Rattle.cxx_tree.specs.declared.expr.Expr.{Expr}
use Rattle.cxx_reading.specs.Extents.{Forward}
use Rattle.cxx_reading.specs.Reading.{Rule}
use Rattle.cxx_grammar.specs.declared.clause.Clauses.{Clauses}
use Rattle.cxx_grammar.specs.Types as types
use Rattle.cxx_grammar.specs.Lists as lists
use Rattle.cxx_grammar.specs.Primaries as primaries
use Rattle.cxx_grammar.specs.Postfixes as postfixes
use Rattle.cxx_grammar.specs.Unaries as unaries
use Rattle.cxx_grammar.specs.Expressions as expressions
use Rattle.cxx_grammar.specs.Rules.{Rules}
use Rattle.cxx_grammar.specs.Read as levels
use Rattle.cxx_reading.proofs.Forward.{steps, forward_longer}
use Rattle.cxx_grammar.proofs.Tables.{tables}
use Rattle.cxx_grammar.proofs.Shallow as shallow
use Rattle.cxx_grammar.proofs.Shallow.{forward_braced_of}

-- what is asked of the rules one level deeper
pub record ForwardRules (deeper : Rules) : Type 0 where
  pub exprs : Forward deeper.expr
  pub types : Forward deeper.type_tree
  pub braceds : Forward deeper.braced
  pub unarys : Forward deeper.unary

module _ (tokens : Tokens) (deeper : Rules) (h : ForwardRules deeper) where
  deep_expr : Forward deeper.expr
  deep_expr = h.exprs

  deep_type : Forward deeper.type_tree
  deep_type = h.types

  deep_braced : Forward deeper.braced
  deep_braced = h.braceds

  deep_unary : Forward deeper.unary
  deep_unary = h.unarys

  pub reflect_global : Forward (unaries.reflect_global tokens deeper)
  unfolding unaries.reflect_global
  reflect_global = search (steps) depth 14

  pub splice : Forward (types.splice tokens deeper)
  unfolding types.splice
  splice = search (steps, deep_expr) depth 14

  pub basic_typename : Forward (types.basic_typename tokens deeper)
  unfolding types.basic_typename
  basic_typename = search (steps, splice) depth 14

  pub basic : Forward (types.basic tokens deeper)
  unfolding types.basic
  basic = search (forward_longer, shallow.forward_basic_fund, shallow.forward_basic_name, basic_typename, shallow.forward_basic_vector) depth 14

  pub type_tree : Forward (types.type_tree tokens deeper)
  unfolding types.type_tree
  type_tree = search (steps, basic, shallow.forward_pointers) depth 14

  pub arg_expr : Forward (lists.arg_expr tokens deeper)
  unfolding lists.arg_expr
  arg_expr = search (steps, deep_expr) depth 14

  pub arg_braced : Forward (lists.arg_braced tokens deeper)
  unfolding lists.arg_braced
  arg_braced = search (steps, deep_braced) depth 14

  pub arg : Forward (lists.arg tokens deeper)
  unfolding lists.arg
  arg = search (forward_longer, arg_expr, arg_braced) depth 14

  pub next_arg : Forward (lists.next_arg tokens deeper)
  unfolding lists.next_arg
  next_arg = search (steps, arg) depth 14

  pub more_args : (x : List ArgTree) → Forward (lists.more_args tokens deeper x)
  unfolding lists.more_args
  more_args x = search (steps, next_arg) depth 14

  pub some_args : Forward (lists.some_args tokens deeper)
  unfolding lists.some_args
  some_args = search (steps, arg, more_args) depth 14

  pub args_if_any : Forward (lists.args_if_any tokens deeper)
  unfolding lists.args_if_any
  args_if_any = search (steps, some_args) depth 14

  pub args : Forward (lists.args tokens deeper)
  unfolding lists.args
  args = search (steps, args_if_any) depth 14

  pub designator_equal : Forward (lists.designator_equal tokens deeper)
  unfolding lists.designator_equal
  designator_equal = search (steps, arg) depth 14

  pub designator_braced : Forward (lists.designator_braced tokens deeper)
  unfolding lists.designator_braced
  designator_braced = search (steps, deep_braced) depth 14

  pub designator : Forward (lists.designator tokens deeper)
  unfolding lists.designator
  designator = search (forward_longer, designator_equal, designator_braced) depth 14

  pub clause_plain : Forward (lists.clause_plain tokens deeper)
  unfolding lists.clause_plain
  clause_plain = search (steps, arg) depth 14

  pub clause_designator : Forward (lists.clause_designator tokens deeper)
  unfolding lists.clause_designator
  clause_designator = search (steps, designator) depth 14

  pub clause : Forward (lists.clause tokens deeper)
  unfolding lists.clause
  clause = search (forward_longer, clause_plain, clause_designator) depth 14

  pub next_clause : Forward (lists.next_clause tokens deeper)
  unfolding lists.next_clause
  next_clause = search (steps, clause) depth 14

  pub more_clauses : (x : Clauses) → Forward (lists.more_clauses tokens deeper x)
  unfolding lists.more_clauses
  more_clauses x = search (steps, next_clause) depth 14

  pub some_clauses : Forward (lists.some_clauses tokens deeper)
  unfolding lists.some_clauses
  some_clauses = search (steps, clause, more_clauses) depth 14

  pub clauses_if_any : Forward (lists.clauses_if_any tokens deeper)
  unfolding lists.clauses_if_any
  clauses_if_any = search (steps, some_clauses) depth 14

  pub braced : Forward (lists.braced tokens deeper)
  unfolding lists.braced
  braced = search (steps, tables, clauses_if_any, forward_braced_of) depth 14

  pub paren_form : Forward (primaries.paren_form tokens deeper)
  unfolding primaries.paren_form
  paren_form = search (steps, deep_expr) depth 14

  pub splice_form : Forward (primaries.splice_form tokens deeper)
  unfolding primaries.splice_form
  splice_form = search (steps, splice) depth 14

  pub braced_form : Forward (primaries.braced_form tokens deeper)
  unfolding primaries.braced_form
  braced_form = search (steps, basic, braced) depth 14

  pub fund_call_form : Forward (primaries.fund_call_form tokens deeper)
  unfolding primaries.fund_call_form
  fund_call_form = search (steps, shallow.forward_fund, args) depth 14

  pub typename_call_form : Forward (primaries.typename_call_form tokens deeper)
  unfolding primaries.typename_call_form
  typename_call_form = search (steps, splice, args) depth 14

  pub cast_form : Forward (primaries.cast_form tokens deeper)
  unfolding primaries.cast_form
  cast_form = search (steps, type_tree, deep_expr) depth 14

  pub extract_form : Forward (primaries.extract_form tokens deeper)
  unfolding primaries.extract_form
  extract_form = search (steps, tables, shallow.forward_name, type_tree, deep_expr) depth 14

  pub primary : Forward (primaries.primary tokens deeper)
  unfolding primaries.primary
  primary = search (forward_longer, shallow.forward_integer_form, shallow.forward_character_form, shallow.forward_text_form, shallow.forward_true_form, shallow.forward_false_form, shallow.forward_nullptr_form, shallow.forward_this_form, shallow.forward_name_form, paren_form, splice_form, braced_form, fund_call_form, typename_call_form, cast_form, extract_form) depth 30

  pub call_suffix : Forward (postfixes.call_suffix tokens deeper)
  unfolding postfixes.call_suffix
  call_suffix = search (steps, args) depth 14

  pub subscript_suffix : Forward (postfixes.subscript_suffix tokens deeper)
  unfolding postfixes.subscript_suffix
  subscript_suffix = search (steps, deep_expr) depth 14

  pub member_suffix : Forward (postfixes.member_suffix tokens deeper)
  unfolding postfixes.member_suffix
  member_suffix = search (steps, shallow.forward_arrow) depth 14

  pub member_splice_suffix : Forward (postfixes.member_splice_suffix tokens deeper)
  unfolding postfixes.member_splice_suffix
  member_splice_suffix = search (steps, shallow.forward_arrow, splice) depth 14

  pub suffix : Forward (postfixes.suffix tokens deeper)
  unfolding postfixes.suffix
  suffix = search (forward_longer, call_suffix, subscript_suffix, member_suffix, member_splice_suffix) depth 14

  pub suffixes : (x : List Suffix) → Forward (postfixes.suffixes tokens deeper x)
  unfolding postfixes.suffixes
  suffixes x = search (steps, suffix) depth 14

  pub postfix : Forward (postfixes.postfix tokens deeper)
  unfolding postfixes.postfix
  postfix = search (steps, primary, suffixes) depth 14

  pub prefixed_form : Forward (unaries.prefixed_form tokens deeper)
  unfolding unaries.prefixed_form
  prefixed_form = search (steps, shallow.forward_unary_operator, deep_unary) depth 14

  pub reflect_type : Forward (unaries.reflect_type tokens deeper)
  unfolding unaries.reflect_type
  reflect_type = search (steps, deep_type) depth 14

  pub reflect_form : Forward (unaries.reflect_form tokens deeper)
  unfolding unaries.reflect_form
  reflect_form = search (forward_longer, reflect_global, reflect_type) depth 14

  pub sized_type : Forward (unaries.sized_type tokens deeper)
  unfolding unaries.sized_type
  sized_type = search (steps, deep_type) depth 14

  pub sized_expr : Forward (unaries.sized_expr tokens deeper)
  unfolding unaries.sized_expr
  sized_expr = search (steps, deep_expr) depth 14

  pub sized : Forward (unaries.sized tokens deeper)
  unfolding unaries.sized
  sized = search (forward_longer, sized_type, sized_expr) depth 14

  pub sizeof_form : Forward (unaries.sizeof_form tokens deeper)
  unfolding unaries.sizeof_form
  sizeof_form = search (steps, sized) depth 14

  pub empty_brackets : Forward (unaries.empty_brackets tokens deeper)
  unfolding unaries.empty_brackets
  empty_brackets = search (steps) depth 14

  pub delete_form : Forward (unaries.delete_form tokens deeper)
  unfolding unaries.delete_form
  delete_form = search (steps, empty_brackets, deep_unary) depth 14

  pub new_bound : Forward (unaries.new_bound tokens deeper)
  unfolding unaries.new_bound
  new_bound = search (steps, deep_expr) depth 14

  pub init_args : Forward (unaries.init_args tokens deeper)
  unfolding unaries.init_args
  init_args = search (steps, args) depth 14

  pub init_braced : Forward (unaries.init_braced tokens deeper)
  unfolding unaries.init_braced
  init_braced = search (steps, braced) depth 14

  pub new_init : Forward (unaries.new_init tokens deeper)
  unfolding unaries.new_init
  new_init = search (forward_longer, init_args, init_braced) depth 14

  pub new_form : Forward (unaries.new_form tokens deeper)
  unfolding unaries.new_form
  new_form = search (steps, deep_type, new_bound, new_init) depth 14

  pub unary : Forward (unaries.unary tokens deeper)
  unfolding unaries.unary
  unary = search (forward_longer, prefixed_form, reflect_form, sizeof_form, delete_form, new_form, postfix) depth 30

  pub operation : (n : ℕ) (operand : Rule Expr) → Forward operand → Forward (expressions.operation tokens deeper n operand)
  operation n operand g = search (steps, shallow.forward_line) depth 14

  longer_chain : (n : ℕ) → Forward (expressions.chain tokens deeper n) → Forward (expressions.chain tokens deeper (suc n))
  unfolding expressions.chain
  longer_chain n g = search (steps, operation) depth 14

  pub chain : (n : ℕ) → Forward (expressions.chain tokens deeper n)
  unfolding expressions.chain
  chain zero = unary
  chain (suc n) = longer_chain n (chain n)

  pub arms : Forward (expressions.arms tokens deeper)
  unfolding expressions.arms
  arms = search (steps, deep_expr) depth 14

  pub expr : Forward (expressions.expr tokens deeper)
  unfolding expressions.expr
  expr = search (steps, chain, arms) depth 14

module _ (tokens : Tokens) where
  pub rules : (n : ℕ) → ForwardRules (levels.rules tokens n)
  unfolding levels.rules
  rules zero = record { exprs = record { at = λ i. tt }; types = record { at = λ i. tt }; braceds = record { at = λ i. tt }; unarys = record { at = λ i. tt } }
  rules (suc n) = let d = levels.rules tokens n in let h = rules n in
      record { exprs = expr tokens d h; types = type_tree tokens d h; braceds = braced tokens d h; unarys = unary tokens d h }

  pub read : (level : ℕ) → ForwardRules (levels.read tokens level)
  unfolding levels.read
  read level = rules (levels.levels_from level)

  rules_name : (n : ℕ) → Forward (levels.rules tokens n).name
  unfolding levels.rules
  rules_name zero = record { at = λ i. tt }
  rules_name (suc n) = shallow.forward_name tokens

  rules_splice : (n : ℕ) → Forward (levels.rules tokens n).splice
  unfolding levels.rules
  rules_splice zero = record { at = λ i. tt }
  rules_splice (suc n) = splice tokens (levels.rules tokens n) (rules n)

  rules_args : (n : ℕ) → Forward (levels.rules tokens n).args
  unfolding levels.rules
  rules_args zero = record { at = λ i. tt }
  rules_args (suc n) = args tokens (levels.rules tokens n) (rules n)

  pub read_name : (level : ℕ) → Forward (levels.read tokens level).name
  unfolding levels.read
  read_name level = rules_name (levels.levels_from level)

  pub read_splice : (level : ℕ) → Forward (levels.read tokens level).splice
  unfolding levels.read
  read_splice level = rules_splice (levels.levels_from level)

  pub read_args : (level : ℕ) → Forward (levels.read tokens level).args
  unfolding levels.read
  read_args level = rules_args (levels.levels_from level)
