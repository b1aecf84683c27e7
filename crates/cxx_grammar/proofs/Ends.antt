-- Each rule of the grammar that gives a tree takes at least one token.
use Rattle.std.proofs.Common.{ℕ, zero, suc}
use Rattle.cxx_tokens.specs.declared.token.Tokens.{Tokens}
use Rattle.cxx_reading.specs.Extents.{Forward, Rises}
use Rattle.cxx_grammar.specs.Types as types
use Rattle.cxx_grammar.specs.Lists as lists
use Rattle.cxx_grammar.specs.Primaries as primaries
use Rattle.cxx_grammar.specs.Postfixes as postfixes
use Rattle.cxx_grammar.specs.Unaries as unaries
use Rattle.cxx_grammar.specs.Expressions as expressions
use Rattle.cxx_grammar.specs.Rules.{Rules}
use Rattle.cxx_grammar.specs.Read as levels
use Rattle.cxx_reading.proofs.Forward.{steps}
use Rattle.cxx_reading.proofs.Rises.{rising, rises_bind, rises_longer}
use Rattle.cxx_grammar.proofs.Tables.{tables}
use Rattle.cxx_grammar.proofs.Shallow as shallow
use Rattle.cxx_grammar.proofs.Forwards as forwards
use Rattle.cxx_grammar.proofs.Forwards.{ForwardRules}

-- what is asked of the rules one level deeper
pub record RisesRules (deeper : Rules) : Type 0 where
  pub exprs : Rises deeper.expr
  pub types : Rises deeper.type_tree
  pub braceds : Rises deeper.braced
  pub unarys : Rises deeper.unary

longer_chain : (tokens : Tokens) (deeper : Rules) (n : ℕ) → Forward (expressions.operation tokens deeper n (expressions.chain tokens deeper n))
    → Rises (expressions.chain tokens deeper n) → Rises (expressions.chain tokens deeper (suc n))
unfolding expressions.chain
longer_chain tokens deeper n f g = search (rises_bind, steps) depth 14

module _ (tokens : Tokens) (deeper : Rules) (f : ForwardRules deeper) (h : RisesRules deeper) where
  deep_expr : Rises deeper.expr
  deep_expr = h.exprs

  deep_type : Rises deeper.type_tree
  deep_type = h.types

  deep_braced : Rises deeper.braced
  deep_braced = h.braceds

  deep_unary : Rises deeper.unary
  deep_unary = h.unarys

  forward_expr : Forward deeper.expr
  forward_expr = f.exprs

  forward_type : Forward deeper.type_tree
  forward_type = f.types

  forward_braced : Forward deeper.braced
  forward_braced = f.braceds

  forward_unary : Forward deeper.unary
  forward_unary = f.unarys

  pub reflect_global : Rises (unaries.reflect_global tokens deeper)
  unfolding unaries.reflect_global
  reflect_global = search (rising) depth 14

  pub splice : Rises (types.splice tokens deeper)
  unfolding types.splice
  splice = search (rising, forward_expr) depth 14

  pub basic_typename : Rises (types.basic_typename tokens deeper)
  unfolding types.basic_typename
  basic_typename = search (rising, forwards.splice) depth 14

  pub basic : Rises (types.basic tokens deeper)
  unfolding types.basic
  basic = search (rises_longer, shallow.rises_basic_fund, shallow.rises_basic_name, basic_typename, shallow.rises_basic_vector) depth 14

  pub type_tree : Rises (types.type_tree tokens deeper)
  unfolding types.type_tree
  type_tree = search (rising, forwards.basic, shallow.forward_pointers, basic) depth 14

  pub arg_expr : Rises (lists.arg_expr tokens deeper)
  unfolding lists.arg_expr
  arg_expr = search (rising, deep_expr) depth 14

  pub arg_braced : Rises (lists.arg_braced tokens deeper)
  unfolding lists.arg_braced
  arg_braced = search (rising, deep_braced) depth 14

  pub arg : Rises (lists.arg tokens deeper)
  unfolding lists.arg
  arg = search (rises_longer, arg_expr, arg_braced) depth 14

  pub next_arg : Rises (lists.next_arg tokens deeper)
  unfolding lists.next_arg
  next_arg = search (rising, forwards.arg) depth 14

  pub some_args : Rises (lists.some_args tokens deeper)
  unfolding lists.some_args
  some_args = search (rising, forwards.more_args, arg) depth 14

  pub args : Rises (lists.args tokens deeper)
  unfolding lists.args
  args = search (rising, forwards.args_if_any) depth 14

  pub designator_equal : Rises (lists.designator_equal tokens deeper)
  unfolding lists.designator_equal
  designator_equal = search (rising, forwards.arg) depth 14

  pub designator_braced : Rises (lists.designator_braced tokens deeper)
  unfolding lists.designator_braced
  designator_braced = search (rising, forward_braced) depth 14

  pub designator : Rises (lists.designator tokens deeper)
  unfolding lists.designator
  designator = search (rises_longer, designator_equal, designator_braced) depth 14

  pub clause_plain : Rises (lists.clause_plain tokens deeper)
  unfolding lists.clause_plain
  clause_plain = search (rising, arg) depth 14

  pub clause_designator : Rises (lists.clause_designator tokens deeper)
  unfolding lists.clause_designator
  clause_designator = search (rising, designator) depth 14

  pub clause : Rises (lists.clause tokens deeper)
  unfolding lists.clause
  clause = search (rises_longer, clause_plain, clause_designator) depth 14

  pub next_clause : Rises (lists.next_clause tokens deeper)
  unfolding lists.next_clause
  next_clause = search (rising, forwards.clause) depth 14

  pub some_clauses : Rises (lists.some_clauses tokens deeper)
  unfolding lists.some_clauses
  some_clauses = search (rising, forwards.clause, forwards.more_clauses, clause) depth 14

  pub braced : Rises (lists.braced tokens deeper)
  unfolding lists.braced
  braced = search (rising, tables, forwards.clauses_if_any, shallow.forward_braced_of) depth 14

  pub paren_form : Rises (primaries.paren_form tokens deeper)
  unfolding primaries.paren_form
  paren_form = search (rising, forward_expr) depth 14

  pub splice_form : Rises (primaries.splice_form tokens deeper)
  unfolding primaries.splice_form
  splice_form = search (rising, splice) depth 14

  pub braced_form : Rises (primaries.braced_form tokens deeper)
  unfolding primaries.braced_form
  braced_form = search (rising, forwards.braced, basic) depth 14

  pub fund_call_form : Rises (primaries.fund_call_form tokens deeper)
  unfolding primaries.fund_call_form
  fund_call_form = search (rising, forwards.args, shallow.rises_fund) depth 14

  pub typename_call_form : Rises (primaries.typename_call_form tokens deeper)
  unfolding primaries.typename_call_form
  typename_call_form = search (rising, forwards.splice, forwards.args) depth 14

  pub cast_form : Rises (primaries.cast_form tokens deeper)
  unfolding primaries.cast_form
  cast_form = search (rising, forwards.type_tree, forward_expr) depth 14

  pub extract_form : Rises (primaries.extract_form tokens deeper)
  unfolding primaries.extract_form
  extract_form = search (rising, tables, shallow.forward_name, forwards.type_tree, forward_expr, shallow.rises_name) depth 14

  pub primary : Rises (primaries.primary tokens deeper)
  unfolding primaries.primary
  primary = search (rises_longer, shallow.rises_integer_form, shallow.rises_character_form, shallow.rises_text_form, shallow.rises_true_form, shallow.rises_false_form, shallow.rises_nullptr_form, shallow.rises_this_form, shallow.rises_name_form, paren_form, splice_form, braced_form, fund_call_form, typename_call_form, cast_form, extract_form) depth 30

  pub call_suffix : Rises (postfixes.call_suffix tokens deeper)
  unfolding postfixes.call_suffix
  call_suffix = search (rising, args) depth 14

  pub subscript_suffix : Rises (postfixes.subscript_suffix tokens deeper)
  unfolding postfixes.subscript_suffix
  subscript_suffix = search (rising, forward_expr) depth 14

  pub member_suffix : Rises (postfixes.member_suffix tokens deeper)
  unfolding postfixes.member_suffix
  member_suffix = search (rising, shallow.rises_arrow) depth 14

  pub member_splice_suffix : Rises (postfixes.member_splice_suffix tokens deeper)
  unfolding postfixes.member_splice_suffix
  member_splice_suffix = search (rising, forwards.splice, shallow.rises_arrow) depth 14

  pub suffix : Rises (postfixes.suffix tokens deeper)
  unfolding postfixes.suffix
  suffix = search (rises_longer, call_suffix, subscript_suffix, member_suffix, member_splice_suffix) depth 14

  pub postfix : Rises (postfixes.postfix tokens deeper)
  unfolding postfixes.postfix
  postfix = search (rising, forwards.primary, forwards.suffixes, primary) depth 14

  pub prefixed_form : Rises (unaries.prefixed_form tokens deeper)
  unfolding unaries.prefixed_form
  prefixed_form = search (rising, shallow.forward_unary_operator, forward_unary, shallow.rises_unary_operator) depth 14

  pub reflect_type : Rises (unaries.reflect_type tokens deeper)
  unfolding unaries.reflect_type
  reflect_type = search (rising, forward_type) depth 14

  pub reflect_form : Rises (unaries.reflect_form tokens deeper)
  unfolding unaries.reflect_form
  reflect_form = search (rises_longer, reflect_global, reflect_type) depth 14

  pub sized_type : Rises (unaries.sized_type tokens deeper)
  unfolding unaries.sized_type
  sized_type = search (rising, deep_type) depth 14

  pub sized_expr : Rises (unaries.sized_expr tokens deeper)
  unfolding unaries.sized_expr
  sized_expr = search (rising, deep_expr) depth 14

  pub sized : Rises (unaries.sized tokens deeper)
  unfolding unaries.sized
  sized = search (rises_longer, sized_type, sized_expr) depth 14

  pub sizeof_form : Rises (unaries.sizeof_form tokens deeper)
  unfolding unaries.sizeof_form
  sizeof_form = search (rising, forwards.sized) depth 14

  pub empty_brackets : Rises (unaries.empty_brackets tokens deeper)
  unfolding unaries.empty_brackets
  empty_brackets = search (rising) depth 14

  pub delete_form : Rises (unaries.delete_form tokens deeper)
  unfolding unaries.delete_form
  delete_form = search (rising, forwards.empty_brackets, forward_unary) depth 14

  pub new_bound : Rises (unaries.new_bound tokens deeper)
  unfolding unaries.new_bound
  new_bound = search (rising, forward_expr) depth 14

  pub init_args : Rises (unaries.init_args tokens deeper)
  unfolding unaries.init_args
  init_args = search (rising, args) depth 14

  pub init_braced : Rises (unaries.init_braced tokens deeper)
  unfolding unaries.init_braced
  init_braced = search (rising, braced) depth 14

  pub new_init : Rises (unaries.new_init tokens deeper)
  unfolding unaries.new_init
  new_init = search (rises_longer, init_args, init_braced) depth 14

  pub new_form : Rises (unaries.new_form tokens deeper)
  unfolding unaries.new_form
  new_form = search (rising, forward_type, forwards.new_bound, forwards.new_init) depth 14

  pub unary : Rises (unaries.unary tokens deeper)
  unfolding unaries.unary
  unary = search (rises_longer, prefixed_form, reflect_form, sizeof_form, delete_form, new_form, postfix) depth 30

  forward_operation : (n : ℕ) → Forward (expressions.operation tokens deeper n (expressions.chain tokens deeper n))
  forward_operation n = forwards.operation tokens deeper f n (expressions.chain tokens deeper n) (forwards.chain tokens deeper f n)

  pub chain : (n : ℕ) → Rises (expressions.chain tokens deeper n)
  unfolding expressions.chain
  chain zero = unary
  chain (suc n) = longer_chain tokens deeper n (forward_operation n) (chain n)

  pub expr : Rises (expressions.expr tokens deeper)
  unfolding expressions.expr
  expr = search (rising, chain, forwards.arms) depth 14

module _ (tokens : Tokens) where
  pub rules : (n : ℕ) → RisesRules (levels.rules tokens n)
  unfolding levels.rules
  rules zero = record { exprs = record { at = λ i. tt }; types = record { at = λ i. tt }; braceds = record { at = λ i. tt }; unarys = record { at = λ i. tt } }
  rules (suc n) = let d = levels.rules tokens n in let f = forwards.rules tokens n in let h = rules n in
      record { exprs = expr tokens d f h; types = type_tree tokens d f h; braceds = braced tokens d f h; unarys = unary tokens d f h }

  module _ (level : ℕ) where
    pub read : RisesRules (levels.read tokens level)
    unfolding levels.read
    read = rules (levels.levels_from level)

    pub rises_braced : Rises (lists.braced tokens (levels.read tokens level))
    rises_braced = braced tokens (levels.read tokens level) (forwards.read tokens level) read

    pub rises_args : Rises (lists.args tokens (levels.read tokens level))
    rises_args = args tokens (levels.read tokens level) (forwards.read tokens level) read

    pub rises_new_init : Rises (unaries.new_init tokens (levels.read tokens level))
    rises_new_init = new_init tokens (levels.read tokens level) (forwards.read tokens level) read
