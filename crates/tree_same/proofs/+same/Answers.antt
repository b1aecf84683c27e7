use Rattle.std.proofs.Common.{arith}
use Rattle.tree_same.proofs.Forms.{are_paren, are_braced, are_typename_call, are_static_cast, are_extract, are_postfix, are_unary, are_reflect, are_sizeof_type, are_sizeof_expr, are_delete, are_new, are_chain, are_conditional, are_args, are_clauses, are_designated, are_splice, are_subscript, is_args, is_splice}
use Rattle.cxx_tree.specs.declared.expr.ArgTrees.TheVariants.{outs-Args}
use Rattle.cxx_tree.specs.declared.expr.SpliceTree.TheVariants.{outs-Splice}
use Rattle.tree_same.proofs.Walks.{runs_out}
use Rattle.tree_same.specs.Same.{SameArg, SameDesignator, SameOperation, SameSuffix}
use Rattle.tree_same.proofs.+same.Goals as goal

pub root::same_expr-returns-in-Paren-other : goal.root::same_expr-returns-in-Paren-other
root::same_expr-returns-in-Paren-other t c = grind (arith, are_paren _ _ _ _ _ _ c.in-Paren.is c.in-Paren-other.is)

pub root::same_expr-returns-then-same_basic : goal.root::same_expr-returns-then-same_basic
root::same_expr-returns-then-same_basic t c = grind (arith, are_braced _ _ _ _ _ _ _ _ c.in-Braced.is c.in-Braced-other.is)

pub root::same_expr-returns-else-same_basic : goal.root::same_expr-returns-else-same_basic
root::same_expr-returns-else-same_basic t c = grind (arith, are_braced _ _ _ _ _ _ _ _ c.in-Braced.is c.in-Braced-other.is)

pub root::same_expr-returns-then-same_splice : goal.root::same_expr-returns-then-same_splice
root::same_expr-returns-then-same_splice t c = grind (arith, are_typename_call _ _ _ _ _ _ _ _ c.in-TypenameCall.is c.in-TypenameCall-other.is)

pub root::same_expr-returns-then-same_type : goal.root::same_expr-returns-then-same_type
root::same_expr-returns-then-same_type t c = grind (arith, are_static_cast _ _ _ _ _ _ _ _ c.in-StaticCast.is c.in-StaticCast-other.is)

pub root::same_expr-returns-else-same_type : goal.root::same_expr-returns-else-same_type
root::same_expr-returns-else-same_type t c = grind (arith, are_static_cast _ _ _ _ _ _ _ _ c.in-StaticCast.is c.in-StaticCast-other.is)

pub root::same_expr-returns-then-same_type-2 : goal.root::same_expr-returns-then-same_type-2
root::same_expr-returns-then-same_type-2 t c = grind (arith, are_extract _ _ _ _ _ _ _ _ _ _ c.in-Extract.is c.in-Extract-other.is)

pub root::same_expr-returns-else-same_type-2 : goal.root::same_expr-returns-else-same_type-2
root::same_expr-returns-else-same_type-2 t c = grind (arith, are_extract _ _ _ _ _ _ _ _ _ _ c.in-Extract.is c.in-Extract-other.is)

pub root::same_expr-returns-then-same_expr : goal.root::same_expr-returns-then-same_expr
root::same_expr-returns-then-same_expr t c = grind (arith, are_postfix _ _ _ _ _ _ _ _ c.in-Postfix.is c.in-Postfix-other.is)

pub root::same_expr-returns-else-same_expr : goal.root::same_expr-returns-else-same_expr
root::same_expr-returns-else-same_expr t c = grind (arith, are_postfix _ _ _ _ _ _ _ _ c.in-Postfix.is c.in-Postfix-other.is)

pub root::same_expr-returns-then-eq-2 : goal.root::same_expr-returns-then-eq-2
root::same_expr-returns-then-eq-2 t c = grind (arith, are_unary _ _ _ _ _ _ _ _ c.in-Unary.is c.in-Unary-other.is)

pub root::same_expr-returns-in-Reflect-other : goal.root::same_expr-returns-in-Reflect-other
root::same_expr-returns-in-Reflect-other t c = grind (arith, are_reflect _ _ _ _ _ _ c.in-Reflect.is c.in-Reflect-other.is)

pub root::same_expr-returns-in-SizeofType-other : goal.root::same_expr-returns-in-SizeofType-other
root::same_expr-returns-in-SizeofType-other t c = grind (arith, are_sizeof_type _ _ _ _ _ _ c.in-SizeofType.is c.in-SizeofType-other.is)

pub root::same_expr-returns-in-SizeofExpr-other : goal.root::same_expr-returns-in-SizeofExpr-other
root::same_expr-returns-in-SizeofExpr-other t c = grind (arith, are_sizeof_expr _ _ _ _ _ _ c.in-SizeofExpr.is c.in-SizeofExpr-other.is)

pub root::same_expr-returns-then-array-other_array : goal.root::same_expr-returns-then-array-other_array
root::same_expr-returns-then-array-other_array t c = grind (arith, are_delete _ _ _ _ _ _ _ _ c.in-Delete.is c.in-Delete-other.is)

pub root::same_expr-returns-else-same_type-3 : goal.root::same_expr-returns-else-same_type-3
root::same_expr-returns-else-same_type-3 t c = grind (arith, are_new _ _ _ _ _ _ _ _ _ _ c.in-New.is c.in-New-other.is)

pub root::same_expr-returns-else-same_expr_if_any : goal.root::same_expr-returns-else-same_expr_if_any
root::same_expr-returns-else-same_expr_if_any t c = grind (arith, are_new _ _ _ _ _ _ _ _ _ _ c.in-New.is c.in-New-other.is)

pub root::same_expr-returns-then-same_expr_if_any : goal.root::same_expr-returns-then-same_expr_if_any
root::same_expr-returns-then-same_expr_if_any t c = grind (arith, are_new _ _ _ _ _ _ _ _ _ _ c.in-New.is c.in-New-other.is)

pub root::same_expr-returns-then-same_expr-2 : goal.root::same_expr-returns-then-same_expr-2
root::same_expr-returns-then-same_expr-2 t c = grind (arith, are_chain _ _ _ _ _ _ _ _ c.in-Chain.is c.in-Chain-other.is)

pub root::same_expr-returns-else-same_expr-2 : goal.root::same_expr-returns-else-same_expr-2
root::same_expr-returns-else-same_expr-2 t c = grind (arith, are_chain _ _ _ _ _ _ _ _ c.in-Chain.is c.in-Chain-other.is)

pub root::same_expr-returns-else-same_expr-3 : goal.root::same_expr-returns-else-same_expr-3
root::same_expr-returns-else-same_expr-3 t c = grind (arith, are_conditional _ _ _ _ _ _ _ _ _ _ c.in-Conditional.is c.in-Conditional-other.is)

pub root::same_expr-returns-else-same_expr-4 : goal.root::same_expr-returns-else-same_expr-4
root::same_expr-returns-else-same_expr-4 t c = grind (arith, are_conditional _ _ _ _ _ _ _ _ _ _ c.in-Conditional.is c.in-Conditional-other.is)

pub root::same_expr-returns-then-same_expr-4 : goal.root::same_expr-returns-then-same_expr-4
root::same_expr-returns-then-same_expr-4 t c = grind (arith, are_conditional _ _ _ _ _ _ _ _ _ _ c.in-Conditional.is c.in-Conditional-other.is)

pub args::args_same-returns-in-None : goal.args::args_same-returns-in-None
args::args_same-returns-in-None t c =
    (λ no. cc, λ same. absurd (runs_out SameArg _ _ _ c.loop-x-test.true c.in-None.ensures.cases (c.loop-x.invariant.0 same)))

pub braced::designators_same-returns-in-None : goal.braced::designators_same-returns-in-None
braced::designators_same-returns-in-None t c =
    (λ no. cc, λ same. absurd (runs_out SameDesignator _ _ _ c.loop-x-test.true c.in-None.ensures.cases (c.loop-x.invariant.0 same)))

pub operation::operations_same-returns-in-None : goal.operation::operations_same-returns-in-None
operation::operations_same-returns-in-None t c =
    (λ no. cc, λ same. absurd (runs_out SameOperation _ _ _ c.loop-x-test.true c.in-None.ensures.cases (c.loop-x.invariant.0 same)))

pub suffix::suffixes_same-returns-in-None : goal.suffix::suffixes_same-returns-in-None
suffix::suffixes_same-returns-in-None t c =
    (λ no. cc, λ same. absurd (runs_out SameSuffix _ _ _ c.loop-x-test.true c.in-None.ensures.cases (c.loop-x.invariant.0 same)))

pub type_tree::same_splice-returns : goal.type_tree::same_splice-returns
type_tree::same_splice-returns t c =
    let x = is_splice c.args.tree.now in
    let y = is_splice c.args.other.now in
    grind (arith, outs-Splice, are_splice _ _ _ _ _ _ x.1 y.1)

pub args::same_args-returns : goal.args::same_args-returns
args::same_args-returns t c =
    let x = is_args c.args.tree.now in
    let y = is_args c.args.other.now in
    grind (arith, outs-Args, are_args _ _ _ _ _ _ x.1 y.1)

pub braced::same_braced-returns-in-Clauses-other : goal.braced::same_braced-returns-in-Clauses-other
braced::same_braced-returns-in-Clauses-other t c = grind (arith, are_clauses _ _ _ _ _ _ c.in-Clauses.is c.in-Clauses-other.is)

pub braced::same_braced-returns-in-Designated-other-2 : goal.braced::same_braced-returns-in-Designated-other-2
braced::same_braced-returns-in-Designated-other-2 t c =
    grind (arith, are_designated _ _ _ _ _ _ c.in-Designated.is c.in-Designated-other-2.is)

pub suffix::same_suffix-returns-in-Subscript-other : goal.suffix::same_suffix-returns-in-Subscript-other
suffix::same_suffix-returns-in-Subscript-other t c = grind (arith, are_subscript _ _ _ _ _ _ c.in-Subscript.is c.in-Subscript-other.is)
