use Rattle.std.proofs.Common.{arith}
use Rattle.cxx_tree.specs.declared.stmt.BodyTree.TheVariants.{outs-Body}
use Rattle.unit_same.specs.Statements.{SameMember, SameStmt}
use Rattle.unit_same.proofs.StatementForms.{are_class, are_block, are_if, are_while, are_for, are_range_for, are_body, are_defined, are_block_member, are_function, are_constructor, are_destructor, is_body}
use Rattle.tree_same.proofs.Walks.{runs_out}
use Rattle.unit_same.proofs.+same_statement.Goals as goal

pub stmt::same_stmt-returns-in-Class-other : goal.stmt::same_stmt-returns-in-Class-other
stmt::same_stmt-returns-in-Class-other t c = grind (arith, are_class _ _ _ _ c.in-Class.is c.in-Class-other.is)

pub stmt::same_stmt-returns-in-Block-other : goal.stmt::same_stmt-returns-in-Block-other
stmt::same_stmt-returns-in-Block-other t c = grind (arith, are_block _ _ _ _ c.in-Block.is c.in-Block-other.is)

pub stmt::same_stmt-returns-then-same_stmt : goal.stmt::same_stmt-returns-then-same_stmt
stmt::same_stmt-returns-then-same_stmt t c = grind (arith, are_if _ _ _ _ _ _ _ _ _ _ c.in-If.is c.in-If-other.is)

pub stmt::same_stmt-returns-else-same_stmt : goal.stmt::same_stmt-returns-else-same_stmt
stmt::same_stmt-returns-else-same_stmt t c = grind (arith, are_if _ _ _ _ _ _ _ _ _ _ c.in-If.is c.in-If-other.is)

pub stmt::same_stmt-returns-then-same_expr-2 : goal.stmt::same_stmt-returns-then-same_expr-2
stmt::same_stmt-returns-then-same_expr-2 t c = grind (arith, are_while _ _ _ _ _ _ _ _ c.in-While.is c.in-While-other.is)

pub stmt::same_stmt-returns-else-same_expr-2 : goal.stmt::same_stmt-returns-else-same_expr-2
stmt::same_stmt-returns-else-same_expr-2 t c = grind (arith, are_while _ _ _ _ _ _ _ _ c.in-While.is c.in-While-other.is)

pub stmt::same_stmt-returns-then-same_for_head : goal.stmt::same_stmt-returns-then-same_for_head
stmt::same_stmt-returns-then-same_for_head t c = grind (arith, are_for _ _ _ _ _ _ _ _ c.in-For.is c.in-For-other.is)

pub stmt::same_stmt-returns-else-same_for_head : goal.stmt::same_stmt-returns-else-same_for_head
stmt::same_stmt-returns-else-same_for_head t c = grind (arith, are_for _ _ _ _ _ _ _ _ c.in-For.is c.in-For-other.is)

pub stmt::same_stmt-returns-then-same_for_range : goal.stmt::same_stmt-returns-then-same_for_range
stmt::same_stmt-returns-then-same_for_range t c = grind (arith, are_range_for _ _ _ _ _ _ _ _ c.in-RangeFor.is c.in-RangeFor-other.is)

pub stmt::same_stmt-returns-else-same_for_range : goal.stmt::same_stmt-returns-else-same_for_range
stmt::same_stmt-returns-else-same_for_range t c = grind (arith, are_range_for _ _ _ _ _ _ _ _ c.in-RangeFor.is c.in-RangeFor-other.is)

pub class::same_class-returns-then-bases_same : goal.class::same_class-returns-then-bases_same
class::same_class-returns-then-bases_same t c = grind (arith, are_defined _ _ _ _ _ _ _ _ _ _ _ _ c.in-Defined.is c.in-Defined-other.is)

pub class::same_class-returns-else-bases_same : goal.class::same_class-returns-else-bases_same
class::same_class-returns-else-bases_same t c = grind (arith, are_defined _ _ _ _ _ _ _ _ _ _ _ _ c.in-Defined.is c.in-Defined-other.is)

pub class::same_member-returns-in-Block-other : goal.class::same_member-returns-in-Block-other
class::same_member-returns-in-Block-other t c = grind (arith, are_block_member _ _ _ _ c.in-Block.is c.in-Block-other.is)

pub class::same_member-returns-in-Function-other : goal.class::same_member-returns-in-Function-other
class::same_member-returns-in-Function-other t c = grind (arith, are_function _ _ _ _ c.in-Function.is c.in-Function-other.is)

pub class::same_member-returns-in-Constructor-other : goal.class::same_member-returns-in-Constructor-other
class::same_member-returns-in-Constructor-other t c = grind (arith, are_constructor _ _ _ _ c.in-Constructor.is c.in-Constructor-other.is)

pub class::same_member-returns-in-Destructor-other : goal.class::same_member-returns-in-Destructor-other
class::same_member-returns-in-Destructor-other t c = grind (arith, are_destructor _ _ _ _ c.in-Destructor.is c.in-Destructor-other.is)

pub stmt::same_body-returns : goal.stmt::same_body-returns
stmt::same_body-returns t c =
    let x = is_body c.args.tree.now in
    let y = is_body c.args.other.now in
    grind (arith, outs-Body, are_body _ _ _ _ _ _ x.1 y.1)

pub stmt::stmts_same-returns-in-None : goal.stmt::stmts_same-returns-in-None
stmt::stmts_same-returns-in-None t c =
    (λ no. cc, λ same. absurd (runs_out SameStmt _ _ _ c.loop-x-test.true c.in-None.ensures.cases (c.loop-x.invariant.0 same)))

pub class::members_same-returns-in-None : goal.class::members_same-returns-in-None
class::members_same-returns-in-None t c =
    (λ no. cc, λ same. absurd (runs_out SameMember _ _ _ c.loop-x-test.true c.in-None.ensures.cases (c.loop-x.invariant.0 same)))
