-- A whole unit can be sent to another thread: type by type, since a search through all types at once stops at its limit.
use denote.Param.Send.{IsSend, struct_send, sendable}
use denote.Param.SendFields.{as_row_send}
use denote.Struct.Declared.{shape}
use Rattle.std.proofs.option.Option.TheSendSync.{the_send as option-send}
use Rattle.containers.proofs.boxed.Boxed.TheSendSync.{the_send as boxed-send}
use Rattle.containers.proofs.items.Items.TheSendSync.{the_send as items-send}
use Rattle.cxx_base.proofs.bytes.Bytes.TheSendSync.{the_send as bytes-send}
use Rattle.cxx_base.specs.contracts.bytes.Bytes as Bytes
use Rattle.cxx_base.specs.contracts.operator.IntOp as IntOp
use Rattle.cxx_base.specs.contracts.place.Place as Place
use Rattle.cxx_base.specs.contracts.place.Span as Span
use Rattle.cxx_tree.specs.contracts.decl.Access as Access
use Rattle.cxx_tree.specs.contracts.decl.ClassKey as ClassKey
use Rattle.cxx_tree.specs.contracts.decl.Specifiers as Specifiers
use Rattle.cxx_tree.specs.contracts.identifier.Identifier as Identifier
use Rattle.cxx_tree.specs.contracts.identifier.NameTree as NameTree
use Rattle.cxx_tree.specs.contracts.literal.IntegerLiteral as IntegerLiteral
use Rattle.cxx_tree.specs.contracts.operator.BinaryOp as BinaryOp
use Rattle.cxx_tree.specs.contracts.operator.UnaryOp as UnaryOp
use Rattle.cxx_tree.specs.contracts.stmt.StepOp as StepOp
use Rattle.cxx_tree.specs.contracts.types.Fund as Fund
use Rattle.cxx_tree.specs.contracts.stmt.Returned as Returned
use Rattle.cxx_tree.specs.contracts.stmt.ForRange as ForRange
use Rattle.cxx_tree.specs.contracts.stmt.BoundTree as BoundTree
use Rattle.cxx_tree.specs.contracts.stmt.InitTree as InitTree
use Rattle.cxx_tree.specs.contracts.stmt.LocalTree as LocalTree
use Rattle.cxx_tree.specs.contracts.stmt.AssignTree as AssignTree
use Rattle.cxx_tree.specs.contracts.stmt.ForInit as ForInit
use Rattle.cxx_tree.specs.contracts.stmt.ForStep as ForStep
use Rattle.cxx_tree.specs.contracts.stmt.ForHead as ForHead
use Rattle.cxx_tree.specs.contracts.decl.AliasedTree as AliasedTree
use Rattle.cxx_tree.specs.contracts.decl.AliasTree as AliasTree
use Rattle.cxx_tree.specs.contracts.decl.AssertTree as AssertTree
use Rattle.cxx_tree.specs.contracts.decl.VariableTree as VariableTree
use Rattle.cxx_tree.specs.contracts.decl.ParameterTree as ParameterTree
use Rattle.cxx_tree.specs.contracts.decl.EnumeratorTree as EnumeratorTree
use Rattle.cxx_tree.specs.contracts.decl.EnumTree as EnumTree
use Rattle.cxx_tree.specs.contracts.decl.BasedTree as BasedTree
use Rattle.cxx_tree.specs.contracts.decl.BaseTree as BaseTree
use Rattle.cxx_tree.specs.contracts.decl.MemberInitValue as MemberInitValue
use Rattle.cxx_tree.specs.contracts.decl.MemberInit as MemberInit
use Rattle.cxx_tree.specs.contracts.decl.NamespaceNamed as NamespaceNamed
use Rattle.cxx_tree.specs.contracts.decl.NamespaceAliasTree as NamespaceAliasTree
use Rattle.cxx_tree.specs.contracts.decl.Decl as Decl
use Rattle.cxx_tree.specs.contracts.decl.Item as Item
use Rattle.cxx_tree.specs.contracts.decl.BlockTree as BlockTree
use Rattle.cxx_tree.specs.contracts.decl.ClassTree as ClassTree
use Rattle.cxx_tree.specs.contracts.decl.FunctionTree as FunctionTree
use Rattle.cxx_tree.specs.contracts.expr.ArgTree as ArgTree
use Rattle.cxx_tree.specs.contracts.expr.ArgTrees as ArgTrees
use Rattle.cxx_tree.specs.contracts.expr.BracedTree as BracedTree
use Rattle.cxx_tree.specs.contracts.expr.Expr as Expr
use Rattle.cxx_tree.specs.contracts.expr.SpliceTree as SpliceTree
use Rattle.cxx_tree.specs.contracts.expr.TypeTree as TypeTree
use Rattle.cxx_tree.specs.contracts.decl.Unit as Unit
use Rattle.cxx_tree.proofs.decl.ClassTree.TheLaws.TheKnot as statement
use Rattle.cxx_tree.proofs.expr.ArgTree.TheLaws.TheKnot as tree

-- what holds one value or several crosses as they do
ruleset held = (sendable, option-send, boxed-send, items-send, bytes-send)

-- ---- types that no tree stands in

bytes : IsSend (Bytes.the_field).row
bytes = search held depth 20

int_op : IsSend (IntOp.the_field).row
int_op = search held depth 20

place : IsSend (Place.the_field).row
place = search held depth 20

span : IsSend (Span.the_field).row
span = search held depth 20

access : IsSend (Access.the_field).row
access = search held depth 20

class_key : IsSend (ClassKey.the_field).row
class_key = search held depth 20

specifiers : IsSend (Specifiers.the_field).row
specifiers = search held depth 20

identifier : IsSend (Identifier.the_field).row
identifier = search held depth 20

name_tree : IsSend (NameTree.the_field).row
name_tree = search (held, span, identifier) depth 20

integer_literal : IsSend (IntegerLiteral.the_field).row
integer_literal = search held depth 20

binary_op : IsSend (BinaryOp.the_field).row
binary_op = search held depth 20

unary_op : IsSend (UnaryOp.the_field).row
unary_op = search held depth 20

step_op : IsSend (StepOp.the_field).row
step_op = search held depth 20

fund : IsSend (Fund.the_field).row
fund = search held depth 20

-- ---- expressions, types and lists, which reach each other: of each what any of their fields needs, in the order of the fields

arg_tree : IsSend (ArgTree.the_field).row
arg_tree =
    tree.send-ArgTree span items-send fund name_tree identifier integer_literal (search sendable) bytes (search sendable) boxed-send
    (search (held, name_tree) depth 20) unary_op (λ h s. option-send _ (boxed-send h s)) binary_op (search held depth 20)

arg_trees : IsSend (ArgTrees.the_field).row
arg_trees =
    tree.send-ArgTrees span items-send fund name_tree identifier integer_literal (search sendable) bytes (search sendable) boxed-send
    (search (held, name_tree) depth 20) unary_op (λ h s. option-send _ (boxed-send h s)) binary_op (search held depth 20)

braced_tree : IsSend (BracedTree.the_field).row
braced_tree =
    tree.send-BracedTree span items-send fund name_tree identifier integer_literal (search sendable) bytes (search sendable) boxed-send
    (search (held, name_tree) depth 20) unary_op (λ h s. option-send _ (boxed-send h s)) binary_op (search held depth 20)

expr : IsSend (Expr.the_field).row
expr =
    tree.send-Expr span items-send fund name_tree identifier integer_literal (search sendable) bytes (search sendable) boxed-send
    (search (held, name_tree) depth 20) unary_op (λ h s. option-send _ (boxed-send h s)) binary_op (search held depth 20)

splice_tree : IsSend (SpliceTree.the_field).row
splice_tree =
    tree.send-SpliceTree span items-send fund name_tree identifier integer_literal (search sendable) bytes (search sendable) boxed-send
    (search (held, name_tree) depth 20) unary_op (λ h s. option-send _ (boxed-send h s)) binary_op (search held depth 20)

type_tree : IsSend (TypeTree.the_field).row
type_tree =
    tree.send-TypeTree span items-send fund name_tree identifier integer_literal (search sendable) bytes (search sendable) boxed-send
    (search (held, name_tree) depth 20) unary_op (λ h s. option-send _ (boxed-send h s)) binary_op (search held depth 20)

-- ---- what stands in statements and declarations, and in which none of them stands

returned : IsSend (Returned.the_field).row
returned = search (held, expr, braced_tree) depth 20

for_range : IsSend (ForRange.the_field).row
for_range = search (held, identifier, expr, type_tree) depth 20

bound_tree : IsSend (BoundTree.the_field).row
bound_tree = search (held, span, expr) depth 20

init_tree : IsSend (InitTree.the_field).row
init_tree = search (held, expr, braced_tree) depth 20

local_tree : IsSend (LocalTree.the_field).row
local_tree =
    struct_send (shape LocalTree.the_type)
    (span, (search sendable, (boxed-send _ (as_row_send TypeTree.the_field type_tree), (identifier, (items-send _ (as_row_send BoundTree.the_field bound_tree), (search (held, init_tree) depth 20, tt))))))

assign_tree : IsSend (AssignTree.the_field).row
assign_tree = search (held, span, int_op, step_op, expr, arg_tree) depth 20

for_init : IsSend (ForInit.the_field).row
for_init = search (held, span, local_tree, assign_tree) depth 20

for_step : IsSend (ForStep.the_field).row
for_step = search (held, assign_tree, expr) depth 20

for_head : IsSend (ForHead.the_field).row
for_head = search (held, for_init, expr, for_step) depth 20

aliased_tree : IsSend (AliasedTree.the_field).row
aliased_tree = search (held, type_tree, splice_tree) depth 20

alias_tree : IsSend (AliasTree.the_field).row
alias_tree = search (held, span, identifier, aliased_tree) depth 20

assert_tree : IsSend (AssertTree.the_field).row
assert_tree = search (held, span, expr) depth 20

variable_tree : IsSend (VariableTree.the_field).row
variable_tree =
    struct_send (shape VariableTree.the_type)
    (span, (specifiers, (boxed-send _ (as_row_send TypeTree.the_field type_tree), (identifier, (items-send _ (as_row_send BoundTree.the_field bound_tree), (search (held, init_tree) depth 20, tt))))))

parameter_tree : IsSend (ParameterTree.the_field).row
parameter_tree = search (held, span, type_tree, identifier) depth 20

enumerator_tree : IsSend (EnumeratorTree.the_field).row
enumerator_tree = search (held, span, identifier, expr) depth 20

enum_tree : IsSend (EnumTree.the_field).row
enum_tree = search (held, span, class_key, identifier, type_tree, enumerator_tree) depth 20

based_tree : IsSend (BasedTree.the_field).row
based_tree = search (held, span, name_tree, splice_tree) depth 20

base_tree : IsSend (BaseTree.the_field).row
base_tree = search (held, span, access, based_tree) depth 20

member_init_value : IsSend (MemberInitValue.the_field).row
member_init_value = search (held, arg_trees, braced_tree) depth 20

member_init : IsSend (MemberInit.the_field).row
member_init = search (held, span, name_tree, member_init_value) depth 20

namespace_named : IsSend (NamespaceNamed.the_field).row
namespace_named = search (held, name_tree, splice_tree) depth 20

namespace_alias_tree : IsSend (NamespaceAliasTree.the_field).row
namespace_alias_tree = search (held, span, identifier, namespace_named) depth 20

-- ---- statements, bodies, blocks, classes and members, which reach each other: of each what any of their fields needs, in the order of the fields

block_tree : IsSend (BlockTree.the_field).row
block_tree =
    statement.send-BlockTree span class_key identifier (items-send _ (as_row_send BaseTree.the_field base_tree)) items-send access
    alias_tree enum_tree assert_tree variable_tree boxed-send local_tree assign_tree expr (λ h s. option-send _ (boxed-send h s))
    for_head for_range (search (held, returned) depth 20) (search sendable) specifiers
    (items-send _ (as_row_send ParameterTree.the_field parameter_tree)) (items-send _ (as_row_send MemberInit.the_field member_init))
    place (boxed-send _ (as_row_send TypeTree.the_field type_tree))

class_tree : IsSend (ClassTree.the_field).row
class_tree =
    statement.send-ClassTree span class_key identifier (items-send _ (as_row_send BaseTree.the_field base_tree)) items-send access
    alias_tree enum_tree assert_tree variable_tree boxed-send local_tree assign_tree expr (λ h s. option-send _ (boxed-send h s))
    for_head for_range (search (held, returned) depth 20) (search sendable) specifiers
    (items-send _ (as_row_send ParameterTree.the_field parameter_tree)) (items-send _ (as_row_send MemberInit.the_field member_init))
    place (boxed-send _ (as_row_send TypeTree.the_field type_tree))

function_tree : IsSend (FunctionTree.the_field).row
function_tree =
    statement.send-FunctionTree span class_key identifier (items-send _ (as_row_send BaseTree.the_field base_tree)) items-send access
    alias_tree enum_tree assert_tree variable_tree boxed-send local_tree assign_tree expr (λ h s. option-send _ (boxed-send h s))
    for_head for_range (search (held, returned) depth 20) (search sendable) specifiers
    (items-send _ (as_row_send ParameterTree.the_field parameter_tree)) (items-send _ (as_row_send MemberInit.the_field member_init))
    place (boxed-send _ (as_row_send TypeTree.the_field type_tree))

-- ---- whole units

decl : IsSend (Decl.the_field).row
decl =
    search (held, namespace_alias_tree, alias_tree, class_tree, enum_tree, function_tree, variable_tree, assert_tree, block_tree) depth
    20

item : IsSend (Item.the_field).row
item = search (held, span, identifier, decl) depth 20

pub unit : IsSend Unit.the_row
unit = search (held, item) depth 20
