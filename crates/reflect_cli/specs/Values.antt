-- The value of an initializer, or its first refused operation, in order of evaluation ([expr.const]).
use Rattle.std.specs.Prelude.{ℤ, fold, Result, Ok, Err}
use Rattle.cxx_base.specs.declared.operator.IntKind.TheVariants.{Int}
use Rattle.cxx_base.specs.declared.operator.IntOp.{IntOp}
use Rattle.cxx_base.specs.declared.operator.IntOp.TheVariants as op
use Rattle.cxx_base.specs.declared.place.Place.{Place}
use Rattle.int_kinds.specs.declared.fault.ArithFault.{ArithFault}
use Rattle.int_kinds.specs.Operate.{applied}
use Rattle.reflect_cli.specs.declared.const_eval.Refused.{Refused}
use Rattle.reflect_cli.specs.declared.form_tree.Arithmetic.{Arithmetic}
use Rattle.reflect_cli.specs.declared.form_tree.Arithmetic.TheVariants.{Add, Sub, Mul, Div, Rem}
use Rattle.reflect_cli.specs.declared.form_tree.Chain.{Chain}
use Rattle.reflect_cli.specs.declared.form_tree.Literal.{Literal}

abbrev pub Evaluated : Type 0
Evaluated = Result ℤ Refused

abbrev pub operator_of : Arithmetic → IntOp
operator_of Add = op.Add
operator_of Sub = op.Sub
operator_of Mul = op.Mul
operator_of Div = op.Div
operator_of Rem = op.Rem

infixl 10 ◌>>=◌
abbrev pub ◌>>=◌ : Evaluated → (ℤ → Evaluated) → Evaluated
(Ok value) >>= next = next value
(Err refused) >>= next = Err refused

-- the result of an operation, or its refusal at the first token of its tree
abbrev pub at_place : Place → Result ℤ ArithFault → Evaluated
at_place place (Ok value) = Ok value
at_place place (Err fault) = Err (record { fault = fault; place = place })

-- A tree: a literal, or an operation with its left and its right operand.
pub data Tree : Type 0 where
  Leaf : Literal → Tree
  Operation : Arithmetic → Tree → Tree → Tree

-- the operators of a chain group to the left
abbrev pub grouped : {A : Type 0} → (A → Tree) → Chain A → Tree
grouped tree chain = fold (λ left link. Operation link.operator left (tree link.operand)) (tree chain.first) chain.rest

abbrev pub product_tree : Chain Literal → Tree
product_tree = grouped Leaf

abbrev pub sum_tree : Chain (Chain Literal) → Tree
sum_tree = grouped product_tree

abbrev pub first_token : Tree → Place
first_token (Leaf literal) = literal.place
first_token (Operation operator left right) = first_token left

-- The value of a tree: the left operand first, and then the right one. An operation without a value is refused at the first
-- token of its tree.
abbrev pub value : Tree → Evaluated
value (Leaf literal) = Ok literal.value
value (Operation operator left right) =
    value left >>= λ a. value right >>= λ b. at_place (first_token left) (applied (operator_of operator) Int a b)

unfoldable pub product_value : Chain Literal → Evaluated
product_value product = value (product_tree product)

unfoldable pub sum_value : Chain (Chain Literal) → Evaluated
sum_value sum = value (sum_tree sum)

-- the first token of an initializer
unfoldable pub sum_place : Chain (Chain Literal) → Place
sum_place sum = first_token (sum_tree sum)
