-- The operators on whole numbers, at a width with or without a sign, and at a kind.
use Rattle.std.specs.Prelude.{ℕ, ◌^◌, Bool as Test, true, false, ◌&&◌, not, ℤ, pos, negsuc, neg_ℤ, ◌+ℤ◌, ◌-ℤ◌, ◌*ℤ◌, int_le, int_lt, nat_lt, int_div, int_rem, IsTrue, if◌then◌else◌, Option, Some, None, Result, Ok, Err}
use Rattle.std.specs.Int.{int_div_euclid}
use Rattle.std.specs.Ordering.{int_eq}
use Rattle.cxx_base.specs.declared.operator.IntKind.{IntKind}
use Rattle.cxx_base.specs.declared.operator.IntOp.{IntOp}
use Rattle.cxx_base.specs.declared.operator.IntOp.TheVariants.{Add, Sub, Mul, Div, Rem, Shl, Shr, And, Or, Xor}
use Rattle.cxx_base.specs.declared.operator.CompareOp.{CompareOp}
use Rattle.cxx_base.specs.declared.operator.CompareOp.TheVariants.{Lt, Le, Gt, Ge, Eq, Ne}
use Rattle.int_kinds.specs.declared.fault.ArithFault.{ArithFault}
use Rattle.int_kinds.specs.declared.fault.ArithFault.TheVariants.{Overflow, ZeroDivisor, LeastByMinusOne, ShiftCount}
use Rattle.int_kinds.specs.Bits.{both, either, just_one, bitwise, turned}
use Rattle.int_kinds.specs.Kind.{width_of, is_signed, least_at, has_value_at}
use Rattle.int_kinds.specs.Wrap.{wrap_at}

-- What is kept of an exact result. With a sign it is a value or undefined behavior ([expr.pre]); without, arithmetic is
-- modulo 2^N ([basic.fundamental]).
abbrev pub kept_at : ℕ → Test → ℤ → Result ℤ ArithFault
kept_at bits signed exact =
    if signed then (if has_value_at bits signed exact then Ok exact else Err Overflow) else Ok (wrap_at bits signed exact)

-- Why there is no quotient and no remainder of a by b ([expr.mul]), if so. The quotient of the least value by -1 is one
-- more than the greatest value.
abbrev pub division_fault_at : ℕ → Test → ℤ → ℤ → Option ArithFault
division_fault_at bits signed a b =
    if int_eq b (pos 0) then Some ZeroDivisor
    else if signed && int_eq a (least_at bits signed) && int_eq b (negsuc 0) then Some LeastByMinusOne
    else None

-- the number, unless there is a fault
abbrev pub value_unless : Option ArithFault → ℤ → Result ℤ ArithFault
value_unless None n = Ok n
value_unless (Some fault) n = Err fault

-- the count of a shift, where it is not negative and below the width ([expr.shift])
abbrev pub shift_count_at : ℕ → ℤ → Option ℕ
shift_count_at bits (pos count) = if nat_lt count bits then Some count else None
shift_count_at bits (negsuc less) = None

-- a times 2 to the power of the count, modulo 2^N ([expr.shift])
abbrev pub shifted_left_at : ℕ → Test → ℤ → Option ℕ → Result ℤ ArithFault
shifted_left_at bits signed a (Some count) = Ok (wrap_at bits signed (a *ℤ pos (2 ^ count)))
shifted_left_at bits signed a None = Err ShiftCount

-- a by 2 to the power of the count, rounded down ([expr.shift]): the quotient whose remainder is not negative
abbrev pub shifted_right : ℤ → Option ℕ → Result ℤ ArithFault
shifted_right a (Some count) = Ok (int_div_euclid a (pos (2 ^ count)))
shifted_right a None = Err ShiftCount

-- A binary operator ([expr.add], [expr.mul], [expr.shift], [expr.bit.and], [expr.or], [expr.xor]). The quotient is cut
-- toward 0, and the remainder has the sign of the left side.
abbrev pub applied_at : IntOp → ℕ → Test → ℤ → ℤ → Result ℤ ArithFault
applied_at Add bits signed a b = kept_at bits signed (a +ℤ b)
applied_at Sub bits signed a b = kept_at bits signed (a -ℤ b)
applied_at Mul bits signed a b = kept_at bits signed (a *ℤ b)
applied_at Div bits signed a b = value_unless (division_fault_at bits signed a b) (int_div a b)
applied_at Rem bits signed a b = value_unless (division_fault_at bits signed a b) (int_rem a b)
applied_at Shl bits signed a b = shifted_left_at bits signed a (shift_count_at bits b)
applied_at Shr bits signed a b = shifted_right a (shift_count_at bits b)
applied_at And bits signed a b = Ok (bitwise both bits signed a b)
applied_at Or bits signed a b = Ok (bitwise either bits signed a b)
applied_at Xor bits signed a b = Ok (bitwise just_one bits signed a b)

-- The operator at a kind that promotion gives, the type of the result: of the left side, for a shift, and else of both.
abbrev pub applied : IntOp → IntKind → ℤ → ℤ → Result ℤ ArithFault
applied op kind a b = applied_at op (width_of kind) (is_signed kind) a b

-- the unary operators `-` and `~` ([expr.unary.op])
abbrev pub negated : IntKind → ℤ → Result ℤ ArithFault
negated kind a = kept_at (width_of kind) (is_signed kind) (neg_ℤ a)

abbrev pub complemented : IntKind → ℤ → ℤ
complemented kind a = turned (width_of kind) (is_signed kind) a

-- the operators whose right side need not be of the kind of the left one
abbrev pub is_shift : IntOp → Test
is_shift Shl = true
is_shift Shr = true
is_shift Add = false
is_shift Sub = false
is_shift Mul = false
is_shift Div = false
is_shift Rem = false
is_shift And = false
is_shift Or = false
is_shift Xor = false

abbrev pub IsShift : IntOp → Type 0
IsShift op = IsTrue (is_shift op)

-- a comparison ([expr.rel], [expr.eq]) of two numbers
abbrev pub compared : CompareOp → ℤ → ℤ → Test
compared Lt a b = int_lt a b
compared Le a b = int_le a b
compared Gt a b = int_lt b a
compared Ge a b = int_le b a
compared Eq a b = int_eq a b
compared Ne a b = not (int_eq a b)
