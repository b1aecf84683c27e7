-- What the standard says of the operators with one operand ([expr.unary.op]), as facts of the definitions here.
use Rattle.std.specs.Prelude.{◌≡◌, ◌↔◌, ℤ, ◌+ℤ◌, IsTrue, Err}
use Rattle.cxx_base.specs.declared.operator.IntKind.{IntKind}
use Rattle.int_kinds.specs.declared.fault.ArithFault.TheVariants.{Overflow}
use Rattle.int_kinds.specs.Kind.{is_signed, least_of, greatest_of, IsInRange}
use Rattle.int_kinds.specs.Operate.{negated, complemented}

-- `-` is refused exactly at the least value of a kind with a sign
abbrev pub NegateOverflowsAtLeast : Type 0
NegateOverflowsAtLeast =
    (kind : IntKind) (a : ℤ) → IsInRange kind a
    → (negated kind a ≡ Err Overflow) ↔ (IsTrue (is_signed kind) × (a ≡ least_of kind))

-- a value and its complement lie as far from the two ends of the range
abbrev pub ComplementIsBelow : Type 0
ComplementIsBelow =
    (kind : IntKind) (a : ℤ) → IsInRange kind a → complemented kind a +ℤ a ≡ least_of kind +ℤ greatest_of kind
