-- What the standard says of quotients and remainders ([expr.mul]), as facts of the definitions here.
use Rattle.std.specs.Prelude.{◌≡◌, ◌≢◌, ◌<◌, ◌↔◌, ℤ, pos, ◌+ℤ◌, ◌*ℤ◌, ◌≤ℤ◌, unsigned_abs, int_div, Ok, Err}
use Rattle.cxx_base.specs.declared.operator.IntKind.{IntKind}
use Rattle.cxx_base.specs.declared.operator.IntOp.TheVariants.{Div, Rem}
use Rattle.int_kinds.specs.declared.fault.ArithFault.TheVariants.{LeastByMinusOne}
use Rattle.int_kinds.specs.Kind.{IsInRange}
use Rattle.int_kinds.specs.Operate.{applied}

-- a is b times the quotient, plus the remainder, which is smaller than b and has the sign of a
pub record FitTogether (a b quotient remainder : ℤ) : Type 0 where
  pub whole : a ≡ b *ℤ quotient +ℤ remainder
  pub smaller : unsigned_abs remainder < unsigned_abs b
  pub not_negative : pos 0 ≤ℤ a → pos 0 ≤ℤ remainder
  pub not_positive : a ≤ℤ pos 0 → remainder ≤ℤ pos 0

-- `/` and `%` fit together where both have a value
abbrev pub DivisionIsWhole : Type 0
DivisionIsWhole =
    (kind : IntKind) (a b quotient remainder : ℤ)
    → applied Div kind a b ≡ Ok quotient → applied Rem kind a b ≡ Ok remainder
    → FitTogether a b quotient remainder

-- besides a zero divisor, `/` is refused exactly where the quotient is no value of the kind
abbrev pub RefusesOnlyBeyondRange : Type 0
RefusesOnlyBeyondRange =
    (kind : IntKind) (a b : ℤ) → IsInRange kind a → IsInRange kind b → b ≢ pos 0
    → (applied Div kind a b ≡ Err LeastByMinusOne) ↔ (¬ IsInRange kind (int_div a b))
