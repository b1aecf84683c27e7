-- Each result is in the range.
use Rattle.std.proofs.Common.{◌≡◌, ◌≢◌, ℕ, suc, ◌-◌, ◌/◌, ◌%◌, ◌<◌, ◌≤◌, ◌^◌, Bool as Test, true, false, cond, ℤ, pos, negsuc, ◌+ℤ◌, ◌-ℤ◌, ◌*ℤ◌, ◌≤ℤ◌, int_div, int_rem, unsigned_abs, Option, None, Some, Result, Ok, Err, IfOk, arith, lit<, refl}
use Rattle.std.specs.Prelude.{int_le, ◌&&◌}
use Rattle.std.specs.Int.{int_div_euclid}
use Rattle.std.proofs.Math.Nat.{div-le_self, mod-le}
use Rattle.std.proofs.lemmas.Int.{ints}
use Rattle.std.proofs.lemmas.Nat.{pow_pos}
use Rattle.std.proofs.lemmas.Bool.Decides.{nat_tests, Decides-int_eq}
use Rattle.cxx_base.specs.declared.operator.IntKind.{IntKind}
use Rattle.cxx_base.specs.declared.operator.IntKind.TheVariants.{Bool, Char, SChar, UChar, Short, UShort, Int, UInt, Long, ULong, LongLong, ULongLong}
use Rattle.cxx_base.specs.declared.operator.IntOp.{IntOp}
use Rattle.cxx_base.specs.declared.operator.IntOp.TheVariants.{Add, Sub, Mul, Div, Rem, Shl, Shr, And, Or, Xor}
use Rattle.int_kinds.specs.declared.fault.ArithFault.{ArithFault}
use Rattle.int_kinds.specs.declared.fault.ArithFault.TheVariants.{Overflow}
use Rattle.int_kinds.specs.Bits.{both, either, just_one, bit_of, bitwise, from_bits}
use Rattle.int_kinds.specs.Kind.{width_of, least_at, greatest_at, has_value_at, IsInRangeAt}
use Rattle.int_kinds.specs.Operate.{applied_at, kept_at, division_fault_at, shift_count_at, shifted_left_at, shifted_right, value_unless, IsShift}
use Rattle.int_kinds.proofs.Division.{quotient_fits}
use Rattle.int_kinds.proofs.Wrapping.{wrap_member}

-- an exact result that is kept
tested : (low n high : ℤ) → int_le low n && int_le n high ≡ true → (low ≤ℤ n) × (n ≤ℤ high)
tested low n high e = grind (arith, ints)

kept_if :
    (bits : ℕ) (n : ℤ) (test : Test) → has_value_at bits true n ≡ test
    → (let outcome : Result ℤ ArithFault = cond test (Ok n) (Err Overflow) in IfOk outcome (IsInRangeAt bits true))
kept_if bits n true e = tested (least_at bits true) n (greatest_at bits true) e
kept_if bits n false e = tt

pub kept_in_range : (bits : ℕ) (signed : Test) (n : ℤ) → 0 < bits → IfOk (kept_at bits signed n) (IsInRangeAt bits signed)
kept_in_range bits true n some = kept_if bits n (has_value_at bits true n) refl
kept_in_range bits false n some = (wrap_member bits false n some).in_range

-- a quotient and a remainder
unless_in_range :
    (bits : ℕ) (signed : Test) (fault : Option ArithFault) (n : ℤ) → (fault ≡ None → IsInRangeAt bits signed n)
    → IfOk (value_unless fault n) (IsInRangeAt bits signed)
unless_in_range bits signed None n within = within refl
unless_in_range bits signed (Some fault) n within = tt

not_least_by_minus_one :
    (bits : ℕ) (a b : ℤ) → division_fault_at bits true a b ≡ None → a ≡ least_at bits true → b ≢ negsuc 0
not_least_by_minus_one bits a b none = grind (arith, nat_tests, Decides-int_eq)

pub quotient_in_range :
    (bits : ℕ) (signed : Test) (a b : ℤ) → IsInRangeAt bits signed a → IsInRangeAt bits signed b
    → division_fault_at bits signed a b ≡ None → IsInRangeAt bits signed (int_div a b)
quotient_in_range bits true a b in_a in_b none =
    let some : 0 < 2 ^ (bits - 1) = pow_pos (bits - 1) in
    let bounds = quotient_fits (2 ^ (bits - 1) - 1) a b (omega (arith, ints, in_a.0)) in_a.1
    (λ e. not_least_by_minus_one bits a b none (omega (arith, ints))) in
    (omega (arith, ints, bounds.0), bounds.1)
quotient_in_range bits false (pos a) (pos b) in_a in_b none =
    let h : a / b ≤ a = div-le_self a b in (omega (arith, ints), omega (arith, ints, in_a.1))
quotient_in_range bits false (pos a) (negsuc b) in_a in_b none = absurd (omega (arith, ints, in_b.0))
quotient_in_range bits false (negsuc a) b in_a in_b none = absurd (omega (arith, ints, in_a.0))

remainder_in_range :
    (bits : ℕ) (signed : Test) (a b : ℤ) → IsInRangeAt bits signed a → IsInRangeAt bits signed (int_rem a b)
remainder_in_range bits true (pos a) b within =
    let h : a % unsigned_abs b ≤ a = mod-le a (unsigned_abs b) in (omega (arith, ints), omega (arith, ints, within.1))
remainder_in_range bits true (negsuc a) b within =
    let h : suc a % unsigned_abs b ≤ suc a = mod-le (suc a) (unsigned_abs b) in
    (omega (arith, ints, within.0), omega (arith, ints, within.1))
remainder_in_range bits false (pos a) b within =
    let h : a % unsigned_abs b ≤ a = mod-le a (unsigned_abs b) in (omega (arith, ints), omega (arith, ints, within.1))
remainder_in_range bits false (negsuc a) b within = absurd (omega (arith, ints, within.0))

-- shifts
shifted_left_in_range :
    (bits : ℕ) (signed : Test) (a : ℤ) (count : Option ℕ) → 0 < bits
    → IfOk (shifted_left_at bits signed a count) (IsInRangeAt bits signed)
shifted_left_in_range bits signed a (Some count) some = (wrap_member bits signed (a *ℤ pos (2 ^ count)) some).in_range
shifted_left_in_range bits signed a None some = tt

halved_in_range : (low high a : ℤ) (divisor : ℕ) → low ≤ℤ a → a ≤ℤ high → low ≤ℤ pos 0 → negsuc 0 ≤ℤ high
    → (low ≤ℤ int_div_euclid a (pos divisor)) × (int_div_euclid a (pos divisor) ≤ℤ high)
halved_in_range low high (pos a) divisor above below down up =
    let h : a / divisor ≤ a = div-le_self a divisor in (omega (arith, ints), omega (arith, ints))
halved_in_range low high (negsuc a) divisor above below down up =
    let h : a / divisor ≤ a = div-le_self a divisor in (omega (arith, ints), omega (arith, ints))

around : (bits : ℕ) (signed : Test) → (least_at bits signed ≤ℤ pos 0) × (negsuc 0 ≤ℤ greatest_at bits signed)
around bits true = (omega (arith, ints), omega (arith, ints))
around bits false = (omega (arith, ints), omega (arith, ints))

shifted_right_in_range :
    (bits : ℕ) (signed : Test) (a : ℤ) (count : Option ℕ) → IsInRangeAt bits signed a
    → IfOk (shifted_right a count) (IsInRangeAt bits signed)
shifted_right_in_range bits signed a (Some count) within =
    let z = around bits signed in
    halved_in_range (least_at bits signed) (greatest_at bits signed) a (2 ^ count) within.0 within.1 z.0 z.1
shifted_right_in_range bits signed a None within = tt

bitwise_in_range :
    (join : ℕ → ℕ → ℕ) (bits : ℕ) (signed : Test) (a b : ℤ) → 0 < bits → IsInRangeAt bits signed (bitwise join bits signed a b)
bitwise_in_range join bits signed a b some =
    (wrap_member bits signed (pos (from_bits bits (λ i. join (bit_of bits a i) (bit_of bits b i)))) some).in_range

pub applied_in_range :
    (op : IntOp) (bits : ℕ) (signed : Test) (a b : ℤ) → 0 < bits → IsInRangeAt bits signed a
    → (¬ IsShift op → IsInRangeAt bits signed b) → IfOk (applied_at op bits signed a b) (IsInRangeAt bits signed)
applied_in_range Add bits signed a b some in_a in_b = kept_in_range bits signed (a +ℤ b) some
applied_in_range Sub bits signed a b some in_a in_b = kept_in_range bits signed (a -ℤ b) some
applied_in_range Mul bits signed a b some in_a in_b = kept_in_range bits signed (a *ℤ b) some
applied_in_range Div bits signed a b some in_a in_b =
    unless_in_range bits signed (division_fault_at bits signed a b) (int_div a b) (quotient_in_range bits signed a b in_a (in_b (λ h. cc)))
applied_in_range Rem bits signed a b some in_a in_b =
    unless_in_range bits signed (division_fault_at bits signed a b) (int_rem a b) (λ none. remainder_in_range bits signed a b in_a)
applied_in_range Shl bits signed a b some in_a in_b = shifted_left_in_range bits signed a (shift_count_at bits b) some
applied_in_range Shr bits signed a b some in_a in_b = shifted_right_in_range bits signed a (shift_count_at bits b) in_a
applied_in_range And bits signed a b some in_a in_b = bitwise_in_range both bits signed a b some
applied_in_range Or bits signed a b some in_a in_b = bitwise_in_range either bits signed a b some
applied_in_range Xor bits signed a b some in_a in_b = bitwise_in_range just_one bits signed a b some

pub some_bits : (kind : IntKind) → 0 < width_of kind
some_bits Bool = lit< tt
some_bits Char = lit< tt
some_bits SChar = lit< tt
some_bits UChar = lit< tt
some_bits Short = lit< tt
some_bits UShort = lit< tt
some_bits Int = lit< tt
some_bits UInt = lit< tt
some_bits Long = lit< tt
some_bits ULong = lit< tt
some_bits LongLong = lit< tt
some_bits ULongLong = lit< tt
