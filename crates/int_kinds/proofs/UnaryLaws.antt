-- The laws of the operators with one operand.
use Rattle.std.proofs.Common.{◌≡◌, ◌↔◌, ℕ, ◌+◌, ◌-◌, ◌^◌, ◌<◌, Bool as Test, true, false, cond, ℤ, pos, negsuc, neg_ℤ, ◌+ℤ◌, ◌-ℤ◌, ◌≤ℤ◌, IsTrue, Result, Ok, Err, arith, ap, refl, ◌∙◌}
use Rattle.std.specs.Prelude.{int_le, ◌&&◌}
use Rattle.std.proofs.lemmas.Int.{ints}
use Rattle.std.proofs.lemmas.Nat.{pow_pos}
use Rattle.std.proofs.lemmas.Bool.{false≢true}
use Rattle.int_kinds.specs.declared.fault.ArithFault.{ArithFault}
use Rattle.int_kinds.specs.declared.fault.ArithFault.TheVariants.{Overflow}
use Rattle.int_kinds.specs.Bits.{representation, bit_of, from_bits, turned}
use Rattle.int_kinds.specs.Kind.{width_of, is_signed, least_at, greatest_at, has_value_at, IsInRangeAt}
use Rattle.int_kinds.specs.Operate.{kept_at}
use Rattle.int_kinds.specs.Unary.{NegateOverflowsAtLeast, ComplementIsBelow}
use Rattle.int_kinds.proofs.Digits.{from_bits_turned}
use Rattle.int_kinds.proofs.Ranges.{some_bits}
use Rattle.int_kinds.proofs.Wrapping.{double, represented, wrap_is}

-- the negative of each number but the least is a number of the width
beyond_at_least : (half : ℕ) (a : ℤ) → neg_ℤ (pos half) ≤ℤ a → a ≤ℤ pos (half - 1) → 0 < half
    → int_le (neg_ℤ (pos half)) (neg_ℤ a) && int_le (neg_ℤ a) (pos (half - 1)) ≡ false → a ≡ neg_ℤ (pos half)
beyond_at_least half a low high some e = grind (arith, ints)

not_kept : (half : ℕ) (a : ℤ) → 0 < half → a ≡ neg_ℤ (pos half)
    → int_le (neg_ℤ (pos half)) (neg_ℤ a) && int_le (neg_ℤ a) (pos (half - 1)) ≡ false
not_kept half a some e = grind (arith, ints)

refused_if : (n : ℤ) (test : Test) → (let outcome : Result ℤ ArithFault = cond test (Ok n) (Err Overflow) in outcome ≡ Err Overflow) → test ≡ false
refused_if n true e = cc
refused_if n false e = refl

negate_at :
    (bits : ℕ) (signed : Test) (a : ℤ) → IsInRangeAt bits signed a
    → (kept_at bits signed (neg_ℤ a) ≡ Err Overflow) ↔ (IsTrue signed × (a ≡ least_at bits signed))
negate_at bits true a within = (
  λ refused. (refl, beyond_at_least (2 ^ (bits - 1)) a within.0 within.1 (pow_pos (bits - 1)) (refused_if (neg_ℤ a) (has_value_at bits true (neg_ℤ a)) refused)),
  λ h. let outcome : Test → Result ℤ ArithFault = λ test. cond test (Ok (neg_ℤ a)) (Err Overflow) in ap outcome (not_kept (2 ^ (bits - 1)) a (pow_pos (bits - 1)) h.1),
)
negate_at bits false a within = (λ refused. cc, λ h. absurd (false≢true h.0))

pub negate_overflows_at_least : NegateOverflowsAtLeast
negate_overflows_at_least kind a within = negate_at (width_of kind) (is_signed kind) a within

complement_at :
    (bits : ℕ) (signed : Test) (a : ℤ) → 0 < bits → IsInRangeAt bits signed a
    → turned bits signed a +ℤ a ≡ least_at bits signed +ℤ greatest_at bits signed
complement_at bits true a some within =
    let d = double bits some in
    let half : 0 < 2 ^ (bits - 1) = pow_pos (bits - 1) in
    let r = represented bits a in
    let t = from_bits_turned bits (representation bits a) r.3 in
    let w = wrap_is bits true (pos (from_bits bits (λ i. 1 - bit_of bits a i))) (negsuc 0 -ℤ a) (r.0 + 1) r.1 some
    (omega (arith, ints, within.0, within.1), omega (arith, ints, within.0, within.1)) (omega (arith, ints, t, r.2)) in
    ap (λ z. z +ℤ a) w ∙ omega (arith, ints)
complement_at bits false a some within =
    let all : 0 < 2 ^ bits = pow_pos bits in
    let r = represented bits a in
    let t = from_bits_turned bits (representation bits a) r.3 in
    let w = wrap_is bits false (pos (from_bits bits (λ i. 1 - bit_of bits a i))) (pos (2 ^ bits - 1) -ℤ a) r.0 r.1 some
    (omega (arith, ints, within.0, within.1), omega (arith, ints, within.0, within.1)) (omega (arith, ints, t, r.2)) in
    ap (λ z. z +ℤ a) w ∙ omega (arith, ints)

pub complement_is_below : ComplementIsBelow
complement_is_below kind a within = complement_at (width_of kind) (is_signed kind) a (some_bits kind) within
