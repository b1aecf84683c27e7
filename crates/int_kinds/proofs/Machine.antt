-- What the machine's bits say of a number, and of its member of a range.
use Rattle.std.proofs.Common.{◌≡◌, ◌≢◌, ℕ, suc, ◌+◌, ◌-◌, ◌*◌, ◌/◌, ◌%◌, ◌^◌, ◌<◌, ◌≤◌, Bool as Test, true, false, ℤ, pos, negsuc, ◌+ℤ◌, ◌-ℤ◌, ◌*ℤ◌, bit_and, to_z, of_z, FitsSigned, None, arith, lit<, subst, sym, ap, ◌∙◌, refl}
use Rattle.std.specs.Prelude.{◌==◌}
use Rattle.std.specs.Int.{w128, int_wrap}
use Rattle.std.specs.Int.Signed.{lt_z}
use Rattle.std.proofs.Math.Nat.{pow-le-pow_right}
use Rattle.std.proofs.lemmas.Int.{ints, to_z_pos, to_z-of_z, of_z-to_z, wrapping_mul_is, fits_signed_mul}
use Rattle.std.proofs.lemmas.Bool.Decides.{nat_tests}
use Rattle.std.proofs.lemmas.Nat.{pow_pos, pow-add, mod-mul-add, div-add-mod', mod_below, div_below, one_shl, and_mask, pow_below}
use mir.ValLaws.{to_z-Fits}
use borrow.Author.Tests.{ltb-true, ltb-false}
use Rattle.int_kinds.specs.Bits.{representation}
use Rattle.int_kinds.specs.Kind.{IsInRangeAt}
use Rattle.int_kinds.specs.Operate.{kept_at, value_unless}
use Rattle.int_kinds.specs.Wrap.{wrap_at}
use Rattle.int_kinds.proofs.Wrapping.{represented, wrap_low, wrap_negative, wrap_unsigned, wrap_same_beyond}

-- its digits are the lowest of the machine's
pub representation_is :
    (bits : ℕ) (n : ℤ) → bits ≤ 128 → FitsSigned w128 n → representation bits n ≡ of_z w128 n % 2 ^ bits
representation_is bits (pos a) few fits = refl
representation_is bits (negsuc a) few fits =
    let some : 0 < 2 ^ bits = pow_pos bits in
    let whole : 128 - bits + bits ≡ 128 = omega arith in
    let all : 2 ^ (128 - bits) * 2 ^ bits ≡ 2 ^ 128 = sym (pow-add 2 (128 - bits) bits) ∙ ap (λ n. 2 ^ n) whole in
    let small : a < 2 ^ 127 = omega (arith, ints) in
    let fewer : a / 2 ^ bits < 2 ^ (128 - bits) = div_below a (2 ^ bits) (2 ^ (128 - bits)) some (omega arith) in
    let more : ℕ = 2 ^ (128 - bits) - (a / 2 ^ bits + 1) in
    let parts : 2 ^ (128 - bits) ≡ a / 2 ^ bits + 1 + more = omega arith in
    let split = div-add-mod' a (2 ^ bits) in
    let below = mod_below a (2 ^ bits) some in
    let product = ap (λ n. n * 2 ^ bits) parts in
    let e : 2 ^ 128 - suc a ≡ more * 2 ^ bits + (2 ^ bits - 1 - a % 2 ^ bits) = omega arith in
    sym (ap (λ n. n % 2 ^ bits) e ∙ mod-mul-add more (2 ^ bits) (2 ^ bits - 1 - a % 2 ^ bits) (omega arith))

pub power_fits : (bits : ℕ) → bits ≤ 64 → 2 ^ bits ≤ 2 ^ 64
power_fits bits few = pow-le-pow_right {n = 2} (omega arith) {i = bits} {j = 64} few

power_fits_half : (bits : ℕ) → bits ≤ 64 → 2 ^ (bits - 1) ≤ 2 ^ 63
power_fits_half bits few = pow-le-pow_right {n = 2} (omega arith) {i = bits - 1} {j = 63} (omega arith)

-- `1 << bits`
pub power_is : (bits : ℕ) → bits ≤ 64 → to_z w128 (1 * 2 ^ bits % 2 ^ 128) ≡ pos (2 ^ bits)
power_is bits few =
    let small = power_fits bits few in
    ap (to_z w128) (one_shl bits 128 (omega arith)) ∙ to_z_pos w128 (2 ^ bits) (omega arith)

-- `n & ((1 << bits) - 1)`
pub low_bits_are :
    (bits : ℕ) (n : ℤ) → bits ≤ 64 → FitsSigned w128 n
    → to_z w128 (bit_and (of_z w128 n) (of_z w128 (to_z w128 (1 * 2 ^ bits % 2 ^ 128) -ℤ pos 1))) ≡ pos (representation bits n)
low_bits_are bits n few fits =
    let some : 0 < 2 ^ bits = pow_pos bits in
    let small = power_fits bits few in
    let mask : to_z w128 (1 * 2 ^ bits % 2 ^ 128) -ℤ pos 1 ≡ pos (2 ^ bits - 1) =
    ap (λ z. z -ℤ pos 1) (power_is bits few) ∙ omega (arith, ints) in
    let below = mod_below (of_z w128 n) (2 ^ bits) some in
    ap (λ z. to_z w128 (bit_and (of_z w128 n) (of_z w128 z))) mask
    ∙ ap (to_z w128) (and_mask (of_z w128 n) bits)
    ∙ to_z_pos w128 (of_z w128 n % 2 ^ bits) (omega arith)
    ∙ ap pos (sym (representation_is bits n (omega arith) fits))

signed_at : (sign : ℕ) → sign ≡ 1 → (sign == 1) ≡ true
signed_at sign e = grind (arith, nat_tests)

unsigned_at : (sign : ℕ) → sign ≢ 1 → (sign == 1) ≡ false
unsigned_at sign e = grind (arith, nat_tests)

-- the lowest bits, of a number as the machine has it
bits_of : (bits : ℕ) (n low : ℤ) → FitsSigned w128 n → low ≡ pos (representation bits (to_z w128 (of_z w128 n))) → low ≡ pos (representation bits n)
bits_of bits n low fits e = e ∙ ap (λ z. pos (representation bits z)) (to_z-of_z w128 n fits)

pub wraps_unsigned :
    (bits sign : ℕ) (n low : ℤ) → 0 < bits → FitsSigned w128 n → FitsSigned w128 low → sign ≢ 1
    → low ≡ pos (representation bits (to_z w128 (of_z w128 n))) → to_z w128 (of_z w128 low) ≡ wrap_at bits (sign == 1) n
wraps_unsigned bits sign n low some fits fits_low other e =
    to_z-of_z w128 low fits_low ∙ bits_of bits n low fits e ∙ sym (wrap_unsigned bits n some)
    ∙ ap (λ signed. wrap_at bits signed n) (sym (unsigned_at sign other))

pub wraps_low :
    (bits sign : ℕ) (n low : ℤ) → 0 < bits → bits ≤ 64 → FitsSigned w128 n → FitsSigned w128 low → sign ≡ 1
    → lt_z (to_z w128 (of_z w128 low)) (to_z w128 (1 * 2 ^ (bits - 1) % 2 ^ 128)) ≡ true
    → low ≡ pos (representation bits (to_z w128 (of_z w128 n))) → to_z w128 (of_z w128 low) ≡ wrap_at bits (sign == 1) n
wraps_low bits sign n low some few fits fits_low one test e =
    let is = bits_of bits n low fits e in
    let half = power_is (bits - 1) (omega arith) in
    let below : representation bits n < 2 ^ (bits - 1) = ltb-true (representation bits n) (2 ^ (bits - 1)) (ap (λ a. lt_z a (pos (2 ^ (bits - 1)))) (sym (to_z-of_z w128 low fits_low ∙ is)) ∙ ap (lt_z (to_z w128 (of_z w128 low))) (sym half) ∙ test) in
    to_z-of_z w128 low fits_low ∙ is ∙ sym (wrap_low bits n some below)
    ∙ ap (λ signed. wrap_at bits signed n) (sym (signed_at sign one))

pub wraps_negative :
    (bits sign : ℕ) (n low : ℤ) → 0 < bits → bits ≤ 64 → FitsSigned w128 n → FitsSigned w128 low → sign ≡ 1
    → lt_z (to_z w128 (of_z w128 low)) (to_z w128 (1 * 2 ^ (bits - 1) % 2 ^ 128)) ≡ false
    → low ≡ pos (representation bits (to_z w128 (of_z w128 n)))
    → to_z w128 (of_z w128 (to_z w128 (of_z w128 low) -ℤ to_z w128 (1 * 2 ^ bits % 2 ^ 128))) ≡ wrap_at bits (sign == 1) n
wraps_negative bits sign n low some few fits fits_low one test e =
    let is = bits_of bits n low fits e in
    let half = power_is (bits - 1) (omega arith) in
    let small = power_fits bits few in
    let r = represented bits n in
    let above : 2 ^ (bits - 1) ≤ representation bits n = ltb-false (representation bits n) (2 ^ (bits - 1)) (ap (λ a. lt_z a (pos (2 ^ (bits - 1)))) (sym (to_z-of_z w128 low fits_low ∙ is)) ∙ ap (lt_z (to_z w128 (of_z w128 low))) (sym half) ∙ test) in
    let difference : to_z w128 (of_z w128 low) -ℤ to_z w128 (1 * 2 ^ bits % 2 ^ 128) ≡ pos (representation bits n) -ℤ pos (2 ^ bits) =
    ap (λ a. a -ℤ to_z w128 (1 * 2 ^ bits % 2 ^ 128)) (to_z-of_z w128 low fits_low ∙ is) ∙ ap (λ b. pos (representation bits n) -ℤ b) (power_is bits few) in
    ap (λ z. to_z w128 (of_z w128 z)) difference
    ∙ to_z-of_z w128 (pos (representation bits n) -ℤ pos (2 ^ bits)) (omega (arith, ints, r.3))
    ∙ sym (wrap_negative bits n some above)
    ∙ ap (λ signed. wrap_at bits signed n) (sym (signed_at sign one))

-- ---- a number of the machine's width

-- a number and its bits
congruent_bits :
    (z : ℤ) (n : ℕ) → FitsSigned w128 z → of_z w128 z ≡ n
    → (j : ℕ) × (z +ℤ pos (j * 2 ^ 128) ≡ pos n +ℤ pos (0 * 2 ^ 128))
congruent_bits (pos m) n fits e = (0, omega (arith, ints))
congruent_bits (negsuc m) n fits e = (1, omega (arith, ints))

-- a sum of bits, read as a signed number
pub wrap-to_z :
    (bits : ℕ) (signed : Test) (n : ℕ) → 0 < bits → bits ≤ 128 → n < 2 ^ 128
    → wrap_at bits signed (to_z w128 n) ≡ wrap_at bits signed (pos n)
wrap-to_z bits signed n some few below =
    let c = congruent_bits (to_z w128 n) n (to_z-Fits w128 n (record { fits = below })) (of_z-to_z w128 n below) in
    wrap_same_beyond bits 128 signed (to_z w128 n) (pos n) c.0 0 some few c.1

pub wrap-int_wrap :
    (bits : ℕ) (signed : Test) (n : ℤ) → 0 < bits → bits ≤ 128
    → wrap_at bits signed (int_wrap w128 n) ≡ wrap_at bits signed n
unfolding int_wrap
wrap-int_wrap bits signed n some few =
    let r = represented 128 n in
    wrap-to_z bits signed (representation 128 n) some few r.3
    ∙ wrap_same_beyond bits 128 signed (pos (representation 128 n)) n r.0 r.1 some few r.2

-- a product, and a shift to the left
pub wrap-mul :
    (bits : ℕ) (signed : Test) (a b : ℤ) → 0 < bits → bits ≤ 128 → FitsSigned w128 a → FitsSigned w128 b
    → wrap_at bits signed (to_z w128 (of_z w128 a * of_z w128 b % 2 ^ 128)) ≡ wrap_at bits signed (a *ℤ b)
wrap-mul bits signed a b some few fits_a fits_b =
    ap (wrap_at bits signed) (wrapping_mul_is w128 a b fits_a fits_b) ∙ wrap-int_wrap bits signed (a *ℤ b) some few

pub wrap-shl :
    (bits : ℕ) (signed : Test) (a : ℤ) (count : ℕ) → 0 < bits → bits ≤ 128 → FitsSigned w128 a → count < 127
    → wrap_at bits signed (to_z w128 (of_z w128 a * 2 ^ count % 2 ^ 128)) ≡ wrap_at bits signed (a *ℤ pos (2 ^ count))
wrap-shl bits signed a count some few fits small =
    wrap-mul bits signed a (pos (2 ^ count)) some few fits (record { sfits = pow_below count 127 small })

-- ---- bounds of the numbers of a width

pub bounds : (bits : ℕ) (signed : Test) (n : ℤ) → bits ≤ 64 → IsInRangeAt bits signed n → FitsSigned w128 n
bounds bits true n few within =
    let small = power_fits (bits - 1) (omega arith) in omega (arith, ints, within.0, within.1)
bounds bits false n few within =
    let small = power_fits bits few in omega (arith, ints, within.0, within.1)

-- a product of numbers with a sign
pub product_fits :
    (bits sign : ℕ) (a b : ℤ) → bits ≤ 64 → sign ≡ 1 → IsInRangeAt bits (sign == 1) a → IsInRangeAt bits (sign == 1) b
    → FitsSigned w128 (a *ℤ b)
product_fits bits sign a b few one in_a in_b =
    let small = power_fits_half bits few in
    let range_a : IsInRangeAt bits true a = subst (λ s. IsInRangeAt bits s a) (signed_at sign one) in_a in
    let range_b : IsInRangeAt bits true b = subst (λ s. IsInRangeAt bits s b) (signed_at sign one) in_b in
    fits_signed_mul w128 a b (2 ^ 63) (2 ^ 63) (omega (arith, ints, range_a.0, range_a.1)) (omega (arith, ints, range_b.0, range_b.1)) (lit< tt)

-- without a sign each number is kept modulo the power of 2
pub kept_unsigned :
    (bits sign : ℕ) (n : ℤ) → sign ≢ 1
    → value_unless None (wrap_at bits (sign == 1) n) ≡ kept_at bits (sign == 1) n
kept_unsigned bits sign n other =
    subst (λ s. value_unless None (wrap_at bits s n) ≡ kept_at bits s n) (sym (unsigned_at sign other)) refl
