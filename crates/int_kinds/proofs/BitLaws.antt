-- The law of the operators that go bit by bit.
use Rattle.std.proofs.Common.{◌≡◌, ℕ, zero, suc, ◌+◌, ◌-◌, ◌*◌, ◌^◌, ◌<◌, ◌≤◌, Bool as Test, ℤ, pos, ◌+ℤ◌, unsigned_abs, inl, inr, arith, sym, ap, ◌∙◌, refl}
use Rattle.std.proofs.Math.Nat.{mod-eq_of_lt}
use Rattle.std.specs.Int.{bit_at}
use Rattle.std.proofs.lemmas.Bool.{cases_lt}
use Rattle.std.proofs.lemmas.Int.{ints, int_rem_euclid_is}
use Rattle.std.proofs.lemmas.Nat.{pow_pos, mod-mul-add, mod_below, mul-le}
use Rattle.std.proofs.lemmas.Nat.Bits.{bit_at-lt, bit_at_lowest, bit_at_cat_low, bit_at_cat_high}
use Rattle.int_kinds.specs.Bits.{representation, bit_of, from_bits, both, either, just_one, bitwise}
use Rattle.int_kinds.specs.BitFacts.{BitsAreJoined}
use Rattle.int_kinds.specs.Kind.{width_of, is_signed}
use Rattle.int_kinds.specs.Wrap.{wrap_at}
use Rattle.int_kinds.proofs.Ranges.{some_bits}
use Rattle.int_kinds.proofs.Wrapping.{double, wrap_member}

-- a number that is made of bits has them
made_below : (bits : ℕ) (f : ℕ → ℕ) → ((i : ℕ) → f i < 2) → from_bits bits f < 2 ^ bits
unfolding from_bits
made_below zero f bit = omega arith
made_below (suc bits) f bit =
    let rest = made_below bits f bit in
    let here = bit bits in
    let d = double (suc bits) (omega arith) in
    let p : 2 ^ (suc bits - 1) ≡ 2 ^ bits = ap (λ k. 2 ^ k) (omega arith) in
    let some : 0 < 2 ^ bits = pow_pos bits in
    let product : f bits * 2 ^ bits ≤ 1 * 2 ^ bits = mul-le (f bits) (2 ^ bits) 1 (2 ^ bits) (omega arith) (omega arith) in
    omega arith

lowest : (n : ℕ) → n < 2 → bit_at n 0 ≡ n
lowest n small = bit_at_lowest n ∙ mod-eq_of_lt small

made_has : (bits : ℕ) (f : ℕ → ℕ) → ((i : ℕ) → f i < 2) → (i : ℕ) → i < bits → bit_at (from_bits bits f) i ≡ f i
unfolding from_bits
made_has zero f bit i within = absurd (omega arith)
made_has (suc bits) f bit i within =
    let turn : from_bits bits f + f bits * 2 ^ bits ≡ f bits * 2 ^ bits + from_bits bits f = omega arith in
    ap (λ n. bit_at n i) turn ∙ elim (cases_lt i bits) [
      | inl low ↦ bit_at_cat_low (f bits) bits (from_bits bits f) i low ∙ made_has bits f bit i low
      | inr high ↦
          let last : i ≡ bits = omega arith in
          let none : i - bits ≡ 0 = omega arith in
          let small : f bits < 2 = bit bits in
          bit_at_cat_high (f bits) bits (from_bits bits f) i (made_below bits f bit) high
          ∙ ap (bit_at (f bits)) none
          ∙ lowest (f bits) small
          ∙ ap f (sym last)
    ]

pub wrapped_representation :
    (bits : ℕ) (signed : Test) (n : ℕ) → 0 < bits → n < 2 ^ bits → representation bits (wrap_at bits signed (pos n)) ≡ n
wrapped_representation bits signed n some below =
    let m = wrap_member bits signed (pos n) some in
    let sum : wrap_at bits signed (pos n) +ℤ pos (m.less * 2 ^ bits) ≡ pos (m.more * 2 ^ bits + n) = omega (arith, ints, m.congruent) in
    ap unsigned_abs
    (int_rem_euclid_is (wrap_at bits signed (pos n)) (pos (2 ^ bits)) (2 ^ bits) m.less (m.more * 2 ^ bits + n) (pow_pos bits) refl sum
    ∙ ap pos (mod-mul-add m.more (2 ^ bits) n below))

has_bits :
    (bits : ℕ) (signed : Test) (f : ℕ → ℕ) → 0 < bits → ((i : ℕ) → f i < 2) → (i : ℕ) → i < bits
    → bit_of bits (wrap_at bits signed (pos (from_bits bits f))) i ≡ f i
has_bits bits signed f some bit i within =
    ap (λ n. bit_at n i) (wrapped_representation bits signed (from_bits bits f) some (made_below bits f bit)) ∙ made_has bits f bit i within

both_bit : (x y : ℕ) → x < 2 → y < 2 → both x y < 2
both_bit x y p q = omega arith

either_bit : (x y : ℕ) → x < 2 → y < 2 → either x y < 2
either_bit x y p q = omega arith

just_one_bit : (x y : ℕ) → x < 2 → y < 2 → just_one x y < 2
just_one_bit x y p q = mod_below (x + y) 2 (omega arith)

turned_bit : (x : ℕ) → x < 2 → 1 - x < 2
turned_bit x p = omega arith

-- a bit of the result, for each way to join two bits
joined :
    (bits : ℕ) (signed : Test) (join : ℕ → ℕ → ℕ) (a b : ℤ) → 0 < bits
    → ((x y : ℕ) → x < 2 → y < 2 → join x y < 2) → (i : ℕ) → i < bits
    → bit_of bits (bitwise join bits signed a b) i ≡ join (bit_of bits a i) (bit_of bits b i)
joined bits signed join a b some bit i within =
    has_bits bits signed (λ k. join (bit_of bits a k) (bit_of bits b k)) some
    (λ k. bit (bit_of bits a k) (bit_of bits b k) (bit_at-lt (representation bits a) k) (bit_at-lt (representation bits b) k)) i within

pub bits_are_joined : BitsAreJoined
bits_are_joined kind a b i within = record {
  and_both = joined (width_of kind) (is_signed kind) both a b (some_bits kind) both_bit i within;
  or_either = joined (width_of kind) (is_signed kind) either a b (some_bits kind) either_bit i within;
  xor_just_one = joined (width_of kind) (is_signed kind) just_one a b (some_bits kind) just_one_bit i within;
  complement_other =
      has_bits (width_of kind) (is_signed kind) (λ k. 1 - bit_of (width_of kind) a k) (some_bits kind)
      (λ k. turned_bit (bit_of (width_of kind) a k) (bit_at-lt (representation (width_of kind) a) k)) i within;
}
