-- The bits of numbers, and what the machine's operators make of them.
use Rattle.std.proofs.Common.{◌≡◌, ℕ, zero, suc, ◌+◌, ◌-◌, ◌*◌, ◌/◌, ◌%◌, ◌^◌, ◌<◌, ◌≤◌, Bool as Test, ℤ, pos, bit_and, bit_or, bit_xor, to_z, of_z, FitsSigned, arith, sym, ap, ◌∙◌, refl}
use Rattle.std.specs.Int.{w128, bit_at}
use Rattle.std.proofs.lemmas.Int.{ints}
use Rattle.std.proofs.lemmas.Nat.{pow_pos, pow-add, mod-mul-add, div-add-mod', mod_below, div_below, and_mod, or_mod, xor_mod, and_le_l, or_lt, xor_lt}
use Rattle.std.proofs.lemmas.Nat.Bits.{bit_at_cat_low, bit_at_and, bit_at_or, bit_at_xor}
use Rattle.int_kinds.specs.Bits.{representation, from_bits, both, either, just_one, bitwise, turned}
use Rattle.int_kinds.specs.Wrap.{wrap_at}
use Rattle.int_kinds.proofs.Wrapping.{double, represented, wrap_same}
use Rattle.int_kinds.proofs.Machine.{representation_is, wrap-to_z}

-- ---- a number from its bits

from_bits-ext :
    (bits : ℕ) (f g : ℕ → ℕ) → ((i : ℕ) → i < bits → f i ≡ g i) → from_bits bits f ≡ from_bits bits g
unfolding from_bits
from_bits-ext zero f g same = refl
from_bits-ext (suc bits) f g same =
    let rest : from_bits bits f ≡ from_bits bits g = from_bits-ext bits f g (λ i h. same i (omega arith)) in
    let here : f bits ≡ g bits = same bits (omega arith) in
    ap (λ n. n + f bits * 2 ^ bits) rest ∙ ap (λ n. from_bits bits g + n * 2 ^ bits) here

-- a number, split at a bit
split : (bits n : ℕ) → n / 2 ^ bits * 2 ^ bits + n % 2 ^ bits ≡ n
split bits n = div-add-mod' n (2 ^ bits)

next : (bits n : ℕ) → n < 2 ^ suc bits → n / 2 ^ bits < 2
next bits n below =
    let d = double (suc bits) (omega arith) in
    let p : 2 ^ (suc bits - 1) ≡ 2 ^ bits = ap (λ k. 2 ^ k) (omega arith) in
    div_below n (2 ^ bits) 2 (pow_pos bits) (omega arith)

low_same : (bits n i : ℕ) → i < bits → bit_at (n % 2 ^ bits) i ≡ bit_at n i
low_same bits n i below =
    sym (bit_at_cat_low (n / 2 ^ bits) bits (n % 2 ^ bits) i below) ∙ ap (λ m. bit_at m i) (split bits n)

pub from_bits_is : (bits n : ℕ) → n < 2 ^ bits → from_bits bits (λ i. bit_at n i) ≡ n
unfolding from_bits
from_bits_is zero n below = omega arith
from_bits_is (suc bits) n below =
    let lower = from_bits_is bits (n % 2 ^ bits) (mod_below n (2 ^ bits) (pow_pos bits)) in
    let same : from_bits bits (λ i. bit_at n i) ≡ n % 2 ^ bits =
    sym (from_bits-ext bits (λ i. bit_at (n % 2 ^ bits) i) (λ i. bit_at n i) (low_same bits n)) ∙ lower in
    let top = next bits n below in
    let bit : n / 2 ^ bits % 2 ≡ n / 2 ^ bits = omega arith in
    ap (λ m. m + n / 2 ^ bits % 2 * 2 ^ bits) same ∙ ap (λ m. n % 2 ^ bits + m * 2 ^ bits) bit ∙ omega (arith, split bits n)

pub from_bits_turned : (bits n : ℕ) → n < 2 ^ bits → from_bits bits (λ i. 1 - bit_at n i) + n + 1 ≡ 2 ^ bits
unfolding from_bits
from_bits_turned zero n below = omega arith
from_bits_turned (suc bits) n below =
    let lower = from_bits_turned bits (n % 2 ^ bits) (mod_below n (2 ^ bits) (pow_pos bits)) in
    let same : from_bits bits (λ i. 1 - bit_at (n % 2 ^ bits) i) ≡ from_bits bits (λ i. 1 - bit_at n i) =
    from_bits-ext bits (λ i. 1 - bit_at (n % 2 ^ bits) i) (λ i. 1 - bit_at n i) (λ i h. ap (λ b. 1 - b) (low_same bits n i h)) in
    let top = next bits n below in
    let bit : n / 2 ^ bits % 2 ≡ n / 2 ^ bits = omega arith in
    let two : 1 - n / 2 ^ bits % 2 + n / 2 ^ bits ≡ 1 = omega arith in
    let product : (1 - n / 2 ^ bits % 2 + n / 2 ^ bits) * 2 ^ bits ≡ 1 * 2 ^ bits = ap (λ m. m * 2 ^ bits) two in
    let d = double (suc bits) (omega arith) in
    let p : 2 ^ (suc bits - 1) ≡ 2 ^ bits = ap (λ k. 2 ^ k) (omega arith) in
    omega (arith, split bits n)

-- ---- the machine's operators

-- what is above the width does not matter
wrap_low_part :
    (bits : ℕ) (signed : Test) (n : ℕ) → 0 < bits → wrap_at bits signed (pos n) ≡ wrap_at bits signed (pos (n % 2 ^ bits))
wrap_low_part bits signed n some =
    wrap_same bits signed (pos n) (pos (n % 2 ^ bits)) 0 (n / 2 ^ bits) some (omega (arith, ints, split bits n))

machine_part :
    (bits : ℕ) (signed : Test) (n m : ℕ) → 0 < bits → bits ≤ 128 → n < 2 ^ 128 → n % 2 ^ bits ≡ m
    → wrap_at bits signed (to_z w128 n) ≡ wrap_at bits signed (pos m)
machine_part bits signed n m some few below e =
    wrap-to_z bits signed n some few below ∙ wrap_low_part bits signed n some ∙ ap (λ k. wrap_at bits signed (pos k)) e

below_machine : (z : ℤ) → FitsSigned w128 z → of_z w128 z < 2 ^ 128
below_machine z fits = omega (arith, ints)

-- a number has the bits that it is told
digits : (bits n : ℕ) (f : ℕ → ℕ) → n < 2 ^ bits → ((i : ℕ) → bit_at n i ≡ f i) → from_bits bits f ≡ n
digits bits n f below same =
    sym (from_bits-ext bits (λ i. bit_at n i) f (λ i h. same i)) ∙ from_bits_is bits n below

module _ (bits : ℕ) (signed : Test) (a b : ℤ) (some : 0 < bits) (few : bits ≤ 128) (fits_a : FitsSigned w128 a) (fits_b : FitsSigned w128 b) where
  -- bits of the sides below the width, joined
  joined :
      (of_machine join : ℕ → ℕ → ℕ) → of_machine (of_z w128 a) (of_z w128 b) < 2 ^ 128
      → ((m n : ℕ) → m < 2 ^ bits → n < 2 ^ bits → of_machine m n < 2 ^ bits)
      → ((m n : ℕ) → of_machine m n % 2 ^ bits ≡ of_machine (m % 2 ^ bits) (n % 2 ^ bits))
      → ((m n i : ℕ) → bit_at (of_machine m n) i ≡ join (bit_at m i) (bit_at n i))
      → wrap_at bits signed (to_z w128 (of_machine (of_z w128 a) (of_z w128 b))) ≡ bitwise join bits signed a b
  joined of_machine join below within low bit =
      let l : ℕ = representation bits a in
      let r : ℕ = representation bits b in
      let is_a : of_z w128 a % 2 ^ bits ≡ l = sym (representation_is bits a few fits_a) in
      let is_b : of_z w128 b % 2 ^ bits ≡ r = sym (representation_is bits b few fits_b) in
      let e : of_machine (of_z w128 a) (of_z w128 b) % 2 ^ bits ≡ of_machine l r =
      low (of_z w128 a) (of_z w128 b) ∙ ap (λ n. of_machine n (of_z w128 b % 2 ^ bits)) is_a ∙ ap (of_machine l) is_b in
      machine_part bits signed (of_machine (of_z w128 a) (of_z w128 b)) (of_machine l r) some few below e
      ∙ ap (λ n. wrap_at bits signed (pos n)) (sym (digits bits (of_machine l r) (λ i. join (bit_at l i) (bit_at r i)) (within l r (represented bits a).3 (represented bits b).3) (bit l r)))

  pub and_is : wrap_at bits signed (to_z w128 (bit_and (of_z w128 a) (of_z w128 b))) ≡ bitwise both bits signed a b
  and_is =
      let small = below_machine a fits_a in
      let less = and_le_l (of_z w128 a) (of_z w128 b) in
      joined bit_and both (omega arith) (λ m n p q. let h = and_le_l m n in omega arith) (λ m n. and_mod m n bits) bit_at_and

  pub or_is : wrap_at bits signed (to_z w128 (bit_or (of_z w128 a) (of_z w128 b))) ≡ bitwise either bits signed a b
  or_is =
      joined bit_or either (or_lt 128 (of_z w128 a) (of_z w128 b) (below_machine a fits_a) (below_machine b fits_b)) (or_lt bits) (λ m n. or_mod m n bits) bit_at_or

  pub xor_is : wrap_at bits signed (to_z w128 (bit_xor (of_z w128 a) (of_z w128 b))) ≡ bitwise just_one bits signed a b
  xor_is =
      joined bit_xor just_one (xor_lt 128 (of_z w128 a) (of_z w128 b) (below_machine a fits_a) (below_machine b fits_b)) (xor_lt bits) (λ m n. xor_mod m n bits) bit_at_xor

-- the lowest bits of a number with each bit turned
turned_low : (bits n : ℕ) → bits ≤ 128 → n < 2 ^ 128 → (2 ^ 128 - 1 - n) % 2 ^ bits ≡ 2 ^ bits - 1 - n % 2 ^ bits
turned_low bits n few below =
    let some : 0 < 2 ^ bits = pow_pos bits in
    let whole : 128 - bits + bits ≡ 128 = omega arith in
    let all : 2 ^ (128 - bits) * 2 ^ bits ≡ 2 ^ 128 = sym (pow-add 2 (128 - bits) bits) ∙ ap (λ n. 2 ^ n) whole in
    let fewer : n / 2 ^ bits < 2 ^ (128 - bits) = div_below n (2 ^ bits) (2 ^ (128 - bits)) some (omega arith) in
    let more : ℕ = 2 ^ (128 - bits) - (n / 2 ^ bits + 1) in
    let parts : 2 ^ (128 - bits) ≡ n / 2 ^ bits + 1 + more = omega arith in
    let product = ap (λ m. m * 2 ^ bits) parts in
    let rest = mod_below n (2 ^ bits) some in
    let e : 2 ^ 128 - 1 - n ≡ more * 2 ^ bits + (2 ^ bits - 1 - n % 2 ^ bits) = omega (arith, split bits n) in
    ap (λ m. m % 2 ^ bits) e ∙ mod-mul-add more (2 ^ bits) (2 ^ bits - 1 - n % 2 ^ bits) (omega arith)

pub turned_is :
    (bits : ℕ) (signed : Test) (a : ℤ) → 0 < bits → bits ≤ 128 → FitsSigned w128 a
    → wrap_at bits signed (to_z w128 (2 ^ 128 - 1 - of_z w128 a)) ≡ turned bits signed a
turned_is bits signed a some few fits =
    let r : ℕ = representation bits a in
    let e : (2 ^ 128 - 1 - of_z w128 a) % 2 ^ bits ≡ 2 ^ bits - 1 - r =
    turned_low bits (of_z w128 a) few (below_machine a fits) ∙ ap (λ n. 2 ^ bits - 1 - n) (sym (representation_is bits a few fits)) in
    let sum = from_bits_turned bits r (represented bits a).3 in
    let same : 2 ^ bits - 1 - r ≡ from_bits bits (λ i. 1 - bit_at r i) = omega arith in
    machine_part bits signed (2 ^ 128 - 1 - of_z w128 a) (2 ^ bits - 1 - r) some few (omega arith) e
    ∙ ap (λ n. wrap_at bits signed (pos n)) same
