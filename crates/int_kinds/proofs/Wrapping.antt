-- The member of a range that is congruent to a number.
use Rattle.std.proofs.Common.{◌≡◌, ℕ, zero, suc, ◌+◌, ◌-◌, ◌*◌, ◌/◌, ◌^◌, ◌<◌, ◌≤◌, Bool as Test, true, false, ℤ, pos, negsuc, neg_ℤ, ◌+ℤ◌, ◌-ℤ◌, ◌≤ℤ◌, ◌<ℤ◌, unsigned_abs, arith, sym, ap, ◌∙◌, refl}
use Rattle.std.specs.Int.{int_rem_euclid}
use Rattle.std.proofs.lemmas.Int.{ints, int_rem_euclid_is}
use Rattle.std.proofs.lemmas.Nat.{pow_pos, pow-add, mod-mul-add, div-add-mod', mod_below}
use Rattle.int_kinds.specs.Bits.{representation}
use Rattle.int_kinds.specs.Kind.{IsInRangeAt}
use Rattle.int_kinds.specs.Wrap.{wrap_at}

-- the one number of an interval as long as the modulus, from l on, that is congruent to n
wrap_from :
    (modulus : ℕ) (l n m : ℤ) (j k : ℕ) → 0 < modulus → l ≤ℤ m → m <ℤ (l +ℤ pos modulus)
    → m +ℤ pos (j * modulus) ≡ n +ℤ pos (k * modulus) → l +ℤ int_rem_euclid (n -ℤ l) (pos modulus) ≡ m
wrap_from modulus l n m j k some low high e =
    let r : ℕ = unsigned_abs (m -ℤ l) in
    let r_is : pos r ≡ m -ℤ l = omega (arith, ints) in
    let below : r < modulus = omega (arith, ints) in
    let sum : (n -ℤ l) +ℤ pos (k * modulus) ≡ pos (j * modulus + r) = omega (arith, ints) in
    let rest : int_rem_euclid (n -ℤ l) (pos modulus) ≡ pos r =
    int_rem_euclid_is (n -ℤ l) (pos modulus) modulus k (j * modulus + r) some refl sum
    ∙ ap pos (mod-mul-add j modulus r below) in
    ap (λ z. l +ℤ z) (rest ∙ r_is) ∙ omega (arith, ints)

pub double : (bits : ℕ) → 0 < bits → 2 ^ bits ≡ 2 ^ (bits - 1) + 2 ^ (bits - 1)
double zero some = absurd (omega arith)
double (suc bits) some =
    let e : 2 ^ suc bits ≡ 2 ^ 1 * 2 ^ bits = ap (λ n. 2 ^ n) (omega arith) ∙ pow-add 2 1 bits in
    let p : 2 ^ (suc bits - 1) ≡ 2 ^ bits = ap (λ n. 2 ^ n) (omega arith) in
    omega arith

pub wrap_is :
    (bits : ℕ) (signed : Test) (n m : ℤ) (j k : ℕ) → 0 < bits → IsInRangeAt bits signed m
    → m +ℤ pos (j * 2 ^ bits) ≡ n +ℤ pos (k * 2 ^ bits) → wrap_at bits signed n ≡ m
wrap_is bits true n m j k some within e =
    let d = double bits some in
    let p : 0 < 2 ^ (bits - 1) = pow_pos (bits - 1) in
    wrap_from (2 ^ bits) (neg_ℤ (pos (2 ^ (bits - 1)))) n m j k (pow_pos bits) within.0 (omega (arith, ints)) e
wrap_is bits false n m j k some within e =
    let p : 0 < 2 ^ bits = pow_pos bits in
    wrap_from (2 ^ bits) (pos 0) n m j k p within.0 (omega (arith, ints)) e

-- a number and the unsigned one that is congruent to it
pub represented :
    (bits : ℕ) (n : ℤ)
    → (j : ℕ) × (k : ℕ) × (pos (representation bits n) +ℤ pos (j * 2 ^ bits) ≡ n +ℤ pos (k * 2 ^ bits)) × (representation bits n < 2 ^ bits)
represented bits (pos a) =
    let p : 0 < 2 ^ bits = pow_pos bits in
    let s = div-add-mod' a (2 ^ bits) in
    (a / 2 ^ bits, 0, omega (arith, ints), mod_below a (2 ^ bits) p)
represented bits (negsuc a) =
    let p : 0 < 2 ^ bits = pow_pos bits in
    let s = div-add-mod' a (2 ^ bits) in
    let below = mod_below a (2 ^ bits) p in
    (0, a / 2 ^ bits + 1, omega (arith, ints), omega (arith, ints))

-- from the lowest bits to the member of the range: the highest of them is the sign
pub wrap_negative :
    (bits : ℕ) (n : ℤ) → 0 < bits → 2 ^ (bits - 1) ≤ representation bits n
    → wrap_at bits true n ≡ pos (representation bits n) -ℤ pos (2 ^ bits)
wrap_negative bits n some high =
    let d = double bits some in
    let r = represented bits n in
    wrap_is bits true n (pos (representation bits n) -ℤ pos (2 ^ bits)) (r.0 + 1) r.1 some (omega (arith, ints, r.3), omega (arith, ints, r.3))
    (omega (arith, ints, r.2))

pub wrap_low :
    (bits : ℕ) (n : ℤ) → 0 < bits → representation bits n < 2 ^ (bits - 1) → wrap_at bits true n ≡ pos (representation bits n)
wrap_low bits n some low =
    let r = represented bits n in
    wrap_is bits true n (pos (representation bits n)) r.0 r.1 some (omega (arith, ints), omega (arith, ints)) r.2

pub wrap_unsigned : (bits : ℕ) (n : ℤ) → 0 < bits → wrap_at bits false n ≡ pos (representation bits n)
wrap_unsigned bits n some =
    let r = represented bits n in
    wrap_is bits false n (pos (representation bits n)) r.0 r.1 some (omega (arith, ints), omega (arith, ints, r.3)) r.2

-- what is left of a division by the modulus is that unsigned number
rest_is : (bits : ℕ) (n : ℤ) → int_rem_euclid n (pos (2 ^ bits)) ≡ pos (representation bits n)
rest_is bits (pos a) = refl
rest_is bits (negsuc a) = refl

-- the member is in the range, and congruent
pub record IsMember (bits : ℕ) (signed : Test) (n m : ℤ) : Type 0 where
  pub in_range : IsInRangeAt bits signed m
  pub less : ℕ
  pub more : ℕ
  pub congruent : m +ℤ pos (less * 2 ^ bits) ≡ n +ℤ pos (more * 2 ^ bits)

pub wrap_member : (bits : ℕ) (signed : Test) (n : ℤ) → 0 < bits → IsMember bits signed n (wrap_at bits signed n)
wrap_member bits true n some =
    let d = double bits some in
    let r = represented bits (n -ℤ neg_ℤ (pos (2 ^ (bits - 1)))) in
    let e = rest_is bits (n -ℤ neg_ℤ (pos (2 ^ (bits - 1)))) in
    record {
      in_range = (omega (arith, ints, e, r.3), omega (arith, ints, e, r.3));
      less = r.0;
      more = r.1;
      congruent = omega (arith, ints, e, r.2);
    }
wrap_member bits false n some =
    let r = represented bits (n -ℤ pos 0) in
    let e = rest_is bits (n -ℤ pos 0) in
    record {
      in_range = (omega (arith, ints, e, r.3), omega (arith, ints, e, r.3));
      less = r.0;
      more = r.1;
      congruent = omega (arith, ints, e, r.2);
    }

-- congruent numbers have one member
pub wrap_same :
    (bits : ℕ) (signed : Test) (a b : ℤ) (j k : ℕ) → 0 < bits → a +ℤ pos (j * 2 ^ bits) ≡ b +ℤ pos (k * 2 ^ bits)
    → wrap_at bits signed a ≡ wrap_at bits signed b
wrap_same bits signed a b j k some e =
    let m = wrap_member bits signed b some in
    wrap_is bits signed a (wrap_at bits signed b) (m.less + k) (m.more + j) some m.in_range (omega (arith, ints, m.congruent, e))

-- also where the modulus is a greater power of 2
pub wrap_same_beyond :
    (bits more : ℕ) (signed : Test) (a b : ℤ) (j k : ℕ) → 0 < bits → bits ≤ more
    → a +ℤ pos (j * 2 ^ more) ≡ b +ℤ pos (k * 2 ^ more) → wrap_at bits signed a ≡ wrap_at bits signed b
wrap_same_beyond bits more signed a b j k some few e =
    let whole : more - bits + bits ≡ more = omega arith in
    let all : 2 ^ (more - bits) * 2 ^ bits ≡ 2 ^ more = sym (pow-add 2 (more - bits) bits) ∙ ap (λ n. 2 ^ n) whole in
    let left = ap (λ n. j * n) all in
    let right = ap (λ n. k * n) all in
    wrap_same bits signed a b (j * 2 ^ (more - bits)) (k * 2 ^ (more - bits)) some (omega (arith, ints, e))
