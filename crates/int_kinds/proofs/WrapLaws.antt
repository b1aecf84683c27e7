-- The law of the members of ranges.
use Rattle.std.proofs.Common.{◌≡◌, ℕ, suc, ◌+◌, ◌*◌, ◌-◌, ◌^◌, ◌<◌, Bool as Test, ℤ, pos, negsuc, ◌+ℤ◌, ◌*ℤ◌, inl, inr, arith, ap, subst}
use Rattle.std.proofs.lemmas.Int.{ints}
use Rattle.std.proofs.lemmas.Bool.{cases_lt}
use Rattle.std.proofs.Math.IntN.{negsuc-*ℤ-pos}
use Rattle.int_kinds.specs.Kind.{width_of, is_signed, IsInRangeAt}
use Rattle.int_kinds.specs.Wrap.{wrap_at, AreCongruent, WrapIsTheMember}
use Rattle.int_kinds.proofs.Ranges.{some_bits}
use Rattle.int_kinds.proofs.Wrapping.{wrap_member, wrap_is}

-- two multiples on two sides make one
to_multiple : (modulus : ℕ) (a b : ℤ) (j k : ℕ) → a +ℤ pos (j * modulus) ≡ b +ℤ pos (k * modulus) → AreCongruent modulus a b
to_multiple modulus a b j k e =
    elim (cases_lt k j) [
      | inl less ↦
          let rest : ℕ = j - k - 1 in
          let parts : j ≡ k + suc rest = omega arith in
          let product = ap (λ n. n * modulus) parts in (negsuc rest, omega (arith, ints, e, negsuc-*ℤ-pos rest modulus))
      | inr more ↦
          let rest : ℕ = k - j in
          let parts : k ≡ j + rest = omega arith in
          let product = ap (λ n. n * modulus) parts in (pos rest, omega (arith, ints, e))
    ]

from_multiple :
    (bits : ℕ) (signed : Test) (n m times : ℤ) → 0 < bits → IsInRangeAt bits signed m
    → m ≡ n +ℤ times *ℤ pos (2 ^ bits) → wrap_at bits signed n ≡ m
from_multiple bits signed n m (pos k) some within e = wrap_is bits signed n m 0 k some within (omega (arith, ints, e))
from_multiple bits signed n m (negsuc j) some within e = wrap_is bits signed n m (suc j) 0 some within (omega (arith, ints, e, negsuc-*ℤ-pos j (2 ^ bits)))

pub wrap_is_the_member : WrapIsTheMember
wrap_is_the_member kind n m = (
  λ e. let w = wrap_member (width_of kind) (is_signed kind) n (some_bits kind) in
      subst (λ z. IsInRangeAt (width_of kind) (is_signed kind) z × AreCongruent (2 ^ width_of kind) z n) e
      (w.in_range, to_multiple (2 ^ width_of kind) (wrap_at (width_of kind) (is_signed kind) n) n w.less w.more w.congruent),
  λ h. from_multiple (width_of kind) (is_signed kind) n m h.1.0 (some_bits kind) h.0 h.1.1,
)
