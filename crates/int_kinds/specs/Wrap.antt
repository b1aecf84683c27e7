-- Whole numbers modulo a power of 2.
use Rattle.std.specs.Prelude.{◌≡◌, ◌↔◌, ℕ, ◌^◌, Bool as Test, ℤ, pos, ◌+ℤ◌, ◌-ℤ◌, ◌*ℤ◌}
use Rattle.std.specs.Int.{int_rem_euclid}
use Rattle.cxx_base.specs.declared.operator.IntKind.{IntKind}
use Rattle.int_kinds.specs.Kind.{width_of, is_signed, least_at, IsInRange}

-- The member of the range that is congruent to n modulo 2^N: as far above the least one as n is, modulo 2^N.
abbrev pub wrap_at : ℕ → Test → ℤ → ℤ
wrap_at bits signed n = least_at bits signed +ℤ int_rem_euclid (n -ℤ least_at bits signed) (pos (2 ^ bits))

abbrev pub wrap : IntKind → ℤ → ℤ
wrap kind n = wrap_at (width_of kind) (is_signed kind) n

-- a and b differ by a multiple of the modulus
abbrev pub AreCongruent : ℕ → ℤ → ℤ → Type 0
AreCongruent modulus a b = (k : ℤ) × (a ≡ b +ℤ k *ℤ pos modulus)

-- that member is the one value of the kind that is congruent to n
abbrev pub WrapIsTheMember : Type 0
WrapIsTheMember =
    (kind : IntKind) (n m : ℤ) → (wrap kind n ≡ m) ↔ (IsInRange kind m × AreCongruent (2 ^ width_of kind) m n)
