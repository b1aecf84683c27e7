-- Bits in two's complement ([basic.fundamental]).
use Rattle.std.specs.Prelude.{ℕ, zero, suc, ◌+◌, ◌-◌, ◌*◌, ◌^◌, ◌%◌, min, max, Bool as Test, ℤ, pos, unsigned_abs}
use Rattle.std.specs.Int.{int_rem_euclid, bit_at}
use Rattle.int_kinds.specs.Wrap.{wrap_at}

-- the unsigned number of that width that is congruent to n, whose binary digits are the bits of n
abbrev pub representation : ℕ → ℤ → ℕ
representation bits n = unsigned_abs (int_rem_euclid n (pos (2 ^ bits)))

-- bit i, from the lowest on
abbrev pub bit_of : ℕ → ℤ → ℕ → ℕ
bit_of bits n i = bit_at (representation bits n) i

-- the unsigned number with the given bits
unfoldable pub from_bits : ℕ → (ℕ → ℕ) → ℕ
from_bits zero bit = 0
from_bits (suc i) bit = from_bits i bit + bit i * 2 ^ i

-- 1 where both bits are 1 ([expr.bit.and]), where one at least is 1 ([expr.or]), where just one is 1 ([expr.xor])
abbrev pub both : ℕ → ℕ → ℕ
both x y = min x y

abbrev pub either : ℕ → ℕ → ℕ
either x y = max x y

abbrev pub just_one : ℕ → ℕ → ℕ
just_one x y = (x + y) % 2

-- the value whose bit i comes from bit i of a and of b
abbrev pub bitwise : (ℕ → ℕ → ℕ) → ℕ → Test → ℤ → ℤ → ℤ
bitwise join bits signed a b = wrap_at bits signed (pos (from_bits bits (λ i. join (bit_of bits a i) (bit_of bits b i))))

-- the value whose bit i is 0 where that of a is 1, and 1 where it is 0 ([expr.unary.op])
abbrev pub turned : ℕ → Test → ℤ → ℤ
turned bits signed a = wrap_at bits signed (pos (from_bits bits (λ i. 1 - bit_of bits a i)))
