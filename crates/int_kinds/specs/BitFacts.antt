-- What the standard says of the operators that go bit by bit, as facts of the definitions here.
use Rattle.std.specs.Prelude.{◌≡◌, ℕ, ◌-◌, ◌<◌, ℤ}
use Rattle.cxx_base.specs.declared.operator.IntKind.{IntKind}
use Rattle.int_kinds.specs.Bits.{bit_of, both, either, just_one, bitwise}
use Rattle.int_kinds.specs.Kind.{width_of, is_signed}
use Rattle.int_kinds.specs.Operate.{complemented}

-- bit i of the results of `&`, `|`, `^` and `~` ([expr.bit.and], [expr.or], [expr.xor], [expr.unary.op])
pub record HasBits (kind : IntKind) (a b : ℤ) (i : ℕ) : Type 0 where
  pub and_both :
      bit_of (width_of kind) (bitwise both (width_of kind) (is_signed kind) a b) i
      ≡ both (bit_of (width_of kind) a i) (bit_of (width_of kind) b i)
  pub or_either :
      bit_of (width_of kind) (bitwise either (width_of kind) (is_signed kind) a b) i
      ≡ either (bit_of (width_of kind) a i) (bit_of (width_of kind) b i)
  pub xor_just_one :
      bit_of (width_of kind) (bitwise just_one (width_of kind) (is_signed kind) a b) i
      ≡ just_one (bit_of (width_of kind) a i) (bit_of (width_of kind) b i)
  pub complement_other : bit_of (width_of kind) (complemented kind a) i ≡ 1 - bit_of (width_of kind) a i

-- each bit of a result comes from the bits of the sides at its place
abbrev pub BitsAreJoined : Type 0
BitsAreJoined = (kind : IntKind) (a b : ℤ) (i : ℕ) → i < width_of kind → HasBits kind a b i
