-- The values of the kinds of whole numbers.
use Rattle.std.specs.Prelude.{ℕ, ◌-◌, ◌^◌, true, false, ◌&&◌, Bool as Test, ℤ, pos, neg_ℤ, ◌≤ℤ◌, int_le, if◌then◌else◌}
use Rattle.cxx_base.specs.declared.operator.IntKind.{IntKind}
use Rattle.cxx_base.specs.declared.operator.IntKind.TheVariants.{Bool, Char, SChar, UChar, Short, UShort, Int, UInt, Long, ULong, LongLong, ULongLong}

-- The width: how many bits the values have, sign included ([basic.fundamental]). `int` has 32 bits here, `long` and
-- `long long` have 64, choices that the standard leaves open.
abbrev pub width_of : IntKind → ℕ
width_of Bool = 1
width_of Char = 8
width_of SChar = 8
width_of UChar = 8
width_of Short = 16
width_of UShort = 16
width_of Int = 32
width_of UInt = 32
width_of Long = 64
width_of ULong = 64
width_of LongLong = 64
width_of ULongLong = 64

-- whether there are negative values ([basic.fundamental]); plain `char` has them here, which the standard leaves open too
abbrev pub is_signed : IntKind → Test
is_signed Bool = false
is_signed Char = true
is_signed SChar = true
is_signed UChar = false
is_signed Short = true
is_signed UShort = false
is_signed Int = true
is_signed UInt = false
is_signed Long = true
is_signed ULong = false
is_signed LongLong = true
is_signed ULongLong = false

-- The range of a width ([basic.fundamental]): from -2^(N-1) to 2^(N-1) - 1 with a sign, and from 0 to 2^N - 1 without.
abbrev pub least_at : ℕ → Test → ℤ
least_at bits signed = if signed then neg_ℤ (pos (2 ^ (bits - 1))) else pos 0

abbrev pub greatest_at : ℕ → Test → ℤ
greatest_at bits signed = if signed then pos (2 ^ (bits - 1) - 1) else pos (2 ^ bits - 1)

abbrev pub IsInRangeAt : ℕ → Test → ℤ → Type 0
IsInRangeAt bits signed n = (least_at bits signed ≤ℤ n) × (n ≤ℤ greatest_at bits signed)

-- the same, as a test
abbrev pub has_value_at : ℕ → Test → ℤ → Test
has_value_at bits signed n = int_le (least_at bits signed) n && int_le n (greatest_at bits signed)

abbrev pub least_of : IntKind → ℤ
least_of kind = least_at (width_of kind) (is_signed kind)

abbrev pub greatest_of : IntKind → ℤ
greatest_of kind = greatest_at (width_of kind) (is_signed kind)

-- n is a value of the kind
abbrev pub IsInRange : IntKind → ℤ → Type 0
IsInRange kind n = IsInRangeAt (width_of kind) (is_signed kind) n

-- the same, as a test
abbrev pub has_value : IntKind → ℤ → Test
has_value kind n = has_value_at (width_of kind) (is_signed kind) n
