-- Conversions between kinds: promotions, the common kind of two operands, and the values that they give.
use Rattle.std.specs.Prelude.{ℕ, Bool as Test, ◌&&◌, nat_lt, nat_le, ℤ, pos, int_le, IsTrue, if◌then◌else◌}
use Rattle.std.specs.Ordering.{int_eq}
use Rattle.cxx_base.specs.declared.operator.IntKind.{IntKind}
use Rattle.cxx_base.specs.declared.operator.IntKind.TheVariants.{Bool, Char, SChar, UChar, Short, UShort, Int, UInt, Long, ULong, LongLong, ULongLong}
use Rattle.int_kinds.specs.Kind.{is_signed, least_of, greatest_of}
use Rattle.int_kinds.specs.Wrap.{wrap}

-- A number as a value of the kind ([conv.integral]): the one congruent to it. As `bool` it is whether it is not 0
-- ([conv.bool]).
abbrev pub converted : IntKind → ℤ → ℤ
converted Bool n = if int_eq n (pos 0) then pos 0 else pos 1
converted kind n = wrap kind n

-- the conversion rank, as a number ([conv.rank])
abbrev pub rank_of : IntKind → ℕ
rank_of Bool = 0
rank_of Char = 1
rank_of SChar = 1
rank_of UChar = 1
rank_of Short = 2
rank_of UShort = 2
rank_of Int = 3
rank_of UInt = 3
rank_of Long = 4
rank_of ULong = 4
rank_of LongLong = 5
rank_of ULongLong = 5

-- the first kind has each value of the second
abbrev pub has_values_of : IntKind → IntKind → Test
has_values_of wide kind = int_le (least_of wide) (least_of kind) && int_le (greatest_of kind) (greatest_of wide)

-- The promotion ([conv.prom]): a kind of a lower rank than `int` becomes `int` where that has each of its values, else
-- `unsigned int`; the others stay.
abbrev pub promoted : IntKind → IntKind
promoted kind =
    if nat_lt (rank_of kind) (rank_of Int) then (if has_values_of Int kind then Int else UInt) else kind

-- the kinds that promotion gives
abbrev pub is_promoted : IntKind → Test
is_promoted kind = nat_le (rank_of Int) (rank_of kind)

abbrev pub IsPromoted : IntKind → Type 0
IsPromoted kind = IsTrue (is_promoted kind)

-- the unsigned kind of the same rank
abbrev pub unsigned_of : IntKind → IntKind
unsigned_of Bool = Bool
unsigned_of Char = UChar
unsigned_of SChar = UChar
unsigned_of UChar = UChar
unsigned_of Short = UShort
unsigned_of UShort = UShort
unsigned_of Int = UInt
unsigned_of UInt = UInt
unsigned_of Long = ULong
unsigned_of ULong = ULong
unsigned_of LongLong = ULongLong
unsigned_of ULongLong = ULongLong

-- The common kind of a signed and an unsigned kind ([expr.arith.conv]): the unsigned one where its rank is not lower;
-- else the signed one where it has each value of the other; else the unsigned one of the signed one's rank.
abbrev pub common_mixed : IntKind → IntKind → IntKind
common_mixed signed unsigned =
    if nat_le (rank_of signed) (rank_of unsigned) then unsigned
    else if has_values_of signed unsigned then signed
    else unsigned_of signed

-- the common kind of two kinds that promotion gives: of two with a sign, or two without, the one of the greater rank
abbrev pub common_promoted : IntKind → IntKind → IntKind
common_promoted a b =
    if is_signed a
    then (if is_signed b then (if nat_lt (rank_of a) (rank_of b) then b else a) else common_mixed a b)
    else (if is_signed b then common_mixed b a else (if nat_lt (rank_of a) (rank_of b) then b else a))

-- the usual arithmetic conversions ([expr.arith.conv]): promote both, then take the common kind
abbrev pub common_of : IntKind → IntKind → IntKind
common_of a b = common_promoted (promoted a) (promoted b)
