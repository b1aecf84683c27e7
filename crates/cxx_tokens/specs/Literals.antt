-- Literals ([lex.literal]): what stands at the front of a text, and how many characters of it belong to the literal.
use Rattle.std.specs.Prelude.{ℕ, zero, suc, ◌+◌, min, Bool, true, false, ◌&&◌, ◌||◌, not, ◌==◌, nat_lt, if◌then◌else◌, [], ◌∷◌, ◌++◌, length, take, drop, Option, Some, None, Result, Ok, Err, codes, encode_utf8}
use Rattle.std.specs.List.{prefix_len}
use Rattle.cxx_base.specs.Texts.{Text}
use Rattle.cxx_base.specs.declared.place.Place.{Place}
use Rattle.cxx_tokens.specs.Characters.{Characters, is_digit_in, begins_with, first_is, value_in, backslash, double_quote, line_feed, single_quote}
use Rattle.cxx_tokens.specs.Faults.{Fault, L2, L4}
use Rattle.cxx_tokens.specs.declared.integer.Base.{Base}
use Rattle.cxx_tokens.specs.declared.integer.Base.TheVariants.{Binary, Octal, Decimal, Hexadecimal}

-- ---- integers ([lex.icon])

abbrev pub zero_digit : ℕ
zero_digit = 48

abbrev pub radix : Base → ℕ
radix Binary = 2
radix Octal = 8
radix Decimal = 10
radix Hexadecimal = 16

-- a prefix, and a digit of the base
abbrev pub has_prefix : Characters → ℕ → Characters → Bool
has_prefix prefix base text = begins_with prefix text && first_is (is_digit_in base) (drop (length prefix) text)

-- `0x` and `0b` belong to the number where a digit of that base follows; another number that begins with 0 is octal
abbrev pub base_of : Characters → Base
base_of text =
    if has_prefix (codes "0x") 16 text then Hexadecimal else (if has_prefix (codes "0b") 2 text then Binary
    else (if first_is (λ c. c == zero_digit) text then Octal else Decimal))

abbrev pub prefix_len_of : Base → ℕ
prefix_len_of Binary = 2
prefix_len_of Octal = 0
prefix_len_of Decimal = 0
prefix_len_of Hexadecimal = 2

-- how many characters the digits at the front have; a single quote may stand between two digits
abbrev pub digits_len : ℕ → Characters → ℕ
digits_len base [] = 0
digits_len base (c ∷ []) = if is_digit_in base c then 1 else 0
digits_len base (c ∷ d ∷ text) =
    if is_digit_in base c then (if has_prefix (codes "'") base (d ∷ text) then 2 + digits_len base text else 1 + digits_len base (d ∷ text))
    else 0

abbrev pub is_u : ℕ → Bool
is_u c = c == 117 || c == 85

abbrev pub is_l : ℕ → Bool
is_l c = c == 108 || c == 76

-- `u` or `U`
abbrev pub unsigned_len : Characters → ℕ
unsigned_len text = if first_is is_u text then 1 else 0

-- `l` or `L`, once, or twice in one case
abbrev pub longs_len : Characters → ℕ
longs_len [] = 0
longs_len (c ∷ text) = if is_l c then (if first_is (λ d. d == c) text then 2 else 1) else 0

-- the suffix: `u` before the others or after them
pub record Suffix : Type 0 where
  pub length : ℕ
  pub unsigned : Bool
  pub longs : ℕ

abbrev pub suffix_by : ℕ → ℕ → ℕ → Suffix
suffix_by before longs behind = record { length = before + longs + behind; unsigned = nat_lt 0 (before + behind); longs = longs }

abbrev pub suffix_of : Characters → Suffix
suffix_of text =
    let before = unsigned_len text in
    let longs = longs_len (drop before text) in
    suffix_by before longs (if before == 0 then unsigned_len (drop longs (drop before text)) else 0)

-- an integer literal: how many characters it has, and what they say
pub record Integer : Type 0 where
  pub length : ℕ
  pub decimal : Bool
  pub unsigned : Bool
  pub longs : ℕ
  pub value : ℕ

abbrev pub is_decimal : Base → Bool
is_decimal Binary = false
is_decimal Octal = false
is_decimal Decimal = true
is_decimal Hexadecimal = false

abbrev pub integer_by : Base → Characters → Suffix → Integer
integer_by base digits suffix =
    record {
      length = prefix_len_of base + length digits + suffix.length;
      decimal = is_decimal base;
      unsigned = suffix.unsigned;
      longs = suffix.longs;
      value = value_in (radix base) digits;
    }

-- the integer at the front of a text that begins with a digit
abbrev pub integer_at : Characters → Integer
integer_at text =
    let base = base_of text in
    let digits = drop (prefix_len_of base) text in
    let n = digits_len (radix base) digits in
    integer_by base (take n digits) (suffix_of (drop n digits))

-- ---- escapes ([lex.ccon])

-- how many characters belong to an escape or a character, counted from where it was looked for, and the byte that it means
pub record Escape : Type 0 where
  pub length : ℕ
  pub byte : ℕ

-- n t r a b f v, and \ ' " ?, which stand for themselves
abbrev pub simple_escape : ℕ → Option ℕ
simple_escape c =
    if c == 110 then Some 10 else (if c == 116 then Some 9 else (if c == 114 then Some 13 else (if c == 97 then Some 7
    else (if c == 98 then Some 8 else (if c == 102 then Some 12 else (if c == 118 then Some 11
    else (if c == backslash || (c == single_quote || (c == double_quote || c == 63)) then Some c else None)))))))

-- digits that mean a byte, behind so many other characters
abbrev pub numeric_escape : ℕ → ℕ → Characters → Option Escape
numeric_escape others base digits =
    if nat_lt 0 (length digits) && nat_lt (value_in base digits) 256
    then Some (record { length = others + length digits; byte = value_in base digits }) else None

abbrev pub simple_by : Option ℕ → Option Escape
simple_by None = None
simple_by (Some byte) = Some (record { length = 1; byte = byte })

-- the escape behind a backslash: as many octal digits as follow, at most three; or `x` and as many hexadecimal digits as
-- follow; or one character
abbrev pub escape_at : Characters → Option Escape
escape_at [] = None
escape_at (c ∷ text) =
    if is_digit_in 8 c then numeric_escape 0 8 (take (min 3 (prefix_len (is_digit_in 8) (c ∷ text))) (c ∷ text))
    else (if c == 120 then numeric_escape 1 16 (take (prefix_len (is_digit_in 16) text) text) else simple_by (simple_escape c))

-- ---- characters

-- an ASCII character that stands for itself: no single quote, no backslash, no line feed
abbrev pub is_plain : ℕ → Bool
is_plain c = nat_lt c 128 && not (c == single_quote || (c == backslash || c == line_feed))

-- with the quote that has to follow, and so many characters before
abbrev pub closed : ℕ → Characters → Option Escape → Option Escape
closed others text None = None
closed others text (Some escape) =
    if begins_with (codes "'") (drop escape.length text) then Some (record { length = others + escape.length + 1; byte = escape.byte }) else None

-- what stands behind the first quote: one character or escape, and the second quote
abbrev pub character_at : Characters → Option Escape
character_at [] = None
character_at (c ∷ text) =
    if c == backslash then closed 1 text (escape_at text)
    else (if is_plain c then closed 0 (c ∷ text) (Some (record { length = 1; byte = c })) else None)

-- ---- strings ([lex.string])

-- how many characters a string has behind its first quote, and the bytes that it means
pub record Quoted : Type 0 where
  pub length : ℕ
  pub bytes : Text

-- behind one more character, which means these bytes
abbrev pub behind_one : Text → Result Quoted Fault → Result Quoted Fault
behind_one bytes (Ok rest) = Ok (record { length = 1 + rest.length; bytes = bytes ++ rest.bytes })
behind_one bytes (Err fault) = Err fault

-- a line ends here
abbrev pub is_line_end : Characters → Bool
is_line_end [] = true
is_line_end (c ∷ text) = c == line_feed

-- why no escape stands behind a backslash: the line ends, or there is none such
abbrev pub no_escape : Place → Characters → Fault
no_escape place text = if is_line_end text then L4 place else L2 place

abbrev pub unless_none : Fault → Option Escape → (Escape → Result Quoted Fault) → Result Quoted Fault
unless_none fault None go = Err fault
unless_none fault (Some escape) go = go escape

-- What stands behind the first quote: characters and escapes, and the next quote that is of none of them. A string is refused
-- L4 where the line or the text ends before, also right behind a backslash; and L2 where no escape stands behind a backslash. `left` counts the characters that are left of an escape.
abbrev pub string_from : ℕ → Place → Characters → Result Quoted Fault
string_from left place [] = Err (L4 place)
string_from (suc left) place (c ∷ text) = behind_one [] (string_from left place text)
string_from zero place (c ∷ text) =
    if c == double_quote then Ok (record { length = 1; bytes = [] })
    else (if c == line_feed then Err (L4 place)
    else (if c == backslash then unless_none (no_escape place text) (escape_at text)
    (λ escape. behind_one (escape.byte ∷ []) (string_from escape.length place text))
    else behind_one (encode_utf8 c) (string_from zero place text)))

abbrev pub string_at : Place → Characters → Result Quoted Fault
string_at place text = string_from zero place text
