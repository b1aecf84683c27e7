-- Characters, and the classes of them by which a source text is cut. A number is a character's code point.
use Rattle.std.specs.Prelude.{ℕ, ◌+◌, ◌*◌, Bool, false, ◌||◌, not, ◌==◌, nat_lt, if◌then◌else◌, List, [], ◌∷◌, length, take, fold, chars}
use Rattle.std.specs.Char.{digit_value, is_digit}
use Rattle.std.specs.Int.{is_in_range}
use Rattle.std.specs.List.{filter, list_all}
use Rattle.std.specs.Str.{bytes_eq}
use Rattle.std.specs.Str.Lossy.{utf8_valid_len}
use Rattle.cxx_base.specs.Texts.{Text}
use Rattle.cxx_base.specs.declared.place.Place.{Place}
use Rattle.unicode_ident.specs.Ident.{is_xid_start, is_xid_continue}

abbrev pub Characters : Type 0
Characters = List ℕ

-- ---- code points that have a name

abbrev pub line_feed : ℕ
line_feed = 10

abbrev pub double_quote : ℕ
double_quote = 34

abbrev pub number_sign : ℕ
number_sign = 35

abbrev pub single_quote : ℕ
single_quote = 39

abbrev pub star : ℕ
star = 42

abbrev pub slash : ℕ
slash = 47

abbrev pub backslash : ℕ
backslash = 92

abbrev pub low_line : ℕ
low_line = 95

abbrev pub byte_order_mark : ℕ
byte_order_mark = 0xFEFF

-- ---- the source

-- one byte order mark at the start of a text is none of its characters
abbrev pub without_byte_order_mark : Characters → Characters
without_byte_order_mark [] = []
without_byte_order_mark (c ∷ text) = if c == byte_order_mark then text else c ∷ text

-- the characters of the source's longest front that is UTF-8, without a byte order mark
abbrev pub characters_of : Text → Characters
characters_of bytes = without_byte_order_mark (chars (take (utf8_valid_len bytes) bytes))

-- ---- places

-- the place after a character: the next line after a line feed, else the next column
abbrev pub after : Place → ℕ → Place
after place c = if c == line_feed then record { line = place.line + 1; column = 1 } else record { line = place.line; column = place.column + 1 }

abbrev pub after_all : Place → Characters → Place
after_all place text = fold after place text

abbrev pub start : Place
start = record { line = 1; column = 1 }

-- ---- classes of characters

-- white space within a line: the space, the horizontal and the vertical tab, the form feed, the carriage return
abbrev pub is_blank : ℕ → Bool
is_blank c = c == 32 || (c == 9 || is_in_range 11 13 c)

-- white space ([lex.token]); the carriage return is some here
abbrev pub is_space : ℕ → Bool
is_space c = is_blank c || c == line_feed

-- no line feed
abbrev pub is_in_line : ℕ → Bool
is_in_line c = not (c == line_feed)

-- the first character of an identifier, and the others ([lex.name], UAX 31)
abbrev pub begins_identifier : ℕ → Bool
begins_identifier c = is_xid_start c || c == low_line

abbrev pub continues_identifier : ℕ → Bool
continues_identifier c = is_xid_continue c

-- all before the combining marks, which begin at U+0300
abbrev pub is_before_marks : Characters → Bool
is_before_marks text = list_all (λ c. nat_lt c 0x300) text

abbrev pub is_digit_in : ℕ → ℕ → Bool
is_digit_in base c = is_digit c base

-- ---- fronts of texts

-- whether the text begins with these characters
abbrev pub begins_with : Characters → Characters → Bool
begins_with front text = bytes_eq (take (length front) text) front

-- whether the first character is of a class
abbrev pub first_is : (ℕ → Bool) → Characters → Bool
first_is p [] = false
first_is p (c ∷ text) = p c

-- ---- digits

-- the number that the digits of a base mean; what stands between them means nothing
abbrev pub value_in : ℕ → Characters → ℕ
value_in base digits = fold (λ value digit. base * value + digit_value digit) 0 (filter (is_digit_in base) digits)
