-- What the functions that scan a text show of it, and the classes of characters that they run over.
use Rattle.std.specs.Prelude.{◌≡◌, ◌≤◌, ◌+◌, ◌-◌, ℕ, Bool, ◌&&◌, ◌==◌, not, nat_lt, min, ◌^◌, true, length, take, drop, chars, Option, None, Some, option_map, Result, Ok, Err}
use Rattle.std.specs.Char.{is_ascii_digit}
use Rattle.std.specs.List.{list_all}
use Rattle.cxx_base.specs.Texts.{Text}
use Rattle.cxx_base.specs.declared.place.Place.{Place}
use Rattle.cxx_tokens.specs.Faults.{Fault, L4}
use Rattle.cxx_tokens.specs.Characters.{is_blank, is_in_line, continues_identifier, is_digit_in, double_quote, backslash, line_feed}
use Rattle.cxx_tokens.specs.Gaps.{is_no_quote}
use Rattle.cxx_tokens.specs.Punctuators.{Punctuator}
use Rattle.cxx_tokens.specs.declared.punctuator.Punctuator.{Punctuator as KeptPunctuator}
use Rattle.cxx_tokens.specs.declared.run.Class.{Class}
use Rattle.cxx_tokens.specs.declared.run.Class.TheVariants.{Continuing, Blank, InLine as NoLineFeed, NoQuote, Plain, Digit, Octal, Hexadecimal}
use Rattle.cxx_tokens.specs.Literals.{Suffix, Integer, Escape}
use Rattle.cxx_tokens.specs.declared.escape.Escape.{Escape as KeptEscape}
use Rattle.cxx_tokens.specs.declared.gap.Gap.{Gap}
use Rattle.cxx_tokens.specs.declared.gap.Gap.TheVariants.{Absent, InLine, Block, Unended}
use Rattle.cxx_tokens.specs.declared.integer.Suffix.{Suffix as KeptSuffix}
use Rattle.cxx_tokens.specs.declared.integer.Integer.{Integer as KeptInteger}
use Rattle.cxx_tokens.specs.declared.text.Cut.{Cut}

-- the text is cut behind so many of its characters
pub record IsCut (text : Text) (cut : Cut) : Type 0 where
  pub rest : chars cut.rest.now ≡ drop cut.length (chars text)
  pub within : cut.length ≤ length (chars text)

-- the same, counted from one character before the text
pub record IsCutBehindOne (text : Text) (cut : Cut) : Type 0 where
  pub rest : chars cut.rest.now ≡ drop (cut.length - 1) (chars text)
  pub some : 1 ≤ cut.length
  pub within : cut.length ≤ 1 + length (chars text)

abbrev pub length_of : Option Cut → Option ℕ
length_of None = None
length_of (Some cut) = Some cut.length

-- what is found of a gap at a place
abbrev pub seen_gap : Place → Gap → Result (Option ℕ) Fault
seen_gap place Absent = Ok None
seen_gap place (InLine cut) = Ok (Some cut.length)
seen_gap place (Block cut) = Ok (Some cut.length)
seen_gap place Unended = Err (L4 place)

-- what has no line feed, where the gap is said to have none
abbrev pub IsFlat : Text → Gap → Type 0
IsFlat text Absent = Unit {0}
IsFlat text (InLine cut) = list_all is_in_line (take cut.length (chars text)) ≡ true
IsFlat text (Block cut) = Unit {0}
IsFlat text Unended = Unit {0}

-- the same, counted from one character before the text
abbrev pub IsFlatBehindOne : Text → Gap → Type 0
IsFlatBehindOne text Absent = Unit {0}
IsFlatBehindOne text (InLine cut) = list_all is_in_line (take (cut.length - 1) (chars text)) ≡ true
IsFlatBehindOne text (Block cut) = Unit {0}
IsFlatBehindOne text Unended = Unit {0}

abbrev pub IfPassed : (Cut → Type 0) → Gap → Type 0
IfPassed P Absent = Unit {0}
IfPassed P (InLine cut) = P cut
IfPassed P (Block cut) = P cut
IfPassed P Unended = Unit {0}

-- what stands for itself in a string
abbrev pub is_plain_in_string : ℕ → Bool
is_plain_in_string c = not (c == double_quote) && (not (c == backslash) && not (c == line_feed))

abbrev pub class_test : Class → ℕ → Bool
class_test Continuing = continues_identifier
class_test Blank = is_blank
class_test NoLineFeed = is_in_line
class_test NoQuote = is_no_quote
class_test Plain = is_plain_in_string
class_test Digit = is_ascii_digit
class_test Octal = is_digit_in 8
class_test Hexadecimal = is_digit_in 16

-- an ASCII character of a class
abbrev pub is_ascii_in : Class → ℕ → Bool
is_ascii_in class c = nat_lt c 128 && class_test class c

-- what is kept of integers: a value of 2^64 stands for each that is not smaller
abbrev pub IsRadix : ℕ → Type 0
IsRadix radix = (2 ≤ radix) × (radix ≤ 16)

abbrev pub seen_suffix : KeptSuffix → Suffix
seen_suffix found = record { length = found.cut.length; unsigned = found.unsigned; longs = found.longs }

abbrev pub seen_integer : KeptInteger → Integer
seen_integer found = record { length = found.cut.length; decimal = found.decimal; unsigned = found.unsigned; longs = found.longs; value = found.value }

abbrev pub capped : Integer → Integer
capped found = record found { value = min found.value (2 ^ 64) }

abbrev pub seen_escape : Option KeptEscape → Option Escape
seen_escape None = None
seen_escape (Some found) = Some (record { length = found.cut.length; byte = found.byte })

abbrev pub seen_punctuator : KeptPunctuator → Punctuator
seen_punctuator found = record { number = found.number; length = found.cut.length }

abbrev pub seen_punctuators : Option KeptPunctuator → Option Punctuator
seen_punctuators found = option_map seen_punctuator found
