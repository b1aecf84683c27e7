-- The forms of tokens, as whole texts, by the grammar of [lex], and which front of a text is the longest of a form ([lex.pptoken]).
-- The forms are those that this language takes. None of them cites the scans by which a token is found.
use Rattle.std.specs.Prelude.{◌≡◌, ℕ, ◌<◌, ◌≤◌, Bool, true, false, ◌&&◌, ◌||◌, not, ◌==◌, nat_le, if◌then◌else◌, List, [], ◌∷◌, length, take, drop, Ok, codes}
use Rattle.std.specs.List.{list_any}
use Rattle.std.specs.Option.{is_some}
use Rattle.std.specs.Str.{bytes_eq}
use Rattle.cxx_base.specs.Texts.{Text}
use Rattle.cxx_base.specs.declared.place.Place.{Place}
use Rattle.cxx_tokens.specs.Characters.{Characters, is_digit_in, begins_with, first_is, backslash, double_quote, line_feed, single_quote}
use Rattle.cxx_tokens.specs.Gaps.{is_empty}
use Rattle.cxx_tokens.specs.Lex.{Found, is_identifier, token_at}
use Rattle.cxx_tokens.specs.Literals.{simple_escape}
use Rattle.cxx_tokens.specs.Punctuators.{is_bracket_and_scope}
use Rattle.cxx_tokens.specs.Tables.{punctuators}

abbrev pub is_listed : List Text → Characters → Bool
is_listed texts text = list_any (λ listed. bytes_eq text listed) texts

-- ---- integers ([lex.icon])

abbrev pub suffixes : List Text
suffixes =
    [] ∷ codes "u" ∷ codes "U" ∷ codes "l" ∷ codes "L" ∷ codes "ll" ∷ codes "LL" ∷
    codes "ul" ∷ codes "uL" ∷ codes "ull" ∷ codes "uLL" ∷ codes "Ul" ∷ codes "UL" ∷ codes "Ull" ∷ codes "ULL" ∷
    codes "lu" ∷ codes "lU" ∷ codes "Lu" ∷ codes "LU" ∷ codes "llu" ∷ codes "llU" ∷ codes "LLu" ∷ codes "LLU" ∷ []

-- a digit, and then a suffix, or more of the number, before which a single quote may stand
abbrev pub is_number : ℕ → Characters → Bool
is_number base [] = false
is_number base (c ∷ []) = is_digit_in base c
is_number base (c ∷ d ∷ text) =
    is_digit_in base c && (is_listed suffixes (d ∷ text) || (is_number base (d ∷ text) || (d == single_quote && is_number base text)))

abbrev pub is_integer : Characters → Bool
is_integer text =
    if begins_with (codes "0x") text then is_number 16 (drop 2 text) else (if begins_with (codes "0b") text then is_number 2 (drop 2 text)
    else (if begins_with (codes "0") text then is_number 8 text else is_number 10 text))

-- ---- characters ([lex.ccon])

-- digits, and the single quote that ends the text
abbrev pub is_closed : ℕ → Characters → Bool
is_closed base [] = false
is_closed base (c ∷ text) = if c == single_quote then is_empty text else is_digit_in base c && is_closed base text

-- behind a backslash: one to three octal digits, or `x` and hexadecimal digits, or one character; and the quote
abbrev pub is_escape_closed : Characters → Bool
is_escape_closed [] = false
is_escape_closed (c ∷ text) =
    if is_digit_in 8 c then nat_le (length text) 3 && is_closed 8 text
    else (if c == 120 then first_is (is_digit_in 16) text && is_closed 16 text
    else is_some (simple_escape c) && bytes_eq text (codes "'"))

abbrev pub is_character_closed : Characters → Bool
is_character_closed [] = false
is_character_closed (c ∷ text) =
    if c == backslash then is_escape_closed text else not (c == single_quote || c == line_feed) && bytes_eq text (codes "'")

abbrev pub is_character : Characters → Bool
is_character [] = false
is_character (c ∷ text) = c == single_quote && is_character_closed text

-- ---- strings ([lex.string])

-- what an escape begins with; the digits that go on with it are as other characters
abbrev pub begins_escape : Characters → Bool
begins_escape [] = false
begins_escape (c ∷ text) = is_digit_in 8 c || ((c == 120 && first_is (is_digit_in 16) text) || is_some (simple_escape c))

-- characters and escapes, and the quote that ends the text
abbrev pub is_string_closed : Characters → Bool
is_string_closed [] = false
is_string_closed (c ∷ []) = c == double_quote
is_string_closed (c ∷ d ∷ text) =
    if c == backslash then begins_escape (d ∷ text) && is_string_closed text
    else not (c == double_quote || c == line_feed) && is_string_closed (d ∷ text)

abbrev pub is_string : Characters → Bool
is_string [] = false
is_string (c ∷ text) = c == double_quote && is_string_closed text

-- ---- tokens

abbrev pub is_form : Characters → Bool
is_form text = is_identifier text || (is_integer text || (is_character text || (is_string text || is_listed punctuators text)))

-- The text has so many characters, these are of a form, and no longer front of the text is; but where `[::` stands and no
-- further colon, the front is `[`.
pub record IsLongest (n : ℕ) (text : Characters) : Type 0 where
  pub within : n ≤ length text
  pub form : is_form (take n text) ≡ true
  pub longest : is_bracket_and_scope text ≡ false → (m : ℕ) → n < m → m ≤ length text → is_form (take m text) ≡ false
  pub bracket : is_bracket_and_scope text ≡ true → n ≡ 1

-- the token that is found at the front of a text is the longest there
abbrev pub LongestAtItsPlace : Type 0
LongestAtItsPlace = (place : Place) (names : List Text) (text : Characters) (found : Found) → token_at place names text ≡ Ok found → IsLongest found.length text
