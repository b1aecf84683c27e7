-- What stands between tokens: white space, comments, and the lines that a preprocessor leaves.
use Rattle.std.specs.Prelude.{ℕ, ◌+◌, Bool, true, false, ◌&&◌, ◌||◌, not, ◌==◌, nat_lt, if◌then◌else◌, [], ◌∷◌, length, take, drop, Option, Some, None, option_map, Result, Ok, Err, codes}
use Rattle.std.specs.Char.{is_ascii_digit}
use Rattle.std.specs.List.{prefix_len, list_all}
use Rattle.cxx_base.specs.declared.place.Place.{Place}
use Rattle.cxx_tokens.specs.Characters.{Characters, is_blank, is_space, is_in_line, begins_with, first_is, double_quote, number_sign, slash, star}
use Rattle.cxx_tokens.specs.Faults.{Fault, L4}

-- ---- comments ([lex.comment])

-- how many characters there are to the first `*/`, and with it
abbrev pub block_len : Characters → Option ℕ
block_len [] = None
block_len (c ∷ text) = if c == star && first_is (λ d. d == slash) text then Some 2 else option_map (λ n. 1 + n) (block_len text)

abbrev pub ended : Place → Option ℕ → Result (Option ℕ) Fault
ended place None = Err (L4 place)
ended place (Some n) = Ok (Some (2 + n))

-- Behind a slash: whether it begins a comment, and how many characters that has. A comment `//` ends before the line feed,
-- one of `/*` with the first `*/` behind it.
abbrev pub comment_at : Place → Characters → Result (Option ℕ) Fault
comment_at place [] = Ok None
comment_at place (c ∷ text) =
    if c == slash then Ok (Some (2 + prefix_len is_in_line text)) else (if c == star then ended place (block_len text) else Ok None)

-- ---- skipped lines

-- the text behind its longest run of a class
abbrev pub past : (ℕ → Bool) → Characters → Characters
past p text = drop (prefix_len p text) text

abbrev pub is_empty : Characters → Bool
is_empty [] = true
is_empty (c ∷ text) = false

abbrev pub is_no_quote : ℕ → Bool
is_no_quote c = not (c == double_quote)

-- digits and blanks alone
abbrev pub is_flags : Characters → Bool
is_flags text = list_all (λ c. is_blank c || is_ascii_digit c) text

-- behind one character, which is the quote that ends a text: digits and blanks alone
abbrev pub is_end_of_marker : Characters → Bool
is_end_of_marker [] = false
is_end_of_marker (c ∷ text) = is_flags text

-- a text in quotes, and then digits and blanks alone
abbrev pub has_file_name : Characters → Bool
has_file_name [] = false
has_file_name (c ∷ text) = c == double_quote && is_end_of_marker (past is_no_quote text)

-- what a preprocessor writes of a line's origin: a number, a text in quotes, and numbers
abbrev pub is_marker : Characters → Bool
is_marker text = nat_lt 0 (prefix_len is_ascii_digit text) && has_file_name (past is_blank (past is_ascii_digit text))

-- `<meta>`, and then blanks alone
abbrev pub is_header : Characters → Bool
is_header text = begins_with (codes "<meta>") text && is_empty (past is_blank (drop (length (codes "<meta>")) text))

-- `include`, `<meta>`, and blanks between and after or none
abbrev pub is_include : Characters → Bool
is_include text = begins_with (codes "include") text && is_header (past is_blank (drop (length (codes "include")) text))

-- what follows the `#` of a line that is skipped, as `SkippedLines` says it; blanks may stand between the parts, and none has to
abbrev pub is_skipped : Characters → Bool
is_skipped line = let text = past is_blank line in is_marker text || is_include text

-- behind a `#`: how many characters the line has with it, where it is skipped
abbrev pub skipped_len : Characters → Option ℕ
skipped_len text = let n = prefix_len is_in_line text in if is_skipped (take n text) then Some (1 + n) else None

-- ---- gaps

-- Whether a gap begins here, and how many characters it has: one white-space character, a comment, or a
-- line that is skipped, of which the `#` has to be the first token.
abbrev pub gap_at : Place → Bool → Characters → Result (Option ℕ) Fault
gap_at place is_first [] = Ok None
gap_at place is_first (c ∷ text) =
    if is_space c then Ok (Some 1)
    else (if c == slash then comment_at place text
    else (if c == number_sign && is_first then Ok (skipped_len text) else Ok None))
