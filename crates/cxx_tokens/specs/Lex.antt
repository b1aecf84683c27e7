-- The tokens of a source text, after [lex].
use Rattle.std.specs.Prelude.{ℕ, zero, suc, ◌+◌, ◌-◌, Bool, false, ◌&&◌, not, ◌==◌, nat_lt, if◌then◌else◌, List, [], ◌∷◌, ◌++◌, length, take, drop, Option, Some, None, Result, Ok, Err, chars, codes, encode_utf8_all}
use Rattle.std.specs.Char.{is_ascii_digit}
use Rattle.std.specs.List.{list_all, position_from, prefix_len}
use Rattle.std.specs.Option.{is_none, is_some}
use Rattle.std.specs.Str.{bytes_eq, is_utf8}
use Rattle.cxx_base.specs.Texts.{Text, number_of, with_text, with_texts}
use Rattle.cxx_base.specs.declared.limits.TheConstants.{MAX_IDENTIFIER}
use Rattle.cxx_base.specs.declared.place.Place.{Place}
use Rattle.int_kinds.specs.Literal.{kind_of_literal}
use Rattle.unicode_normalization.specs.Forms.{is_in_form}
use Rattle.ucd_normal.specs.declared.forms.Form.TheVariants.{Nfc}
use Rattle.cxx_tokens.specs.Characters.{Characters, characters_of, after, after_all, start, begins_identifier, continues_identifier, first_is}
use Rattle.cxx_tokens.specs.Gaps.{gap_at}
use Rattle.cxx_tokens.specs.Literals.{Integer, integer_at, Escape, character_at, string_at}
use Rattle.cxx_tokens.specs.Punctuators.{Punctuator, punctuator_at}
use Rattle.cxx_tokens.specs.Tables.{words}
use Rattle.cxx_tokens.specs.Faults.{Fault, L1, L2, L3, L5}
use Rattle.cxx_tokens.specs.declared.token.Token.{Token}
use Rattle.cxx_tokens.specs.declared.token.TokenKind.{TokenKind}
use Rattle.cxx_tokens.specs.declared.token.TokenKind.TheVariants as kind

infixl 10 ◌>>=◌
abbrev pub ◌>>=◌ : {A B : Type 0} → Result A Fault → (A → Result B Fault) → Result B Fault
(Ok x) >>= f = f x
(Err fault) >>= f = Err fault

-- ---- tokens

-- what a token is, how many characters it has, and the names with it
pub record Found : Type 0 where
  pub kind : TokenKind
  pub length : ℕ
  pub names : List Text

-- ---- words ([lex.name], [lex.key])

-- a beginning and all the characters that continue it
abbrev pub word_len : Characters → ℕ
word_len [] = 0
word_len (c ∷ text) = 1 + prefix_len continues_identifier text

-- no more bytes than an identifier may have, and in normalization form C
abbrev pub is_short_and_composed : Characters → Bool
is_short_and_composed word = not (nat_lt MAX_IDENTIFIER (length (encode_utf8_all word))) && is_in_form Nfc word

-- the place of a word in the list of those that are never identifiers
unfoldable pub reserved : Text → Option ℕ
reserved text = position_from (λ word. bytes_eq word text) 0 words

abbrev pub word_kind : List Text → Text → Option ℕ → TokenKind
word_kind names text (Some word) = kind.Word word
word_kind names text None = kind.Identifier (record { 0 = number_of names text })

abbrev pub names_with_word : List Text → Text → Option ℕ → List Text
names_with_word names text (Some word) = names
names_with_word names text None = with_text names text

-- a word is one of the list, or an identifier, which is numbered
abbrev pub word_token : Place → List Text → Characters → Result Found Fault
word_token place names word =
    let text = encode_utf8_all word in
    if is_short_and_composed word
    then Ok (record { kind = word_kind names text (reserved text); length = length word; names = names_with_word names text (reserved text) })
    else Err (L5 place)

-- ---- literals

-- an integer that some kind holds
abbrev pub integer_kind : Bool → Bool → ℕ → ℕ → Option TokenKind
integer_kind decimal unsigned longs value =
    if is_some (kind_of_literal decimal unsigned longs value) then Some (kind.Integer decimal unsigned longs value) else None

abbrev pub kind_or_too_large : Place → List Text → ℕ → Option TokenKind → Result Found Fault
kind_or_too_large place names length None = Err (L3 place)
kind_or_too_large place names length (Some kind) = Ok (record { kind = kind; length = length; names = names })

-- no digit and no other character of an identifier follows a number, and some kind holds its value
abbrev pub integer_token : Place → List Text → Characters → Integer → Result Found Fault
integer_token place names text found =
    if first_is continues_identifier (drop found.length text) then Err (L2 place)
    else kind_or_too_large place names found.length (integer_kind found.decimal found.unsigned found.longs found.value)

abbrev pub character_token : Place → List Text → Option Escape → Result Found Fault
character_token place names None = Err (L2 place)
character_token place names (Some found) = Ok (record { kind = kind.Character found.byte; length = 1 + found.length; names = names })

abbrev pub is_identifier : Characters → Bool
is_identifier [] = false
is_identifier (c ∷ text) = begins_identifier c && list_all continues_identifier text

-- the bytes before the first zero byte
abbrev pub before_zero : Text → Text
before_zero bytes = take (prefix_len (λ byte. not (byte == 0)) bytes) bytes

-- a text that may be a name: of the form of an identifier, no longer than one may be, in normalization form C, and no reserved word
abbrev pub is_name : Text → Bool
is_name text = is_identifier (chars text) && (is_none (reserved text) && is_short_and_composed (chars text))

-- a string may name a member that is injected, so its bytes before the first zero byte are numbered where they may be a name
abbrev pub names_with_string : List Text → Text → List Text
names_with_string names bytes = let front = before_zero bytes in if is_utf8 front && is_name front then with_text names front else names

-- the string whose first quote stands before the text
abbrev pub string_token : Place → List Text → Characters → Result Found Fault
string_token place names text =
    string_at place text >>= λ found. Ok (record { kind = kind.Text found.bytes; length = 1 + found.length; names = names_with_string names found.bytes })

-- ---- punctuators

abbrev pub punctuator_token : Place → List Text → Option Punctuator → Result Found Fault
punctuator_token place names None = Err (L2 place)
punctuator_token place names (Some mark) = Ok (record { kind = kind.Punctuator mark.number; length = mark.length; names = names })

-- the token at the front of a text: its first character tells which kind it is of, and it goes on as far as that kind does
unfoldable pub token_at : Place → List Text → Characters → Result Found Fault
token_at place names [] = Err (L2 place)
token_at place names (c ∷ text) =
    if begins_identifier c then word_token place names (take (word_len (c ∷ text)) (c ∷ text))
    else (if is_ascii_digit c then integer_token place names (c ∷ text) (integer_at (c ∷ text))
    else (if c == 39 then character_token place names (character_at text)
    else (if c == 34 then string_token place names text
    else punctuator_token place names (punctuator_at (c ∷ text)))))

-- ---- the text

pub record Lexed : Type 0 where
  pub tokens : List Token
  pub names : List Text
  pub end : Place

abbrev pub token_from : TokenKind → Place → ℕ → Token
token_from kind place number = record { kind = kind; span = record { place = place; first = number; end = number + 1 } }

-- these tokens, and then those of the rest
abbrev pub behind : List Token → Result Lexed Fault → Result Lexed Fault
behind tokens rest = rest >>= λ found. Ok (record found { tokens = tokens ++ found.tokens })

-- the members of `std::meta::member_offset`, which are numbered last
abbrev pub members : List Text
members = codes "bytes" ∷ codes "bits" ∷ []

abbrev pub gap_or : {A : Type 0} → Option ℕ → (ℕ → A) → A → A
gap_or None skip otherwise = otherwise
gap_or (Some n) skip otherwise = skip n

-- A text is cut from its start to its end: a gap where one begins, else a token. `left` counts the characters that are left of
-- the gap or token before, `last` is the line of the token before, and 0 before the first; `number` counts the tokens so far.
abbrev pub lex_from : ℕ → Place → ℕ → ℕ → List Text → Characters → Result Lexed Fault
lex_from left place last number names [] = Ok (record { tokens = []; names = with_texts names members; end = place })
lex_from (suc left) place last number names (c ∷ text) = lex_from left (after place c) last number names text
lex_from zero place last number names (c ∷ text) =
    gap_at place (not (last == place.line)) (c ∷ text) >>= λ gap. gap_or gap
    (λ n. lex_from (n - 1) (after place c) last number names text)
    (token_at place names (c ∷ text) >>= λ found. behind (token_from found.kind place number ∷ [])
    (lex_from (found.length - 1) (after place c) place.line (number + 1) found.names text))

-- the tokens of the characters, over the names that are there before
abbrev pub lex_characters : List Text → Characters → Result Lexed Fault
lex_characters names text = lex_from 0 start 0 0 names text

-- the tokens of a source; one whose bytes are no characters is refused L1 at the first byte that begins none
unfoldable pub lex : List Text → Text → Result Lexed Fault
lex names bytes =
    if is_utf8 bytes then lex_characters names (characters_of bytes) else Err (L1 (after_all start (characters_of bytes)))
