-- The tokens of a source text: a cut of the whole text into gaps and tokens ([lex.phases], [lex.pptoken]). Nothing here says how a
-- text is read.
use Rattle.std.specs.Prelude.{◌≡◌, ℕ, ◌+◌, ◌<◌, Bool, true, false, ◌&&◌, ◌||◌, not, ◌==◌, if◌then◌else◌, List, [], ◌∷◌, ◌++◌, length, drop, Option, Some, None, option_map, is_some, Result, Ok, Err, codes, encode_utf8_all}
use Rattle.std.specs.Char.{is_ascii_digit}
use Rattle.std.specs.List.{list_all}
use Rattle.std.specs.Str.{is_utf8}
use Rattle.cxx_base.specs.Texts.{Text, number_of, with_text, with_texts}
use Rattle.cxx_base.specs.declared.place.Place.{Place}
use Rattle.cxx_base.specs.declared.code.Code.{Code}
use Rattle.cxx_base.specs.declared.code.Code.TheVariants as code
use Rattle.cxx_tokens.specs.Characters.{Characters, characters_of, after_all, start, is_space, is_in_line, begins_identifier, continues_identifier, begins_with, first_is, backslash, double_quote, line_feed, number_sign, single_quote}
use Rattle.cxx_tokens.specs.Faults.{Fault, L1}
use Rattle.cxx_tokens.specs.Lex.{Lexed, integer_kind, is_short_and_composed, members, names_with_string, reserved, token_from}
use Rattle.cxx_tokens.specs.Literals.{Escape, Integer, Quoted, character_at, escape_at, integer_at, is_line_end, string_at}
use Rattle.cxx_tokens.specs.Munch.{IsLongest}
use Rattle.cxx_tokens.specs.Punctuators.{Punctuator, punctuator_at}
use Rattle.cxx_tokens.specs.SkippedLines.{IsSkipped}
use Rattle.cxx_tokens.specs.declared.token.Token.{Token}
use Rattle.cxx_tokens.specs.declared.token.TokenKind.{TokenKind}
use Rattle.cxx_tokens.specs.declared.token.TokenKind.TheVariants as kind

-- ---- what a token says; a name by its text

pub data Said : Type 0 where
  Named : Text → Said
  Plain : TokenKind → Said
  Quoting : Text → Said

-- a word is one of the list or an identifier, which is no longer than one may be and is in normalization form C
abbrev pub word_by : Text → Option ℕ → Said
word_by text (Some word) = Plain (kind.Word word)
word_by text None = Named text

abbrev pub word_said : Characters → Option Said
word_said word = let text = encode_utf8_all word in if is_short_and_composed word then Some (word_by text (reserved text)) else None

-- what stands behind an integer literal belongs to no word, and some kind holds its value
abbrev pub integer_said : Characters → Integer → Option Said
integer_said text found =
    if first_is continues_identifier (drop found.length text) then None
    else option_map Plain (integer_kind found.decimal found.unsigned found.longs found.value)

abbrev pub character_said : Option Escape → Option Said
character_said found = option_map (λ e. Plain (kind.Character e.byte)) found

abbrev pub string_said : Result Quoted Fault → Option Said
string_said (Ok found) = Some (Quoting found.bytes)
string_said (Err fault) = None

abbrev pub punctuator_said : Option Punctuator → Option Said
punctuator_said found = option_map (λ mark. Plain (kind.Punctuator mark.number)) found

-- what a token says that stands before the rest of a text
unfoldable pub said_of : Characters → Characters → Option Said
said_of [] rest = None
said_of (c ∷ front) rest =
    if begins_identifier c then word_said (c ∷ front)
    else (if is_ascii_digit c then integer_said (c ∷ front ++ rest) (integer_at (c ∷ front ++ rest))
    else (if c == single_quote then character_said (character_at (front ++ rest))
    else (if c == double_quote then string_said (string_at start (front ++ rest))
    else punctuator_said (punctuator_at (c ∷ front ++ rest)))))

-- ---- gaps ([lex.token], [lex.comment])

-- these characters go on to the end of their line and no further
abbrev pub ends_line : Characters → Characters → Bool
ends_line front rest = list_all is_in_line front && is_line_end rest

-- One white-space character; a comment `//` up to the end of its line; a comment that begins with `/*` and ends with `*/`, of which no
-- shorter front ends so; or a line that is skipped, whose `#` is the first token of its line.
pub data IsGap (is_first : Bool) (front rest : Characters) : Type 0 where
  white : (c : ℕ) → front ≡ c ∷ [] → is_space c ≡ true → IsGap is_first front rest
  line : (text : Characters) → front ≡ codes "//" ++ text → ends_line text rest ≡ true → IsGap is_first front rest
  block : (text : Characters) → front ≡ codes "/*" ++ (text ++ codes "*/")
      → ((other behind : Characters) → codes "/*" ++ (other ++ (codes "*/" ++ behind)) ≡ front → behind ≡ []) → IsGap is_first front rest
  skipped : is_first ≡ true → (text : Characters) → front ≡ number_sign ∷ text → IsSkipped text → ends_line text rest ≡ true → IsGap is_first front rest

-- ---- tokens ([lex.pptoken])

-- no gap and no comment begins where it stands, it is the longest front of a form, and it says something
pub record IsToken (is_first : Bool) (front rest : Characters) (said : Said) : Type 0 where
  pub no_gap : (gap behind : Characters) → gap ++ behind ≡ front ++ rest → IsGap is_first gap behind → ⊥
  pub no_comment : begins_with (codes "/*") (front ++ rest) ≡ false
  pub longest : IsLongest (length front) (front ++ rest)
  pub says : said_of front rest ≡ Some said

-- ---- cuts

pub data Span : Type 0 where
  Gap : Characters → Span
  Piece : Characters → Said → Span

abbrev pub characters_in : Span → Characters
characters_in (Gap front) = front
characters_in (Piece front said) = front

abbrev pub joined : List Span → Characters
joined [] = []
joined (span ∷ spans) = characters_in span ++ joined spans

-- the line on which the last token begins, or else the given one
abbrev pub last_line : ℕ → Place → List Span → ℕ
last_line before place [] = before
last_line before place (Gap front ∷ spans) = last_line before (after_all place front) spans
last_line before place (Piece front said ∷ spans) = last_line place.line (after_all place front) spans

-- whether a token that stands behind these spans is the first on its line
abbrev pub is_first_behind : List Span → Bool
is_first_behind spans = not (last_line 0 start spans == (after_all start (joined spans)).line)

-- the span stands behind these and before the rest of the text
abbrev pub Stands : List Span → Span → Characters → Type 0
Stands before (Gap front) rest = IsGap (is_first_behind before) front rest
Stands before (Piece front said) rest = IsToken (is_first_behind before) front rest said

-- The spans cut the text up to the rest: joined they are its characters, and each is a gap or a token at its place.
pub record IsCutUpTo (text : Characters) (spans : List Span) (rest : Characters) : Type 0 where
  pub all : joined spans ++ rest ≡ text
  pub each : (before : List Span) (span : Span) (behind : List Span) → spans ≡ before ++ span ∷ behind → Stands before span (joined behind ++ rest)

abbrev pub IsCut : Characters → List Span → Type 0
IsCut text spans = IsCutUpTo text spans []

-- The cut cannot go on: characters are left, and none of their fronts is a gap or a token.
pub record IsStuck (text : Characters) (spans : List Span) (rest : Characters) : Type 0 where
  pub cut : IsCutUpTo text spans rest
  pub some : 0 < length rest
  pub none : (span : Span) (behind : Characters) → characters_in span ++ behind ≡ rest → Stands spans span behind → ⊥

-- ---- why a cut cannot go on

-- behind a string's first quote: its line ends before another quote, and no escape before is bad
abbrev pub is_open : Characters → Bool
is_open [] = true
is_open (c ∷ []) = not (c == double_quote)
is_open (c ∷ d ∷ text) =
    if c == line_feed then true
    else (if c == backslash then d == line_feed || (is_some (escape_at (d ∷ text)) && is_open text)
    else not (c == double_quote) && is_open (d ∷ text))

-- An identifier that is too long or not in normalization form C is L5, an integer that no kind holds L3, a string or a comment that does
-- not end L4. All else is L2: an integer with more of a word behind it, a string with a bad escape, and what begins nothing.
abbrev pub code_at : Characters → Code
code_at [] = code.L2
code_at (c ∷ text) =
    if begins_identifier c then code.L5
    else (if is_ascii_digit c then (if first_is continues_identifier (drop (integer_at (c ∷ text)).length (c ∷ text)) then code.L2 else code.L3)
    else (if begins_with (codes "/*") (c ∷ text) || (c == double_quote && is_open text) then code.L4 else code.L2))

-- ---- the tokens of a cut

abbrev pub kind_by : List Text → Said → TokenKind
kind_by names (Named text) = kind.Identifier (record { 0 = number_of names text })
kind_by names (Plain kind) = kind
kind_by names (Quoting bytes) = kind.Text bytes

-- an identifier is numbered, and of a string the bytes before its first zero byte where they could be a name
abbrev pub names_by : List Text → Said → List Text
names_by names (Named text) = with_text names text
names_by names (Plain kind) = names
names_by names (Quoting bytes) = names_with_string names bytes

abbrev pub with_token : Token → Lexed → Lexed
with_token token rest = record rest { tokens = token ∷ rest.tokens }

abbrev pub tokens_in : Place → ℕ → List Text → List Span → Lexed
tokens_in place number names [] = record { tokens = []; names = with_texts names members; end = place }
tokens_in place number names (Gap front ∷ spans) = tokens_in (after_all place front) number names spans
tokens_in place number names (Piece front said ∷ spans) =
    with_token (token_from (kind_by names said) place number) (tokens_in (after_all place front) (number + 1) (names_by names said) spans)

-- ---- the source

-- The tokens of a source are those of a cut of its characters. A source without one is refused where the cut cannot go on; and one
-- whose bytes are no characters at the first byte that begins none, whatever stands before.
pub data IsLexed (names : List Text) (bytes : Text) : Result Lexed Fault → Type 0 where
  Cut : (spans : List Span) → is_utf8 bytes ≡ true → IsCut (characters_of bytes) spans → IsLexed names bytes (Ok (tokens_in start 0 names spans))
  Stuck : (spans : List Span) (rest : Characters) → is_utf8 bytes ≡ true → IsStuck (characters_of bytes) spans rest
      → IsLexed names bytes (Err (record { code = code_at rest; place = after_all start (joined spans) }))
  NoCharacters : is_utf8 bytes ≡ false → IsLexed names bytes (Err (L1 (after_all start (characters_of bytes))))

-- There is one cut at most, and one answer.
pub record AreOne : Type 0 where
  pub cuts : (text : Characters) (a b : List Span) → IsCut text a → IsCut text b → a ≡ b
  pub answers : (names : List Text) (bytes : Text) (a b : Result Lexed Fault) → IsLexed names bytes a → IsLexed names bytes b → a ≡ b
