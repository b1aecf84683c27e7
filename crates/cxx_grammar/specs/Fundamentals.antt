-- Fundamental types, which are words ([dcl.type.simple]).
use Rattle.std.specs.Prelude.{ℕ, Bool, true, false, if◌then◌else◌, ◌==◌, Option, Some, None}
use Rattle.cxx_base.specs.declared.operator.IntKind.{IntKind}
use Rattle.cxx_base.specs.declared.operator.IntKind.TheVariants as int
use Rattle.cxx_tree.specs.declared.types.Fund.{Fund}
use Rattle.cxx_tree.specs.declared.types.Fund.TheVariants as fund_of
use Rattle.cxx_tokens.specs.declared.token.Tokens.{Tokens}
use Rattle.cxx_tokens.specs.declared.keyword.TheConstants.{VOID, BOOL, CHAR, SHORT, INT, LONG, SIGNED, UNSIGNED}
use Rattle.cxx_reading.specs.Any.{given, any_word}
use Rattle.cxx_reading.specs.Reading.{Rule, ◌>>=◌, ◌>>◌, ◌<|>◌, pure, word, repeated}
use Rattle.cxx_grammar.specs.declared.words.TypeWords.{TypeWords}
use Rattle.cxx_grammar.specs.declared.words.Sign.{Sign}
use Rattle.cxx_grammar.specs.declared.words.Sign.TheVariants as sign
use Rattle.cxx_grammar.specs.declared.words.Width.{Width}
use Rattle.cxx_grammar.specs.declared.words.Width.TheVariants as width

abbrev pub no_words : TypeWords
no_words = record { sign = sign.None; width = width.None; has_int = false }

-- Words may stand together in any order: `short`, `long` or twice `long`, with `int`, with one of `signed` and `unsigned`, of
-- which one or two may be missing; and `char` alone, or behind one of `signed` and `unsigned`. Nothing stands behind `char`.
-- The list that begins at a token is the longest whose words may stand together. Each prefix of such a list is one, but the
-- empty one, so it is read word by word.
abbrev pub with_sign : Sign → Sign → Width → Bool → Option TypeWords
with_sign s sign.None width.Char b = None
with_sign s sign.None w b = Some (record { sign = s; width = w; has_int = b })
with_sign s _ w b = None

abbrev pub with_char : Sign → Width → Bool → Option TypeWords
with_char s width.None false = Some (record { sign = s; width = width.Char; has_int = false })
with_char s _ _ = None

abbrev pub with_short : Sign → Width → Bool → Option TypeWords
with_short s width.None b = Some (record { sign = s; width = width.Short; has_int = b })
with_short s _ b = None

abbrev pub with_long : Sign → Width → Bool → Option TypeWords
with_long s width.None b = Some (record { sign = s; width = width.Long; has_int = b })
with_long s width.Long b = Some (record { sign = s; width = width.LongLong; has_int = b })
with_long s _ b = None

abbrev pub with_int : Sign → Width → Bool → Option TypeWords
with_int s width.Char _ = None
with_int s w false = Some (record { sign = s; width = w; has_int = true })
with_int s w true = None

-- the words with one more behind them, where it may stand with them
abbrev pub with_word : TypeWords → ℕ → Option TypeWords
with_word t n = if n == SIGNED then with_sign sign.Signed t.sign t.width t.has_int
    else (if n == UNSIGNED then with_sign sign.Unsigned t.sign t.width t.has_int
    else (if n == CHAR then with_char t.sign t.width t.has_int
    else (if n == SHORT then with_short t.sign t.width t.has_int
    else (if n == LONG then with_long t.sign t.width t.has_int
    else (if n == INT then with_int t.sign t.width t.has_int else None)))))

-- the type that the words name
abbrev pub kind_named : Sign → Width → IntKind
kind_named sign.None width.Char = int.Char
kind_named sign.Signed width.Char = int.SChar
kind_named sign.Unsigned width.Char = int.UChar
kind_named sign.Unsigned width.Short = int.UShort
kind_named _ width.Short = int.Short
kind_named sign.Unsigned width.None = int.UInt
kind_named _ width.None = int.Int
kind_named sign.Unsigned width.Long = int.ULong
kind_named _ width.Long = int.Long
kind_named sign.Unsigned width.LongLong = int.ULongLong
kind_named _ width.LongLong = int.LongLong

abbrev pub named_by : TypeWords → Fund
named_by t = fund_of.Int (kind_named t.sign t.width)

module _ (tokens : Tokens) where
  unfoldable pub type_word : TypeWords → Rule TypeWords
  type_word before = do
    n ← any_word tokens
    given (with_word before n)

  unfoldable pub more_type_words : TypeWords → Rule TypeWords
  more_type_words = repeated tokens type_word

  unfoldable pub number_type : Rule Fund
  number_type = do
    first ← type_word no_words
    all ← more_type_words first
    pure (named_by all)

  abbrev pub void_type : Rule Fund
  void_type = word tokens VOID >> pure fund_of.Void

  abbrev pub bool_type : Rule Fund
  bool_type = word tokens BOOL >> pure (fund_of.Int int.Bool)

  -- fund : "void" | "bool" | words of char, short, int, long, signed, unsigned
  unfoldable pub fund : Rule Fund
  fund = void_type <|> bool_type <|> number_type
