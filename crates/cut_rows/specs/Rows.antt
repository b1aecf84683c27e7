-- The tokens of some texts, and why others have none. What is written here comes from [lex], as the lines beside it say, and not from
-- what reads texts.
use Rattle.std.specs.Prelude.{ℕ, ◌+◌, true, false, List, [], ◌∷◌, ◌++◌, Ok, Err, codes}
use Rattle.cxx_base.specs.Texts.{Text}
use Rattle.cxx_base.specs.declared.place.Place.{Place}
use Rattle.cxx_tokens.specs.Cutting.{IsLexed}
use Rattle.cxx_tokens.specs.Faults.{Fault, L1, L2, L3, L4}
use Rattle.cxx_tokens.specs.Lex.{members, token_from}
use Rattle.cxx_tokens.specs.declared.mark.TheConstants as mark
use Rattle.cxx_tokens.specs.declared.token.Token.{Token}
use Rattle.cxx_tokens.specs.declared.token.TokenKind.{TokenKind}
use Rattle.cxx_tokens.specs.declared.token.TokenKind.TheVariants as kind

-- a token where it begins
abbrev pub Placed : Type 0
Placed = TokenKind × Place

abbrev pub place : ℕ → ℕ → Place
place line column = record { line = line; column = column }

abbrev pub at : TokenKind → ℕ → ℕ → Placed
at kind line column = (kind, place line column)

-- the punctuator of a number
abbrev pub mark_at : ℕ → ℕ → ℕ → Placed
mark_at number line column = at (kind.Punctuator number) line column

-- in order, each with its number
abbrev pub tokens_from : ℕ → List Placed → List Token
tokens_from number [] = []
tokens_from number (token ∷ tokens) = token_from token.0 token.1 number ∷ tokens_from (number + 1) tokens

-- Where no name is there before, the source has these tokens, ends at this place, and gives no name but those of
-- `std::meta::member_offset`.
abbrev pub HasTokens : Text → List Placed → Place → Type 0
HasTokens bytes tokens end = IsLexed [] bytes (Ok (record { tokens = tokens_from 0 tokens; names = members; end = end }))

abbrev pub IsRefused : Text → Fault → Type 0
IsRefused bytes fault = IsLexed [] bytes (Err fault)

-- the bytes of a byte order mark in UTF-8
abbrev pub byte_order : Text
byte_order = 0xEF ∷ 0xBB ∷ 0xBF ∷ []

pub record HaveTheirTokens : Type 0 where
  -- a comment ends at its first `*/`; what is left is no end of another ([lex.comment])
  pub first_end : HasTokens (codes "/*x*/*/") (mark_at mark.STAR 1 6 ∷ mark_at mark.SLASH 1 7 ∷ []) (place 1 8)
  -- the two marks of a comment share no character, so this one does not end
  pub shared_star : IsRefused (codes ";/*/") (L4 (place 1 2))
  -- a comment `//` ends with its line, and the next line is none of it
  pub line_comment : HasTokens (codes "//*;\n;") (mark_at mark.SEMICOLON 2 1 ∷ []) (place 2 2)
  -- the longest front, but that `[::` is `[` and `::` unless a colon follows, where `[:` is the longest again ([lex.pptoken])
  pub two_colons : HasTokens (codes "[::]") (mark_at mark.LEFT_BRACKET 1 1 ∷ mark_at mark.SCOPE 1 2 ∷ mark_at mark.RIGHT_BRACKET 1 4 ∷ []) (place 1 5)
  pub three_colons : HasTokens (codes "[:::]") (mark_at mark.LEFT_SPLICE 1 1 ∷ mark_at mark.SCOPE 1 3 ∷ mark_at mark.RIGHT_BRACKET 1 5 ∷ []) (place 1 6)
  -- `<<<` is no punctuator, so `<<` is the longest front, and `<=` is left
  pub longest : HasTokens (codes "<<<=") (mark_at mark.SHIFT_LEFT 1 1 ∷ mark_at mark.LESS_EQUAL 1 3 ∷ []) (place 1 5)
  -- more of a word stands behind the digits, and no token is as long as both: refused where the number begins
  pub letter_behind : IsRefused (codes ";0x1G") (L2 (place 1 2))
  -- a separator stands between two digits of the base, and means nothing: 0x1F is 31 ([lex.icon])
  pub separated : HasTokens (codes "0x1'f") (at (kind.Integer false false 0 31) 1 1 ∷ []) (place 1 6)
  -- 2^64 - 1 is the largest value of a kind, so that 2^64 is refused
  pub largest : HasTokens (codes "18446744073709551615u") (at (kind.Integer true true 0 18446744073709551615) 1 1 ∷ []) (place 1 22)
  pub too_large : IsRefused (codes "18446744073709551616u") (L3 (place 1 1))
  -- a mark at the start counts in no place, and a second one begins no token
  pub one_mark : HasTokens (byte_order ++ codes ";") (mark_at mark.SEMICOLON 1 1 ∷ []) (place 1 2)
  pub two_marks : IsRefused (byte_order ++ byte_order) (L2 (place 1 1))
  -- the `#` of a skipped line is the first token of its line: a comment before it counts for nothing, a token does
  pub skipped_behind_comment : HasTokens (codes "/* */ # 1 \"a\"\n;") (mark_at mark.SEMICOLON 2 1 ∷ []) (place 2 2)
  pub none_behind_token : IsRefused (codes "; # 1 \"a\"\n;") (L2 (place 1 3))
  -- here the comment ends on a line without a token
  pub skipped_behind_end : HasTokens (codes ";/*\n*/ #1\"b\"2\n;") (mark_at mark.SEMICOLON 1 1 ∷ mark_at mark.SEMICOLON 3 1 ∷ []) (place 3 2)
  -- a string whose line ends is open, unless an escape before is bad ([lex.string])
  pub open_string : IsRefused (codes ";\"a\n\"") (L4 (place 1 2))
  pub bad_escape : IsRefused (codes ";\"\\q\n\"") (L2 (place 1 2))
  -- bytes that are no UTF-8 come before all else, at the first byte that begins no character: `@` begins no token
  pub no_character : IsRefused (codes "@\n@" ++ 0xFF ∷ []) (L1 (place 2 2))
