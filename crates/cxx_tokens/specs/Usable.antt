-- What users of tokens lean on.
use Rattle.std.specs.Prelude.{◌≡◌, ◌<◌, ◌≤◌, true, ◌&&◌, List, [], ◌∷◌, length, is_some, Ok, All}
use Rattle.std.specs.Str.{is_utf8}
use Rattle.cxx_base.specs.Texts.{Text, has_text}
use Rattle.cxx_base.specs.declared.place.Place.{Place}
use Rattle.int_kinds.specs.Literal.{kind_of_literal}
use Rattle.std.specs.Prelude.{◌⊎◌}
use Rattle.cxx_tokens.specs.Characters.{characters_of}
use Rattle.cxx_tokens.specs.Cutting.{IsLexed}
use Rattle.cxx_tokens.specs.Lex.{Lexed, before_zero, is_name, members}
use Rattle.cxx_tokens.specs.Tables.{punctuators, words}
use Rattle.cxx_tokens.specs.declared.token.Token.{Token}
use Rattle.cxx_tokens.specs.declared.token.TokenKind.{TokenKind}
use Rattle.cxx_tokens.specs.declared.token.TokenKind.TheVariants as kind

-- An identifier has a text among the names, a word and a punctuator have one in their lists, some kind holds an integer, and of a
-- string the bytes before its first zero byte are among the names where they may be a name.
abbrev pub IsKnown : List Text → TokenKind → Type 0
IsKnown names (kind.Identifier name) = name.0 < length names
IsKnown names (kind.Word number) = number < length words
IsKnown names (kind.Punctuator number) = number < length punctuators
IsKnown names (kind.Integer decimal unsigned longs value) = is_some (kind_of_literal decimal unsigned longs value) ≡ true
IsKnown names (kind.Character byte) = Unit {0}
IsKnown names (kind.Text bytes) = (is_utf8 (before_zero bytes) && is_name (before_zero bytes)) ≡ true → has_text names (before_zero bytes) ≡ true

-- one place stands before another in a text
abbrev pub IsBefore : Place → Place → Type 0
IsBefore a b = (a.line < b.line) ⊎ ((a.line ≡ b.line) × (a.column < b.column))

-- each token begins before the next one, and the last before the end
abbrev pub Rise : List Token → Place → Type 0
Rise [] end = Unit {0}
Rise (token ∷ []) end = IsBefore token.span.place end
Rise (token ∷ next ∷ tokens) end = IsBefore token.span.place next.span.place × Rise (next ∷ tokens) end

pub record AreUsable (bytes : Text) (found : Lexed) : Type 0 where
  pub known : All (λ token. IsKnown found.names token.kind) found.tokens
  pub rise : Rise found.tokens found.end
  pub few : length found.tokens ≤ length (characters_of bytes)
  pub members : All (λ text. has_text found.names text ≡ true) members

abbrev pub LexedAreUsable : Type 0
LexedAreUsable = (names : List Text) (bytes : Text) (found : Lexed) → IsLexed names bytes (Ok found) → AreUsable bytes found
