-- A turn of the lexer's loop.
use Rattle.std.specs.Prelude.{◌≡◌, ◌≢◌, ◌==◌, ℕ, ◌<◌, false, not, List, length, chars, Option, Some, None, Result, Ok, Err}
use Rattle.std.specs.Char.{is_ascii_digit}
use Rattle.std.specs.Borrow.{Bor}
use Rattle.cxx_base.specs.Texts.{Text}
use Rattle.cxx_tokens.specs.Characters.{Characters, begins_identifier}
use Rattle.cxx_tokens.specs.Faults.{Fault}
use Rattle.cxx_tokens.specs.Gaps.{gap_at}
use Rattle.cxx_tokens.specs.Gives.{Fails}
use Rattle.cxx_tokens.specs.Lex.{Lexed, lex_from, behind}
use Rattle.cxx_tokens.specs.declared.fault.LexFault.{LexFault}
use Rattle.cxx_tokens.specs.declared.lexing.Position.{Position}
use Rattle.cxx_tokens.specs.declared.token.Token.{Token}

-- the tokens so far, and then those of the rest of the text
abbrev pub lexed_on : List Token → Position → List Text → Characters → Result Lexed Fault
lexed_on tokens at names text = behind tokens (lex_from 0 at.place at.last (length tokens) names text)

-- what a turn leaves of the text
abbrev pub Goes : Result (Bor Text) LexFault → Result Lexed Fault → (Characters → Result Lexed Fault) → Type 0
Goes (Ok rest) before after = before ≡ after (chars rest.now)
Goes (Err fault) before after = Fails fault before

-- the same of a pass, which leaves to others what it does not tell
abbrev pub Passes : Option (Bor Text) → Result Lexed Fault → (Characters → Result Lexed Fault) → Type 0
Passes (Some rest) before after = before ≡ after (chars rest.now)
Passes None before after = Unit {0}

-- the gap that begins here, if one does
abbrev pub next_gap : Position → Characters → Result (Option ℕ) Fault
next_gap at text = gap_at at.place (not (at.last == at.place.line)) text

-- a character with which neither a gap, a comment, a word nor a literal begins
pub record IsMark (c : ℕ) : Type 0 where
  pub no_space : 32 < c
  pub no_word : begins_identifier c ≡ false
  pub no_digit : is_ascii_digit c ≡ false
  pub no_string : c ≢ 34
  pub no_line : c ≢ 35
  pub no_character : c ≢ 39
  pub no_comment : c ≢ 47
