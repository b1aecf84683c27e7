use Rattle.std.proofs.Common.{◌≡◌, ◌+◌, ◌≤◌, chars, length}
use denote.Text.{Utf8}
use denote.Shadow.{shadow}
use Rattle.cxx_tokens.specs.Gives.{Keeps}
use Rattle.cxx_tokens.specs.Lex.{lex_characters}
use Rattle.cxx_tokens.specs.Turns.{lexed_on}
use Rattle.cxx_tokens.proofs.lexing.tokens_of.Given as goal

-- the tokens so far and those of the rest are those of the text
abbrev pub invariant-loop-rest : goal.invariant-loop-rest
invariant-loop-rest l = record {
  utf8 : shadow (Utf8 l.rest);
  same : lexed_on l.list.items l.at l.names (chars l.rest) ≡ lex_characters l.fn.names (chars l.text);
  kept : Keeps l.fn.names l.names;
  few : length l.names + length (chars l.rest) ≤ length l.fn.names + length (chars l.text);
  short : length l.list.items + length (chars l.rest) ≤ length (chars l.text);
  line : l.at.place.line + length (chars l.rest) ≤ 1 + length (chars l.text);
  column : l.at.place.column + length (chars l.rest) ≤ 1 + length (chars l.text);
}

abbrev pub decreases-loop-rest : goal.decreases-loop-rest
decreases-loop-rest l = length (chars l.rest)
