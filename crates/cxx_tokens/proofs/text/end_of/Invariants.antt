use Rattle.std.proofs.Common.{◌≡◌, ◌≤◌, ◌+◌, chars, length}
use denote.Text.{Utf8}
use denote.Shadow.{shadow}
use Rattle.cxx_tokens.specs.Characters.{after_all, start}
use Rattle.cxx_tokens.proofs.text.end_of.Given as goal

abbrev pub invariant-loop-character : goal.invariant-loop-character
invariant-loop-character l = record {
  utf8 : shadow (Utf8 l.rest);
  same : after_all l.next (chars l.rest) ≡ after_all start (chars l.text);
  line : l.next.line + length (chars l.rest) ≤ 1 + length (chars l.text);
  column : l.next.column + length (chars l.rest) ≤ 1 + length (chars l.text);
}

abbrev pub decreases-loop-character : goal.decreases-loop-character
decreases-loop-character l = length (chars l.rest)
