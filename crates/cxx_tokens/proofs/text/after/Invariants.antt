use Rattle.std.proofs.Common.{◌≡◌, ◌≤◌, ◌+◌, chars, take, drop}
use denote.Text.{Utf8}
use denote.Shadow.{shadow}
use Rattle.cxx_tokens.specs.Characters.{after_all}
use Rattle.cxx_tokens.proofs.text.after.Given as goal

abbrev pub invariant-loop-passed : goal.invariant-loop-passed
invariant-loop-passed l = record {
  utf8 : shadow (Utf8 l.rest);
  rest : chars l.rest ≡ drop l._passed (chars l.text);
  place : l.next ≡ after_all l.fn.place (take l._passed (chars l.text));
  line : l.next.line ≤ l.fn.place.line + l._passed;
  column : l.next.column ≤ l.fn.place.column + l._passed;
}
