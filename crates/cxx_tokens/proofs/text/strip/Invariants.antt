use Rattle.std.proofs.Common.{◌≡◌, ◌≤◌, length, chars, drop}
use denote.Text.{Utf8}
use denote.Shadow.{shadow}
use Rattle.cxx_tokens.specs.Characters.{begins_with}
use Rattle.cxx_tokens.proofs.text.strip.Given as goal

abbrev pub invariant-loop-byte : goal.invariant-loop-byte
invariant-loop-byte l = record {
  utf8 : shadow (Utf8 l.rest);
  rest : chars l.rest ≡ drop l.byte-index (chars l.text);
  within : l.byte-index ≤ length (chars l.text);
  same : begins_with (drop l.byte-index l.front) (chars l.rest) ≡ begins_with l.front (chars l.text);
}
