use Rattle.std.proofs.Common.{◌≡◌, ◌≤◌, chars, length, drop}
use denote.Text.{Utf8}
use denote.Shadow.{shadow}
use Rattle.cxx_tokens.specs.Literals.{string_from}
use Rattle.cxx_tokens.proofs.Literals.{put_before}
use Rattle.cxx_tokens.proofs.quoted.string_at.Given as goal

-- what was read, before what is left
abbrev pub invariant-loop-c : goal.invariant-loop-c
invariant-loop-c l = record {
  utf8 : shadow (Utf8 l.rest);
  rest : chars l.rest ≡ drop l.length (chars l.text);
  within : l.length ≤ length (chars l.text);
  same : put_before l.length l.bytes (string_from 0 l.place (chars l.rest)) ≡ string_from 0 l.place (chars l.text);
}

abbrev pub decreases-loop-c : goal.decreases-loop-c
decreases-loop-c l = length (chars l.rest)
