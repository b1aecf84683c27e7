use Rattle.std.proofs.Common.{◌≡◌, ◌+◌, ◌≤◌, chars, length, drop}
use denote.Text.{Utf8}
use denote.Shadow.{shadow}
use Rattle.cxx_tokens.specs.Literals.{digits_len}
use Rattle.cxx_tokens.proofs.integer.digits.Given as goal

-- the digits so far, and those of what is left
abbrev pub invariant-loop-c : goal.invariant-loop-c
invariant-loop-c l = record {
  utf8 : shadow (Utf8 l.rest);
  rest : chars l.rest ≡ drop l.length (chars l.text);
  within : l.length ≤ length (chars l.text);
  same : l.length + digits_len l.radix (chars l.rest) ≡ digits_len l.radix (chars l.text);
}

abbrev pub decreases-loop-c : goal.decreases-loop-c
decreases-loop-c l = length (chars l.rest)
