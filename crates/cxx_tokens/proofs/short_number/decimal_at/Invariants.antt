use Rattle.std.proofs.Common.{◌≡◌, ◌+◌, ◌<◌, ◌≤◌, chars, length, drop, take}
use denote.Text.{Utf8}
use denote.Shadow.{shadow}
use Rattle.cxx_tokens.specs.Characters.{value_in}
use Rattle.cxx_tokens.specs.Literals.{digits_len}
use Rattle.cxx_tokens.proofs.short_number.decimal_at.Given as goal

-- the digits so far, and those of what is left
abbrev pub invariant-loop-c : goal.invariant-loop-c
invariant-loop-c l = record {
  utf8 : shadow (Utf8 l.rest);
  rest : chars l.rest ≡ drop l.length (chars l.text);
  within : l.length ≤ length (chars l.text);
  same : l.length + digits_len 10 (chars l.rest) ≡ digits_len 10 (chars l.text);
  value : l.value ≡ value_in 10 (take l.length (chars l.text));
  small : l.value < 1000000000;
}

abbrev pub decreases-loop-c : goal.decreases-loop-c
decreases-loop-c l = length (chars l.rest)
