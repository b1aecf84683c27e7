use Rattle.std.proofs.Common.{◌≡◌, ◌^◌, min, chars, take, drop}
use denote.Text.{Utf8}
use denote.Shadow.{shadow}
use Rattle.cxx_tokens.specs.Characters.{value_in}
use Rattle.cxx_tokens.proofs.value.value_in.Given as goal

abbrev pub invariant-loop-passed : goal.invariant-loop-passed
invariant-loop-passed l = record {
  utf8 : shadow (Utf8 l.rest);
  rest : chars l.rest ≡ drop l._passed (chars l.text);
  value : l.value ≡ min (value_in l.radix (take l._passed (chars l.text))) (2 ^ 64);
}
