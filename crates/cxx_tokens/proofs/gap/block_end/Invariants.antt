use Rattle.std.proofs.Common.{◌≡◌, ◌+◌, ◌≤◌, chars, length, drop}
use denote.Text.{Utf8}
use denote.Shadow.{shadow}
use Rattle.std.specs.Option.{option_map}
use Rattle.cxx_tokens.specs.Gaps as spec
use Rattle.cxx_tokens.proofs.gap.block_end.Given as goal

abbrev pub invariant-loop-c : goal.invariant-loop-c
invariant-loop-c l = record {
  utf8 : shadow (Utf8 l.rest);
  rest : chars l.rest ≡ drop l.length (chars l.text);
  within : l.length ≤ length (chars l.text);
  same : option_map (λ n. l.length + n) (spec.block_len (chars l.rest)) ≡ spec.block_len (chars l.text);
}

abbrev pub decreases-loop-c : goal.decreases-loop-c
decreases-loop-c l = length (chars l.rest)
