use Rattle.std.proofs.Common.{◌≡◌, ◌+◌, ◌-◌, ◌≤◌, chars, length, drop}
use denote.Text.{Utf8}
use denote.Shadow.{shadow}
use Rattle.std.specs.List.{prefix_len}
use Rattle.cxx_tokens.specs.Cuts.{class_test}
use Rattle.cxx_tokens.proofs.run.run_of_at_most.Given as goal

-- the run so far, and the run of what is left
abbrev pub invariant-loop-length : goal.invariant-loop-length
invariant-loop-length l = record {
  utf8 : shadow (Utf8 l.rest);
  rest : chars l.rest ≡ drop l.length (chars l.text);
  within : l.length ≤ length (chars l.text);
  few : l.length ≤ l.most;
  same : l.length + prefix_len (class_test l.class) (chars l.rest) ≡ prefix_len (class_test l.class) (chars l.text);
}

abbrev pub decreases-loop-length : goal.decreases-loop-length
decreases-loop-length l = l.most - l.length
