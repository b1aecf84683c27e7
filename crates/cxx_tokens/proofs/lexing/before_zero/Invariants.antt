use Rattle.std.proofs.Common.{◌≡◌, ◌==◌, ◌+◌, ◌-◌, ◌≤◌, not, drop, length}
use Rattle.std.specs.List.{prefix_len}
use Rattle.cxx_tokens.proofs.lexing.before_zero.Given as goal

abbrev pub invariant-loop-end : goal.invariant-loop-end
invariant-loop-end l = record {
  same : l.end + prefix_len (λ byte. not (byte == 0)) (drop l.end l.bytes) ≡ prefix_len (λ byte. not (byte == 0)) l.bytes;
  within : l.end ≤ length l.bytes;
}

abbrev pub decreases-loop-end : goal.decreases-loop-end
decreases-loop-end l = length l.bytes - l.end
