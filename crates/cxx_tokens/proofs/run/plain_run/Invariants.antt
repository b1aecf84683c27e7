use Rattle.std.proofs.Common.{◌≡◌, ◌+◌, ◌-◌, ◌≤◌, drop, length}
use Rattle.std.specs.List.{prefix_len}
use Rattle.cxx_tokens.specs.Cuts.{is_ascii_in}
use Rattle.cxx_tokens.specs.declared.run.Class.TheVariants.{Plain}
use Rattle.cxx_tokens.proofs.run.plain_run.Given as goal

abbrev pub invariant-loop-end : goal.invariant-loop-end
invariant-loop-end l = record {
  same : l.end + prefix_len (is_ascii_in Plain) (drop l.end l.bytes) ≡ prefix_len (is_ascii_in Plain) l.bytes;
  within : l.end ≤ length l.bytes;
}

abbrev pub decreases-loop-end : goal.decreases-loop-end
decreases-loop-end l = length l.bytes - l.end
