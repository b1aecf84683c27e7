use Rattle.std.proofs.Common.{◌≡◌, ◌-◌, ◌≤◌, length}
use Rattle.settle_core.specs.Meant.{reads}
use Rattle.settle_core.specs.Next.{firsts}
use Rattle.settle_core.proofs.folding.play.Given as goal

-- it has taken its first reads
abbrev pub invariant-loop-taken : goal.invariant-loop-taken
invariant-loop-taken g l =
    let m = g.M.Meaning.meant l.meaning in
    record {
      within : length l.taken ≤ length (reads m l.k.0);
      prefix : l.taken ≡ firsts m l.k.0 (length l.taken);
    }

abbrev pub decreases-loop-taken : goal.decreases-loop-taken
decreases-loop-taken g l = length (reads (g.M.Meaning.meant l.meaning) l.k.0) - length l.taken
