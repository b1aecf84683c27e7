use Rattle.std.proofs.Common.{◌≡◌, length}
use Rattle.board_bench.proofs.plans_for.Given as goal

abbrev pub invariant-loop-i : goal.invariant-loop-i
invariant-loop-i l = length l.plans.items ≡ l.i
