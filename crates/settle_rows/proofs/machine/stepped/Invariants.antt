use Rattle.std.proofs.Common.{◌≡◌, length}
use Rattle.settle_rows.proofs.machine.stepped.Given as goal

abbrev pub invariant-loop-next : goal.invariant-loop-next
invariant-loop-next l = length l.state ≡ 3
