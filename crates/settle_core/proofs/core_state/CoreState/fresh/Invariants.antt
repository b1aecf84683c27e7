use Rattle.std.proofs.Common.{◌≡◌}
use Rattle.settle_core.specs.State.{all_fresh}
use Rattle.settle_core.proofs.core_state.CoreState.fresh.Given as goal

abbrev pub invariant-loop : goal.invariant-loop
invariant-loop g l = l.pieces.items ≡ all_fresh l.counter
