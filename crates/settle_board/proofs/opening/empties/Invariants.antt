use Rattle.std.proofs.Common.{◌≡◌, ◌≤◌, replicate, vec_capacity}
use Rattle.board_rule.specs.declared.home.Home.TheVariants.{Empty}
use Rattle.settle_board.proofs.opening.empties.Given as goal

abbrev pub invariant-loop : goal.invariant-loop
invariant-loop g l = (l.homes.items ≡ replicate l.counter Empty) × (l.count ≤ vec_capacity l.homes)
