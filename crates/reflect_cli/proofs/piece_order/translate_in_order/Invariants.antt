use Rattle.std.proofs.Common.{◌≡◌, map, take}
use Rattle.reflect_cli.specs.Order.{outcome_of}
use Rattle.reflect_cli.proofs.piece_order.translate_in_order.Given as goal

abbrev pub invariant-loop-declaration : goal.invariant-loop-declaration
invariant-loop-declaration l = l.outcomes ≡ map outcome_of (take l.declaration-index l.declarations)
