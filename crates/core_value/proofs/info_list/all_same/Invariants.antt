-- The lists are equal where what is left of them is.
use Rattle.std.proofs.Common.{◌↔◌, ◌≡◌, drop}
use Rattle.core_value.proofs.info_list.all_same.Given as goal

abbrev pub invariant-loop-x : goal.invariant-loop-x
invariant-loop-x l = (l.fn.xs ≡ l.fn.ys) ↔ (drop l.x-index l.fn.xs ≡ l.rest)
