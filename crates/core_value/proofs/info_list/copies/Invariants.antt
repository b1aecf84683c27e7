-- What is copied is what stands before.
use Rattle.std.proofs.Common.{◌≡◌, take}
use Rattle.core_value.proofs.info_list.copies.Given as goal

abbrev pub invariant-loop-reflection : goal.invariant-loop-reflection
invariant-loop-reflection l = l.items ≡ take l.reflection-index l.list
