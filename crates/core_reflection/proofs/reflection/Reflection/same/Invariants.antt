-- The reflections are equal where those that are left are.
use Rattle.std.proofs.Common.{◌↔◌, ◌≡◌}
use Rattle.core_reflection.proofs.reflection.Reflection.same.Given as goal

abbrev pub invariant-loop-x : goal.invariant-loop-x
invariant-loop-x l = (l.fn.self ≡ l.fn.other) ↔ (l.x ≡ l.y)
