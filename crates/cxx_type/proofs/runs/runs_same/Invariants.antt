-- The runs are equal where those that are left are.
use Rattle.std.proofs.Common.{◌↔◌, ◌≡◌}
use Rattle.cxx_type.specs.Layers.{runs_of}
use Rattle.cxx_type.proofs.runs.runs_same.Given as goal

abbrev pub invariant-loop-x : goal.invariant-loop-x
invariant-loop-x l = (runs_of l.fn.run ≡ runs_of l.fn.other) ↔ (runs_of l.x ≡ runs_of l.y)
