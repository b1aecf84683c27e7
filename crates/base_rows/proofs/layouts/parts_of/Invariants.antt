use Rattle.std.proofs.Common.{All}
use Rattle.class_layout.specs.Arrangement.{IsPart}
use Rattle.base_rows.proofs.layouts.parts_of.Given as goal

abbrev pub invariant-loop-word : goal.invariant-loop-word
invariant-loop-word l = All IsPart l.parts.items
