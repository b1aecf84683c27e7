use Rattle.std.proofs.Common.{All}
use Rattle.class_layout.specs.Arrangement.{IsPart}
use Rattle.base_rows.proofs.layouts.copies_of.Given as goal

abbrev pub invariant-loop : goal.invariant-loop
invariant-loop l = All IsPart l.parts.items
