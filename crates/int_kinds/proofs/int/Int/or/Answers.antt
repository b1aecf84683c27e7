-- The machine's operator, read at the width.
use Rattle.std.proofs.Common.{FitsSigned, arith, ◌∙◌}
use Rattle.std.specs.Prelude.{◌==◌}
use Rattle.std.specs.Int.{w128}
use Rattle.std.proofs.lemmas.Int.{to_z-of_z}
use Rattle.int_kinds.proofs.Digits.{or_is}
use Rattle.int_kinds.proofs.Machine.{bounds}
use Rattle.int_kinds.proofs.int.Int.or.Goals as goal

pub returns : goal.returns
returns g c =
    let a = c.args.self in
    let b = c.args.other in
    let fits : FitsSigned w128 c.wrapped.result = record { sfits = c.wrapped.type_inv } in
    let fits_a : FitsSigned w128 a.value = bounds g.row.BITS (g.row.SIGNED == 1) a.value a.few_bits a.in_range in
    let fits_b : FitsSigned w128 b.value = bounds g.row.BITS (g.row.SIGNED == 1) b.value b.few_bits b.in_range in
    to_z-of_z w128 c.wrapped.result fits ∙ c.wrapped.ensures
    ∙ or_is g.row.BITS (g.row.SIGNED == 1) a.value b.value a.some_bits (omega arith) fits_a fits_b
