-- The machine's shift is congruent to the product.
use Rattle.std.proofs.Common.{Ok, FitsSigned, arith, ap, ◌∙◌}
use Rattle.std.specs.Prelude.{◌==◌}
use Rattle.std.specs.Int.{w128}
use Rattle.std.proofs.lemmas.Int.{to_z-of_z}
use Rattle.int_kinds.specs.Operate.{shifted_left_at, shift_count_at}
use Rattle.int_kinds.proofs.Machine.{wrap-shl, bounds}
use Rattle.int_kinds.proofs.int.Int.shift_left.Goals as goal

pub returns-in-Some : goal.returns-in-Some
returns-in-Some g c =
    let s = c.args.self in
    let fits_self : FitsSigned w128 s.value = bounds g.row.BITS (g.row.SIGNED == 1) s.value s.few_bits s.in_range in
    let fits : FitsSigned w128 c.wrapped.result = record { sfits = c.wrapped.type_inv } in
    ap Ok (to_z-of_z w128 c.wrapped.result fits ∙ c.wrapped.ensures
    ∙ wrap-shl g.row.BITS (g.row.SIGNED == 1) s.value c.in-Some.count s.some_bits (omega arith) fits_self (omega (arith, c.in-Some.ensures.below)))
    ∙ ap (shifted_left_at g.row.BITS (g.row.SIGNED == 1) s.value)
    (c.in-Some.ensures.count ∙ ap (shift_count_at g.row.BITS) (to_z-of_z w128 c.args.count c.ranges.count))
