-- The lowest bits, read with the sign that the highest of them is.
use Rattle.std.proofs.Common.{◌≡◌, FitsSigned, arith}
use Rattle.std.specs.Int.{w128}
use Rattle.int_kinds.proofs.Machine.{wraps_low, wraps_negative}
use Rattle.int_kinds.proofs.int.Int.wrapped.Goals as goal

pub returns-then-low : goal.returns-then-low
returns-then-low g c =
    let fits : FitsSigned w128 c.low_bits-low.result = record { sfits = c.low_bits-low.type_inv } in
    let one : g.row.SIGNED ≡ 1 = omega arith in
    wraps_low g.row.BITS g.row.SIGNED c.args.n c.low_bits-low.result c.requires.some_bits c.requires.few_bits c.ranges.n fits one c.if-low.true c.low_bits-low.ensures

pub returns-else-low : goal.returns-else-low
returns-else-low g c =
    let fits : FitsSigned w128 c.low_bits-low.result = record { sfits = c.low_bits-low.type_inv } in
    let one : g.row.SIGNED ≡ 1 = omega arith in
    wraps_negative g.row.BITS g.row.SIGNED c.args.n c.low_bits-low.result c.requires.some_bits c.requires.few_bits c.ranges.n fits one c.if-low.false c.low_bits-low.ensures
