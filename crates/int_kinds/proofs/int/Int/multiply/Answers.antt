-- The machine's product is the exact one, or congruent to it.
use Rattle.std.proofs.Common.{Ok, ◌*ℤ◌, FitsSigned, arith, ap, ◌∙◌}
use Rattle.std.specs.Prelude.{◌==◌}
use Rattle.std.specs.Int.{w128}
use Rattle.std.proofs.lemmas.Int.{to_z-of_z}
use Rattle.int_kinds.specs.Operate.{kept_at}
use Rattle.int_kinds.proofs.Machine.{bounds, product_fits, kept_unsigned, wrap-mul}
use Rattle.int_kinds.proofs.int.Int.multiply.Goals as goal

pub overflow_mul-self : goal.overflow_mul-self
overflow_mul-self g c =
    let a = c.args.self in
    let b = c.args.other in
    let fits_a : FitsSigned w128 a.value = bounds g.row.BITS (g.row.SIGNED == 1) a.value a.few_bits a.in_range in
    let fits_b : FitsSigned w128 b.value = bounds g.row.BITS (g.row.SIGNED == 1) b.value b.few_bits b.in_range in
    let product = product_fits g.row.BITS g.row.SIGNED a.value b.value a.few_bits c.if-this-eq1.true a.in_range b.in_range in
    simp to_z-of_z product

pub returns-then-this-eq1 : goal.returns-then-this-eq1
returns-then-this-eq1 g c =
    let a = c.args.self in
    let b = c.args.other in
    let fits_a : FitsSigned w128 a.value = bounds g.row.BITS (g.row.SIGNED == 1) a.value a.few_bits a.in_range in
    let fits_b : FitsSigned w128 b.value = bounds g.row.BITS (g.row.SIGNED == 1) b.value b.few_bits b.in_range in
    let product : FitsSigned w128 (a.value *ℤ b.value) = product_fits g.row.BITS g.row.SIGNED a.value b.value a.few_bits c.if-this-eq1.true a.in_range b.in_range in
    c.keep.ensures ∙ ap (kept_at g.row.BITS (g.row.SIGNED == 1)) (simp to_z-of_z)

pub returns-else-this-eq1 : goal.returns-else-this-eq1
returns-else-this-eq1 g c =
    let a = c.args.self in
    let b = c.args.other in
    let fits_a : FitsSigned w128 a.value = bounds g.row.BITS (g.row.SIGNED == 1) a.value a.few_bits a.in_range in
    let fits_b : FitsSigned w128 b.value = bounds g.row.BITS (g.row.SIGNED == 1) b.value b.few_bits b.in_range in
    let fits : FitsSigned w128 c.wrapped.result = record { sfits = c.wrapped.type_inv } in
    ap Ok (to_z-of_z w128 c.wrapped.result fits ∙ c.wrapped.ensures
    ∙ wrap-mul g.row.BITS (g.row.SIGNED == 1) a.value b.value a.some_bits (omega arith) fits_a fits_b)
    ∙ kept_unsigned g.row.BITS g.row.SIGNED (a.value *ℤ b.value) c.if-this-eq1.false
