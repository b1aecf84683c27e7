-- The machine's result is the exact one.
use Rattle.std.proofs.Common.{◌≡◌, ℤ, to_z, of_z, int_div, FitsSigned, arith, ap, sym, ◌∙◌}
use Rattle.std.specs.Prelude.{◌==◌}
use Rattle.std.specs.Int.{w128}
use Rattle.std.proofs.lemmas.Int.{ints, quot_is}
use Rattle.int_kinds.specs.Operate.{division_fault_at}
use Rattle.int_kinds.proofs.Division.{unless_none, quotient_fits_machine}
use Rattle.int_kinds.proofs.int.Int.divide.Goals as goal

pub returns-in-None : goal.returns-in-None
returns-in-None g c =
    let a : ℤ = c.get.result in
    let b : ℤ = c.get-in-None.result in
    let same_a : a ≡ c.args.self.value = c.get.ensures.value in
    let same_b : b ≡ c.args.other.value = c.get-in-None.ensures.value in
    let fits_a : FitsSigned w128 a = omega (arith, ints) in
    let fits_b : FitsSigned w128 b = omega (arith, ints) in
    unless_none (division_fault_at g.row.BITS (g.row.SIGNED == 1) c.args.self.value c.args.other.value)
    (to_z w128 (of_z w128 (int_div (to_z w128 (of_z w128 a)) (to_z w128 (of_z w128 b))))) (int_div c.args.self.value c.args.other.value)
    (sym c.division_fault.ensures ∙ c.in-None.is)
    (quot_is w128 a b fits_a fits_b (quotient_fits_machine a b (omega (arith, ints)) (omega (arith, ints))) ∙ ap (λ n. int_div n b) same_a ∙ ap (int_div c.args.self.value) same_b)
