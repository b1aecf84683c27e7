-- Each result is a value of the kind.
use Rattle.std.proofs.Common.{IfOk, FitsSigned, subst, sym}
use Rattle.std.specs.Int.{w128}
use Rattle.std.proofs.lemmas.Int.{to_z-of_z}
use Rattle.int_kinds.specs.Kind.{width_of, is_signed, IsInRange}
use Rattle.int_kinds.proofs.Ranges.{applied_in_range, some_bits}
use Rattle.int_kinds.proofs.operate.apply.Goals as goal

pub returns-clause-in_range : goal.returns-clause-in_range
returns-clause-in_range c =
    let fits_a : FitsSigned w128 c.args.a = c.ranges.a in
    let fits_b : FitsSigned w128 c.args.b = c.ranges.b in
    let is = simp to_z-of_z at c.applied_exactly.ensures in
    subst (λ r. IfOk r (IsInRange c.args.kind)) (sym is)
    (applied_in_range c.args.op (width_of c.args.kind) (is_signed c.args.kind) c.args.a c.args.b (some_bits c.args.kind) c.requires.left c.requires.right)
