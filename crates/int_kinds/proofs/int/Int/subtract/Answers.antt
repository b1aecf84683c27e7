-- The machine's result is the exact one.
use Rattle.std.proofs.Common.{◌≡◌, ◌-ℤ◌, to_z, of_z, arith, ap, ◌∙◌}
use Rattle.std.specs.Prelude.{◌==◌}
use Rattle.std.specs.Int.{w128}
use Rattle.std.proofs.lemmas.Int.{ints}
use Rattle.int_kinds.specs.Operate.{kept_at}
use Rattle.int_kinds.proofs.int.Int.subtract.Goals as goal

pub returns : goal.returns
returns g c =
    let exact : to_z w128 (of_z w128 (to_z w128 (of_z w128 c.get.result) -ℤ to_z w128 (of_z w128 c.get-2.result))) ≡ c.args.self.value -ℤ c.args.other.value = omega (arith, ints) in
    c.keep.ensures ∙ ap (kept_at g.row.BITS (g.row.SIGNED == 1)) exact
