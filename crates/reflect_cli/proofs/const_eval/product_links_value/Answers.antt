use Rattle.std.proofs.Common.{◌≡◌, ◌∙◌, sym, subst, arith, to_z, of_z}
use Rattle.std.specs.Int.{w128}
use Rattle.std.proofs.lemmas.Int.{to_z-of_z, ints}
use Rattle.cxx_base.specs.declared.operator.IntKind.TheVariants.{Int}
use Rattle.int_kinds.specs.Kind.{IsInRange}
use Rattle.reflect_cli.specs.Values.{product_value}
use Rattle.reflect_cli.proofs.Links.{goes}
use Rattle.reflect_cli.proofs.const_eval.product_links_value.Goals as goal

pub loop-link-preserved : goal.loop-link-preserved
loop-link-preserved c =
    let range = c.in-Ok.ensures.in_range in
    let kept : to_z w128 (of_z w128 c.in-Ok.result) ≡ c.in-Ok.result = to_z-of_z w128 c.in-Ok.result (omega (arith, ints)) in
    record {
      same = goes c.args.place product_value (to_z w128 c.loop-link.value-bits) c.args.links.now c.loop-link.link-index _ _ c.loop-link-test.true c.link-item.is
          c.in-Ok.result (to_z w128 (of_z w128 c.in-Ok.result)) c.in-Ok.ensures.value kept
          ∙ c.loop-link.invariant.same;
      in_range = subst (IsInRange Int) (sym kept) range;
    }
