use Rattle.std.proofs.Common.{chars, refl, arith}
use Rattle.cxx_tokens.proofs.Composed.{flat_line}
use Rattle.cxx_tokens.proofs.Cut.{characters_are_few}
use Rattle.cxx_tokens.proofs.gap.skipped_line.Goals as goal

pub overflow_add-result : goal.overflow_add-result
overflow_add-result c =
    let few = characters_are_few c.args.text.now c.utf8.text in
    omega (arith, few, c.run-line.ensures.cut.within)

pub returns-then-is_skipped-clause-flat : goal.returns-then-is_skipped-clause-flat
returns-then-is_skipped-clause-flat c = flat_line (chars c.args.text.now) c.run-line.result.length _ c.run-line.ensures.length refl
