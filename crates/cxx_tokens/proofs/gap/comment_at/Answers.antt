use Rattle.std.proofs.Common.{◌≡◌, ◌∙◌, ap, sym, refl, chars, length, arith}
use Rattle.std.proofs.lemmas.List.{length-drop}
use Rattle.cxx_tokens.proofs.Composed.{flat_comment}
use Rattle.cxx_tokens.proofs.Cut.{characters_are_few}
use Rattle.cxx_tokens.proofs.gap.comment_at.Goals as goal

pub overflow_add-result : goal.overflow_add-result
overflow_add-result c =
    let few = characters_are_few c.args.text.now c.utf8.text in
    let l : length (chars c.in-Some.rest.now) ≡ _ = ap length c.in-Some.ensures.rest ∙ length-drop 1 (chars c.args.text.now) in
    omega (arith, few, l, c.run-line.ensures.cut.within)

pub overflow_add-result-in-Some-block_end : goal.overflow_add-result-in-Some-block_end
overflow_add-result-in-Some-block_end c =
    let few = characters_are_few c.args.text.now c.utf8.text in
    let l : length (chars c.in-Some-strip.rest.now) ≡ _ = ap length c.in-Some-strip.ensures.rest ∙ length-drop 1 (chars c.args.text.now) in
    omega (arith, few, l, c.in-Some-block_end.ensures.cut.within)

pub returns-in-Some-clause-flat : goal.returns-in-Some-clause-flat
returns-in-Some-clause-flat c =
    flat_comment (chars c.args.text.now) (chars c.in-Some.rest.now) c.run-line.result.length _ (sym c.in-Some.ensures.begins) c.in-Some.ensures.rest c.run-line.ensures.length refl
