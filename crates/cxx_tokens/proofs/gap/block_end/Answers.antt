use Rattle.std.proofs.Common.{rules, ◌≡◌, ◌∙◌, ap, sym, chars, ◌+◌, false, [], ◌∷◌, ◌&&◌, eqb, drop, arith}
use Rattle.std.proofs.lemmas.List.{drop-drop}
use Rattle.cxx_tokens.specs.Characters.{begins_with, star, slash}
use Rattle.cxx_tokens.proofs.Cut.{drop_one_more, front_is_short, characters_are_few}
use Rattle.cxx_tokens.proofs.Gaps.{block_further, not_star, not_slash, two_within}
use Rattle.cxx_tokens.proofs.gap.block_end.Goals.{then-c-eq42+in_default-strip, else-c-eq42}
use Rattle.cxx_tokens.proofs.gap.block_end.Goals as goal

pub overflow_add-result : goal.overflow_add-result
overflow_add-result c =
    let few = characters_are_few c.args.text.now c.utf8.text in
    omega (arith, few, c.loop-c.invariant.within)

pub returns-in-Some-strip-clause-cut : goal.returns-in-Some-strip-clause-cut
returns-in-Some-strip-clause-cut c =
    let here = sym c.loop-c.invariant.rest ∙ c.in-Some.ensures in
    let one = drop_one_more c.loop-c.length (chars c.args.text.now) c.in-Some.c (chars c.in-Some.after.now) here in
    let more : (c.loop-c.length + 1) + 1 ≡ c.loop-c.length + 2 = omega arith in
    record {
      rest = c.in-Some-strip.ensures.rest ∙ ap (drop 1) (sym one) ∙ drop-drop 1 (c.loop-c.length + 1) (chars c.args.text.now) ∙ ap (λ k. drop k (chars c.args.text.now)) more;
      within = two_within c.loop-c.length (chars c.args.text.now) c.in-Some.c (chars c.in-Some.after.now) here (sym c.in-Some-strip.ensures.begins);
    }

pub overflow_add-length : goal.overflow_add-length
overflow_add-length c =
    let few = characters_are_few c.args.text.now c.utf8.text in
    omega (arith, few, c.loop-c.invariant.within)

pub loop-c-preserved : goal.loop-c-preserved
loop-c-preserved c =
    let here = sym c.loop-c.invariant.rest ∙ c.in-Some.ensures in
    let short = front_is_short c.loop-c.length (chars c.args.text.now) c.in-Some.c (chars c.in-Some.after.now) here in
    let no_end : (eqb c.in-Some.c star && begins_with (slash ∷ []) (chars c.in-Some.after.now)) ≡ false =
    elim c.if-c-eq42.branch [
      | then-c-eq42+in_default-strip w ↦ not_slash c.in-Some.c (chars c.in-Some.after.now) (sym w.in_default-strip.ensures.begins)
      | else-c-eq42 w ↦ not_star c.in-Some.c (chars c.in-Some.after.now) w.if-c-eq42.false
    ] in
    record {
      utf8 = search rules;
      rest = sym (drop_one_more c.loop-c.length (chars c.args.text.now) c.in-Some.c (chars c.in-Some.after.now) here);
      within = omega (arith, short);
      same = block_further c.loop-c.length (chars c.loop-c.rest.now) c.in-Some.c (chars c.in-Some.after.now) c.in-Some.ensures no_end ∙ c.loop-c.invariant.same;
    }
