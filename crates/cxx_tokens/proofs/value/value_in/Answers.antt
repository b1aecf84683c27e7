use Rattle.std.proofs.Common.{rules, ◌^◌, ◌∙◌, min, ap, sym, take, chars, arith}
use Rattle.cxx_tokens.specs.Characters.{value_in}
use Rattle.cxx_tokens.proofs.Cut.{drop_one_more, none_is_left}
use Rattle.cxx_tokens.proofs.Values.{value_one_more, capped_by_digit}
use Rattle.cxx_tokens.proofs.value.value_in.Goals as goal

pub unreachable-requires : goal.unreachable-requires
unreachable-requires c =
    let l = none_is_left c.loop-passed._passed (chars c.args.text.now) (sym c.loop-passed.invariant.rest ∙ c.in-None.ensures) in
    omega (arith, l, c.requires.within, c.loop-passed-test.true)

pub loop-passed-preserved : goal.loop-passed-preserved
loop-passed-preserved c =
    let here = sym c.loop-passed.invariant.rest ∙ c.in-Some.ensures in
    let text = chars c.args.text.now in
    record {
      utf8 = search rules;
      rest = sym (drop_one_more c.loop-passed._passed text c.in-Some.c (chars c.in-Some.after.now) here);
      value = capped_by_digit c.args.radix (value_in c.args.radix (take c.loop-passed._passed text)) c.in-Some.c c.loop-passed.value c.with_digit-value.result
          c.requires.radix.0 c.loop-passed.invariant.value c.with_digit-value.ensures.digit c.with_digit-value.ensures.other
          ∙ ap (λ v. min v (2 ^ 64)) (sym (value_one_more c.args.radix c.loop-passed._passed text c.in-Some.c (chars c.in-Some.after.now) here));
    }
