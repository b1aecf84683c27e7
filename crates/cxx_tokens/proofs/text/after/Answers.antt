use Rattle.std.proofs.Common.{rules, ◌∙◌, ap, sym, chars, arith}
use Rattle.cxx_tokens.specs.Characters.{after}
use Rattle.cxx_tokens.proofs.Cut.{drop_one_more, place_one_more, none_is_left}
use Rattle.cxx_tokens.proofs.text.after.Goals as goal

pub loop-passed-preserved : goal.loop-passed-preserved
loop-passed-preserved c =
    let here = sym c.loop-passed.invariant.rest ∙ c.in-Some.ensures in
    record {
      utf8 = search rules;
      rest = sym (drop_one_more c.loop-passed._passed (chars c.args.text.now) c.in-Some.character (chars c.in-Some.behind.now) here);
      place = c.after_one-next.ensures ∙ ap (λ place. after place c.in-Some.character) c.loop-passed.invariant.place
          ∙ sym (place_one_more c.loop-passed._passed (chars c.args.text.now) c.in-Some.character (chars c.in-Some.behind.now) c.args.place here);
      line = search rules;
      column = search rules;
    }

pub unreachable-requires : goal.unreachable-requires
unreachable-requires c =
    let l = none_is_left c.loop-passed._passed (chars c.args.text.now) (sym c.loop-passed.invariant.rest ∙ c.in-None.ensures) in
    omega (arith, l, c.requires.within, c.loop-passed-test.true)
