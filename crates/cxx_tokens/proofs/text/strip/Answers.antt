use Rattle.std.proofs.Common.{rules, ◌∙◌, sym, chars, arith}
use Rattle.cxx_tokens.proofs.Cut.{drop_one_more, begins_with_one_more, front_is_short}
use Rattle.cxx_tokens.proofs.text.strip.Goals as goal

pub loop-byte-preserved : goal.loop-byte-preserved
loop-byte-preserved c =
    let here = sym c.loop-byte.invariant.rest ∙ c.in-Some.ensures in
    record {
      utf8 = search rules;
      rest = sym (drop_one_more c.loop-byte.byte-index (chars c.args.text.now) c.in-Some.first (chars c.in-Some.after.now) here);
      within = (let short = front_is_short c.loop-byte.byte-index (chars c.args.text.now) c.in-Some.first (chars c.in-Some.after.now) here in omega (arith, short));
      same = begins_with_one_more c.loop-byte.byte-index c.args.front.now (chars c.loop-byte.rest.now) c.in-Some.first (chars c.in-Some.after.now) c.loop-byte-test.true c.in-Some.ensures (sym c.from.ensures ∙ sym c.if-first-from.false)
          ∙ c.loop-byte.invariant.same;
    }
