use Rattle.std.proofs.Common.{rules, ◌≡◌, ◌+◌, ◌∙◌, sym, ap, chars, true, refl, arith}
use Rattle.std.specs.List.{prefix_len}
use Rattle.cxx_tokens.specs.Cuts.{class_test}
use Rattle.cxx_tokens.proofs.Cut.{drop_one_more, front_is_short}
use Rattle.cxx_tokens.proofs.run.run_of_at_most.Goals as goal

pub loop-length-preserved : goal.loop-length-preserved
loop-length-preserved c =
    let here = sym c.loop-length.invariant.rest ∙ c.in-Some.ensures in
    let p = class_test c.args.class in
    let one : prefix_len p (chars c.loop-length.rest.now) ≡ 1 + prefix_len p (chars c.in-Some.after.now) =
    ap (prefix_len p) c.in-Some.ensures ∙ (let yes : p c.in-Some.c ≡ true = sym c.is_in.ensures ∙ c.if-is_in.true in rw yes refl) in
    let short = front_is_short c.loop-length.length (chars c.args.text.now) c.in-Some.c (chars c.in-Some.after.now) here in
    record {
      utf8 = search rules;
      rest = sym (drop_one_more c.loop-length.length (chars c.args.text.now) c.in-Some.c (chars c.in-Some.after.now) here);
      within = omega (arith, short);
      few = search rules;
      same = omega (arith, one, c.loop-length.invariant.same);
    }
