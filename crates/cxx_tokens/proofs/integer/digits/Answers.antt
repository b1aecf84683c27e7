use Rattle.std.proofs.Common.{rules, ◌≡◌, ◌+◌, ◌≤◌, ◌∙◌, sym, ap, chars, length, true, arith}
use Rattle.cxx_tokens.specs.Characters.{is_digit_in}
use Rattle.cxx_tokens.specs.Literals.{digits_len}
use Rattle.cxx_tokens.proofs.Cut.{characters_are_few, drop_both, drop_one_more, front_is_short, within_both}
use Rattle.cxx_tokens.proofs.Integers.{digit_and_quote, digit_alone, some_behind}
use Rattle.cxx_tokens.proofs.integer.digits.Goals as goal

pub overflow_add-length : goal.overflow_add-length
overflow_add-length c =
    let here = sym c.loop-c.invariant.rest ∙ c.in-Some.ensures in
    let text = chars c.args.text.now in
    let short = front_is_short c.loop-c.length text c.in-Some.c (chars c.in-Some.after.now) here in
    let next = sym (drop_one_more c.loop-c.length text c.in-Some.c (chars c.in-Some.after.now) here) in
    let some = some_behind c.args.radix (chars c.in-Some.after.now) (sym c.in-Some-strip_prefix.ensures.some) in
    let within : c.loop-c.length + 2 ≤ length text =
    within_both (c.loop-c.length + 1) 1 (c.loop-c.length + 2) text (chars c.in-Some.after.now) next (omega (arith, short)) (omega (arith, some)) (omega arith) in
    let few = characters_are_few c.args.text.now c.utf8.text in
    let most : c.loop-c.length + 2 ≤ length c.args.text.now = omega (arith, within, few) in
    search (rules, most)

pub loop-c-preserved-in-Some-strip_prefix : goal.loop-c-preserved-in-Some-strip_prefix
loop-c-preserved-in-Some-strip_prefix c =
    let here = sym c.loop-c.invariant.rest ∙ c.in-Some.ensures in
    let text = chars c.args.text.now in
    let short = front_is_short c.loop-c.length text c.in-Some.c (chars c.in-Some.after.now) here in
    let next = sym (drop_one_more c.loop-c.length text c.in-Some.c (chars c.in-Some.after.now) here) in
    let some = some_behind c.args.radix (chars c.in-Some.after.now) (sym c.in-Some-strip_prefix.ensures.some) in
    let digit : is_digit_in c.args.radix c.in-Some.c ≡ true = sym c.is_digit.ensures.value ∙ c.if-not-is_digit.false in
    let one = ap (digits_len c.args.radix) c.in-Some.ensures ∙ digit_and_quote c.args.radix c.in-Some.c (chars c.in-Some.after.now) digit (sym c.in-Some-strip_prefix.ensures.some)
    ∙ ap (λ rest. 2 + digits_len c.args.radix rest) (sym c.in-Some-strip_prefix.ensures.rest) in
    record {
      utf8 = search rules;
      rest = c.in-Some-strip_prefix.ensures.rest ∙ drop_both (c.loop-c.length + 1) 1 (c.loop-c.length + 2) text (chars c.in-Some.after.now) next (omega arith);
      within = within_both (c.loop-c.length + 1) 1 (c.loop-c.length + 2) text (chars c.in-Some.after.now) next (omega (arith, short)) (omega (arith, some)) (omega arith);
      same = omega (arith, one, c.loop-c.invariant.same);
    }

pub overflow_add-length-in-None : goal.overflow_add-length-in-None
overflow_add-length-in-None c =
    let here = sym c.loop-c.invariant.rest ∙ c.in-Some.ensures in
    let short = front_is_short c.loop-c.length (chars c.args.text.now) c.in-Some.c (chars c.in-Some.after.now) here in
    let few = characters_are_few c.args.text.now c.utf8.text in
    let most : c.loop-c.length + 1 ≤ length c.args.text.now = omega (arith, short, few) in
    search (rules, most)

pub loop-c-preserved : goal.loop-c-preserved
loop-c-preserved c =
    let here = sym c.loop-c.invariant.rest ∙ c.in-Some.ensures in
    let text = chars c.args.text.now in
    let short = front_is_short c.loop-c.length text c.in-Some.c (chars c.in-Some.after.now) here in
    let digit : is_digit_in c.args.radix c.in-Some.c ≡ true = sym c.is_digit.ensures.value ∙ c.if-not-is_digit.false in
    let one = ap (digits_len c.args.radix) c.in-Some.ensures ∙ digit_alone c.args.radix c.in-Some.c (chars c.in-Some.after.now) digit (sym c.in-None.ensures.some) in
    record {
      utf8 = search rules;
      rest = sym (drop_one_more c.loop-c.length text c.in-Some.c (chars c.in-Some.after.now) here);
      within = omega (arith, short);
      same = omega (arith, one, c.loop-c.invariant.same);
    }
