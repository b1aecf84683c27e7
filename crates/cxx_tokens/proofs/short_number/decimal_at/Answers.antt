use Rattle.std.proofs.Common.{rules, ◌≡◌, ◌∷◌, ◌+◌, ◌≤◌, ◌∙◌, sym, ap, chars, length, arith}
use Rattle.cxx_tokens.specs.Literals.{digits_len}
use Rattle.cxx_tokens.proofs.Cut.{characters_are_few, drop_one_more, front_is_short}
use Rattle.cxx_tokens.proofs.Integers.{decimal_digit, digit_alone}
use Rattle.cxx_tokens.proofs.ShortNumbers.{decimal_is, unquoted, value_goes_on}
use Rattle.cxx_tokens.proofs.short_number.decimal_at.Goals as goal

pub overflow_add-length : goal.overflow_add-length
overflow_add-length c =
    let here = sym c.loop-c.invariant.rest ∙ c.in-Some.ensures in
    let short = front_is_short c.loop-c.length (chars c.args.text.now) c.in-Some.c (chars c.in-Some.after.now) here in
    let few = characters_are_few c.args.text.now c.utf8.text in
    let most : c.loop-c.length + 1 ≤ length c.args.text.now = omega (arith, short, few) in
    search (rules, most)

pub loop-c-preserved : goal.loop-c-preserved
loop-c-preserved c =
    let here = sym c.loop-c.invariant.rest ∙ c.in-Some.ensures in
    let text = chars c.args.text.now in
    let behind = chars c.in-Some.after.now in
    let digit = sym c.is_ascii_digit.ensures.value ∙ c.if-not-is_ascii_digit.false in
    let short = front_is_short c.loop-c.length text c.in-Some.c behind here in
    let one = ap (digits_len 10) c.in-Some.ensures ∙ digit_alone 10 c.in-Some.c behind (decimal_digit c.in-Some.c digit)
    (unquoted 10 behind (sym c.first_is.ensures ∙ c.if-first_is.false)) in
    record {
      utf8 = search rules;
      rest = sym (drop_one_more c.loop-c.length text c.in-Some.c behind here);
      within = omega (arith, short);
      same = omega (arith, one, c.loop-c.invariant.same);
      value = value_goes_on c.loop-c.length text c.in-Some.c behind c.loop-c.value c.with_digit-value.result here digit c.loop-c.invariant.value c.with_digit-value.ensures.value;
      small = c.with_digit-value.ensures.small;
    }

pub returns-then-ends_number-clause-number : goal.returns-then-ends_number-clause-number
returns-then-ends_number-clause-number c =
    let end = c.loop-c.invariant in
    let next = c.in_ok-next.next in
    let here : chars c.loop-c.rest.now ≡ next ∷ chars c.in_ok-next._more.now = search rules in
    decimal_is (chars c.args.text.now) (chars c.loop-c.rest.now) c.loop-c.length c.loop-c.value next (chars c.in_ok-next._more.now) c.requires here
    (c.ends_number.ensures.small c.if-ends_number.true) (c.ends_number.ensures.other c.if-ends_number.true) end.rest end.within end.same end.value
