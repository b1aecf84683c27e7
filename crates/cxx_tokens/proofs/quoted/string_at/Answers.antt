use Rattle.std.proofs.Common.{rules, ◌∙◌, ◌∷◌, ◌++◌, [], ◌+◌, sym, ap, chars, take, drop, encode_utf8_all, arith}
use Rattle.cxx_tokens.specs.Literals.{string_from}
use Rattle.cxx_tokens.proofs.Cut.{characters_are_few, drop_one_more, front_is_short}
use Rattle.cxx_tokens.proofs.Literals.{put_before, plain_read, drop_one_and, escape_read, read_on, cut_behind, within_behind}
use Rattle.cxx_tokens.proofs.quoted.string_at.Goals as goal

pub overflow_add-cut : goal.overflow_add-cut
overflow_add-cut c =
    let few = characters_are_few c.args.text.now c.utf8.text in
    omega (arith, few, c.loop-c.invariant.within)

pub returns-then-c-eq34-clause-cut : goal.returns-then-c-eq34-clause-cut
returns-then-c-eq34-clause-cut c =
    let here = sym c.loop-c.invariant.rest ∙ c.in-Some.ensures in
    let text = chars c.args.text.now in
    let short = front_is_short c.loop-c.length text c.in-Some.c (chars c.in-Some.after.now) here in
    record {
      rest = sym (drop_one_more c.loop-c.length text c.in-Some.c (chars c.in-Some.after.now) here);
      within = omega (arith, short);
    }

pub overflow_add-length : goal.overflow_add-length
overflow_add-length c =
    let few = characters_are_few c.args.text.now c.utf8.text in
    let here = sym c.loop-c.invariant.rest ∙ c.in-Some.ensures in
    let w = within_behind c.loop-c.length c.in-Some-escape_at.escape.cut.length (chars c.args.text.now) (chars c.in-Some.after.now) c.in-Some.c here c.in-Some-escape_at.ensures.cut.within in
    omega (arith, few, w)

pub overflow_add-length-in-Some-escape_at : goal.overflow_add-length-in-Some-escape_at
overflow_add-length-in-Some-escape_at c =
    let few = characters_are_few c.args.text.now c.utf8.text in
    let here = sym c.loop-c.invariant.rest ∙ c.in-Some.ensures in
    let w = within_behind c.loop-c.length c.in-Some-escape_at.escape.cut.length (chars c.args.text.now) (chars c.in-Some.after.now) c.in-Some.c here c.in-Some-escape_at.ensures.cut.within in
    omega (arith, few, w)

pub loop-c-preserved-in-Some-escape_at : goal.loop-c-preserved-in-Some-escape_at
loop-c-preserved-in-Some-escape_at c =
    let here = sym c.loop-c.invariant.rest ∙ c.in-Some.ensures in
    let n = c.loop-c.length in
    let found = c.in-Some-escape_at.escape in
    let k = found.cut.length in
    let text = chars c.args.text.now in
    let after = chars c.in-Some.after.now in
    let place = c.args.place in
    let one = found.byte ∷ [] in
    let cut = c.in-Some-escape_at.ensures.cut in
    let read = escape_read place c.in-Some.c after (record { length = k; byte = found.byte }) c.if-c-eq92.true c.in-Some-escape_at.ensures.escape cut.within in
    let next = ap (string_from 0 place) c.in-Some.ensures ∙ read in
    let grown = read_on n (1 + k) c.loop-c.bytes one (string_from 0 place (chars c.loop-c.rest.now)) (string_from 0 place (drop k after)) (string_from 0 place text) next c.loop-c.invariant.same in
    record {
      utf8 = search rules;
      rest = cut.rest ∙ cut_behind n k text after c.in-Some.c here;
      within = within_behind n k text after c.in-Some.c here cut.within;
      same = ap (λ bytes. put_before (n + (1 + k)) bytes (string_from 0 place (chars found.cut.rest.now))) c.in_ok-push-in-Some-escape_at.ensures.ok
          ∙ ap (λ rest. put_before (n + (1 + k)) (c.loop-c.bytes ++ one) (string_from 0 place rest)) cut.rest ∙ grown;
    }

pub overflow_add-count : goal.overflow_add-count
overflow_add-count c =
    let few = characters_are_few c.args.text.now c.utf8.text in
    let here = sym c.loop-c.invariant.rest ∙ c.in-Some.ensures in
    let w = within_behind c.loop-c.length c.run-plain.result.length (chars c.args.text.now) (chars c.in-Some.after.now) c.in-Some.c here c.run-plain.ensures.cut.within in
    omega (arith, few, w)

pub overflow_add-length-else-c-eq92 : goal.overflow_add-length-else-c-eq92
overflow_add-length-else-c-eq92 c =
    let few = characters_are_few c.args.text.now c.utf8.text in
    let here = sym c.loop-c.invariant.rest ∙ c.in-Some.ensures in
    let w = within_behind c.loop-c.length c.run-plain.result.length (chars c.args.text.now) (chars c.in-Some.after.now) c.in-Some.c here c.run-plain.ensures.cut.within in
    omega (arith, few, w)

pub push_front-requires : goal.push_front-requires
push_front-requires c = c.run-plain.ensures.cut.rest ∙ drop_one_and c.run-plain.result.length c.in-Some.c (chars c.loop-c.rest.now) (chars c.in-Some.after.now) c.in-Some.ensures

pub loop-c-preserved : goal.loop-c-preserved
loop-c-preserved c =
    let here = sym c.loop-c.invariant.rest ∙ c.in-Some.ensures in
    let n = c.loop-c.length in
    let k = c.run-plain.result.length in
    let text = chars c.args.text.now in
    let rest = chars c.loop-c.rest.now in
    let after = chars c.in-Some.after.now in
    let place = c.args.place in
    let cut = c.run-plain.ensures.cut in
    let most = c.run-plain.ensures.length in
    let read = plain_read k place c.in-Some.c rest after c.in-Some.ensures c.if-c-eq34.false c.if-c-eq10.false c.if-c-eq92.false (omega (arith, most)) in
    let more = encode_utf8_all (take (1 + k) rest) in
    let grown = read_on n (1 + k) c.loop-c.bytes more (string_from 0 place rest) (string_from 0 place (drop k after)) (string_from 0 place text) read c.loop-c.invariant.same in
    record {
      utf8 = search rules;
      rest = cut.rest ∙ cut_behind n k text after c.in-Some.c here;
      within = within_behind n k text after c.in-Some.c here cut.within;
      same = ap (λ bytes. put_before (n + (1 + k)) bytes (string_from 0 place (chars c.run-plain.result.rest.now))) c.in_ok-push_front.ensures
          ∙ ap (λ rest. put_before (n + (1 + k)) (c.loop-c.bytes ++ more) (string_from 0 place rest)) cut.rest ∙ grown;
    }
