use Rattle.std.proofs.Common.{rules, ◌+◌, ◌≤◌, ◌∙◌, ap, chars, length, arith}
use Rattle.std.proofs.lemmas.List.{length-drop}
use Rattle.cxx_tokens.specs.Cuts.{seen_suffix}
use Rattle.cxx_tokens.specs.Literals.{prefix_len_of, suffix_of}
use Rattle.cxx_tokens.proofs.Cut.{characters_are_few}
use Rattle.cxx_tokens.proofs.Integers.{integer_is, short_prefix}
use Rattle.cxx_tokens.proofs.integer.integer_at.Goals as goal

pub overflow_add-result : goal.overflow_add-result
overflow_add-result c =
    let few = characters_are_few c.args.text.now c.utf8.text in
    let left = ap length c.base_of-base.ensures.digits ∙ length-drop (prefix_len_of c.base_of-base.result.0) (chars c.args.text.now) in
    let most : c.prefix_len.result + c.digits-digits.result.length ≤ 2 + length c.args.text.now =
    omega (arith, few, left, short_prefix c.base_of-base.result.0, c.prefix_len.ensures, c.digits-digits.ensures.cut.within) in
    search (rules, most)

pub overflow_add-result-2 : goal.overflow_add-result-2
overflow_add-result-2 c =
    let few = characters_are_few c.args.text.now c.utf8.text in
    let left = ap length c.base_of-base.ensures.digits ∙ length-drop (prefix_len_of c.base_of-base.result.0) (chars c.args.text.now) in
    let behind = ap length c.digits-digits.ensures.cut.rest ∙ length-drop c.digits-digits.result.length (chars c.base_of-base.result.1.now) in
    let most : c.prefix_len.result + c.digits-digits.result.length + c.suffix_at-suffix.result.cut.length ≤ 2 + length c.args.text.now =
    omega (arith, few, left, behind, short_prefix c.base_of-base.result.0, c.prefix_len.ensures, c.digits-digits.ensures.cut.within, c.suffix_at-suffix.ensures.cut.within) in
    search (rules, most)

pub returns-clause-integer : goal.returns-clause-integer
returns-clause-integer c =
    integer_is (chars c.args.text.now) (chars c.base_of-base.result.1.now) c.base_of-base.result.0 c.digits-digits.result.length c.radix_of-radix.result
    (c.prefix_len.result + c.digits-digits.result.length + c.suffix_at-suffix.result.cut.length) c.value_in.result c.is_decimal.result (seen_suffix c.suffix_at-suffix.result)
    c.base_of-base.ensures.base c.base_of-base.ensures.digits c.radix_of-radix.ensures.radix c.digits-digits.ensures.length c.digits-digits.ensures.cut.within
    (c.suffix_at-suffix.ensures.suffix ∙ ap suffix_of c.digits-digits.ensures.cut.rest) c.value_in.ensures c.is_decimal.ensures
    (ap (λ k. k + c.digits-digits.result.length + c.suffix_at-suffix.result.cut.length) c.prefix_len.ensures)
