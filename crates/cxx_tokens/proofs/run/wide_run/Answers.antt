use Rattle.std.proofs.Common.{◌∙◌, chars, ap, sym, nat_le, arith}
use Rattle.std.proofs.lemmas.List.Sums.{prefix_len-le-length}
use Rattle.cxx_tokens.specs.Characters.{first_is}
use Rattle.cxx_tokens.specs.Cuts.{class_test}
use Rattle.cxx_tokens.proofs.AsciiFronts.{no_run}
use Rattle.cxx_tokens.proofs.Cut.{characters_are_few}
use Rattle.cxx_tokens.proofs.run.wide_run.Goals as goal

pub returns-then-begins_wide-clause-length : goal.returns-then-begins_wide-clause-length
returns-then-begins_wide-clause-length c =
    let few = characters_are_few c.args.text.now c.utf8.text in
    let run = prefix_len-le-length (class_test c.args.class) (chars c.args.text.now) in
    omega (arith, few, run, c.run_of_at_most.ensures.length)

pub returns-else-begins_wide-clause-length : goal.returns-else-begins_wide-clause-length
returns-else-begins_wide-clause-length c =
    no_run c.args.class c.args.text.now c.utf8.text c.requires
    (ap (first_is (λ byte. nat_le 128 byte)) (sym c.as_bytes.ensures.value) ∙ sym c.begins_wide.ensures ∙ c.if-begins_wide.false)
