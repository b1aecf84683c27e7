use Rattle.std.proofs.Common.{◌∙◌, ap, sym, chars}
use Rattle.cxx_tokens.specs.Cuts.{seen_punctuators}
use Rattle.cxx_tokens.proofs.Search.{found_by_first, none_at_the_end, none_greater, places_below, some_found}
use Rattle.cxx_tokens.proofs.punctuator.longest_by_first.Goals as goal

pub returns-in_err-c-clause-punctuator : goal.returns-in_err-c-clause-punctuator
returns-in_err-c-clause-punctuator c =
    ap seen_punctuators c.from_residual.ensures ∙ none_at_the_end (chars c.args.text.now) (sym c.first.ensures ∙ c.in_err-c.was)

pub longest_of-requires : goal.longest_of-requires
longest_of-requires c = places_below c.args.texts.now c.args.by_first.now (chars c.args.text.now) c.in_ok-c.field-0 c.requires.texts c.requires.by_first (sym c.first.ensures ∙ c.in_ok-c.was) c.if-c-by_first.true

pub returns-then-c-by_first-clause-punctuator : goal.returns-then-c-by_first-clause-punctuator
returns-then-c-by_first-clause-punctuator c =
    c.longest_of.ensures.punctuator ∙ found_by_first c.args.texts.now c.args.by_first.now (chars c.args.text.now) c.in_ok-c.field-0 c.requires.texts c.requires.by_first (sym c.first.ensures ∙ c.in_ok-c.was) c.if-c-by_first.true

pub returns-else-c-by_first-clause-punctuator : goal.returns-else-c-by_first-clause-punctuator
returns-else-c-by_first-clause-punctuator c =
    none_greater c.args.texts.now c.args.by_first.now (chars c.args.text.now) c.in_ok-c.field-0 c.requires.texts c.requires.by_first (sym c.first.ensures ∙ c.in_ok-c.was) c.if-c-by_first.false

pub returns-then-c-by_first-clause-some : goal.returns-then-c-by_first-clause-some
returns-then-c-by_first-clause-some c =
    some_found c.longest_of.result (chars c.args.text.now)
    (c.longest_of.ensures.punctuator ∙ found_by_first c.args.texts.now c.args.by_first.now (chars c.args.text.now) c.in_ok-c.field-0 c.requires.texts c.requires.by_first (sym c.first.ensures ∙ c.in_ok-c.was) c.if-c-by_first.true)
