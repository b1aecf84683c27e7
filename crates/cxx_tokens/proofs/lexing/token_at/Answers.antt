use Rattle.std.proofs.Common.{◌≡◌, ◌<◌, ◌∙◌, sym, subst, chars, true}
use Rattle.std.specs.Char.{is_ascii_digit}
use Rattle.cxx_tokens.specs.Cuts.{IsCut}
use Rattle.cxx_tokens.specs.Literals.{integer_at}
use Rattle.cxx_tokens.proofs.Integers.{some_integer}
use Rattle.cxx_tokens.specs.Gives.{GivesToken}
use Rattle.cxx_tokens.proofs.Beginnings.{at_end, character_here, integer_here, ok_with_length, punctuator_here, string_here, word_here}
use Rattle.cxx_tokens.proofs.lexing.token_at.Goals as goal

pub returns-in-None-clause-found : goal.returns-in-None-clause-found
returns-in-None-clause-found c = at_end c.args.place c.args.names.now (chars c.args.text.now) c.in-None.ensures

pub returns-then-begins_identifier-clause-found : goal.returns-then-begins_identifier-clause-found
returns-then-begins_identifier-clause-found c =
    subst (GivesToken c.word_at.result c.word_at.new.names)
    (sym (word_here c.args.place c.args.names.now (chars c.args.text.now) c.in-Some.c (chars c.in-Some.rest.now) c.in-Some.ensures (sym c.begins_identifier.ensures ∙ c.if-begins_identifier.true)))
    c.word_at.ensures.found

pub returns-then-is_ascii_digit-clause-found : goal.returns-then-is_ascii_digit-clause-found
returns-then-is_ascii_digit-clause-found c =
    subst (GivesToken c.integer_token_at.result c.args.names.now)
    (sym (integer_here c.args.place c.args.names.now (chars c.args.text.now) c.in-Some.c (chars c.in-Some.rest.now) c.in-Some.ensures (sym c.begins_identifier.ensures ∙ c.if-begins_identifier.false)
    (sym c.is_ascii_digit.ensures.value ∙ c.if-is_ascii_digit.true)))
    (c.integer_token_at.ensures.found c.args.names.now)

pub returns-then-is_ascii_digit-clause-cut : goal.returns-then-is_ascii_digit-clause-cut
returns-then-is_ascii_digit-clause-cut c =
    let digit : is_ascii_digit c.in-Some.c ≡ true = sym c.is_ascii_digit.ensures.value ∙ c.if-is_ascii_digit.true in
    let some : 0 < (integer_at (chars c.args.text.now)).length =
    subst (λ text. 0 < (integer_at text).length) (sym c.in-Some.ensures) (some_integer c.in-Some.c (chars c.in-Some.rest.now) digit) in
    ok_with_length c.integer_token_at.result (λ found. found.cut.length) _ (λ found. IsCut c.args.text.now found.cut) some c.integer_token_at.ensures.length c.integer_token_at.ensures.cut

pub returns-then-c-eq39-clause-found : goal.returns-then-c-eq39-clause-found
returns-then-c-eq39-clause-found c =
    subst (GivesToken c.character_token_at.result c.args.names.now)
    (sym (character_here c.args.place c.args.names.now (chars c.args.text.now) c.in-Some.c (chars c.in-Some.rest.now) c.in-Some.ensures (sym c.begins_identifier.ensures ∙ c.if-begins_identifier.false)
    (sym c.is_ascii_digit.ensures.value ∙ c.if-is_ascii_digit.false) c.if-c-eq39.true))
    (c.character_token_at.ensures.found c.args.names.now)

pub returns-then-c-eq34-clause-found : goal.returns-then-c-eq34-clause-found
returns-then-c-eq34-clause-found c =
    subst (GivesToken c.string_token_at.result c.string_token_at.new.names)
    (sym (string_here c.args.place c.args.names.now (chars c.args.text.now) c.in-Some.c (chars c.in-Some.rest.now) c.in-Some.ensures (sym c.begins_identifier.ensures ∙ c.if-begins_identifier.false)
    (sym c.is_ascii_digit.ensures.value ∙ c.if-is_ascii_digit.false) c.if-c-eq39.false c.if-c-eq34.true))
    c.string_token_at.ensures.found

pub returns-else-c-eq34-clause-found : goal.returns-else-c-eq34-clause-found
returns-else-c-eq34-clause-found c =
    subst (GivesToken c.punctuator_token_at.result c.args.names.now)
    (sym (punctuator_here c.args.place c.args.names.now (chars c.args.text.now) c.in-Some.c (chars c.in-Some.rest.now) c.in-Some.ensures (sym c.begins_identifier.ensures ∙ c.if-begins_identifier.false)
    (sym c.is_ascii_digit.ensures.value ∙ c.if-is_ascii_digit.false) c.if-c-eq39.false c.if-c-eq34.false))
    (c.punctuator_token_at.ensures.found c.args.names.now)

pub returns-else-c-eq34-clause-cut : goal.returns-else-c-eq34-clause-cut
returns-else-c-eq34-clause-cut c = c.punctuator_token_at.ensures.cut
