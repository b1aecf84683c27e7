use Rattle.std.proofs.Common.{◌≡◌, ◌∙◌, List, ap, sym, chars, length, Ok}
use Rattle.std.proofs.lemmas.Bool.{eqb-true}
use Rattle.cxx_tokens.specs.declared.token.Token.{Token}
use Rattle.cxx_tokens.proofs.Cut.{no_characters}
use Rattle.cxx_tokens.proofs.Turning.{no_more}
use Rattle.cxx_tokens.proofs.lexing.tokens_of.Goals as goal

pub returns-clause-tokens : goal.returns-clause-tokens
returns-clause-tokens c =
    let none : length c.loop-rest.rest.now ≡ 0 = eqb-true _ _ (sym c.is_empty.ensures ∙ c.loop-rest-test.false) in
    sym c.loop-rest.invariant.same ∙ no_more c.loop-rest.list.items c.loop-rest.at c.loop-rest.names (chars c.loop-rest.rest.now) (no_characters c.loop-rest.rest.now none)
    ∙ ap (λ names. Ok (record { tokens = c.loop-rest.list.items; names = names; end = c.loop-rest.at.place })) (sym c.in_ok-number_members.ensures.names)
    ∙ ap (λ (all : List Token). Ok (record { tokens = all; names = c.number_members.new.names; end = c.loop-rest.at.place })) (sym c.from_vec.ensures)
