use Rattle.std.proofs.Common.{length, ap, arith}
use Rattle.cxx_tokens.proofs.Cut.{characters_are_few}
use Rattle.cxx_tokens.proofs.Literals.{closed_cut}
use Rattle.cxx_tokens.proofs.escape.character_at.Goals as goal

pub closed-requires-clause-short : goal.closed-requires-clause-short
closed-requires-clause-short c =
    let few = characters_are_few c.args.text.now c.utf8.text in
    let one = ap length c.in-Some-eq92-default.ensures in
    omega (arith, few, one, c.in_ok-escape_at-in-Some-eq92-default.ensures.cut.within)

pub returns-in_ok-escape_at-in-Some-eq92-default-clause-cut :
    goal.returns-in_ok-escape_at-in-Some-eq92-default-clause-cut
returns-in_ok-escape_at-in-Some-eq92-default-clause-cut c =
    closed_cut c.args.text.now c.in-Some-eq92-default.rest.now c.in-Some-eq92-default.field-0-0 c.in_ok-escape_at-in-Some-eq92-default.field-0 c.closed.result
    c.in-Some-eq92-default.ensures c.in_ok-escape_at-in-Some-eq92-default.ensures.cut c.closed.ensures.some
