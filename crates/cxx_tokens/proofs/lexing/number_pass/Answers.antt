use Rattle.std.proofs.Common.{chars}
use Rattle.cxx_tokens.proofs.Munch.{digit_begins_no_word}
use Rattle.cxx_tokens.proofs.Passing.{number_told}
use Rattle.cxx_tokens.proofs.Turning.{digit_no_gap}
use Rattle.cxx_tokens.proofs.lexing.number_pass.Goals as goal

pub returns-in-Some-short_kind-clause-goes : goal.returns-in-Some-short_kind-clause-goes
returns-in-Some-short_kind-clause-goes c =
    let text = chars c.args.text.now in
    let behind = chars c.args.behind.now in
    let found = c.in-Some.found in
    c.put.ensures.goes c.args.names.now c.args.names.now
    (digit_no_gap c.args.at.now text c.args.c behind c.requires.here c.requires.digit)
    (number_told c.args.at.now.place c.args.names.now text c.args.c behind c.requires.here found.cut.length found.value found.decimal c.in-Some-short_kind.kind
    (digit_begins_no_word c.args.c c.requires.digit) c.requires.digit c.in-Some.ensures.number c.in-Some.ensures.ends c.in-Some-short_kind.ensures)
