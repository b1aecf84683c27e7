use Rattle.std.proofs.Common.{chars}
use Rattle.cxx_tokens.proofs.Passing.{mark_told}
use Rattle.cxx_tokens.proofs.Turning.{no_gap}
use Rattle.cxx_tokens.proofs.lexing.put_mark.Goals as goal

pub returns-clause-goes : goal.returns-clause-goes
returns-clause-goes c =
    let text = chars c.args.text.now in
    let behind = chars c.args.behind.now in
    let mark = c.requires.mark in
    c.put.ensures.goes c.args.names.now c.args.names.now
    (no_gap c.args.at.now text c.args.c behind c.requires.here mark.no_space mark.no_line mark.no_comment)
    (mark_told c.args.at.now.place c.args.names.now text c.args.c behind c.requires.here c.args.found.number c.args.found.cut.length mark c.requires.found)
