use Rattle.std.proofs.Common.{chars, arith}
use Rattle.cxx_tokens.proofs.ShortMarks.{shortest_is, one_cut}
use Rattle.cxx_tokens.proofs.punctuator.short_mark.Goals as goal

pub returns-clause-punctuator : goal.returns-clause-punctuator
returns-clause-punctuator c =
    shortest_is c.args.c c.args.next c.args.number (chars c.args.text.now) (chars c.args.rest.now) (chars c.args.more.now)
    c.requires.here c.requires.behind_it c.requires.ends c.requires.told c.requires.less

pub returns-clause-cut : goal.returns-clause-cut
returns-clause-cut c =
    let cut = one_cut c.args.c (chars c.args.text.now) (chars c.args.rest.now) c.requires.here in
    (omega arith, record { rest = cut.0; within = cut.1 })
