use Rattle.std.proofs.Common.{chars, arith}
use Rattle.cxx_tokens.proofs.LoneMarks.{lone_is_mark}
use Rattle.cxx_tokens.proofs.ShortMarks.{alone_is, one_cut}
use Rattle.cxx_tokens.proofs.punctuator.lone_mark.Goals as goal

pub returns-clause-mark : goal.returns-clause-mark
returns-clause-mark c = lone_is_mark c.args.c c.args.number c.requires.told c.requires.less

pub returns-clause-punctuator : goal.returns-clause-punctuator
returns-clause-punctuator c = alone_is c.args.c c.args.number (chars c.args.text.now) (chars c.args.rest.now) c.requires.here c.requires.told c.requires.less

pub returns-clause-cut : goal.returns-clause-cut
returns-clause-cut c =
    let cut = one_cut c.args.c (chars c.args.text.now) (chars c.args.rest.now) c.requires.here in
    (omega arith, record { rest = cut.0; within = cut.1 })
