use Rattle.std.proofs.Common.{chars, arith}
use Rattle.std.proofs.lemmas.Bool.{ne_eqb}
use Rattle.cxx_tokens.proofs.ShortMarks.{two_told, two_cut}
use Rattle.cxx_tokens.proofs.punctuator.two_mark.Goals as goal

pub returns-clause-punctuator : goal.returns-clause-punctuator
returns-clause-punctuator c =
    two_told c.args.c c.args.next c.args.third c.args.number (chars c.args.text.now) (chars c.args.rest.now) (chars c.args.behind.now) (chars c.args.more.now)
    c.requires.here c.requires.behind_it c.requires.last (ne_eqb c.args.third 61 c.requires.ends) (c.requires.told c.requires.less)

pub returns-clause-cut : goal.returns-clause-cut
returns-clause-cut c =
    let cut = two_cut c.args.c c.args.next (chars c.args.text.now) (chars c.args.rest.now) (chars c.args.behind.now) c.requires.here c.requires.behind_it in
    (omega arith, record { rest = cut.0; within = cut.1 })
