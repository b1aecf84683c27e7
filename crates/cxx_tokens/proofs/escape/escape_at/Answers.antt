use Rattle.cxx_tokens.proofs.Literals.{digits_cut}
use Rattle.cxx_tokens.proofs.escape.escape_at.Goals as goal

pub returns-then-c-eq120-clause-cut : goal.returns-then-c-eq120-clause-cut
returns-then-c-eq120-clause-cut c =
    digits_cut c.args.text.now c.in_ok-c.rest.now c.in_ok-c.c c.run.result c.numeric_escape-then-c-eq120.result c.in_ok-c.ensures c.run.ensures.cut c.numeric_escape-then-c-eq120.ensures.cut
