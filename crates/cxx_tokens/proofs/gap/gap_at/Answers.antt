use Rattle.cxx_tokens.proofs.Composed.{cuts_from_one_before}
use Rattle.cxx_tokens.proofs.gap.gap_at.Goals as goal

pub returns-then-is_first-clause-cut : goal.returns-then-is_first-clause-cut
returns-then-is_first-clause-cut c = cuts_from_one_before c.args.text.now c.in-Some.rest.now c.in-Some.c c.skipped_line.result c.in-Some.ensures c.skipped_line.ensures.cut
