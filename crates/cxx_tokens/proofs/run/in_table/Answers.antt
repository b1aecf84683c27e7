use Rattle.std.proofs.Common.{◌∙◌, false, ap, get_or, length, arith}
use Rattle.cxx_tokens.proofs.Continuing.{table_says}
use Rattle.cxx_tokens.proofs.run.in_table.Goals as goal

pub returns-then-at-continues : goal.returns-then-at-continues
returns-then-at-continues c = ap (λ table. get_or table c.args.byte false) c.requires ∙ table_says c.args.byte (omega (arith, c.ranges.byte))

pub returns-else-at-continues : goal.returns-else-at-continues
returns-else-at-continues c =
    let all = ap length c.requires in
    absurd (omega (arith, all, c.ranges.byte, c.if-at-continues.false))
