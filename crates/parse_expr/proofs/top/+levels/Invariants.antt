use Rattle.std.proofs.Common.{◌-◌}
use Rattle.parse_expr.proofs.top.+levels.Given as goal

abbrev pub decreases-expression : goal.decreases-expression
decreases-expression l = 257 - l.level

abbrev pub decreases-type_at : goal.decreases-type_at
decreases-type_at l = 257 - l.level

abbrev pub decreases-braced_at : goal.decreases-braced_at
decreases-braced_at l = 257 - l.level

abbrev pub decreases-unary_at : goal.decreases-unary_at
decreases-unary_at l = 257 - l.level

abbrev pub decreases-sized_at : goal.decreases-sized_at
decreases-sized_at l = 257 - l.level
