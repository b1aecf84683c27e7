use Rattle.std.proofs.Common.{◌-◌}
use Rattle.parse_decl.proofs.levels.+levels.Given as goal

abbrev pub decreases-stmt_at : goal.decreases-stmt_at
decreases-stmt_at l = 257 - l.level

abbrev pub decreases-sub_at : goal.decreases-sub_at
decreases-sub_at l = 257 - l.level

abbrev pub decreases-member_at : goal.decreases-member_at
decreases-member_at l = 257 - l.level
