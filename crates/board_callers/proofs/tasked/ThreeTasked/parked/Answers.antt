use Rattle.std.proofs.Common.{◌*◌, ◌≤◌, arith}
use Rattle.board_callers.proofs.Parks.{parks_three}
use Rattle.board_callers.proofs.tasked.ThreeTasked.parked.Goals as goal

pub overflow_mul-least : goal.overflow_mul-least
overflow_mul-least c = let h : 4 * c.args.taken ≤ 11 = (parks_three c.args.self.now.first c.args.k.0 c.args.taken c.requires.piece c.requires.left).1 in omega arith

pub returns-in_default-clause-task : goal.returns-in_default-clause-task
returns-in_default-clause-task c = (parks_three c.args.self.now.first c.args.k.0 c.args.taken c.requires.piece c.requires.left).0

pub returns-in_default-2-clause-task : goal.returns-in_default-2-clause-task
returns-in_default-2-clause-task c = (parks_three c.args.self.now.first c.args.k.0 c.args.taken c.requires.piece c.requires.left).0
