use Rattle.board_callers.proofs.Parks.{parks_chain}
use Rattle.board_callers.proofs.tasked.ChainTasked.parked.Goals as goal

pub returns-clause-task : goal.returns-clause-task
returns-clause-task c = parks_chain c.args.self.now.pieces c.args.k.0 c.args.taken c.requires.left
