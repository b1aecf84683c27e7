use Rattle.board_callers.proofs.ReadlessFacts.{nothing_parks}
use Rattle.board_callers.proofs.tasked.ReadlessTasked.parked.Goals as goal

pub returns-clause-task : goal.returns-clause-task
returns-clause-task c = nothing_parks c.args.self.now.pieces c.args.k.0 c.args.taken c.requires.left
