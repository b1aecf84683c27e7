use Rattle.settle_board.proofs.Allowed.{may_look_at_stop}
use Rattle.settle_board.proofs.board.Board.stopped.Goals as goal

pub load-found-requires : goal.load-found-requires
load-found-requires g c = may_look_at_stop (λ x. g.M.Meaning.meant x) g.met.M.Meaning.lawful c.args.self.now.table.shared.table_id c.args.self.now.key c.args.self.now.table.shared.key c.args.self.now.keyed c.args.seat.now.seat c.requires.of c.pieces-last.result c.pieces-last.ensures
