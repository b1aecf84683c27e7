use Rattle.settle_board.proofs.Allowed.{may_stop}
use Rattle.settle_board.proofs.board.Board.stop.Goals as goal

pub store-requires : goal.store-requires
store-requires g c = may_stop (λ x. g.M.Meaning.meant x) g.met.M.Meaning.lawful c.args.self.now.table.shared.table_id c.args.self.now.key c.args.self.now.table.shared.key c.args.self.now.keyed c.args.seat.now.seat c.requires.of c.pieces-last.result c.pieces-last.ensures
