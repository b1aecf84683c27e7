use Rattle.settle_board.proofs.Allowed.{may_claim}
use Rattle.settle_board.proofs.board.Board.claim_fresh.Goals as goal

pub compare_exchange-requires : goal.compare_exchange-requires
compare_exchange-requires g c = may_claim (λ x. g.M.Meaning.meant x) g.met.M.Meaning.lawful c.args.self.now.table.shared.table_id c.args.self.now.key c.args.self.now.table.shared.key c.args.self.now.keyed c.args.seat.now.seat c.requires.of c.args.k.0 c.requires.piece
