use Rattle.settle_board.proofs.Allowed.{may_reach_lent}
use Rattle.settle_board.proofs.Stores.{give_may, give_ends}
use Rattle.settle_board.proofs.board.Board.give_back.Goals as goal

pub load-requires : goal.load-requires
load-requires g c = may_reach_lent (λ x. g.M.Meaning.meant x) g.met.M.Meaning.lawful c.args.self.now.table.shared.table_id c.args.self.now.key c.args.self.now.table.shared.key c.args.self.now.keyed c.args.seat.now.seat c.requires.of c.args.j.0 c.requires.piece c.requires.is_lent

pub store-requires : goal.store-requires
store-requires g c = give_may (λ x. g.M.Meaning.meant x) g.met.M.Meaning.lawful c.args.self.now.table.shared.table_id c.args.self.now.key c.args.self.now.table.shared.key c.args.self.now.keyed c.args.seat.now.seat c.requires.of c.args.j.0 c.requires.piece c.load.new.seat c.exchange-empty.new.seat c.load.ensures.0 c.exchange-empty.ensures.0 c.load.ensures.2
    c.args.outcome c.requires.is_outcome c.exchange-empty.ensures.3 c.requires.is_lent

pub returns : goal.returns
returns g c = let x = give_ends (λ x. g.M.Meaning.meant x) g.met.M.Meaning.lawful c.args.self.now.table.shared.table_id c.args.self.now.key c.args.self.now.table.shared.key c.args.self.now.keyed c.args.seat.now.seat c.requires.of c.args.j.0 c.requires.piece c.load.new.seat c.exchange-empty.new.seat c.load.ensures.0 c.exchange-empty.ensures.0 c.load.ensures.2
    c.args.outcome c.requires.is_outcome c.exchange-empty.ensures.3 c.requires.is_lent c.store.new.seat c.store.ensures.0 c.store.ensures.2 in record { of = x.0; view = x.1 }
