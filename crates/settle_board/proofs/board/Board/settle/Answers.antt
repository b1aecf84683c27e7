use Rattle.settle_board.proofs.Allowed.{may_reach_held}
use Rattle.settle_board.proofs.Hands.{some_of}
use Rattle.settle_board.proofs.Stores.{settle_may, settle_ends}
use Rattle.settle_board.specs.Boards.{view_of}
use Rattle.board_rule.specs.Views.{hold_on}
use Rattle.settle_board.proofs.board.Board.settle.Goals as goal

pub load-requires : goal.load-requires
load-requires g c = let h = some_of (hold_on c.args.k.0 (view_of c.args.seat.now).held) c.requires.holds in
    may_reach_held (λ x. g.M.Meaning.meant x) g.met.M.Meaning.lawful c.args.self.now.table.shared.table_id c.args.self.now.key c.args.self.now.table.shared.key c.args.self.now.keyed c.args.seat.now.seat c.requires.of c.args.k.0 c.requires.piece h.0 h.1

pub store-requires : goal.store-requires
store-requires g c = let h = some_of (hold_on c.args.k.0 (view_of c.args.seat.now).held) c.requires.holds in
    settle_may (λ x. g.M.Meaning.meant x) g.met.M.Meaning.lawful c.args.self.now.table.shared.table_id c.args.self.now.key c.args.self.now.table.shared.key c.args.self.now.keyed c.args.seat.now.seat c.requires.of c.args.k.0 c.requires.piece c.load.new.seat c.exchange-empty.new.seat c.load.ensures.0 c.exchange-empty.ensures.0 c.load.ensures.2
    c.args.outcome c.requires.is_outcome c.exchange-empty.ensures.3 h.0 h.1 (c.requires.reads h.0 h.1)

pub returns : goal.returns
returns g c = let h = some_of (hold_on c.args.k.0 (view_of c.args.seat.now).held) c.requires.holds in
    let ends = settle_ends (λ x. g.M.Meaning.meant x) g.met.M.Meaning.lawful c.args.self.now.table.shared.table_id c.args.self.now.key c.args.self.now.table.shared.key c.args.self.now.keyed c.args.seat.now.seat c.requires.of c.args.k.0 c.requires.piece c.load.new.seat c.exchange-empty.new.seat c.load.ensures.0 c.exchange-empty.ensures.0 c.load.ensures.2
    c.args.outcome c.requires.is_outcome c.exchange-empty.ensures.3 in
    let x = ends h.0 h.1 c.store.new.seat c.store.ensures.0 c.store.ensures.2 in record {
      of = x.0;
      view = λ i has. (ends i has c.store.new.seat c.store.ensures.0 c.store.ensures.2).1;
      within = x.2;
    }
