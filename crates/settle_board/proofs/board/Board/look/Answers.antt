use Rattle.std.proofs.Common.{refl, ap}
use Rattle.board_rule.specs.Views.{after_look}
use Rattle.board_rule.specs.declared.view.Entry.TheVariants.{Looks}
use Rattle.settle_board.specs.Boards.{view_of}
use Rattle.settle_board.proofs.Allowed.{may_look, stays}
use Rattle.settle_board.proofs.board.Board.look.Goals as goal

pub load-requires : goal.load-requires
load-requires g c = may_look (λ x. g.M.Meaning.meant x) g.met.M.Meaning.lawful c.args.self.now.table.shared.table_id c.args.self.now.key c.args.self.now.table.shared.key c.args.self.now.keyed c.args.seat.now.seat c.requires.of c.args.k.0 c.requires.piece

pub returns : goal.returns
returns g c = let e = c.load.ensures in let a = c.requires.of in record {
  of = stays (g.M.Meaning.meant c.args.self.now.key.meaning) c.args.self.now.table.shared.table_id c.args.self.now.key c.args.seat.now.seat c.load.new.seat (after_look (Looks c.args.k.0 c.load.result) c.args.k.0 c.load.result (view_of c.args.seat.now)) c.args.seat.now.seat.me.1 a e.0 e.2.0 a.bare refl refl a.hand;
  view = ap (λ x. x.0) e.2.0;
  word = e.2.1.0;
  known = λ h. e.2.1.1 c.args.self.now.key a.about h;
}
