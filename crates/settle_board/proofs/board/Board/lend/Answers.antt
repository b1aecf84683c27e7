use Rattle.std.proofs.Common.{refl, ◌∙◌, Some}
use Rattle.settle_core.specs.Meant.{outcome}
use Rattle.board_rule.specs.Views.{with_hand, after_lend}
use Rattle.board_rule.specs.declared.home.Home.TheVariants.{Outcome}
use Rattle.settle_board.specs.Boards.{view_of}
use Rattle.settle_board.proofs.Allowed.{may_lend}
use Rattle.settle_board.proofs.Hands.{lent_at, in_front, exchanged_from}
use Rattle.settle_board.proofs.Stores.{leave_lent_may, leave_ends}
use Rattle.settle_board.proofs.board.Board.lend.Goals as goal

pub compare_exchange-found-requires : goal.compare_exchange-found-requires
compare_exchange-found-requires g c = may_lend (λ x. g.M.Meaning.meant x) g.met.M.Meaning.lawful c.args.self.now.table.shared.table_id c.args.self.now.key c.args.self.now.table.shared.key c.args.self.now.keyed c.args.seat.now.seat c.requires.of c.args.j.0 c.requires.piece c.requires.none_lent

pub exchange-home-requires : goal.exchange-home-requires
exchange-home-requires g c = let q = lent_at (λ x. g.M.Meaning.meant x) c.args.self.now.key c.args.j.0 c.args.self.now.table.shared.table_id.slots c.compare_exchange-found.result c.args.seat.now.seat.me c.compare_exchange-found.new.seat.me c.requires.of.about c.if-found-ne3.false c.compare_exchange-found.ensures.2 in
    (c.compare_exchange-found.ensures.0 ∙ c.requires.of.at, in_front c.compare_exchange-found.new.seat.me (with_hand (Some c.args.j.0) (after_lend c.args.j.0 (view_of c.args.seat.now))) c.args.j.0 (Outcome (outcome (g.M.Meaning.meant c.args.self.now.key.meaning) c.args.j.0)) c.args.seat.now.seat.me.1 q)

pub load-requires : goal.load-requires
load-requires g c = let q = lent_at (λ x. g.M.Meaning.meant x) c.args.self.now.key c.args.j.0 c.args.self.now.table.shared.table_id.slots c.compare_exchange-found.result c.args.seat.now.seat.me c.compare_exchange-found.new.seat.me c.requires.of.about c.if-found-ne3.false c.compare_exchange-found.ensures.2 in
    leave_lent_may (λ x. g.M.Meaning.meant x) g.met.M.Meaning.lawful c.args.self.now.table.shared.table_id c.args.self.now.key c.args.self.now.table.shared.key c.args.self.now.keyed c.args.seat.now.seat c.requires.of c.args.j.0 c.requires.piece c.compare_exchange-found.new.seat c.exchange-home.new.seat c.compare_exchange-found.ensures.0 c.exchange-home.ensures.0
    (Outcome (outcome (g.M.Meaning.meant c.args.self.now.key.meaning) c.args.j.0)) (after_lend c.args.j.0 (view_of c.args.seat.now)) q c.exchange-home.ensures.3 c.requires.of.share refl

pub unreachable-requires : goal.unreachable-requires
unreachable-requires g c = let q = lent_at (λ x. g.M.Meaning.meant x) c.args.self.now.key c.args.j.0 c.args.self.now.table.shared.table_id.slots c.compare_exchange-found.result c.args.seat.now.seat.me c.compare_exchange-found.new.seat.me c.requires.of.about c.if-found-ne3.false c.compare_exchange-found.ensures.2 in
    c.in_default.not-Outcome (outcome (g.M.Meaning.meant c.args.self.now.key.meaning) c.args.j.0)
    (exchanged_from c.compare_exchange-found.new.seat.me (with_hand (Some c.args.j.0) (after_lend c.args.j.0 (view_of c.args.seat.now))) c.args.j.0 (Outcome (outcome (g.M.Meaning.meant c.args.self.now.key.meaning) c.args.j.0)) c.args.seat.now.seat.me.1 q c.exchange-home.result c.exchange-home.ensures.2)

pub returns-clause-of : goal.returns-clause-of
returns-clause-of g c = let q = lent_at (λ x. g.M.Meaning.meant x) c.args.self.now.key c.args.j.0 c.args.self.now.table.shared.table_id.slots c.compare_exchange-found.result c.args.seat.now.seat.me c.compare_exchange-found.new.seat.me c.requires.of.about c.if-found-ne3.false c.compare_exchange-found.ensures.2 in
    (leave_ends (λ x. g.M.Meaning.meant x) g.met.M.Meaning.lawful c.args.self.now.table.shared.table_id c.args.self.now.key c.args.self.now.table.shared.key c.args.self.now.keyed c.args.seat.now.seat c.requires.of c.args.j.0 c.requires.piece c.compare_exchange-found.new.seat c.exchange-home.new.seat c.compare_exchange-found.ensures.0 c.exchange-home.ensures.0
    (Outcome (outcome (g.M.Meaning.meant c.args.self.now.key.meaning) c.args.j.0)) (after_lend c.args.j.0 (view_of c.args.seat.now)) q c.exchange-home.ensures.3 c.requires.of.share c.requires.of.about c.requires.of.hand c.load.new.seat c.load.ensures.0 c.load.ensures.2).0
