use Rattle.std.proofs.Common.{refl, ◌∙◌, true, Some}
use Rattle.board_rule.specs.Views.{with_hand, task_hold, after_claim}
use Rattle.board_rule.specs.declared.home.Home.TheVariants.{Task}
use Rattle.board_rule.specs.declared.view.Entry.TheVariants.{ClaimsParked}
use Rattle.board_rule.proofs.Maps.{hold_here}
use Rattle.settle_board.specs.Boards.{view_of}
use Rattle.settle_board.proofs.Allowed.{may_resume}
use Rattle.settle_board.proofs.Hands.{resumed_at, in_front}
use Rattle.settle_board.proofs.Stores.{leave_held_may}
use Rattle.settle_board.proofs.board.Board.resume.Goals as goal

pub compare_exchange-found-requires : goal.compare_exchange-found-requires
compare_exchange-found-requires g c = may_resume (λ x. g.M.Meaning.meant x) g.met.M.Meaning.lawful c.args.self.now.table.shared.table_id c.args.self.now.key c.args.self.now.table.shared.key c.args.self.now.keyed c.args.seat.now.seat c.requires.of c.args.k.0 c.requires.piece c.args.word c.requires.parked c.requires.seen

pub exchange-home-requires : goal.exchange-home-requires
exchange-home-requires g c = let q = resumed_at (λ x. g.M.Meaning.meant x) c.args.self.now.key c.args.k.0 c.args.self.now.table.shared.table_id.slots c.args.word c.compare_exchange-found.result c.args.seat.now.seat.me c.compare_exchange-found.new.seat.me c.requires.of.about c.if-found-word.false c.compare_exchange-found.ensures.2 in
    (c.compare_exchange-found.ensures.0 ∙ c.requires.of.at, in_front c.compare_exchange-found.new.seat.me (with_hand (Some c.args.k.0) (after_claim (ClaimsParked c.args.k.0 c.compare_exchange-found.result true) (task_hold c.args.k.0 q.0) (view_of c.args.seat.now))) c.args.k.0 (Task q.0) c.args.seat.now.seat.me.1 q.3)

pub load-requires : goal.load-requires
load-requires g c = let q = resumed_at (λ x. g.M.Meaning.meant x) c.args.self.now.key c.args.k.0 c.args.self.now.table.shared.table_id.slots c.args.word c.compare_exchange-found.result c.args.seat.now.seat.me c.compare_exchange-found.new.seat.me c.requires.of.about c.if-found-word.false c.compare_exchange-found.ensures.2 in
    leave_held_may (λ x. g.M.Meaning.meant x) g.met.M.Meaning.lawful c.args.self.now.table.shared.table_id c.args.self.now.key c.args.self.now.table.shared.key c.args.self.now.keyed c.args.seat.now.seat c.requires.of c.args.k.0 c.requires.piece c.compare_exchange-found.new.seat c.exchange-home.new.seat c.compare_exchange-found.ensures.0 c.exchange-home.ensures.0
    (Task q.0) (after_claim (ClaimsParked c.args.k.0 c.compare_exchange-found.result true) (task_hold c.args.k.0 q.0) (view_of c.args.seat.now)) q.3 c.exchange-home.ensures.3 c.requires.of.share (task_hold c.args.k.0 q.0) (hold_here (task_hold c.args.k.0 q.0) (view_of c.args.seat.now).held c.args.k.0 refl)
