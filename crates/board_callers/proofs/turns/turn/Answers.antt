use Rattle.settle_board.specs.Boards.{view_of}
use Rattle.board_callers.proofs.Searched.{fresh_worked, parked_worked}
use Rattle.board_callers.proofs.Looked.{turn_saw_all, turn_waits}
use Rattle.board_callers.proofs.turns.turn.Goals as goal

pub returns-in-Ok-clause-turn : goal.returns-in-Ok-clause-turn
returns-in-Ok-clause-turn g c = fresh_worked (g.M.Meaning.meant c.args.board.now.key.meaning) (view_of c.args.seat.now) (view_of c.search.new.seat) c.requires.idle c.args.pick c.args.pieces c.requires.pick c.in-Fresh.k (view_of c.work.new.seat) c.in-Fresh.ensures.found c.in-Ok.ensures.worked

pub returns-in-Ok-work-clause-turn : goal.returns-in-Ok-work-clause-turn
returns-in-Ok-work-clause-turn g c = parked_worked (g.M.Meaning.meant c.args.board.now.key.meaning) (view_of c.args.seat.now) (view_of c.search.new.seat) c.requires.idle c.args.pick c.args.pieces c.requires.pick c.in-Parked.k c.in-Parked.task (view_of c.work-in-Parked.new.seat) c.in-Parked.ensures.found c.in-Ok-work.ensures.worked

pub returns-then-sees_all-clause-turn : goal.returns-then-sees_all-clause-turn
returns-then-sees_all-clause-turn g c = let t = turn_saw_all (g.M.Meaning.meant c.args.board.now.key.meaning) c.args.pick c.args.pieces (view_of c.args.seat.now) (view_of c.search.new.seat) (view_of c.sees_all.new.seat) c.in-Nothing.ensures.found c.sees_all.result c.sees_all.ensures.looks c.if-sees_all.true in
    (c.sees_all.ensures.idle, c.sees_all.ensures.all c.if-sees_all.true, t.0, t.1, t.2, t.3)

pub returns-else-sees_all-clause-turn : goal.returns-else-sees_all-clause-turn
returns-else-sees_all-clause-turn g c = let t = turn_waits (g.M.Meaning.meant c.args.board.now.key.meaning) c.args.pick c.args.pieces (view_of c.args.seat.now) (view_of c.search.new.seat) (view_of c.sees_all.new.seat) c.in-Nothing.ensures.found c.sees_all.result c.sees_all.ensures.looks c.requires.pick c.if-sees_all.false in
    (c.sees_all.ensures.idle, t.0, t.1, t.2, t.3, t.4)
