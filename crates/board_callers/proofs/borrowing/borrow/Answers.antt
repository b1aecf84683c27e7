use Rattle.std.proofs.Common.{refl}
use Rattle.settle_board.specs.Boards.{view_of}
use Rattle.board_callers.proofs.Loans.{borrow_open, borrow_busy}
use Rattle.board_callers.proofs.borrowing.borrow.Goals as goal

pub returns-in-NotSettled-clause-says : goal.returns-in-NotSettled-clause-says
returns-in-NotSettled-clause-says g c = let b = borrow_open (g.M.Meaning.meant c.args.board.now.key.meaning) c.args.j.0 (view_of c.args.seat.now) (view_of c.lend.new.seat) c.requires.none_lent c.in-NotSettled.field-0 c.in-NotSettled.ensures.answer in
    (b.0, b.1, b.2, refl, b.3, b.4)

pub returns-in-Busy-clause-says : goal.returns-in-Busy-clause-says
returns-in-Busy-clause-says g c = let b = borrow_busy (g.M.Meaning.meant c.args.board.now.key.meaning) c.args.j.0 (view_of c.args.seat.now) (view_of c.lend.new.seat) c.requires.none_lent c.in-Busy.field-0 c.in-Busy.ensures.answer in
    (b.0, b.1, b.2, refl)
