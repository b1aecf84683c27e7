use Rattle.std.proofs.Common.{◌∙◌, sym, ap, length}
use lib.ListN.{get_elem?}
use Rattle.std.proofs.lemmas.List.{with_items_is}
use Rattle.settle_samples.specs.declared.behind.Behind.{Behind}
use Rattle.board_callers.specs.Ends.{HasEnded}
use Rattle.board_callers.proofs.HandLists.{written_back}
use Rattle.board_callers.proofs.together.settle_all.Goals as goal

pub work_all-requires-clause-ready : goal.work_all-requires-clause-ready
work_all-requires-clause-ready g c κs within = λ i h e. c.in_ok-seats.ensures.hands.0 i h (ap (λ l. get_elem? l i) (sym c.as_mut_slice.ensures.value) ∙ e)

pub take_back-requires-clause-ended : goal.take_back-requires-clause-ended
take_back-requires-clause-ended g c = written_back (HasEnded (λ (x : Behind g.row.M.Denot). g.M.Meaning.meant x.meaning.now) c.in_ok-board.board) c.in_ok-seats.hands c.work_all.new.hands (c.work_all.ensures.count ∙ c.as_mut_slice.ensures.len) c.work_all.ensures.ended

pub close-requires-clause-all : goal.close-requires-clause-all
close-requires-clause-all g c = c.in-Some.ensures.all ∙ (ap length (with_items_is c.in_ok-seats.hands c.work_all.new.hands (c.work_all.ensures.count ∙ c.as_mut_slice.ensures.len))
    ∙ (c.work_all.ensures.count ∙ (ap length c.as_mut_slice.ensures.value ∙ (c.in_ok-seats.ensures.hands.1 ∙ sym c.in_ok-board.ensures.seats.0))))
