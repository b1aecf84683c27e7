use Rattle.std.proofs.Common.{rules, subst, length}
use Rattle.board_callers.specs.Ends.{IsReady, HasEnded}
use Rattle.board_callers.proofs.HandLists.{each_at, by_places}
use Rattle.board_callers.proofs.together.work_all.Goals as goal

pub for_each_mut-requires-clause-accepts : goal.for_each_mut-requires-clause-accepts
for_each_mut-requires-clause-accepts g c κs within = λ i p inside e. (c.requires.meaning, each_at (IsReady (λ x. g.M.Meaning.meant x) c.args.board.now) c.args.hands.now c.requires.ready i p.now inside e)

pub returns-clause-ended : goal.returns-clause-ended
returns-clause-ended g c = by_places (HasEnded (λ x. g.M.Meaning.meant x) c.args.board.now) c.for_each_mut.new.s (length c.args.hands.now) (search rules)
    (λ i d inside. let at = (c.for_each_mut.ensures i d inside).1 in subst (HasEnded (λ x. g.M.Meaning.meant x) c.args.board.now) at.left at.call)
