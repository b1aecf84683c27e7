use Rattle.std.proofs.Common.{[], ◌∷◌, ◌++◌, ap, ◌∙◌, arith, inl}
use Rattle.board_rule.specs.declared.view.Entry.TheVariants.{LooksAtStop}
use Rattle.settle_board.specs.Boards.{view_of}
use Rattle.settle_board.proofs.Callers.{looks_at_stop}
use Rattle.board_callers.proofs.PieceWork.{still_idle}
use Rattle.board_callers.proofs.round.take_turns.Goals as goal

pub returns-then-stopped-clause-end : goal.returns-then-stopped-clause-end
returns-then-stopped-clause-end g c = let v = view_of c.loop.seat in let w = view_of c.stopped.new.seat in let e = c.stopped.ensures.view in let b = looks_at_stop e.0 v w e.1 in
    let one = e.3.0 c.if-stopped.true in (still_idle v w _ c.loop.invariant.idle b.0, b.1 one, inl (v.trail, [], b.0.trail ∙ ap (λ r. v.trail ++ LooksAtStop r ∷ []) one))

pub returns-in-SawAll-clause-end : goal.returns-in-SawAll-clause-end
returns-in-SawAll-clause-end g c = let h = c.in-SawAll.ensures.turn in let all = c.loop.invariant.all in (h.0, λ k l. h.1 k (omega arith))
