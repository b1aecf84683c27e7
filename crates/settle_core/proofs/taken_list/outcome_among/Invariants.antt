use Rattle.std.proofs.Common.{◌≡◌, map, drop}
use Rattle.settle_core.specs.Next.{taken_outcome}
use Rattle.settle_core.proofs.taken_list.outcome_among.Given as goal

-- no piece so far is the one that is looked for
abbrev pub invariant-loop-of : goal.invariant-loop-of
invariant-loop-of g l = taken_outcome (map (λ t. (t.0.0, t.1)) (drop l.of-index l.taken)) l.piece.0 ≡ taken_outcome (map (λ t. (t.0.0, t.1)) l.taken) l.piece.0
