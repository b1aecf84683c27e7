use Rattle.std.proofs.Common.{◌≡◌, map, drop}
use Rattle.outcome_facts.specs.Known.{first_known}
use Rattle.outcome_facts.proofs.known_pieces.outcome_among.Given as goal

-- no piece so far is the one that is looked for
abbrev pub invariant-loop-of : goal.invariant-loop-of
invariant-loop-of l = first_known (map (λ k. (k.0.0, k.1)) (drop l.of-index l.known)) l.piece.0 ≡ first_known (map (λ k. (k.0.0, k.1)) l.known) l.piece.0
