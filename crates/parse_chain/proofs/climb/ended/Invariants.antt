use Rattle.std.proofs.Common.{◌≡◌, ℕ, length}
use Rattle.cxx_grammar.specs.Read.{read}
use Rattle.parse_chain.specs.Climbs.{climb, Idle}
use Rattle.parse_chain.proofs.climb.ended.Given as goal

abbrev pub invariant-loop-chain : goal.invariant-loop-chain
invariant-loop-chain l =
    (level : ℕ) → Idle l.tokens (read l.tokens level) l.at
    → climb l.tokens (read l.tokens level) l.fn.chains 0 l.fn.start l.fn.x l.at ≡ climb l.tokens (read l.tokens level) l.chains 0 l.start l.x l.at

abbrev pub decreases-loop-chain : goal.decreases-loop-chain
decreases-loop-chain l = length l.chains
