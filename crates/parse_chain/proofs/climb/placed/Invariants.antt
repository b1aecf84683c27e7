use Rattle.std.proofs.Common.{◌≡◌, ℕ, ◌∷◌, ◌++◌, [], length}
use Rattle.cxx_grammar.specs.Read.{read}
use Rattle.parse_chain.specs.Chains.{all}
use Rattle.parse_chain.specs.Climbs.{climb}
use Rattle.parse_chain.proofs.climb.placed.Given as goal

abbrev pub invariant-loop-inner : goal.invariant-loop-inner
invariant-loop-inner l =
    (level : ℕ) → climb l.tokens (read l.tokens level) (all l.fn.chains) 0 l.fn.start l.fn.x l.at ≡ climb l.tokens (read l.tokens level) (l.outer ++ l.inner ∷ []) l.operator.line l.start l.x l.at

abbrev pub decreases-loop-inner : goal.decreases-loop-inner
decreases-loop-inner l = length l.outer
