use Rattle.std.proofs.Common.{◌≡◌, ◌-◌, length}
use Rattle.cxx_grammar.specs.Joined.{climbed}
use Rattle.cxx_grammar.specs.Read.{read}
use Rattle.parse_chain.specs.Chains.{all_if}
use Rattle.parse_chain.specs.Climbs.{climb}
use Rattle.parse_chain.proofs.climb.climbed_on.Given as goal

abbrev pub invariant-loop-operator : goal.invariant-loop-operator
invariant-loop-operator g l =
    let tokens = l.reader.tokens.now in
    let deeper = read tokens l.reader.level in
    climbed tokens deeper 10 l.fn.start l.fn.x l.fn.at ≡ climb tokens deeper (all_if l.chains) 0 l.start l.x l.at

abbrev pub decreases-loop-operator : goal.decreases-loop-operator
decreases-loop-operator g l = length l.reader.tokens.now.list - l.at
