use Rattle.std.proofs.Common.{◌∷◌, ◌++◌, [], refl, arith}
use Rattle.std.proofs.lemmas.Result.{IfOk-weaker}
use Rattle.parse_chain.specs.Chains.{all}
use Rattle.parse_chain.proofs.Placing.{at_first, turn_by, turn_within, goes_by, begins_by, begins_first}
use Rattle.parse_chain.proofs.climb.placed.Goals as goal

pub loop-inner-init : goal.loop-inner-init
loop-inner-init c = turn_within c.args.tokens.now c.args.at c.args.operator c.requires.there (all c.args.chains) c.args.start c.args.x
    (all c.args.chains) c.parts-outer.result.0 c.parts-outer.result.1 c.args.start c.args.x
    (at_first c.args.tokens.now c.args.at c.args.operator c.requires.there (all c.args.chains) c.args.start c.args.x) c.parts-outer.ensures

pub loop-inner-preserved : goal.loop-inner-preserved
loop-inner-preserved c = turn_within c.args.tokens.now c.args.at c.args.operator c.requires.there (all c.args.chains) c.args.start c.args.x
    c.loop-inner.outer c.pop.new.self c.in-Some.chain c.loop-inner.inner.start c.in_ok-x.x
    (turn_by c.args.tokens.now c.args.at c.args.operator c.requires.there (all c.args.chains) c.args.start c.args.x
    (c.loop-inner.outer ++ c.loop-inner.inner ∷ []) c.loop-inner.outer c.loop-inner.inner c.loop-inner.start c.loop-inner.x c.in_ok-x.x c.loop-inner.invariant refl c.in_ok-x.ensures (omega arith))
    c.in-Some.ensures

pub returns-in-None : goal.returns-in-None
returns-in-None c = IfOk-weaker c.begun.result _ _
    (λ after made. begins_first c.args.tokens.now c.args.at c.args.operator c.requires.there (all c.args.chains) c.args.start c.args.x
    c.loop-inner.outer c.pop.new.self (all after) c.loop-inner.inner.start c.in_ok-x.x
    (turn_by c.args.tokens.now c.args.at c.args.operator c.requires.there (all c.args.chains) c.args.start c.args.x
    (c.loop-inner.outer ++ c.loop-inner.inner ∷ []) c.loop-inner.outer c.loop-inner.inner c.loop-inner.start c.loop-inner.x c.in_ok-x.x c.loop-inner.invariant refl c.in_ok-x.ensures (omega arith))
    c.in-None.ensures.0 c.in-None.ensures.1 made c.requires.line)
    c.begun.ensures

pub returns-then-inner-operator : goal.returns-then-inner-operator
returns-then-inner-operator c = IfOk-weaker c.gone_on.result _ _
    (λ after made. goes_by c.args.tokens.now c.args.at c.args.operator c.requires.there (all c.args.chains) c.args.start c.args.x
    (c.loop-inner.outer ++ c.loop-inner.inner ∷ []) c.loop-inner.outer (all after) c.loop-inner.inner c.loop-inner.start c.loop-inner.x c.loop-inner.invariant refl made (omega arith))
    c.gone_on.ensures

pub returns-else-inner-operator : goal.returns-else-inner-operator
returns-else-inner-operator c = IfOk-weaker c.begun_within.result _ _
    (λ after made. begins_by c.args.tokens.now c.args.at c.args.operator c.requires.there (all c.args.chains) c.args.start c.args.x
    (c.loop-inner.outer ++ c.loop-inner.inner ∷ []) c.loop-inner.outer (c.loop-inner.outer ++ c.loop-inner.inner ∷ []) (all after)
    c.loop-inner.inner c.loop-inner.start c.loop-inner.x c.loop-inner.invariant refl refl made (omega arith))
    c.begun_within.ensures
