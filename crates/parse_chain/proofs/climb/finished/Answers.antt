use Rattle.std.proofs.lemmas.Result.{IfOk-weaker}
use Rattle.parse_chain.specs.Chains.{all}
use Rattle.parse_chain.proofs.Placing.{finishes_within}
use Rattle.parse_chain.proofs.climb.finished.Goals as goal

pub returns : goal.returns
returns c = λ start. IfOk-weaker c.ended.result _ _
    (λ made f. finishes_within c.args.tokens.now c.args.at (all c.args.chains) c.parts-outer.result.0 c.parts-outer.result.1 start c.args.x c.in_ok-x.x made c.parts-outer.ensures c.in_ok-x.ensures f)
    c.ended.ensures
