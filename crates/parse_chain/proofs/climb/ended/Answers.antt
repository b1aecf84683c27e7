use Rattle.parse_chain.proofs.Placing.{end_by, finished_by}
use Rattle.parse_chain.proofs.climb.ended.Goals as goal

pub loop-chain-preserved : goal.loop-chain-preserved
loop-chain-preserved c = end_by c.args.tokens.now c.args.at c.args.chains c.args.start c.args.x
    c.loop-chain.chains c.pop.new.self c.in-Some.chain c.loop-chain.start c.loop-chain.x c.in_ok-x.x c.loop-chain.invariant c.in-Some.ensures c.in_ok-x.ensures

pub returns : goal.returns
returns c = finished_by c.args.tokens.now c.args.at c.args.chains c.args.start c.args.x
    c.loop-chain.chains c.loop-chain.start c.loop-chain.x c.loop-chain.invariant c.in_default.ensures.0
