use Rattle.std.proofs.lemmas.Result.{IfOk-weaker}
use Rattle.parse_chain.specs.Chains.{all}
use Rattle.parse_chain.proofs.Placing.{first_places}
use Rattle.parse_chain.proofs.climb.first.Goals as goal

pub returns : goal.returns
returns c = IfOk-weaker c.begun.result _ _
    (λ after made. first_places c.args.tokens.now c.args.at c.args.operator c.requires.there c.requires.line c.args.start c.args.x c.new.result (all after) c.new.ensures made)
    c.begun.ensures
