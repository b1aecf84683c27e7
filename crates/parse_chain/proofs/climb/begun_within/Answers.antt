use Rattle.std.proofs.Common.{List, ◌++◌, ◌∷◌, [], ap, ◌∙◌}
use Rattle.std.proofs.lemmas.Result.{IfOk-weaker}
use Rattle.parse_chain.specs.declared.open_chain.OpenChain.{OpenChain}
use Rattle.parse_chain.specs.Chains.{opened}
use Rattle.parse_chain.proofs.climb.begun_within.Goals as goal

pub returns : goal.returns
returns c = IfOk-weaker c.begun.result _ _
    (λ after made. made ∙ ap (λ (l : List OpenChain). l ++ opened c.args.operator c.args.start c.args.x c.args.at ∷ []) c.in_ok-push.ensures.ok)
    c.begun.ensures
