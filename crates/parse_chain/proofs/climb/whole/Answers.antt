use Rattle.std.proofs.Common.{Option, ap}
use Rattle.parse_chain.specs.declared.open_chain.OpenChains.{OpenChains}
use Rattle.parse_chain.specs.Chains.{all_if}
use Rattle.parse_chain.proofs.Placing.{finishes_alone}
use Rattle.parse_chain.proofs.climb.whole.Goals as goal

pub returns-in-None : goal.returns-in-None
returns-in-None c = λ start. finishes_alone c.args.tokens.now c.args.at start c.args.x (all_if c.args.chains) (ap (λ (o : Option OpenChains). all_if o) c.in-None.is)
