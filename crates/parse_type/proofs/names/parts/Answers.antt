use Rattle.std.proofs.Common.{rules}
use Rattle.cxx_grammar.specs.Names as spec
use Rattle.parse_type.proofs.names.parts.Goals as goal

pub returns : goal.returns
unfolding spec.parts
returns c = c.repeat.ensures.gives (spec.part c.args.tokens.now) (record { reads = λ i r h. search rules })
