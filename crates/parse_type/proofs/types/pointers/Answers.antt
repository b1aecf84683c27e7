use Rattle.std.proofs.Common.{rules}
use Rattle.cxx_grammar.specs.Types as spec
use Rattle.parse_type.proofs.types.pointers.Goals as goal

pub returns : goal.returns
unfolding spec.pointers
returns c = c.repeat.ensures.gives (spec.pointer c.args.tokens.now) (record { reads = λ i r h. search rules })
