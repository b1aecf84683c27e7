use Rattle.std.proofs.Common.{rules}
use Rattle.cxx_grammar.specs.Postfixes as spec
use Rattle.cxx_grammar.specs.Read.{read}
use Rattle.parse_primary.proofs.suffixes.suffixes.Goals as goal

pub returns : goal.returns
unfolding spec.suffixes
returns g c =
    c.repeat.ensures.gives (spec.suffix c.args.reader.now.tokens.now (read c.args.reader.now.tokens.now c.args.reader.now.level)) (record { reads = λ i r h. search rules })
