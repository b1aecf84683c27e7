use Rattle.std.proofs.Common.{rules}
use Rattle.cxx_grammar.specs.Lists as spec
use Rattle.cxx_grammar.specs.Read.{read}
use Rattle.parse_list.proofs.arguments.more_args.Goals as goal

pub returns : goal.returns
unfolding spec.more_args
returns g c =
    c.repeat.ensures.gives (spec.next_arg c.args.reader.now.tokens.now (read c.args.reader.now.tokens.now c.args.reader.now.level)) (record { reads = λ i r h. search rules })
