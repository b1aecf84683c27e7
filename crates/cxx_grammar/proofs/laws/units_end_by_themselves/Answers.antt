use Rattle.std.proofs.Common.{arith}
use Rattle.cxx_reading.specs.Reading.{left}
use Rattle.cxx_grammar.proofs.Items.{same_units, unit_is_decided}
use Rattle.cxx_grammar.proofs.laws.units_end_by_themselves.Goals as goal

pub returns-clause-bound : goal.returns-clause-bound
returns-clause-bound c = λ n heads found i h. same_units c.args.tokens.now n (left c.args.tokens.now i) heads found i h (omega arith)

pub returns-clause-decided : goal.returns-clause-decided
returns-clause-decided c = unit_is_decided c.args.tokens.now
