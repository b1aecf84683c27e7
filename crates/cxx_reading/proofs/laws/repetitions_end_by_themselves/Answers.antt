use Rattle.std.proofs.Common.{arith}
use Rattle.cxx_reading.specs.Reading.{left}
use Rattle.cxx_reading.proofs.Bounds.{same_turns, ends_at_nothing}
use Rattle.cxx_reading.proofs.laws.repetitions_end_by_themselves.Goals as goal

pub returns-clause-bound : goal.returns-clause-bound
returns-clause-bound g c = λ p rises needs n x i h. same_turns c.args.tokens.now p rises needs n (left c.args.tokens.now i) x i h (omega arith)

pub returns-clause-end : goal.returns-clause-end
returns-clause-end g c = λ p rises needs x y i j e. ends_at_nothing c.args.tokens.now p rises needs (left c.args.tokens.now i) x y i j (omega arith) e
