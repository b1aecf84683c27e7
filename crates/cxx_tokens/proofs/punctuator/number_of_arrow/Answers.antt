use Rattle.std.proofs.Common.{sym, subst, arith}
use Rattle.cxx_tokens.specs.Search.{IsOfTwo}
use Rattle.cxx_tokens.proofs.ShortMarks.{arrow_is}
use Rattle.cxx_tokens.proofs.punctuator.number_of_arrow.Goals as goal

pub returns-then-next-eq62 : goal.returns-then-next-eq62
returns-then-next-eq62 c less = subst (λ next. IsOfTwo 45 next 14) (sym c.if-next-eq62.true) arrow_is

pub returns-else-next-eq62 : goal.returns-else-next-eq62
returns-else-next-eq62 c less = absurd (omega (arith, less))
