use Rattle.std.proofs.Common.{sym, subst, arith}
use Rattle.cxx_tokens.specs.Search.{IsOfTwo}
use Rattle.cxx_tokens.proofs.punctuator.number_of_two.Goals as goal

pub returns-then-next-eq61 : goal.returns-then-next-eq61
returns-then-next-eq61 c less = subst (λ next. IsOfTwo c.args.c next c.number_with_equal.result) (sym c.if-next-eq61.true) (c.number_with_equal.ensures less)

pub returns-then-next-c : goal.returns-then-next-c
returns-then-next-c c less = subst (λ next. IsOfTwo c.args.c next c.number_doubled.result) (sym c.if-next-c.true) (c.number_doubled.ensures less)

pub returns-then-c-eq45 : goal.returns-then-c-eq45
returns-then-c-eq45 c less = subst (λ first. IsOfTwo first c.args.next c.number_of_arrow.result) (sym c.if-c-eq45.true) (c.number_of_arrow.ensures less)

pub returns-else-c-eq45 : goal.returns-else-c-eq45
returns-else-c-eq45 c less = absurd (omega (arith, less))
