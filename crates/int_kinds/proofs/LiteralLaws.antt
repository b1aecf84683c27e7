-- The laws of the kinds of literals.
use Rattle.std.proofs.Common.{◌≡◌, ◌<◌, ℕ, zero, suc, Bool, true, false, refl, arith}
use Rattle.std.proofs.lemmas.Bool.Decides.{nat_tests}
use Rattle.int_kinds.specs.Literal.{NoKindBeyond, kind_of_literal}

pub no_kind_beyond : NoKindBeyond
no_kind_beyond true true zero n large = grind (arith, nat_tests)
no_kind_beyond true true (suc zero) n large = grind (arith, nat_tests)
no_kind_beyond true true (suc (suc more)) n large = grind (arith, nat_tests)
no_kind_beyond true false zero n large = grind (arith, nat_tests)
no_kind_beyond true false (suc zero) n large = grind (arith, nat_tests)
no_kind_beyond true false (suc (suc more)) n large = grind (arith, nat_tests)
no_kind_beyond false true zero n large = grind (arith, nat_tests)
no_kind_beyond false true (suc zero) n large = grind (arith, nat_tests)
no_kind_beyond false true (suc (suc more)) n large = grind (arith, nat_tests)
no_kind_beyond false false zero n large = grind (arith, nat_tests)
no_kind_beyond false false (suc zero) n large = grind (arith, nat_tests)
no_kind_beyond false false (suc (suc more)) n large = grind (arith, nat_tests)

-- more than two `l` count as two
pub more_longs : (decimal unsigned : Bool) (longs n : ℕ) → 2 < longs → kind_of_literal decimal unsigned longs n ≡ kind_of_literal decimal unsigned 2 n
more_longs decimal unsigned zero n h = absurd (omega (arith, h))
more_longs decimal unsigned (suc zero) n h = absurd (omega (arith, h))
more_longs decimal unsigned (suc (suc more)) n h = refl
