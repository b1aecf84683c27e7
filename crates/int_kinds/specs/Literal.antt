-- The kind of an integer literal ([lex.icon]).
use Rattle.std.specs.Prelude.{◌≡◌, ◌≤◌, ◌^◌, ℕ, zero, suc, Bool as Test, not, ◌||◌, pos, int_le, List, [], ◌∷◌, filter, if◌then◌else◌, Option, Some, None}
use Rattle.cxx_base.specs.declared.operator.IntKind.{IntKind}
use Rattle.cxx_base.specs.declared.operator.IntKind.TheVariants.{Int, UInt, Long, ULong, LongLong, ULongLong}
use Rattle.int_kinds.specs.Kind.{is_signed, greatest_of}

-- the kinds from `int` on where no `l` is written, from `long` on with `l`, and from `long long` on with `ll`
abbrev pub kinds_from : ℕ → List IntKind
kinds_from zero = Int ∷ UInt ∷ Long ∷ ULong ∷ LongLong ∷ ULongLong ∷ []
kinds_from (suc zero) = Long ∷ ULong ∷ LongLong ∷ ULongLong ∷ []
kinds_from (suc (suc more)) = LongLong ∷ ULongLong ∷ []

-- With `u` the unsigned kinds; without it the signed ones, and where the literal is not decimal the unsigned ones too.
abbrev pub may_have : Test → Test → IntKind → Test
may_have decimal unsigned kind = if unsigned then not (is_signed kind) else is_signed kind || not decimal

-- the list of the kinds that the base and the suffix leave, in order
abbrev pub literal_kinds : Test → Test → ℕ → List IntKind
literal_kinds decimal unsigned longs = filter (may_have decimal unsigned) (kinds_from longs)

-- the first of the kinds whose greatest value is not below n
abbrev pub first_holding : ℕ → List IntKind → Option IntKind
first_holding n [] = None
first_holding n (kind ∷ others) = if int_le (pos n) (greatest_of kind) then Some kind else first_holding n others

-- The kind of a literal of value n, which has no bound here: decimal or not, with `u` or without, and with so many `l`, of which
-- more than two count as two.
abbrev pub kind_of_literal : Test → Test → ℕ → ℕ → Option IntKind
kind_of_literal decimal unsigned longs n = first_holding n (literal_kinds decimal unsigned longs)

-- no kind holds a value of more than 64 bits
abbrev pub NoKindBeyond : Type 0
NoKindBeyond = (decimal unsigned : Test) (longs n : ℕ) → 2 ^ 64 ≤ n → kind_of_literal decimal unsigned longs n ≡ None
