-- The names and the texts of refusals.
use Rattle.std.specs.Prelude.{ℕ, List, [], ◌∷◌, ◌++◌, ◌==◌, if◌then◌else◌, codes, decimal}
use Rattle.cxx_base.specs.Texts.{Text}
use Rattle.cxx_base.specs.declared.limits.TheConstants.{MAX_SOURCE, MAX_NESTING, MAX_PIECES, MAX_UNITS}
use Rattle.cxx_base.specs.declared.cause.TheConstants as cause
use Rattle.cxx_base.specs.declared.code.Code.{Code}
use Rattle.cxx_base.specs.declared.code.Code.TheVariants.{L1, L2, L3, L4, L5, L6, S1, S2, P1, P2, N1, N2, N3, N4, N5, T1, T2, T3, T4, T5, T6, T7, T8, T9, T10, V1, V2, V3, V4, V5, V6, V7, V8, V9, V10, V11, V12, V13, V14, V15, M1, M2, M3, M4, M5, M6, M7, R1}

-- the letter and the number of a code
abbrev pub code_name : Code → Text
code_name L1 = codes "L1"
code_name L2 = codes "L2"
code_name L3 = codes "L3"
code_name L4 = codes "L4"
code_name L5 = codes "L5"
code_name L6 = codes "L6"
code_name S1 = codes "S1"
code_name S2 = codes "S2"
code_name P1 = codes "P1"
code_name P2 = codes "P2"
code_name N1 = codes "N1"
code_name N2 = codes "N2"
code_name N3 = codes "N3"
code_name N4 = codes "N4"
code_name N5 = codes "N5"
code_name T1 = codes "T1"
code_name T2 = codes "T2"
code_name T3 = codes "T3"
code_name T4 = codes "T4"
code_name T5 = codes "T5"
code_name T6 = codes "T6"
code_name T7 = codes "T7"
code_name T8 = codes "T8"
code_name T9 = codes "T9"
code_name T10 = codes "T10"
code_name V1 = codes "V1"
code_name V2 = codes "V2"
code_name V3 = codes "V3"
code_name V4 = codes "V4"
code_name V5 = codes "V5"
code_name V6 = codes "V6"
code_name V7 = codes "V7"
code_name V8 = codes "V8"
code_name V9 = codes "V9"
code_name V10 = codes "V10"
code_name V11 = codes "V11"
code_name V12 = codes "V12"
code_name V13 = codes "V13"
code_name V14 = codes "V14"
code_name V15 = codes "V15"
code_name M1 = codes "M1"
code_name M2 = codes "M2"
code_name M3 = codes "M3"
code_name M4 = codes "M4"
code_name M5 = codes "M5"
code_name M6 = codes "M6"
code_name M7 = codes "M7"
code_name R1 = codes "R1"

-- the text that stands beside a detail, or the last one where none does
abbrev pub text_of_cause : List (ℕ × Text) → Text → ℕ → Text
text_of_cause [] last detail = last
text_of_cause (known ∷ more) last detail = if detail == known.0 then known.1 else text_of_cause more last detail

-- why an operation of whole numbers has no value: the last text is that of `SHIFT_COUNT`, and of any greater number
abbrev pub arithmetic_cause : ℕ → Text
arithmetic_cause detail =
    text_of_cause
    ((cause.SIGNED_OVERFLOW, codes "signed overflow") ∷ (cause.DIVISION_BY_ZERO, codes "division by zero")
    ∷ (cause.LEAST_BY_MINUS_ONE, codes "least value divided by -1") ∷ [])
    (codes "shift count out of range") detail

-- why a call has no value: the last text is that of `ENDED_WITHOUT_VALUE`, and of any greater number
abbrev pub call_cause : ℕ → Text
call_cause detail =
    text_of_cause
    ((cause.NOT_CONSTEXPR, codes "function is not constexpr") ∷ (cause.NOT_DEFINED_YET, codes "no definition before this point") ∷ [])
    (codes "function ended without a value") detail

-- what the report says of a refusal; the line has ` is refused` behind the piece that is refused
abbrev pub text : Code → ℕ → Text
text L1 detail = codes "source is not UTF-8"
text L2 detail = codes "no token begins here"
text L3 detail = codes "integer literal is too large"
text L4 detail = codes "literal or comment does not end"
text L5 detail = codes "identifier is too long or not in normalization form C"
text L6 detail = codes "source is longer than " ++ decimal MAX_SOURCE ++ codes " bytes"
text S1 detail = codes "syntax error"
text S2 detail = codes "nesting is deeper than " ++ decimal MAX_NESTING
text P1 detail = codes "more than " ++ decimal MAX_PIECES ++ codes " pieces"
text P2 detail = codes "more than " ++ decimal MAX_UNITS ++ codes " units"
text N1 detail = codes "name is not declared"
text N2 detail = codes "name is declared twice"
text N3 detail = codes "name is of another kind"
text N4 detail = codes "no such member"
text N5 detail = codes "member is not accessible"
text T1 detail = codes "no conversion"
text T2 detail = codes "wrong number of arguments"
text T3 detail = codes "operand type does not fit"
text T4 detail = codes "class is not complete"
text T5 detail = codes "not modifiable or declared otherwise"
text T6 detail = codes "narrowing conversion"
text T7 detail = codes "object of a consteval-only type is not allowed here"
text T8 detail = codes "declaration is outside the profile"
text T9 detail = codes "array bound out of range"
text T10 detail = codes "object is too large"
text V1 detail = arithmetic_cause detail
text V2 detail = codes "outside the bounds of the object"
text V3 detail = codes "null pointer"
text V4 detail = codes "object is outside its lifetime"
text V5 detail = codes "object has no value"
text V6 detail = codes "object is const"
text V7 detail = codes "object is not of this evaluation"
text V8 detail = codes "storage is not released as it was allocated"
text V9 detail = codes "storage is never released"
text V10 detail = codes "result points to an object that does not last"
text V11 detail = codes "pointers into different objects"
text V12 detail = codes "step limit passed"
text V13 detail = codes "call depth limit passed"
text V14 detail = call_cause detail
text V15 detail = codes "static assertion is false"
text M1 detail = codes "condition of the query is not met"
text M2 detail = codes "splice of another kind"
text M3 detail = codes "splice of the null reflection"
text M4 detail = codes "not in a consteval block"
text M5 detail = codes "the block does not reach the class"
text M6 detail = codes "the class is already complete"
text M7 detail = codes "description is not fit"
text R1 detail = codes " is refused"
