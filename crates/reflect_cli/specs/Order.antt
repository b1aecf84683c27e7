-- Translation in order: each piece has the outcome of its declaration.
use Rattle.std.specs.Prelude.{ℕ, ◌<◌, List, [], length, All, Ok, Err}
use Rattle.cxx_base.specs.Texts.{Text}
use Rattle.cxx_base.specs.Refusals.{met, notes_of}
use Rattle.cxx_base.specs.declared.place.Place.{Place}
use Rattle.cxx_base.specs.declared.refusal.Refusal.{Refusal}
use Rattle.cxx_base.specs.declared.code.Code.TheVariants.{V1}
use Rattle.int_kinds.specs.declared.fault.ArithFault.{ArithFault}
use Rattle.int_kinds.specs.declared.fault.ArithFault.TheVariants.{Overflow, ZeroDivisor, LeastByMinusOne, ShiftCount}
use Rattle.reflect_cli.specs.Values.{Evaluated, sum_value, sum_place}
use Rattle.reflect_cli.specs.declared.const_eval.Refused.{Refused as Operation}
use Rattle.reflect_cli.specs.declared.core_tree.Outcome.{Outcome}
use Rattle.reflect_cli.specs.declared.core_tree.Outcome.TheVariants.{Constant, Refused}
use Rattle.reflect_cli.specs.declared.form_tree.Declaration.{Declaration}

-- the number of a fault among those of V1
abbrev pub detail_of : ArithFault → ℕ
detail_of Overflow = 0
detail_of ZeroDivisor = 1
detail_of LeastByMinusOne = 2
detail_of ShiftCount = 3

-- an operation that is refused, in an initializer that begins at the place
abbrev pub refusal_of : Place → Operation → Refusal
refusal_of place refused = met V1 (detail_of refused.fault) place refused.place (notes_of [])

-- each declaration has a name among these
abbrev pub AreNamed : List Text → List Declaration → Type 0
AreNamed names declarations = All (λ declaration. declaration.name.0 < length names) declarations

abbrev pub outcome_by : Declaration → Evaluated → Outcome
outcome_by declaration (Ok value) = Constant declaration.name value
outcome_by declaration (Err refused) =
    Refused (refusal_of (sum_place declaration.initializer) refused)

abbrev pub outcome_of : Declaration → Outcome
outcome_of declaration = outcome_by declaration (sum_value declaration.initializer)
