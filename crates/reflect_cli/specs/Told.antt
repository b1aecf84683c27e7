-- What the program tells: the full text and the status, from the words and the bytes of the source.
use Rattle.std.specs.Prelude.{◌≡◌, refl, ℕ, Bool, true, false, ◌==◌, nat_lt, if◌then◌else◌, List, [], ◌∷◌, length, map, Option, None, Some, Result, Ok, Err, codes}
use Rattle.std.specs.List.{count_by}
use Rattle.std.specs.Str.{bytes_eq}
use Rattle.std.proofs.lemmas.Bool.{ltb-false}
use Rattle.cxx_base.specs.Texts.{Text}
use Rattle.cxx_base.specs.declared.code.Code.TheVariants.{L6}
use Rattle.cxx_base.specs.declared.limits.TheConstants.{MAX_SOURCE}
use Rattle.cxx_base.specs.declared.refusal.Refusal.{Refusal}
use Rattle.reflect_cli.specs.Order.{outcome_of}
use Rattle.reflect_cli.specs.Program.{program_of, source_refusal}
use Rattle.reflect_cli.specs.Report.{refusal_line, report, is_refused}
use Rattle.reflect_cli.specs.declared.core_tree.Outcome.{Outcome}
use Rattle.reflect_cli.specs.declared.program.Program.{Program}

pub record Answer : Type 0 where
  pub text : Text
  pub status : ℕ

-- a source that is refused as a whole has that one line
abbrev pub refused : Refusal → Answer
refused refusal = record { text = refusal_line refusal; status = 1 }

-- 1 where a piece is refused
abbrev pub translated : List Text → List Outcome → Answer
translated names outcomes =
    record { text = report names outcomes; status = if count_by is_refused outcomes == 0 then 0 else 1 }

abbrev pub answer_by : Result Program Refusal → Answer
answer_by (Err refusal) = refused refusal
answer_by (Ok program) = translated program.names (map outcome_of program.declarations)

-- by whether it is too long
abbrev pub report_by : (bytes : Text) (is_long : Bool) → nat_lt MAX_SOURCE (length bytes) ≡ is_long → Answer
report_by bytes true e = refused (source_refusal L6)
report_by bytes false e = answer_by (program_of bytes (ltb-false MAX_SOURCE (length bytes) e))

-- the report of a source and its status
unfoldable pub report_of : Text → Answer
report_of bytes = report_by bytes (nat_lt MAX_SOURCE (length bytes)) refl

-- the one accepted list of words
abbrev pub is_in_grammar : List Text → Bool
is_in_grammar [] = false
is_in_grammar (word ∷ []) = bytes_eq word (codes "order")
is_in_grammar (word ∷ second ∷ more) = false

abbrev pub told : List Text → Text → Option Answer
told words bytes = if is_in_grammar words then Some (report_of bytes) else None
