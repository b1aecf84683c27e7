-- The lines of the report. Each ends with a line feed, which is 10.
use Rattle.std.specs.Prelude.{ℕ, ◌<◌, ℤ, Bool, true, false, List, [], ◌++◌, length, Option, None, Some, slice_get, unwrap_or, codes, decimal}
use Rattle.std.specs.Fmt.{signed_decimal}
use Rattle.std.specs.List.{flat_map, count_by}
use Rattle.cxx_base.specs.Texts.{Text}
use Rattle.cxx_base.specs.declared.name.Name.{Name}
use Rattle.cxx_base.specs.declared.place.Place.{Place}
use Rattle.cxx_base.specs.declared.code.Code.{Code}
use Rattle.cxx_base.specs.declared.code.Code.TheVariants.{R1}
use Rattle.cxx_base.specs.declared.refusal.Refusal.{Refusal}
use Rattle.diagnostics.specs.Texts.{code_name, text}
use Rattle.reflect_cli.specs.declared.core_tree.Outcome.{Outcome}
use Rattle.reflect_cli.specs.declared.core_tree.Outcome.TheVariants.{Constant, Refused}

-- LINE:COLUMN
abbrev pub place_text : Place → Text
place_text place = decimal place.line ++ codes ":" ++ decimal place.column

-- the refused tree, where the refusal was met inside an evaluation
abbrev pub inner_text : Option Place → Text
inner_text None = []
inner_text (Some place) = codes " (at " ++ place_text place ++ codes ")"

-- the refused piece that was read, as `piece 7`: the text of its code goes on from it
abbrev pub subject : Code → ℕ → Text
subject R1 piece = codes "piece " ++ decimal piece
subject code detail = []

-- what the report says of a refusal behind its code
unfoldable pub message : Refusal → Text
message refusal = subject refusal.code refusal.detail ++ text refusal.code refusal.detail

-- PLACE: error CODE: TEXT
unfoldable pub refusal_line : Refusal → Text
refusal_line refusal =
    place_text refusal.place ++ codes ": error " ++ code_name refusal.code ++ codes ": " ++ message refusal
    ++ inner_text refusal.inner ++ codes "\n"

-- the text of a name
abbrev pub name_text : List Text → Name → Text
name_text names name = unwrap_or (slice_get names name.0) []

-- const NAME : const int = VALUE
unfoldable pub constant_line : List Text → Name → ℤ → Text
constant_line names name value = codes "const " ++ name_text names name ++ codes " : const int = " ++ signed_decimal value ++ codes "\n"

abbrev pub outcome_line : List Text → Outcome → Text
outcome_line names (Constant name value) = constant_line names name value
outcome_line names (Refused refusal) = refusal_line refusal

-- a constant has a name among these
abbrev pub IsNamed : List Text → Outcome → Type 0
IsNamed names (Constant name value) = name.0 < length names
IsNamed names (Refused refusal) = Unit {0}

abbrev pub is_refused : Outcome → Bool
is_refused (Constant name value) = false
is_refused (Refused refusal) = true

-- pieces PIECES refused REFUSED
unfoldable pub last_line : ℕ → ℕ → Text
last_line pieces refused = codes "pieces " ++ decimal pieces ++ codes " refused " ++ decimal refused ++ codes "\n"

-- the lines of the outcomes in order, and the last line
abbrev pub report : List Text → List Outcome → Text
report names outcomes = flat_map (outcome_line names) outcomes ++ last_line (length outcomes) (count_by is_refused outcomes)
