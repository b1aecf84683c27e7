-- What refusals are made of.
use Rattle.std.specs.Prelude.{ℕ, List, [], ◌++◌, length, take, replicate, None, Some}
use Rattle.cxx_base.specs.declared.cause.TheConstants.{ONE}
use Rattle.cxx_base.specs.declared.code.Code.{Code}
use Rattle.cxx_base.specs.declared.code.Code.TheVariants.{R1}
use Rattle.cxx_base.specs.declared.note.TheConstants.{SHOWN_CALLS}
use Rattle.cxx_base.specs.declared.note.Note.{Note}
use Rattle.cxx_base.specs.declared.note.Notes.{Notes}
use Rattle.cxx_base.specs.declared.number.PieceNo.{PieceNo}
use Rattle.cxx_base.specs.declared.place.Place.{Place}
use Rattle.cxx_base.specs.declared.refusal.Refusal.{Refusal}

-- the entry of no call: entity 0 at 0:0
abbrev pub no_call : Note
no_call = record { function = record { 0 = 0 }; place = record { line = 0; column = 0 } }

-- The notes of active calls, innermost first: how many there are, and the innermost of them, filled up with entries of no call.
abbrev pub notes_of : List Note → Notes
notes_of calls = record { count = length calls; shown = take SHOWN_CALLS (calls ++ replicate SHOWN_CALLS no_call) }

-- met in no evaluation
abbrev pub whole : Code → Place → Refusal
whole code place = record { code = code; detail = ONE; place = place; inner = None; notes = notes_of [] }

-- the same, of what reads a refused piece
abbrev pub of_read : PieceNo → Place → Refusal
of_read piece place = record { code = R1; detail = piece.0; place = place; inner = None; notes = notes_of [] }

-- met in an evaluation, whose root begins at the first place, at the tree that begins at the second, where these calls are active
abbrev pub met : Code → ℕ → Place → Place → Notes → Refusal
met code detail place inner notes = record { code = code; detail = detail; place = place; inner = Some inner; notes = notes }
