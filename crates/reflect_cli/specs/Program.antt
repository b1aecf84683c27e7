-- The program of a source text, or why it has none.
use Rattle.std.specs.Prelude.{◌≡◌, ◌≤◌, refl, ℕ, if◌then◌else◌, List, length, Option, None, Some, Result, Ok, Err, slice_get}
use Rattle.cxx_base.specs.Library.{library_names}
use Rattle.cxx_base.specs.Refusals.{whole}
use Rattle.cxx_base.specs.Texts.{Text}
use Rattle.cxx_base.specs.declared.limits.TheConstants.{MAX_SOURCE}
use Rattle.cxx_base.specs.declared.place.Place.{Place}
use Rattle.cxx_base.specs.declared.code.Code.{Code}
use Rattle.cxx_base.specs.declared.code.Code.TheVariants as code
use Rattle.cxx_base.specs.declared.refusal.Refusal.{Refusal}
use Rattle.cxx_tokens.specs.Characters.{start}
use Rattle.cxx_tokens.specs.Faults.{Fault}
use Rattle.cxx_tokens.specs.Lex.{Lexed, lex}
use Rattle.reflect_cli.specs.Form.{is_in_form}
use Rattle.cxx_grammar.specs.Units.{Derived, Derives, Refused, unit}
use Rattle.cxx_reading.specs.Reading.{Nothing, TooDeep, place_of}
use Rattle.cxx_tokens.specs.declared.token.Tokens.{Tokens}
use Rattle.reflect_cli.specs.Accepted.{declarations}
use Rattle.reflect_cli.specs.declared.form_tree.Declaration.{Declaration}
use Rattle.reflect_cli.specs.declared.program.Program.{Program}
use Rattle.cxx_tokens.proofs.FewTokens.{is_short}

-- a refusal of the source as a whole, at its start
abbrev pub source_refusal : Code → Refusal
source_refusal code = whole code start

-- why a text has no tokens, and where
abbrev pub text_refusal : Fault → Refusal
text_refusal fault = whole fault.code fault.place

abbrev pub formed : List Text → List Declaration → Result Program Refusal
formed names found =
    if is_in_form found then Ok (record { names = names; declarations = found }) else Err (source_refusal code.T8)

abbrev pub formed_by : List Text → Option (List Declaration) → Result Program Refusal
formed_by names None = Err (source_refusal code.T8)
formed_by names (Some found) = formed names found

-- the first character of a token, or the place just past the last one of the text
abbrev pub place_at : Tokens → ℕ → Place
place_at tokens i = place_of tokens.end (slice_get tokens.list i)

abbrev pub parsed_by : List Text → Tokens → Derived → Result Program Refusal
parsed_by names tokens (Derives items) = formed_by names (declarations items)
parsed_by names tokens (Refused Nothing i) = Err (whole code.S1 (place_at tokens i))
parsed_by names tokens (Refused TooDeep i) = Err (whole code.S2 (place_at tokens i))

abbrev pub parsed : List Text → Tokens → Result Program Refusal
parsed names tokens = parsed_by names tokens (unit tokens)

-- by the tokens of a text that is not too long: it has fewer than a `u32` numbers
abbrev pub program_by : (text : Text) → length text ≤ MAX_SOURCE → (lexed : Result Lexed Fault) → lex library_names text ≡ lexed → Result Program Refusal
program_by text fits (Ok lexed) e =
    parsed lexed.names (record { list = lexed.tokens; end = lexed.end; short = is_short library_names text fits lexed e })
program_by text fits (Err fault) e = Err (text_refusal fault)

-- The names and declarations of a text of the accepted form that is not too long. A text without tokens is refused as they are, and one
-- of which the grammar derives no unit is refused S1 or S2 where it says. A unit that is not of the form is refused T8 at the start.
unfoldable pub program_of : (text : Text) → length text ≤ MAX_SOURCE → Result Program Refusal
program_of text fits = program_by text fits (lex library_names text) refl
