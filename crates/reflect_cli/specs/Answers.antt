-- What the parts of the top call give.
use Rattle.std.specs.Prelude.{◌≡◌, Result, Ok, Err, if◌then◌else◌}
use Rattle.cxx_base.specs.declared.refusal.Refusal.{Refusal}
use Rattle.cxx_tokens.specs.declared.fault.LexFault.{LexFault}
use Rattle.cxx_tokens.specs.declared.fault.LexFault.TheVariants.{L1, L2, L3, L4, L5, Memory}
use Rattle.cxx_tokens.specs.Faults as lexing
use Rattle.cxx_base.specs.declared.code.Code.TheVariants as code
use Rattle.parse_decl.specs.declared.syntax_fault.SyntaxFault.{SyntaxFault}
use Rattle.parse_decl.specs.declared.syntax_fault.SyntaxFault.TheVariants.{S1, S2}
use Rattle.parse_decl.specs.declared.syntax_fault.SyntaxFault.TheVariants as syntax
use Rattle.cxx_base.specs.Refusals.{whole}
use Rattle.reflect_cli.specs.Program.{text_refusal}
use Rattle.reflect_cli.specs.Told.{Answer as Told}
use Rattle.reflect_cli.specs.declared.answer.Answer.{Answer}
use Rattle.reflect_cli.specs.declared.program.Program.{Program}
use Rattle.reflect_cli.specs.declared.program.ProgramFault.{ProgramFault}
use Rattle.reflect_cli.specs.declared.program.ProgramFault.TheVariants as fault

-- the program, or why there is none, unless memory ran out
abbrev pub GivesProgram : Result Program Refusal → Result Program ProgramFault → Type 0
GivesProgram read (Ok program) = read ≡ Ok program
GivesProgram read (Err (fault.Refused refusal)) = read ≡ Err refusal
GivesProgram read (Err fault.Memory) = Unit {0}

-- why a text that has no tokens has no program
abbrev pub fault_of : LexFault → ProgramFault
fault_of (L1 place) = fault.Refused (text_refusal (lexing.L1 place))
fault_of (L2 place) = fault.Refused (text_refusal (lexing.L2 place))
fault_of (L3 place) = fault.Refused (text_refusal (lexing.L3 place))
fault_of (L4 place) = fault.Refused (text_refusal (lexing.L4 place))
fault_of (L5 place) = fault.Refused (text_refusal (lexing.L5 place))
fault_of Memory = fault.Memory

-- why a text that has no unit has no program
abbrev pub syntax_fault_of : SyntaxFault → ProgramFault
syntax_fault_of (S1 place) = fault.Refused (whole code.S1 place)
syntax_fault_of (S2 place) = fault.Refused (whole code.S2 place)
syntax_fault_of syntax.Memory = fault.Memory

-- the answer that is told
abbrev pub IsTold : Told → Answer → Type 0
IsTold told answer = (answer.text ≡ told.text) × ((if answer.is_refused then 1 else 0) ≡ told.status)
