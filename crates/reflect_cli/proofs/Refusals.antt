-- A text without tokens is refused as the lexer says, and one without a unit as the parser says.
use Rattle.std.proofs.Common.{◌≡◌, ◌≤◌, ◌<◌, ◌^◌, List, length, Option, Result, Ok, Err, ap, sym, subst}
use Rattle.std.proofs.Math.Bridge.{le_prop}
use Rattle.cxx_base.specs.Refusals.{whole}
use Rattle.cxx_base.specs.Library.{library_names}
use Rattle.cxx_base.specs.Texts.{Text}
use Rattle.cxx_base.specs.declared.limits.TheConstants.{MAX_SOURCE}
use Rattle.cxx_base.specs.declared.refusal.Refusal.{Refusal}
use Rattle.cxx_base.specs.declared.code.Code.TheVariants as code
use Rattle.cxx_tree.specs.declared.decl.Item.{Item}
use Rattle.cxx_tokens.specs.declared.token.Tokens.{Tokens}
use Rattle.cxx_reading.specs.Reading.{Nothing, TooDeep}
use Rattle.cxx_grammar.specs.Units.{Derived, Derives, Refused}
use Rattle.parse_decl.specs.Answers.{SaysOf}
use Rattle.parse_decl.specs.declared.syntax_fault.SyntaxFault.{SyntaxFault}
use Rattle.parse_decl.specs.declared.syntax_fault.SyntaxFault.TheVariants.{S1, S2}
use Rattle.parse_decl.specs.declared.syntax_fault.SyntaxFault.TheVariants as syntax
use Rattle.cxx_tokens.specs.Faults.{Fault as TextFault}
use Rattle.cxx_tokens.specs.Gives.{Fails, GivesTokens}
use Rattle.cxx_tokens.specs.Faults as lexing
use Rattle.cxx_tokens.specs.Lex.{Lexed, lex}
use Rattle.cxx_tokens.specs.declared.fault.LexFault.{LexFault}
use Rattle.cxx_tokens.specs.declared.fault.LexFault.TheVariants.{L1, L2, L3, L4, L5, Memory}
use Rattle.reflect_cli.specs.Accepted.{declarations}
use Rattle.reflect_cli.specs.Answers.{GivesProgram, fault_of, syntax_fault_of}
use Rattle.reflect_cli.specs.Program.{program_by, formed_by, parsed, parsed_by, text_refusal}
use Rattle.reflect_cli.specs.declared.form_tree.Declaration.{Declaration}
use Rattle.reflect_cli.specs.declared.program.Program.{Program}
use Rattle.cxx_tokens.proofs.FewTokens.{is_short}

module _ (bytes : Text) (fits : length bytes ≤ MAX_SOURCE) where
  refused_so : (told fault : TextFault) → ◌≡◌ {A = Result Lexed TextFault} (Err told) (Err fault) → ◌≡◌ {A = Result Program Refusal} (Err (text_refusal told)) (Err (text_refusal fault))
  refused_so told fault h = let same : told ≡ fault = cc h in ap (λ (f : TextFault). Err (text_refusal f)) same

  pub without_tokens : (fault : LexFault) (read : Result Lexed TextFault) (e : lex library_names bytes ≡ read) → Fails fault read
      → GivesProgram (program_by bytes fits read e) (Err (fault_of fault))
  without_tokens (L1 place) (Ok found) e h = cc h
  without_tokens (L2 place) (Ok found) e h = cc h
  without_tokens (L3 place) (Ok found) e h = cc h
  without_tokens (L4 place) (Ok found) e h = cc h
  without_tokens (L5 place) (Ok found) e h = cc h
  without_tokens Memory (Ok found) e h = tt
  without_tokens (L1 place) (Err told) e h = refused_so told (lexing.L1 place) h
  without_tokens (L2 place) (Err told) e h = refused_so told (lexing.L2 place) h
  without_tokens (L3 place) (Err told) e h = refused_so told (lexing.L3 place) h
  without_tokens (L4 place) (Err told) e h = refused_so told (lexing.L4 place) h
  without_tokens (L5 place) (Err told) e h = refused_so told (lexing.L5 place) h
  without_tokens Memory (Err told) e h = tt

  -- that a text has few tokens has one proof
  same_tokens : (names : List Text) (found : Tokens) (lexed : Lexed) (short : length lexed.tokens < 2 ^ 32) → lexed ≡ record { tokens = found.list; names = names; end = found.end }
      → parsed names found ≡ parsed lexed.names (record { list = lexed.tokens; end = lexed.end; short = short })
  same_tokens names found lexed short e =
      subst (λ (x : Lexed). (low : length x.tokens < 2 ^ 32) → parsed names found ≡ parsed x.names (record { list = x.tokens; end = x.end; short = low })) (sym e)
      (λ low. ap (λ (s : length found.list < 2 ^ 32). parsed names (record { list = found.list; end = found.end; short = s })) (le_prop found.short low)) short

  pub with_tokens : (names : List Text) (found : Tokens) (read : Result Lexed TextFault) (e : lex library_names bytes ≡ read) → GivesTokens (Ok found) names read
      → parsed names found ≡ program_by bytes fits read e
  with_tokens names found (Ok lexed) e h =
      let same : lexed ≡ record { tokens = found.list; names = names; end = found.end } = cc h in
      same_tokens names found lexed (is_short library_names bytes fits lexed e) same
  with_tokens names found (Err fault) e h = cc h

module _ (names : List Text) (tokens : Tokens) where
  pub without_unit : (fault : SyntaxFault) (P : List Item → Type 0) (d : Derived) → SaysOf tokens d P (Err fault) → GivesProgram (parsed_by names tokens d) (Err (syntax_fault_of fault))
  without_unit (S1 place) P (Refused Nothing i) says = ap (λ at. Err (whole code.S1 at)) (sym says)
  without_unit (S2 place) P (Refused TooDeep i) says = ap (λ at. Err (whole code.S2 at)) (sym says)
  without_unit (S1 place) P (Derives items) says = absurd says
  without_unit (S1 place) P (Refused TooDeep i) says = absurd says
  without_unit (S2 place) P (Derives items) says = absurd says
  without_unit (S2 place) P (Refused Nothing i) says = absurd says
  without_unit syntax.Memory P d says = tt

  pub with_unit : (found : Option (List Declaration)) (d : Derived) → SaysOf tokens d (λ items. declarations items ≡ found) (Ok tt) → formed_by names found ≡ parsed_by names tokens d
  with_unit found (Derives items) says = ap (formed_by names) (sym says)
  with_unit found (Refused Nothing i) says = absurd says
  with_unit found (Refused TooDeep i) says = absurd says
