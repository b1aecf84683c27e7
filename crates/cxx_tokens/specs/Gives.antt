-- What the functions of the lexer give: what the definitions say, unless memory ran out.
use Rattle.std.specs.Prelude.{◌≡◌, List, ◌++◌, Result, Ok, Err}
use Rattle.cxx_base.specs.Texts.{Text}
use Rattle.cxx_tokens.specs.Lex.{Found, Lexed}
use Rattle.cxx_tokens.specs.Literals.{Quoted}
use Rattle.cxx_tokens.specs.Cutting.{IsLexed}
use Rattle.cxx_tokens.specs.Faults.{Fault}
use Rattle.cxx_tokens.specs.Faults as spec
use Rattle.cxx_tokens.specs.declared.fault.LexFault.{LexFault}
use Rattle.cxx_tokens.specs.declared.fault.LexFault.TheVariants.{L1, L2, L3, L4, L5, Memory}
use Rattle.cxx_tokens.specs.declared.lexing.FoundToken.{FoundToken}
use Rattle.cxx_tokens.specs.declared.quoted.Quoted.{Quoted as KeptQuoted}
use Rattle.cxx_tokens.specs.declared.token.Tokens.{Tokens}

-- a refusal is the defined one
abbrev pub Fails : {A : Type 0} → LexFault → Result A Fault → Type 0
Fails Memory read = Unit {0}
Fails (L1 place) read = read ≡ Err (spec.L1 place)
Fails (L2 place) read = read ≡ Err (spec.L2 place)
Fails (L3 place) read = read ≡ Err (spec.L3 place)
Fails (L4 place) read = read ≡ Err (spec.L4 place)
Fails (L5 place) read = read ≡ Err (spec.L5 place)

abbrev pub GivesQuoted : Result KeptQuoted LexFault → Result Quoted Fault → Type 0
GivesQuoted (Ok found) read = read ≡ Ok (record { length = found.cut.length; bytes = found.bytes })
GivesQuoted (Err fault) read = Fails fault read

-- a token with its length, and the names after the call
abbrev pub GivesToken : Result FoundToken LexFault → List Text → Result Found Fault → Type 0
GivesToken (Ok found) names read = read ≡ Ok (record { kind = found.kind; length = found.cut.length; names = names })
GivesToken (Err fault) names read = Fails fault read

-- the tokens, with the names after the call
abbrev pub GivesTokens : Result Tokens LexFault → List Text → Result Lexed Fault → Type 0
GivesTokens (Ok found) names read = read ≡ Ok (record { tokens = found.list; names = names; end = found.end })
GivesTokens (Err fault) names read = Fails fault read

-- the tokens are those of the source's cut, with the names before and after the call, and a refusal is that of the definition
abbrev pub GivesCut : Result Tokens LexFault → List Text → List Text → Text → Type 0
GivesCut (Ok found) before after bytes = IsLexed before bytes (Ok (record { tokens = found.list; names = after; end = found.end }))
GivesCut (Err (L1 place)) before after bytes = IsLexed before bytes (Err (spec.L1 place))
GivesCut (Err (L2 place)) before after bytes = IsLexed before bytes (Err (spec.L2 place))
GivesCut (Err (L3 place)) before after bytes = IsLexed before bytes (Err (spec.L3 place))
GivesCut (Err (L4 place)) before after bytes = IsLexed before bytes (Err (spec.L4 place))
GivesCut (Err (L5 place)) before after bytes = IsLexed before bytes (Err (spec.L5 place))
GivesCut (Err Memory) before after bytes = Unit {0}

-- names that are there stay where they are
abbrev pub Keeps : List Text → List Text → Type 0
Keeps before after = (more : List Text) × (after ≡ before ++ more)
