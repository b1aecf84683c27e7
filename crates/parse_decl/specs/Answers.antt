-- What is answered of a text.
use Rattle.std.specs.Prelude.{◌≡◌, List, slice_get, Result, Ok, Err}
use Rattle.cxx_tree.specs.declared.decl.Item.{Item}
use Rattle.cxx_tree.specs.declared.decl.Unit.{Unit as UnitTree}
use Rattle.cxx_tokens.specs.declared.token.Tokens.{Tokens}
use Rattle.cxx_reading.specs.Reading.{Nothing, TooDeep, place_of}
use Rattle.cxx_grammar.specs.Units.{Derived, Derives, Refused}
use Rattle.parse_decl.specs.declared.syntax_fault.SyntaxFault.{SyntaxFault}
use Rattle.parse_decl.specs.declared.syntax_fault.SyntaxFault.TheVariants.{S1, S2, Memory}

-- The unit where one is derived; else S1 or S2 at the first character of the token that decides, or at the end of the text.
-- Nothing is said where memory runs out.
abbrev pub Says : Tokens → Derived → Result UnitTree SyntaxFault → Type 0
Says tokens (Derives items) (Ok found) = found.items ≡ items
Says tokens (Refused Nothing i) (Err (S1 place)) = place ≡ place_of tokens.end (slice_get tokens.list i)
Says tokens (Refused TooDeep i) (Err (S2 place)) = place ≡ place_of tokens.end (slice_get tokens.list i)
Says tokens d (Err Memory) = Unit {0}
Says tokens d r = ⊥

-- The same of one that hands on the items in place of a unit: of these this holds.
abbrev pub SaysOf : Tokens → Derived → (List Item → Type 0) → Result (Unit {0}) SyntaxFault → Type 0
SaysOf tokens (Derives items) P (Ok done) = P items
SaysOf tokens (Refused Nothing i) P (Err (S1 place)) = place ≡ place_of tokens.end (slice_get tokens.list i)
SaysOf tokens (Refused TooDeep i) P (Err (S2 place)) = place ≡ place_of tokens.end (slice_get tokens.list i)
SaysOf tokens d P (Err Memory) = Unit {0}
SaysOf tokens d P r = ⊥
