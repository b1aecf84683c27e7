-- A unit whose items were handed on to a list, and one that is refused.
use Rattle.std.proofs.Common.{◌≡◌, List, Ok, Err}
use Rattle.cxx_tree.specs.declared.decl.Item.{Item}
use Rattle.cxx_tokens.specs.declared.token.Tokens.{Tokens}
use Rattle.cxx_reading.specs.Reading.{Nothing, TooDeep}
use Rattle.cxx_grammar.specs.Units.{Derived, Derives, Refused}
use Rattle.parse_decl.specs.Answers.{Says, SaysOf}
use Rattle.parse_decl.specs.declared.syntax_fault.SyntaxFault.{SyntaxFault}
use Rattle.parse_decl.specs.declared.syntax_fault.SyntaxFault.TheVariants.{S1, S2, Memory}

module _ (tokens : Tokens) where
  pub whole : (found : List Item) (d : Derived) → SaysOf tokens d (λ items. found ≡ items) (Ok tt) → Says tokens d (Ok (record { items = found }))
  whole found (Derives items) says = says
  whole found (Refused Nothing i) says = absurd says
  whole found (Refused TooDeep i) says = absurd says

  pub refused : (fault : SyntaxFault) (P : List Item → Type 0) (d : Derived) → SaysOf tokens d P (Err fault) → Says tokens d (Err fault)
  refused (S1 place) P (Derives items) says = absurd says
  refused (S1 place) P (Refused Nothing i) says = says
  refused (S1 place) P (Refused TooDeep i) says = absurd says
  refused (S2 place) P (Derives items) says = absurd says
  refused (S2 place) P (Refused Nothing i) says = absurd says
  refused (S2 place) P (Refused TooDeep i) says = says
  refused Memory P (Derives items) says = tt
  refused Memory P (Refused Nothing i) says = tt
  refused Memory P (Refused TooDeep i) says = tt
