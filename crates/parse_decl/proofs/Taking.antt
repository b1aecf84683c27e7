-- What is answered where the items of a unit are handed on, beside the loop that reads them.
use Rattle.std.proofs.Common.{◌≡◌, ℕ, zero, suc, ◌+◌, ◌≤◌, List, [], Result, Ok, Err, slice_get, ap, ◌∙◌, sym, subst, arith}
use Rattle.cxx_base.specs.declared.place.Place.{Place}
use Rattle.cxx_tree.specs.declared.decl.Item.{Item}
use Rattle.cxx_tree.specs.declared.decl.Item.TheVariants as item-of
use Rattle.cxx_tokens.specs.declared.token.Tokens.{Tokens}
use Rattle.cxx_reading.specs.Reading.{Nothing, TooDeep, place_of}
use Rattle.cxx_grammar.specs.Units.{Derived, Derives, Refused, at_end, derived, opens}
use Rattle.parse_decl.specs.Answers.{SaysOf}
use Rattle.parse_decl.specs.declared.syntax_fault.SyntaxFault.{SyntaxFault}
use Rattle.parse_decl.specs.declared.syntax_fault.SyntaxFault.TheVariants.{S1, S2, Memory}

module _ (tokens : Tokens) (P : List Item → Type 0) where
  end_by : (heads : ℕ) (items : List Item) (i : ℕ) (result : Result (Unit {0}) SyntaxFault) → SaysOf tokens (at_end tokens heads [] i) (λ found. found ≡ []) result → P items
      → SaysOf tokens (at_end tokens heads items i) P result
  end_by zero items i (Ok done) says holds = holds
  end_by zero items i (Err Memory) says holds = tt
  end_by zero items i (Err (S1 place)) says holds = absurd says
  end_by zero items i (Err (S2 place)) says holds = absurd says
  end_by (suc n) items i (Ok done) says holds = absurd says
  end_by (suc n) items i (Err Memory) says holds = tt
  end_by (suc n) items i (Err (S1 place)) says holds = says
  end_by (suc n) items i (Err (S2 place)) says holds = absurd says

  -- behind the last item
  pub says_end : (d : Derived) (heads : ℕ) (items : List Item) (i : ℕ) (result : Result (Unit {0}) SyntaxFault) → d ≡ at_end tokens heads items i
      → SaysOf tokens (at_end tokens heads [] i) (λ found. found ≡ []) result → P items → SaysOf tokens d P result
  says_end d heads items i result e says holds = subst (λ (d : Derived). SaysOf tokens d P result) (sym e) (end_by heads items i result says holds)

  -- an item is refused
  pub says_nothing : (d : Derived) (i : ℕ) (place : Place) → d ≡ Refused Nothing i → place ≡ place_of tokens.end (slice_get tokens.list i) → SaysOf tokens d P (Err (S1 place))
  says_nothing d i place e there = subst (λ (d : Derived). SaysOf tokens d P (Err (S1 place))) (sym e) there

  pub says_deep : (d : Derived) (i : ℕ) (place : Place) → d ≡ Refused TooDeep i → place ≡ place_of tokens.end (slice_get tokens.list i) → SaysOf tokens d P (Err (S2 place))
  says_deep d i place e there = subst (λ (d : Derived). SaysOf tokens d P (Err (S2 place))) (sym e) there

  -- of want of memory nothing is said
  pub says_memory : (d : Derived) → SaysOf tokens d P (Err Memory)
  says_memory (Derives items) = tt
  says_memory (Refused Nothing i) = tt
  says_memory (Refused TooDeep i) = tt

-- the number of open namespaces that was counted
pub goes_with : (tokens : Tokens) (end : Derived) (n heads counted : ℕ) (found : List Item) (i : ℕ) → end ≡ derived tokens n heads found i → counted ≡ heads → end ≡ derived tokens n counted found i
goes_with tokens end n heads counted found i e same = e ∙ ap (λ (h : ℕ). derived tokens n h found i) (sym same)

-- an item opens one namespace at most
pub opens_one : (heads : ℕ) (x : Item) → opens heads x ≤ heads + 1
opens_one heads (item-of.NamespaceHead s names) = omega arith
opens_one heads (item-of.Close s) = omega arith
opens_one heads (item-of.Decl d) = omega arith
opens_one heads (item-of.Empty s) = omega arith

pub ruleset sayings = (says_end, says_memory)
