-- The declarations of a text have names among its names, and so have their outcomes.
use Rattle.std.proofs.Common.{◌≡◌, ℕ, ◌<◌, Bool, true, false, List, [], ◌∷◌, ◌++◌, length, map, Option, None, Some, Ok, Err, All, IfSome, if◌then◌else◌, get_or, subst, sym}
use Rattle.std.proofs.lemmas.List.Elements.{All-nil, All-head, All-tail, All-push, All-map, All-weaker, All-get_or}
use Rattle.std.specs.Option.{option_and_then}
use Rattle.cxx_base.specs.Texts.{Text}
use Rattle.cxx_base.specs.declared.name.Name.{Name}
use Rattle.cxx_tokens.specs.Usable.{IsKnown}
use Rattle.cxx_tokens.specs.declared.token.Tokens.{Tokens}
use Rattle.cxx_tree.specs.declared.decl.Item.{Item}
use Rattle.cxx_tree.specs.declared.decl.Item.TheVariants as item-of
use Rattle.cxx_tree.specs.declared.decl.Decl.TheVariants as decl-of
use Rattle.cxx_tree.specs.declared.decl.VariableTree.{VariableTree}
use Rattle.cxx_grammar.specs.Units.{Derived, Derives, Refused, unit}
use Rattle.cxx_reading.specs.Reading.{Nothing, TooDeep}
use Rattle.parse_decl.specs.Answers.{SaysOf}
use Rattle.tree_stands.specs.Known.{KnownItem, KnownVariable}
use Rattle.tree_stands.specs.Laws.{UnitKnown, NamesHaveTexts}
use Rattle.reflect_cli.specs.Accepted.{all_of, declared, declaration, declarations, has_form, initializer, variable}
use Rattle.reflect_cli.specs.Order.{AreNamed, outcome_by, outcome_of}
use Rattle.reflect_cli.specs.Report.{IsNamed}
use Rattle.reflect_cli.specs.Values.{Evaluated, sum_value}
use Rattle.reflect_cli.specs.declared.core_tree.Outcome.{Outcome}
use Rattle.reflect_cli.specs.declared.form_tree.Chain.{Chain}
use Rattle.reflect_cli.specs.declared.form_tree.Literal.{Literal}
use Rattle.reflect_cli.specs.declared.form_tree.Declaration.{Declaration}

module _ (names : List Text) where
  abbrev HasText : Name → Type 0
  HasText name = name.0 < length names

  abbrev HasName : Declaration → Type 0
  HasName d = HasText d.name

  -- ---- the outcomes of declarations

  outcome_named : (d : Declaration) (e : Evaluated) → HasName d → IsNamed names (outcome_by d e)
  outcome_named d (Ok value) h = h
  outcome_named d (Err refused) h = tt

  pub outcomes_named : (ds : List Declaration) (outcomes : List Outcome) → outcomes ≡ map outcome_of ds → AreNamed names ds → All (IsNamed names) outcomes
  outcomes_named ds outcomes e h = subst (λ (os : List Outcome). All (IsNamed names) os) (sym e)
      (All-map (IsNamed names) outcome_of ds (All-weaker HasName (λ d. IsNamed names (outcome_of d)) (λ d g. outcome_named d (sum_value d.initializer) g) ds h))

  -- one of them
  pub named_at : (outcomes : List Outcome) (i : ℕ) (outcome : Outcome) → i < length outcomes → outcome ≡ get_or outcomes i outcome → All (IsNamed names) outcomes
      → IsNamed names outcome
  named_at outcomes i outcome h e all = subst (IsNamed names) (sym e) (All-get_or (IsNamed names) outcomes i outcome h all)

  -- ---- the declarations of items

  declared_named : (x : VariableTree) (o : Option (Chain (Chain Literal))) → HasText x.name.name → IfSome (declared x o) HasName
  declared_named x (Some sum) h = h
  declared_named x None h = tt

  formed_named : (b : Bool) (o : Option Declaration) → IfSome o HasName → IfSome (if b then o else None) HasName
  formed_named true o h = h
  formed_named false o h = tt

  variable_named : (x : VariableTree) → HasText x.name.name → IfSome (variable x) HasName
  variable_named x h = formed_named (has_form x) (declared x (initializer x.init)) (declared_named x (initializer x.init) h)

  declaration_named : (x : Item) → KnownItem HasText x → IfSome (declaration x) HasName
  declaration_named (item-of.NamespaceHead s xs) h = tt
  declaration_named (item-of.Close s) h = tt
  declaration_named (item-of.Empty s) h = tt
  declaration_named (item-of.Decl (decl-of.NamespaceAlias x)) h = tt
  declaration_named (item-of.Decl (decl-of.Alias x)) h = tt
  declaration_named (item-of.Decl (decl-of.Class x)) h = tt
  declaration_named (item-of.Decl (decl-of.Enum x)) h = tt
  declaration_named (item-of.Decl (decl-of.Function x)) h = tt
  declaration_named (item-of.Decl (decl-of.Variable x)) h = variable_named x h.1
  declaration_named (item-of.Decl (decl-of.Assert x)) h = tt
  declaration_named (item-of.Decl (decl-of.Block x)) h = tt

  all_named : (items : List Item) (found : List Declaration) → All (KnownItem HasText) items → AreNamed names found → IfSome (all_of declaration found items) (AreNamed names)
  all_named [] found h g = g
  all_named (x ∷ xs) found h g = by (declaration x) (declaration_named x (All-head (KnownItem HasText) x xs h)) (λ y k. all_named xs (found ++ y ∷ []) (All-tail (KnownItem HasText) x xs h) (All-push HasName found y g k))
    where
      by : (o : Option Declaration) → IfSome o HasName → ((y : Declaration) → HasName y → IfSome (all_of declaration (found ++ y ∷ []) xs) (AreNamed names))
          → IfSome (option_and_then (λ y. all_of declaration (found ++ y ∷ []) xs) o) (AreNamed names)
      by None h g = tt
      by (Some y) h g = g y h

  items_named : (items : List Item) → All (KnownItem HasText) items → IfSome (declarations items) (AreNamed names)
  unfolding declarations
  items_named items h = all_named items [] h (All-nil HasName)

  unit_named : (tokens : Tokens) (found : Option (List Declaration)) (d : Derived) → SaysOf tokens d (λ items. declarations items ≡ found) (Ok tt) → UnitKnown HasText d → IfSome found (AreNamed names)
  unit_named tokens found (Derives items) says h = subst (λ (o : Option (List Declaration)). IfSome o (AreNamed names)) says (items_named items h)
  unit_named tokens found (Refused Nothing i) says h = absurd says
  unit_named tokens found (Refused TooDeep i) says h = absurd says

  pub found_named : (tokens : Tokens) (found : Option (List Declaration)) → NamesHaveTexts tokens → All (λ token. IsKnown names token.kind) tokens.list
      → SaysOf tokens (unit tokens) (λ items. declarations items ≡ found) (Ok tt) → IfSome found (AreNamed names)
  found_named tokens found law known says = unit_named tokens found (unit tokens) says (law names known)
