-- Each item of a unit takes a token, so the bound on the number of items cuts nothing off.
use Rattle.std.proofs.Common.{◌≡◌, ℕ, zero, suc, ◌+◌, ◌<◌, ◌≤◌, Bool, true, false, List, ◌++◌, ◌∷◌, [], length, nat_lt, if◌then◌else◌, refl, ap, inl, inr, arith}
use Rattle.std.proofs.lemmas.Bool.{le-ltb, ltb-true, ltb-false}
use Rattle.cxx_tree.specs.declared.stmt.Stmt.{Stmt}
use Rattle.cxx_tree.specs.declared.decl.Member.{Member}
use Rattle.cxx_tree.specs.declared.decl.Item.{Item}
use Rattle.cxx_tokens.specs.declared.token.Tokens.{Tokens}
use Rattle.cxx_reading.specs.Extents.{EndsFrom, Forward, Rises}
use Rattle.cxx_reading.specs.Reading.{End, Tree, No, Nothing, Rule, left}
use Rattle.cxx_grammar.specs.Read as levels
use Rattle.cxx_grammar.specs.Nests.{Nests}
use Rattle.cxx_grammar.specs.Locals as locals
use Rattle.cxx_grammar.specs.Declarations as decls
use Rattle.cxx_grammar.specs.Classes as classes
use Rattle.cxx_grammar.specs.Nesting as nesting
use Rattle.cxx_grammar.specs.Units as units
use Rattle.cxx_grammar.specs.Units.{Derived, Refused}
use Rattle.cxx_grammar.specs.Laws.{Behind, Start, Next, IsDecided}
use Rattle.cxx_reading.proofs.Rises.{rising, rises_longer}
use Rattle.cxx_grammar.proofs.Tables.{tables}
use Rattle.cxx_grammar.proofs.Shallow as shallow
use Rattle.cxx_grammar.proofs.Ends as ends
use Rattle.cxx_grammar.proofs.Bodies as bodies
use Rattle.cxx_grammar.proofs.Bodies.{ForwardNests}

module _ (tokens : Tokens) where
  -- ---- each declaration takes a token

  rises_type : (level : ℕ) → Rises (levels.read tokens level).type_tree
  rises_type level = (ends.read tokens level).types

  key : Rises (decls.key tokens)
  unfolding decls.key
  key = search (rising, tables) depth 14

  class_declared : Rises (classes.class_declared tokens)
  unfolding classes.class_declared
  class_declared = search (rising, key) depth 14

  block : (q : Rule Stmt) → Forward q → Rises (decls.block tokens q)
  unfolding decls.block
  block q h = search (rising, bodies.body) depth 14

  assert : (level : ℕ) → Rises (locals.assert tokens level)
  unfolding locals.assert
  assert level = search (rising, bodies.at_expr, bodies.message) depth 14

  module _ (level : ℕ) where
    alias : Rises (locals.alias tokens level)
    unfolding locals.alias
    alias = search (rising, bodies.aliased) depth 14

    namespace_alias : Rises (decls.namespace_alias tokens level)
    unfolding decls.namespace_alias
    namespace_alias = search (rising, bodies.namespace_named) depth 14

    enumeration : Rises (decls.enumeration tokens level)
    unfolding decls.enumeration
    enumeration = search (rising, bodies.key, bodies.underlying, bodies.enumerators) depth 14

    variable : (b : Bool) → Rises (decls.variable tokens level b)
    unfolding decls.variable
    variable b = search (rising, rises_type, bodies.specifiers, bodies.bounds, bodies.init) depth 14

    function : (q : Rule Stmt) (b : Bool) → Forward q → Rises (decls.function tokens level q b)
    unfolding decls.function
    function q true h = search (rising, rises_type, bodies.specifiers, bodies.parameters, bodies.body_or_none) depth 24
    function q false h = search (rising, rises_type, bodies.specifiers, bodies.parameters, bodies.body_or_none) depth 24

    class_defined : (q : Rule Member) → Forward q → Rises (classes.class_defined tokens level q)
    unfolding classes.class_defined
    class_defined q h = search (rising, key, bodies.bases, bodies.members) depth 14

    class : (q : Rule Member) → Forward q → Rises (classes.class tokens level q)
    unfolding classes.class
    class q h = search (rises_longer, class_declared, class_defined) depth 14

    namespace_decl : Rises (classes.namespace_decl tokens level)
    unfolding classes.namespace_decl
    namespace_decl = search (rising, namespace_alias) depth 14

    alias_decl : Rises (classes.alias_decl tokens level)
    unfolding classes.alias_decl
    alias_decl = search (rising, alias) depth 14

    enum_decl : Rises (classes.enum_decl tokens level)
    unfolding classes.enum_decl
    enum_decl = search (rising, enumeration) depth 14

    variable_decl : Rises (classes.variable_decl tokens level)
    unfolding classes.variable_decl
    variable_decl = search (rising, variable) depth 14

    assert_decl : Rises (classes.assert_decl tokens level)
    unfolding classes.assert_decl
    assert_decl = search (rising, assert) depth 14

    module _ (inner : Nests) (deep : ForwardNests inner) where
      class_decl : Rises (classes.class_decl tokens level inner)
      unfolding classes.class_decl
      class_decl = search (rising, class, bodies.inner_member) depth 14

      function_decl : Rises (classes.function_decl tokens level inner)
      unfolding classes.function_decl
      function_decl = search (rising, function, bodies.inner_stmt) depth 14

      block_decl : Rises (classes.block_decl tokens level inner)
      unfolding classes.block_decl
      block_decl = search (rising, block, bodies.inner_stmt) depth 14

      decl : Rises (classes.decl tokens level inner)
      unfolding classes.decl
      decl = search (rises_longer, namespace_decl, alias_decl, class_decl, enum_decl, function_decl, variable_decl, assert_decl, block_decl) depth 30

  -- ---- each item does

  declaration : Rises (nesting.declaration tokens)
  unfolding nesting.declaration
  declaration = decl 0 (nesting.read_nests tokens 1) (bodies.read_nests tokens 1)

  namespace_head : Rises (units.namespace_head tokens)
  unfolding units.namespace_head
  namespace_head = search (rising, shallow.forward_parts) depth 14

  close_item : Rises (units.close_item tokens)
  unfolding units.close_item
  close_item = search (rising) depth 14

  decl_item : Rises (units.decl_item tokens)
  unfolding units.decl_item
  decl_item = search (rising, declaration) depth 14

  empty_item : Rises (units.empty_item tokens)
  unfolding units.empty_item
  empty_item = search (rising) depth 14

  pub item : Rises (units.item tokens)
  unfolding units.item
  item = search (rises_longer, namespace_head, close_item, decl_item, empty_item) depth 14

  -- ---- so a unit has no more items than tokens

  fewer : (i j n : ℕ) → left tokens i ≤ n + 1 → i + 1 ≤ j → left tokens j ≤ n
  unfolding left
  fewer i j n h g = omega arith

  over : (i : ℕ) → left tokens i ≤ 0 → length tokens.list ≤ i
  unfolding left
  over i h = omega arith

  stepped : (n m heads : ℕ) (found : List Item) (i : ℕ) (e : End Item) → EndsFrom (i + 1) e → left tokens i ≤ n + 1 → left tokens i ≤ m + 1
      → ((heads' : ℕ) (found' : List Item) (j : ℕ) → left tokens j ≤ n → left tokens j ≤ m
      → units.derived tokens n heads' found' j ≡ units.derived tokens m heads' found' j)
      → units.step tokens (units.derived tokens n) heads found i e ≡ units.step tokens (units.derived tokens m) heads found i e
  stepped n m heads found i (Tree x j) r h g same =
      ap (λ (d : Derived). if units.closes_none heads x then Refused Nothing i else d) (same (units.opens heads x) (found ++ x ∷ []) j (fewer i j n h r) (fewer i j m g r))
  stepped n m heads found i (No why) r h g same = refl

  pub same_units : (n m heads : ℕ) (found : List Item) (i : ℕ) → left tokens i ≤ n → left tokens i ≤ m
      → units.derived tokens n heads found i ≡ units.derived tokens m heads found i
  unfolding units.derived
  same_units zero zero heads found i h g = refl
  same_units zero (suc m) heads found i h g = let none : nat_lt i (length tokens.list) ≡ false = le-ltb i (length tokens.list) (over i h) in rw none
  same_units (suc n) zero heads found i h g = let none : nat_lt i (length tokens.list) ≡ false = le-ltb i (length tokens.list) (over i g) in rw none
  same_units (suc n) (suc m) heads found i h g =
      let h' : left tokens i ≤ n + 1 = omega arith in
      let g' : left tokens i ≤ m + 1 = omega arith in
      ap (λ (d : Derived). if nat_lt i (length tokens.list) then d else units.at_end tokens heads found i)
      (stepped n m heads found i (units.item tokens i) (item.at i) h' g' (λ heads' found' j. same_units n m heads' found' j))

  -- ---- and what decides is what stands behind its items

  taken : (n heads : ℕ) (found : List Item) (i j : ℕ) (x : Item) → Behind tokens heads found i → i < length tokens.list → left tokens i ≤ n + 1
      → units.item tokens i ≡ Tree x j → i + 1 ≤ j
      → ((heads' : ℕ) (found' : List Item) (k : ℕ) → Behind tokens heads' found' k → left tokens k ≤ n → IsDecided tokens (units.derived tokens n heads' found' k))
      → (b : Bool) → units.closes_none heads x ≡ b
      → IsDecided tokens (if b then Refused Nothing i else units.derived tokens n (units.opens heads x) (found ++ x ∷ []) j)
  taken n heads found i j x behind before few is ends more true by = (heads, found, behind, inl (before, inr (x, j, is, by, refl)))
  taken n heads found i j x behind before few is ends more false by =
      more (units.opens heads x) (found ++ x ∷ []) j (Next heads i j found x behind before is by) (fewer i j n few ends)

  stopped : (n heads : ℕ) (found : List Item) (i : ℕ) → Behind tokens heads found i → i < length tokens.list → left tokens i ≤ n + 1
      → ((heads' : ℕ) (found' : List Item) (k : ℕ) → Behind tokens heads' found' k → left tokens k ≤ n → IsDecided tokens (units.derived tokens n heads' found' k))
      → (e : End Item) → units.item tokens i ≡ e → EndsFrom (i + 1) e
      → IsDecided tokens (units.step tokens (units.derived tokens n) heads found i e)
  stopped n heads found i behind before few more (Tree x j) is ends = taken n heads found i j x behind before few is ends more (units.closes_none heads x) refl
  stopped n heads found i behind before few more (No why) is ends = (heads, found, behind, inl (before, inl is))

  ended : (heads : ℕ) (found : List Item) (i : ℕ) → Behind tokens heads found i → length tokens.list ≤ i → IsDecided tokens (units.at_end tokens heads found i)
  ended zero found i behind over = (i, behind, over)
  ended (suc n) found i behind over = (suc n, found, behind, inr (over, omega arith, refl))

  turned : (n heads : ℕ) (found : List Item) (i : ℕ) → Behind tokens heads found i → left tokens i ≤ n + 1
      → ((heads' : ℕ) (found' : List Item) (k : ℕ) → Behind tokens heads' found' k → left tokens k ≤ n → IsDecided tokens (units.derived tokens n heads' found' k))
      → (b : Bool) → nat_lt i (length tokens.list) ≡ b
      → IsDecided tokens (if b then units.step tokens (units.derived tokens n) heads found i (units.item tokens i) else units.at_end tokens heads found i)
  turned n heads found i behind few more true is =
      stopped n heads found i behind (ltb-true i (length tokens.list) is) few more (units.item tokens i) refl (item.at i)
  turned n heads found i behind few more false is = ended heads found i behind (ltb-false i (length tokens.list) is)

  pub decided : (n heads : ℕ) (found : List Item) (i : ℕ) → Behind tokens heads found i → left tokens i ≤ n → IsDecided tokens (units.derived tokens n heads found i)
  unfolding units.derived
  decided zero heads found i behind few = ended heads found i behind (over i few)
  decided (suc n) heads found i behind few =
      let few' : left tokens i ≤ n + 1 = omega arith in
      turned n heads found i behind few' (λ heads' found' k. decided n heads' found' k) (nat_lt i (length tokens.list)) refl

  pub unit_is_decided : IsDecided tokens (units.unit tokens)
  unfolding units.unit left
  unit_is_decided = decided (length tokens.list) 0 [] 0 Start (omega arith)
