-- What a look at a token tells: where no part begins with it, the part is missing, and of two forms the other is read alone.
use Rattle.std.proofs.Common.{◌≡◌, ℕ, zero, suc, ◌+◌, Bool, true, false, [], Some, ◌⊎◌, inl, inr, refl, sym, arith}
use Rattle.cxx_tree.specs.declared.expr.Expr.{Expr}
use Rattle.cxx_tree.specs.declared.expr.Expr.TheVariants as expr-of
use Rattle.cxx_tree.specs.declared.identifier.NameTree.{NameTree}
use Rattle.cxx_tokens.specs.declared.token.Tokens.{Tokens}
use Rattle.cxx_tokens.specs.declared.mark.TheConstants.{LEFT_BRACE, DOT, EQUAL, QUESTION}
use Rattle.cxx_reading.specs.declared.seen.Seen.TheVariants.{Punctuator}
use Rattle.cxx_reading.specs.Reading.{Tree, No, Nothing, TooDeep, and_then, kind, is_punctuator, optional, left}
use Rattle.cxx_reading.proofs.Factor.{assoc}
use Rattle.cxx_reading.proofs.Identifiers.{identifier_or_none}
use Rattle.cxx_reading.proofs.Starts.{is_that_punctuator, no_punctuator, punctuator_there, longer_nothing, longer_deep}
use Rattle.cxx_reading.proofs.Turns.{turns_none}
use Rattle.cxx_grammar.specs.Lists as lists
use Rattle.cxx_grammar.specs.Postfixes.{suffixes_on, suffixes}
use Rattle.cxx_grammar.specs.Expressions.{arms}
use Rattle.cxx_grammar.specs.Joined.{begins_suffix, one_clause, clauses_from, name_rest, postfix_from, choice_from}
use Rattle.cxx_grammar.specs.Rules.{Rules}
use Rattle.cxx_grammar.specs.Read.{levels_from, rules, read}
use Rattle.cxx_grammar.proofs.Begins.{no_braced, no_designator}
use Rattle.cxx_grammar.proofs.SuffixArms.{no_suffix}

-- ---- what stands behind an operand

module _ (tokens : Tokens) (deeper : Rules) where
  pub name_alone : (start : ℕ) (n : NameTree) (i : ℕ) → is_punctuator LEFT_BRACE (kind tokens i) ≡ false → name_rest tokens deeper start n i ≡ Tree (expr-of.Name n) i
  unfolding name_rest optional
  name_alone start n i h = simp (no_braced tokens deeper i (kind tokens i) refl h)

  pub no_suffixes : (start : ℕ) (x : Expr) (i : ℕ) → begins_suffix (kind tokens i) ≡ false → postfix_from tokens deeper start x i ≡ Tree x i
  unfolding postfix_from suffixes
  no_suffixes start x i h =
      let none : suffixes_on tokens deeper [] i ≡ No Nothing = simp (no_suffix tokens deeper i h) in
      simp (turns_none (suffixes_on tokens deeper) [] i (left tokens i) none)

  pub no_choice : (start : ℕ) (x : Expr) (i : ℕ) → is_punctuator QUESTION (kind tokens i) ≡ false → choice_from tokens deeper start x i ≡ Tree x i
  unfolding choice_from optional arms
  no_choice start x i h = simp (no_punctuator tokens i QUESTION h)

-- ---- braced lists at a level, which may be too deep

module _ (tokens : Tokens) where
  -- what is too deep at a level is so at each token
  abbrev pub IsDeep : Rules → Type 0
  IsDeep deeper = ((i : ℕ) → deeper.expr i ≡ No TooDeep) × ((i : ℕ) → deeper.braced i ≡ No TooDeep)

  braced_by : (n i : ℕ) → is_punctuator LEFT_BRACE (kind tokens i) ≡ false → ((rules tokens n).braced i ≡ No Nothing) ⊎ IsDeep (rules tokens n)
  unfolding rules
  braced_by zero i h = inr ((λ j. refl), (λ j. refl))
  braced_by (suc n) i h = inl (no_braced tokens (rules tokens n) i (kind tokens i) refl h)

  pub braced_elsewhere : (level i : ℕ) → is_punctuator LEFT_BRACE (kind tokens i) ≡ false → ((read tokens level).braced i ≡ No Nothing) ⊎ IsDeep (read tokens level)
  unfolding read
  braced_elsewhere level i h = braced_by (levels_from level) i h

  pub arg_elsewhere : (level i : ℕ) → is_punctuator LEFT_BRACE (kind tokens i) ≡ false → lists.arg tokens (read tokens level) i ≡ lists.arg_expr tokens (read tokens level) i
  unfolding lists.arg lists.arg_expr lists.arg_braced
  arg_elsewhere level i h = elim (braced_elsewhere level i h) [
    | inl none ↦ simp (none, longer_nothing)
    | inr deep ↦ simp (deep.0 i, deep.1 i)
  ]

  arg_deep : (deeper : Rules) → IsDeep deeper → (i : ℕ) → lists.arg tokens deeper i ≡ No TooDeep
  unfolding lists.arg lists.arg_expr
  arg_deep deeper deep i = simp (deep.0 i)

-- ---- clauses

module _ (tokens : Tokens) where
  pub clause_elsewhere : (deeper : Rules) (i : ℕ) → is_punctuator DOT (kind tokens i) ≡ false → lists.clause tokens deeper i ≡ lists.clause_plain tokens deeper i
  unfolding lists.clause lists.clause_designator
  clause_elsewhere deeper i h = simp (no_designator tokens deeper i (kind tokens i) refl h, longer_nothing)

  pub clauses_by_one : (deeper : Rules) (i : ℕ) → lists.some_clauses tokens deeper i ≡ and_then (one_clause tokens deeper i) (clauses_from tokens deeper)
  unfolding lists.some_clauses one_clause clauses_from
  clauses_by_one deeper i = sym (assoc (lists.clause tokens deeper i) (λ x j. Tree (lists.first_clause x) j) (clauses_from tokens deeper))

  -- ---- designators, whose third token tells which of the two it is

  behind : (i : ℕ) → i + 1 + 1 ≡ i + 2
  behind i = omega arith

  no_equal_by : (deeper : Rules) (i : ℕ) (dot : Bool) → is_punctuator DOT (kind tokens i) ≡ dot → is_punctuator EQUAL (kind tokens (i + 1 + 1)) ≡ false
      → lists.designator_equal tokens deeper i ≡ No Nothing
  unfolding lists.designator_equal
  no_equal_by deeper i false e h = simp (no_punctuator tokens i DOT e)
  no_equal_by deeper i true e h = elim (identifier_or_none tokens (i + 1)) [
    | inl none ↦ simp (punctuator_there tokens i DOT e, none)
    | inr x ↦ simp (punctuator_there tokens i DOT e, x.1, no_punctuator tokens (i + 1 + 1) EQUAL h)
  ]

  pub designator_elsewhere : (deeper : Rules) (i : ℕ) → is_punctuator EQUAL (kind tokens (i + 2)) ≡ false → lists.designator tokens deeper i ≡ lists.designator_braced tokens deeper i
  unfolding lists.designator
  designator_elsewhere deeper i h =
      let there : is_punctuator EQUAL (kind tokens (i + 1 + 1)) ≡ false = rw (behind i) h in
      simp (no_equal_by deeper i (is_punctuator DOT (kind tokens i)) refl there)

  module _ (level i : ℕ) (h : is_punctuator EQUAL (kind tokens (i + 1 + 1)) ≡ true) where
    no_brace : is_punctuator LEFT_BRACE (kind tokens (i + 1 + 1)) ≡ false
    no_brace = let e : kind tokens (i + 1 + 1) ≡ Some (Punctuator EQUAL) = is_that_punctuator EQUAL (kind tokens (i + 1 + 1)) h in rw e refl

    at_equal_by : (dot : Bool) → is_punctuator DOT (kind tokens i) ≡ dot → lists.designator tokens (read tokens level) i ≡ lists.designator_equal tokens (read tokens level) i
    unfolding lists.designator lists.designator_equal lists.designator_braced
    at_equal_by false e = simp (no_punctuator tokens i DOT e)
    at_equal_by true e = elim (identifier_or_none tokens (i + 1)) [
      | inl none ↦ simp (punctuator_there tokens i DOT e, none)
      | inr x ↦ elim (braced_elsewhere tokens level (i + 1 + 1) no_brace) [
        | inl none ↦ simp (punctuator_there tokens i DOT e, x.1, none, longer_nothing)
        | inr deep ↦ simp (punctuator_there tokens i DOT e, x.1, punctuator_there tokens (i + 1 + 1) EQUAL h, arg_deep tokens (read tokens level) deep (i + 1 + 1 + 1), deep.1 (i + 1 + 1), longer_deep)
      ]
    ]

  pub designator_at_equal : (level i : ℕ) → is_punctuator EQUAL (kind tokens (i + 2)) ≡ true → lists.designator tokens (read tokens level) i ≡ lists.designator_equal tokens (read tokens level) i
  designator_at_equal level i h =
      let there : is_punctuator EQUAL (kind tokens (i + 1 + 1)) ≡ true = rw (behind i) h in
      at_equal_by level i there (is_punctuator DOT (kind tokens i)) refl

pub ruleset designators = (designator_at_equal, designator_elsewhere)
