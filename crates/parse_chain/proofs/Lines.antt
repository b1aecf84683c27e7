-- Which operator stands at a token, and what the lines above an operand come to.
use Rattle.std.proofs.Common.{◌≡◌, ℕ, zero, suc, ◌+◌, ◌-◌, ◌<◌, ◌≤◌, Bool, true, false, if◌then◌else◌, nat_lt, List, [], Option, Some, None, ap, ◌∙◌, sym, refl, arith}
use Rattle.std.proofs.lemmas.Bool.{eq-eqb, ne_eqb, lt-ltb, le-ltb, ltb-true, ltb-false}
use Rattle.cxx_tree.specs.declared.expr.Expr.{Expr}
use Rattle.cxx_tree.specs.declared.expr.Operation.{Operation}
use Rattle.cxx_tokens.specs.declared.token.Tokens.{Tokens}
use Rattle.cxx_reading.specs.declared.seen.Seen.{Seen}
use Rattle.cxx_reading.specs.declared.seen.Seen.TheVariants.{Identifier, Integer, Character, Text, Word, Punctuator}
use Rattle.cxx_reading.specs.Any.{given, any_punctuator, punctuator_of}
use Rattle.cxx_reading.specs.Reading.{End, Tree, No, Nothing, and_then, kind, left}
use Rattle.cxx_reading.proofs.Turns.{turns_none}
use Rattle.cxx_reading.proofs.Factor.{assoc, unit, pointwise}
use Rattle.cxx_grammar.specs.declared.operator.Operator.{Operator}
use Rattle.cxx_grammar.specs.Operators.{binary_mark, of_line, line}
use Rattle.cxx_grammar.specs.Joined.{operations, climbed}
use Rattle.cxx_grammar.specs.Rules.{Rules}
use Rattle.parse_chain.specs.Next.{mark_at, before, operator_at}
use Rattle.parse_chain.specs.Climbs.{above, operations_of}

-- ---- operators

-- the operator of a line, from what stands there
marked : (n : ℕ) (k : Option Seen) (j : ℕ) → and_then (punctuator_of k j) (λ m. given (of_line n (binary_mark m))) ≡ given (of_line n (mark_at k)) j
marked n (Some (Punctuator m)) j = refl
marked n (Some (Word m)) j = refl
marked n (Some Identifier) j = refl
marked n (Some Integer) j = refl
marked n (Some Character) j = refl
marked n (Some Text) j = refl
marked n None j = refl

line_is : (tokens : Tokens) (n i : ℕ) → line tokens n i ≡ given (of_line n (mark_at (kind tokens i))) (i + 1)
unfolding line any_punctuator
line_is tokens n i = marked n (kind tokens i) (i + 1)

-- the operator, and the token behind it, of what was found
abbrev the_operator : Option (Operator × ℕ) → Option Operator
the_operator (Some found) = Some found.0
the_operator None = None

abbrev the_token : ℕ → Option (Operator × ℕ) → ℕ
the_token none (Some found) = found.1
the_token none None = none

its_operator : (m : Option Operator) (i : ℕ) → the_operator (before m i) ≡ m
its_operator (Some p) i = refl
its_operator None i = refl

its_token : (m : Option Operator) (i : ℕ) → the_token i (before m i) ≡ i
its_token (Some p) i = refl
its_token None i = refl

some_mark : (m : Option Operator) (o : Operator) (i j : ℕ) → before m i ≡ Some (o, j) → m ≡ Some o
some_mark m o i j e = sym (its_operator m i) ∙ ap the_operator e

no_mark : (m : Option Operator) (i : ℕ) → before m i ≡ None → m ≡ None
no_mark m i e = sym (its_operator m i) ∙ ap the_operator e

some_behind : (m : Option Operator) (o : Operator) (i j : ℕ) → before m i ≡ Some (o, j) → j ≡ i
some_behind m o i j e = sym (ap (the_token i) e) ∙ its_token m i

of_this : (o : Operator) (i : ℕ) → given (of_line o.line (Some o)) i ≡ Tree o.op i
of_this o i = rw (eq-eqb o.line o.line refl)

of_other : (o : Operator) (n i : ℕ) → (n ≡ o.line → ⊥) → given (of_line n (Some o)) i ≡ No Nothing
of_other o n i h = rw (ne_eqb o.line n (λ e. h (sym e)))

module _ (tokens : Tokens) (i : ℕ) where
  pub behind_is : (o : Operator) (j : ℕ) → operator_at tokens i ≡ Some (o, j) → j ≡ i + 1
  unfolding operator_at
  behind_is o j e = some_behind (mark_at (kind tokens i)) o (i + 1) j e

  -- the operator is read on its line, and on no other
  pub line_there : (o : Operator) (j : ℕ) → operator_at tokens i ≡ Some (o, j) → line tokens o.line i ≡ Tree o.op (i + 1)
  unfolding operator_at
  line_there o j e = let m : mark_at (kind tokens i) ≡ Some o = some_mark (mark_at (kind tokens i)) o (i + 1) j e in
      line_is tokens o.line i ∙ ap (λ (m : Option Operator). given (of_line o.line m) (i + 1)) m ∙ of_this o (i + 1)

  pub no_line : (o : Operator) (j n : ℕ) → operator_at tokens i ≡ Some (o, j) → (n ≡ o.line → ⊥) → line tokens n i ≡ No Nothing
  unfolding operator_at
  no_line o j n e h = let m : mark_at (kind tokens i) ≡ Some o = some_mark (mark_at (kind tokens i)) o (i + 1) j e in
      line_is tokens n i ∙ ap (λ (m : Option Operator). given (of_line n m) (i + 1)) m ∙ of_other o n (i + 1) h

  pub no_lines : (n : ℕ) → operator_at tokens i ≡ None → line tokens n i ≡ No Nothing
  unfolding operator_at
  no_lines n e = let m : mark_at (kind tokens i) ≡ None = no_mark (mark_at (kind tokens i)) (i + 1) e in
      line_is tokens n i ∙ ap (λ (m : Option Operator). given (of_line n m) (i + 1)) m

-- ---- lines of which no operation begins

module _ (tokens : Tokens) (deeper : Rules) where
  pub no_operation : (n i : ℕ) (found : List Operation) → line tokens n i ≡ No Nothing → operations_of tokens deeper n found i ≡ No Nothing
  no_operation n i found h = simp h

  pub no_more : (n start : ℕ) (x : Expr) (i : ℕ) → operations_of tokens deeper n [] i ≡ No Nothing → operations tokens deeper n start x i ≡ Tree x i
  unfolding operations
  no_more n start x i h = simp (turns_none (operations_of tokens deeper n) [] i (left tokens i) h)

  pick : (b : Bool) (e : End Expr) (n start : ℕ) (x : Expr) (i : ℕ) → e ≡ Tree x i → operations tokens deeper n start x i ≡ Tree x i
      → (if b then Tree x i else and_then e (operations tokens deeper n start)) ≡ Tree x i
  pick true e n start x i h g = refl
  pick false e n start x i h g = ap (λ (y : End Expr). and_then y (operations tokens deeper n start)) h ∙ g

  pub above_idle : (low n start : ℕ) (x : Expr) (i : ℕ) → ((k : ℕ) → k < n → operations_of tokens deeper k [] i ≡ No Nothing) → above tokens deeper low n start x i ≡ Tree x i
  unfolding above
  above_idle low zero start x i h = refl
  above_idle low (suc n) start x i h =
      pick (nat_lt n low) (above tokens deeper low n start x i) n start x i (above_idle low n start x i (λ k below. h k (omega arith))) (no_more n start x i (h n (omega arith)))

  -- the first line
  pub above_none : (low n start : ℕ) (x : Expr) (i : ℕ) → n ≤ low → above tokens deeper low n start x i ≡ Tree x i
  unfolding above
  above_none low zero start x i h = refl
  above_none low (suc n) start x i h = let b : nat_lt n low ≡ true = lt-ltb n low (omega arith) in rw b

  above_more : (low n start : ℕ) (x : Expr) (i : ℕ) → low ≤ n → above tokens deeper low (suc n) start x i ≡ and_then (above tokens deeper low n start x i) (operations tokens deeper n start)
  unfolding above
  above_more low n start x i h = let b : nat_lt n low ≡ false = le-ltb n low h in rw b

  pub above_all : (n start : ℕ) (x : Expr) (i : ℕ) → above tokens deeper 0 n start x i ≡ climbed tokens deeper n start x i
  unfolding above climbed
  above_all zero start x i = refl
  above_all (suc n) start x i = above_more 0 n start x i (omega arith) ∙ ap (λ (e : End Expr). and_then e (operations tokens deeper n start)) (above_all n start x i)

  above_first : (low start : ℕ) (x : Expr) (i : ℕ) → above tokens deeper low (suc low) start x i ≡ operations tokens deeper low start x i
  above_first low start x i = above_more low low start x i (omega arith) ∙ ap (λ (e : End Expr). and_then e (operations tokens deeper low start)) (above_none low low start x i (omega arith))

  split_first : (low start : ℕ) (x : Expr) (i : ℕ) → above tokens deeper low (suc low) start x i ≡ and_then (operations tokens deeper low start x i) (above tokens deeper (low + 1) (suc low) start)
  split_first low start x i = above_first low start x i ∙ sym (unit (operations tokens deeper low start x i))
      ∙ pointwise (operations tokens deeper low start x i) _ _ (λ y j. sym (above_none (low + 1) (suc low) start y j (omega arith)))

  split_by : (d n low start : ℕ) (x : Expr) (i : ℕ) → n ≡ low + d → above tokens deeper low (suc n) start x i ≡ and_then (operations tokens deeper low start x i) (above tokens deeper (low + 1) (suc n) start)
  split_by zero n low start x i e = let q : n ≡ low = omega arith in rw q (split_first low start x i)
  split_by (suc d) zero low start x i e = absurd (omega arith)
  split_by (suc d) (suc n) low start x i e =
      above_more low (suc n) start x i (omega arith)
      ∙ ap (λ (y : End Expr). and_then y (operations tokens deeper (suc n) start)) (split_by d n low start x i (omega arith))
      ∙ assoc (operations tokens deeper low start x i) _ _
      ∙ pointwise (operations tokens deeper low start x i) _ _ (λ y j. sym (above_more (low + 1) (suc n) start y j (omega arith)))

  -- the first line apart from those above it
  pub above_split : (low n start : ℕ) (x : Expr) (i : ℕ) → low < n → above tokens deeper low n start x i ≡ and_then (operations tokens deeper low start x i) (above tokens deeper (low + 1) n start)
  above_split low zero start x i h = absurd (omega arith)
  above_split low (suc n) start x i h = split_by (n - low) n low start x i (omega arith)

  -- lines of which no operation begins may be left out
  skip_by : (b : Bool) (low n start : ℕ) (x : Expr) (i : ℕ) → nat_lt low n ≡ b → operations_of tokens deeper low [] i ≡ No Nothing → above tokens deeper low n start x i ≡ above tokens deeper (low + 1) n start x i
  skip_by true low n start x i b h =
      above_split low n start x i (ltb-true low n b) ∙ ap (λ (e : End Expr). and_then e (above tokens deeper (low + 1) n start)) (no_more low start x i h)
  skip_by false low n start x i b h =
      let past : n ≤ low = ltb-false low n b in
      above_none low n start x i past ∙ sym (above_none (low + 1) n start x i (omega arith))

  skip_first : (low n start : ℕ) (x : Expr) (i : ℕ) → operations_of tokens deeper low [] i ≡ No Nothing → above tokens deeper low n start x i ≡ above tokens deeper (low + 1) n start x i
  skip_first low n start x i h = skip_by (nat_lt low n) low n start x i refl h

  pub above_skip : (d low n start : ℕ) (x : Expr) (i high : ℕ) → high ≡ low + d → ((k : ℕ) → k < high → operations_of tokens deeper k [] i ≡ No Nothing)
      → above tokens deeper low n start x i ≡ above tokens deeper high n start x i
  above_skip zero low n start x i high e h = let q : high ≡ low = omega arith in rw q
  above_skip (suc d) low n start x i high e h =
      skip_first low n start x i (h low (omega arith)) ∙ above_skip d (low + 1) n start x i high (omega arith) h
