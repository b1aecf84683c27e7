-- What a climb comes to does not change with its steps.
use Rattle.std.proofs.Common.{◌≡◌, ℕ, ◌+◌, ◌-◌, ◌<◌, ◌≤◌, Bool, true, false, ◌==◌, nat_lt, List, [], ◌∷◌, ◌++◌, Some, None, ap, ◌∙◌, sym, refl, arith}
use Rattle.std.proofs.lemmas.Bool.{eqb-true, eqb-false, ltb-true, ltb-false}
use Rattle.cxx_base.specs.declared.place.Span.{Span}
use Rattle.cxx_tree.specs.declared.expr.Expr.{Expr}
use Rattle.cxx_tree.specs.declared.expr.Expr.TheVariants as expr-of
use Rattle.cxx_tree.specs.declared.expr.Operation.{Operation}
use Rattle.cxx_tree.specs.declared.expr.Operation.TheVariants as operation-of
use Rattle.cxx_tokens.specs.declared.token.Tokens.{Tokens}
use Rattle.cxx_reading.specs.Reading.{End, Tree, No, Nothing, TooDeep, and_then, left, span}
use Rattle.cxx_reading.proofs.Turns.{turns_none}
use Rattle.cxx_reading.proofs.Factor.{assoc, pointwise}
use Rattle.cxx_grammar.specs.declared.operator.Operator.{Operator}
use Rattle.cxx_grammar.specs.Operators.{line}
use Rattle.cxx_grammar.specs.Unaries.{unary}
use Rattle.cxx_grammar.specs.Expressions.{with_operations}
use Rattle.cxx_grammar.specs.Joined.{operations, climbed}
use Rattle.cxx_grammar.specs.Rules.{Rules}
use Rattle.cxx_grammar.proofs.Forwards.{ForwardRules}
use Rattle.parse_chain.specs.declared.open_chain.OpenChain.{OpenChain}
use Rattle.parse_chain.specs.Chains.{operations_with, closed, extended, opened}
use Rattle.parse_chain.specs.Climbs.{Rest, above, operations_of, behind, inside, within, outermost, climb, Idle}
use Rattle.parse_chain.specs.Next.{operator_at}
use Rattle.parse_chain.proofs.Lines.{line_there, no_line, no_lines, no_operation, above_idle, above_none, above_all, above_split, above_skip}
use Rattle.parse_chain.proofs.Turning.{part_nothing, turn_deep, turn}

-- a list with a last operation is a chain
with_last : (x : Expr) (done : List Operation) (last : Operation) (s : Span) → with_operations x (done ++ last ∷ []) s ≡ expr-of.Chain s x (done ++ last ∷ [])
with_last x [] last s = refl
with_last x (first ∷ more) last s = refl

module _ (tokens : Tokens) (deeper : Rules) where
  -- the innermost chain is the last
  within_last : (outer : Rest) (chains : List OpenChain) (o : OpenChain) → within tokens deeper outer (chains ++ o ∷ []) ≡ inside tokens deeper o (within tokens deeper outer chains)
  unfolding within
  within_last outer [] o = refl
  within_last outer (p ∷ more) o = within_last (inside tokens deeper p outer) more o

  module _ (chains : List OpenChain) (o : OpenChain) where
    climb_last : (low start : ℕ) (x : Expr) (i : ℕ) → climb tokens deeper (chains ++ o ∷ []) low start x i ≡ inside tokens deeper o (climb tokens deeper chains) low start x i
    climb_last low start x i = ap (λ (f : Rest). f low start x i) (within_last (outermost tokens deeper) chains o)

  -- ---- a chain ends

  behind_end : (o : OpenChain) (outer : Rest) (x : Expr) (i : ℕ) → operations_of tokens deeper o.line (operations_with tokens o x i) i ≡ No Nothing
      → behind tokens deeper o outer x i ≡ outer (o.line + 1) o.start (closed tokens o x i) i
  unfolding behind
  behind_end o outer x i none =
      ap (λ (e : End (List Operation)). and_then e (λ all k. outer (o.line + 1) o.start (with_operations o.first all (span tokens o.start k)) k))
      (turns_none (operations_of tokens deeper o.line) (operations_with tokens o x i) i (left tokens i) none)
      ∙ ap (λ (y : Expr). outer (o.line + 1) o.start y i) (with_last o.first o.done (operation-of.Operation (span tokens o.begin i) o.op x) (span tokens o.start i))

  ends : (o : OpenChain) (outer : Rest) (low start : ℕ) (x : Expr) (i : ℕ) → ((k : ℕ) → k < o.line → operations_of tokens deeper k [] i ≡ No Nothing)
      → operations_of tokens deeper o.line (operations_with tokens o x i) i ≡ No Nothing
      → inside tokens deeper o outer low start x i ≡ outer (o.line + 1) o.start (closed tokens o x i) i
  unfolding inside
  ends o outer low start x i idle none =
      ap (λ (e : End Expr). and_then e (behind tokens deeper o outer)) (above_idle tokens deeper low o.line start x i idle) ∙ behind_end o outer x i none

  -- ---- lines may be left out where no operation of them begins

  module _ (i high : ℕ) (idle : (k : ℕ) → k < high → operations_of tokens deeper k [] i ≡ No Nothing) where
    above_skips : (low n start : ℕ) (x : Expr) → low ≤ high → above tokens deeper low n start x i ≡ above tokens deeper high n start x i
    above_skips low n start x h = above_skip tokens deeper (high - low) low n start x i high (omega arith) idle

    inside_skips : (o : OpenChain) (outer : Rest) (low start : ℕ) (x : Expr) → low ≤ high → inside tokens deeper o outer low start x i ≡ inside tokens deeper o outer high start x i
    unfolding inside
    inside_skips o outer low start x h = ap (λ (e : End Expr). and_then e (behind tokens deeper o outer)) (above_skips low o.line start x h)

    within_skips : (chains : List OpenChain) (outer : Rest) → ((low start : ℕ) (x : Expr) → low ≤ high → outer low start x i ≡ outer high start x i)
        → (low start : ℕ) (x : Expr) → low ≤ high → within tokens deeper outer chains low start x i ≡ within tokens deeper outer chains high start x i
    unfolding within
    within_skips [] outer same = same
    within_skips (o ∷ more) outer same = within_skips more (inside tokens deeper o outer) (inside_skips o outer)

    skips : (chains : List OpenChain) (low start : ℕ) (x : Expr) → low ≤ high → climb tokens deeper chains low start x i ≡ climb tokens deeper chains high start x i
    skips chains = within_skips chains (outermost tokens deeper) (λ low start x h. above_skips low 10 start x h)

  -- ---- at a token where no operation begins

  module _ (i : ℕ) (idle : Idle tokens deeper i) where
    pub idle_end : (chains : List OpenChain) (o : OpenChain) (start : ℕ) (x : Expr)
        → climb tokens deeper (chains ++ o ∷ []) 0 start x i ≡ climb tokens deeper chains 0 o.start (closed tokens o x i) i
    idle_end chains o start x =
        climb_last chains o 0 start x i
        ∙ ends o (climb tokens deeper chains) 0 start x i (λ k below. idle.at k []) (idle.at o.line (operations_with tokens o x i))
        ∙ sym (skips i (o.line + 1) (λ k below. idle.at k []) chains 0 o.start (closed tokens o x i) (omega arith))

    pub idle_all : (start : ℕ) (x : Expr) → climb tokens deeper [] 0 start x i ≡ Tree x i
    unfolding within
    idle_all start x = above_idle tokens deeper 0 10 start x i (λ k below. idle.at k [])

  -- ---- at a token where an operator stands

  module _ (i j : ℕ) (operator : Operator) (there : operator_at tokens i ≡ Some (operator, j)) where
    other : (k : ℕ) (found : List Operation) → (k ≡ operator.line → ⊥) → operations_of tokens deeper k found i ≡ No Nothing
    other k found h = no_operation tokens deeper k i found (no_line tokens i operator j k there h)

    lower : (k : ℕ) → k < operator.line → operations_of tokens deeper k [] i ≡ No Nothing
    lower k below = other k [] (λ e. omega arith)

    -- the lines that bind more are done
    pub settles : (chains : List OpenChain) (start : ℕ) (x : Expr) → climb tokens deeper chains 0 start x i ≡ climb tokens deeper chains operator.line start x i
    settles chains start x = skips i operator.line lower chains 0 start x (omega arith)

    -- a chain that binds more ends
    pub tighter : (chains : List OpenChain) (o : OpenChain) (start : ℕ) (x : Expr) → o.line < operator.line
        → climb tokens deeper (chains ++ o ∷ []) operator.line start x i ≡ climb tokens deeper chains operator.line o.start (closed tokens o x i) i
    tighter chains o start x h =
        climb_last chains o operator.line start x i
        ∙ ends o (climb tokens deeper chains) operator.line start x i (λ k below. lower k (omega arith)) (other o.line (operations_with tokens o x i) (λ e. omega arith))
        ∙ skips i operator.line lower chains (o.line + 1) o.start (closed tokens o x i) (omega arith)

    read_there : line tokens operator.line i ≡ Tree operator.op (i + 1)
    read_there = line_there tokens i operator j there

    by_line : (b : Bool) (k : ℕ) (found : List Operation) → unary tokens deeper (i + 1) ≡ No Nothing → (k == operator.line) ≡ b → operations_of tokens deeper k found i ≡ No Nothing
    by_line true k found e h = rw (eqb-true k operator.line h) (part_nothing tokens deeper operator.line i operator.op read_there found e)
    by_line false k found e h = other k found (eqb-false k operator.line h)

    -- where nothing begins behind the operator, no operation begins
    pub no_operand : unary tokens deeper (i + 1) ≡ No Nothing → Idle tokens deeper i
    no_operand e = record { at = λ k found. by_line (k == operator.line) k found e refl }

    -- ---- the operand behind it is too deep

    module _ (deep : unary tokens deeper (i + 1) ≡ No TooDeep) where
      operations_deep : (start : ℕ) (x : Expr) → operations tokens deeper operator.line start x i ≡ No TooDeep
      unfolding operations
      operations_deep start x = simp (turn_deep tokens deeper operator.line i operator.op read_there [] deep)

      above_deep : (n start : ℕ) (x : Expr) → operator.line < n → above tokens deeper operator.line n start x i ≡ No TooDeep
      above_deep n start x h = above_split tokens deeper operator.line n start x i h
          ∙ ap (λ (e : End Expr). and_then e (above tokens deeper (operator.line + 1) n start)) (operations_deep start x)

      -- a rest that is too deep there, from each line up to that of the operator
      abbrev Deep : Rest → Type 0
      Deep outer = (low start : ℕ) (x : Expr) → low ≤ operator.line → outer low start x i ≡ No TooDeep

      behind_deep : (o : OpenChain) (outer : Rest) (x : Expr) → o.line ≡ operator.line → behind tokens deeper o outer x i ≡ No TooDeep
      unfolding behind
      behind_deep o outer x e =
          let here : line tokens o.line i ≡ Tree operator.op (i + 1) = rw e read_there in
          ap (λ (e : End (List Operation)). and_then e (λ all k. outer (o.line + 1) o.start (with_operations o.first all (span tokens o.start k)) k))
          (turn_deep tokens deeper o.line i operator.op here (operations_with tokens o x i) deep)

      inside_deep : (tighter looser : Bool) (o : OpenChain) (outer : Rest) (start : ℕ) (x : Expr) → Deep outer → nat_lt o.line operator.line ≡ tighter → nat_lt operator.line o.line ≡ looser
          → inside tokens deeper o outer operator.line start x i ≡ No TooDeep
      unfolding inside
      inside_deep true looser o outer start x h t l =
          let below : o.line < operator.line = ltb-true o.line operator.line t in
          ends o outer operator.line start x i (λ k less. lower k (omega arith)) (other o.line (operations_with tokens o x i) (λ e. omega arith))
          ∙ h (o.line + 1) o.start (closed tokens o x i) (omega arith)
      inside_deep false true o outer start x h t l =
          ap (λ (e : End Expr). and_then e (behind tokens deeper o outer)) (above_deep o.line start x (ltb-true operator.line o.line l))
      inside_deep false false o outer start x h t l =
          let a : operator.line ≤ o.line = ltb-false o.line operator.line t in
          let b : o.line ≤ operator.line = ltb-false operator.line o.line l in
          ap (λ (e : End Expr). and_then e (behind tokens deeper o outer)) (above_none tokens deeper operator.line o.line start x i b)
          ∙ behind_deep o outer x (omega arith)

      inside_all : (o : OpenChain) (outer : Rest) → Deep outer → Deep (inside tokens deeper o outer)
      inside_all o outer h low start x below =
          inside_skips i operator.line lower o outer low start x below
          ∙ inside_deep (nat_lt o.line operator.line) (nat_lt operator.line o.line) o outer start x h refl refl

      within_deep : (chains : List OpenChain) (outer : Rest) → Deep outer → Deep (within tokens deeper outer chains)
      unfolding within
      within_deep [] outer h = h
      within_deep (o ∷ more) outer h = within_deep more (inside tokens deeper o outer) (inside_all o outer h)

      outermost_deep : operator.line < 10 → Deep (outermost tokens deeper)
      outermost_deep line low start x below = above_skips i operator.line lower low 10 start x below ∙ above_deep 10 start x line

      pub too_deep : operator.line < 10 → (chains : List OpenChain) (start : ℕ) (x : Expr) → climb tokens deeper chains 0 start x i ≡ No TooDeep
      too_deep line chains start x = within_deep chains (outermost tokens deeper) (outermost_deep line) 0 start x (omega arith)

    -- ---- the operand behind it is read

    module _ (h : ForwardRules deeper) (y : Expr) (k : ℕ) (operand : unary tokens deeper (i + 1) ≡ Tree y k) where
      -- a chain of its line goes on
      behind_turn : (o : OpenChain) (outer : Rest) (x : Expr) → o.line ≡ operator.line
          → behind tokens deeper o outer x i ≡ and_then (climbed tokens deeper o.line (i + 1) y k) (behind tokens deeper (extended tokens o x operator.op i) outer)
      unfolding behind
      behind_turn o outer x e =
          let here : line tokens o.line i ≡ Tree operator.op (i + 1) = rw e read_there in
          ap (λ (e : End (List Operation)). and_then e (λ all k. outer (o.line + 1) o.start (with_operations o.first all (span tokens o.start k)) k))
          (turn tokens deeper o.line i operator.op here h y k operand (operations_with tokens o x i))
          ∙ assoc (climbed tokens deeper o.line (i + 1) y k) _ _

      inside_first : (o : OpenChain) (outer : Rest) → inside tokens deeper o outer 0 (i + 1) y k ≡ and_then (climbed tokens deeper o.line (i + 1) y k) (behind tokens deeper o outer)
      unfolding inside
      inside_first o outer = ap (λ (e : End Expr). and_then e (behind tokens deeper o outer)) (above_all tokens deeper o.line (i + 1) y k)

      inside_last : (o : OpenChain) (outer : Rest) (low start : ℕ) (x : Expr) → o.line ≤ low → inside tokens deeper o outer low start x i ≡ behind tokens deeper o outer x i
      unfolding inside
      inside_last o outer low start x e = ap (λ (e : End Expr). and_then e (behind tokens deeper o outer)) (above_none tokens deeper low o.line start x i e)

      pub goes_on : (chains : List OpenChain) (o : OpenChain) (start : ℕ) (x : Expr) → o.line ≡ operator.line
          → climb tokens deeper (chains ++ o ∷ []) operator.line start x i ≡ climb tokens deeper (chains ++ extended tokens o x operator.op i ∷ []) 0 (i + 1) y k
      goes_on chains o start x e =
          let outer = climb tokens deeper chains in
          climb_last chains o operator.line start x i
          ∙ inside_last o (climb tokens deeper chains) operator.line start x (omega arith)
          ∙ behind_turn o (climb tokens deeper chains) x e
          ∙ sym (inside_first (extended tokens o x operator.op i) (climb tokens deeper chains))
          ∙ sym (climb_last chains (extended tokens o x operator.op i) 0 (i + 1) y k)

      -- a chain of its line begins
      operations_turn : (outer : Rest) (start : ℕ) (x : Expr)
          → and_then (operations tokens deeper operator.line start x i) (outer (operator.line + 1) start)
          ≡ and_then (climbed tokens deeper operator.line (i + 1) y k) (behind tokens deeper (opened operator start x i) outer)
      unfolding operations behind
      operations_turn outer start x =
          simp assoc
          (ap (λ (e : End (List Operation)). and_then e (λ all k. outer (operator.line + 1) start (with_operations x all (span tokens start k)) k))
          (turn tokens deeper operator.line i operator.op read_there h y k operand [])
          ∙ assoc (climbed tokens deeper operator.line (i + 1) y k) _ _)

      begins : (chains : List OpenChain) (start : ℕ) (x : Expr)
          → climb tokens deeper chains operator.line start x i ≡ and_then (operations tokens deeper operator.line start x i) (climb tokens deeper chains (operator.line + 1) start)
          → climb tokens deeper chains operator.line start x i ≡ climb tokens deeper (chains ++ opened operator start x i ∷ []) 0 (i + 1) y k
      begins chains start x split =
          split
          ∙ operations_turn (climb tokens deeper chains) start x
          ∙ sym (inside_first (opened operator start x i) (climb tokens deeper chains))
          ∙ sym (climb_last chains (opened operator start x i) 0 (i + 1) y k)

      outer_split : operator.line < 10 → (start : ℕ) (x : Expr)
          → climb tokens deeper [] operator.line start x i ≡ and_then (operations tokens deeper operator.line start x i) (climb tokens deeper [] (operator.line + 1) start)
      unfolding within
      outer_split line start x = above_split tokens deeper operator.line 10 start x i line

      inside_split : (o : OpenChain) (outer : Rest) (start : ℕ) (x : Expr) → operator.line < o.line
          → inside tokens deeper o outer operator.line start x i ≡ and_then (operations tokens deeper operator.line start x i) (inside tokens deeper o outer (operator.line + 1) start)
      unfolding inside
      inside_split o outer start x h =
          ap (λ (e : End Expr). and_then e (behind tokens deeper o outer)) (above_split tokens deeper operator.line o.line start x i h)
          ∙ assoc (operations tokens deeper operator.line start x i) _ _

      last_split : (chains : List OpenChain) (o : OpenChain) (start : ℕ) (x : Expr) → operator.line < o.line
          → climb tokens deeper (chains ++ o ∷ []) operator.line start x i ≡ and_then (operations tokens deeper operator.line start x i) (climb tokens deeper (chains ++ o ∷ []) (operator.line + 1) start)
      last_split chains o start x h =
          climb_last chains o operator.line start x i
          ∙ inside_split o (climb tokens deeper chains) start x h
          ∙ pointwise (operations tokens deeper operator.line start x i) _ _ (λ z j. sym (climb_last chains o (operator.line + 1) start z j))

      pub begins_outside : operator.line < 10 → (start : ℕ) (x : Expr)
          → climb tokens deeper [] operator.line start x i ≡ climb tokens deeper ([] ++ opened operator start x i ∷ []) 0 (i + 1) y k
      begins_outside line start x = begins [] start x (outer_split line start x)

      pub begins_inside : (chains : List OpenChain) (o : OpenChain) (start : ℕ) (x : Expr) → operator.line < o.line
          → climb tokens deeper (chains ++ o ∷ []) operator.line start x i ≡ climb tokens deeper ((chains ++ o ∷ []) ++ opened operator start x i ∷ []) 0 (i + 1) y k
      begins_inside chains o start x h = begins (chains ++ o ∷ []) start x (last_split chains o start x h)

  -- ---- no operator stands there

  pub no_operator : (i : ℕ) → operator_at tokens i ≡ None → Idle tokens deeper i
  no_operator i e = record { at = λ k found. no_operation tokens deeper k i found (no_lines tokens i k e) }

  -- ---- the whole climb

  pub climb_is : (start : ℕ) (x : Expr) (i : ℕ) → climbed tokens deeper 10 start x i ≡ climb tokens deeper [] 0 start x i
  unfolding within
  climb_is start x i = sym (above_all tokens deeper 10 start x i)
