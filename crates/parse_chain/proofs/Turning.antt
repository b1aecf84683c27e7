-- An operation at the beginning of what is left of a chain.
use Rattle.std.proofs.Common.{◌≡◌, ℕ, zero, suc, ◌+◌, ◌-◌, ◌≤◌, List, [], ◌∷◌, ◌++◌, ap, ◌∙◌, refl, arith}
use Rattle.cxx_tree.specs.declared.expr.Expr.{Expr}
use Rattle.cxx_tree.specs.declared.expr.Operation.{Operation}
use Rattle.cxx_tree.specs.declared.expr.Operation.TheVariants as operation-of
use Rattle.cxx_tree.specs.declared.operator.BinaryOp.{BinaryOp}
use Rattle.cxx_tokens.specs.declared.token.Tokens.{Tokens}
use Rattle.cxx_reading.specs.Extents.{EndsFrom, Forward, Rises, Needs, IsNothing, Reads}
use Rattle.cxx_reading.specs.Reading.{End, Tree, No, Nothing, TooDeep, and_then, go_on, turns, left, repeated, span}
use Rattle.cxx_reading.proofs.Turns.{turns_deep}
use Rattle.cxx_reading.proofs.Bounds.{same_turns}
use Rattle.cxx_reading.proofs.Factor.{assoc}
use Rattle.cxx_reading.proofs.Forward.{steps, later}
use Rattle.cxx_reading.proofs.Rises.{rising}
use Rattle.cxx_reading.proofs.Needs.{needing}
use Rattle.cxx_reading.proofs.Always.{always_reads}
use Rattle.cxx_grammar.specs.Operators.{line}
use Rattle.cxx_grammar.specs.Unaries.{unary}
use Rattle.cxx_grammar.specs.Expressions.{chain}
use Rattle.cxx_grammar.specs.Joined.{operations, climbed}
use Rattle.cxx_grammar.specs.Rules.{Rules}
use Rattle.cxx_grammar.proofs.Forwards as forwards
use Rattle.cxx_grammar.proofs.Forwards.{ForwardRules}
use Rattle.cxx_grammar.proofs.Shallow.{forward_line, rises_line}
use Rattle.cxx_grammar.proofs.Chains.{chain_by_unary}
use Rattle.parse_chain.specs.Climbs.{operations_of}

-- ---- a climb gives a tree or is too deep

module _ (tokens : Tokens) (deeper : Rules) where
  reads_operations : (n start : ℕ) (x : Expr) → Reads (operations tokens deeper n start x)
  unfolding operations
  reads_operations n start x = search (always_reads) depth 14

  climb_reads : (n start : ℕ) → ((x : Expr) → Reads (climbed tokens deeper n start x)) → (x : Expr) → Reads (climbed tokens deeper (suc n) start x)
  unfolding climbed
  climb_reads n start h x = search (always_reads, h, reads_operations) depth 14

  reads_climbed : (n start : ℕ) (x : Expr) → Reads (climbed tokens deeper n start x)
  unfolding climbed
  reads_climbed zero start x = search (always_reads)
  reads_climbed (suc n) start x = climb_reads n start (reads_climbed n start) x

  needs_line : (n : ℕ) → Needs tokens (line tokens n)
  unfolding line
  needs_line n = search (needing) depth 14

  needs_operation : (n : ℕ) (found : List Operation) → Needs tokens (operations_of tokens deeper n found)
  needs_operation n found = search (needing, needs_line) depth 14

-- ---- and takes at least a token for an operation

module _ (tokens : Tokens) (deeper : Rules) (h : ForwardRules deeper) where
  forward_chain : (n : ℕ) → Forward (chain tokens deeper n)
  forward_chain n = forwards.chain tokens deeper h n

  forward_operations : (n start : ℕ) (x : Expr) → Forward (operations tokens deeper n start x)
  unfolding operations
  forward_operations n start x = search (steps, forward_line, forward_chain) depth 14

  climb_on : (n start : ℕ) → ((x : Expr) → Forward (climbed tokens deeper n start x)) → (x : Expr) → Forward (climbed tokens deeper (suc n) start x)
  unfolding climbed
  climb_on n start g x = search (steps, forward_operations, g) depth 14

  pub forward_climbed : (n start : ℕ) (x : Expr) → Forward (climbed tokens deeper n start x)
  unfolding climbed
  forward_climbed zero start x = search (steps)
  forward_climbed (suc n) start x = climb_on n start (forward_climbed n start) x

  rises_operation : (n : ℕ) (found : List Operation) → Rises (operations_of tokens deeper n found)
  rises_operation n found = search (rising, rises_line, steps, forward_chain) depth 14

-- ---- an operator stands there

module _ (tokens : Tokens) (deeper : Rules) (n i : ℕ) (op : BinaryOp) (there : line tokens n i ≡ Tree op (i + 1)) where
  not_both : (e : End BinaryOp) → e ≡ Tree op (i + 1) → e ≡ No Nothing → ⊥
  not_both e p q = cc

  left_there : (k : ℕ) → left tokens i ≡ k → (m : ℕ) × (k ≡ suc m)
  left_there zero e = absurd (not_both (line tokens n i) there ((needs_line tokens deeper n).at i e))
  left_there (suc m) e = (m, refl)

  -- a part of a chain is the operator and an operand
  part_is : (found : List Operation) → operations_of tokens deeper n found i
      ≡ and_then (chain tokens deeper n (i + 1)) (λ z j. Tree (found ++ operation-of.Operation (span tokens i j) op z ∷ []) j)
  part_is found = simp (there, assoc)

  pub part_nothing : (found : List Operation) → unary tokens deeper (i + 1) ≡ No Nothing → operations_of tokens deeper n found i ≡ No Nothing
  part_nothing found e = let c : chain tokens deeper n (i + 1) ≡ No Nothing = chain_by_unary tokens deeper n (i + 1) ∙ ap (λ (e : End Expr). and_then e (climbed tokens deeper n (i + 1))) e in
      part_is found ∙ ap (λ (e : End Expr). and_then e (λ z j. Tree (found ++ operation-of.Operation (span tokens i j) op z ∷ []) j)) c

  part_deep : (found : List Operation) → unary tokens deeper (i + 1) ≡ No TooDeep → operations_of tokens deeper n found i ≡ No TooDeep
  part_deep found e = let c : chain tokens deeper n (i + 1) ≡ No TooDeep = chain_by_unary tokens deeper n (i + 1) ∙ ap (λ (e : End Expr). and_then e (climbed tokens deeper n (i + 1))) e in
      part_is found ∙ ap (λ (e : End Expr). and_then e (λ z j. Tree (found ++ operation-of.Operation (span tokens i j) op z ∷ []) j)) c

  deep_by : (found : List Operation) (k : ℕ) → (m : ℕ) × (k ≡ suc m) → operations_of tokens deeper n found i ≡ No TooDeep → turns k (operations_of tokens deeper n) found i ≡ No TooDeep
  deep_by found k s e = rw s.1 (turns_deep (operations_of tokens deeper n) found i s.0 e)

  pub turn_deep : (found : List Operation) → unary tokens deeper (i + 1) ≡ No TooDeep → repeated tokens (operations_of tokens deeper n) found i ≡ No TooDeep
  turn_deep found e = deep_by found (left tokens i) (left_there (left tokens i) refl) (part_deep found e)

  module _ (h : ForwardRules deeper) (y : Expr) (k : ℕ) (operand : unary tokens deeper (i + 1) ≡ Tree y k) where
    part_tree : (found : List Operation) → operations_of tokens deeper n found i
        ≡ and_then (climbed tokens deeper n (i + 1) y k) (λ z j. Tree (found ++ operation-of.Operation (span tokens i j) op z ∷ []) j)
    part_tree found = let c : chain tokens deeper n (i + 1) ≡ climbed tokens deeper n (i + 1) y k = chain_by_unary tokens deeper n (i + 1) ∙ ap (λ (e : End Expr). and_then e (climbed tokens deeper n (i + 1))) operand in
        part_is found ∙ ap (λ (e : End Expr). and_then e (λ z j. Tree (found ++ operation-of.Operation (span tokens i j) op z ∷ []) j)) c

    turned : (found : List Operation) (m : ℕ) (e : End Expr) → EndsFrom (i + 1) e → (IsNothing e → ⊥)
        → ((all : List Operation) (j : ℕ) → i + 1 ≤ j → turns m (operations_of tokens deeper n) all j ≡ repeated tokens (operations_of tokens deeper n) all j)
        → go_on (turns m (operations_of tokens deeper n)) found i (and_then e (λ z j. Tree (found ++ operation-of.Operation (span tokens i j) op z ∷ []) j))
        ≡ and_then e (λ z j. repeated tokens (operations_of tokens deeper n) (found ++ operation-of.Operation (span tokens i j) op z ∷ []) j)
    turned found m (Tree z j) r g same = same (found ++ operation-of.Operation (span tokens i j) op z ∷ []) j r
    turned found m (No Nothing) r g same = absurd (g tt)
    turned found m (No TooDeep) r g same = refl

    within_bound : (m j : ℕ) → left tokens i ≡ suc m → i + 1 ≤ j → left tokens j ≤ m
    unfolding left
    within_bound m j e h = omega arith

    starts_behind : i + 1 ≤ k
    starts_behind = let f : EndsFrom (i + 1) (unary tokens deeper (i + 1)) = (forwards.unary tokens deeper h).at (i + 1) in rw operand at f

    ends_behind : EndsFrom (i + 1) (climbed tokens deeper n (i + 1) y k)
    ends_behind = later (i + 1) k (climbed tokens deeper n (i + 1) y k) starts_behind ((forward_climbed tokens deeper h n (i + 1) y).at k)

    turn_by : (found : List Operation) (c : ℕ) → left tokens i ≡ c → (m : ℕ) × (c ≡ suc m) → turns c (operations_of tokens deeper n) found i
        ≡ and_then (climbed tokens deeper n (i + 1) y k) (λ z j. repeated tokens (operations_of tokens deeper n) (found ++ operation-of.Operation (span tokens i j) op z ∷ []) j)
    unfolding turns
    turn_by found c e s =
        ap (λ (c : ℕ). turns c (operations_of tokens deeper n) found i) s.1
        ∙ ap (go_on (turns s.0 (operations_of tokens deeper n)) found i) (part_tree found)
        ∙ turned found s.0 (climbed tokens deeper n (i + 1) y k) ends_behind ((reads_climbed tokens deeper n (i + 1) y).at k)
        (λ all j r. same_turns tokens (operations_of tokens deeper n) (rises_operation tokens deeper h n) (needs_operation tokens deeper n) s.0 (left tokens j) all j (within_bound s.0 j (e ∙ s.1) r) (omega arith))

    -- what is left of the chain goes on behind that operand
    pub turn : (found : List Operation) → repeated tokens (operations_of tokens deeper n) found i
        ≡ and_then (climbed tokens deeper n (i + 1) y k) (λ z j. repeated tokens (operations_of tokens deeper n) (found ++ operation-of.Operation (span tokens i j) op z ∷ []) j)
    turn found = turn_by found (left tokens i) refl (left_there (left tokens i) refl)
