-- What a climb with open chains comes to, in the grammar's own words: the operand is read to its end, which is that of the
-- innermost chain's last operation; that chain goes on to its end, and is an operand of the chain around it.
use Rattle.std.specs.Prelude.{◌≡◌, ℕ, zero, suc, ◌+◌, nat_lt, if◌then◌else◌, List, [], ◌∷◌}
use Rattle.cxx_tree.specs.declared.expr.Expr.{Expr}
use Rattle.cxx_tree.specs.declared.expr.Operation.{Operation}
use Rattle.cxx_tokens.specs.declared.token.Tokens.{Tokens}
use Rattle.cxx_reading.specs.Reading.{Tree, No, Nothing, Rule, and_then, repeated, span}
use Rattle.cxx_grammar.specs.Expressions.{operations_on, chain, with_operations}
use Rattle.cxx_grammar.specs.Joined.{operations}
use Rattle.cxx_grammar.specs.Read.{read}
use Rattle.cxx_grammar.specs.Rules.{Rules}
use Rattle.cxx_grammar.specs.Unaries.{unary}
use Rattle.parse_chain.specs.declared.open_chain.OpenChain.{OpenChain}
use Rattle.parse_chain.specs.Chains.{operations_with}

-- what an operand comes to: from the first line that is still to be read, the token at which it began, and its tree
abbrev pub Rest : Type 0
Rest = ℕ → ℕ → Expr → Rule Expr

module _ (tokens : Tokens) (deeper : Rules) where
  -- the operations of the lines from `low` on, below this line
  unfoldable pub above : ℕ → ℕ → ℕ → Expr → Rule Expr
  above low zero start x = λ i. Tree x i
  above low (suc n) start x = λ i. if nat_lt n low then Tree x i else and_then (above low n start x i) (operations tokens deeper n start)

  -- a part of the operations of a line
  abbrev pub operations_of : ℕ → List Operation → Rule (List Operation)
  operations_of n = operations_on tokens deeper n (chain tokens deeper n)

  -- behind the last operand of an open chain
  unfoldable pub behind : OpenChain → Rest → Expr → Rule Expr
  behind o outer x = λ j. and_then (repeated tokens (operations_of o.line) (operations_with tokens o x j) j) (λ all k. outer (o.line + 1) o.start (with_operations o.first all (span tokens o.start k)) k)

  -- in an open chain, which is itself an operand
  unfoldable pub inside : OpenChain → Rest → Rest
  inside o outer low start x = λ i. and_then (above low o.line start x i) (behind o outer)

  unfoldable pub within : Rest → List OpenChain → Rest
  within outer [] = outer
  within outer (o ∷ more) = within (inside o outer) more

  -- with no chain around it
  abbrev pub outermost : Rest
  outermost low start x = above low 10 start x

  -- in all open chains, of which the innermost is the last
  abbrev pub climb : List OpenChain → Rest
  climb chains = within outermost chains

-- With an operand behind the operator that stands there, the climb comes to the same from these chains on.
pub record Places (tokens : Tokens) (before : List OpenChain) (start : ℕ) (x : Expr) (i : ℕ) (after : List OpenChain) : Type 0 where
  pub same : (level : ℕ) (y : Expr) (k : ℕ) → unary tokens (read tokens level) (i + 1) ≡ Tree y k
      → climb tokens (read tokens level) before 0 start x i ≡ climb tokens (read tokens level) after 0 (i + 1) y k

-- no operation of any line begins there
pub record Idle (tokens : Tokens) (deeper : Rules) (i : ℕ) : Type 0 where
  pub at : (n : ℕ) (found : List Operation) → operations_of tokens deeper n found i ≡ No Nothing

-- where no operation begins, the climb comes to this tree
pub record Finishes (tokens : Tokens) (before : List OpenChain) (start : ℕ) (x : Expr) (i : ℕ) (made : Expr) : Type 0 where
  pub same : (level : ℕ) → Idle tokens (read tokens level) i → climb tokens (read tokens level) before 0 start x i ≡ Tree made i
