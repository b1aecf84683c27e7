-- OpenChain chains: their operators and operands so far. The operand behind the last operator is read.
use Rattle.std.specs.Prelude.{ℕ, List, [], ◌∷◌, ◌++◌, Option, Some, None}
use Rattle.cxx_tree.specs.declared.expr.Expr.{Expr}
use Rattle.cxx_tree.specs.declared.expr.Expr.TheVariants as expr-of
use Rattle.cxx_tree.specs.declared.expr.Operation.{Operation}
use Rattle.cxx_tree.specs.declared.expr.Operation.TheVariants as operation-of
use Rattle.cxx_tree.specs.declared.operator.BinaryOp.{BinaryOp}
use Rattle.cxx_tokens.specs.declared.token.Tokens.{Tokens}
use Rattle.cxx_reading.specs.Reading.{span}
use Rattle.cxx_grammar.specs.declared.operator.Operator.{Operator}
use Rattle.parse_chain.specs.declared.open_chain.OpenChain.{OpenChain}
use Rattle.parse_chain.specs.declared.open_chain.OpenChains.{OpenChains}

-- the operations with the last one, whose operand ends before this token
abbrev pub operations_with : Tokens → OpenChain → Expr → ℕ → List Operation
operations_with tokens o x end = o.done ++ operation-of.Operation (span tokens o.begin end) o.op x ∷ []

-- the whole chain
abbrev pub closed : Tokens → OpenChain → Expr → ℕ → Expr
closed tokens o x end = expr-of.Chain (span tokens o.start end) o.first (operations_with tokens o x end)

-- the chain with a further operator
abbrev pub extended : Tokens → OpenChain → Expr → BinaryOp → ℕ → OpenChain
extended tokens o x op end = record { line = o.line; start = o.start; first = o.first; done = operations_with tokens o x end; op = op; begin = end }

-- a chain that begins
abbrev pub opened : Operator → ℕ → Expr → ℕ → OpenChain
opened operator start x begin = record { line = operator.line; start = start; first = x; done = []; op = operator.op; begin = begin }

-- all open chains, the innermost last
abbrev pub all : OpenChains → List OpenChain
all o = o.outer ++ o.inner ∷ []

-- the same, where there may be none
abbrev pub all_if : Option OpenChains → List OpenChain
all_if (Some o) = all o
all_if None = []
