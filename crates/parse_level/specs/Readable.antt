-- Functions that read the rules of a level.
use Rattle.std.specs.Prelude.{ℕ}
use Rattle.cxx_tree.specs.declared.expr.Expr.{Expr}
use Rattle.cxx_tree.specs.declared.expr.TypeTree.{TypeTree}
use Rattle.cxx_tree.specs.declared.expr.BracedTree.{BracedTree}
use Rattle.cxx_tokens.specs.declared.token.Tokens.{Tokens}
use Rattle.cxx_reading.specs.Readers.{Pre, Post, ReadsAt}
use Rattle.cxx_grammar.specs.declared.parts.SizedOperand.{SizedOperand}
use Rattle.cxx_grammar.specs.Read.{read}
use Rattle.cxx_grammar.specs.Unaries.{sized}

-- each of the five may be called at this level, and reads its rule there
pub record ReadsLevel (tokens : Tokens) (level : ℕ) (expr_pre : Pre) (expr_post : Post Expr) (braced_pre : Pre) (braced_post : Post BracedTree) (unary_pre : Pre) (unary_post : Post Expr) (type_pre : Pre) (type_post : Post TypeTree) (sized_pre : Pre) (sized_post : Post SizedOperand) : Type 0 where
  pub exprs : ReadsAt tokens level (read tokens level).expr expr_pre expr_post
  pub braceds : ReadsAt tokens level (read tokens level).braced braced_pre braced_post
  pub unarys : ReadsAt tokens level (read tokens level).unary unary_pre unary_post
  pub types : ReadsAt tokens level (read tokens level).type_tree type_pre type_post
  pub sizeds : ReadsAt tokens level (sized tokens (read tokens level)) sized_pre sized_post
