use Rattle.typed_code.proofs.Grows.{ex_grows, st_grows, exs_grow, args_grow, clauses_grow}
use Rattle.typed_code.proofs.laws.trees_stay.Goals as goal

pub returns : goal.returns
returns c = record {
  exprs = ex_grows;
  stmts = st_grows;
  lists = exs_grow;
  args = args_grow;
  clauses = clauses_grow;
}
