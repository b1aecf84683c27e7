use Rattle.typed_code.proofs.Puts.{with_exprs, with_stmts, with_lists, with_steps, with_types, with_shapes, with_texts, with_values, then_more}
use Rattle.typed_code.proofs.laws.putting_lets_code_grow.Goals as goal

pub returns : goal.returns
returns c = record {
  exprs = with_exprs;
  stmts = with_stmts;
  lists = with_lists;
  steps = with_steps;
  types = with_types;
  shapes = with_shapes;
  texts = with_texts;
  values = with_values;
  several = then_more;
}
