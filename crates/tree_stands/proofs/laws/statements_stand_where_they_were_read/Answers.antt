use Rattle.tree_stands.proofs.Proved.{statements_stand}
use Rattle.tree_stands.proofs.laws.statements_stand_where_they_were_read.Goals as goal

pub returns : goal.returns
returns c = statements_stand c.args.tokens.now
