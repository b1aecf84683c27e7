use Rattle.tree_stands.proofs.Proved.{expressions_stand}
use Rattle.tree_stands.proofs.laws.expressions_stand_where_they_were_read.Goals as goal

pub returns : goal.returns
returns c = expressions_stand c.args.tokens.now
