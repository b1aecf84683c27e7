use Rattle.tree_stands.proofs.Proved.{declarations_stand}
use Rattle.tree_stands.proofs.laws.declarations_stand_where_they_were_read.Goals as goal

pub returns : goal.returns
returns c = declarations_stand c.args.tokens.now
