use Rattle.tree_stands.proofs.Units.{unit_stands}
use Rattle.tree_stands.proofs.laws.units_stand_where_they_were_read.Goals as goal

pub returns : goal.returns
returns c = unit_stands c.args.tokens.now
