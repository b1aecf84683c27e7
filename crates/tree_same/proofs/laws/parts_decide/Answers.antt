use Rattle.tree_same.proofs.Deciding as laws
use Rattle.tree_same.proofs.laws.parts_decide.Goals as goal

pub returns : goal.returns
returns c = laws.parts_decide
