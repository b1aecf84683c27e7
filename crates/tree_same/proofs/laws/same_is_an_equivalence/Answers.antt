use Rattle.tree_same.proofs.Reflexive.{expr_itself}
use Rattle.tree_same.proofs.Symmetric.{expr_back}
use Rattle.tree_same.proofs.Transitive.{expr_on}
use Rattle.tree_same.proofs.laws.same_is_an_equivalence.Goals as goal

pub returns : goal.returns
returns c = record { reflexive = expr_itself; symmetric = expr_back; transitive = expr_on }
