-- The law, as it is proved with the other facts of division.
use Rattle.int_kinds.proofs.DivisionLaws as laws
use Rattle.int_kinds.proofs.laws.division_is_whole.Goals as goal

pub returns : goal.returns
returns c = laws.division_is_whole
