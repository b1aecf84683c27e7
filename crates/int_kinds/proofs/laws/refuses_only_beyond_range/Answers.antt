-- The law, as it is proved with the other facts of division.
use Rattle.int_kinds.proofs.DivisionLaws as laws
use Rattle.int_kinds.proofs.laws.refuses_only_beyond_range.Goals as goal

pub returns : goal.returns
returns c = laws.refuses_only_beyond_range
