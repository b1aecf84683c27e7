-- The law, as it is proved with the lists of kinds.
use Rattle.int_kinds.proofs.LiteralLaws as laws
use Rattle.int_kinds.proofs.laws.no_kind_beyond.Goals as goal

pub returns : goal.returns
returns c = laws.no_kind_beyond
