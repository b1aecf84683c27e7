-- The law, as it is proved along the bits of a number.
use Rattle.int_kinds.proofs.BitLaws as laws
use Rattle.int_kinds.proofs.laws.bits_are_joined.Goals as goal

pub returns : goal.returns
returns c = laws.bits_are_joined
