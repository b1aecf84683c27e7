-- The law, as it is proved with the facts of the operators with one operand.
use Rattle.int_kinds.proofs.UnaryLaws as laws
use Rattle.int_kinds.proofs.laws.complement_is_below.Goals as goal

pub returns : goal.returns
returns c = laws.complement_is_below
