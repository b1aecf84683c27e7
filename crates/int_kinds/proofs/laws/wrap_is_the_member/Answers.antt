-- The law, as it is proved with the members of ranges.
use Rattle.int_kinds.proofs.WrapLaws as laws
use Rattle.int_kinds.proofs.laws.wrap_is_the_member.Goals as goal

pub returns : goal.returns
returns c = laws.wrap_is_the_member
