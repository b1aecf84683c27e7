-- The law, as it is proved along the list of parts.
use Rattle.class_layout.proofs.LayoutLaws as laws
use Rattle.class_layout.proofs.laws.is_the_least.Goals as goal

pub returns : goal.returns
returns c = laws.is_the_least
