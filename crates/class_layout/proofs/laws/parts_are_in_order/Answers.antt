-- The law, as it is proved along the list of parts.
use Rattle.class_layout.proofs.LayoutLaws as laws
use Rattle.class_layout.proofs.laws.parts_are_in_order.Goals as goal

pub returns : goal.returns
returns c = laws.parts_are_in_order
