use Rattle.cxx_reading.proofs.Always.{reads_present, reads_optional, reads_if_any, reads_repeated}
use Rattle.cxx_reading.proofs.laws.missing_parts_are_no_fault.Goals as goal

pub returns : goal.returns
returns g c = λ p q r x. (reads_present p, reads_optional p, reads_if_any q, reads_repeated _ r x)
