use Rattle.cxx_tokens.proofs.CutLaws as cut
use Rattle.cxx_tokens.proofs.laws.scan_is_the_cut.Goals as goal

pub returns : goal.returns
returns c = cut.scan_is_cut
