use Rattle.cxx_tokens.proofs.CutLaws as cut
use Rattle.cxx_tokens.proofs.laws.cuts_are_one.Goals as goal

pub returns : goal.returns
returns c = cut.are_one
