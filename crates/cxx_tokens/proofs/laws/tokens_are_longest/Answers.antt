-- The law, as it is proved kind by kind.
use Rattle.cxx_tokens.proofs.Munch as munch
use Rattle.cxx_tokens.proofs.laws.tokens_are_longest.Goals as goal

pub returns : goal.returns
returns c = munch.longest_at_its_place
