use Rattle.cxx_tokens.proofs.UsableLaws.{usable}
use Rattle.cxx_tokens.proofs.laws.tokens_are_usable.Goals as goal

pub returns : goal.returns
returns c = usable
