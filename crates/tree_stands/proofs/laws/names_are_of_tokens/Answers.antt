use Rattle.tree_stands.proofs.KnownUnits.{names_are_of_tokens as names_are_of_tokens_law}
use Rattle.tree_stands.proofs.laws.names_are_of_tokens.Goals as goal

pub returns : goal.returns
returns c = names_are_of_tokens_law c.args.tokens.now
