use Rattle.tree_stands.proofs.KnownUnits.{names_have_texts as names_have_texts_law}
use Rattle.tree_stands.proofs.laws.names_have_texts.Goals as goal

pub returns : goal.returns
returns c = names_have_texts_law c.args.tokens.now
