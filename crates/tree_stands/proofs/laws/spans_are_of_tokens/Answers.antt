use Rattle.tree_stands.proofs.Spans.{spans_are_of_tokens as spans_law}
use Rattle.tree_stands.proofs.laws.spans_are_of_tokens.Goals as goal

pub returns : goal.returns
returns c = spans_law c.args.tokens.now
