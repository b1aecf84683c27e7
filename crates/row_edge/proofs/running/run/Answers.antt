use Rattle.std.proofs.Common.{rules, ◌<◌, List, ℕ, length, inr}
use Rattle.std.proofs.lemmas.Option.{IfSome_then}
use Rattle.row_edge.proofs.running.run.Goals as goal

-- a source that is too long
pub returns-in-Err-TooLong-clause-refused : goal.returns-in-Err-TooLong-clause-refused
returns-in-Err-TooLong-clause-refused g c = λ _. IfSome_then (g.S.Source.left c.args.source.now) (search rules) (λ (xs : List ℕ) (long : 4194304 < length xs). inr long)
