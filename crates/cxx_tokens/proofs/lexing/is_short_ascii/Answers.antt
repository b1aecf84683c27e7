use Rattle.std.proofs.Common.{◌∙◌, sym}
use Rattle.cxx_tokens.proofs.Runs.{ascii_composed}
use Rattle.cxx_tokens.proofs.lexing.is_short_ascii.Goals as goal

pub returns-then-word-count : goal.returns-then-word-count
returns-then-word-count c = λ _. sym (ascii_composed c.args.word.now c.utf8.word c.if-word-gt-MAX_IDENTIFIER.false (c.if-word-count.true ∙ c.requires))
