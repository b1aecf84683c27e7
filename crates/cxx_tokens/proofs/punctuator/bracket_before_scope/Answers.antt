use Rattle.std.proofs.Common.{sym, chars}
use Rattle.cxx_tokens.proofs.Search.{bracket_is}
use Rattle.cxx_tokens.proofs.punctuator.bracket_before_scope.Goals as goal

pub returns-clause-punctuator : goal.returns-clause-punctuator
returns-clause-punctuator c _ = bracket_is (chars c.args.text.now) (sym c.in_ok-rest.ensures.begins)
