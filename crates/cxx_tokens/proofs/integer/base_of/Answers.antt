use Rattle.std.proofs.Common.{◌∙◌, chars, sym}
use Rattle.cxx_tokens.proofs.Integers.{decimal_base}
use Rattle.cxx_tokens.proofs.integer.base_of.Goals as goal

pub returns-then-not-first_is-clause-base : goal.returns-then-not-first_is-clause-base
returns-then-not-first_is-clause-base c = decimal_base (chars c.args.text.now) (sym c.first_is.ensures ∙ c.if-not-first_is.true)
