use Rattle.std.proofs.Common.{◌∙◌, ap, get_or}
use Rattle.cxx_tokens.proofs.ShortMarks.{doubled_is}
use Rattle.cxx_tokens.proofs.punctuator.number_doubled.Goals as goal

pub returns : goal.returns
returns c less = doubled_is c.args.c c.number_in.result (c.number_in.ensures ∙ ap (λ table. get_or table c.args.c 49) c.requires) less
