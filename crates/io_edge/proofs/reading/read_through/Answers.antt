use Rattle.std.proofs.Common.{◌+◌, arith}
use Rattle.io_edge.proofs.Known.{LosesCount-above, LosesCount-Drops, TellsOn-LosesPrefix, whole_of_Consumes, length_of_Consumes, same_error}
use Rattle.io_edge.proofs.reading.read_through.Goals as goal

pub returns-in-Ok-clause-whole : goal.returns-in-Ok-clause-whole
returns-in-Ok-clause-whole g c = whole_of_Consumes _ _ _ c.in-Ok.ensures.gathers c.in-Ok.ensures.emptied

pub returns-in-Ok-clause-ok_only_within : goal.returns-in-Ok-clause-ok_only_within
returns-in-Ok-clause-ok_only_within g c =
    length_of_Consumes _ _ _ c.args.cap c.in-Ok.ensures.gathers c.in-Ok.ensures.emptied c.in-Ok.ensures.within

pub returns-in-Ok-clause-tells : goal.returns-in-Ok-clause-tells
returns-in-Ok-clause-tells g c = TellsOn-LosesPrefix _ _ c.in-Ok.ensures.prefix

pub returns-in-Err-clause-too_long : goal.returns-in-Err-clause-too_long
returns-in-Err-clause-too_long g c =
    λ is. LosesCount-above _ _ (c.args.cap + 1) c.args.cap (omega arith) (c.in-Err.ensures.too_long (same_error _ _ is))

pub returns-in-Err-clause-one_more : goal.returns-in-Err-clause-one_more
returns-in-Err-clause-one_more g c = λ is. LosesCount-Drops _ _ _ (c.in-Err.ensures.too_long (same_error _ _ is))

pub returns-in-Err-clause-fault : goal.returns-in-Err-clause-fault
returns-in-Err-clause-fault g c = λ is. c.in-Err.ensures.fault (same_error _ _ is)

pub returns-in-Err-clause-tells : goal.returns-in-Err-clause-tells
returns-in-Err-clause-tells g c = TellsOn-LosesPrefix _ _ c.in-Err.ensures.prefix
