use Rattle.std.proofs.Common.{◌+◌, ◌-◌, length, arith}
use Rattle.io_edge.proofs.Known.{LosesPrefix-after, LosesCount-after, same_error}
use Rattle.io_edge.proofs.reading.read_pieces.Goals as goal

pub returns-in-Err-clause-too_long : goal.returns-in-Err-clause-too_long
returns-in-Err-clause-too_long g c =
    λ is. LosesCount-after _ _ _ c.pieces.bytes (c.args.cap + 1 - length c.pieces.bytes) _ (omega arith)
    c.pieces.invariant.2 (c.in-Err.ensures.too_long (same_error _ _ is))

pub returns-in-Err-clause-prefix : goal.returns-in-Err-clause-prefix
returns-in-Err-clause-prefix g c = LosesPrefix-after _ _ _ c.pieces.bytes c.pieces.invariant.2 c.in-Err.ensures.prefix
