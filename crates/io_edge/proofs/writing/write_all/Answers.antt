use Rattle.std.proofs.Common.{◌≤◌, drop, length, length-drop, arith}
use Rattle.io_edge.proofs.Known.{Appends-more, AppendsPrefix-more, rest_is}
use Rattle.io_edge.proofs.writing.write_all.Goals as goal

pub loop-at-preserved : goal.loop-at-preserved
loop-at-preserved g c =
    let bs = c.args.bytes.now in
    let i = c.loop-at.at in
    let bound : c.in-Ok.n ≤ length (drop i bs) = rw rest_is at c.in-Ok.ensures.bound in (
      omega (arith, bound, length-drop i bs),
      Appends-more _ _ _ c.args.bytes.now c.loop-at.at c.in-Ok.n c.loop-at.invariant.1 c.in-Ok.ensures.appends,
      omega (arith, c.in-Ok.ensures.count),
    )

pub returns-in-Err-clause-prefix : goal.returns-in-Err-clause-prefix
returns-in-Err-clause-prefix g c =
    AppendsPrefix-more _ _ _ c.args.bytes.now c.loop-at.at c.loop-at.invariant.0 c.loop-at.invariant.1 c.in-Err.ensures.prefix
