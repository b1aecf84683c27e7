-- The mask keeps the lowest bits.
use Rattle.int_kinds.proofs.Machine.{low_bits_are}
use Rattle.int_kinds.proofs.int.Int.low_bits.Goals as goal

pub returns : goal.returns
returns g c = low_bits_are g.row.BITS c.args.n c.requires.few_bits c.ranges.n
