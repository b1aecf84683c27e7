-- What the source lost is what was read.
use Rattle.std.proofs.Common.{◌≡◌, ◌≤◌, ◌+◌, ◌-◌, length}
use Rattle.std.specs.Io.KnownBytes.{Consumes}
use Rattle.io_edge.proofs.reading.read_pieces.Given as goal

abbrev pub invariant-pieces : goal.invariant-pieces
invariant-pieces g l = (length l.buffer ≡ length l.initial.buffer) × (length l.bytes ≤ l.cap)
    × Consumes (g.S.Source.left l.initial.source) (g.S.Source.left l.source) l.bytes
    × (g.S.Source.faults l.initial.source ≤ g.S.Source.faults l.source)

abbrev pub decreases-pieces : goal.decreases-pieces
decreases-pieces g l = l.cap + 1 - length l.bytes
