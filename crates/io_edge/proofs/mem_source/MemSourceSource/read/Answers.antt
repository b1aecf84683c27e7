use Rattle.std.proofs.Common.{ap}
use Rattle.io_edge.specs.MemoryObjects.{SourceState}
use Rattle.io_edge.proofs.Known.{left_after_copy}
use Rattle.io_edge.proofs.mem_source.MemSourceSource.read.Goals as goal

pub returns-clause-bytes : goal.returns-clause-bytes
returns-clause-bytes c =
    left_after_copy _ c.self.inside.bytes _ _ c.self.inside.at c.copy_front-given.result
    (ap (λ (s : SourceState). s.left) c.self.view_is) c.as_slice.ensures c.copy_front-given.ensures.copied
