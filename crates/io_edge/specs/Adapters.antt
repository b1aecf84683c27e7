-- What contracts see of a reader or a writer of std that is used as a source or a sink.
use Rattle.std.specs.Prelude.{ℕ}
use Rattle.io_edge.specs.declared.from_read.FromRead.{FromRead}
use Rattle.io_edge.specs.declared.to_write.ToWrite.{ToWrite}

-- the reader behind a source
abbrev pub reader_of : {R : Type 0} → FromRead R → R
reader_of source = source.inner

-- how many reads failed, up to 2^64 - 1
abbrev pub read_faults : {R : Type 0} → FromRead R → ℕ
read_faults source = source.faults

-- the writer behind a sink
abbrev pub writer_of : {W : Type 0} → ToWrite W → W
writer_of sink = sink.inner

-- how many writes failed, up to 2^64 - 1
abbrev pub write_faults : {W : Type 0} → ToWrite W → ℕ
write_faults sink = sink.faults
