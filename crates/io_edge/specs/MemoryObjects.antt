-- What contracts see of a source and a sink in memory.
use Rattle.std.specs.Prelude.{ℕ, ◌-◌, min, List, None, Some, Option}

-- a source: the bytes left, the most that one call gives, how many calls were made, the numbers of
-- the calls that fail, and how many failed; both counts stand at 2^64 - 1
pub record SourceState : Type 0 where
  pub left : List ℕ
  pub piece : ℕ
  pub calls : ℕ
  pub failing : List ℕ
  pub faults : ℕ

-- a sink: the bytes held, how many it has room for, where that is bounded, and the counts and the
-- numbers of calls as for a source
pub record SinkState : Type 0 where
  pub held : List ℕ
  pub room : Option ℕ
  pub calls : ℕ
  pub failing : List ℕ
  pub faults : ℕ

-- how many of n more bytes fit beside those that are held
abbrev pub fitting : Option ℕ → ℕ → ℕ → ℕ
fitting None held n = n
fitting (Some room) held n = min n (room - held)
