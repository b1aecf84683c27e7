-- The table in which the names of a source stand.
use Rattle.std.specs.Prelude.{ℕ, List}
use Rattle.cxx_base.specs.KeyedHash.{IsKeyedBy}
use Rattle.cxx_base.specs.Library.{AreNames}
use Rattle.cxx_base.specs.TextTable.{TextTable}

-- it holds names, and hashes by SipHash that has read a source
pub record IsNameTable (table : TextTable) : Type 0 where
  pub names : AreNames table.texts
  pub source : List ℕ
  pub keyed : IsKeyedBy source table.hash
