-- A list of texts that stands in a table, and what the table hashes by.
use Rattle.std.specs.Prelude.{List}
use Rattle.cxx_base.specs.Texts.{Text}
use Rattle.cxx_base.specs.declared.keyed_hash.KeyedHash.{KeyedHash}

pub record TextTable : Type 0 where
  pub texts : List Text
  pub hash : KeyedHash
