-- A hasher that has read a source.
use Rattle.std.specs.Prelude.{◌≡◌, ℕ, ◌%◌, List, length, drop, replicate}
use Rattle.std.specs.Hash.DefaultHasher as sip
use Rattle.std.specs.declared.hash.DefaultHasher.{DefaultHasher}
use Rattle.cxx_base.specs.declared.keyed_hash.KeyedHash.{KeyedHash}

-- the hasher that it makes
abbrev pub initial_hasher : KeyedHash → DefaultHasher
initial_hasher hash = hash.initial

-- what is read behind a source, of one to eight bytes, up to the end of a word
abbrev pub padding : List ℕ → List ℕ
padding source = drop (length source % 8) (replicate 8 0)

-- SipHash with both keys 0 that has read the source and its padding
abbrev pub IsKeyedBy : List ℕ → KeyedHash → Type 0
IsKeyedBy source hash = initial_hasher hash ≡ sip.write (sip.write sip.initial source) (padding source)
