-- Why a text has no tokens, and where. The definitions know no want of memory.
use Rattle.cxx_base.specs.declared.place.Place.{Place}
use Rattle.cxx_base.specs.declared.code.Code.{Code}
use Rattle.cxx_base.specs.declared.code.Code.TheVariants as code

pub record Fault : Type 0 where
  pub code : Code
  pub place : Place

-- the source is not UTF-8
abbrev pub L1 : Place → Fault
L1 place = record { code = code.L1; place = place }

-- no token begins here
abbrev pub L2 : Place → Fault
L2 place = record { code = code.L2; place = place }

-- an integer literal is too large
abbrev pub L3 : Place → Fault
L3 place = record { code = code.L3; place = place }

-- a literal or a comment does not end
abbrev pub L4 : Place → Fault
L4 place = record { code = code.L4; place = place }

-- an identifier is too long, or not in normalization form C
abbrev pub L5 : Place → Fault
L5 place = record { code = code.L5; place = place }
