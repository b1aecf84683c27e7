-- The layout of a class from the sizes and alignments of its parts, in order ([class.mem], [basic.align]).
use Rattle.std.specs.Prelude.{ℕ, ◌+◌, ◌≤◌, max, nat_le, List, [], ◌∷◌, if◌then◌else◌, Result, Ok, Err}
use Rattle.std.specs.Int.{next_multiple_of, IsPowerOfTwo}
use Rattle.cxx_base.specs.declared.limits.TheConstants.{MAX_OBJECT}
use Rattle.class_layout.specs.declared.part.Layout.{Layout}
use Rattle.class_layout.specs.declared.part.Part.{Part}
use Rattle.class_layout.specs.declared.part.TooLarge.{TooLarge}

-- the sizes and alignments that there are
pub record IsPart (part : Part) : Type 0 where
  pub power : IsPowerOfTwo part.align
  pub few : part.align ≤ MAX_OBJECT
  pub small : part.size ≤ MAX_OBJECT

-- A part begins at the least multiple of its alignment that is not below the end of the part before it.
abbrev pub begin_of : ℕ → Part → ℕ
begin_of end part = next_multiple_of end part.align

abbrev pub end_of : ℕ → Part → ℕ
end_of end part = begin_of end part + part.size

-- the parts at their offsets, the first behind the given end
abbrev pub placed : ℕ → List Part → List Part
placed end [] = []
placed end (part ∷ parts) = record part { offset = begin_of end part } ∷ placed (end_of end part) parts

-- the end of the last part
abbrev pub last_end : ℕ → List Part → ℕ
last_end end [] = end
last_end end (part ∷ parts) = last_end (end_of end part) parts

-- the greatest of the alignments and the given one
abbrev pub greatest_align : ℕ → List Part → ℕ
greatest_align align [] = align
greatest_align align (part ∷ parts) = greatest_align (max align part.align) parts

abbrev pub align_of : List Part → ℕ
align_of parts = greatest_align 1 parts

-- the least positive multiple of the alignment that is not below the last end
abbrev pub size_of : List Part → ℕ
size_of parts = next_multiple_of (max (last_end 0 parts) 1) (align_of parts)

-- the whole, up to the greatest size of an object
abbrev pub layout_of : List Part → Result Layout TooLarge
layout_of parts =
    if nat_le (size_of parts) MAX_OBJECT then Ok (record { size = size_of parts; align = align_of parts }) else Err (record {})
