-- What the layout of a class owes ([class.mem], [basic.align], [expr.sizeof]), as facts of the definitions.
use Rattle.std.specs.Prelude.{ℕ, ◌+◌, ◌<◌, ◌≤◌, List, [], ◌∷◌, All, AllPairs}
use Rattle.std.specs.Int.{◌∣◌}
use Rattle.std.specs.List.{AllZip}
use Rattle.class_layout.specs.declared.part.Part.{Part}
use Rattle.class_layout.specs.Arrangement.{placed, size_of, align_of, IsPart}

-- parts that lie in order behind an end, each at a multiple of its alignment
abbrev pub AreInOrder : ℕ → List Part → Type 0
AreInOrder end [] = Unit {0}
AreInOrder end (part ∷ parts) = (end ≤ part.offset) × (part.align ∣ part.offset) × AreInOrder (part.offset + part.size) parts

-- where such parts end
abbrev pub ends_at : ℕ → List Part → ℕ
ends_at end [] = end
ends_at end (part ∷ parts) = ends_at (part.offset + part.size) parts

-- a size of a class with these parts: positive, a multiple of the alignment, and not below their end
pub record IsSize (parts : List Part) (size : ℕ) : Type 0 where
  pub positive : 0 < size
  pub whole : align_of parts ∣ size
  pub behind : ends_at 0 parts ≤ size

-- each part is aligned, and begins where the part before it ends or later
abbrev pub PartsAreInOrder : Type 0
PartsAreInOrder = (parts : List Part) → All IsPart parts → AreInOrder 0 (placed 0 parts)

-- no two parts overlap: the later one begins where the earlier one ends, or after it
abbrev pub NoTwoOverlap : Type 0
NoTwoOverlap =
    (parts : List Part) → All IsPart parts
    → AllPairs (λ earlier later. earlier.offset + earlier.size ≤ later.offset) (placed 0 parts)

-- the class is aligned: its size is a multiple of its alignment, and that of the alignment of each part
abbrev pub WholeIsAligned : Type 0
WholeIsAligned =
    (parts : List Part) → All IsPart parts
    → IsSize (placed 0 parts) (size_of parts) × All (λ part. part.align ∣ align_of parts) parts

-- No layout that keeps the order is smaller: wherever the parts lie in order, no part of this one lies later, and no size
-- for them is below the size of this one.
abbrev pub IsTheLeast : Type 0
IsTheLeast =
    (parts : List Part) → All IsPart parts → AreInOrder 0 parts
    → AllZip (λ first other. first.offset ≤ other.offset) (placed 0 parts) parts
    × ((size : ℕ) → IsSize parts size → size_of parts ≤ size)
