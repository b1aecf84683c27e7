-- What a read or a write at the edge does to the bytes that a source has left or a sink holds, where
-- the object tells them, and to its count of faults. `Consumes` and `Appends` of std say what a call
-- that succeeds does.
use Rattle.std.specs.Prelude.{◌≡◌, ℕ, ◌+◌, ◌-◌, ◌^◌, ◌≤◌, min, List, length, take, drop, ⊤, None, Some, Option}
use Rattle.std.specs.Io.KnownBytes.{Appends, Consumes}

-- a count of faults rose; one that stands at the greatest value of 64 bits counts as risen
abbrev pub Rose : ℕ → ℕ → Type 0
Rose old new = min (old + 1) (2 ^ 64 - 1) ≤ new

-- an object that tells its bytes goes on telling them
abbrev pub TellsOn : Option (List ℕ) → Option (List ℕ) → Type 0
TellsOn None new = ⊤
TellsOn (Some xs) None = ⊥
TellsOn (Some xs) (Some ys) = ⊤

-- the bytes that are left lose some first bytes
abbrev pub LosesPrefix : Option (List ℕ) → Option (List ℕ) → Type 0
LosesPrefix old new = (front : List ℕ) × Consumes old new front

-- the bytes that are held gain some first bytes of a piece
abbrev pub AppendsPrefix : Option (List ℕ) → Option (List ℕ) → List ℕ → Type 0
AppendsPrefix old new piece = (n : ℕ) × (n ≤ length piece) × Appends old new (take n piece)

-- the bytes that are left lose their first n
abbrev pub Drops : Option (List ℕ) → Option (List ℕ) → ℕ → Type 0
Drops None new n = ⊤
Drops (Some xs) None n = ⊥
Drops (Some xs) (Some ys) n = ys ≡ drop n xs
