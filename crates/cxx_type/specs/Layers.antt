-- The layers of a type, out of the runs of equal layers that are held.
use Rattle.std.specs.Prelude.{ℕ, ◌≡◌, ◌<◌, List, [], ◌∷◌, ◌++◌, Option, None, Some, drop, replicate}
use Rattle.cxx_type.specs.declared.runs.Layer.{Layer}
use Rattle.cxx_type.specs.declared.runs.Run.{Run, Run', Held-Run-under, None', Some'}

-- Each run is a layer and how many of it lie over each other. The outermost run is the first.
abbrev mutual
  pub runs_of : Run → List (Layer × ℕ)
  runs_of (Run' layer count under) = (layer, count) ∷ runs_held under

  pub runs_held : Held-Run-under → List (Layer × ℕ)
  runs_held None' = []
  runs_held (Some' p run) = runs_of run

abbrev pub runs_if_any : Option Run → List (Layer × ℕ)
runs_if_any None = []
runs_if_any (Some run) = runs_of run

abbrev pub under_of : List (Layer × ℕ) → List (Layer × ℕ)
under_of [] = []
under_of (_ ∷ rest) = rest

-- the layers that runs stand for
abbrev pub wide : List (Layer × ℕ) → List Layer
wide [] = []
wide (run ∷ rest) = replicate run.1 run.0 ++ wide rest

-- No run is empty, and runs beside each other are of different layers. So the layers decide the runs.
abbrev pub BeginsWith : Layer → List (Layer × ℕ) → Type 0
BeginsWith layer [] = ⊥
BeginsWith layer (run ∷ _) = run.0 ≡ layer

abbrev pub Apart : List (Layer × ℕ) → Type 0
Apart [] = Unit {0}
Apart (run ∷ rest) = (0 < run.1) × (BeginsWith run.0 rest → ⊥) × Apart rest

-- The first n layers are this one, at least one is, and the next is another.
abbrev pub Begins : Layer → List Layer → Type 0
Begins layer [] = ⊥
Begins layer (x ∷ _) = x ≡ layer

abbrev pub IsOutermost : Layer → ℕ → List Layer → Type 0
IsOutermost layer n layers = (0 < n) × (layers ≡ replicate n layer ++ drop n layers) × (Begins layer (drop n layers) → ⊥)
