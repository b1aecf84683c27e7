-- The search for a name that stands twice, as the loop makes it. Nobody has to believe this: it answers whether the names are
-- distinct.
use Rattle.std.specs.Prelude.{ℕ, Bool, true, not, ◌&&◌, ◌==◌, List, [], ◌∷◌, ◌++◌}
use Rattle.std.specs.List.{list_any}

-- no name is one of those before it
abbrev pub are_new : List ℕ → List ℕ → Bool
are_new before [] = true
are_new before (name ∷ names) = not (list_any (λ other. name == other) before) && are_new (before ++ name ∷ []) names
