-- Loops over lists that read, pay and ask: element after element, in order.
use Rattle.std.specs.Prelude.{List, [], ◌∷◌, Option, Some, None}
use Rattle.read_trees.specs.Trees.{ReadTree, Goes, and_then}

module _ {Q R O E A : Type 0} where
  -- what was found, or else what the rest finds
  abbrev pub found_first : Option A → ReadTree Q R O E (Option A) → ReadTree Q R O E (Option A)
  found_first None t = t
  found_first (Some a) t = Goes (Some a)

module _ {Q R O E X A : Type 0} where
  -- a state that each element may change
  abbrev pub folded : (A → X → ReadTree Q R O E A) → A → List X → ReadTree Q R O E A
  folded f a [] = Goes a
  folded f a (x ∷ xs) = and_then (f a x) (λ b. folded f b xs)

  -- what is found at the first element that has it. The elements behind it are not looked at.
  abbrev pub first : (X → ReadTree Q R O E (Option A)) → List X → ReadTree Q R O E (Option A)
  first f [] = Goes None
  first f (x ∷ xs) = and_then (f x) (λ a. found_first a (first f xs))

  -- what each element gives, in order
  abbrev pub each : (X → ReadTree Q R O E A) → List X → ReadTree Q R O E (List A)
  each f [] = Goes []
  each f (x ∷ xs) = and_then (f x) (λ a. and_then (each f xs) (λ more. Goes (a ∷ more)))
