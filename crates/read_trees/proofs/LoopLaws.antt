-- Loops over two lists in a row are the loop over the first and then that over the second.
use Rattle.std.proofs.Common.{◌≡◌, ℕ, List, [], ◌∷◌, ◌++◌, Option, Some, None, refl, sym, ◌∙◌}
use Rattle.read_trees.specs.Trees.{ReadTree, Goes, and_then}
use Rattle.read_trees.specs.Loops.{folded, first, found_first, each}
use Rattle.read_trees.specs.Walks.{Facts, Walks}
use Rattle.read_trees.proofs.Laws.{assoc, ends_itself}
use Rattle.read_trees.proofs.Walking.{walks_then}

module _ {Q R O E A : Type 0} where
  found_then : (a : Option A) (t u : ReadTree Q R O E (Option A)) → found_first a (and_then t (λ b. found_first b u)) ≡ and_then (found_first a t) (λ b. found_first b u)
  found_then None t u = refl
  found_then (Some a) t u = refl

  abbrev pub joined_with : ReadTree Q R O E (List A) → List A → ReadTree Q R O E (List A)
  joined_with t before = and_then t (λ more. Goes (before ++ more))

module _ {Q R O E X A : Type 0} where
  pub folded_append : (f : A → X → ReadTree Q R O E A) (a : A) (xs ys : List X) → folded f a (xs ++ ys) ≡ and_then (folded f a xs) (λ b. folded f b ys)
  folded_append f a [] ys = refl
  folded_append f a (x ∷ xs) ys = (λ i. and_then (f a x) (λ b. folded_append f b xs ys i)) ∙ sym (assoc (f a x) (λ b. folded f b xs) (λ b. folded f b ys))

  pub first_append : (f : X → ReadTree Q R O E (Option A)) (xs ys : List X) → first f (xs ++ ys) ≡ and_then (first f xs) (λ a. found_first a (first f ys))
  first_append f [] ys = refl
  first_append f (x ∷ xs) ys = (λ i. and_then (f x) (λ a. found_first a (first_append f xs ys i)))
      ∙ (λ i. and_then (f x) (λ a. found_then a (first f xs) (first f ys) i))
      ∙ sym (assoc (f x) (λ a. found_first a (first f xs)) (λ a. found_first a (first f ys)))

  pub each_append : (f : X → ReadTree Q R O E A) (xs ys : List X) → each f (xs ++ ys) ≡ and_then (each f xs) (joined_with (each f ys))
  each_append f [] ys = sym (ends_itself (each f ys))
  each_append f (x ∷ xs) ys = (λ i. and_then (f x) (λ a. and_then (each_append f xs ys i) (λ more. Goes (a ∷ more))))
      ∙ (λ i. and_then (f x) (λ a. one a i))
      ∙ sym (assoc (f x) (λ a. and_then (each f xs) (λ more. Goes (a ∷ more))) (joined_with (each f ys)))
    where
      last : (a : A) (before : List A) → and_then (joined_with (each f ys) before) (λ more. Goes (a ∷ more)) ≡ joined_with (each f ys) (a ∷ before)
      last a before = assoc (each f ys) (λ more. Goes (before ++ more)) (λ more. Goes (a ∷ more))

      one : (a : A) → and_then (and_then (each f xs) (joined_with (each f ys))) (λ more. Goes (a ∷ more)) ≡ and_then (and_then (each f xs) (λ more. Goes (a ∷ more))) (joined_with (each f ys))
      one a = assoc (each f xs) (joined_with (each f ys)) (λ more. Goes (a ∷ more))
          ∙ (λ i. and_then (each f xs) (λ before. last a before i))
          ∙ sym (assoc (each f xs) (λ more. Goes (a ∷ more)) (joined_with (each f ys)))

-- An element that came to its end leaves the loop over those behind it.
module _ {Q R O E X A : Type 0} (F : Facts O) (x : X) (xs : List X) (n : ℕ) where
  pub folded_walks : (f : A → X → ReadTree Q R O E A) (a b : A) → Walks F (f a x) (Goes b) n → Walks F (folded f a (x ∷ xs)) (folded f b xs) n
  folded_walks f a b w = walks_then F (λ c. folded f c xs) (f a x) (Goes b) n w

  pub first_passes : (f : X → ReadTree Q R O E (Option A)) → Walks F (f x) (Goes None) n → Walks F (first f (x ∷ xs)) (first f xs) n
  first_passes f w = walks_then F (λ a. found_first a (first f xs)) (f x) (Goes None) n w

  pub first_finds : (f : X → ReadTree Q R O E (Option A)) (a : A) → Walks F (f x) (Goes (Some a)) n → Walks F (first f (x ∷ xs)) (Goes (Some a)) n
  first_finds f a w = walks_then F (λ b. found_first b (first f xs)) (f x) (Goes (Some a)) n w

  pub each_walks : (f : X → ReadTree Q R O E A) (a : A) → Walks F (f x) (Goes a) n → Walks F (each f (x ∷ xs)) (and_then (each f xs) (λ more. Goes (a ∷ more))) n
  each_walks f a w = walks_then F (λ b. and_then (each f xs) (λ more. Goes (b ∷ more))) (f x) (Goes a) n w
