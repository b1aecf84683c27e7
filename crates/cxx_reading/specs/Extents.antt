-- How far rules read.
use Rattle.std.specs.Prelude.{◌≡◌, ℕ, ◌+◌, ◌≤◌}
use Rattle.cxx_tokens.specs.declared.token.Tokens.{Tokens}
use Rattle.cxx_reading.specs.Reading.{End, Tree, No, Nothing, TooDeep, Rule, left}

-- a tree ends at this token or later
abbrev pub EndsFrom : {A : Type 0} → ℕ → End A → Type 0
EndsFrom i (Tree a j) = i ≤ j
EndsFrom i (No why) = Unit {0}

-- no tree ends before the token at which it begins
pub record Forward {A : Type 0} (p : Rule A) : Type 0 where
  pub at : (i : ℕ) → EndsFrom i (p i)

-- each tree has at least one token
pub record Rises {A : Type 0} (p : Rule A) : Type 0 where
  pub at : (i : ℕ) → EndsFrom (i + 1) (p i)

-- nothing begins where no token is left
pub record Needs {A : Type 0} (tokens : Tokens) (p : Rule A) : Type 0 where
  pub at : (i : ℕ) → left tokens i ≡ 0 → p i ≡ No Nothing

-- at the end of the tokens a tree may begin, but takes none, and no rule is too deep
abbrev pub StaysAt : {A : Type 0} → ℕ → End A → Type 0
StaysAt i (Tree a j) = j ≡ i
StaysAt i (No Nothing) = Unit {0}
StaysAt i (No TooDeep) = ⊥

-- the same of a rule
pub record Stays {A : Type 0} (tokens : Tokens) (p : Rule A) : Type 0 where
  pub at : (i : ℕ) → left tokens i ≡ 0 → StaysAt i (p i)

-- nothing begins there
abbrev pub IsNothing : {A : Type 0} → End A → Type 0
IsNothing (Tree a i) = ⊥
IsNothing (No Nothing) = Unit {0}
IsNothing (No TooDeep) = ⊥

-- something always begins, which may be too deep
pub record Reads {A : Type 0} (p : Rule A) : Type 0 where
  pub at : (i : ℕ) → IsNothing (p i) → ⊥
