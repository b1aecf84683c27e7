-- What functions answer that take the answers of others, or the functions themselves: whichever rules those read, they give the
-- combination of these.
use Rattle.std.specs.Prelude.{ℕ, List, [], ◌∷◌, ◌++◌, Option, Result}
use Rattle.cxx_tokens.specs.declared.token.Tokens.{Tokens}
use Rattle.cxx_reading.specs.declared.fault.ExprFault.{ExprFault}
use Rattle.cxx_reading.specs.Reading.{End, Rule, ◌>>=◌, pure, or_none, or_empty, repeated, Gives}

-- a part that is taken where it reads
pub record LeavesNone {A : Type 0} (read : Result (A × ℕ) ExprFault) (at : ℕ) (result : Result (Option A × ℕ) ExprFault) : Type 0 where
  pub gives : (x : End A) → Gives x read → Gives (or_none x at) result

-- a list that is taken where it reads, and is else empty
pub record LeavesEmpty {A : Type 0} (read : Result (List A × ℕ) ExprFault) (at : ℕ) (result : Result (List A × ℕ) ExprFault) : Type 0 where
  pub gives : (x : End (List A)) → Gives x read → Gives (or_empty x at) result

-- what a call at a token ensures of its answer
abbrev pub Post : Type 0 → Type 1
Post A = ℕ → Result (A × ℕ) ExprFault → Type 0

-- the function reads this rule
pub record ReadsRule {A : Type 0} (rule : Rule A) (post : Post A) : Type 0 where
  pub reads : (i : ℕ) (r : Result (A × ℕ) ExprFault) → post i r → Gives (rule i) r

-- what was found before, with one more part
abbrev pub with_one : {A : Type 0} → Rule A → List A → Rule (List A)
with_one p found = do
  x ← p
  pure (found ++ x ∷ [])

-- the part that the function reads, as often as it reads
pub record RepeatsRule {A : Type 0} (tokens : Tokens) (post : Post A) (found : List A) (at : ℕ) (result : Result (List A × ℕ) ExprFault) : Type 0 where
  pub gives : (p : Rule A) → ReadsRule p post → Gives (repeated tokens (with_one p) found at) result
