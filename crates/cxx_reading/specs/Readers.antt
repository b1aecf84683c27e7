-- Functions that are passed to a parser, and read a rule.
use Rattle.std.specs.Prelude.{◌≡◌, ℕ, Result}
use Rattle.std.specs.declared.alloc.Global.{Global}
use denote.Ref.{Bor}
use Rattle.cxx_tokens.specs.declared.token.Tokens.{Tokens}
use Rattle.cxx_reading.specs.declared.fault.ExprFault.{ExprFault}
use Rattle.cxx_reading.specs.Reading.{Rule, Gives}

-- what a call requires: the allocator, the tokens, the token to begin at, and the level
abbrev pub Pre : Type 1
Pre = Global → Bor Tokens → ℕ → ℕ → Type 0

-- what a call ensures of its answer
abbrev pub Post : Type 0 → Type 1
Post A = Global → Bor Tokens → ℕ → ℕ → Result (A × ℕ) ExprFault → Type 0

-- The function may be called at each token of these tokens and at this level, and then reads the rule.
pub record ReadsAt {A : Type 0} (tokens : Tokens) (level : ℕ) (rule : Rule A) (pre : Pre) (post : Post A) : Type 0 where
  pub callable : (alloc : Global) (t : Bor Tokens) (at : ℕ) → pre alloc t at level
  pub reads : (alloc : Global) (t : Bor Tokens) (at : ℕ) (r : Result (A × ℕ) ExprFault) → t.now ≡ tokens → post alloc t at level r → Gives (rule at) r
