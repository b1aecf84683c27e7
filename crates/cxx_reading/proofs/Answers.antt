-- What functions give that take the answers of others, or the functions themselves, for `using` on a function that calls them.
use Rattle.std.proofs.Common.{◌≡◌, ◌≢◌, ℕ, List, [], ◌∷◌, ◌++◌, Option, Result, sym, ap}
use Rattle.cxx_tokens.specs.declared.token.Tokens.{Tokens}
use Rattle.cxx_reading.specs.declared.fault.ExprFault.{ExprFault}
use Rattle.cxx_reading.specs.declared.fault.ExprFault.TheVariants.{S1, S2, Memory}
use Rattle.cxx_reading.specs.Reading.{End, Tree, No, Why, Nothing, TooDeep, Rule, or_none, or_empty, if_any, repeated, why, Gives}
use Rattle.cxx_reading.specs.Answers.{Post, LeavesNone, LeavesEmpty, ReadsRule, RepeatsRule, with_one}

pub none_left : {A : Type 0} {read : Result (A × ℕ) ExprFault} {at : ℕ} {result : Result (Option A × ℕ) ExprFault} (x : End A) → LeavesNone read at result → Gives x read → Gives (or_none x at) result
none_left x c g = c.gives x g

pub empty_left : {A : Type 0} {read : Result (List A × ℕ) ExprFault} {at : ℕ} {result : Result (List A × ℕ) ExprFault} (x : End (List A)) → LeavesEmpty read at result → Gives x read → Gives (or_empty x at) result
empty_left x c g = c.gives x g

-- the same of a rule that is called
pub any_left : {A : Type 0} {read : Result (List A × ℕ) ExprFault} {result : Result (List A × ℕ) ExprFault} (q : Rule (List A)) (i : ℕ) → LeavesEmpty read i result → Gives (q i) read → Gives (if_any q i) result
unfolding if_any
any_left q i c g = c.gives (q i) g

pub repeats : {A : Type 0} {tokens : Tokens} {post : Post A} {found : List A} {at : ℕ} {result : Result (List A × ℕ) ExprFault} (p : Rule A) → RepeatsRule tokens post found at result → ReadsRule p post → Gives (repeated tokens (with_one p) found at) result
repeats p c reads = c.gives p reads

-- ---- the turns of a repetition

module _ {A : Type 0} (p : Rule A) where
  pub one_more : (found more : List A) (x : A) (i j : ℕ) → p i ≡ Tree x j → more ≡ found ++ x ∷ [] → with_one p found i ≡ Tree more j
  one_more found more x i j e m = rw e (ap (λ (all : List A). Tree all j) (sym m))

pub no_more : {A : Type 0} (p : Rule A) (found : List A) (i : ℕ) (w : Why) → p i ≡ No w → with_one p found i ≡ No w
no_more p found i w e = rw e

pub none_by : {A : Type 0} (e : End A) (f : ExprFault) → (f ≢ Memory → e ≡ No (why f)) → f ≡ S1 → e ≡ No Nothing
none_by e S1 h q = h (λ r. cc)
none_by e S2 h q = cc
none_by e Memory h q = cc

pub deep_by : {A : Type 0} (e : End A) (f : ExprFault) → (f ≢ Memory → e ≡ No (why f)) → f ≡ S2 → e ≡ No TooDeep
deep_by e S1 h q = cc
deep_by e S2 h q = h (λ r. cc)
deep_by e Memory h q = cc

pub ruleset missing = (none_left, empty_left)
