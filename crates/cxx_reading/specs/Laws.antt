-- What holds of choices, missing parts and repetitions, whatever their parts are.
use Rattle.std.specs.Prelude.{◌≡◌, ℕ, ◌+◌, ◌<◌, ◌≤◌, List, ◌⊎◌}
use Rattle.cxx_tokens.specs.declared.token.Tokens.{Tokens}
use Rattle.cxx_reading.specs.Reading.{End, Tree, No, Nothing, TooDeep, Rule, left, longer, present, optional, if_any, turns, repeated}
use Rattle.cxx_reading.specs.Extents.{Rises, Needs, Reads}

-- ---- choices

-- not too deep, and each tree ends before this token
abbrev pub EndsBefore : {A : Type 0} → ℕ → End A → Type 0
EndsBefore k (Tree a i) = i < k
EndsBefore k (No Nothing) = Unit {0}
EndsBefore k (No TooDeep) = ⊥

-- where a choice gives a tree, it is that of one of the two; the other is not too deep, and does not end later, nor at the
-- same token where it is the first
abbrev pub IsLongest : (A : Type 0) → Type 0
IsLongest A = (x y : End A) (a : A) (k : ℕ) → longer x y ≡ Tree a k →
    ((x ≡ Tree a k) × EndsBefore (k + 1) y) ⊎ ((y ≡ Tree a k) × EndsBefore k x)

-- a choice is too deep exactly where one of the two is
abbrev pub IsDeepAsEither : (A : Type 0) → Type 0
IsDeepAsEither A = (x y : End A) →
    (longer x y ≡ No TooDeep → (x ≡ No TooDeep) ⊎ (y ≡ No TooDeep)) ×
    ((x ≡ No TooDeep) ⊎ (y ≡ No TooDeep) → longer x y ≡ No TooDeep)

-- nothing begins exactly where neither does
abbrev pub IsNothingAsBoth : (A : Type 0) → Type 0
IsNothingAsBoth A = (x y : End A) →
    (longer x y ≡ No Nothing → (x ≡ No Nothing) × (y ≡ No Nothing)) ×
    ((x ≡ No Nothing) × (y ≡ No Nothing) → longer x y ≡ No Nothing)

-- ---- parts that may be missing

-- that such a part is missing is no fault
abbrev pub IsNoFault : (A : Type 0) → Tokens → Type 0
IsNoFault A tokens = (p : Rule A) (q : Rule (List A)) (r : A → Rule A) (x : A) →
    Reads (present p) × Reads (optional p) × Reads (if_any q) × Reads (repeated tokens r x)

-- ---- repetitions whose turns take a token, and begin none behind the last one

-- the bound cuts nothing off: with more turns the end is the same
abbrev pub IsNotCutOff : (A : Type 0) → Tokens → Type 0
IsNotCutOff A tokens = (p : A → Rule A) → ((x : A) → Rises (p x)) → ((x : A) → Needs tokens (p x)) →
    (n : ℕ) (x : A) (i : ℕ) → left tokens i ≤ n → turns n p x i ≡ repeated tokens p x i

-- a repetition ends only where its part reads nothing more
abbrev pub EndsAtNothing : (A : Type 0) → Tokens → Type 0
EndsAtNothing A tokens = (p : A → Rule A) → ((x : A) → Rises (p x)) → ((x : A) → Needs tokens (p x)) →
    (x y : A) (i j : ℕ) → repeated tokens p x i ≡ Tree y j → p y j ≡ No Nothing
