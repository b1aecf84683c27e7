-- How far a tree comes with what is known.
use Rattle.std.specs.Prelude.{◌≡◌, ◌⊎◌, ℕ, ◌+◌, ◌<◌, ◌≤◌, Option, Some, None}
use Rattle.read_trees.specs.Trees.{ReadTree, Goes, Stops, Pays, Reads, Asks}

-- what is known of pieces: what each came to, where it is known
abbrev pub Facts : Type 0 → Type 0
Facts O = ℕ → Option O

-- what is known in F is so in G
abbrev pub Agrees : {O : Type 0} → Facts O → Facts O → Type 0
Agrees {O} F G = (j : ℕ) (o : O) → F j ≡ Some o → G j ≡ Some o

module _ {Q R O E A : Type 0} (F : Facts O) where
  -- With these facts t comes to u in n steps. It may rest anywhere on its way, but asks nothing.
  abbrev pub Walks : ReadTree Q R O E A → ReadTree Q R O E A → ℕ → Type 0
  Walks (Goes a) u n = (u ≡ Goes a) × (n ≡ 0)
  Walks (Stops e) u n = (u ≡ Stops e) × (n ≡ 0)
  Walks (Pays t) u n = ((u ≡ Pays t) × (n ≡ 0)) ⊎ ((m : ℕ) × (n ≡ 1 + m) × Walks t u m)
  Walks (Reads j g) u n = ((u ≡ Reads j g) × (n ≡ 0)) ⊎ ((o : O) × (F j ≡ Some o) × Walks (g o) u n)
  Walks (Asks q g) u n = (u ≡ Asks q g) × (n ≡ 0)

-- Where calls leave off.
module _ {Q R O E A : Type 0} where
  -- it has ended, with a result or a refusal
  abbrev pub IsEnd : ReadTree Q R O E A → Type 0
  IsEnd (Goes a) = Unit {0}
  IsEnd (Stops e) = Unit {0}
  IsEnd (Pays t) = ⊥
  IsEnd (Reads j g) = ⊥
  IsEnd (Asks q g) = ⊥

  -- it goes on by a step
  abbrev pub IsPaying : ReadTree Q R O E A → Type 0
  IsPaying (Goes a) = ⊥
  IsPaying (Stops e) = ⊥
  IsPaying (Pays t) = Unit {0}
  IsPaying (Reads j g) = ⊥
  IsPaying (Asks q g) = ⊥

  -- The answers of a call that may pay `quota` steps, by what is left and the steps that it paid. Where it paid them all and has not
  -- ended it runs, whatever comes next; else it needs a piece, or asks.
  abbrev pub IsRunning : ℕ → ℕ → ReadTree Q R O E A → Type 0
  IsRunning quota n u = (n ≡ quota) × (IsEnd u → ⊥)

  abbrev pub IsNeeding : ℕ → ℕ → ℕ → ReadTree Q R O E A → Type 0
  IsNeeding quota n j u = (n < quota) × (g : O → ReadTree Q R O E A) × (u ≡ Reads j g)

  abbrev pub IsAsking : ℕ → ℕ → Q → ReadTree Q R O E A → Type 0
  IsAsking quota n q u = (n < quota) × (g : R → ReadTree Q R O E A) × (u ≡ Asks q g)

module _ {Q R O E A : Type 0} (F : Facts O) where
  -- no piece that is known is to be read there
  abbrev pub IsStill : ReadTree Q R O E A → Type 0
  IsStill (Goes a) = Unit {0}
  IsStill (Stops e) = Unit {0}
  IsStill (Pays t) = Unit {0}
  IsStill (Reads j g) = F j ≡ None
  IsStill (Asks q g) = Unit {0}

  -- it can go no further: all steps are paid, and all that is known is read
  abbrev pub Rests : ReadTree Q R O E A → Type 0
  Rests (Goes a) = Unit {0}
  Rests (Stops e) = Unit {0}
  Rests (Pays t) = ⊥
  Rests (Reads j g) = F j ≡ None
  Rests (Asks q g) = Unit {0}

  -- Where a call that may pay `quota` steps leaves off, having paid n: it makes each move that it may, so a step is left only where all
  -- were used, and what costs no step is done behind the last one too.
  pub record LeavesOff (quota n : ℕ) (u : ReadTree Q R O E A) : Type 0 where
    pub within : n ≤ quota
    pub still : IsStill u
    pub used : IsPaying u → n ≡ quota
