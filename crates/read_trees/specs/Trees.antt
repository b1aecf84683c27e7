-- Definitions as trees of what is left to do.
use Rattle.std.specs.Prelude.{ℕ, zero, suc, Bool, true, false, Option, Some, None}

-- What is left of a definition. Q are questions and R their answers, O is what a piece comes to, E a refusal, A a result.
pub data ReadTree (Q R O E A : Type 0) : Type 0 where
  -- it ends with a result
  Goes : A → ReadTree Q R O E A
  -- or is refused
  Stops : E → ReadTree Q R O E A
  -- it pays one step, and goes on
  Pays : ReadTree Q R O E A → ReadTree Q R O E A
  -- it goes on by what the piece of this number comes to
  Reads : ℕ → (O → ReadTree Q R O E A) → ReadTree Q R O E A
  -- it goes on by the answer to a question, which another definition gives
  Asks : Q → (R → ReadTree Q R O E A) → ReadTree Q R O E A

module _ {Q R O E A : Type 0} where
  -- so many steps first
  abbrev pub pays : ℕ → ReadTree Q R O E A → ReadTree Q R O E A
  pays zero t = t
  pays (suc n) t = Pays (pays n t)

  -- what is left once a question has its answer; where none is asked, all of it
  abbrev pub answered : ReadTree Q R O E A → R → ReadTree Q R O E A
  answered (Goes a) r = Goes a
  answered (Stops e) r = Stops e
  answered (Pays t) r = Pays t
  answered (Reads j g) r = Reads j g
  answered (Asks q g) r = g r

  -- a result that may be missing, or a refusal
  abbrev pub found_or : E → Option A → ReadTree Q R O E A
  found_or e None = Stops e
  found_or e (Some a) = Goes a

  -- what an outcome has for those that read it: the first refusal where its piece was refused, the second where the outcome has another
  -- form than the piece can have
  abbrev pub held : E → E → Bool → Option A → ReadTree Q R O E A
  held refused unfit true x = Stops refused
  held refused unfit false x = found_or unfit x

  -- What the piece j has for those that read it. `is_refused` and `has` say of an outcome whether its piece was refused, and what is
  -- read of it; the refusal of the reader names j.
  abbrev pub fetched : (O → Bool) → (O → Option A) → (ℕ → E) → E → ℕ → ReadTree Q R O E A
  fetched is_refused has refused unfit j = Reads j (λ o. held (refused j) unfit (is_refused o) (has o))

module _ {Q R O E A B : Type 0} where
  -- one after the other, the second by the result of the first
  abbrev pub and_then : ReadTree Q R O E A → (A → ReadTree Q R O E B) → ReadTree Q R O E B
  and_then (Goes a) f = f a
  and_then (Stops e) f = Stops e
  and_then (Pays t) f = Pays (and_then t f)
  and_then (Reads j g) f = Reads j (λ o. and_then (g o) f)
  and_then (Asks q g) f = Asks q (λ r. and_then (g r) f)

-- one question, whose answer is the result
abbrev pub asked : {Q R O E : Type 0} → Q → ReadTree Q R O E R
asked q = Asks q Goes

-- A tree whose questions other trees answer. m is what is kept between questions: each answer may change it. `goes` and `stops` say how
-- it ends.
module _ {Q R O E A P S F B M : Type 0} (answer : M → Q → ReadTree P S O F (R × M)) (goes : M → A → ReadTree P S O F B) (stops : M → E → ReadTree P S O F B) where
  abbrev pub handled : M → ReadTree Q R O E A → ReadTree P S O F B
  handled m (Goes a) = goes m a
  handled m (Stops e) = stops m e
  handled m (Pays t) = Pays (handled m t)
  handled m (Reads j g) = Reads j (λ o. handled m (g o))
  handled m (Asks q g) = and_then (answer m q) (λ r. handled r.1 (g r.0))
