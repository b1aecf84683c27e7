-- The laws of trees: one after the other, and handled.
use Rattle.std.proofs.Common.{◌≡◌, ℕ, zero, suc, ◌+◌, refl, ap, ◌∙◌, arith}
use Rattle.read_trees.specs.Trees.{ReadTree, Goes, Stops, Pays, Reads, Asks, pays, and_then, handled}

module _ {Q R O E A B C : Type 0} where
  -- brackets do not matter
  pub assoc : (t : ReadTree Q R O E A) (f : A → ReadTree Q R O E B) (h : B → ReadTree Q R O E C) → and_then (and_then t f) h ≡ and_then t (λ a. and_then (f a) h)
  assoc (Goes a) f h = refl
  assoc (Stops e) f h = refl
  assoc (Pays t) f h = ap Pays (assoc t f h)
  assoc (Reads j g) f h = λ i. Reads j (λ o. assoc (g o) f h i)
  assoc (Asks q g) f h = λ i. Asks q (λ r. assoc (g r) f h i)

module _ {Q R O E A : Type 0} where
  -- nothing follows
  pub ends_itself : (t : ReadTree Q R O E A) → and_then t Goes ≡ t
  ends_itself (Goes a) = refl
  ends_itself (Stops e) = refl
  ends_itself (Pays t) = ap Pays (ends_itself t)
  ends_itself (Reads j g) = λ i. Reads j (λ o. ends_itself (g o) i)
  ends_itself (Asks q g) = λ i. Asks q (λ r. ends_itself (g r) i)

module _ {Q R O E A : Type 0} where
  -- steps add up
  pub pays_more : (n m : ℕ) (t : ReadTree Q R O E A) → pays (n + m) t ≡ pays n (pays m t)
  pays_more zero m t = let e : zero + m ≡ m = omega arith in ap (λ (x : ℕ). pays x t) e
  pays_more (suc n) m t = let e : suc n + m ≡ suc (n + m) = omega arith in ap (λ (x : ℕ). pays x t) e ∙ ap Pays (pays_more n m t)

module _ {Q R O E A B : Type 0} where
  -- steps come first
  pub pays_then : (n : ℕ) (t : ReadTree Q R O E A) (f : A → ReadTree Q R O E B) → and_then (pays n t) f ≡ pays n (and_then t f)
  pays_then zero t f = refl
  pays_then (suc n) t f = ap Pays (pays_then n t f)

module _ {Q R O E A P S F B M : Type 0} (answer : M → Q → ReadTree P S O F (R × M)) (goes : M → A → ReadTree P S O F B) (stops : M → E → ReadTree P S O F B) where
  pub pays_handled : (n : ℕ) (m : M) (t : ReadTree Q R O E A) → handled answer goes stops m (pays n t) ≡ pays n (handled answer goes stops m t)
  pays_handled zero m t = refl
  pays_handled (suc n) m t = ap Pays (pays_handled n m t)

-- what follows a tree is handled with what was kept at its end
module _ {Q R O E A C P S F B M : Type 0} (answer : M → Q → ReadTree P S O F (R × M)) (goes : M → A → ReadTree P S O F B) (stops : M → E → ReadTree P S O F B) (f : C → ReadTree Q R O E A) where
  pub handled_then : (m : M) (t : ReadTree Q R O E C) → handled answer goes stops m (and_then t f) ≡ handled answer (λ n c. handled answer goes stops n (f c)) stops m t
  handled_then m (Goes c) = refl
  handled_then m (Stops e) = refl
  handled_then m (Pays t) = ap Pays (handled_then m t)
  handled_then m (Reads j g) = λ i. Reads j (λ o. handled_then m (g o) i)
  handled_then m (Asks q g) = λ i. and_then (answer m q) (λ r. handled_then r.1 (g r.0) i)
