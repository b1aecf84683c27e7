-- How trees walk.
use Rattle.std.proofs.Common.{◌≡◌, ◌⊎◌, inl, inr, ℕ, zero, suc, ◌+◌, ◌-◌, ◌<◌, ◌≤◌, Bool, true, false, ltb, Option, Some, None, refl, sym, ◌∙◌, subst, arith}
use Rattle.std.proofs.lemmas.Bool.{ltb-true, ltb-false}
use Rattle.read_trees.specs.Trees.{ReadTree, Goes, Stops, Pays, Reads, Asks, pays, held, fetched, and_then, handled}
use Rattle.read_trees.specs.Walks.{Facts, Agrees, Walks, IsEnd, IsPaying, IsRunning, IsNeeding, IsAsking, IsStill, Rests, LeavesOff}

module _ {Q R O E A : Type 0} (F : Facts O) where
  -- it rests where it is
  pub stays : (t : ReadTree Q R O E A) → Walks F t t 0
  stays (Goes a) = (refl, refl)
  stays (Stops e) = (refl, refl)
  stays (Pays t) = inl (refl, refl)
  stays (Reads j g) = inl (refl, refl)
  stays (Asks q g) = (refl, refl)

  from_here : (t u v : ReadTree Q R O E A) (n m : ℕ) → (u ≡ t) × (n ≡ 0) → Walks F u v m → Walks F t v (n + m)
  from_here t u v n m e w = subst (λ x. Walks F x v (n + m)) e.0 (let s : m ≡ n + m = (let z = e.1 in omega arith) in subst (λ x. Walks F u v x) s w)

  -- and goes on from where it rested
  pub goes_on : (t u v : ReadTree Q R O E A) (n m : ℕ) → Walks F t u n → Walks F u v m → Walks F t v (n + m)
  goes_on (Goes a) u v n m w x = from_here (Goes a) u v n m w x
  goes_on (Stops e) u v n m w x = from_here (Stops e) u v n m w x
  goes_on (Pays t) u v n m (inl w) x = from_here (Pays t) u v n m w x
  goes_on (Pays t) u v n m (inr w) x = inr (w.0 + m, (let e = w.1 in omega arith), goes_on t u v w.0 m w.2 x)
  goes_on (Reads j g) u v n m (inl w) x = from_here (Reads j g) u v n m w x
  goes_on (Reads j g) u v n m (inr w) x = inr (w.0, w.1, goes_on (g w.0) u v n m w.2 x)
  goes_on (Asks q g) u v n m w x = from_here (Asks q g) u v n m w x

  -- so many steps are paid
  pub walks_pays : (n : ℕ) (t : ReadTree Q R O E A) → Walks F (pays n t) t n
  walks_pays zero t = stays t
  walks_pays (suc n) t = inr (n, omega arith, walks_pays n t)

  -- what is known is read
  pub walks_known : (j : ℕ) (o : O) (g : O → ReadTree Q R O E A) → F j ≡ Some o → Walks F (Reads j g) (g o) 0
  walks_known j o g e = inr (o, e, stays (g o))

  -- a piece that has what is asked for, one that is refused, and one of another form
  module _ (is_refused : O → Bool) (has : O → Option A) (refused : ℕ → E) (unfit : E) (j : ℕ) (o : O) (known : F j ≡ Some o) where
    by_outcome : (b : Bool) (x : Option A) → is_refused o ≡ b → has o ≡ x → Walks F (fetched {Q = Q} {R = R} is_refused has refused unfit j) (held (refused j) unfit b x) 0
    by_outcome b x e h =
        let here : ReadTree Q R O E A = held (refused j) unfit (is_refused o) (has o) in
        let first : Walks F here (held (refused j) unfit b (has o)) 0 = subst (λ (c : Bool). Walks {Q = Q} {R = R} F here (held (refused j) unfit c (has o)) 0) e (stays here) in
        inr (o, known, subst (λ (y : Option A). Walks {Q = Q} {R = R} F here (held (refused j) unfit b y) 0) h first)

    pub walks_fetched : (a : A) → is_refused o ≡ false → has o ≡ Some a → Walks F (fetched {Q = Q} {R = R} is_refused has refused unfit j) (Goes a) 0
    walks_fetched a e h = by_outcome false (Some a) e h

    pub walks_refused : is_refused o ≡ true → Walks F (fetched {Q = Q} {R = R} is_refused has refused unfit j) (Stops (refused j)) 0
    walks_refused e = by_outcome true (has o) e refl

    pub walks_unfit : is_refused o ≡ false → has o ≡ None → Walks F (fetched {Q = Q} {R = R} is_refused has refused unfit j) (Stops unfit) 0
    walks_unfit e h = by_outcome false None e h

-- with more facts it comes as far
module _ {Q R O E A : Type 0} (F G : Facts O) (more : Agrees F G) where
  pub walks_more : (t u : ReadTree Q R O E A) (n : ℕ) → Walks F t u n → Walks G t u n
  walks_more (Goes a) u n w = w
  walks_more (Stops e) u n w = w
  walks_more (Pays t) u n (inl w) = inl w
  walks_more (Pays t) u n (inr w) = inr (w.0, w.1, walks_more t u w.0 w.2)
  walks_more (Reads j g) u n (inl w) = inl w
  walks_more (Reads j g) u n (inr w) = inr (w.0, more j w.0 w.1, walks_more (g w.0) u n w.2)
  walks_more (Asks q g) u n w = w

-- what follows does not hinder it
module _ {Q R O E A B : Type 0} (F : Facts O) (h : A → ReadTree Q R O E B) where
  here_then : (t u : ReadTree Q R O E A) (n : ℕ) → (u ≡ t) × (n ≡ 0) → Walks F (and_then t h) (and_then u h) n
  here_then t u n e = subst (λ x. Walks F (and_then t h) (and_then x h) n) (sym e.0) (subst (λ m. Walks F (and_then t h) (and_then t h) m) (sym e.1) (stays F (and_then t h)))

  pub walks_then : (t u : ReadTree Q R O E A) (n : ℕ) → Walks F t u n → Walks F (and_then t h) (and_then u h) n
  walks_then (Goes a) u n w = here_then (Goes a) u n w
  walks_then (Stops e) u n w = here_then (Stops e) u n w
  walks_then (Pays t) u n (inl w) = here_then (Pays t) u n w
  walks_then (Pays t) u n (inr w) = inr (w.0, w.1, walks_then t u w.0 w.2)
  walks_then (Reads j g) u n (inl w) = here_then (Reads j g) u n w
  walks_then (Reads j g) u n (inr w) = inr (w.0, w.1, walks_then (g w.0) u n w.2)
  walks_then (Asks q g) u n w = here_then (Asks q g) u n w

-- nor does what handles it
module _ {Q R O E A P S D B M : Type 0} (F : Facts O) (answer : M → Q → ReadTree P S O D (R × M)) (goes : M → A → ReadTree P S O D B) (stops : M → E → ReadTree P S O D B) (m : M) where
  abbrev made : ReadTree Q R O E A → ReadTree P S O D B
  made t = handled answer goes stops m t

  here_made : (t u : ReadTree Q R O E A) (n : ℕ) → (u ≡ t) × (n ≡ 0) → Walks F (made t) (made u) n
  here_made t u n e = subst (λ x. Walks F (made t) (made x) n) (sym e.0) (subst (λ i. Walks F (made t) (made t) i) (sym e.1) (stays F (made t)))

  pub walks_handled : (t u : ReadTree Q R O E A) (n : ℕ) → Walks F t u n → Walks F (made t) (made u) n
  walks_handled (Goes a) u n w = here_made (Goes a) u n w
  walks_handled (Stops e) u n w = here_made (Stops e) u n w
  walks_handled (Pays t) u n (inl w) = here_made (Pays t) u n w
  walks_handled (Pays t) u n (inr w) = inr (w.0, w.1, walks_handled t u w.0 w.2)
  walks_handled (Reads j g) u n (inl w) = here_made (Reads j g) u n w
  walks_handled (Reads j g) u n (inr w) = inr (w.0, w.1, walks_handled (g w.0) u n w.2)
  walks_handled (Asks q g) u n w = here_made (Asks q g) u n w

module _ {O : Type 0} (F : Facts O) where
  unread : (j : ℕ) (o : O) → F j ≡ None → F j ≡ Some o → ⊥
  unread j o e d = let c : ◌≡◌ {A = Option O} None (Some o) = sym e ∙ d in let b : ⊥ = cc in b

  same_fact : (j : ℕ) (o p : O) → F j ≡ Some o → F j ≡ Some p → o ≡ p
  same_fact j o p e d = let c : ◌≡◌ {A = Option O} (Some o) (Some p) = sym e ∙ d in cc

used_or_less : (quota n : ℕ) → n ≤ quota → (n ≡ quota) ⊎ (n < quota)
used_or_less quota n l = by_less (ltb n quota) refl
  where
    by_less : (b : Bool) → ltb n quota ≡ b → (n ≡ quota) ⊎ (n < quota)
    by_less true e = inr (ltb-true n quota e)
    by_less false e = inl (let w = ltb-false n quota e in omega arith)

-- The place where it has to rest is one.
module _ {Q R O E A : Type 0} (F : Facts O) where
  both_here : (t u v : ReadTree Q R O E A) (n m : ℕ) → (u ≡ t) × (n ≡ 0) → (v ≡ t) × (m ≡ 0) → (u ≡ v) × (n ≡ m)
  both_here t u v n m e d = (e.0 ∙ sym d.0, e.1 ∙ sym d.1)

  pub rests_once : (t u v : ReadTree Q R O E A) (n m : ℕ) → Walks F t u n → Walks F t v m → Rests F u → Rests F v → (u ≡ v) × (n ≡ m)
  rests_once (Goes a) u v n m w x r s = both_here (Goes a) u v n m w x
  rests_once (Stops e) u v n m w x r s = both_here (Stops e) u v n m w x
  rests_once (Pays t) u v n m (inl w) x r s = absurd (subst (Rests F) w.0 r)
  rests_once (Pays t) u v n m (inr w) (inl x) r s = absurd (subst (Rests F) x.0 s)
  rests_once (Pays t) u v n m (inr w) (inr x) r s = let h = rests_once t u v w.0 x.0 w.2 x.2 r s in (h.0, (let a = w.1 in let b = x.1 in let c = h.1 in omega arith))
  rests_once (Reads j g) u v n m (inl w) (inl x) r s = both_here (Reads j g) u v n m w x
  rests_once (Reads j g) u v n m (inl w) (inr x) r s = absurd (unread F j x.0 (subst (Rests F) w.0 r) x.1)
  rests_once (Reads j g) u v n m (inr w) (inl x) r s = absurd (unread F j w.0 (subst (Rests F) x.0 s) w.1)
  rests_once (Reads j g) u v n m (inr w) (inr x) r s = rests_once (g w.0) u v n m w.2 (subst (λ o. Walks F (g o) v m) (same_fact F j x.0 w.0 x.1 w.1) x.2) r s
  rests_once (Asks q g) u v n m w x r s = both_here (Asks q g) u v n m w x

  -- Where a call leaves off is one place too, and the steps that it pays are one number.
  pub leaves_off_once : (quota : ℕ) (t u v : ReadTree Q R O E A) (n m : ℕ) → Walks F t u n → Walks F t v m → LeavesOff F quota n u → LeavesOff F quota m v → (u ≡ v) × (n ≡ m)
  leaves_off_once quota (Goes a) u v n m w x r s = both_here (Goes a) u v n m w x
  leaves_off_once quota (Stops e) u v n m w x r s = both_here (Stops e) u v n m w x
  leaves_off_once quota (Pays t) u v n m (inl w) (inl x) r s = both_here (Pays t) u v n m w x
  leaves_off_once quota (Pays t) u v n m (inl w) (inr x) r s = absurd (let a = r.used (subst IsPaying (sym w.0) tt) in let b = w.1 in let c = x.1 in let d = s.within in omega arith)
  leaves_off_once quota (Pays t) u v n m (inr w) (inl x) r s = absurd (let a = s.used (subst IsPaying (sym x.0) tt) in let b = x.1 in let c = w.1 in let d = r.within in omega arith)
  leaves_off_once quota (Pays t) u v n m (inr w) (inr x) r s =
      let h = leaves_off_once (quota - 1) t u v w.0 x.0 w.2 x.2
      (record { within = (let a = w.1 in let b = r.within in omega arith); still = r.still; used = λ p. (let a = w.1 in let b = r.used p in omega arith) })
      (record { within = (let a = x.1 in let b = s.within in omega arith); still = s.still; used = λ p. (let a = x.1 in let b = s.used p in omega arith) }) in
      (h.0, (let a = w.1 in let b = x.1 in let c = h.1 in omega arith))
  leaves_off_once quota (Reads j g) u v n m (inl w) (inl x) r s = both_here (Reads j g) u v n m w x
  leaves_off_once quota (Reads j g) u v n m (inl w) (inr x) r s = absurd (unread F j x.0 (subst (IsStill F) w.0 r.still) x.1)
  leaves_off_once quota (Reads j g) u v n m (inr w) (inl x) r s = absurd (unread F j w.0 (subst (IsStill F) x.0 s.still) w.1)
  leaves_off_once quota (Reads j g) u v n m (inr w) (inr x) r s = leaves_off_once quota (g w.0) u v n m w.2 (subst (λ o. Walks F (g o) v m) (same_fact F j x.0 w.0 x.1 w.1) x.2) r s
  leaves_off_once quota (Asks q g) u v n m w x r s = both_here (Asks q g) u v n m w x

  -- There is an answer for each: an end, `Running`, a piece that is needed, or a question.
  abbrev pub Answer : ℕ → ℕ → ReadTree Q R O E A → Type 0
  Answer quota n u = IsEnd u ⊎ (IsRunning quota n u ⊎ (((j : ℕ) × IsNeeding quota n j u) ⊎ ((q : Q) × IsAsking quota n q u)))

  pub has_answer : (quota n : ℕ) (u : ReadTree Q R O E A) → LeavesOff F quota n u → Answer quota n u
  has_answer quota n (Goes a) l = inl tt
  has_answer quota n (Stops e) l = inl tt
  has_answer quota n (Pays t) l = inr (inl (l.used tt, λ x. x))
  has_answer quota n (Reads j g) l = elim (used_or_less quota n l.within) [
    | inl e ↦ inr (inl (e, λ x. x))
    | inr e ↦ inr (inr (inl (j, (e, g, refl))))
  ]
  has_answer quota n (Asks q g) l = elim (used_or_less quota n l.within) [
    | inl e ↦ inr (inl (e, λ x. x))
    | inr e ↦ inr (inr (inr (q, (e, g, refl))))
  ]
