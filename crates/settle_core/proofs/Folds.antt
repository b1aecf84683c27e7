-- The outcomes of the fold.
use Rattle.std.proofs.Common.{◌≡◌, ◌≢◌, ℕ, zero, suc, ◌+◌, ◌<◌, ◌≤◌, List, [], ◌∷◌, ◌++◌, length, length-append, get_or, refl, sym, ap, ◌∙◌, subst, arith}
use mathlib.Core.Logic.{dite}
use native.Mathlib.Decide.{ℕ_discrete}
use Rattle.std.proofs.lemmas.List.{get_or_append_left, get_or_push}
use Rattle.cxx_base.specs.declared.number.PieceNo.{PieceNo}
use Rattle.settle_core.specs.Meant.{Meant, Lawful, outcomes_below, outcome, reads}
use Rattle.settle_core.specs.Next.{NextOf, Read, firsts, IsNext}
use Rattle.settle_core.proofs.Tasks.{reads_if, front_more}

module _ {T O : Type 0} (m : Meant T O) where
  pub fold_more : (k : ℕ) → outcomes_below m (suc k) ≡ outcomes_below m k ++ outcome m k ∷ []
  unfolding outcome
  fold_more k = refl

  pub fold_length : (k : ℕ) → length (outcomes_below m k) ≡ k
  fold_length zero = refl
  fold_length (suc k) = length-append (outcomes_below m k) _ ∙ (let h = fold_length k in omega arith)

  pub fold_at : (k j : ℕ) (d : O) → j < k → get_or (outcomes_below m k) j d ≡ outcome m j
  fold_at zero j d l = absurd (omega arith)
  fold_at (suc k) j d l = ap (λ xs. get_or xs j d) (fold_more k) ∙ dite (ℕ_discrete j k)
      (λ (e : j ≡ k). get_or_push (outcomes_below m k) (outcome m k) d j (fold_length k ∙ sym e) ∙ ap (outcome m) (sym e))
      (λ (n : j ≢ k). get_or_append_left (outcomes_below m k) (outcome m k ∷ []) d j (let h = fold_length k in omega arith) ∙ fold_at k j d (omega arith))

  pub fold_grows : (k : ℕ) (xs ys : List O) (o : O) → ys ≡ xs ++ o ∷ [] → xs ≡ outcomes_below m k → o ≡ outcome m k → ys ≡ outcomes_below m (k + 1)
  fold_grows k xs ys o push before is = push ∙ (λ i. before i ++ is i ∷ []) ∙ sym (fold_more k) ∙ (let e : suc k ≡ k + 1 = omega arith in ap (outcomes_below m) e)

-- A piece that is played from the outcomes before it reads one of them, and goes on with it.
module _ {T O : Type 0} (m : Meant T O) (lawful : Lawful m) (next : ℕ → List (ℕ × O) → NextOf O) (law : IsNext m next) (k : ℕ) (inside : k < m.pieces)
    (taken : List (ℕ × O)) (within : length taken ≤ length (reads m k)) (prefix : taken ≡ firsts m k (length taken)) (before : List O) (is : before ≡ outcomes_below m k) (j : PieceNo) (e : next k taken ≡ Read j) where
  read : (j.0 ≡ get_or (reads m k) (length taken) 0) × (length taken < length (reads m k))
  read = reads_if m k taken (length taken) within prefix next law inside j e

  earlier : j.0 < k
  earlier = subst (λ (i : ℕ). i < k) (sym read.0) (lawful.below k (length taken) inside read.1)

  pub stands_before : j.0 < length before
  stands_before = subst (λ (n : ℕ). j.0 < n) (sym (ap length is ∙ fold_length m k)) earlier

  module _ (o d : O) (found : o ≡ get_or before j.0 d) (more : List (ℕ × O)) (push : more ≡ taken ++ (j.0, o) ∷ []) where
    pub more_length : length more ≡ length taken + 1
    more_length = ap length push ∙ length-append taken ((j.0, o) ∷ [])

    pub more_within : length more ≤ length (reads m k)
    more_within = let l = more_length in let w = read.1 in omega arith

    outcome_is : o ≡ outcome m j.0
    outcome_is = found ∙ ap (λ xs. get_or xs j.0 d) is ∙ fold_at m k j.0 d earlier

    pub more_prefix : more ≡ firsts m k (length more)
    more_prefix = push
        ∙ (λ i. taken ++ (read.0 i, (outcome_is ∙ ap (outcome m) read.0) i) ∷ [])
        ∙ front_more m k taken (length taken) within prefix read.1
        ∙ (let l = more_length in let e : suc (length taken) ≡ length more = omega arith in ap (firsts m k) e)
