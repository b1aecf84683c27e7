-- Tasks: the first reads of a piece, and what comes next.
use Rattle.std.proofs.Common.{◌≡◌, ◌⊎◌, ℕ, suc, ◌<◌, ◌≤◌, List, [], ◌∷◌, ◌++◌, map, take, length, get_or, Bool, true, lt-ltb, sym, ap, ◌∙◌, subst, arith, inl, inr, ⊎_elim}
use Rattle.std.proofs.Math.Seq.{take-suc}
use Rattle.std.proofs.lemmas.List.{length-map, length-take-le, map-append}
use mathlib.Core.Logic.{dite}
use native.Mathlib.Decide.{dec_lt, ℕ_discrete}
use Rattle.cxx_base.specs.declared.number.PieceNo.{PieceNo}
use Rattle.settle_core.specs.Meant.{Meant, outcome, reads}
use Rattle.settle_core.specs.Next.{NextOf, Read, Ends, firsts, IsNext}
use Rattle.settle_core.specs.State.{PieceState, IsSettledAt}
use Rattle.settle_core.proofs.Options.{read_is, read_is_no_end, end_is}
use Rattle.settle_core.specs.Sound.{IsSoundTask}

-- the first n reads of the piece k were taken
module _ {T O : Type 0} (m : Meant T O) (k : ℕ) (taken : List (ℕ × O)) (n : ℕ) (within : n ≤ length (reads m k)) (prefix : taken ≡ firsts m k n) where
  pub front_length : length taken ≡ n
  front_length = ap length prefix ∙ length-map (take n (reads m k)) (λ j. (j, outcome m j)) ∙ length-take-le n (reads m k) within

  pub front_more : n < length (reads m k) → taken ++ (get_or (reads m k) n 0, outcome m (get_or (reads m k) n 0)) ∷ [] ≡ firsts m k (suc n)
  front_more l = ap (λ ts. ts ++ (get_or (reads m k) n 0, outcome m (get_or (reads m k) n 0)) ∷ []) prefix ∙ sym (ap (map (λ j. (j, outcome m j))) (take-suc (reads m k) n 0 l) ∙ map-append (λ j. (j, outcome m j)) (take n (reads m k)) (get_or (reads m k) n 0 ∷ []))

  module _ (next : ℕ → List (ℕ × O) → NextOf O) (law : IsNext m next) (inside : k < m.pieces) where
    pub next_cases : ((next k taken ≡ Read (record { 0 = get_or (reads m k) n 0 })) × (n < length (reads m k))) ⊎ ((next k taken ≡ Ends (outcome m k)) × (n ≡ length (reads m k)))
    next_cases = dite (dec_lt n (length (reads m k)))
        (λ (l : n < length (reads m k)). inl (ap (next k) prefix ∙ law.reads_next k n inside l, l))
        (λ (l : n < length (reads m k) → ⊥). let e : n ≡ length (reads m k) = omega arith in inr (ap (next k) prefix ∙ ap (λ i. next k (firsts m k i)) e ∙ law.ends_with k inside, e))

    pub reads_if : (j : PieceNo) → next k taken ≡ Read j → (j.0 ≡ get_or (reads m k) n 0) × (n < length (reads m k))
    reads_if j e = ⊎_elim (λ r. (read_is j (record { 0 = get_or (reads m k) n 0 }) (sym e ∙ r.0), r.1)) (λ r. absurd (read_is_no_end j (outcome m k) (sym e ∙ r.0))) next_cases

    pub ends_if : (o : O) → next k taken ≡ Ends o → o ≡ outcome m k
    ends_if o e = ⊎_elim (λ r. absurd (read_is_no_end (record { 0 = get_or (reads m k) n 0 }) o (sym r.0 ∙ e))) (λ r. end_is o (outcome m k) (sym e ∙ r.0)) next_cases

module _ {T O : Type 0} (m : Meant T O) (s : List (PieceState O)) (k : ℕ) (taken : List (ℕ × O)) (mark : Bool) (t : IsSoundTask m s k taken mark) where
  -- it takes one read more
  pub takes_more : t.count < length (reads m k) → IsSettledAt s (get_or (reads m k) t.count 0)
      → IsSoundTask m s k (taken ++ (get_or (reads m k) t.count 0, outcome m (get_or (reads m k) t.count 0)) ∷ []) true
  takes_more l e = record {
    count = suc t.count;
    within = omega arith;
    prefix = front_more m k taken t.count t.within t.prefix l;
    settled = λ i h. dite (ℕ_discrete i t.count) (λ (q : i ≡ t.count). subst (λ (z : ℕ). IsSettledAt s (get_or (reads m k) z 0)) (sym q) e) (λ (q : i ≡ t.count → ⊥). t.settled i (omega arith));
    marked = λ _. sym (lt-ltb 0 (suc t.count) (omega arith));
  }

  -- it has no next read
  pub is_advanced : t.count ≡ length (reads m k) → IsSoundTask m s k taken true
  is_advanced e = record { count = t.count; within = t.within; prefix = t.prefix; settled = t.settled; marked = λ l. absurd (omega arith) }
