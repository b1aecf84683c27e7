-- The loop of `take_outcomes`, one turn further.
use Rattle.std.proofs.Common.{Bool, false, get_or, set, get_or-set_other, ◌≡◌, ◌≢◌, ℕ, zero, suc, ◌+◌, ◌<◌, List, [], ◌∷◌, ◌++◌, length, sym, refl, ap, ◌∙◌, subst, arith}
use mathlib.Core.Option.{some}
use lib.ListN.{get_elem?}
use Rattle.atomic_table.proofs.Lists.{at_longer, at_last}
use Rattle.board_rule.specs.declared.home.Home.{Home}
use Rattle.board_rule.proofs.Maps.{by_same}
use Rattle.settle_board.specs.Homes.{IsHome}

-- the piece k is settled, and its outcome is the k-th of the list
abbrev pub IsOut : {T O : Type 0} → List ℕ → List (Home T O) → List O → ℕ → Type 0
IsOut {O} words slots outcomes k = (get_elem? words k ≡ some 3) × ((o : O) × (get_elem? outcomes k ≡ some o) × IsHome slots k o)

module _ {T O : Type 0} (words : List ℕ) (slots : List (Home T O)) where
  pub one_more : (outcomes : List O) (o : O) (n : ℕ) → ((k : ℕ) → k < n → IsOut words slots outcomes k) → length outcomes ≡ n → get_elem? words n ≡ some 3 → IsHome slots n o → (k : ℕ) → k < n + 1 → IsOut words slots (outcomes ++ o ∷ []) k
  one_more outcomes o n all count word home k l = by_same k n
      (λ (e : k ≡ n). subst (λ (z : ℕ). IsOut words slots (outcomes ++ o ∷ []) z) (sym e) (word, (o, at_last outcomes o n count, home)))
      (λ (d : k ≢ n). let a = all k (omega arith) in (a.0, (a.1.0, at_longer outcomes (o ∷ []) k a.1.0 a.1.1, a.1.2)))

  pub out_same : (words' : List ℕ) (slots' : List (Home T O)) → words ≡ words' → slots ≡ slots' → (outcomes outcomes' : List O) → outcomes ≡ outcomes' → (k : ℕ) → IsOut words slots outcomes k → IsOut words' slots' outcomes' k
  out_same words' slots' w s outcomes outcomes' e k h = subst (λ (x : List ℕ × List (Home T O) × List O). IsOut x.0 x.1 x.2 k) (λ i. (w i, s i, e i)) h

none_there : (l : List Bool) (i : ℕ) → get_or (set l i false) i false ≡ false
none_there [] i = refl
none_there (x ∷ xs) zero = refl
none_there (x ∷ xs) (suc i) = none_there xs i

-- one more slot is empty
pub emptied : (l l' : List Bool) (n : ℕ) → l' ≡ set l n false → ((k : ℕ) → k < n → get_or l k false ≡ false) → (k : ℕ) → k < n + 1 → get_or l' k false ≡ false
emptied l l' n e all k h = ap (λ z. get_or z k false) e ∙ by_same k n (λ (q : k ≡ n). subst (λ (z : ℕ). get_or (set l n false) z false ≡ false) (sym q) (none_there l n))
    (λ (d : k ≢ n). get_or-set_other l n k false false d ∙ all k (omega arith))
