-- A repetition beside a loop that counts its turns up.
use Rattle.std.proofs.Common.{◌≡◌, ℕ, zero, suc, ◌+◌, ◌-◌, ◌<◌, ◌≤◌, refl, ap, ◌∙◌, arith}
use Rattle.cxx_reading.specs.Reading.{End, Tree, No, Nothing, TooDeep, Rule, turns, go_on}

-- Before a turn of the loop the repetition has its other turns left, from what was read so far.
module _ {A : Type 0} (p : A → Rule A) (end : End A) (n turn : ℕ) (x : A) (i : ℕ) (rest : end ≡ turns (n - turn) p x i) where
  opened : turn < n → end ≡ go_on (turns (n - (turn + 1)) p) x i (p x i)
  unfolding turns
  opened below = let e : n - turn ≡ suc (n - (turn + 1)) = omega arith in rest ∙ ap (λ m. turns m p x i) e

  -- the part reads
  pub goes_on : turn < n → (y : A) (j : ℕ) → p x i ≡ Tree y j → end ≡ turns (n - (turn + 1)) p y j
  goes_on below y j e = opened below ∙ ap (go_on (turns (n - (turn + 1)) p) x i) e

  -- nothing more begins
  pub stops : turn < n → p x i ≡ No Nothing → end ≡ Tree x i
  stops below e = opened below ∙ ap (go_on (turns (n - (turn + 1)) p) x i) e

  -- the part is too deep
  pub fails : turn < n → p x i ≡ No TooDeep → end ≡ No TooDeep
  fails below e = opened below ∙ ap (go_on (turns (n - (turn + 1)) p) x i) e

  -- no turn is left
  pub is_over : n ≤ turn → end ≡ Tree x i
  unfolding turns
  is_over over = let e : n - turn ≡ 0 = omega arith in rest ∙ ap (λ m. turns m p x i) e

-- ---- repetitions whose part is known at their beginning

module _ {A : Type 0} (p : A → Rule A) (x : A) (i : ℕ) where
  pub turns_none : (n : ℕ) → p x i ≡ No Nothing → turns n p x i ≡ Tree x i
  unfolding turns
  turns_none zero e = refl
  turns_none (suc n) e = ap (go_on (turns n p) x i) e

  pub turns_deep : (n : ℕ) → p x i ≡ No TooDeep → turns (suc n) p x i ≡ No TooDeep
  unfolding turns
  turns_deep n e = ap (go_on (turns n p) x i) e

  pub turns_more : (n : ℕ) (y : A) (j : ℕ) → p x i ≡ Tree y j → turns (suc n) p x i ≡ turns n p y j
  unfolding turns
  turns_more n y j e = ap (go_on (turns n p) x i) e

-- for `using` on the function of a loop: with its invariant it needs no answer
pub ruleset loops = (goes_on, stops, fails, is_over)
