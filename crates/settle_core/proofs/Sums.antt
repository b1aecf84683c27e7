-- Sums of numbers over the pieces.
use Rattle.std.proofs.Common.{◌≡◌, ◌≢◌, ℕ, zero, suc, ◌+◌, ◌*◌, ◌<◌, ◌≤◌, refl, ap, arith}
use mathlib.Core.Logic.{dite}
use native.Mathlib.Decide.{ℕ_discrete}
use Rattle.settle_core.specs.Bound.{sum_below}

pub sum_grows : (f g : ℕ → ℕ) (n : ℕ) → ((j : ℕ) → j < n → f j ≤ g j) → sum_below f n ≤ sum_below g n
sum_grows f g zero h = omega arith
sum_grows f g (suc n) h = let a = h n (omega arith) in let b = sum_grows f g n (λ j l. h j (omega arith)) in omega arith

-- one term grows by at least 1 where d is added, and no other falls
pub sum_grows_at : (f g : ℕ → ℕ) (k d n : ℕ) → k < n → f k + 1 ≤ g k + d → ((j : ℕ) → j < n → j ≢ k → f j ≤ g j) → sum_below f n + 1 ≤ sum_below g n + d
sum_grows_at f g k d zero l here others = absurd (omega arith)
sum_grows_at f g k d (suc n) l here others = dite (ℕ_discrete n k)
    (λ (e : n ≡ k). let a : f n ≡ f k = ap f e in let b : g n ≡ g k = ap g e in
    let c = sum_grows f g n (λ j h. others j (omega arith) (λ q. omega arith)) in omega arith)
    (λ (ne : n ≢ k). let a = others n (omega arith) ne in
    let c = sum_grows_at f g k d n (omega arith) here (λ j h q. others j (omega arith) q) in omega arith)

pub sum_thirds : (f : ℕ → ℕ) (n : ℕ) → sum_below (λ k. 3 + 3 * f k) n ≡ 3 * n + 3 * sum_below f n
sum_thirds f zero = refl
sum_thirds f (suc n) = let h = sum_thirds f n in omega arith
