-- A list with one place written.
use Rattle.std.proofs.Common.{◌≡◌, ◌≢◌, ℕ, zero, suc, List, [], ◌∷◌, slice_get, slice_set, Some, refl, ap}

module _ {X : Type 0} where
  pub get_set_same : (xs : List X) (k : ℕ) (x y : X) → slice_get xs k ≡ Some x → slice_get (slice_set xs k y) k ≡ Some y
  get_set_same [] k x y e = cc
  get_set_same (z ∷ zs) zero x y e = refl
  get_set_same (z ∷ zs) (suc k) x y e = get_set_same zs k x y e

  pub get_set_other : (xs : List X) (k j : ℕ) (y : X) → j ≢ k → slice_get (slice_set xs k y) j ≡ slice_get xs j
  get_set_other [] k j y n = refl
  get_set_other (z ∷ zs) zero zero y n = absurd (n refl)
  get_set_other (z ∷ zs) zero (suc j) y n = refl
  get_set_other (z ∷ zs) (suc k) zero y n = refl
  get_set_other (z ∷ zs) (suc k) (suc j) y n = get_set_other zs k j y (λ e. n (ap suc e))
