-- The least multiple that is not below a number.
use Rattle.std.proofs.Common.{◌≡◌, ℕ, ◌+◌, ◌-◌, ◌*◌, ◌/◌, ◌%◌, ◌^◌, ◌<◌, ◌≤◌, ◌⊎◌, inl, inr, arith, ap, sym, ◌∙◌, subst}
use Rattle.std.specs.Int.{next_multiple_of, IsPowerOfTwo, ◌∣◌}
use Rattle.std.proofs.Math.Nat.{mod_self, mod-eq_of_lt}
use Rattle.std.proofs.lemmas.Bool.{cases_lt}
use Rattle.std.proofs.lemmas.Nat.{pow_pos, pow-add, div-add-mod', mod_below, mod-mul-add, mul-le}
use Rattle.std.proofs.lemmas.Nat.Gcd.{dvd_of_mod-eq-zero, mod-eq-zero_of_dvd}

-- it is the number, or the next multiple of the divisor
pub next_is :
    (n divisor : ℕ) → 0 < divisor
    → ((n % divisor ≡ 0) × (next_multiple_of n divisor ≡ n / divisor * divisor))
    ⊎ ((0 < n % divisor) × (next_multiple_of n divisor ≡ (n / divisor + 1) * divisor))
next_is n divisor some =
    let split = div-add-mod' n divisor in
    let rest = mod_below n divisor some in
    elim (cases_lt 0 (n % divisor)) [
      | inl above ↦
          let same : (divisor - n % divisor) % divisor ≡ divisor - n % divisor = mod-eq_of_lt (omega arith) in
          inr (above, omega arith)
      | inr none ↦
          let zero_rest : n % divisor ≡ 0 = omega arith in
          let whole : divisor - n % divisor ≡ divisor = omega arith in
          let same : (divisor - n % divisor) % divisor ≡ 0 = ap (λ m. m % divisor) whole ∙ mod_self divisor in
          inl (zero_rest, omega arith)
    ]

multiple_divides : (m times divisor : ℕ) → 0 < divisor → m ≡ times * divisor → divisor ∣ m
multiple_divides m times divisor some e =
    let sum : m ≡ times * divisor + 0 = omega arith in
    dvd_of_mod-eq-zero divisor (ap (λ k. k % divisor) sum ∙ mod-mul-add times divisor 0 some)

pub next_divides : (n divisor : ℕ) → 0 < divisor → divisor ∣ next_multiple_of n divisor
next_divides n divisor some =
    elim (next_is n divisor some) [
      | inl even ↦ multiple_divides (next_multiple_of n divisor) (n / divisor) divisor some even.1
      | inr odd ↦ multiple_divides (next_multiple_of n divisor) (n / divisor + 1) divisor some odd.1
    ]

pub next_least : (n divisor multiple : ℕ) → 0 < divisor → n ≤ multiple → divisor ∣ multiple → next_multiple_of n divisor ≤ multiple
next_least n divisor multiple some below divides =
    let even : multiple % divisor ≡ 0 = mod-eq-zero_of_dvd divisor divides in
    let whole = div-add-mod' multiple divisor in
    let split = div-add-mod' n divisor in
    elim (next_is n divisor some) [
      | inl same ↦ omega (arith, same.1)
      | inr next ↦
          elim (cases_lt (n / divisor) (multiple / divisor)) [
            | inl fewer ↦
                let h : (n / divisor + 1) * divisor ≤ multiple / divisor * divisor =
                mul-le (n / divisor + 1) divisor (multiple / divisor) divisor (omega arith) (omega arith) in omega (arith, next.1)
            | inr more ↦
                let h : multiple / divisor * divisor ≤ n / divisor * divisor =
                mul-le (multiple / divisor) divisor (n / divisor) divisor more (omega arith) in absurd (omega (arith, next.0))
          ]
    ]

pub power_divides : (i j : ℕ) → i ≤ j → 2 ^ i ∣ 2 ^ j
power_divides i j few =
    let whole : j - i + i ≡ j = omega arith in
    let e : 2 ^ j ≡ 2 ^ (j - i) * 2 ^ i = ap (λ k. 2 ^ k) (sym whole) ∙ pow-add 2 (j - i) i in
    multiple_divides (2 ^ j) (2 ^ (j - i)) (2 ^ i) (pow_pos i) e

pub power_pos : (n : ℕ) → IsPowerOfTwo n → 0 < n
power_pos n power = subst (λ m. 0 < m) (sym power.1) (pow_pos power.0)
