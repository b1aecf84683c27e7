-- The numbers that digits mean.
use Rattle.std.proofs.Common.{◌≡◌, ℕ, zero, suc, ◌+◌, ◌*◌, ◌^◌, ◌≤◌, min, Bool, true, false, cond, ltb, [], ◌∷◌, take, drop, filter, refl, ap, ◌∙◌, arith}
use Rattle.std.proofs.lemmas.Bool.{ltb-true, ltb-false}
use Rattle.std.proofs.lemmas.Nat.{mul-le}
use Rattle.std.specs.Char.{digit_value}
use Rattle.std.specs.List.{fold}
use Rattle.cxx_tokens.specs.Characters.{Characters, is_digit_in, value_in}
use Rattle.cxx_tokens.proofs.Cut.{nil_is_no_cons}

module _ (f : ℕ → ℕ → ℕ) (p : ℕ → Bool) where
  -- what a character adds
  abbrev with_one : ℕ → ℕ → ℕ
  with_one value c = cond (p c) (f value c) value

  folded_more : (n : ℕ) (text : Characters) (c : ℕ) (rest : Characters) (value : ℕ) → drop n text ≡ c ∷ rest
      → fold f value (filter p (take (suc n) text)) ≡ with_one (fold f value (filter p (take n text))) c
  folded_more zero [] c rest value h = nil_is_no_cons c rest h
  folded_more zero (d ∷ text) c rest value h = let same : d ≡ c = cc h in by (p d) refl ∙ ap (with_one value) same
    where
      by : (b : Bool) → p d ≡ b → fold f value (cond b (d ∷ []) []) ≡ with_one value d
      by true e = rw e refl
      by false e = rw e refl
  folded_more (suc n) [] c rest value h = nil_is_no_cons c rest h
  folded_more (suc n) (d ∷ text) c rest value h = by (p d) (folded_more n text c rest (f value d) h) (folded_more n text c rest value h)
    where
      by : (b : Bool) → fold f (f value d) (filter p (take (suc n) text)) ≡ with_one (fold f (f value d) (filter p (take n text))) c
          → fold f value (filter p (take (suc n) text)) ≡ with_one (fold f value (filter p (take n text))) c
          → fold f value (cond b (d ∷ filter p (take (suc n) text)) (filter p (take (suc n) text)))
          ≡ with_one (fold f value (cond b (d ∷ filter p (take n text)) (filter p (take n text)))) c
      by true taken left = taken
      by false taken left = left

-- the number with one more character
pub value_one_more : (base n : ℕ) (text : Characters) (c : ℕ) (rest : Characters) → drop n text ≡ c ∷ rest
    → value_in base (take (n + 1) text) ≡ cond (is_digit_in base c) (base * value_in base (take n text) + digit_value c) (value_in base (take n text))
value_one_more base n text c rest h =
    let e : n + 1 ≡ suc n = omega arith in
    ap (λ k. value_in base (take k text)) e ∙ folded_more (λ value digit. base * value + digit_value digit) (is_digit_in base) n text c rest 0 h

-- a number that is cut at 2^64 goes on as the number does
pub capped_more : (b v d : ℕ) → 1 ≤ b → min (b * min v (2 ^ 64) + d) (2 ^ 64) ≡ min (b * v + d) (2 ^ 64)
capped_more b v d h = by (ltb v (2 ^ 64)) refl
  where
    by : (small : Bool) → ltb v (2 ^ 64) ≡ small → min (b * min v (2 ^ 64) + d) (2 ^ 64) ≡ min (b * v + d) (2 ^ 64)
    by true e =
        let less = ltb-true v (2 ^ 64) e in
        let same : min v (2 ^ 64) ≡ v = omega (arith, less) in
        ap (λ k. min (b * k + d) (2 ^ 64)) same
    by false e =
        let more = ltb-false v (2 ^ 64) e in
        let same : min v (2 ^ 64) ≡ 2 ^ 64 = omega (arith, more) in
        let great : 1 * v ≤ b * v = mul-le 1 v b v h (omega arith) in
        let beyond : min (b * (2 ^ 64) + d) (2 ^ 64) ≡ 2 ^ 64 = omega (arith, h) in
        ap (λ k. min (b * k + d) (2 ^ 64)) same ∙ beyond ∙ omega (arith, great, more)

-- the capped number with one more character
pub capped_by_digit : (b v c kept new : ℕ) → 2 ≤ b → kept ≡ min v (2 ^ 64)
    → (is_digit_in b c ≡ true → new ≡ min (b * kept + digit_value c) (2 ^ 64)) → (is_digit_in b c ≡ false → new ≡ kept)
    → new ≡ min (cond (is_digit_in b c) (b * v + digit_value c) v) (2 ^ 64)
capped_by_digit b v c kept new small is_kept with_digit without = by (is_digit_in b c) refl
  where
    by : (digit : Bool) → is_digit_in b c ≡ digit → new ≡ min (cond digit (b * v + digit_value c) v) (2 ^ 64)
    by true e = with_digit e ∙ ap (λ k. min (b * k + digit_value c) (2 ^ 64)) is_kept ∙ capped_more b v (digit_value c) (omega (arith, small))
    by false e = without e ∙ is_kept
