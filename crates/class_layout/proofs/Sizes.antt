-- The end and the alignment of parts, and when the whole is too large.
use Rattle.std.proofs.Common.{◌≡◌, ℕ, ◌^◌, ◌<◌, ◌≤◌, max, List, [], ◌∷◌, inl, inr, cond, Bool as Test, true, false, Result, Ok, Err, arith, ap, sym, ◌∙◌, refl, subst, lit≤}
use Rattle.std.specs.Prelude.{nat_le}
use Rattle.std.specs.Int.{next_multiple_of, IsPowerOfTwo, ◌∣◌}
use Rattle.std.proofs.lemmas.Bool.{cases_lt}
use Rattle.std.proofs.lemmas.Bool.Decides.{nat_tests}
use Rattle.std.proofs.lemmas.Nat.{pow_below}
use Rattle.class_layout.specs.declared.part.Layout.{Layout}
use Rattle.class_layout.specs.declared.part.Part.{Part}
use Rattle.class_layout.specs.declared.part.TooLarge.{TooLarge}
use Rattle.class_layout.specs.Arrangement.{end_of, last_end, align_of, size_of, layout_of}
use Rattle.class_layout.proofs.Multiples.{next_least, power_divides, power_pos}

-- an end only moves on
pub end_below_last : (end : ℕ) (parts : List Part) → end ≤ last_end end parts
end_below_last end [] = omega arith
end_below_last end (part ∷ parts) =
    let h : end_of end part ≤ last_end (end_of end part) parts = end_below_last (end_of end part) parts in omega arith

-- more than 2 ^ 31 bytes by the end of some part
pub too_large_by :
    (parts : List Part) → 2 ^ 31 < last_end 0 parts → layout_of parts ≡ Err (record {})
too_large_by parts large =
    let more : last_end 0 parts ≤ size_of parts = omega arith in
    let test : nat_le (size_of parts) (2 ^ 31) ≡ false = grind (arith, nat_tests) in
    ap (λ t. cond t (Ok (record { size = size_of parts; align = align_of parts })) (Err (record {}))) test

-- an alignment that is a power of 2 up to 2 ^ 31
pub record IsAlign (align : ℕ) : Type 0 where
  pub power : IsPowerOfTwo align
  pub few : align ≤ 2 ^ 31

pub one_is_align : IsAlign 1
one_is_align = record { power = (0, refl); few = lit≤ tt }

pub max_is_align : (a b : ℕ) → IsAlign a → IsAlign b → IsAlign (max a b)
max_is_align a b first second =
    elim (cases_lt a b) [
      | inl less ↦ let e : b ≡ max a b = omega arith in subst IsAlign e second
      | inr more ↦ let e : a ≡ max a b = omega arith in subst IsAlign e first
    ]

-- 2 ^ 31 is a multiple of it
exponent_few : (k : ℕ) → 2 ^ k ≤ 2 ^ 31 → k ≤ 31
exponent_few k few =
    elim (cases_lt 31 k) [
      | inl more ↦ let h = pow_below 31 k more in absurd (omega arith)
      | inr less ↦ less
    ]

-- of two such, the lesser divides the greater
pub align_divides : (a b : ℕ) → IsAlign a → IsAlign b → a ≤ b → a ∣ b
align_divides a b first second below =
    let i : ℕ = first.power.0 in
    let j : ℕ = second.power.0 in
    let e : a ≡ 2 ^ i = first.power.1 in
    let f : b ≡ 2 ^ j = second.power.1 in
    let fewer : i ≤ j =
    elim (cases_lt j i) [
      | inl more ↦ let h = pow_below j i more in absurd (omega arith)
      | inr less ↦ less
    ] in
    subst (λ n. n ∣ b) (sym e) (subst (λ n. 2 ^ i ∣ n) (sym f) (power_divides i j fewer))

pub divides_limit : (align : ℕ) → IsAlign align → align ∣ 2 ^ 31
divides_limit align is =
    let k : ℕ = is.power.0 in
    let e : align ≡ 2 ^ k = is.power.1 in
    subst (λ n. n ∣ 2 ^ 31) (sym e) (power_divides k 31 (exponent_few k (subst (λ n. n ≤ 2 ^ 31) e is.few)))

-- the whole is not too large where no part ends beyond
pub fits_by : (align end : ℕ) → IsAlign align → end ≤ 2 ^ 31 → next_multiple_of (max end 1) align ≤ 2 ^ 31
fits_by align end is few =
    next_least (max end 1) align (2 ^ 31) (power_pos align is.power) (omega arith) (divides_limit align is)

outcome_is :
    (parts : List Part) (size align : ℕ) → nat_le (size_of parts) (2 ^ 31) ≡ true → size_of parts ≡ size → align_of parts ≡ align
    → layout_of parts ≡ Ok (record { size = size; align = align })
outcome_is parts size align test same_size same_align =
    let outcome : Test → ℕ → ℕ → Result Layout TooLarge = λ t n a. cond t (Ok (record { size = n; align = a })) (Err (record {})) in
    let first : layout_of parts ≡ outcome true (size_of parts) (align_of parts) = ap (λ t. outcome t (size_of parts) (align_of parts)) test in
    let second : outcome true (size_of parts) (align_of parts) ≡ outcome true size (align_of parts) =
    ap (λ n. outcome true n (align_of parts)) same_size in
    let third : outcome true size (align_of parts) ≡ outcome true size align = ap (outcome true size) same_align in
    first ∙ second ∙ third

-- the whole, from what is found of its parts
pub fits_as :
    (parts : List Part) (end align positive size : ℕ) → end ≡ last_end 0 parts → align ≡ align_of parts
    → positive ≡ max end 1 → size ≡ next_multiple_of positive align → IsAlign align → end ≤ 2 ^ 31
    → layout_of parts ≡ Ok (record { size = size; align = align })
fits_as parts end align positive size is_end is_align is_positive is_size is few =
    let same : size ≡ size_of parts =
    is_size ∙ ap (λ n. next_multiple_of n align) (is_positive ∙ ap (λ n. max n 1) is_end)
    ∙ ap (next_multiple_of (max (last_end 0 parts) 1)) is_align in
    let small : next_multiple_of (max end 1) align ≤ 2 ^ 31 = fits_by align end is few in
    let by : size ≡ next_multiple_of (max end 1) align = is_size ∙ ap (λ n. next_multiple_of n align) is_positive in
    let fits : size_of parts ≤ 2 ^ 31 = omega arith in
    let test : nat_le (size_of parts) (2 ^ 31) ≡ true = grind (arith, nat_tests) in
    outcome_is parts size align test (sym same) (sym is_align)
