-- Numbers without prefix, separators and suffix.
use Rattle.std.proofs.Common.{◌≡◌, ◌≢◌, ℕ, ◌+◌, ◌-◌, ◌*◌, ◌<◌, ◌≤◌, Bool, true, false, true≢false, not, ◌&&◌, ◌||◌, cond, eqb, ltb, [], ◌∷◌, length, take, drop, codes, refl, sym, ap, ◌∙◌, arith}
use Rattle.std.proofs.lemmas.Bool.{and_parts, ne_eqb}
use Rattle.std.proofs.lemmas.List.{length-take-le}
use Rattle.std.proofs.lemmas.Bool.Decides.{nat_tests}
use Rattle.std.specs.Char.{digit_value, is_ascii_alphanumeric, is_ascii_digit}
use Rattle.unicode_ident.proofs.IdentLemmas.{is_xid_continue-ascii}
use Rattle.cxx_tokens.specs.Characters.{Characters, continues_identifier, first_is, is_digit_in, value_in}
use Rattle.cxx_tokens.specs.Literals.{Suffix, base_of, digits_len, has_prefix, integer_at, integer_by, is_l, is_u, prefix_len_of, radix, suffix_by, suffix_of, zero_digit}
use Rattle.cxx_tokens.specs.declared.integer.Base.{Base}
use Rattle.cxx_tokens.specs.declared.integer.Base.TheVariants.{Decimal, Octal}
use Rattle.cxx_tokens.proofs.Integers.{decimal_base, decimal_digit, digit_alone}
use Rattle.cxx_tokens.proofs.Values.{value_one_more}
use Rattle.cxx_tokens.proofs.Words.{below_passes}

not_true : (b : Bool) → not b ≡ true → b ≡ false
not_true true h = absurd (true≢false (sym h))
not_true false h = refl

-- what follows neither as a digit, in a suffix nor in a prefix
abbrev ends : ℕ → Bool
ends c = not (is_digit_in 10 c) && (not (is_digit_in 8 c) && (not (is_u c) && (not (is_l c) && (not (eqb c 120) && not (eqb c 98)))))

abbrev others_end : ℕ → Bool
others_end c = (is_ascii_alphanumeric c || eqb c 95) || ends c

module _ (c : ℕ) (small : c < 128) (other : continues_identifier c ≡ false) where
  ended : ends c ≡ true
  ended =
      let plain : (is_ascii_alphanumeric c || eqb c 95) ≡ false = sym (is_xid_continue-ascii c small) ∙ other in
      by (is_ascii_alphanumeric c || eqb c 95) plain (below_passes 128 others_end refl c small)
    where
      by : (b : Bool) → b ≡ false → (b || ends c) ≡ true → ends c ≡ true
      by false e h = h
      by true e h = cc e

  parts : (not (is_digit_in 10 c) ≡ true) × (not (is_digit_in 8 c) && (not (is_u c) && (not (is_l c) && (not (eqb c 120) && not (eqb c 98)))) ≡ true)
  parts = and_parts (not (is_digit_in 10 c)) _ ended

  after_decimal : is_digit_in 10 c ≡ false
  after_decimal = not_true _ parts.0

  more : (not (is_digit_in 8 c) ≡ true) × (not (is_u c) && (not (is_l c) && (not (eqb c 120) && not (eqb c 98))) ≡ true)
  more = and_parts (not (is_digit_in 8 c)) _ parts.1

  after_octal : is_digit_in 8 c ≡ false
  after_octal = not_true _ more.0

  letters : (not (is_u c) ≡ true) × (not (is_l c) && (not (eqb c 120) && not (eqb c 98)) ≡ true)
  letters = and_parts (not (is_u c)) _ more.1

  no_u : is_u c ≡ false
  no_u = not_true _ letters.0

  last : (not (is_l c) ≡ true) × (not (eqb c 120) && not (eqb c 98) ≡ true)
  last = and_parts (not (is_l c)) _ letters.1

  no_l : is_l c ≡ false
  no_l = not_true _ last.0

  prefixes : (not (eqb c 120) ≡ true) × (not (eqb c 98) ≡ true)
  prefixes = and_parts (not (eqb c 120)) _ last.1

  no_x : eqb c 120 ≡ false
  no_x = not_true _ prefixes.0

  no_b : eqb c 98 ≡ false
  no_b = not_true _ prefixes.1

  no_suffix : (text : Characters) → suffix_by 0 0 0 ≡ suffix_of (c ∷ text)
  no_suffix text = rw (no_u, no_l, no_u) refl

no_digits : (base c : ℕ) (text : Characters) → is_digit_in base c ≡ false → digits_len base (c ∷ text) ≡ 0
no_digits base c [] h = rw h refl
no_digits base c (d ∷ text) h = rw h refl

-- an integer by its parts
by_parts : (text digits : Characters) (base : Base) (n r : ℕ) (suffix : Suffix) → base ≡ base_of text → digits ≡ drop (prefix_len_of base) text → r ≡ radix base
    → n ≡ digits_len r digits → suffix ≡ suffix_of (drop n digits) → integer_at text ≡ integer_by base (take n digits) suffix
by_parts text digits base n r suffix is_base is_digits is_radix is_length is_suffix =
    let same : integer_by base (take n digits) suffix ≡ integer_at text = rw (is_suffix, is_length, is_radix, is_digits, is_base) refl in
    sym same

pub decimal_is : (text rest : Characters) (n value next : ℕ) (more : Characters) → first_is (λ c. eqb c zero_digit) text ≡ false → rest ≡ next ∷ more
    → next < 128 → continues_identifier next ≡ false → rest ≡ drop n text → n ≤ length text → n + digits_len 10 rest ≡ digits_len 10 text
    → value ≡ value_in 10 (take n text)
    → integer_at text ≡ record { length = n; decimal = true; unsigned = false; longs = 0; value = value }
decimal_is text rest n value next more first here small other is_rest within same is_value =
    let none : digits_len 10 rest ≡ 0 = ap (digits_len 10) here ∙ no_digits 10 next more (after_decimal next small other) in
    let run : n ≡ digits_len 10 text = omega (arith, same, none) in
    let suffix : suffix_by 0 0 0 ≡ suffix_of (drop n text) = no_suffix next small other more ∙ ap suffix_of (sym here ∙ is_rest) in
    let long = length-take-le n text within in
    let e : 0 + length (take n text) + 0 ≡ n = omega (arith, long) in
    by_parts text text Decimal n 10 (suffix_by 0 0 0) (decimal_base text first) refl refl run suffix
    ∙ ap (λ k. record { length = k; decimal = true; unsigned = false; longs = 0; value = value_in 10 (take n text) }) e
    ∙ ap (λ v. record { length = n; decimal = true; unsigned = false; longs = 0; value = v }) (sym is_value)

pub zero_is : (text behind : Characters) (next : ℕ) (more : Characters) → text ≡ 48 ∷ behind → behind ≡ next ∷ more → next < 128 → continues_identifier next ≡ false → next ≢ 39
    → integer_at text ≡ record { length = 1; decimal = false; unsigned = false; longs = 0; value = 0 }
zero_is text behind next more begins here small other no_separator =
    let whole : text ≡ 48 ∷ next ∷ more = begins ∙ ap (λ (t : Characters). 48 ∷ t) here in
    ap integer_at whole ∙ by_parts (48 ∷ next ∷ more) (48 ∷ next ∷ more) Octal 1 8 (suffix_by 0 0 0) base refl refl run (no_suffix next small other more)
  where
    base : Octal ≡ base_of (48 ∷ next ∷ more)
    base = let x = no_x next small other in let b = no_b next small other in rw (x, b) refl

    run : 1 ≡ digits_len 8 (48 ∷ next ∷ more)
    run =
        let mark : eqb next 39 ≡ false = ne_eqb next 39 no_separator in
        let quoted : has_prefix (codes "'") 8 (next ∷ more) ≡ false = rw mark refl in
        let one = digit_alone 8 48 (next ∷ more) refl quoted in
        let none = no_digits 8 next more (after_octal next small other) in
        omega (arith, one, none)

-- what follows a number
pub ends_at : (text rest : Characters) (n next : ℕ) (more : Characters) → rest ≡ next ∷ more → continues_identifier next ≡ false → rest ≡ drop n text
    → first_is continues_identifier (drop n text) ≡ false
ends_at text rest n next more here other is_rest = ap (first_is continues_identifier) (sym is_rest ∙ here) ∙ other

-- ---- digits

pub least_digit : (c : ℕ) → is_ascii_digit c ≡ true → 48 ≤ c
least_digit c h = grind (arith, nat_tests)

pub greatest_digit : (c : ℕ) → is_ascii_digit c ≡ true → c ≤ 57
greatest_digit c h = grind (arith, nat_tests)

pub digit_is : (c : ℕ) → is_ascii_digit c ≡ true → digit_value c ≡ c - 48
digit_is c h =
    let least : ltb c 48 ≡ false = grind (arith, nat_tests) in
    let most : ltb c 58 ≡ true = grind (arith, nat_tests) in
    rw (least, most) refl

pub unquoted : (base : ℕ) (text : Characters) → first_is (λ d. eqb d 39) text ≡ false → has_prefix (codes "'") base text ≡ false
unquoted base [] h = refl
unquoted base (d ∷ text) h = rw h refl

-- the value with one more digit
pub value_goes_on : (n : ℕ) (text : Characters) (c : ℕ) (rest : Characters) (value new : ℕ) → drop n text ≡ c ∷ rest → is_ascii_digit c ≡ true
    → value ≡ value_in 10 (take n text) → new ≡ 10 * value + digit_value c → new ≡ value_in 10 (take (n + 1) text)
value_goes_on n text c rest value new here digit before now =
    let is : is_digit_in 10 c ≡ true = decimal_digit c digit in
    now ∙ ap (λ v. 10 * v + digit_value c) before
    ∙ sym (value_one_more 10 n text c rest here ∙ ap (λ b. cond b (10 * value_in 10 (take n text) + digit_value c) (value_in 10 (take n text))) is)
