-- Integer literals.
use Rattle.std.proofs.Common.{◌≡◌, ◌==◌, ℕ, zero, suc, eqb, subst, ◌+◌, ◌^◌, ◌<◌, ◌≤◌, min, length, arith, Bool, true, false, [], ◌∷◌, take, drop, refl, codes, true≢false, sym, ap, ◌∙◌}
use Rattle.std.proofs.lemmas.List.{length-take-le}
use Rattle.std.proofs.lemmas.Bool.Decides.{Decides-eqb, nat_tests}
use Rattle.std.specs.Char.{is_ascii_digit}
use Rattle.cxx_tokens.specs.Characters.{Characters, first_is, is_digit_in, value_in}
use Rattle.cxx_tokens.specs.Literals.{Integer, Suffix, base_of, digits_len, has_prefix, integer_at, integer_by, is_decimal, prefix_len_of, radix, suffix_of, zero_digit}
use Rattle.cxx_tokens.specs.Cuts.{capped}
use Rattle.cxx_tokens.specs.declared.integer.Base.{Base}
use Rattle.cxx_tokens.specs.declared.integer.Base.TheVariants.{Binary, Octal, Decimal, Hexadecimal}

-- what begins with no 0 is decimal
pub decimal_base : (text : Characters) → first_is (λ c. c == zero_digit) text ≡ false → Decimal ≡ base_of text
decimal_base [] h = refl
decimal_base (c ∷ text) h = rw h refl

-- a digit, a single quote, and more digits
pub digit_and_quote : (base c : ℕ) (text : Characters) → is_digit_in base c ≡ true → has_prefix (codes "'") base text ≡ true
    → digits_len base (c ∷ text) ≡ 2 + digits_len base (drop 1 text)
digit_and_quote base c [] digit quoted = absurd (true≢false (sym quoted))
digit_and_quote base c (d ∷ text) digit quoted = rw (digit, quoted) refl

-- a digit, and perhaps more
pub digit_alone : (base c : ℕ) (text : Characters) → is_digit_in base c ≡ true → has_prefix (codes "'") base text ≡ false
    → digits_len base (c ∷ text) ≡ 1 + digits_len base text
digit_alone base c [] digit quoted = rw digit refl
digit_alone base c (d ∷ text) digit quoted = rw (digit, quoted) refl

pub some_behind : (base : ℕ) (text : Characters) → has_prefix (codes "'") base text ≡ true → 0 < length text
some_behind base [] quoted = absurd (true≢false (sym quoted))
some_behind base (d ∷ text) quoted = omega arith

pub short_prefix : (base : Base) → prefix_len_of base ≤ 2
short_prefix Binary = omega arith
short_prefix Octal = omega arith
short_prefix Decimal = omega arith
short_prefix Hexadecimal = omega arith

-- the parts of an integer make the whole
pub integer_is : (text digits : Characters) (base : Base) (n r len value : ℕ) (decimal : Bool) (suffix : Suffix)
    → base ≡ base_of text → digits ≡ drop (prefix_len_of base) text → r ≡ radix base → n ≡ digits_len r digits → n ≤ length digits
    → suffix ≡ suffix_of (drop n digits) → value ≡ min (value_in r (take n digits)) (2 ^ 64) → decimal ≡ is_decimal base
    → len ≡ prefix_len_of base + n + suffix.length
    → record { length = len; decimal = decimal; unsigned = suffix.unsigned; longs = suffix.longs; value = value } ≡ capped (integer_at text)
integer_is text digits base n r len value decimal suffix is_base is_digits is_radix is_length within is_suffix is_value decides is_len =
    let e : length (take n digits) ≡ n = length-take-le n digits within in
    let parts : record { length = len; decimal = decimal; unsigned = suffix.unsigned; longs = suffix.longs; value = value } ≡ capped (integer_by base (take n digits) suffix) =
    rw (is_len, decides, is_value, is_radix, e) refl in
    let whole : integer_by base (take n digits) suffix ≡ integer_at text = rw (is_suffix, is_length, is_radix, is_digits, is_base) refl in
    parts ∙ ap capped whole

-- ---- a number has a character at least

some_digits : (base c : ℕ) (text : Characters) → is_digit_in base c ≡ true → 1 ≤ digits_len base (c ∷ text)
some_digits base c text digit = by (has_prefix (codes "'") base text) refl
  where
    by : (b : Bool) → has_prefix (codes "'") base text ≡ b → 1 ≤ digits_len base (c ∷ text)
    by true e = let n = digit_and_quote base c text digit e in omega (arith, n)
    by false e = let n = digit_alone base c text digit e in omega (arith, n)

some_taken : (n c : ℕ) (text : Characters) → 1 ≤ n → 1 ≤ length (take n (c ∷ text))
some_taken zero c text h = absurd (omega (arith, h))
some_taken (suc n) c text h = omega arith

pub decimal_digit : (c : ℕ) → is_ascii_digit c ≡ true → is_digit_in 10 c ≡ true
decimal_digit c h = grind (arith, nat_tests)

pub some_integer : (c : ℕ) (text : Characters) → is_ascii_digit c ≡ true → 0 < (integer_at (c ∷ text)).length
some_integer c text digit =
    by (has_prefix (codes "0x") 16 (c ∷ text)) refl (has_prefix (codes "0b") 2 (c ∷ text)) refl (eqb c 48) refl
  where
    whole : Characters
    whole = c ∷ text

    long : (base : Base) → base_of (c ∷ text) ≡ base → 1 ≤ prefix_len_of base + length (take (digits_len (radix base) (drop (prefix_len_of base) (c ∷ text))) (drop (prefix_len_of base) (c ∷ text)))
        → 0 < (integer_at (c ∷ text)).length
    long base e h =
        let found = integer_by base (take (digits_len (radix base) (drop (prefix_len_of base) (c ∷ text))) (drop (prefix_len_of base) (c ∷ text)))
        (suffix_of (drop (digits_len (radix base) (drop (prefix_len_of base) (c ∷ text))) (drop (prefix_len_of base) (c ∷ text)))) in
        let same : found ≡ integer_at (c ∷ text) = rw (sym e) refl in
        let n : 0 < found.length = omega (arith, h) in
        subst (λ (i : Integer). 0 < i.length) same n

    by : (a : Bool) → has_prefix (codes "0x") 16 (c ∷ text) ≡ a → (b : Bool) → has_prefix (codes "0b") 2 (c ∷ text) ≡ b → (z : Bool) → eqb c 48 ≡ z
        → 0 < (integer_at (c ∷ text)).length
    by true x b y z w = long Hexadecimal (rw x refl) (omega arith)
    by false x true y z w = long Binary (rw (x, y) refl) (omega arith)
    by false x false y true w =
        let zero_first : c ≡ 48 = (Decides-eqb c 48).0 w in
        let octal : is_digit_in 8 c ≡ true = rw zero_first refl in
        let l = some_taken (digits_len 8 (c ∷ text)) c text (some_digits 8 c text octal) in
        long Octal (rw (x, y, w) refl) (omega (arith, l))
    by false x false y false w = let l = some_taken (digits_len 10 (c ∷ text)) c text (some_digits 10 c text (decimal_digit c digit)) in long Decimal (rw (x, y, w) refl) (omega (arith, l))
