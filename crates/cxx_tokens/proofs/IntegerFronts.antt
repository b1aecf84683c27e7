-- The integer at the front of a text is whole, and no longer front is one.
use Rattle.std.proofs.Common.{◌≡◌, ℕ, zero, suc, ◌+◌, ◌<◌, ◌≤◌, Bool, true, false, ◌&&◌, ◌||◌, cond, eqb, [], ◌∷◌, length, take, drop, codes, refl, sym, ap, subst, ◌∙◌, arith, true≢false}
use Rattle.std.proofs.lemmas.Bool.{and_parts, eqb-true}
use Rattle.std.proofs.lemmas.Bool.Decides.{nat_tests}
use Rattle.std.proofs.lemmas.List.{length-take-le}
use Rattle.std.specs.Char.{is_ascii_digit}
use Rattle.cxx_tokens.specs.Characters.{Characters, begins_with, first_is, is_digit_in}
use Rattle.cxx_tokens.specs.Literals.{base_of, digits_len, has_prefix, integer_at, prefix_len_of, radix, suffix_of}
use Rattle.cxx_tokens.specs.Munch.{is_integer, is_number}
use Rattle.cxx_tokens.specs.declared.integer.Base.{Base}
use Rattle.cxx_tokens.specs.declared.integer.Base.TheVariants.{Binary, Octal, Decimal, Hexadecimal}
use Rattle.cxx_tokens.proofs.NumberFronts.{len_alone, no_digits_len, no_number_at, number_len, number_no_longer, number_whole, number_within}

digits_within : (base : ℕ) (text : Characters) → digits_len base text ≤ length text
digits_within base [] = omega arith
digits_within base (c ∷ []) = by (is_digit_in base c)
  where
    by : (b : Bool) → cond b 1 0 ≤ 1
    by true = omega arith
    by false = omega arith
digits_within base (c ∷ d ∷ text) = by (is_digit_in base c) (has_prefix (codes "'") base (d ∷ text)) (digits_within base (d ∷ text)) (digits_within base text)
  where
    by : (a b : Bool) → digits_len base (d ∷ text) ≤ length (d ∷ text) → digits_len base text ≤ length text
        → cond a (cond b (2 + digits_len base text) (1 + digits_len base (d ∷ text))) 0 ≤ length (c ∷ d ∷ text)
    by true true one two = omega (arith, two)
    by true false one two = omega (arith, one)
    by false b one two = omega arith

abbrev len_by : Characters → Base → ℕ
len_by text base = prefix_len_of base + number_len (radix base) (drop (prefix_len_of base) text)

len_is : (text : Characters) (base : Base) → base_of text ≡ base → (integer_at text).length ≡ len_by text base
len_is text base e =
    let digits = drop (prefix_len_of (base_of text)) text in
    let n = digits_len (radix (base_of text)) digits in
    let taken : length (take n digits) ≡ n = length-take-le n digits (digits_within (radix (base_of text)) digits) in
    let parts : (integer_at text).length ≡ len_by text (base_of text) = omega (arith, taken) in
    parts ∙ ap (len_by text) e

-- so many characters are an integer, and no longer front is one
pub record IsWhole (text : Characters) (n : ℕ) : Type 0 where
  pub within : n ≤ length text
  pub whole : is_integer (take n text) ≡ true
  pub longer : (m : ℕ) → n < m → m ≤ length text → is_integer (take m text) ≡ false

prefixed : (base : ℕ) → base ≤ 16 → (c d : ℕ) (text : Characters) (n : ℕ) → ((front : Characters) → is_integer (c ∷ d ∷ front) ≡ is_number base front)
    → first_is (is_digit_in base) text ≡ true → n ≡ 2 + number_len base text
    → IsWhole (c ∷ d ∷ text) n
prefixed base small c d text n is digit long =
    let few = number_within base text (digits_within base text) in
    record {
      within = omega (arith, few, two);
      whole = ap (λ n. is_integer (take n (c ∷ d ∷ text))) two ∙ is (take (number_len base text) text) ∙ number_whole base text digit;
      longer = longer;
    }
  where
    two : n ≡ suc (suc (number_len base text))
    two = long ∙ omega arith

    longer : (m : ℕ) → n < m → m ≤ length (c ∷ d ∷ text) → is_integer (take m (c ∷ d ∷ text)) ≡ false
    longer zero less within = absurd (omega (arith, less))
    longer (suc zero) less within = absurd (omega (arith, less, two))
    longer (suc (suc m)) less within =
        is (take m text) ∙ number_no_longer base small text m (omega (arith, less, two)) (omega (arith, within))

plain : (base : ℕ) → base ≤ 16 → (c : ℕ) (text : Characters) (n : ℕ) → ((k : ℕ) → is_integer (c ∷ take k text) ≡ is_number base (c ∷ take k text))
    → is_digit_in base c ≡ true → n ≡ number_len base (c ∷ text) → IsWhole (c ∷ text) n
plain base small c text n is digit long =
    let few = number_within base (c ∷ text) (digits_within base (c ∷ text)) in
    record {
      within = omega (arith, few, long);
      whole = ap (λ n. is_integer (take n (c ∷ text))) long ∙ some (number_len base (c ∷ text)) (number_whole base (c ∷ text) digit);
      longer = longer;
    }
  where
    some : (k : ℕ) → is_number base (take k (c ∷ text)) ≡ true → is_integer (take k (c ∷ text)) ≡ true
    some zero h = absurd (true≢false (sym h))
    some (suc k) h = is k ∙ h

    longer : (m : ℕ) → n < m → m ≤ length (c ∷ text) → is_integer (take m (c ∷ text)) ≡ false
    longer zero less within = absurd (omega (arith, less))
    longer (suc m) less within = is m ∙ number_no_longer base small (c ∷ text) (suc m) (omega (arith, less, long)) within

-- ---- by the prefix

hexadecimal_whole : (c : ℕ) (rest : Characters) (n : ℕ) → has_prefix (codes "0x") 16 (c ∷ rest) ≡ true → n ≡ len_by (c ∷ rest) Hexadecimal → IsWhole (c ∷ rest) n
hexadecimal_whole c [] n h long =
    let letters = and_parts (begins_with (codes "0x") (c ∷ [])) _ h in
    absurd (true≢false (sym ((and_parts (eqb c 48) false letters.0).1)))
hexadecimal_whole c (d ∷ text) n h long =
    let letters = and_parts (begins_with (codes "0x") (c ∷ d ∷ text)) (first_is (is_digit_in 16) text) h in
    let zero_first = and_parts (eqb c 48) (eqb d 120 && true) letters.0 in
    let x = and_parts (eqb d 120) true zero_first.1 in
    prefixed 16 (omega arith) c d text n (λ front. rw (zero_first.0, x.0) refl) letters.1 long

binary_whole : (c : ℕ) (rest : Characters) (n : ℕ) → has_prefix (codes "0b") 2 (c ∷ rest) ≡ true → n ≡ len_by (c ∷ rest) Binary → IsWhole (c ∷ rest) n
binary_whole c [] n h long =
    let letters = and_parts (begins_with (codes "0b") (c ∷ [])) _ h in
    absurd (true≢false (sym ((and_parts (eqb c 48) false letters.0).1)))
binary_whole c (d ∷ text) n h long =
    let letters = and_parts (begins_with (codes "0b") (c ∷ d ∷ text)) (first_is (is_digit_in 2) text) h in
    let zero_first = and_parts (eqb c 48) (eqb d 98 && true) letters.0 in
    let b = and_parts (eqb d 98) true zero_first.1 in
    let x : eqb d 120 ≡ false = ap (λ d. eqb d 120) (eqb-true d 98 b.0) in
    prefixed 2 (omega arith) c d text n (λ front. rw (zero_first.0, x, b.0) refl) letters.1 long

-- a letter of a prefix
abbrev is_prefix_letter : ℕ → Bool
is_prefix_letter c = eqb c 120 || eqb c 98

octal_is : (c : ℕ) (text : Characters) → eqb c 48 ≡ true → first_is is_prefix_letter text ≡ false → is_integer (c ∷ text) ≡ is_number 8 (c ∷ text)
octal_is c [] e h = rw e refl
octal_is c (d ∷ text) e h = by (eqb d 120) refl (eqb d 98) refl h
  where
    by : (a : Bool) → eqb d 120 ≡ a → (b : Bool) → eqb d 98 ≡ b → (a || b) ≡ false → is_integer (c ∷ d ∷ text) ≡ is_number 8 (c ∷ d ∷ text)
    by true f b g h = absurd (true≢false h)
    by false f true g h = absurd (true≢false h)
    by false f false g h = rw (e, f, g) refl

first_of_take : (p : ℕ → Bool) (k : ℕ) (text : Characters) → first_is p text ≡ false → first_is p (take k text) ≡ false
first_of_take p zero text h = refl
first_of_take p (suc k) [] h = refl
first_of_take p (suc k) (c ∷ text) h = h

-- A letter of a prefix with no digit behind it is none of the number, which is a zero then: no other front is an integer.
zero_alone : (c : ℕ) (rest : Characters) → eqb c 48 ≡ true → first_is is_prefix_letter rest ≡ true → has_prefix (codes "0x") 16 (c ∷ rest) ≡ false
    → has_prefix (codes "0b") 2 (c ∷ rest) ≡ false → IsWhole (c ∷ rest) (number_len 8 (c ∷ rest))
zero_alone c [] is_zero letter x b = absurd (true≢false (sym letter))
zero_alone c (d ∷ text) is_zero letter x b = by (eqb d 120) refl (eqb d 98) refl letter
  where
    one : (e : ℕ) → d ≡ e → is_digit_in 8 e ≡ false → has_prefix (codes "'") 8 (e ∷ text) ≡ false → (suffix_of (e ∷ text)).length ≡ 0
        → number_len 8 (c ∷ d ∷ text) ≡ 1
    one e same other quote none =
        let digit : is_digit_in 8 c ≡ true = ap (is_digit_in 8) (eqb-true c 48 is_zero) in
        ap (λ e. number_len 8 (c ∷ e ∷ text)) same ∙ len_alone 8 c (e ∷ text) digit quote ∙ ap suc (no_digits_len 8 e text other ∙ none)

    alone : number_len 8 (c ∷ d ∷ text) ≡ 1 → ((k : ℕ) → is_integer (c ∷ d ∷ take k text) ≡ false) → IsWhole (c ∷ d ∷ text) (number_len 8 (c ∷ d ∷ text))
    alone long none =
        record {
          within = omega (arith, long);
          whole = ap (λ n. is_integer (take n (c ∷ d ∷ text))) long ∙ rw is_zero (ap (is_digit_in 8) (eqb-true c 48 is_zero));
          longer = longer;
        }
      where
        longer : (m : ℕ) → number_len 8 (c ∷ d ∷ text) < m → m ≤ length (c ∷ d ∷ text) → is_integer (take m (c ∷ d ∷ text)) ≡ false
        longer zero less within = absurd (omega (arith, less))
        longer (suc zero) less within = absurd (omega (arith, less, long))
        longer (suc (suc k)) less within = none k

    by : (a : Bool) → eqb d 120 ≡ a → (e : Bool) → eqb d 98 ≡ e → (a || e) ≡ true → IsWhole (c ∷ d ∷ text) (number_len 8 (c ∷ d ∷ text))
    by true f e g h =
        let none : first_is (is_digit_in 16) text ≡ false = sym (rw (is_zero, f) refl) ∙ x in
        alone (one 120 (eqb-true d 120 f) refl refl refl) (λ k. rw (is_zero, f) (no_number_at 16 text k none))
    by false f true g h =
        let none : first_is (is_digit_in 2) text ≡ false = sym (rw (is_zero, g) refl) ∙ b in
        alone (one 98 (eqb-true d 98 g) refl refl refl) (λ k. rw (is_zero, f, g) (no_number_at 2 text k none))
    by false f false g h = absurd (true≢false (sym h))

pub integer_whole : (c : ℕ) (rest : Characters) → is_ascii_digit c ≡ true → IsWhole (c ∷ rest) (integer_at (c ∷ rest)).length
integer_whole c rest digit =
    by (has_prefix (codes "0x") 16 (c ∷ rest)) refl (has_prefix (codes "0b") 2 (c ∷ rest)) refl (eqb c 48) refl (first_is is_prefix_letter rest) refl
  where
    by : (x : Bool) → has_prefix (codes "0x") 16 (c ∷ rest) ≡ x → (b : Bool) → has_prefix (codes "0b") 2 (c ∷ rest) ≡ b → (z : Bool) → eqb c 48 ≡ z
        → (l : Bool) → first_is is_prefix_letter rest ≡ l → IsWhole (c ∷ rest) (integer_at (c ∷ rest)).length
    by true e b f z g l letter = hexadecimal_whole c rest (integer_at (c ∷ rest)).length e (len_is (c ∷ rest) Hexadecimal (rw e refl))
    by false e true f z g l letter = binary_whole c rest (integer_at (c ∷ rest)).length f (len_is (c ∷ rest) Binary (rw (e, f) refl))
    by false e false f true g true letter =
        let long : (integer_at (c ∷ rest)).length ≡ number_len 8 (c ∷ rest) = len_is (c ∷ rest) Octal (rw (e, f, g) refl) ∙ omega arith in
        subst (IsWhole (c ∷ rest)) (sym long) (zero_alone c rest g letter e f)
    by false e false f true g false letter =
        let long : (integer_at (c ∷ rest)).length ≡ number_len 8 (c ∷ rest) = len_is (c ∷ rest) Octal (rw (e, f, g) refl) ∙ omega arith in
        let octal : is_digit_in 8 c ≡ true = ap (is_digit_in 8) (eqb-true c 48 g) in
        plain 8 (omega arith) c rest (integer_at (c ∷ rest)).length (λ k. octal_is c (take k rest) g (first_of_take is_prefix_letter k rest letter)) octal long
    by false e false f false g l letter =
        let long : (integer_at (c ∷ rest)).length ≡ number_len 10 (c ∷ rest) = len_is (c ∷ rest) Decimal (rw (e, f, g) refl) ∙ omega arith in
        let decimal : is_digit_in 10 c ≡ true = grind (arith, nat_tests) in
        plain 10 (omega arith) c rest (integer_at (c ∷ rest)).length (λ k. rw g refl) decimal long
