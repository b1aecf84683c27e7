-- The integers that are found are whole, and no longer front is one.
use Rattle.std.proofs.Common.{◌≡◌, ℕ, zero, suc, ◌+◌, ◌<◌, ◌≤◌, Bool, true, false, ◌&&◌, ◌||◌, not, cond, eqb, ltb, [], ◌∷◌, ◌++◌, length, take, drop, codes, refl, sym, ap, subst, ◌∙◌, arith, true≢false}
use Rattle.std.proofs.Math.Bool.{and-false}
use Rattle.std.proofs.Math.Seq.{take-add}
use Rattle.std.proofs.lemmas.Bool.{and_parts, false_from_ne_true, or_right, and_from, eqb-true, leb-true, ltb-true}
use Rattle.std.proofs.lemmas.List.{length-drop, length-take-le}
use Rattle.std.specs.Char.{digit_value}
use Rattle.std.specs.Prelude.{nat_le}
use Rattle.cxx_tokens.specs.Characters.{Characters, begins_with, first_is, is_digit_in}
use Rattle.cxx_tokens.specs.Gaps.{is_empty}
use Rattle.cxx_tokens.specs.Literals.{digits_len, has_prefix, is_l, is_u, longs_len, suffix_of, unsigned_len}
use Rattle.cxx_tokens.specs.Munch.{is_listed, is_number, suffixes}
use Rattle.cxx_tokens.proofs.Fronts.{listed_passes}
use Rattle.cxx_tokens.proofs.Integers.{digit_and_quote, digit_alone}

-- ---- suffixes

unsigned_listed : (p : Characters → Bool) → p [] ≡ true → p (117 ∷ []) ≡ true → p (85 ∷ []) ≡ true → (text : Characters) → p (take (unsigned_len text) text) ≡ true
unsigned_listed p none lower upper [] = none
unsigned_listed p none lower upper (c ∷ text) = by (eqb c 117) refl (eqb c 85) refl
  where
    by : (a : Bool) → eqb c 117 ≡ a → (b : Bool) → eqb c 85 ≡ b → p (take (cond (a || b) 1 0) (c ∷ text)) ≡ true
    by true e b f = ap (λ d. p (d ∷ [])) (eqb-true c 117 e) ∙ lower
    by false e true f = ap (λ d. p (d ∷ [])) (eqb-true c 85 f) ∙ upper
    by false e false f = none

longs_listed : (P : Characters → Type 0) → P [] → P (108 ∷ []) → P (76 ∷ []) → P (108 ∷ 108 ∷ []) → P (76 ∷ 76 ∷ []) → (text : Characters)
    → P (take (longs_len text) text)
longs_listed P none l L ll LL [] = none
longs_listed P none l L ll LL (c ∷ text) = by (eqb c 108) refl (eqb c 76) refl
  where
    twice : (d : ℕ) (text : Characters) → P (d ∷ []) → P (d ∷ d ∷ []) → P (take (cond (first_is (λ e. eqb e d) text) 2 1) (d ∷ text))
    twice d [] one two = one
    twice d (e ∷ text) one two = same (eqb e d) refl
      where
        same : (b : Bool) → eqb e d ≡ b → P (take (cond b 2 1) (d ∷ e ∷ text))
        same true f = subst (λ e. P (d ∷ e ∷ [])) (sym (eqb-true e d f)) two
        same false f = one

    by : (a : Bool) → eqb c 108 ≡ a → (b : Bool) → eqb c 76 ≡ b → P (take (cond (a || b) (cond (first_is (λ d. eqb d c) text) 2 1) 0) (c ∷ text))
    by true e b f = subst (λ d. P (take (cond (first_is (λ e. eqb e d) text) 2 1) (d ∷ text))) (sym (eqb-true c 108 e)) (twice 108 text l ll)
    by false e true f = subst (λ d. P (take (cond (first_is (λ e. eqb e d) text) 2 1) (d ∷ text))) (sym (eqb-true c 76 f)) (twice 76 text L LL)
    by false e false f = none

abbrev suffix_len : Characters → ℕ
suffix_len text = (suffix_of text).length

-- `u` first
unsigned_first : (u : ℕ) (text : Characters) → is_u u ≡ true
    → is_listed suffixes (u ∷ []) ≡ true → is_listed suffixes (u ∷ 108 ∷ []) ≡ true → is_listed suffixes (u ∷ 76 ∷ []) ≡ true
    → is_listed suffixes (u ∷ 108 ∷ 108 ∷ []) ≡ true → is_listed suffixes (u ∷ 76 ∷ 76 ∷ []) ≡ true
    → is_listed suffixes (take (suffix_len (u ∷ text)) (u ∷ text)) ≡ true
unsigned_first u text is none l L ll LL =
    let long : suffix_len (u ∷ text) ≡ suc (longs_len text) = rw is (omega arith) in
    ap (λ n. is_listed suffixes (take n (u ∷ text))) long
    ∙ longs_listed (λ longs. is_listed suffixes (u ∷ longs) ≡ true) none l L ll LL text

-- no `u` first
longs_first : (c : ℕ) (text : Characters) → is_u c ≡ false → is_listed suffixes (take (suffix_len (c ∷ text)) (c ∷ text)) ≡ true
longs_first c text is =
    let n = longs_len (c ∷ text) in
    let m = unsigned_len (drop n (c ∷ text)) in
    let long : suffix_len (c ∷ text) ≡ n + m = rw is (omega arith) in
    let all = longs_listed (λ longs. (rest : Characters) → is_listed suffixes (longs ++ take (unsigned_len rest) rest) ≡ true)
    (unsigned_listed (λ u. is_listed suffixes u) refl refl refl)
    (unsigned_listed (λ u. is_listed suffixes (108 ∷ u)) refl refl refl)
    (unsigned_listed (λ u. is_listed suffixes (76 ∷ u)) refl refl refl)
    (unsigned_listed (λ u. is_listed suffixes (108 ∷ 108 ∷ u)) refl refl refl)
    (unsigned_listed (λ u. is_listed suffixes (76 ∷ 76 ∷ u)) refl refl refl) (c ∷ text) (drop n (c ∷ text)) in
    ap (λ k. is_listed suffixes (take k (c ∷ text))) long ∙ ap (is_listed suffixes) (take-add n m (c ∷ text)) ∙ all

suffix_whole : (text : Characters) → is_listed suffixes (take (suffix_len text) text) ≡ true
suffix_whole [] = refl
suffix_whole (c ∷ text) = by (eqb c 117) refl (eqb c 85) refl
  where
    by : (a : Bool) → eqb c 117 ≡ a → (b : Bool) → eqb c 85 ≡ b → is_listed suffixes (take (suffix_len (c ∷ text)) (c ∷ text)) ≡ true
    by true e b f =
        subst (λ d. is_listed suffixes (take (suffix_len (d ∷ text)) (d ∷ text)) ≡ true) (sym (eqb-true c 117 e))
        (unsigned_first 117 text refl refl refl refl refl refl)
    by false e true f =
        subst (λ d. is_listed suffixes (take (suffix_len (d ∷ text)) (d ∷ text)) ≡ true) (sym (eqb-true c 85 f))
        (unsigned_first 85 text refl refl refl refl refl refl)
    by false e false f = longs_first c text (rw (e, f) refl)

unsigned_within : (text : Characters) → unsigned_len text ≤ length text
unsigned_within [] = omega arith
unsigned_within (c ∷ text) = by (is_u c)
  where
    by : (b : Bool) → cond b 1 0 ≤ length (c ∷ text)
    by true = omega arith
    by false = omega arith

longs_within : (text : Characters) → longs_len text ≤ length text
longs_within [] = omega arith
longs_within (c ∷ []) = by (is_l c)
  where
    by : (b : Bool) → cond b 1 0 ≤ 1
    by true = omega arith
    by false = omega arith
longs_within (c ∷ d ∷ text) = by (is_l c) (eqb d c)
  where
    by : (a b : Bool) → cond a (cond b 2 1) 0 ≤ length (c ∷ d ∷ text)
    by true true = omega arith
    by true false = omega arith
    by false b = omega arith

suffix_within : (text : Characters) → suffix_len text ≤ length text
suffix_within text =
    let n = unsigned_len text in
    let m = longs_len (drop n text) in
    let first = unsigned_within text in
    let second = longs_within (drop n text) in
    let third = unsigned_within (drop m (drop n text)) in
    let a = length-drop n text in
    let b = length-drop m (drop n text) in
    by (eqb n 0) (omega (arith, first, second, a)) (omega (arith, first, second, third, a, b))
  where
    by : (e : Bool) → unsigned_len text + longs_len (drop (unsigned_len text) text) + 0 ≤ length text
        → unsigned_len text + longs_len (drop (unsigned_len text) text) + unsigned_len (drop (longs_len (drop (unsigned_len text) text)) (drop (unsigned_len text) text)) ≤ length text
        → unsigned_len text + longs_len (drop (unsigned_len text) text)
        + cond e (unsigned_len (drop (longs_len (drop (unsigned_len text) text)) (drop (unsigned_len text) text))) 0 ≤ length text
    by true none more = more
    by false none more = none

-- a longer text has no shorter suffix
longs_grow : (k : ℕ) (text : Characters) → longs_len (take k text) ≤ longs_len text
longs_grow zero text = omega arith
longs_grow (suc k) [] = omega arith
longs_grow (suc zero) (c ∷ text) = by (is_l c) (first_is (λ d. eqb d c) text)
  where
    by : (a b : Bool) → cond a 1 0 ≤ cond a (cond b 2 1) 0
    by true true = omega arith
    by true false = omega arith
    by false b = omega arith
longs_grow (suc (suc k)) (c ∷ []) = omega arith
longs_grow (suc (suc k)) (c ∷ d ∷ text) = omega arith

unsigned_grows : (k : ℕ) (text : Characters) → unsigned_len (take k text) ≤ unsigned_len text
unsigned_grows zero text = omega arith
unsigned_grows (suc k) [] = omega arith
unsigned_grows (suc k) (c ∷ text) = omega arith

suffix_grows : (k : ℕ) (text : Characters) → suffix_len (take k text) ≤ suffix_len text
suffix_grows zero text = omega arith
suffix_grows (suc k) [] = omega arith
suffix_grows (suc k) (c ∷ text) = by (is_u c) refl (is_l c) refl
  where
    long : (k : ℕ) (text : Characters) → is_u c ≡ false → is_l c ≡ true → suffix_len (c ∷ take k text) ≤ suffix_len (c ∷ text)
    long zero [] u l = omega arith
    long (suc k) [] u l = omega arith
    long zero (d ∷ text) u l = rw (u, l) (more (eqb d c))
      where
        more : (b : Bool) → 1 ≤ 0 + cond b 2 1 + unsigned_len (drop (cond b 2 1) (c ∷ d ∷ text))
        more true = omega arith
        more false = omega arith
    long (suc k) (d ∷ text) u l = rw (u, l) (more (eqb d c))
      where
        more : (b : Bool) → 0 + cond b 2 1 + unsigned_len (drop (cond b 2 1) (c ∷ d ∷ take k text)) ≤ 0 + cond b 2 1 + unsigned_len (drop (cond b 2 1) (c ∷ d ∷ text))
        more true = let grows = unsigned_grows k text in omega (arith, grows)
        more false = omega arith

    by : (a : Bool) → is_u c ≡ a → (b : Bool) → is_l c ≡ b → suffix_len (c ∷ take k text) ≤ suffix_len (c ∷ text)
    by true u b l = let grows = longs_grow k text in rw u (omega (arith, grows))
    by false u true l = long k text u l
    by false u false l = rw (u, l) (omega arith)

-- no longer front is a suffix
suffix_no_longer : (text : Characters) (m : ℕ) → suffix_len text < m → m ≤ length text → is_listed suffixes (take m text) ≡ false
suffix_no_longer text m less within = false_from_ne_true _ (λ yes.
    let all = listed_passes (λ t. nat_le (length t) (suffix_len t)) suffixes (take m text) refl yes in
    let long = length-take-le m text within in
    let grows = suffix_grows m text in
    let few : length (take m text) ≤ suffix_len (take m text) = leb-true _ _ all in
    absurd (omega (arith, less, long, grows, few)))

-- ---- digits

-- no digit of a base up to 16, and no single quote
abbrev begins_suffix : ℕ → Bool
begins_suffix c = ltb 16 (digit_value c) && not (eqb c 39)

-- the digits and the suffix at the front
abbrev pub number_len : ℕ → Characters → ℕ
number_len base text = digits_len base text + suffix_len (drop (digits_len base text) text)

no_digits : (base c : ℕ) (text : Characters) → is_digit_in base c ≡ false → digits_len base (c ∷ text) ≡ 0
no_digits base c [] h = rw h refl
no_digits base c (d ∷ text) h = rw h refl

-- a number is as long as the suffix where no digit begins it
pub number_within : (base : ℕ) (text : Characters) → digits_len base text ≤ length text → number_len base text ≤ length text
number_within base text digits =
    let n = digits_len base text in
    let suffix = suffix_within (drop n text) in
    let left = length-drop n text in
    omega (arith, digits, suffix, left)

pub no_digits_len : (base c : ℕ) (text : Characters) → is_digit_in base c ≡ false → number_len base (c ∷ text) ≡ suffix_len (c ∷ text)
no_digits_len base c text h =
    let none = no_digits base c text h in
    ap (λ n. n + suffix_len (drop n (c ∷ text))) none ∙ omega arith

pub len_alone : (base c : ℕ) (text : Characters) → is_digit_in base c ≡ true → has_prefix (codes "'") base text ≡ false
    → number_len base (c ∷ text) ≡ suc (number_len base text)
len_alone base c text digit quoted =
    let e : digits_len base (c ∷ text) ≡ suc (digits_len base text) = digit_alone base c text digit quoted ∙ omega arith in
    ap (λ n. n + suffix_len (drop n (c ∷ text))) e ∙ omega arith

len_quoted : (base c d : ℕ) (text : Characters) → is_digit_in base c ≡ true → has_prefix (codes "'") base (d ∷ text) ≡ true
    → number_len base (c ∷ d ∷ text) ≡ suc (suc (number_len base text))
len_quoted base c d text digit quoted =
    let e : digits_len base (c ∷ d ∷ text) ≡ suc (suc (digits_len base text)) = digit_and_quote base c (d ∷ text) digit quoted ∙ omega arith in
    ap (λ n. n + suffix_len (drop n (c ∷ d ∷ text))) e ∙ omega arith

quote_parts : (base d : ℕ) (text : Characters) → has_prefix (codes "'") base (d ∷ text) ≡ true → (eqb d 39 ≡ true) × (first_is (is_digit_in base) text ≡ true)
quote_parts base d text h =
    let parts = and_parts (begins_with (codes "'") (d ∷ text)) (first_is (is_digit_in base) text) h in
    ((and_parts (eqb d 39) true parts.0).0, parts.1)

more_digits : (base c : ℕ) (text : Characters) → is_digit_in base c ≡ true → is_number base text ≡ true → is_number base (c ∷ text) ≡ true
more_digits base c [] digit h = absurd (true≢false (sym h))
more_digits base c (d ∷ text) digit h = rw (digit, h) (by (is_listed suffixes (d ∷ text)))
  where
    by : (b : Bool) → (b || true) ≡ true
    by true = refl
    by false = refl

then_suffix : (base c : ℕ) (text : Characters) → is_digit_in base c ≡ true → is_listed suffixes text ≡ true → is_number base (c ∷ text) ≡ true
then_suffix base c [] digit h = digit
then_suffix base c (d ∷ text) digit h = rw (digit, h) refl

then_quote : (base c d : ℕ) (text : Characters) → is_digit_in base c ≡ true → eqb d 39 ≡ true → is_number base text ≡ true → is_number base (c ∷ d ∷ text) ≡ true
then_quote base c d text digit quote h =
    and_from (is_digit_in base c) _ digit (or_right (is_listed suffixes (d ∷ text)) _ (or_right (is_number base (d ∷ text)) _ (and_from (eqb d 39) (is_number base text) quote h)))

pub number_whole : (base : ℕ) (text : Characters) → first_is (is_digit_in base) text ≡ true → is_number base (take (number_len base text) text) ≡ true
number_whole base [] digit = absurd (true≢false (sym digit))
number_whole base (c ∷ []) digit =
    let one : number_len base (c ∷ []) ≡ 1 = len_alone base c [] digit refl in
    ap (λ n. is_number base (take n (c ∷ []))) one ∙ digit
number_whole base (c ∷ d ∷ text) digit = by (has_prefix (codes "'") base (d ∷ text)) refl (is_digit_in base d) refl (number_whole base (d ∷ text)) (number_whole base text)
  where
    by : (a : Bool) → has_prefix (codes "'") base (d ∷ text) ≡ a → (b : Bool) → is_digit_in base d ≡ b
        → (b ≡ true → is_number base (take (number_len base (d ∷ text)) (d ∷ text)) ≡ true)
        → (first_is (is_digit_in base) text ≡ true → is_number base (take (number_len base text) text) ≡ true)
        → is_number base (take (number_len base (c ∷ d ∷ text)) (c ∷ d ∷ text)) ≡ true
    by true e b f one two =
        let parts = quote_parts base d text e in
        ap (λ n. is_number base (take n (c ∷ d ∷ text))) (len_quoted base c d text digit e)
        ∙ then_quote base c d (take (number_len base text) text) digit parts.0 (two parts.1)
    by false e true f one two =
        ap (λ n. is_number base (take n (c ∷ d ∷ text))) (len_alone base c (d ∷ text) digit e)
        ∙ more_digits base c (take (number_len base (d ∷ text)) (d ∷ text)) digit (one refl)
    by false e false f one two =
        ap (λ n. is_number base (take n (c ∷ d ∷ text))) (len_alone base c (d ∷ text) digit e ∙ ap suc (no_digits_len base d text f))
        ∙ then_suffix base c (take (suffix_len (d ∷ text)) (d ∷ text)) digit (suffix_whole (d ∷ text))

-- ---- no longer front

pub no_number : (base c : ℕ) (text : Characters) → is_digit_in base c ≡ false → is_number base (c ∷ text) ≡ false
no_number base c [] h = h
no_number base c (d ∷ text) h = rw h refl

pub no_number_at : (base : ℕ) (text : Characters) (n : ℕ) → first_is (is_digit_in base) text ≡ false → is_number base (take n text) ≡ false
no_number_at base text zero h = refl
no_number_at base [] (suc n) h = refl
no_number_at base (c ∷ text) (suc n) h = no_number base c (take n text) h

none_of_three : (a b c d : Bool) → b ≡ false → c ≡ false → d ≡ false → (a && (b || (c || d))) ≡ false
none_of_three a b c d hb hc hd = rw (hb, hc, hd) (and-false a)

module _ (base : ℕ) (small : base ≤ 16) where
  no_digit : (c : ℕ) → 16 ≤ digit_value c → is_digit_in base c ≡ false
  no_digit c h = false_from_ne_true _ (λ digit. let less = ltb-true (digit_value c) base digit in absurd (omega (arith, less, h, small)))

  quote_is_no_digit : is_digit_in base 39 ≡ false
  quote_is_no_digit = no_digit 39 (omega arith)

  digit_is_no_quote : (c : ℕ) → is_digit_in base c ≡ true → eqb c 39 ≡ false
  digit_is_no_quote c digit = false_from_ne_true _ (λ e. true≢false (sym digit ∙ ap (is_digit_in base) (eqb-true c 39 e) ∙ quote_is_no_digit))

  -- what begins a suffix
  no_suffix : (c : ℕ) (text : Characters) → begins_suffix c ≡ false → is_listed suffixes (c ∷ text) ≡ false
  no_suffix c text h = false_from_ne_true _ (λ yes.
      true≢false (sym (listed_passes (λ t. is_empty t || first_is begins_suffix t) suffixes (c ∷ text) refl yes) ∙ h))

  digit_is_no_suffix : (c : ℕ) → is_digit_in base c ≡ true → begins_suffix c ≡ false
  digit_is_no_suffix c digit = false_from_ne_true _ (λ yes.
      let less = ltb-true (digit_value c) base digit in
      let more = ltb-true 16 (digit_value c) (and_parts (ltb 16 (digit_value c)) _ yes).0 in
      absurd (omega (arith, less, more, small)))

  pub number_no_longer : (text : Characters) (m : ℕ) → number_len base text < m → m ≤ length text → is_number base (take m text) ≡ false
  number_no_longer [] zero less within = absurd (omega (arith, less))
  number_no_longer [] (suc m) less within = absurd (omega (arith, within))
  number_no_longer (c ∷ text) zero less within = absurd (omega (arith, less))
  number_no_longer (c ∷ []) (suc m) less within = by (is_digit_in base c) refl
    where
      by : (b : Bool) → is_digit_in base c ≡ b → is_number base (c ∷ take m []) ≡ false
      by true digit = let one : number_len base (c ∷ []) ≡ 1 = len_alone base c [] digit refl in absurd (omega (arith, one, less, within))
      by false digit = no_number base c (take m []) digit
  number_no_longer (c ∷ d ∷ text) (suc zero) less within = by (is_digit_in base c) refl (has_prefix (codes "'") base (d ∷ text)) refl
    where
      by : (b : Bool) → is_digit_in base c ≡ b → (a : Bool) → has_prefix (codes "'") base (d ∷ text) ≡ a → is_number base (c ∷ []) ≡ false
      by true digit true e = let long = len_quoted base c d text digit e in absurd (omega (arith, long, less))
      by true digit false e = let long = len_alone base c (d ∷ text) digit e in absurd (omega (arith, long, less))
      by false digit a e = digit
  number_no_longer (c ∷ d ∷ text) (suc (suc m)) less within =
      by (is_digit_in base c) refl (has_prefix (codes "'") base (d ∷ text)) refl (is_digit_in base d) refl
      (λ l w. number_no_longer (d ∷ text) (suc m) l w) (λ l w. number_no_longer text m l w)
    where
      by : (x : Bool) → is_digit_in base c ≡ x → (a : Bool) → has_prefix (codes "'") base (d ∷ text) ≡ a → (b : Bool) → is_digit_in base d ≡ b
          → (number_len base (d ∷ text) < suc m → suc m ≤ length (d ∷ text)
          → is_number base (d ∷ take m text) ≡ false)
          → (number_len base text < m → m ≤ length text
          → is_number base (take m text) ≡ false)
          → is_number base (c ∷ d ∷ take m text) ≡ false
      by false digit a e b f one two = no_number base c (d ∷ take m text) digit
      by true digit true e b f one two =
          let parts = quote_parts base d text e in
          let long = len_quoted base c d text digit e in
          let is : d ≡ 39 = eqb-true d 39 parts.0 in
          let none = two (omega (arith, less, long)) (omega (arith, within)) in
          none_of_three (is_digit_in base c) (is_listed suffixes (d ∷ take m text)) (is_number base (d ∷ take m text)) (eqb d 39 && is_number base (take m text))
          (no_suffix d (take m text) (ap begins_suffix is)) (no_number base d (take m text) (ap (is_digit_in base) is ∙ quote_is_no_digit))
          (ap (λ k. eqb d 39 && k) none ∙ and-false (eqb d 39))
      by true digit false e true f one two =
          let long = len_alone base c (d ∷ text) digit e in
          let none = one (omega (arith, less, long)) (omega (arith, within)) in
          none_of_three (is_digit_in base c) (is_listed suffixes (d ∷ take m text)) (is_number base (d ∷ take m text)) (eqb d 39 && is_number base (take m text))
          (no_suffix d (take m text) (digit_is_no_suffix d f)) none (rw (digit_is_no_quote d f) refl)
      by true digit false e false f one two =
          let long : number_len base (c ∷ d ∷ text) ≡ suc (suffix_len (d ∷ text)) = len_alone base c (d ∷ text) digit e ∙ ap suc (no_digits_len base d text f) in
          none_of_three (is_digit_in base c) (is_listed suffixes (d ∷ take m text)) (is_number base (d ∷ take m text)) (eqb d 39 && is_number base (take m text))
          (suffix_no_longer (d ∷ text) (suc m) (omega (arith, less, long)) (omega (arith, within))) (no_number base d (take m text) f)
          (quoted (eqb d 39) (first_is (is_digit_in base) text) refl e)
        where
          quoted : (q : Bool) (b : Bool) → first_is (is_digit_in base) text ≡ b → ((q && true) && b) ≡ false → (q && is_number base (take m text)) ≡ false
          quoted false b g h = refl
          quoted true true g h = absurd (true≢false h)
          quoted true false g h = no_number_at base text m g
