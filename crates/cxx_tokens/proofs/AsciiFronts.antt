-- Fronts of texts that are ASCII: each byte is a character, and the text may be cut behind it.
use Rattle.std.proofs.Common.{◌≡◌, ℕ, zero, suc, ◌+◌, ◌-◌, ◌<◌, ◌≤◌, Bool, true, false, ◌&&◌, cond, ltb, [], ◌∷◌, ◌++◌, length, take, drop, get_or, chars, encode_utf8, encode_utf8_all, refl, sym, ap, subst, ◌∙◌, arith}
use Rattle.std.proofs.lemmas.Bool.{and_parts, and_from, ltb-true}
use Rattle.std.proofs.lemmas.Bool.Decides.{nat_tests}
use Rattle.std.specs.Prelude.{nat_le}
use Rattle.std.proofs.lemmas.List.{length-append, length-take-le}
use Rattle.std.proofs.lemmas.List.Sums.{prefix_len-le-length}
use Rattle.std.proofs.lemmas.Str.{IsCharBoundary-after_ascii, IsCharBoundary-start, IsUtf8-past_char, chars-nil, chars_past_char, encode_ascii, encodes-chars, length-encode, length-le-encodes, len_utf8_bounds}
use Rattle.std.specs.Char.{is_ascii, len_utf8}
use Rattle.std.specs.List.{list_all, prefix_len}
use Rattle.std.specs.Str.{IsCharBoundary, IsUtf8}
use Rattle.cxx_base.specs.Texts.{Text}
use Rattle.cxx_tokens.specs.Characters.{Characters, first_is}
use Rattle.cxx_tokens.specs.Cuts.{class_test, is_ascii_in}
use Rattle.cxx_tokens.specs.declared.run.Class.{Class}

-- a byte within the run
in_run : (p : ℕ → Bool) (n : ℕ) (text : Text) → n < prefix_len p text → (p (get_or text n 0) ≡ true) × (n < length text)
in_run p n [] h = absurd (omega (arith, h))
in_run p zero (b ∷ text) h = by (p b) refl h
  where
    by : (x : Bool) → p b ≡ x → 0 < cond x (1 + prefix_len p text) 0 → (p b ≡ true) × (0 < length (b ∷ text))
    by true e h = (e, omega arith)
    by false e h = absurd (omega (arith, h))
in_run p (suc n) (b ∷ text) h = by (p b) h (λ g. in_run p n text g)
  where
    by : (x : Bool) → suc n < cond x (1 + prefix_len p text) 0 → (n < prefix_len p text → (p (get_or text n 0) ≡ true) × (n < length text))
        → (p (get_or text n 0) ≡ true) × (suc n < length (b ∷ text))
    by true h go = let more = go (omega (arith, h)) in (more.0, (let less = more.1 in omega (arith, less)))
    by false h go = absurd (omega (arith, h))

pub ascii_boundary : (text : Text) → IsUtf8 text → (n : ℕ) → n ≤ prefix_len is_ascii text → IsCharBoundary text n
ascii_boundary text utf8 zero h = IsCharBoundary-start text utf8
ascii_boundary text utf8 (suc n) h =
    let byte = in_run is_ascii n text (omega (arith, h)) in
    let e : n + 1 ≡ suc n = omega arith in
    subst (IsCharBoundary text) e (IsCharBoundary-after_ascii text n utf8 byte.1 (ltb-true (get_or text n 0) 128 byte.0))

ascii_byte : (b : ℕ) (text : Text) → ltb b 128 ≡ true → b ∷ text ≡ encode_utf8 b ++ text
ascii_byte b text h = ap (λ (front : Text). front ++ text) (sym (encode_ascii b (ltb-true b 128 h)))

ascii_first : (b : ℕ) (text : Text) → IsUtf8 (b ∷ text) → ltb b 128 ≡ true → chars (b ∷ text) ≡ b ∷ chars text
ascii_first b text utf8 h = chars_past_char (b ∷ text) text b utf8 (ascii_byte b text h)

pub ascii_chars : (n : ℕ) (text : Text) → IsUtf8 text → n ≤ prefix_len is_ascii text → chars text ≡ take n text ++ chars (drop n text)
ascii_chars zero text utf8 h = refl
ascii_chars (suc n) [] utf8 h = absurd (omega (arith, h))
ascii_chars (suc n) (b ∷ text) utf8 h = by (ltb b 128) refl h (λ u g. ascii_chars n text u g)
  where
    by : (x : Bool) → ltb b 128 ≡ x → suc n ≤ cond x (1 + prefix_len is_ascii text) 0
        → (IsUtf8 text → n ≤ prefix_len is_ascii text → chars text ≡ take n text ++ chars (drop n text)) → chars (b ∷ text) ≡ b ∷ (take n text ++ chars (drop n text))
    by true e h go =
        let rest = IsUtf8-past_char (b ∷ text) text b utf8 (ascii_byte b text e) in
        ascii_first b text utf8 e ∙ ap (λ (t : Characters). b ∷ t) (go rest (omega (arith, h)))
    by false e h go = absurd (omega (arith, h))

-- ---- runs of a class

-- an ASCII run of a class is a front of ASCII
pub run_is_ascii : (class : Class) (text : Text) → prefix_len (is_ascii_in class) text ≤ prefix_len is_ascii text
run_is_ascii class [] = omega arith
run_is_ascii class (b ∷ text) = by (ltb b 128) (class_test class b) (run_is_ascii class text)
  where
    by : (x y : Bool) → prefix_len (is_ascii_in class) text ≤ prefix_len is_ascii text
        → cond (x && y) (1 + prefix_len (is_ascii_in class) text) 0 ≤ cond x (1 + prefix_len is_ascii text) 0
    by true true h = omega (arith, h)
    by true false h = omega arith
    by false y h = omega arith

run_passes : (class : Class) (n : ℕ) (text : Text) → n ≤ prefix_len (is_ascii_in class) text → list_all (class_test class) (take n text) ≡ true
run_passes class zero text h = refl
run_passes class (suc n) [] h = refl
run_passes class (suc n) (b ∷ text) h = by (ltb b 128) (class_test class b) refl h (λ g. run_passes class n text g)
  where
    by : (x y : Bool) → class_test class b ≡ y → suc n ≤ cond (x && y) (1 + prefix_len (is_ascii_in class) text) 0
        → (n ≤ prefix_len (is_ascii_in class) text → list_all (class_test class) (take n text) ≡ true)
        → (class_test class b && list_all (class_test class) (take n text)) ≡ true
    by true true e h go = rw e (go (omega (arith, h)))
    by true false e h go = absurd (omega (arith, h))
    by false y e h go = absurd (omega (arith, h))

run_goes_on : (p : ℕ → Bool) (front rest : Characters) → list_all p front ≡ true → prefix_len p (front ++ rest) ≡ length front + prefix_len p rest
run_goes_on p [] rest h = omega arith
run_goes_on p (c ∷ front) rest h =
    let parts = and_parts (p c) (list_all p front) h in
    let more = run_goes_on p front rest parts.1 in
    ap (λ b. cond b (1 + prefix_len p (front ++ rest)) 0) parts.0 ∙ omega (arith, more)

seam : (front rest : Characters) → drop (length front) (front ++ rest) ≡ rest
seam [] rest = refl
seam (c ∷ front) rest = seam front rest

-- what follows n ASCII characters, by the characters
module _ (text rest : Text) (n : ℕ) (within : n ≤ length text) (h : chars text ≡ take n text ++ chars rest) where
  front_long : length (take n text) ≡ n
  front_long = length-take-le n text within

  pub rest_is : chars rest ≡ drop n (chars text)
  rest_is = sym (seam (take n text) (chars rest)) ∙ ap (λ k. drop k (take n text ++ chars rest)) front_long ∙ ap (drop n) (sym h)

  pub all_long : length (chars text) ≡ n + length (chars rest)
  all_long = let l = length-append (take n text) (chars rest) in ap length h ∙ omega (arith, l, front_long)

-- the run of a class is its ASCII run and what goes on behind that
pub run_split : (class : Class) (text rest : Text) (n : ℕ) → n ≡ prefix_len (is_ascii_in class) text → chars text ≡ take n text ++ chars rest
    → prefix_len (class_test class) (chars text) ≡ n + prefix_len (class_test class) (chars rest)
run_split class text rest n e h =
    let within : n ≤ length text = (let most = prefix_len-le-length (is_ascii_in class) text in omega (arith, most, e)) in
    let long = length-take-le n text within in
    let passes = run_passes class n text (omega (arith, e)) in
    let goes = run_goes_on (class_test class) (take n text) (chars rest) passes in
    ap (prefix_len (class_test class)) h ∙ omega (arith, goes, long)

-- what stands behind a run is not of it
pub run_stops : (p : ℕ → Bool) (text : Text) → first_is p (drop (prefix_len p text) text) ≡ false
run_stops p [] = refl
run_stops p (b ∷ text) = by (p b) refl (run_stops p text)
  where
    by : (x : Bool) → p b ≡ x → first_is p (drop (prefix_len p text) text) ≡ false → first_is p (drop (cond x (1 + prefix_len p text) 0) (b ∷ text)) ≡ false
    by true e more =
        let one : 1 + prefix_len p text ≡ suc (prefix_len p text) = omega arith in
        ap (λ n. first_is p (drop n (b ∷ text))) one ∙ more
    by false e more = e

-- a text that begins with an ASCII character that is none of the class, or with none
pub no_run : (class : Class) (text : Text) → IsUtf8 text → first_is (is_ascii_in class) text ≡ false → first_is (λ byte. nat_le 128 byte) text ≡ false
    → 0 ≡ prefix_len (class_test class) (chars text)
no_run class [] utf8 h ascii = sym (ap (prefix_len (class_test class)) chars-nil)
no_run class (b ∷ text) utf8 h ascii =
    let small : ltb b 128 ≡ true = grind (arith, nat_tests) in
    let other : class_test class b ≡ false = sym (ap (λ x. x && class_test class b) small) ∙ h in
    sym (ap (prefix_len (class_test class)) (ascii_first b text utf8 small) ∙ ap (λ x. cond x (1 + prefix_len (class_test class) (chars text)) 0) other)

-- ---- words

byte_for_each : (cs : Characters) → length (encode_utf8_all cs) ≡ length cs → list_all is_ascii cs ≡ true
byte_for_each [] h = refl
byte_for_each (c ∷ cs) h =
    let l = length-append (encode_utf8 c) (encode_utf8_all cs) in
    let one = length-encode c in
    let bounds = len_utf8_bounds c in
    let least = bounds.0 in
    let few = length-le-encodes cs in
    let small : len_utf8 c ≡ 1 = omega (arith, h, l, one, least, few) in
    let rest : length (encode_utf8_all cs) ≡ length cs = omega (arith, h, l, one, small) in
    and_from (is_ascii c) (list_all is_ascii cs) (by (ltb c 128) (ltb c 2048) (ltb c 65536) small) (byte_for_each cs rest)
  where
    by : (x y z : Bool) → cond {A = ℕ} x 1 (cond {A = ℕ} y 2 (cond {A = ℕ} z 3 4)) ≡ 1 → x ≡ true
    by true y z h = refl
    by false true z h = absurd (omega (arith, h))
    by false false true h = absurd (omega (arith, h))
    by false false false h = absurd (omega (arith, h))

-- a text with as many bytes as characters is ASCII
pub all_ascii : (text : Text) → IsUtf8 text → length text ≡ length (chars text) → list_all is_ascii (chars text) ≡ true
all_ascii text utf8 h = byte_for_each (chars text) (ap length (encodes-chars text utf8) ∙ h)
