-- The characters that are found are whole, and none goes on behind its quote.
use Rattle.std.proofs.Common.{◌≡◌, ℕ, zero, suc, ◌+◌, ◌<◌, ◌≤◌, min, Bool, true, false, ◌&&◌, ◌||◌, not, cond, eqb, ltb, [], ◌∷◌, ◌++◌, length, take, drop, codes, Option, Some, None, is_some, refl, sym, ap, ◌∙◌, arith, true≢false}
use Rattle.std.proofs.Math.Bool.{and-false}
use Rattle.std.proofs.lemmas.Bool.{and_parts, eqb-true, ltb-true}
use Rattle.std.proofs.lemmas.Bool.Decides.{nat_tests}
use Rattle.std.proofs.lemmas.List.{length-take, length-take-le}
use Rattle.std.proofs.lemmas.List.Sums.{prefix_len-le-length}
use Rattle.std.specs.List.{list_all, prefix_len}
use Rattle.std.specs.Prelude.{nat_le}
use Rattle.std.specs.Str.{bytes_eq}
use Rattle.cxx_tokens.specs.Characters.{Characters, backslash, begins_with, first_is, is_digit_in, line_feed, single_quote, value_in}
use Rattle.cxx_tokens.specs.Gaps.{is_empty}
use Rattle.cxx_tokens.specs.Literals.{Escape, character_at, closed, escape_at, is_plain, numeric_escape, simple_by, simple_escape}
use Rattle.cxx_tokens.specs.Munch.{is_character, is_character_closed, is_closed, is_escape_closed}
use Rattle.cxx_tokens.proofs.Fronts.{IsPrefixFree, run_front}

-- ---- nothing goes on behind a closing quote

empty_goes_on : (front : Characters) (c : ℕ) (rest : Characters) → is_empty (front ++ c ∷ rest) ≡ false
empty_goes_on [] c rest = refl
empty_goes_on (d ∷ front) c rest = refl

closed_is_free : (base : ℕ) → IsPrefixFree (is_closed base)
closed_is_free base [] c rest h = absurd (true≢false (sym h))
closed_is_free base (d ∷ front) c rest h = by (eqb d single_quote) refl h (λ more. closed_is_free base front c rest more)
  where
    by : (b : Bool) → eqb d single_quote ≡ b → cond b (is_empty front) (is_digit_in base d && is_closed base front) ≡ true
        → (is_closed base front ≡ true → is_closed base (front ++ c ∷ rest) ≡ false)
        → cond b (is_empty (front ++ c ∷ rest)) (is_digit_in base d && is_closed base (front ++ c ∷ rest)) ≡ false
    by true e h more = empty_goes_on front c rest
    by false e h more = let no = more (and_parts (is_digit_in base d) (is_closed base front) h).1 in rw no (and-false (is_digit_in base d))

quote_is_free : IsPrefixFree (λ text. bytes_eq text (codes "'"))
quote_is_free [] c rest h = absurd (true≢false (sym h))
quote_is_free (d ∷ []) c rest h = and-false (eqb d 39)
quote_is_free (d ∷ e ∷ front) c rest h = and-false (eqb d 39)

escape_is_free : IsPrefixFree is_escape_closed
escape_is_free [] c rest h = absurd (true≢false (sym h))
escape_is_free (d ∷ front) c rest h = by (is_digit_in 8 d) (eqb d 120) h
  where
    by : (a b : Bool)
        → cond a (nat_le (length front) 3 && is_closed 8 front) (cond b (first_is (is_digit_in 16) front && is_closed 16 front) (is_some (simple_escape d) && bytes_eq front (codes "'"))) ≡ true
        → cond a (nat_le (length (front ++ c ∷ rest)) 3 && is_closed 8 (front ++ c ∷ rest)) (cond b (first_is (is_digit_in 16) (front ++ c ∷ rest) && is_closed 16 (front ++ c ∷ rest)) (is_some (simple_escape d) && bytes_eq (front ++ c ∷ rest) (codes "'"))) ≡ false
    by true b h =
        let no = closed_is_free 8 front c rest ((and_parts (nat_le (length front) 3) (is_closed 8 front) h).1) in
        ap (λ k. nat_le (length (front ++ c ∷ rest)) 3 && k) no ∙ and-false _
    by false true h =
        let no = closed_is_free 16 front c rest ((and_parts (first_is (is_digit_in 16) front) (is_closed 16 front) h).1) in
        ap (λ k. first_is (is_digit_in 16) (front ++ c ∷ rest) && k) no ∙ and-false _
    by false false h =
        let no = quote_is_free front c rest ((and_parts (is_some (simple_escape d)) (bytes_eq front (codes "'")) h).1) in
        ap (λ k. is_some (simple_escape d) && k) no ∙ and-false _

character_is_free : IsPrefixFree is_character_closed
character_is_free [] c rest h = absurd (true≢false (sym h))
character_is_free (d ∷ front) c rest h = by (eqb d backslash) h
  where
    by : (b : Bool) → cond b (is_escape_closed front) (not (eqb d single_quote || eqb d line_feed) && bytes_eq front (codes "'")) ≡ true
        → cond b (is_escape_closed (front ++ c ∷ rest)) (not (eqb d single_quote || eqb d line_feed) && bytes_eq (front ++ c ∷ rest) (codes "'")) ≡ false
    by true h = escape_is_free front c rest h
    by false h =
        let no = quote_is_free front c rest ((and_parts (not (eqb d single_quote || eqb d line_feed)) (bytes_eq front (codes "'")) h).1) in
        ap (λ k. not (eqb d single_quote || eqb d line_feed) && k) no ∙ and-false _

pub no_longer_character : IsPrefixFree is_character
no_longer_character [] c rest h = absurd (true≢false (sym h))
no_longer_character (d ∷ front) c rest h =
    let no = character_is_free front c rest ((and_parts (eqb d single_quote) (is_character_closed front) h).1) in
    ap (λ k. eqb d single_quote && k) no ∙ and-false (eqb d single_quote)

-- ---- escapes

-- what is found behind a backslash, which is the character c and what follows it
pub data EscapeFound (c : ℕ) (text : Characters) (n : ℕ) : Type 0 where
  octal : (k : ℕ) → is_digit_in 8 c ≡ true → n ≡ suc k → k ≤ 2 → list_all (is_digit_in 8) (take k text) ≡ true → EscapeFound c text n
  hexadecimal : (k : ℕ) → is_digit_in 8 c ≡ false → eqb c 120 ≡ true → n ≡ suc k → first_is (is_digit_in 16) text ≡ true
      → list_all (is_digit_in 16) (take k text) ≡ true → EscapeFound c text n
  simple : is_digit_in 8 c ≡ false → eqb c 120 ≡ false → n ≡ 1 → is_some (simple_escape c) ≡ true → EscapeFound c text n

numeric_is : (others base : ℕ) (digits : Characters) (e : Escape) → numeric_escape others base digits ≡ Some e
    → (0 < length digits) × (e.length ≡ others + length digits)
numeric_is others base digits e h = by (ltb 0 (length digits)) refl (ltb (value_in base digits) 256) h
  where
    by : (a : Bool) → ltb 0 (length digits) ≡ a → (b : Bool)
        → cond (a && b) (Some (record { length = others + length digits; byte = value_in base digits })) None ≡ Some e
        → (0 < length digits) × (e.length ≡ others + length digits)
    by true f true h =
        let same : record { length = others + length digits; byte = value_in base digits } ≡ e = cc h in
        (ltb-true 0 (length digits) f, sym (ap (λ (e : Escape). e.length) same))
    by true f false h = cc h
    by false f b h = cc h

some_first : (p : ℕ → Bool) (text : Characters) → 0 < prefix_len p text → first_is p text ≡ true
some_first p [] h = absurd (omega (arith, h))
some_first p (c ∷ text) h = by (p c) h
  where
    by : (b : Bool) → 0 < cond b (1 + prefix_len p text) 0 → b ≡ true
    by true h = refl
    by false h = absurd (omega (arith, h))

pub escape_found : (c : ℕ) (text : Characters) (e : Escape) → escape_at (c ∷ text) ≡ Some e → EscapeFound c text e.length
escape_found c text e h = by (is_digit_in 8 c) refl (eqb c 120) refl h
  where
    by : (a : Bool) → is_digit_in 8 c ≡ a → (b : Bool) → eqb c 120 ≡ b
        → cond a (numeric_escape 0 8 (take (min 3 (prefix_len (is_digit_in 8) (c ∷ text))) (c ∷ text)))
        (cond b (numeric_escape 1 16 (take (prefix_len (is_digit_in 16) text) text)) (simple_by (simple_escape c))) ≡ Some e
        → EscapeFound c text e.length
    by true f b g h = count (min 3 (prefix_len (is_digit_in 8) (c ∷ text))) (omega arith) (omega arith) (numeric_is 0 8 (take (min 3 (prefix_len (is_digit_in 8) (c ∷ text))) (c ∷ text)) e h)
      where
        count : (n : ℕ) → n ≤ 3 → n ≤ prefix_len (is_digit_in 8) (c ∷ text) → (0 < length (take n (c ∷ text))) × (e.length ≡ 0 + length (take n (c ∷ text)))
            → EscapeFound c text e.length
        count zero few within found = absurd (omega (arith, found.0))
        count (suc k) few within found =
            let most = prefix_len-le-length (is_digit_in 8) (c ∷ text) in
            let long = length-take-le (suc k) (c ∷ text) (omega (arith, within, most)) in
            let digits = run_front (is_digit_in 8) (suc k) (c ∷ text) within in
            octal k f (omega (arith, found.1, long)) (omega (arith, few)) ((and_parts (is_digit_in 8 c) _ digits).1)
    by false f true g h =
        let found = numeric_is 1 16 (take (prefix_len (is_digit_in 16) text) text) e h in
        let k = prefix_len (is_digit_in 16) text in
        let long = length-take-le k text (prefix_len-le-length (is_digit_in 16) text) in
        hexadecimal k f g (omega (arith, found.1, long)) (some_first (is_digit_in 16) text (omega (arith, found.0, long)))
        (run_front (is_digit_in 16) k text (omega arith))
    by false f false g h = one (simple_escape c) refl h
      where
        one : (o : Option ℕ) → simple_escape c ≡ o → simple_by o ≡ Some e → EscapeFound c text e.length
        one None s h = cc h
        one (Some byte) s h =
            let same : record { length = 1; byte = byte } ≡ e = cc h in
            simple f g (sym (ap (λ (e : Escape). e.length) same)) (ap is_some s)

-- ---- characters that are found

closed_front : (base : ℕ) → is_digit_in base single_quote ≡ false → (k : ℕ) (text : Characters) → list_all (is_digit_in base) (take k text) ≡ true
    → begins_with (codes "'") (drop k text) ≡ true → is_closed base (take (suc k) text) ≡ true
closed_front base other zero [] digits quote = absurd (true≢false (sym quote))
closed_front base other zero (c ∷ text) digits quote =
    let e : eqb c 39 ≡ true = (and_parts (eqb c 39) true quote).0 in
    rw e refl
closed_front base other (suc k) [] digits quote = absurd (true≢false (sym quote))
closed_front base other (suc k) (c ∷ text) digits quote =
    let parts_of = and_parts (is_digit_in base c) (list_all (is_digit_in base) (take k text)) digits in
    by (eqb c 39) refl parts_of.0 (closed_front base other k text parts_of.1 quote)
  where
    by : (b : Bool) → eqb c 39 ≡ b → is_digit_in base c ≡ true → is_closed base (take (suc k) text) ≡ true
        → cond b (is_empty (take (suc k) text)) (is_digit_in base c && is_closed base (take (suc k) text)) ≡ true
    by true e digit more = absurd (true≢false (sym digit ∙ ap (is_digit_in base) (eqb-true c 39 e) ∙ other))
    by false e digit more = rw digit more

pub first_of_front : (p : ℕ → Bool) (k : ℕ) (text : Characters) → first_is p (take (suc k) text) ≡ first_is p text
first_of_front p k [] = refl
first_of_front p k (c ∷ text) = refl

short_front : (k n : ℕ) (text : Characters) → k ≤ n → nat_le (length (take k text)) n ≡ true
short_front k n text h =
    let l = length-take k text in
    grind (arith, nat_tests)

plain : (c : ℕ) → is_plain c ≡ true → not (eqb c single_quote || eqb c line_feed) ≡ true
plain c h = by (eqb c single_quote) (eqb c backslash) (eqb c line_feed) (and_parts (ltb c 128) _ h).1
  where
    by : (a b d : Bool) → not (a || (b || d)) ≡ true → not (a || d) ≡ true
    by true b d h = h
    by false true d h = absurd (true≢false (sym h))
    by false false d h = h

escape_closed : (c : ℕ) (text : Characters) (n : ℕ) → EscapeFound c text n → begins_with (codes "'") (drop n (c ∷ text)) ≡ true
    → is_escape_closed (take (suc n) (c ∷ text)) ≡ true
escape_closed c text n (octal k f e few digits) quote =
    let behind : begins_with (codes "'") (drop k text) ≡ true = ap (λ n. begins_with (codes "'") (drop n (c ∷ text))) (sym e) ∙ quote in
    let closes = closed_front 8 refl k text digits behind in
    let short : nat_le (length (take (suc k) text)) 3 ≡ true = short_front (suc k) 3 text (omega (arith, few)) in
    ap (λ n. is_escape_closed (take (suc n) (c ∷ text))) e ∙ rw (f, short, closes) refl
escape_closed c text n (hexadecimal k f g e first digits) quote =
    let behind : begins_with (codes "'") (drop k text) ≡ true = ap (λ n. begins_with (codes "'") (drop n (c ∷ text))) (sym e) ∙ quote in
    let closes = closed_front 16 refl k text digits behind in
    let digit : first_is (is_digit_in 16) (take (suc k) text) ≡ true = first_of_front (is_digit_in 16) k text ∙ first in
    ap (λ n. is_escape_closed (take (suc n) (c ∷ text))) e ∙ rw (f, g, digit, closes) refl
escape_closed c text n (simple f g e is) quote =
    let behind : bytes_eq (take 1 text) (codes "'") ≡ true = ap (λ n. begins_with (codes "'") (drop n (c ∷ text))) (sym e) ∙ quote in
    ap (λ n. is_escape_closed (take (suc n) (c ∷ text))) e ∙ rw (f, g, is, behind) refl

closed_is : (others : ℕ) (text : Characters) (o : Option Escape) (found : Escape) → closed others text o ≡ Some found
    → (escape : Escape) × (o ≡ Some escape) × (begins_with (codes "'") (drop escape.length text) ≡ true) × (found.length ≡ others + escape.length + 1)
closed_is others text None found h = cc h
closed_is others text (Some escape) found h = by (begins_with (codes "'") (drop escape.length text)) refl h
  where
    by : (b : Bool) → begins_with (codes "'") (drop escape.length text) ≡ b
        → cond b (Some (record { length = others + escape.length + 1; byte = escape.byte })) None ≡ Some found
        → (kept : Escape) × (Some escape ≡ Some kept) × (begins_with (codes "'") (drop kept.length text) ≡ true) × (found.length ≡ others + kept.length + 1)
    by true e h =
        let same : record { length = others + escape.length + 1; byte = escape.byte } ≡ found = cc h in
        (escape, refl, e, sym (ap (λ (e : Escape). e.length) same))
    by false e h = cc h

character_closed : (text : Characters) (found : Escape) → character_at text ≡ Some found → is_character_closed (take found.length text) ≡ true
character_closed [] found h = cc h
character_closed (c ∷ text) found h = by (eqb c backslash) refl (is_plain c) refl h
  where
    escaped : (text : Characters) (escape : Escape) → escape_at text ≡ Some escape → begins_with (codes "'") (drop escape.length text) ≡ true
        → is_escape_closed (take (suc escape.length) text) ≡ true
    escaped [] escape e quote = cc e
    escaped (d ∷ text) escape e quote = escape_closed d text escape.length (escape_found d text escape e) quote

    by : (a : Bool) → eqb c backslash ≡ a → (b : Bool) → is_plain c ≡ b
        → cond a (closed 1 text (escape_at text)) (cond b (closed 0 (c ∷ text) (Some (record { length = 1; byte = c }))) None) ≡ Some found
        → is_character_closed (take found.length (c ∷ text)) ≡ true
    by true f b g h =
        let is = closed_is 1 text (escape_at text) found h in
        let long : found.length ≡ suc (suc is.0.length) = is.3 ∙ omega arith in
        let closes = escaped text is.0 is.1 is.2 in
        ap (λ n. is_character_closed (take n (c ∷ text))) long ∙ rw (f, closes) refl
    by false f true g h =
        let is = closed_is 0 (c ∷ text) (Some (record { length = 1; byte = c })) found h in
        let same : record { length = 1; byte = c } ≡ is.0 = cc is.1 in
        let one : is.0.length ≡ 1 = sym (ap (λ (e : Escape). e.length) same) in
        let long : found.length ≡ 2 = is.3 ∙ omega (arith, one) in
        let quote : bytes_eq (take 1 text) (codes "'") ≡ true = ap (λ n. begins_with (codes "'") (drop n (c ∷ text))) (sym one) ∙ is.2 in
        let no_quote : not (eqb c single_quote || eqb c line_feed) ≡ true = plain c g in
        ap (λ n. is_character_closed (take n (c ∷ text))) long ∙ rw (f, no_quote, quote) refl
    by false f false g h = cc h

quote_within : (n : ℕ) (text : Characters) → begins_with (codes "'") (drop n text) ≡ true → n < length text
quote_within zero [] h = absurd (true≢false (sym h))
quote_within (suc n) [] h = absurd (true≢false (sym h))
quote_within zero (c ∷ text) h = omega arith
quote_within (suc n) (c ∷ text) h = let more = quote_within n text h in omega (arith, more)

pub character_within : (text : Characters) (found : Escape) → character_at text ≡ Some found → found.length ≤ length text
character_within [] found h = cc h
character_within (c ∷ text) found h = by (eqb c backslash) (is_plain c) h
  where
    by : (a b : Bool) → cond a (closed 1 text (escape_at text)) (cond b (closed 0 (c ∷ text) (Some (record { length = 1; byte = c }))) None) ≡ Some found
        → found.length ≤ length (c ∷ text)
    by true b h =
        let is = closed_is 1 text (escape_at text) found h in
        let less = quote_within is.0.length text is.2 in
        omega (arith, is.3, less)
    by false true h =
        let is = closed_is 0 (c ∷ text) (Some (record { length = 1; byte = c })) found h in
        let less = quote_within is.0.length (c ∷ text) is.2 in
        omega (arith, is.3, less)
    by false false h = cc h

pub character_whole : (c : ℕ) (text : Characters) (found : Escape) → eqb c single_quote ≡ true → character_at text ≡ Some found
    → is_character (take (suc found.length) (c ∷ text)) ≡ true
character_whole c text found quote h =
    let closes = character_closed text found h in
    rw (quote, closes) refl
