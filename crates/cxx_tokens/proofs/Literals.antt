-- Escapes, characters and strings.
use Rattle.std.proofs.Common.{◌≡◌, ◌≢◌, ℕ, zero, suc, ◌+◌, ◌≤◌, Bool, true, false, not, ◌&&◌, cond, eqb, [], ◌∷◌, ◌++◌, length, take, drop, chars, encode_utf8_all, codes, Option, Some, None, Result, Ok, Err, refl, sym, ap, ◌∙◌, arith, true≢false, append_assoc}
use Rattle.std.proofs.lemmas.List.{drop-drop, length-drop}
use Rattle.std.proofs.lemmas.Bool.{and_parts}
use Rattle.std.proofs.lemmas.Bool.Decides.{Decides-eqb}
use Rattle.std.specs.List.{prefix_len}
use Rattle.std.specs.Option.{IfSome}
use Rattle.std.specs.Prelude.{encode_utf8}
use Rattle.cxx_base.specs.Texts.{Text}
use Rattle.cxx_base.specs.declared.place.Place.{Place}
use Rattle.cxx_tokens.specs.Characters.{Characters, begins_with, backslash, double_quote, line_feed}
use Rattle.cxx_tokens.specs.Cuts.{IsCut, is_plain_in_string}
use Rattle.cxx_tokens.specs.Literals.{Escape, Quoted, behind_one, escape_at, string_from}
use Rattle.cxx_tokens.specs.declared.escape.Escape.{Escape as KeptEscape}
use Rattle.cxx_tokens.specs.Faults.{Fault}
use Rattle.cxx_tokens.specs.declared.text.Cut.{Cut}

-- the text is cut behind one character and digits
pub digits_cut : (text rest : Text) (c : ℕ) (digits : Cut) (found : Option KeptEscape) → chars text ≡ c ∷ chars rest → IsCut rest digits
    → IfSome found (λ found. (found.cut.length ≡ 1 + digits.length) × (found.cut.rest ≡ digits.rest)) → IfSome found (λ found. IsCut text found.cut)
digits_cut text rest c digits None h cut found_is = tt
digits_cut text rest c digits (Some found) h cut found_is =
    let n = digits.length in
    let one : length (chars text) ≡ suc (length (chars rest)) = ap length h in
    let long : found.cut.length ≡ suc n = found_is.0 ∙ omega arith in
    record {
      rest = ap (λ ref. chars ref.now) found_is.1 ∙ cut.rest ∙ ap (drop (suc n)) (sym h) ∙ ap (λ k. drop k (chars text)) (sym long);
      within = omega (arith, cut.within, one, long);
    }

-- a text that begins with a quote has a character
quote_is_one : (text : Characters) → begins_with (codes "'") text ≡ true → 1 ≤ length text
quote_is_one [] h = absurd (true≢false (sym h))
quote_is_one (c ∷ text) h = omega arith

-- what `closed` says of what it finds
abbrev pub Closes : ℕ → KeptEscape → KeptEscape → Type 0
Closes others escape found =
    (begins_with (codes "'") (chars escape.cut.rest.now) ≡ true)
    × (found.byte ≡ escape.byte) × (found.cut.length ≡ others + escape.cut.length + 1) × (chars found.cut.rest.now ≡ drop 1 (chars escape.cut.rest.now))

-- the text is cut behind a backslash, an escape and a quote
pub closed_cut : (text rest : Text) (c : ℕ) (escape : KeptEscape) (found : Option KeptEscape) → chars text ≡ c ∷ chars rest → IsCut rest escape.cut
    → IfSome found (Closes 1 escape) → IfSome found (λ found. IsCut text found.cut)
closed_cut text rest c escape None h cut closes = tt
closed_cut text rest c escape (Some found) h cut closes =
    let n = escape.cut.length in
    let some = quote_is_one (chars escape.cut.rest.now) closes.0 in
    let left : length (chars escape.cut.rest.now) ≡ length (drop n (chars rest)) = ap length cut.rest in
    let l = length-drop n (chars rest) in
    let one : length (chars text) ≡ suc (length (chars rest)) = ap length h in
    let long : found.cut.length ≡ suc (n + 1) = closes.2 ∙ omega arith in
    record {
      rest = closes.3 ∙ ap (drop 1) cut.rest ∙ drop-drop 1 n (chars rest) ∙ ap (drop (suc (n + 1))) (sym h) ∙ ap (λ k. drop k (chars text)) (sym long);
      within = omega (arith, some, left, l, one, long);
    }

-- ---- strings

-- so many characters, which mean these bytes, before what follows
abbrev pub put_before : ℕ → Text → Result Quoted Fault → Result Quoted Fault
put_before n bytes (Ok rest) = Ok (record { length = n + rest.length; bytes = bytes ++ rest.bytes })
put_before n bytes (Err fault) = Err fault

quoted_is : (n m : ℕ) (a b : Text) → n ≡ m → a ≡ b → ◌≡◌ {A = Result Quoted Fault} (Ok (record { length = n; bytes = a })) (Ok (record { length = m; bytes = b }))
quoted_is n m a b e f = rw (e, f) refl

one_before : (bytes : Text) (read : Result Quoted Fault) → behind_one bytes read ≡ put_before 1 bytes read
one_before bytes (Ok rest) = refl
one_before bytes (Err fault) = refl

pub before_before : (n m : ℕ) (a b : Text) (read : Result Quoted Fault) → put_before n a (put_before m b read) ≡ put_before (n + m) (a ++ b) read
before_before n m a b (Ok rest) = quoted_is _ _ _ _ (omega arith) (sym (append_assoc a b rest.bytes))
before_before n m a b (Err fault) = refl

pub none_before : (read : Result Quoted Fault) → put_before 0 [] read ≡ read
none_before (Ok rest) = quoted_is _ _ _ _ (omega arith) refl
none_before (Err fault) = refl

-- the characters that are left of an escape are passed
pub passes : (n : ℕ) (place : Place) (text : Characters) → n ≤ length text → string_from n place text ≡ put_before n [] (string_from 0 place (drop n text))
passes zero place text h = sym (none_before (string_from 0 place text))
passes (suc n) place [] h = absurd (omega (arith, h))
passes (suc n) place (c ∷ text) h =
    let e : 1 + n ≡ suc n = omega arith in
    ap (behind_one []) (passes n place text (omega (arith, h)))
    ∙ one_before [] _ ∙ before_before 1 n [] [] (string_from 0 place (drop n text)) ∙ ap (λ k. put_before k [] (string_from 0 place (drop n text))) e

differs : (a b : ℕ) → a ≢ b → eqb a b ≡ false
differs a b h = by (eqb a b) refl
  where
    by : (same : Bool) → eqb a b ≡ same → same ≡ false
    by false e = refl
    by true e = absurd (h ((Decides-eqb a b).0 e))

-- a character that stands for itself
pub other_read : (place : Place) (c : ℕ) (text : Characters) → c ≢ double_quote → c ≢ line_feed → c ≢ backslash
    → string_from 0 place (c ∷ text) ≡ put_before 1 (encode_utf8 c) (string_from 0 place text)
other_read place c text no_quote no_line_feed no_backslash =
    rw (differs c double_quote no_quote, differs c line_feed no_line_feed, differs c backslash no_backslash) (one_before (encode_utf8 c) (string_from 0 place text))

apart : (c d : ℕ) → not (eqb c d) ≡ true → c ≢ d
apart c d h = λ e. true≢false (sym h ∙ ap not ((Decides-eqb c d).1 e))

-- characters that stand for themselves
plain_on : (n : ℕ) (place : Place) (text : Characters) → n ≤ prefix_len is_plain_in_string text
    → string_from 0 place text ≡ put_before n (encode_utf8_all (take n text)) (string_from 0 place (drop n text))
plain_on zero place text h = sym (none_before (string_from 0 place text))
plain_on (suc n) place [] h = absurd (omega (arith, h))
plain_on (suc n) place (c ∷ text) h = by (is_plain_in_string c) refl h (λ g. plain_on n place text g)
  where
    by : (b : Bool) → is_plain_in_string c ≡ b → suc n ≤ cond b (1 + prefix_len is_plain_in_string text) 0
        → (n ≤ prefix_len is_plain_in_string text → string_from 0 place text ≡ put_before n (encode_utf8_all (take n text)) (string_from 0 place (drop n text)))
        → string_from 0 place (c ∷ text) ≡ put_before (suc n) (encode_utf8 c ++ encode_utf8_all (take n text)) (string_from 0 place (drop n text))
    by false e h go = absurd (omega (arith, h))
    by true e h go =
        let q = and_parts (not (eqb c double_quote)) (not (eqb c backslash) && not (eqb c line_feed)) e in
        let b = and_parts (not (eqb c backslash)) (not (eqb c line_feed)) q.1 in
        let rest = string_from 0 place (drop n text) in
        let one : 1 + n ≡ suc n = omega arith in
        other_read place c text (apart c double_quote q.0) (apart c line_feed b.1) (apart c backslash b.0)
        ∙ ap (put_before 1 (encode_utf8 c)) (go (omega (arith, h)))
        ∙ before_before 1 n (encode_utf8 c) (encode_utf8_all (take n text)) rest
        ∙ ap (λ k. put_before k (encode_utf8 c ++ encode_utf8_all (take n text)) rest) one

pub plain_read : (k : ℕ) (place : Place) (c : ℕ) (text after : Characters) → text ≡ c ∷ after → c ≢ double_quote → c ≢ line_feed → c ≢ backslash
    → k ≤ prefix_len is_plain_in_string after
    → string_from 0 place text ≡ put_before (1 + k) (encode_utf8_all (take (1 + k) text)) (string_from 0 place (drop k after))
plain_read k place c text after here no_quote no_line_feed no_backslash most =
    let plain : is_plain_in_string c ≡ true = rw (differs c double_quote no_quote, differs c line_feed no_line_feed, differs c backslash no_backslash) refl in
    let long : prefix_len is_plain_in_string (c ∷ after) ≡ 1 + prefix_len is_plain_in_string after = ap (λ b. cond b (1 + prefix_len is_plain_in_string after) 0) plain in
    let one : suc k ≡ 1 + k = omega arith in
    ap (string_from 0 place) here ∙ plain_on (suc k) place (c ∷ after) (omega (arith, long, most))
    ∙ ap (λ i. put_before i (encode_utf8_all (take i (c ∷ after))) (string_from 0 place (drop k after))) one
    ∙ ap (λ t. put_before (1 + k) (encode_utf8_all (take (1 + k) t)) (string_from 0 place (drop k after))) (sym here)

pub drop_one_and : (k : ℕ) (c : ℕ) (text after : Characters) → text ≡ c ∷ after → drop k after ≡ drop (1 + k) text
drop_one_and k c text after here =
    let one : suc k ≡ 1 + k = omega arith in
    ap (drop (suc k)) (sym here) ∙ ap (λ i. drop i text) one

-- a backslash and its escape
pub escape_read : (place : Place) (c : ℕ) (text : Characters) (escape : Escape) → c ≡ backslash → Some escape ≡ escape_at text → escape.length ≤ length text
    → string_from 0 place (c ∷ text) ≡ put_before (1 + escape.length) (escape.byte ∷ []) (string_from 0 place (drop escape.length text))
escape_read place c text escape is_backslash e h =
    let n = escape.length in
    let rest = string_from 0 place (drop n text) in
    rw (is_backslash, sym e)
    (ap (behind_one (escape.byte ∷ [])) (passes n place text h) ∙ one_before (escape.byte ∷ []) (put_before n [] rest) ∙ before_before 1 n (escape.byte ∷ []) [] rest)

-- what was read grows by what is read next
pub read_on : (n m : ℕ) (bytes more : Text) (next rest text : Result Quoted Fault) → next ≡ put_before m more rest → put_before n bytes next ≡ text
    → put_before (n + m) (bytes ++ more) rest ≡ text
read_on n m bytes more next rest text read same = sym (before_before n m bytes more rest) ∙ ap (put_before n bytes) (sym read) ∙ same

-- a cut behind a front, one character, and k others
pub cut_behind : (n k : ℕ) (text after : Characters) (c : ℕ) → drop n text ≡ c ∷ after → drop k after ≡ drop (n + (1 + k)) text
cut_behind n k text after c h =
    let e : n + suc k ≡ n + (1 + k) = omega arith in
    ap (drop (suc k)) (sym h) ∙ drop-drop (suc k) n text ∙ ap (λ i. drop i text) e

pub within_behind : (n k : ℕ) (text after : Characters) (c : ℕ) → drop n text ≡ c ∷ after → k ≤ length after → n + (1 + k) ≤ length text
within_behind n k text after c h less =
    let e : length (drop n text) ≡ suc (length after) = ap length h in
    let l = length-drop n text in
    omega (arith, e, l, less)
