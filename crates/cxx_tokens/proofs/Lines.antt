-- No token has a line feed in it, so it stands on one line.
use Rattle.std.proofs.Common.{◌≡◌, ℕ, zero, suc, ◌+◌, ◌≤◌, List, Bool, true, false, ◌&&◌, ◌||◌, not, cond, eqb, [], ◌∷◌, length, take, drop, codes, is_some, Ok, refl, sym, ap, ◌∙◌, arith, true≢false}
use Rattle.std.proofs.lemmas.Bool.{and_parts, and_from, eqb-true}
use Rattle.std.proofs.lemmas.List.{length-take-le}
use Rattle.std.specs.List.{list_all}
use Rattle.std.specs.Prelude.{nat_le}
use Rattle.std.specs.Cmp.Lexicographic.{bytes_decides}
use Rattle.std.specs.Str.{bytes_eq}
use Rattle.unicode_ident.proofs.IdentLemmas.{is_xid_start-ascii, is_xid_continue-ascii}
use Rattle.cxx_base.specs.Texts.{Text}
use Rattle.cxx_base.specs.declared.place.Place.{Place}
use Rattle.cxx_tokens.specs.Characters.{Characters, after, after_all, begins_identifier, begins_with, continues_identifier, first_is, is_digit_in, is_in_line}
use Rattle.cxx_tokens.specs.Gaps.{is_empty}
use Rattle.cxx_tokens.specs.Lex.{Found, is_identifier, token_at}
use Rattle.cxx_tokens.specs.Literals.{simple_escape}
use Rattle.cxx_tokens.specs.Munch.{begins_escape, is_character, is_character_closed, is_closed, is_escape_closed, is_form, is_integer, is_listed, is_number, is_string, is_string_closed, suffixes}
use Rattle.cxx_tokens.specs.Tables.{punctuators}
use Rattle.cxx_tokens.proofs.Fronts.{all_kept, listed_passes}
use Rattle.cxx_tokens.proofs.Munch.{longest_at_its_place}

-- a character of a class without the line feed
in_line : (p : ℕ → Bool) → p 10 ≡ false → (c : ℕ) → p c ≡ true → is_in_line c ≡ true
in_line p none c h = by (eqb c 10) refl
  where
    by : (b : Bool) → eqb c 10 ≡ b → not b ≡ true
    by false e = refl
    by true e = absurd (true≢false (sym h ∙ ap p (eqb-true c 10 e) ∙ none))

before : (p : ℕ → Bool) → p 10 ≡ false → (c : ℕ) (text : Characters) → p c ≡ true → list_all is_in_line text ≡ true → list_all is_in_line (c ∷ text) ≡ true
before p none c text h all = and_from (is_in_line c) (list_all is_in_line text) (in_line p none c h) all

begins_none : begins_identifier 10 ≡ false
begins_none = let letter = is_xid_start-ascii 10 (omega arith) in rw letter refl

continues_none : continues_identifier 10 ≡ false
continues_none = is_xid_continue-ascii 10 (omega arith)

identifier_in_line : (text : Characters) → is_identifier text ≡ true → list_all is_in_line text ≡ true
identifier_in_line [] h = refl
identifier_in_line (c ∷ text) h =
    let parts = and_parts (begins_identifier c) (list_all continues_identifier text) h in
    before begins_identifier begins_none c text parts.0 (all_kept continues_identifier is_in_line (in_line continues_identifier continues_none) text parts.1)

suffix_in_line : (text : Characters) → is_listed suffixes text ≡ true → list_all is_in_line text ≡ true
suffix_in_line text h = listed_passes (λ t. list_all is_in_line t) suffixes text refl h

number_in_line : (base : ℕ) → is_digit_in base 10 ≡ false → (text : Characters) → is_number base text ≡ true → list_all is_in_line text ≡ true
number_in_line base none [] h = refl
number_in_line base none (c ∷ []) h = before (is_digit_in base) none c [] h refl
number_in_line base none (c ∷ d ∷ text) h =
    let parts = and_parts (is_digit_in base c) (is_listed suffixes (d ∷ text) || (is_number base (d ∷ text) || (eqb d 39 && is_number base text))) h in
    before (is_digit_in base) none c (d ∷ text) parts.0
    (by (is_listed suffixes (d ∷ text)) refl (is_number base (d ∷ text)) refl parts.1 (λ g. number_in_line base none (d ∷ text) g) (λ g. number_in_line base none text g))
  where
    by : (a : Bool) → is_listed suffixes (d ∷ text) ≡ a → (b : Bool) → is_number base (d ∷ text) ≡ b → (a || (b || (eqb d 39 && is_number base text))) ≡ true
        → (is_number base (d ∷ text) ≡ true → list_all is_in_line (d ∷ text) ≡ true) → (is_number base text ≡ true → list_all is_in_line text ≡ true)
        → list_all is_in_line (d ∷ text) ≡ true
    by true e b f h one two = suffix_in_line (d ∷ text) e
    by false e true f h one two = one f
    by false e false f h one two =
        let parts = and_parts (eqb d 39) (is_number base text) h in
        before (λ d. eqb d 39) refl d text parts.0 (two parts.1)

-- the first two characters of a text in line, and the others
front_in_line : (n : ℕ) (text : Characters) → list_all is_in_line (take n text) ≡ true → list_all is_in_line (drop n text) ≡ true → list_all is_in_line text ≡ true
front_in_line zero text front rest = rest
front_in_line (suc n) [] front rest = refl
front_in_line (suc n) (c ∷ text) front rest =
    let parts = and_parts (is_in_line c) (list_all is_in_line (take n text)) front in
    and_from (is_in_line c) (list_all is_in_line text) parts.0 (front_in_line n text parts.1 rest)

integer_in_line : (text : Characters) → is_integer text ≡ true → list_all is_in_line text ≡ true
integer_in_line text h = by (begins_with (codes "0x") text) refl (begins_with (codes "0b") text) refl (begins_with (codes "0") text) h
  where
    prefixed : (prefix : Characters) → length prefix ≡ 2 → list_all is_in_line prefix ≡ true → begins_with prefix text ≡ true
        → list_all is_in_line (drop 2 text) ≡ true → list_all is_in_line text ≡ true
    prefixed prefix two all begins rest =
        let same : take 2 text ≡ prefix = ap (λ n. take n text) (sym two) ∙ (bytes_decides (take (length prefix) text) prefix).0 begins in
        front_in_line 2 text (ap (list_all is_in_line) same ∙ all) rest

    by : (a : Bool) → begins_with (codes "0x") text ≡ a → (b : Bool) → begins_with (codes "0b") text ≡ b → (d : Bool)
        → cond a (is_number 16 (drop 2 text)) (cond b (is_number 2 (drop 2 text)) (cond d (is_number 8 text) (is_number 10 text))) ≡ true
        → list_all is_in_line text ≡ true
    by true e b f d h = prefixed (codes "0x") refl refl e (number_in_line 16 refl (drop 2 text) h)
    by false e true f d h = prefixed (codes "0b") refl refl f (number_in_line 2 refl (drop 2 text) h)
    by false e false f true h = number_in_line 8 refl text h
    by false e false f false h = number_in_line 10 refl text h

-- ---- characters and strings

quote_in_line : (text : Characters) → bytes_eq text (codes "'") ≡ true → list_all is_in_line text ≡ true
quote_in_line text h = ap (list_all is_in_line) ((bytes_decides text (codes "'")).0 h)

empty_in_line : (text : Characters) → is_empty text ≡ true → list_all is_in_line text ≡ true
empty_in_line [] h = refl
empty_in_line (c ∷ text) h = absurd (true≢false (sym h))

closed_in_line : (base : ℕ) → is_digit_in base 10 ≡ false → (text : Characters) → is_closed base text ≡ true → list_all is_in_line text ≡ true
closed_in_line base none [] h = refl
closed_in_line base none (c ∷ text) h = by (eqb c 39) refl h (λ g. closed_in_line base none text g)
  where
    by : (b : Bool) → eqb c 39 ≡ b → cond b (is_empty text) (is_digit_in base c && is_closed base text) ≡ true
        → (is_closed base text ≡ true → list_all is_in_line text ≡ true) → list_all is_in_line (c ∷ text) ≡ true
    by true e h go = before (λ d. eqb d 39) refl c text e (empty_in_line text h)
    by false e h go =
        let parts = and_parts (is_digit_in base c) (is_closed base text) h in
        before (is_digit_in base) none c text parts.0 (go parts.1)

escape_in_line : (text : Characters) → is_escape_closed text ≡ true → list_all is_in_line text ≡ true
escape_in_line [] h = refl
escape_in_line (c ∷ text) h = by (is_digit_in 8 c) refl (eqb c 120) refl h
  where
    by : (a : Bool) → is_digit_in 8 c ≡ a → (b : Bool) → eqb c 120 ≡ b
        → cond a (nat_le (length text) 3 && is_closed 8 text) (cond b (first_is (is_digit_in 16) text && is_closed 16 text) (is_some (simple_escape c) && bytes_eq text (codes "'"))) ≡ true
        → list_all is_in_line (c ∷ text) ≡ true
    by true e b f h = before (is_digit_in 8) refl c text e (closed_in_line 8 refl text (and_parts (nat_le (length text) 3) (is_closed 8 text) h).1)
    by false e true f h = before (λ d. eqb d 120) refl c text f (closed_in_line 16 refl text (and_parts (first_is (is_digit_in 16) text) (is_closed 16 text) h).1)
    by false e false f h =
        let parts = and_parts (is_some (simple_escape c)) (bytes_eq text (codes "'")) h in
        before (λ d. is_some (simple_escape d)) refl c text parts.0 (quote_in_line text parts.1)

character_in_line : (text : Characters) → is_character text ≡ true → list_all is_in_line text ≡ true
character_in_line [] h = refl
character_in_line (c ∷ text) h =
    let parts = and_parts (eqb c 39) (is_character_closed text) h in
    before (λ d. eqb d 39) refl c text parts.0 (closed text parts.1)
  where
    closed : (text : Characters) → is_character_closed text ≡ true → list_all is_in_line text ≡ true
    closed [] h = refl
    closed (d ∷ text) h = by (eqb d 92) refl h
      where
        by : (b : Bool) → eqb d 92 ≡ b → cond b (is_escape_closed text) (not (eqb d 39 || eqb d 10) && bytes_eq text (codes "'")) ≡ true → list_all is_in_line (d ∷ text) ≡ true
        by true e h = before (λ d. eqb d 92) refl d text e (escape_in_line text h)
        by false e h =
            let parts = and_parts (not (eqb d 39 || eqb d 10)) (bytes_eq text (codes "'")) h in
            before (λ d. not (eqb d 39 || eqb d 10)) refl d text parts.0 (quote_in_line text parts.1)

string_in_line : (text : Characters) → is_string text ≡ true → list_all is_in_line text ≡ true
string_in_line [] h = refl
string_in_line (c ∷ text) h =
    let parts = and_parts (eqb c 34) (is_string_closed text) h in
    before (λ d. eqb d 34) refl c text parts.0 (closed text parts.1)
  where
    begins : (d : ℕ) (text : Characters) → begins_escape (d ∷ text) ≡ true → is_in_line d ≡ true
    begins d text h = by (eqb d 10) refl
      where
        by : (b : Bool) → eqb d 10 ≡ b → not b ≡ true
        by false e = refl
        by true e = absurd (true≢false (sym h ∙ ap (λ d. begins_escape (d ∷ text)) (eqb-true d 10 e)))

    closed : (text : Characters) → is_string_closed text ≡ true → list_all is_in_line text ≡ true
    closed [] h = refl
    closed (d ∷ []) h = before (λ d. eqb d 34) refl d [] h refl
    closed (d ∷ e ∷ text) h = by (eqb d 92) refl h (λ h. closed text h) (λ h. closed (e ∷ text) h)
      where
        by : (b : Bool) → eqb d 92 ≡ b → cond b (begins_escape (e ∷ text) && is_string_closed text) (not (eqb d 34 || eqb d 10) && is_string_closed (e ∷ text)) ≡ true
            → (is_string_closed text ≡ true → list_all is_in_line text ≡ true) → (is_string_closed (e ∷ text) ≡ true → list_all is_in_line (e ∷ text) ≡ true)
            → list_all is_in_line (d ∷ e ∷ text) ≡ true
        by true f h two one =
            let parts = and_parts (begins_escape (e ∷ text)) (is_string_closed text) h in
            before (λ d. eqb d 92) refl d (e ∷ text) f (and_from (is_in_line e) (list_all is_in_line text) (begins e text parts.0) (two parts.1))
        by false f h two one =
            let parts = and_parts (not (eqb d 34 || eqb d 10)) (is_string_closed (e ∷ text)) h in
            before (λ d. not (eqb d 34 || eqb d 10)) refl d (e ∷ text) parts.0 (one parts.1)

-- ---- punctuators, and all

marks_in_line : list_all (λ text. list_all is_in_line text) punctuators ≡ true
unfolding punctuators
marks_in_line = refl

pub form_in_line : (text : Characters) → is_form text ≡ true → list_all is_in_line text ≡ true
form_in_line text h =
    by (is_identifier text) refl (is_integer text) refl (is_character text) refl (is_string text) refl h
  where
    by : (a : Bool) → is_identifier text ≡ a → (b : Bool) → is_integer text ≡ b → (d : Bool) → is_character text ≡ d → (e : Bool) → is_string text ≡ e
        → (a || (b || (d || (e || is_listed punctuators text)))) ≡ true → list_all is_in_line text ≡ true
    by true f b g d i e j h = identifier_in_line text f
    by false f true g d i e j h = integer_in_line text g
    by false f false g true i e j h = character_in_line text i
    by false f false g false i true j h = string_in_line text j
    by false f false g false i false j h = listed_passes (λ t. list_all is_in_line t) punctuators text marks_in_line h

-- the place after characters without a line feed
pub after_line : (place : Place) (text : Characters) → list_all is_in_line text ≡ true
    → after_all place text ≡ record { line = place.line; column = place.column + length text }
after_line place [] h = let same : place.column ≡ place.column + 0 = omega arith in ap (λ k. record { line = place.line; column = k }) same
after_line place (c ∷ text) h =
    let parts = and_parts (is_in_line c) (list_all is_in_line text) h in
    let one : after place c ≡ record { line = place.line; column = place.column + 1 } = flat (eqb c 10) parts.0 in
    let same : (place.column + 1) + length text ≡ place.column + suc (length text) = omega arith in
    ap (λ next. after_all next text) one ∙ after_line (record { line = place.line; column = place.column + 1 }) text parts.1
    ∙ ap (λ k. record { line = place.line; column = k }) same
  where
    flat : (b : Bool) → not b ≡ true → cond {A = Place} b (record { line = place.line + 1; column = 1 }) (record { line = place.line; column = place.column + 1 }) ≡ record { line = place.line; column = place.column + 1 }
    flat true h = absurd (true≢false (sym h))
    flat false h = refl

pub after_front : (place : Place) (n : ℕ) (text : Characters) → n ≤ length text → list_all is_in_line (take n text) ≡ true
    → record { line = place.line; column = place.column + n } ≡ after_all place (take n text)
after_front place n text within h =
    let long = length-take-le n text within in
    sym (after_line place (take n text) h ∙ ap (λ k. record { line = place.line; column = place.column + k }) long)

-- the place after a token
pub after_token : (place at : Place) (names : List Text) (text : Characters) (found : Found) → token_at at names text ≡ Ok found
    → record { line = place.line; column = place.column + found.length } ≡ after_all place (take found.length text)
after_token place at names text found h =
    let is = longest_at_its_place at names text found h in
    after_front place found.length text is.within (form_in_line (take found.length text) is.form)
