-- Runs that are all of a text, and words.
use Rattle.std.proofs.Common.{◌≡◌, ◌↔◌, ℕ, suc, ◌+◌, ◌<◌, ◌≤◌, Bool, true, false, ◌&&◌, cond, ltb, arith, subst, Option, Some, None, MatchOption, List, [], ◌∷◌, drop, length, All, chars, encode_utf8_all, IsTrue, refl, sym, ap, ◌∙◌, true≢false}
use Rattle.std.proofs.Math.Bool.{and-false}
use Rattle.std.proofs.lemmas.Bool.{and_from, and_parts, ltb-true}
use Rattle.std.proofs.lemmas.List.Elements.{All-cons, All-nil}
use Rattle.std.proofs.lemmas.Str.{encodes-chars, IsUtf8-from_is_utf8, is_utf8-from_IsUtf8}
use Rattle.std.proofs.lemmas.Bool.Decides.{nat_tests}
use Rattle.std.specs.Cmp.Lexicographic.{bytes_decides}
use Rattle.std.specs.Char.{is_ascii}
use Rattle.std.specs.List.{prefix_len, list_all}
use Rattle.std.specs.Str.{IsUtf8, is_utf8}
use Rattle.cxx_base.specs.Texts.{Text, with_text}
use Rattle.cxx_tokens.specs.Characters.{Characters, is_before_marks}
use Rattle.cxx_tokens.specs.Gaps.{is_empty}
use Rattle.cxx_tokens.specs.Lex.{before_zero, is_name, is_short_and_composed, names_with_string}
use Rattle.cxx_tokens.proofs.AsciiFronts.{all_ascii}
use Rattle.ucd_normal.specs.declared.forms.Form.TheVariants.{Nfc}
use Rattle.unicode_normalization.proofs.FormsLemmas.{class-latin, normalize-ascii, normalize-passes, passes, quick_check-below}
use Rattle.unicode_normalization.proofs.OrderLemmas.{is_ordered-nil, is_ordered-starter}
use Rattle.unicode_normalization.proofs.TableFacts.{is_yes}
use Rattle.unicode_normalization.specs.Order.{is_ordered}
use Rattle.unicode_normalization.specs.Forms.{IsInForm, is_in_form}

-- nothing is behind a run exactly where all belong to it
pub all_in_run : (p : ℕ → Bool) (text : Characters) → is_empty (drop (prefix_len p text) text) ≡ list_all p text
all_in_run p [] = refl
all_in_run p (c ∷ text) = by (p c) refl (all_in_run p text)
  where
    by : (b : Bool) → p c ≡ b → is_empty (drop (prefix_len p text) text) ≡ list_all p text
        → is_empty (drop (cond b (1 + prefix_len p text) 0) (c ∷ text)) ≡ (b && list_all p text)
    by true e more = let one : 1 + prefix_len p text ≡ suc (prefix_len p text) = omega arith in ap (λ k. is_empty (drop k (c ∷ text))) one ∙ more
    by false e more = refl

-- ---- words

spelled : (word : Text) → IsUtf8 word → length (encode_utf8_all (chars word)) ≡ length word
spelled word utf8 = ap length (encodes-chars word utf8)

pub too_long : (word : Text) → IsUtf8 word → 255 < length word → false ≡ is_short_and_composed (chars word)
too_long word utf8 h =
    let e = spelled word utf8 in
    let long : ltb 255 (length (encode_utf8_all (chars word))) ≡ true = grind (arith, nat_tests) in
    rw long refl

pub short_and_composed : (word : Text) → IsUtf8 word → length word ≤ 255 → (answer : Bool) → (IsTrue answer ↔ IsInForm Nfc (chars word))
    → answer ≡ is_short_and_composed (chars word)
short_and_composed word utf8 h answer says =
    let e = spelled word utf8 in
    let short : ltb 255 (length (encode_utf8_all (chars word))) ≡ false = grind (arith, nat_tests) in
    by answer (is_in_form Nfc (chars word)) says refl ∙ sym (rw short refl)
  where
    by : (a b : Bool) → (IsTrue a ↔ IsInForm Nfc (chars word)) → is_in_form Nfc (chars word) ≡ b → a ≡ is_in_form Nfc (chars word)
    by true true says e = sym e
    by false false says e = sym e
    by true false says e = sym ((bytes_decides _ _).1 (says.0 refl))
    by false true says e = absurd (true≢false (sym (says.1 ((bytes_decides _ _).0 e))))

all_small : (cs : Characters) → list_all is_ascii cs ≡ true → All (λ c. c < 128) cs
all_small [] h = All-nil (λ c. c < 128)
all_small (c ∷ cs) h =
    let parts = and_parts (is_ascii c) (list_all is_ascii cs) h in
    All-cons (λ c. c < 128) c cs (ltb-true c 128 parts.0) (all_small cs parts.1)

-- a text with a byte for each character is ASCII, which is in each normalization form
pub ascii_composed : (word : Text) → IsUtf8 word → length word ≤ 255 → length word ≡ length (chars word) → true ≡ is_short_and_composed (chars word)
ascii_composed word utf8 h long = short_and_composed word utf8 h true ((λ _. composed), (λ _. refl))
  where
    composed : IsInForm Nfc (chars word)
    composed = normalize-ascii Nfc (chars word) (all_small (chars word) (all_ascii word utf8 long))

-- one whose characters stand before the combining marks is in form C
before_marks : (cs : Characters) → is_before_marks cs ≡ true → (list_all (passes Nfc) cs ≡ true) × (is_ordered cs ≡ true)
before_marks [] h = (refl, is_ordered-nil)
before_marks (c ∷ cs) h =
    let parts = and_parts (ltb c 0x300) (is_before_marks cs) h in
    let first : c < 0x300 = ltb-true c 0x300 parts.0 in
    let rest = before_marks cs parts.1 in
    let starter = class-latin c first in
    (and_from (passes Nfc c) (list_all (passes Nfc) cs) (ap is_yes (quick_check-below Nfc c first)) rest.0, is_ordered-starter c cs (omega (arith, starter)) rest.1)

pub before_marks_composed : (word : Text) → IsUtf8 word → length word ≤ 255 → is_before_marks (chars word) ≡ true → true ≡ is_short_and_composed (chars word)
before_marks_composed word utf8 h all = short_and_composed word utf8 h true ((λ _. composed), (λ _. refl))
  where
    composed : IsInForm Nfc (chars word)
    composed = let parts = before_marks (chars word) all in normalize-passes Nfc (chars word) parts.0 parts.1

-- ---- names of strings

pub not_utf8 : (bytes : Text) → (¬ IsUtf8 bytes) → is_utf8 bytes ≡ false
not_utf8 bytes h = by (is_utf8 bytes) refl
  where
    by : (b : Bool) → is_utf8 bytes ≡ b → b ≡ false
    by true e = absurd (h (IsUtf8-from_is_utf8 bytes e))
    by false e = refl

-- a front that could not be a name
pub names_stay : (names : List Text) (bytes : Text) → (is_utf8 (before_zero bytes) && is_name (before_zero bytes)) ≡ false
    → names ≡ names_with_string names bytes
names_stay names bytes h = rw h refl

-- one that could be
pub name_is_added : (names : List Text) (bytes text : Text) → text ≡ before_zero bytes → (is_utf8 (before_zero bytes) && is_name (before_zero bytes)) ≡ true
    → with_text names text ≡ names_with_string names bytes
name_is_added names bytes text h named = ap (with_text names) h ∙ rw named refl

-- whether bytes may be a name, by their text
pub no_text_no_name : (bytes : Text) → (¬ IsUtf8 bytes) → (is_utf8 bytes && is_name bytes) ≡ false
no_text_no_name bytes h = ap (λ b. b && is_name bytes) (not_utf8 bytes h)

pub is_no_name : (bytes text : Text) → text ≡ bytes → false ≡ is_name text → (is_utf8 bytes && is_name bytes) ≡ false
is_no_name bytes text same h = ap (λ b. is_utf8 bytes && b) (ap is_name (sym same) ∙ sym h) ∙ and-false (is_utf8 bytes)

pub is_a_name : (bytes text : Text) → text ≡ bytes → IsUtf8 bytes → true ≡ is_name text → (is_utf8 bytes && is_name bytes) ≡ true
is_a_name bytes text same utf8 h = and_from (is_utf8 bytes) (is_name bytes) (is_utf8-from_IsUtf8 bytes utf8) (ap is_name (sym same) ∙ sym h)

-- what is said of no value, and of one
pub none_matches : {X : Type 0} (o : Option X) (A : Type 0) (B : X → Type 0) → o ≡ None → MatchOption o A B → A
none_matches None A B e h = h
none_matches (Some x) A B e h = cc e

pub some_matches : {X : Type 0} (o : Option X) (x : X) (A : Type 0) (B : X → Type 0) → o ≡ Some x → MatchOption o A B → B x
some_matches None x A B e h = cc e
some_matches (Some y) x A B e h = subst B (cc e) h
