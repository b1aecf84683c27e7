-- The token at the front of a text is the longest there.
use Rattle.std.proofs.Common.{◌≡◌, ℕ, zero, suc, ◌+◌, ◌<◌, ◌≤◌, Bool, true, false, ◌&&◌, ◌||◌, cond, eqb, ltb, not, List, [], ◌∷◌, length, take, drop, codes, encode_utf8_all, Option, Some, None, Result, Ok, Err, refl, sym, ap, subst, ◌∙◌, arith, true≢false}
use Rattle.std.proofs.Math.Bool.{and-false}
use Rattle.std.proofs.lemmas.Bool.{and_parts, false_from_ne_true, or_right, eqb-false, eqb-true, ltb-true}
use Rattle.std.proofs.lemmas.Bool.Decides.{nat_tests}
use Rattle.std.proofs.lemmas.List.{length-take-le}
use Rattle.std.proofs.lemmas.List.Sums.{prefix_len-le-length}
use Rattle.std.specs.Char.{is_ascii_alphabetic, is_ascii_digit}
use Rattle.std.specs.List.{list_all, prefix_len}
use Rattle.cxx_base.specs.Texts.{Text}
use Rattle.cxx_base.specs.declared.place.Place.{Place}
use Rattle.unicode_ident.proofs.IdentLemmas.{is_xid_start-ascii}
use Rattle.cxx_tokens.specs.Characters.{Characters, begins_identifier, begins_with, continues_identifier, double_quote, first_is, is_digit_in, single_quote}
use Rattle.cxx_tokens.specs.Lex.{◌>>=◌, Found, character_token, integer_kind, integer_token, is_identifier, is_short_and_composed, kind_or_too_large, names_with_string, names_with_word, punctuator_token, reserved, word_kind, word_len, word_token}
use Rattle.cxx_tokens.specs.declared.token.TokenKind.{TokenKind}
use Rattle.cxx_tokens.specs.declared.token.TokenKind.TheVariants as kind
use Rattle.cxx_tokens.specs.Literals.{Escape, Integer, Quoted, character_at, integer_at, string_at}
use Rattle.cxx_tokens.specs.Munch.{IsLongest, LongestAtItsPlace, is_character, is_integer, is_listed, is_string, is_form}
use Rattle.cxx_tokens.specs.Punctuators.{Punctuator, is_bracket_and_scope, punctuator_at}
use Rattle.cxx_tokens.specs.Tables.{punctuators}
use Rattle.cxx_tokens.specs.Faults.{Fault, L2, L5}
use Rattle.cxx_tokens.proofs.Beginnings.{at_end, word_here, integer_here, character_here, string_here, punctuator_here}
use Rattle.cxx_tokens.proofs.CharacterFronts.{character_within, character_whole, no_longer_character}
use Rattle.cxx_tokens.proofs.Fronts.{beyond_run, listed_passes, none_longer, run_front}
use Rattle.cxx_tokens.proofs.IntegerFronts.{integer_whole}
use Rattle.cxx_tokens.proofs.MarkFronts.{mark_found}
use Rattle.cxx_tokens.proofs.NumberFronts.{no_number}
use Rattle.cxx_tokens.proofs.StringFronts.{no_longer_string, string_whole, string_within}
use Rattle.cxx_tokens.proofs.Words.{below_passes}

-- ---- no two kinds begin alike

-- an ASCII character that begins no word
abbrev pub begins_no_word : ℕ → Bool
begins_no_word c = ltb c 128 && not (is_ascii_alphabetic c || eqb c 95)

-- one that none of the other kinds begins with
abbrev begins_mark : ℕ → Bool
begins_mark c = begins_no_word c && (not (is_ascii_digit c) && (not (eqb c 39) && not (eqb c 34)))

marks_begin : list_all (λ text. first_is begins_mark text) punctuators ≡ true
unfolding punctuators
marks_begin = refl

pub no_word_begins : (c : ℕ) → begins_no_word c ≡ true → begins_identifier c ≡ false
no_word_begins c h =
    let parts_of = and_parts (ltb c 128) (not (is_ascii_alphabetic c || eqb c 95)) h in
    ap (λ b. b || eqb c 95) (is_xid_start-ascii c (ltb-true c 128 parts_of.0)) ∙ by (is_ascii_alphabetic c || eqb c 95) parts_of.1
  where
    by : (b : Bool) → not b ≡ true → b ≡ false
    by true h = sym h
    by false h = refl

pub digit_begins_no_word : (c : ℕ) → is_ascii_digit c ≡ true → begins_identifier c ≡ false
digit_begins_no_word c digit =
    no_word_begins c (by (is_ascii_digit c) digit (below_passes 58 (λ c. not (is_ascii_digit c) || begins_no_word c) refl c (grind (arith, nat_tests))))
  where
    by : (b : Bool) → b ≡ true → (not b || begins_no_word c) ≡ true → begins_no_word c ≡ true
    by true e h = h
    by false e h = absurd (true≢false (sym e))

-- no word begins with this character
begins_not_with : (d : ℕ) → begins_no_word d ≡ true → (c : ℕ) → begins_identifier c ≡ true → eqb c d ≡ false
begins_not_with d other c word = false_from_ne_true _ (λ e.
    let same : c ≡ d = eqb-true c d e in
    true≢false (sym word ∙ ap begins_identifier same ∙ no_word_begins d other))

digit_is_not : (d : ℕ) → is_ascii_digit d ≡ false → (c : ℕ) → is_ascii_digit c ≡ true → eqb c d ≡ false
digit_is_not d other c digit = false_from_ne_true _ (λ e.
    let same : c ≡ d = eqb-true c d e in
    true≢false (sym digit ∙ ap is_ascii_digit same ∙ other))

no_word : (c : ℕ) (text : Characters) → begins_identifier c ≡ false → is_identifier (c ∷ text) ≡ false
no_word c text h = rw h refl

no_integer : (c : ℕ) (text : Characters) → is_ascii_digit c ≡ false → is_integer (c ∷ text) ≡ false
no_integer c text h =
    let zero : eqb c 48 ≡ false = false_from_ne_true _ (λ e. true≢false (sym (ap is_ascii_digit (eqb-true c 48 e)) ∙ h)) in
    let none : is_digit_in 10 c ≡ false = grind (arith, nat_tests) in
    rw zero (no_number 10 c text none)

no_character : (c : ℕ) (text : Characters) → eqb c 39 ≡ false → is_character (c ∷ text) ≡ false
no_character c text h = rw h refl

no_string : (c : ℕ) (text : Characters) → eqb c 34 ≡ false → is_string (c ∷ text) ≡ false
no_string c text h = rw h refl

no_mark : (c : ℕ) (text : Characters) → begins_mark c ≡ false → is_listed punctuators (c ∷ text) ≡ false
no_mark c text h = false_from_ne_true _ (λ yes. true≢false (sym (listed_passes (λ text. first_is begins_mark text) punctuators (c ∷ text) marks_begin yes) ∙ h))

-- what begins another kind begins no punctuator
word_is_no_mark : (c : ℕ) → begins_identifier c ≡ true → begins_mark c ≡ false
word_is_no_mark c word = false_from_ne_true _ (λ mark. true≢false (sym word ∙ no_word_begins c (and_parts (begins_no_word c) _ mark).0))

digit_is_no_mark : (c : ℕ) → is_ascii_digit c ≡ true → begins_mark c ≡ false
digit_is_no_mark c digit = rw digit (and-false _)

none_of : (a b c d e : Bool) → a ≡ false → b ≡ false → c ≡ false → d ≡ false → e ≡ false → (a || (b || (c || (d || e)))) ≡ false
none_of a b c d e ha hb hc hd he = rw (ha, hb, hc, hd, he) refl

-- ---- the token and the longer fronts

integer_is : (text : Characters) → is_integer text ≡ true → is_form text ≡ true
integer_is text h = or_right (is_identifier text) _ (rw h refl)

character_is : (text : Characters) → is_character text ≡ true → is_form text ≡ true
character_is text h = or_right (is_identifier text) _ (or_right (is_integer text) _ (rw h refl))

string_is : (text : Characters) → is_string text ≡ true → is_form text ≡ true
string_is text h = or_right (is_identifier text) _ (or_right (is_integer text) _ (or_right (is_character text) _ (rw h refl)))

mark_is : (text : Characters) → is_listed punctuators text ≡ true → is_form text ≡ true
mark_is text h = or_right (is_identifier text) _ (or_right (is_integer text) _ (or_right (is_character text) _ (or_right (is_string text) _ h)))

bracket_first : (c : ℕ) (rest : Characters) → is_bracket_and_scope (c ∷ rest) ≡ true → eqb c 91 ≡ true
bracket_first c rest h = (and_parts (eqb c 91) _ ((and_parts (begins_with (codes "[::") (c ∷ rest)) _ h).0)).0

-- a longer front begins as the text does
begun : (n : ℕ) (c : ℕ) (rest : Characters) → ((k : ℕ) → n < suc k → suc k ≤ length (c ∷ rest) → is_form (c ∷ take k rest) ≡ false)
    → (m : ℕ) → n < m → m ≤ length (c ∷ rest) → is_form (take m (c ∷ rest)) ≡ false
begun n c rest go zero less within = absurd (omega (arith, less))
begun n c rest go (suc k) less within = go k less within

built : (n : ℕ) (c : ℕ) (rest : Characters) → n ≤ length (c ∷ rest) → is_form (take n (c ∷ rest)) ≡ true → eqb c 91 ≡ false
    → ((k : ℕ) → n < suc k → suc k ≤ length (c ∷ rest) → is_form (c ∷ take k rest) ≡ false) → IsLongest n (c ∷ rest)
built n c rest few form other go =
    record {
      within = few;
      form = form;
      longest = λ no m less within. begun n c rest go m less within;
      bracket = λ yes. absurd (true≢false (sym (bracket_first c rest yes) ∙ other));
    }

-- ---- each kind by its first character

module _ (c : ℕ) (rest : Characters) where
  -- a word as long as it goes on
  pub word_longest : begins_identifier c ≡ true → IsLongest (word_len (c ∷ rest)) (c ∷ rest)
  word_longest word =
      let run = prefix_len continues_identifier rest in
      let one : 1 + run ≡ suc run = omega arith in
      let most = prefix_len-le-length continues_identifier rest in
      let passes = run_front continues_identifier run rest (omega arith) in
      let whole : is_identifier (c ∷ take run rest) ≡ true = rw (word, passes) refl in
      let form : is_form (c ∷ take run rest) ≡ true = rw whole refl in
      built (1 + run) c rest (omega (arith, most)) (ap (λ k. is_form (take k (c ∷ rest))) one ∙ form)
      (begins_not_with 91 refl c word)
      (λ k less within.
      let no : list_all continues_identifier (take k rest) ≡ false = beyond_run continues_identifier k rest (omega (arith, less)) (omega (arith, within)) in
      none_of _ _ _ _ _ (longer_word k no) (no_integer c (take k rest) (false_from_ne_true _ (λ digit. true≢false (sym word ∙ digit_begins_no_word c digit))))
      (no_character c (take k rest) (begins_not_with 39 refl c word)) (no_string c (take k rest) (begins_not_with 34 refl c word)) (no_mark c (take k rest) (word_is_no_mark c word)))
    where
      longer_word : (k : ℕ) → list_all continues_identifier (take k rest) ≡ false → is_identifier (c ∷ take k rest) ≡ false
      longer_word k none = rw none (and-false (begins_identifier c))

  pub integer_longest : begins_identifier c ≡ false → is_ascii_digit c ≡ true → IsLongest (integer_at (c ∷ rest)).length (c ∷ rest)
  integer_longest word digit =
      let is = integer_whole c rest digit in
      built (integer_at (c ∷ rest)).length c rest is.within (integer_is (take (integer_at (c ∷ rest)).length (c ∷ rest)) is.whole) (digit_is_not 91 refl c digit)
      (λ k less within.
      none_of _ _ _ _ _ (no_word c (take k rest) word) (is.longer (suc k) less within) (no_character c (take k rest) (digit_is_not 39 refl c digit))
      (no_string c (take k rest) (digit_is_not 34 refl c digit)) (no_mark c (take k rest) (digit_is_no_mark c digit)))

  pub character_longest : begins_identifier c ≡ false → is_ascii_digit c ≡ false → c ≡ single_quote → (e : Escape) → character_at rest ≡ Some e
      → IsLongest (suc e.length) (c ∷ rest)
  character_longest word digit quote e h =
      let n = suc e.length in
      let few = character_within rest e h in
      let whole = character_whole c rest e (ap (λ c. eqb c single_quote) quote) h in
      built n c rest (omega (arith, few)) (character_is (take n (c ∷ rest)) whole) (ap (λ c. eqb c 91) quote)
      (λ k less within.
      none_of _ _ _ _ _ (no_word c (take k rest) word) (no_integer c (take k rest) digit)
      (none_longer is_character no_longer_character n (suc k) (c ∷ rest) whole less within)
      (no_string c (take k rest) (ap (λ c. eqb c 34) quote)) (no_mark c (take k rest) (rw quote refl)))

  pub string_longest : begins_identifier c ≡ false → is_ascii_digit c ≡ false → c ≡ double_quote → (place : Place) (q : Quoted) → string_at place rest ≡ Ok q
      → IsLongest (suc q.length) (c ∷ rest)
  string_longest word digit quote place q h =
      let n = suc q.length in
      let few = string_within zero place rest q h in
      let whole = string_whole c place rest q (ap (λ c. eqb c double_quote) quote) h in
      built n c rest (omega (arith, few)) (string_is (take n (c ∷ rest)) whole) (ap (λ c. eqb c 91) quote)
      (λ k less within.
      none_of _ _ _ _ _ (no_word c (take k rest) word) (no_integer c (take k rest) digit)
      (no_character c (take k rest) (ap (λ c. eqb c 39) quote))
      (none_longer is_string no_longer_string n (suc k) (c ∷ rest) whole less within) (no_mark c (take k rest) (rw quote refl)))

  pub mark_longest : begins_identifier c ≡ false → is_ascii_digit c ≡ false → eqb c 39 ≡ false → eqb c 34 ≡ false → (mark : Punctuator)
      → punctuator_at (c ∷ rest) ≡ Some mark → IsLongest mark.length (c ∷ rest)
  mark_longest word digit single double mark e =
      let is = mark_found (c ∷ rest) mark e in
      record {
        within = is.within;
        form = mark_is (take mark.length (c ∷ rest)) is.listed;
        longest = λ no m less within. longer no m less within (is.longest no m less within);
        bracket = is.bracket;
      }
    where
      longer : is_bracket_and_scope (c ∷ rest) ≡ false → (m : ℕ) → mark.length < m → m ≤ length (c ∷ rest) → is_listed punctuators (take m (c ∷ rest)) ≡ false
          → is_form (take m (c ∷ rest)) ≡ false
      longer alone zero less within none = absurd (omega (arith, less))
      longer alone (suc k) less within none =
          none_of _ _ _ _ _ (no_word c (take k rest) word) (no_integer c (take k rest) digit) (no_character c (take k rest) single) (no_string c (take k rest) double) none

-- ---- the parts of what was found

pub word_ok : (place : Place) (names : List Text) (word : Characters) (found : Found) → word_token place names word ≡ Ok found
    → (is_short_and_composed word ≡ true) × (found ≡ record { kind = word_kind names (encode_utf8_all word) (reserved (encode_utf8_all word)); length = length word; names = names_with_word names (encode_utf8_all word) (reserved (encode_utf8_all word)) })
word_ok place names word found h = by (is_short_and_composed word) refl h
  where
    by : (b : Bool) → is_short_and_composed word ≡ b
        → cond b (Ok (record { kind = word_kind names (encode_utf8_all word) (reserved (encode_utf8_all word)); length = length word; names = names_with_word names (encode_utf8_all word) (reserved (encode_utf8_all word)) })) (Err (L5 place)) ≡ Ok found
        → (is_short_and_composed word ≡ true) × (found ≡ record { kind = word_kind names (encode_utf8_all word) (reserved (encode_utf8_all word)); length = length word; names = names_with_word names (encode_utf8_all word) (reserved (encode_utf8_all word)) })
    by true e h = (e, cc h)
    by false e h = cc h

pub integer_ok : (place : Place) (names : List Text) (text : Characters) (i : Integer) (found : Found) → integer_token place names text i ≡ Ok found
    → (k : TokenKind) × (first_is continues_identifier (drop i.length text) ≡ false) × (integer_kind i.decimal i.unsigned i.longs i.value ≡ Some k)
    × (found ≡ record { kind = k; length = i.length; names = names })
integer_ok place names text i found h = by (first_is continues_identifier (drop i.length text)) refl (integer_kind i.decimal i.unsigned i.longs i.value) refl h
  where
    by : (b : Bool) → first_is continues_identifier (drop i.length text) ≡ b → (o : Option TokenKind) → integer_kind i.decimal i.unsigned i.longs i.value ≡ o
        → cond b (Err (L2 place)) (kind_or_too_large place names i.length o) ≡ Ok found
        → (k : TokenKind) × (first_is continues_identifier (drop i.length text) ≡ false) × (integer_kind i.decimal i.unsigned i.longs i.value ≡ Some k)
        × (found ≡ record { kind = k; length = i.length; names = names })
    by true e o f h = cc h
    by false e None f h = cc h
    by false e (Some k) f h = (k, e, f, cc h)

pub character_ok : (place : Place) (names : List Text) (o : Option Escape) (found : Found) → character_token place names o ≡ Ok found
    → (e : Escape) × (o ≡ Some e) × (found ≡ record { kind = kind.Character e.byte; length = 1 + e.length; names = names })
character_ok place names None found h = cc h
character_ok place names (Some e) found h = (e, refl, cc h)

pub string_ok : (place : Place) (names : List Text) (read : Result Quoted Fault) (found : Found)
    → (read >>= λ q. Ok (record { kind = kind.Text q.bytes; length = 1 + q.length; names = names_with_string names q.bytes })) ≡ Ok found
    → (q : Quoted) × (read ≡ Ok q) × (found ≡ record { kind = kind.Text q.bytes; length = 1 + q.length; names = names_with_string names q.bytes })
string_ok place names (Ok q) found h = (q, refl, cc h)
string_ok place names (Err fault) found h = cc h

pub mark_ok : (place : Place) (names : List Text) (o : Option Punctuator) (found : Found) → punctuator_token place names o ≡ Ok found
    → (mark : Punctuator) × (o ≡ Some mark) × (found ≡ record { kind = kind.Punctuator mark.number; length = mark.length; names = names })
mark_ok place names None found h = cc h
mark_ok place names (Some mark) found h = (mark, refl, cc h)

-- ---- the token

same_length : (n : ℕ) (text : Characters) (found other : Found) → found ≡ other → other.length ≡ n → IsLongest n text → IsLongest found.length text
same_length n text found other same long is = subst (λ k. IsLongest k text) (sym (ap (λ (f : Found). f.length) same ∙ long)) is

pub longest_at_its_place : LongestAtItsPlace
longest_at_its_place place names [] found h = cc (at_end place names [] refl, h)
longest_at_its_place place names (c ∷ rest) found h =
    by (begins_identifier c) refl (is_ascii_digit c) refl (eqb c single_quote) refl (eqb c double_quote) refl
  where
    by : (w : Bool) → begins_identifier c ≡ w → (d : Bool) → is_ascii_digit c ≡ d → (s : Bool) → eqb c single_quote ≡ s → (q : Bool) → eqb c double_quote ≡ q
        → IsLongest found.length (c ∷ rest)
    by true word d digit s single q double =
        let ok = word_ok place names (take (word_len (c ∷ rest)) (c ∷ rest)) found (sym (word_here place names (c ∷ rest) c rest refl word) ∙ h) in
        let is = word_longest c rest word in
        same_length (word_len (c ∷ rest)) (c ∷ rest) found _ ok.1 (length-take-le (word_len (c ∷ rest)) (c ∷ rest) is.within) is
    by false word true digit s single q double =
        let ok = integer_ok place names (c ∷ rest) (integer_at (c ∷ rest)) found (sym (integer_here place names (c ∷ rest) c rest refl word digit) ∙ h) in
        same_length (integer_at (c ∷ rest)).length (c ∷ rest) found _ ok.3 refl (integer_longest c rest word digit)
    by false word false digit true single q double =
        let quote : c ≡ single_quote = eqb-true c single_quote single in
        let ok = character_ok place names (character_at rest) found (sym (character_here place names (c ∷ rest) c rest refl word digit quote) ∙ h) in
        same_length (suc ok.0.length) (c ∷ rest) found _ ok.2 (omega arith) (character_longest c rest word digit quote ok.0 ok.1)
    by false word false digit false single true double =
        let quote : c ≡ double_quote = eqb-true c double_quote double in
        let ok = string_ok place names (string_at place rest) found (sym (string_here place names (c ∷ rest) c rest refl word digit (eqb-false c single_quote single) quote) ∙ h) in
        same_length (suc ok.0.length) (c ∷ rest) found _ ok.2 (omega arith) (string_longest c rest word digit quote place ok.0 ok.1)
    by false word false digit false single false double =
        let ok = mark_ok place names (punctuator_at (c ∷ rest)) found (sym (punctuator_here place names (c ∷ rest) c rest refl word digit (eqb-false c single_quote single) (eqb-false c double_quote double)) ∙ h) in
        same_length ok.0.length (c ∷ rest) found _ ok.2 refl (mark_longest c rest word digit single double ok.0 ok.1)
