-- The tokens that the scan finds are those of the definition, and where it finds none there is none.
use Rattle.std.proofs.Common.{◌≡◌, ◌⊎◌, inl, inr, ℕ, zero, suc, ◌+◌, ◌<◌, ◌≤◌, Bool, true, false, cond, eqb, List, [], ◌∷◌, ◌++◌, length, take, drop, codes, encode_utf8_all, Option, Some, None, option_map, Result, Ok, Err, refl, sym, ap, ◌∙◌, arith, true≢false}
use Rattle.std.proofs.Math.Seq.{take-append_seam}
use Rattle.std.proofs.lemmas.Bool.{and_parts, cases_lt, eqb-true, eqb-false}
use Rattle.std.proofs.lemmas.List.{take-append-drop}
use Rattle.std.specs.Char.{is_ascii_digit}
use Rattle.std.specs.Prelude.{encode_utf8}
use Rattle.cxx_base.specs.Texts.{Text}
use Rattle.cxx_base.specs.declared.place.Place.{Place}
use Rattle.cxx_base.specs.declared.code.Code.TheVariants as code
use Rattle.cxx_tokens.specs.Characters.{Characters, backslash, begins_identifier, begins_with, continues_identifier, double_quote, first_is, line_feed, single_quote, slash, start}
use Rattle.cxx_tokens.specs.Cutting.{Said, Plain, Quoting, character_said, code_at, integer_said, is_open, kind_by, names_by, punctuator_said, said_of, string_said, word_by, word_said}
use Rattle.cxx_tokens.specs.Faults.{Fault, L2, L3, L4, L5}
use Rattle.cxx_tokens.specs.Lex.{◌>>=◌, Found, character_token, integer_kind, integer_token, is_short_and_composed, kind_or_too_large, names_with_string, names_with_word, punctuator_token, reserved, token_at, word_kind, word_len, word_token}
use Rattle.cxx_tokens.specs.Literals.{Escape, Integer, Quoted, behind_one, no_escape, unless_none, character_at, escape_at, integer_at, string_at, string_from}
use Rattle.cxx_tokens.specs.Munch.{IsLongest, is_form}
use Rattle.cxx_tokens.specs.Punctuators.{Punctuator, is_bracket_and_scope, punctuator_at}
use Rattle.cxx_tokens.specs.Tables.{punctuators}
use Rattle.cxx_tokens.specs.declared.token.TokenKind.{TokenKind}
use Rattle.cxx_tokens.specs.declared.token.TokenKind.TheVariants as kind
use Rattle.cxx_tokens.proofs.Beginnings.{at_end, character_here, integer_here, punctuator_here, string_here, word_here}
use Rattle.cxx_tokens.proofs.Munch.{character_longest, character_ok, integer_longest, integer_ok, longest_at_its_place, mark_longest, mark_ok, no_word_begins, string_longest, string_ok, word_longest, word_ok}
use Rattle.cxx_tokens.proofs.OpenStrings.{pick, refused_string}
use Rattle.cxx_tokens.proofs.StringFronts.{behind_is}

-- there is one longest front
pub one_longest : (a b : ℕ) (text : Characters) → IsLongest a text → IsLongest b text → a ≡ b
one_longest a b text first second = by (is_bracket_and_scope text) refl
  where
    less : (a b : ℕ) → IsLongest a text → IsLongest b text → is_bracket_and_scope text ≡ false → a < b → true ≡ false
    less a b first second alone h = sym second.form ∙ first.longest alone b h second.within

    by : (c : Bool) → is_bracket_and_scope text ≡ c → a ≡ b
    by true e = first.bracket e ∙ sym (second.bracket e)
    by false e = which (cases_lt a b) (cases_lt b a)
      where
        which : (a < b) ⊎ (b ≤ a) → (b < a) ⊎ (a ≤ b) → a ≡ b
        which (inl h) other = absurd (true≢false (less a b first second e h))
        which (inr h) (inl g) = absurd (true≢false (less b a second first e g))
        which (inr h) (inr g) = omega (arith, h, g)

abbrev pub found_by : List Text → Said → ℕ → Found
found_by names said n = record { kind = kind_by names said; length = n; names = names_by names said }

-- a string says the same wherever it stands
moved : (bytes : Text) (x y : Result Quoted Fault) (q : Quoted) → behind_one bytes x ≡ Ok q → ((r : Quoted) → x ≡ Ok r → y ≡ Ok r) → behind_one bytes y ≡ Ok q
moved bytes x y q h same =
    let r = behind_is bytes x q h in
    ap (behind_one bytes) (same r.0 r.1) ∙ sym (ap (behind_one bytes) r.1) ∙ h

string_anywhere : (left : ℕ) (a b : Place) (text : Characters) (q : Quoted) → string_from left a text ≡ Ok q → string_from left b text ≡ Ok q
string_anywhere zero a b [] q h = cc h
string_anywhere (suc left) a b [] q h = cc h
string_anywhere (suc left) a b (c ∷ text) q h = moved [] (string_from left a text) (string_from left b text) q h (λ r e. string_anywhere left a b text r e)
string_anywhere zero a b (c ∷ text) q h =
    by (eqb c double_quote) (eqb c line_feed) (eqb c backslash) (escape_at text) h (λ left r e. string_anywhere left a b text r e)
  where
    by : (x y z : Bool) (o : Option Escape)
        → cond x (Ok (record { length = 1; bytes = [] })) (cond y (Err (L4 a))
        (cond z (unless_none (no_escape a text) o (λ escape. behind_one (escape.byte ∷ []) (string_from escape.length a text)))
        (behind_one (encode_utf8 c) (string_from zero a text)))) ≡ Ok q
        → ((left : ℕ) (r : Quoted) → string_from left a text ≡ Ok r → string_from left b text ≡ Ok r)
        → cond x (Ok (record { length = 1; bytes = [] })) (cond y (Err (L4 b))
        (cond z (unless_none (no_escape b text) o (λ escape. behind_one (escape.byte ∷ []) (string_from escape.length b text)))
        (behind_one (encode_utf8 c) (string_from zero b text)))) ≡ Ok q
    by true y z o h go = h
    by false true z o h go = cc h
    by false false true None h go = cc h
    by false false true (Some escape) h go = moved (escape.byte ∷ []) (string_from escape.length a text) (string_from escape.length b text) q h (go escape.length)
    by false false false o h go = moved (encode_utf8 c) (string_from zero a text) (string_from zero b text) q h (go zero)

-- ---- what is found is a token

-- what the front of so many characters says
abbrev says_at : Characters → ℕ → Option Said
says_at text n = said_of (take n text) (drop n text)

whole : (n : ℕ) (text : Characters) → take n text ++ drop n text ≡ text
whole n text = take-append-drop n text

module _ (c : ℕ) (rest : Characters) (k : ℕ) where
  private_all : c ∷ (take k rest ++ drop k rest) ≡ c ∷ rest
  private_all = ap (λ (t : Characters). c ∷ t) (whole k rest)

  word_says : begins_identifier c ≡ true → said_of (c ∷ take k rest) (drop k rest) ≡ word_said (c ∷ take k rest)
  unfolding said_of
  word_says word = rw word refl

  integer_says : begins_identifier c ≡ false → is_ascii_digit c ≡ true → said_of (c ∷ take k rest) (drop k rest) ≡ integer_said (c ∷ rest) (integer_at (c ∷ rest))
  unfolding said_of
  integer_says word digit = rw (word, digit) (ap (λ t. integer_said t (integer_at t)) private_all)

  character_says : begins_identifier c ≡ false → is_ascii_digit c ≡ false → eqb c single_quote ≡ true
      → said_of (c ∷ take k rest) (drop k rest) ≡ character_said (character_at rest)
  unfolding said_of
  character_says word digit single = rw (word, digit, single) (ap (λ t. character_said (character_at t)) (whole k rest))

  string_says : begins_identifier c ≡ false → is_ascii_digit c ≡ false → eqb c single_quote ≡ false → eqb c double_quote ≡ true
      → said_of (c ∷ take k rest) (drop k rest) ≡ string_said (string_at start rest)
  unfolding said_of
  string_says word digit single double = rw (word, digit, single, double) (ap (λ t. string_said (string_at start t)) (whole k rest))

  punctuator_says : begins_identifier c ≡ false → is_ascii_digit c ≡ false → eqb c single_quote ≡ false → eqb c double_quote ≡ false
      → said_of (c ∷ take k rest) (drop k rest) ≡ punctuator_said (punctuator_at (c ∷ rest))
  unfolding said_of
  punctuator_says word digit single double = rw (word, digit, single, double) (ap (λ t. punctuator_said (punctuator_at t)) private_all)

word_found : (names : List Text) (text : Text) (o : Option ℕ) → (word_kind names text o ≡ kind_by names (word_by text o)) × (names_with_word names text o ≡ names_by names (word_by text o))
word_found names text (Some word) = (refl, refl)
word_found names text None = (refl, refl)

-- a token, and what it says
pub record TokenFound (names : List Text) (text : Characters) (found : Found) : Type 0 where
  pub longest : IsLongest found.length text
  pub said : Said
  pub says : said_of (take found.length text) (drop found.length text) ≡ Some said
  pub is : found ≡ found_by names said found.length

empty_is_no_form : is_form [] ≡ false
unfolding punctuators
empty_is_no_form = refl

-- the first character apart
pub tail_of : (n : ℕ) (text : Characters) → IsLongest n text → (k : ℕ) × (n ≡ suc k)
tail_of zero text is = absurd (true≢false (sym is.form ∙ empty_is_no_form))
tail_of (suc k) text is = (k, refl)

made : (names : List Text) (c : ℕ) (rest : Characters) (found : Found) (said : Said) → IsLongest found.length (c ∷ rest)
    → ((k : ℕ) → found.length ≡ suc k → said_of (c ∷ take k rest) (drop k rest) ≡ Some said) → found ≡ found_by names said found.length
    → TokenFound names (c ∷ rest) found
made names c rest found said longest says is =
    let tail = tail_of found.length (c ∷ rest) longest in
    record {
      longest = longest;
      said = said;
      says = ap (says_at (c ∷ rest)) tail.1 ∙ says tail.0 tail.1;
      is = is;
    }

pub token_found : (place : Place) (names : List Text) (text : Characters) (found : Found) → token_at place names text ≡ Ok found → TokenFound names text found
token_found place names [] found h = cc (at_end place names [] refl, h)
token_found place names (c ∷ rest) found h =
    by (begins_identifier c) refl (is_ascii_digit c) refl (eqb c single_quote) refl (eqb c double_quote) refl
  where
    longest : IsLongest found.length (c ∷ rest)
    longest = longest_at_its_place place names (c ∷ rest) found h

    -- the words of the scan are those that the definition says
    same : (other : Found) (said : Said) → found ≡ other → other.kind ≡ kind_by names said → other.names ≡ names_by names said → found ≡ found_by names said found.length
    same other said e k n =
        e ∙ ap (λ kind. record { kind = kind; length = other.length; names = other.names }) k
        ∙ ap (λ all. record { kind = kind_by names said; length = other.length; names = all }) n
        ∙ ap (λ n. found_by names said n) (sym (ap (λ (f : Found). f.length) e))

    by : (w : Bool) → begins_identifier c ≡ w → (d : Bool) → is_ascii_digit c ≡ d → (s : Bool) → eqb c single_quote ≡ s → (q : Bool) → eqb c double_quote ≡ q
        → TokenFound names (c ∷ rest) found
    by true word d digit s single q double =
        let front = take (word_len (c ∷ rest)) (c ∷ rest) in
        let text = encode_utf8_all front in
        let ok = word_ok place names front found (sym (word_here place names (c ∷ rest) c rest refl word) ∙ h) in
        let said = word_by text (reserved text) in
        let is = word_found names text (reserved text) in
        let long : found.length ≡ word_len (c ∷ rest) = one_longest _ _ (c ∷ rest) longest (word_longest c rest word) in
        made names c rest found said longest
        (λ k e. word_says c rest k word
        ∙ ap word_said (ap (λ n. take n (c ∷ rest)) (sym e ∙ long))
        ∙ ap (λ b. cond b (Some said) None) ok.0)
        (same _ said ok.1 is.0 is.1)
    by false word true digit s single q double =
        let i = integer_at (c ∷ rest) in
        let ok = integer_ok place names (c ∷ rest) i found (sym (integer_here place names (c ∷ rest) c rest refl word digit) ∙ h) in
        made names c rest found (Plain ok.0) longest
        (λ k e. integer_says c rest k word digit
        ∙ ap (λ b. cond b None (option_map Plain (integer_kind i.decimal i.unsigned i.longs i.value))) ok.1 ∙ ap (option_map Plain) ok.2)
        (same _ (Plain ok.0) ok.3 refl refl)
    by false word false digit true single q double =
        let ok = character_ok place names (character_at rest) found (sym (character_here place names (c ∷ rest) c rest refl word digit (eqb-true c single_quote single)) ∙ h) in
        let said = Plain (kind.Character ok.0.byte) in
        made names c rest found said longest (λ k e. character_says c rest k word digit single ∙ ap character_said ok.1) (same _ said ok.2 refl refl)
    by false word false digit false single true double =
        let ok = string_ok place names (string_at place rest) found (sym (string_here place names (c ∷ rest) c rest refl word digit (eqb-false c single_quote single) (eqb-true c double_quote double)) ∙ h) in
        let said = Quoting ok.0.bytes in
        made names c rest found said longest
        (λ k e. string_says c rest k word digit single double ∙ ap string_said (string_anywhere zero place start rest ok.0 ok.1)) (same _ said ok.2 refl refl)
    by false word false digit false single false double =
        let ok = mark_ok place names (punctuator_at (c ∷ rest)) found (sym (punctuator_here place names (c ∷ rest) c rest refl word digit (eqb-false c single_quote single) (eqb-false c double_quote double)) ∙ h) in
        let said = Plain (kind.Punctuator ok.0.number) in
        made names c rest found said longest (λ k e. punctuator_says c rest k word digit single double ∙ ap punctuator_said ok.1) (same _ said ok.2 refl refl)

-- ---- a token of the definition is found

-- what is said, by its parts
pub word_parts : (word : Characters) (said : Said) → word_said word ≡ Some said
    → (is_short_and_composed word ≡ true) × (word_by (encode_utf8_all word) (reserved (encode_utf8_all word)) ≡ said)
word_parts word said h = by (is_short_and_composed word) refl h
  where
    by : (b : Bool) → is_short_and_composed word ≡ b → cond b (Some (word_by (encode_utf8_all word) (reserved (encode_utf8_all word)))) None ≡ Some said
        → (is_short_and_composed word ≡ true) × (word_by (encode_utf8_all word) (reserved (encode_utf8_all word)) ≡ said)
    by true e h = (e, cc h)
    by false e h = cc h

pub mapped_parts : {A : Type 0} (f : A → Said) (o : Option A) (said : Said) → option_map f o ≡ Some said → (x : A) × (o ≡ Some x) × (f x ≡ said)
mapped_parts f None said h = cc h
mapped_parts f (Some x) said h = (x, refl, cc h)

pub integer_parts : (text : Characters) (i : Integer) (said : Said) → integer_said text i ≡ Some said
    → (k : TokenKind) × (first_is continues_identifier (drop i.length text) ≡ false) × (integer_kind i.decimal i.unsigned i.longs i.value ≡ Some k) × (Plain k ≡ said)
integer_parts text i said h = by (first_is continues_identifier (drop i.length text)) refl h
  where
    by : (b : Bool) → first_is continues_identifier (drop i.length text) ≡ b → cond b None (option_map Plain (integer_kind i.decimal i.unsigned i.longs i.value)) ≡ Some said
        → (k : TokenKind) × (first_is continues_identifier (drop i.length text) ≡ false) × (integer_kind i.decimal i.unsigned i.longs i.value ≡ Some k) × (Plain k ≡ said)
    by true e h = cc h
    by false e h = let p = mapped_parts Plain (integer_kind i.decimal i.unsigned i.longs i.value) said h in (p.0, e, p.1, p.2)

pub string_parts : (read : Result Quoted Fault) (said : Said) → string_said read ≡ Some said → (q : Quoted) × (read ≡ Ok q) × (Quoting q.bytes ≡ said)
string_parts (Ok q) said h = (q, refl, cc h)
string_parts (Err fault) said h = cc h

module _ (place : Place) (names : List Text) where
  word_is : (text : Text) (o : Option ℕ) (said : Said) (n : ℕ) → word_by text o ≡ said
      → record { kind = word_kind names text o; length = n; names = names_with_word names text o } ≡ found_by names said n
  word_is text (Some word) said n h = ap (λ said. found_by names said n) h
  word_is text None said n h = ap (λ said. found_by names said n) h

  integer_is_found : (text : Characters) (i : Integer) (said : Said) → integer_said text i ≡ Some said
      → integer_token place names text i ≡ Ok (found_by names said i.length)
  integer_is_found text i said h =
      let p = integer_parts text i said h in
      ap (λ b. cond b (Err (L2 place)) (kind_or_too_large place names i.length (integer_kind i.decimal i.unsigned i.longs i.value))) p.1
      ∙ ap (kind_or_too_large place names i.length) p.2 ∙ ap (λ said. Ok (found_by names said i.length)) p.3

  -- the length of what is found is that of the front
  lengths_agree : (text : Characters) (said : Said) (n m : ℕ) → IsLongest n text → IsLongest m text → token_at place names text ≡ Ok (found_by names said n)
      → token_at place names text ≡ Ok (found_by names said m)
  lengths_agree text said n m first second h = h ∙ ap (λ n. Ok (found_by names said n)) (one_longest n m text first second)

pub token_is_found : (place : Place) (names : List Text) (front rest : Characters) (said : Said) → IsLongest (length front) (front ++ rest) → said_of front rest ≡ Some said
    → token_at place names (front ++ rest) ≡ Ok (found_by names said (length front))
unfolding said_of
token_is_found place names [] rest said longest says = cc says
token_is_found place names (c ∷ front) rest said longest says =
    by (begins_identifier c) refl (is_ascii_digit c) refl (eqb c single_quote) refl (eqb c double_quote) refl says
  where
    text : Characters
    text = front ++ rest

    n : ℕ
    n = length (c ∷ front)

    by : (w : Bool) → begins_identifier c ≡ w → (d : Bool) → is_ascii_digit c ≡ d → (s : Bool) → eqb c single_quote ≡ s → (q : Bool) → eqb c double_quote ≡ q
        → cond w (word_said (c ∷ front)) (cond d (integer_said (c ∷ text) (integer_at (c ∷ text))) (cond s (character_said (character_at text))
        (cond q (string_said (string_at start text)) (punctuator_said (punctuator_at (c ∷ text)))))) ≡ Some said
        → token_at place names (c ∷ text) ≡ Ok (found_by names said n)
    by true word d digit s single q double h =
        let long = one_longest _ _ (c ∷ text) (word_longest c text word) longest in
        let same : take (word_len (c ∷ text)) (c ∷ text) ≡ c ∷ front = ap (λ n. take n (c ∷ text)) long ∙ ap (λ (t : Characters). c ∷ t) (take-append_seam front rest) in
        let p = word_parts (c ∷ front) said h in
        let spelled = encode_utf8_all (c ∷ front) in
        word_here place names (c ∷ text) c text refl word ∙ ap (word_token place names) same
        ∙ ap (λ b. cond b (Ok (record { kind = word_kind names spelled (reserved spelled); length = n; names = names_with_word names spelled (reserved spelled) })) (Err (L5 place))) p.0
        ∙ ap Ok (word_is place names spelled (reserved spelled) said n p.1)
    by false word true digit s single q double h =
        let i = integer_at (c ∷ text) in
        lengths_agree place names (c ∷ text) said i.length n (integer_longest c text word digit) longest
        (integer_here place names (c ∷ text) c text refl word digit ∙ integer_is_found place names (c ∷ text) i said h)
    by false word false digit true single q double h =
        let quote : c ≡ single_quote = eqb-true c single_quote single in
        let p = mapped_parts (λ (e : Escape). Plain (kind.Character e.byte)) (character_at text) said h in
        let one : 1 + p.0.length ≡ suc p.0.length = omega arith in
        lengths_agree place names (c ∷ text) said (suc p.0.length) n (character_longest c text word digit quote p.0 p.1) longest
        (character_here place names (c ∷ text) c text refl word digit quote ∙ ap (character_token place names) p.1
        ∙ ap (λ k. Ok (found_by names (Plain (kind.Character p.0.byte)) k)) one ∙ ap (λ said. Ok (found_by names said (suc p.0.length))) p.2)
    by false word false digit false single true double h =
        let quote : c ≡ double_quote = eqb-true c double_quote double in
        let p = string_parts (string_at start text) said h in
        let here = string_anywhere zero start place text p.0 p.1 in
        let one : 1 + p.0.length ≡ suc p.0.length = omega arith in
        lengths_agree place names (c ∷ text) said (suc p.0.length) n (string_longest c text word digit quote place p.0 here) longest
        (string_here place names (c ∷ text) c text refl word digit (eqb-false c single_quote single) quote
        ∙ ap (λ read. read >>= λ q. Ok (record { kind = kind.Text q.bytes; length = 1 + q.length; names = names_with_string names q.bytes })) here
        ∙ ap (λ k. Ok (found_by names (Quoting p.0.bytes) k)) one ∙ ap (λ said. Ok (found_by names said (suc p.0.length))) p.2)
    by false word false digit false single false double h =
        let p = mapped_parts (λ (mark : Punctuator). Plain (kind.Punctuator mark.number)) (punctuator_at (c ∷ text)) said h in
        lengths_agree place names (c ∷ text) said p.0.length n (mark_longest c text word digit single double p.0 p.1) longest
        (punctuator_here place names (c ∷ text) c text refl word digit (eqb-false c single_quote single) (eqb-false c double_quote double)
        ∙ ap (punctuator_token place names) p.1 ∙ ap (λ said. Ok (found_by names said p.0.length)) p.2)

-- ---- where no token is found

abbrev pub fault_at : Place → Characters → Fault
fault_at place text = record { code = code_at text; place = place }

-- the token of a string that was read
abbrev string_token_by : List Text → Result Quoted Fault → Result Found Fault
string_token_by names read = read >>= λ q. Ok (record { kind = kind.Text q.bytes; length = 1 + q.length; names = names_with_string names q.bytes })

pub token_refused : (place : Place) (names : List Text) (c : ℕ) (rest : Characters) (fault : Fault) → token_at place names (c ∷ rest) ≡ Err fault
    → begins_with (codes "/*") (c ∷ rest) ≡ false → fault ≡ fault_at place (c ∷ rest)
token_refused place names c rest fault h no_comment =
    by (begins_identifier c) refl (is_ascii_digit c) refl (eqb c single_quote) refl (eqb c double_quote) refl
  where
    word_fault : (front : Characters) → word_token place names front ≡ Err fault → L5 place ≡ fault
    word_fault front h = either (is_short_and_composed front) h
      where
        either : (b : Bool) → cond {A = Result Found Fault} b (Ok (record { kind = word_kind names (encode_utf8_all front) (reserved (encode_utf8_all front)); length = length front; names = names_with_word names (encode_utf8_all front) (reserved (encode_utf8_all front)) })) (Err (L5 place)) ≡ Err fault
            → L5 place ≡ fault
        either true h = cc h
        either false h = cc h

    integer_fault : (i : Integer) → integer_token place names (c ∷ rest) i ≡ Err fault
        → fault ≡ record { code = cond (first_is continues_identifier (drop i.length (c ∷ rest))) code.L2 code.L3; place = place }
    integer_fault i h = either (first_is continues_identifier (drop i.length (c ∷ rest))) (integer_kind i.decimal i.unsigned i.longs i.value) h
      where
        either : (b : Bool) (o : Option TokenKind) → cond b (Err (L2 place)) (kind_or_too_large place names i.length o) ≡ Err fault
            → fault ≡ record { code = cond b code.L2 code.L3; place = place }
        either true o h = let same : L2 place ≡ fault = cc h in sym same
        either false None h = let same : L3 place ≡ fault = cc h in sym same
        either false (Some k) h = cc h

    character_fault : (o : Option Escape) → character_token place names o ≡ Err fault → L2 place ≡ fault
    character_fault None h = cc h
    character_fault (Some e) h = cc h

    string_fault : (read : Result Quoted Fault) → string_token_by names read ≡ Err fault → read ≡ Err fault
    string_fault (Ok q) h = cc h
    string_fault (Err other) h = cc h

    mark_fault : (o : Option Punctuator) → punctuator_token place names o ≡ Err fault → L2 place ≡ fault
    mark_fault None h = cc h
    mark_fault (Some mark) h = cc h

    code_by : (b : Bool) → pick place b ≡ record { code = cond b code.L4 code.L2; place = place }
    code_by true = refl
    code_by false = refl

    by : (w : Bool) → begins_identifier c ≡ w → (d : Bool) → is_ascii_digit c ≡ d → (s : Bool) → eqb c single_quote ≡ s → (q : Bool) → eqb c double_quote ≡ q
        → fault ≡ fault_at place (c ∷ rest)
    by true word d digit s single q double =
        let at : code_at (c ∷ rest) ≡ code.L5 = rw word refl in
        sym (word_fault (take (word_len (c ∷ rest)) (c ∷ rest)) (sym (word_here place names (c ∷ rest) c rest refl word) ∙ h)) ∙ ap (λ code. record { code = code; place = place }) (sym at)
    by false word true digit s single q double =
        let i = integer_at (c ∷ rest) in
        let at : code_at (c ∷ rest) ≡ cond (first_is continues_identifier (drop i.length (c ∷ rest))) code.L2 code.L3 = rw (word, digit) refl in
        integer_fault i (sym (integer_here place names (c ∷ rest) c rest refl word digit) ∙ h) ∙ ap (λ code. record { code = code; place = place }) (sym at)
    by false word false digit true single q double =
        let quote : c ≡ single_quote = eqb-true c single_quote single in
        let other : eqb c double_quote ≡ false = ap (λ c. eqb c double_quote) quote in
        let at : code_at (c ∷ rest) ≡ code.L2 = rw (word, digit, no_comment, other) refl in
        sym (character_fault (character_at rest) (sym (character_here place names (c ∷ rest) c rest refl word digit quote) ∙ h)) ∙ ap (λ code. record { code = code; place = place }) (sym at)
    by false word false digit false single true double =
        let at : code_at (c ∷ rest) ≡ cond (is_open rest) code.L4 code.L2 = rw (word, digit, no_comment, double) refl in
        refused_string zero place rest fault refl (string_fault (string_at place rest) (sym (string_here place names (c ∷ rest) c rest refl word digit (eqb-false c single_quote single) (eqb-true c double_quote double)) ∙ h))
        ∙ code_by (is_open rest) ∙ ap (λ code. record { code = code; place = place }) (sym at)
    by false word false digit false single false double =
        let at : code_at (c ∷ rest) ≡ code.L2 = rw (word, digit, no_comment, double) refl in
        sym (mark_fault (punctuator_at (c ∷ rest)) (sym (punctuator_here place names (c ∷ rest) c rest refl word digit (eqb-false c single_quote single) (eqb-false c double_quote double)) ∙ h))
        ∙ ap (λ code. record { code = code; place = place }) (sym at)

-- a comment that does not end
pub comment_refused : (place : Place) (text : Characters) → begins_with (codes "/*") text ≡ true → L4 place ≡ fault_at place text
comment_refused place [] h = absurd (true≢false (sym h))
comment_refused place (c ∷ rest) h =
    let first = and_parts (eqb c slash) _ h in
    let is : c ≡ slash = eqb-true c slash first.0 in
    let word : begins_identifier c ≡ false = ap begins_identifier is ∙ no_word_begins slash refl in
    let digit : is_ascii_digit c ≡ false = ap is_ascii_digit is in
    let at : code_at (c ∷ rest) ≡ code.L4 = rw (word, digit, h) refl in
    ap (λ code. record { code = code; place = place }) (sym at)
