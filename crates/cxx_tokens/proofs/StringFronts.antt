-- The strings that are found are whole, and none goes on behind its quote.
use Rattle.std.proofs.Common.{◌≡◌, ℕ, zero, suc, ◌+◌, ◌≤◌, Bool, true, false, ◌&&◌, ◌||◌, not, cond, eqb, [], ◌∷◌, ◌++◌, length, take, Option, Some, None, Result, Ok, Err, is_some, refl, sym, ap, ◌∙◌, arith, true≢false}
use Rattle.std.proofs.Math.Bool.{and-false}
use Rattle.std.proofs.lemmas.Bool.{and_parts, false_from_ne_true, and_from, eqb-true}
use Rattle.std.specs.List.{list_all}
use Rattle.std.specs.Prelude.{encode_utf8}
use Rattle.cxx_base.specs.Texts.{Text}
use Rattle.cxx_base.specs.declared.place.Place.{Place}
use Rattle.cxx_tokens.specs.Characters.{Characters, backslash, double_quote, is_digit_in, line_feed}
use Rattle.cxx_tokens.specs.Literals.{Escape, Quoted, behind_one, no_escape, unless_none, escape_at, simple_escape, string_from}
use Rattle.cxx_tokens.specs.Munch.{begins_escape, is_string, is_string_closed}
use Rattle.cxx_tokens.specs.Faults.{Fault, L4}
use Rattle.cxx_tokens.proofs.CharacterFronts.{EscapeFound, octal, hexadecimal, simple, escape_found, first_of_front}
use Rattle.cxx_tokens.proofs.Fronts.{IsPrefixFree, all_kept}

-- ---- nothing goes on behind the closing quote

string_is_free : IsPrefixFree is_string_closed
string_is_free [] c rest h = absurd (true≢false (sym h))
string_is_free (d ∷ []) c rest h =
    let quote : d ≡ double_quote = eqb-true d double_quote h in
    rw quote refl
string_is_free (d ∷ e ∷ front) c rest h =
    by (eqb d backslash) h (λ more. string_is_free front c rest more) (λ more. string_is_free (e ∷ front) c rest more)
  where
    by : (b : Bool) → cond b (begins_escape (e ∷ front) && is_string_closed front) (not (eqb d double_quote || eqb d line_feed) && is_string_closed (e ∷ front)) ≡ true
        → (is_string_closed front ≡ true → is_string_closed (front ++ c ∷ rest) ≡ false)
        → (is_string_closed (e ∷ front) ≡ true → is_string_closed (e ∷ (front ++ c ∷ rest)) ≡ false)
        → cond b (begins_escape (e ∷ (front ++ c ∷ rest)) && is_string_closed (front ++ c ∷ rest))
        (not (eqb d double_quote || eqb d line_feed) && is_string_closed (e ∷ (front ++ c ∷ rest))) ≡ false
    by true h two one =
        let no = two ((and_parts (begins_escape (e ∷ front)) (is_string_closed front) h).1) in
        ap (λ k. begins_escape (e ∷ (front ++ c ∷ rest)) && k) no ∙ and-false _
    by false h two one =
        let no = one ((and_parts (not (eqb d double_quote || eqb d line_feed)) (is_string_closed (e ∷ front)) h).1) in
        ap (λ k. not (eqb d double_quote || eqb d line_feed) && k) no ∙ and-false _

pub no_longer_string : IsPrefixFree is_string
no_longer_string [] c rest h = absurd (true≢false (sym h))
no_longer_string (d ∷ front) c rest h =
    let no = string_is_free front c rest ((and_parts (eqb d double_quote) (is_string_closed front) h).1) in
    ap (λ k. eqb d double_quote && k) no ∙ and-false (eqb d double_quote)

-- ---- strings that are found

-- no quote, no line feed, no backslash
abbrev pub is_inner : ℕ → Bool
is_inner c = not (eqb c backslash || (eqb c double_quote || eqb c line_feed))

inner_before : (c : ℕ) (text : Characters) → is_inner c ≡ true → is_string_closed text ≡ true → is_string_closed (c ∷ text) ≡ true
inner_before c [] inner h = absurd (true≢false (sym h))
inner_before c (d ∷ text) inner h = by (eqb c backslash) (eqb c double_quote || eqb c line_feed) inner
  where
    by : (a b : Bool) → not (a || b) ≡ true → cond a (begins_escape (d ∷ text) && is_string_closed text) (not b && is_string_closed (d ∷ text)) ≡ true
    by true b inner = absurd (true≢false (sym inner))
    by false true inner = absurd (true≢false (sym inner))
    by false false inner = h

digit_inner : (base : ℕ) → is_digit_in base backslash ≡ false → is_digit_in base double_quote ≡ false → is_digit_in base line_feed ≡ false
    → (c : ℕ) → is_digit_in base c ≡ true → is_inner c ≡ true
digit_inner base a b d c digit = rw (other backslash a, other double_quote b, other line_feed d) refl
  where
    other : (e : ℕ) → is_digit_in base e ≡ false → eqb c e ≡ false
    other e h = false_from_ne_true _ (λ same. true≢false (sym digit ∙ ap (is_digit_in base) (eqb-true c e same) ∙ h))

-- what is found behind a backslash: its first character, and others that are inner
pub record EscapeParts (c : ℕ) (text : Characters) (n : ℕ) : Type 0 where
  pub k : ℕ
  pub long : n ≡ suc k
  pub inner : list_all is_inner (take k text) ≡ true
  pub begins : begins_escape (c ∷ text) ≡ true

pub parts : (c : ℕ) (text : Characters) (n : ℕ) → EscapeFound c text n → EscapeParts c text n
parts c text n (octal k f e few digits) =
    record {
      k = k;
      long = e;
      inner = all_kept (is_digit_in 8) is_inner (digit_inner 8 refl refl refl) (take k text) digits;
      begins = rw f refl;
    }
parts c text n (hexadecimal k f g e first digits) =
    record {
      k = k;
      long = e;
      inner = all_kept (is_digit_in 16) is_inner (digit_inner 16 refl refl refl) (take k text) digits;
      begins = rw (f, g, first) refl;
    }
parts c text n (simple f g e is) = record { k = 0; long = e; inner = refl; begins = rw (f, g, is) refl }

pub behind_is : (bytes : Text) (read : Result Quoted Fault) (q : Quoted) → behind_one bytes read ≡ Ok q → (r : Quoted) × (read ≡ Ok r) × (q.length ≡ suc r.length)
behind_is bytes (Ok r) q h =
    let same : record { length = 1 + r.length; bytes = bytes ++ r.bytes } ≡ q = cc h in
    (r, refl, sym (ap (λ (q : Quoted). q.length) same) ∙ omega arith)
behind_is bytes (Err fault) q h = cc h

begins_of_front : (c n : ℕ) (text : Characters) → is_string_closed (take n text) ≡ true → begins_escape (c ∷ take n text) ≡ begins_escape (c ∷ text)
begins_of_front c zero text h = absurd (true≢false (sym h))
begins_of_front c (suc n) text h =
    ap (λ b. is_digit_in 8 c || ((eqb c 120 && b) || is_some (simple_escape c))) (first_of_front (is_digit_in 16) n text)

string_closed : (left : ℕ) (place : Place) (text : Characters) (q : Quoted) → list_all is_inner (take left text) ≡ true → string_from left place text ≡ Ok q
    → is_string_closed (take q.length text) ≡ true
string_closed zero place [] q inner h = cc h
string_closed (suc left) place [] q inner h = cc h
string_closed (suc left) place (c ∷ text) q inner h =
    let r = behind_is [] (string_from left place text) q h in
    let parts_of = and_parts (is_inner c) (list_all is_inner (take left text)) inner in
    let closes = string_closed left place text r.0 parts_of.1 r.1 in
    ap (λ n. is_string_closed (take n (c ∷ text))) r.2 ∙ inner_before c (take r.0.length text) parts_of.0 closes
string_closed zero place (c ∷ []) q inner h = by (eqb c double_quote) refl (eqb c line_feed) (eqb c backslash) h
  where
    by : (a : Bool) → eqb c double_quote ≡ a → (b d : Bool)
        → cond a (Ok (record { length = 1; bytes = [] })) (cond b (Err (L4 place)) (cond d (Err (no_escape place [])) (Err (L4 place)))) ≡ Ok q
        → is_string_closed (take q.length (c ∷ [])) ≡ true
    by true e b d h =
        let same : record { length = 1; bytes = [] } ≡ q = cc h in
        let one : q.length ≡ 1 = sym (ap (λ (q : Quoted). q.length) same) in
        ap (λ n. is_string_closed (take n (c ∷ []))) one ∙ e
    by false e true d h = cc h
    by false e false true h = cc h
    by false e false false h = cc h
string_closed zero place (c ∷ d ∷ text) q inner h =
    by (eqb c double_quote) refl (eqb c line_feed) refl (eqb c backslash) refl h (λ k r inner g. string_closed k place text r inner g) (λ r g. string_closed zero place (d ∷ text) r refl g)
  where
    escaped : (o : Option Escape) → escape_at (d ∷ text) ≡ o → eqb c backslash ≡ true
        → ((k : ℕ) (r : Quoted) → list_all is_inner (take k text) ≡ true → string_from k place text ≡ Ok r → is_string_closed (take r.length text) ≡ true)
        → unless_none (no_escape place (d ∷ text)) o (λ escape. behind_one (escape.byte ∷ []) (string_from escape.length place (d ∷ text))) ≡ Ok q
        → is_string_closed (take q.length (c ∷ d ∷ text)) ≡ true
    escaped None e slash go h = cc h
    escaped (Some escape) e slash go h =
        let r = behind_is (escape.byte ∷ []) (string_from escape.length place (d ∷ text)) q h in
        let p = parts d text escape.length (escape_found d text escape e) in
        let s = behind_is [] (string_from p.k place text) r.0 (ap (λ n. string_from n place (d ∷ text)) (sym p.long) ∙ r.1) in
        let closes = go p.k s.0 p.inner s.1 in
        let long : q.length ≡ suc (suc s.0.length) = r.2 ∙ ap suc s.2 in
        let begins : begins_escape (d ∷ take s.0.length text) ≡ true = begins_of_front d s.0.length text closes ∙ p.begins in
        ap (λ n. is_string_closed (take n (c ∷ d ∷ text))) long ∙ rw slash (and_from _ _ begins closes)

    by : (a : Bool) → eqb c double_quote ≡ a → (b : Bool) → eqb c line_feed ≡ b → (s : Bool) → eqb c backslash ≡ s
        → cond a (Ok (record { length = 1; bytes = [] })) (cond b (Err (L4 place))
        (cond s (unless_none (no_escape place (d ∷ text)) (escape_at (d ∷ text)) (λ escape. behind_one (escape.byte ∷ []) (string_from escape.length place (d ∷ text))))
        (behind_one (encode_utf8 c) (string_from zero place (d ∷ text))))) ≡ Ok q
        → ((k : ℕ) (r : Quoted) → list_all is_inner (take k text) ≡ true → string_from k place text ≡ Ok r → is_string_closed (take r.length text) ≡ true)
        → ((r : Quoted) → string_from zero place (d ∷ text) ≡ Ok r → is_string_closed (take r.length (d ∷ text)) ≡ true)
        → is_string_closed (take q.length (c ∷ d ∷ text)) ≡ true
    by true e b f s g h go one =
        let same : record { length = 1; bytes = [] } ≡ q = cc h in
        let single : q.length ≡ 1 = sym (ap (λ (q : Quoted). q.length) same) in
        ap (λ n. is_string_closed (take n (c ∷ d ∷ text))) single ∙ e
    by false e true f s g h go one = cc h
    by false e false f true g h go one = escaped (escape_at (d ∷ text)) refl g go h
    by false e false f false g h go one =
        let r = behind_is (encode_utf8 c) (string_from zero place (d ∷ text)) q h in
        let inner : is_inner c ≡ true = rw (g, e, f) refl in
        ap (λ n. is_string_closed (take n (c ∷ d ∷ text))) r.2 ∙ inner_before c (take r.0.length (d ∷ text)) inner (one r.0 r.1)

pub string_within : (left : ℕ) (place : Place) (text : Characters) (q : Quoted) → string_from left place text ≡ Ok q → q.length ≤ length text
string_within zero place [] q h = cc h
string_within (suc left) place [] q h = cc h
string_within (suc left) place (c ∷ text) q h =
    let r = behind_is [] (string_from left place text) q h in
    let more = string_within left place text r.0 r.1 in
    omega (arith, r.2, more)
string_within zero place (c ∷ text) q h =
    by (eqb c double_quote) (eqb c line_feed) (eqb c backslash) (escape_at text) h (λ left r g. string_within left place text r g)
  where
    behind : (bytes : Text) (left : ℕ) → behind_one bytes (string_from left place text) ≡ Ok q
        → ((left : ℕ) (r : Quoted) → string_from left place text ≡ Ok r → r.length ≤ length text) → q.length ≤ length (c ∷ text)
    behind bytes left h go =
        let r = behind_is bytes (string_from left place text) q h in
        let more = go left r.0 r.1 in
        omega (arith, r.2, more)

    by : (a b s : Bool) (o : Option Escape)
        → cond a (Ok (record { length = 1; bytes = [] })) (cond b (Err (L4 place))
        (cond s (unless_none (no_escape place text) o (λ escape. behind_one (escape.byte ∷ []) (string_from escape.length place text)))
        (behind_one (encode_utf8 c) (string_from zero place text)))) ≡ Ok q
        → ((left : ℕ) (r : Quoted) → string_from left place text ≡ Ok r → r.length ≤ length text) → q.length ≤ length (c ∷ text)
    by true b s o h go =
        let same : record { length = 1; bytes = [] } ≡ q = cc h in
        let single : q.length ≡ 1 = sym (ap (λ (q : Quoted). q.length) same) in
        omega (arith, single)
    by false true s o h go = cc h
    by false false true None h go = cc h
    by false false true (Some escape) h go = behind (escape.byte ∷ []) escape.length h go
    by false false false o h go = behind (encode_utf8 c) zero h go

pub string_whole : (c : ℕ) (place : Place) (text : Characters) (q : Quoted) → eqb c double_quote ≡ true → string_from zero place text ≡ Ok q
    → is_string (take (suc q.length) (c ∷ text)) ≡ true
string_whole c place text q quote h =
    let closes = string_closed zero place text q refl h in
    rw (quote, closes) refl
