-- What users of tokens lean on holds of the tokens of each cut.
use Rattle.std.proofs.Common.{◌≡◌, ◌⊎◌, inl, inr, ℕ, ◌+◌, ◌<◌, ◌≤◌, Bool, true, false, ◌&&◌, ◌||◌, not, cond, eqb, ltb, List, [], ◌∷◌, ◌++◌, length, take, codes, encode_utf8_all, Option, Some, None, is_some, Result, Ok, All, refl, sym, ap, subst, ◌∙◌, arith, true≢false}
use Rattle.std.proofs.lemmas.Bool.{ltb-true}
use Rattle.std.proofs.lemmas.List.{append-nil, append_assoc, length-append}
use Rattle.std.proofs.lemmas.List.Elements.{All-cons}
use Rattle.std.proofs.lemmas.List.Folds.{list_any-append}
use Rattle.std.proofs.lemmas.Iterator.Adapters.{position_from-zero}
use Rattle.std.specs.Char.{is_ascii_digit}
use Rattle.std.specs.List.{list_any, position_or_len}
use Rattle.std.specs.Str.{bytes_eq, is_utf8}
use Rattle.std.specs.Cmp.Lexicographic.{bytes_decides}
use Rattle.cxx_base.specs.Texts.{Text, has_text, number_of, with_text, with_texts}
use Rattle.cxx_base.specs.declared.place.Place.{Place}
use Rattle.int_kinds.specs.Literal.{kind_of_literal}
use Rattle.cxx_tokens.specs.Characters.{Characters, after, after_all, begins_identifier, begins_with, characters_of, double_quote, line_feed, single_quote, start}
use Rattle.cxx_tokens.specs.Cutting.{IsCut, IsLexed, Said, Span, Gap, Piece, Named, Plain, Quoting, Cut, Stuck, NoCharacters, character_said, integer_said, joined, kind_by, names_by, punctuator_said, said_of, string_said, tokens_in, word_by, word_said}
use Rattle.cxx_tokens.specs.Faults.{Fault}
use Rattle.cxx_tokens.specs.Gives.{Keeps}
use Rattle.cxx_tokens.specs.Lex.{Lexed, before_zero, integer_kind, is_name, members, reserved, token_from}
use Rattle.cxx_tokens.specs.Literals.{Escape, Integer, character_at, integer_at, string_at}
use Rattle.cxx_tokens.specs.Punctuators.{Punctuator, is_bracket_and_scope, longer, longest_from, punctuator_at}
use Rattle.cxx_tokens.specs.Tables.{punctuators, words}
use Rattle.cxx_tokens.specs.Usable.{AreUsable, IsBefore, IsKnown, LexedAreUsable, Rise}
use Rattle.cxx_tokens.specs.declared.token.Token.{Token}
use Rattle.cxx_tokens.specs.declared.token.TokenKind.{TokenKind}
use Rattle.cxx_tokens.specs.declared.token.TokenKind.TheVariants as kind
use Rattle.cxx_tokens.proofs.CutLaws.{Chain, chain_from_cut, some_characters}
use Rattle.cxx_tokens.proofs.TokenForms.{integer_parts, mapped_parts, string_parts, word_parts}

-- ---- names

keeps_all : (names : List Text) → Keeps names names
keeps_all names = ([], sym (append-nil names))

keeps_more : (a b c : List Text) → Keeps a b → Keeps b c → Keeps a c
keeps_more a b c first second = (first.0 ++ second.0, second.1 ∙ ap (λ (b : List Text). b ++ second.0) first.1 ∙ append_assoc a first.0 second.0)

text_kept : (names : List Text) (text : Text) → Keeps names (with_text names text)
text_kept names text = by (has_text names text)
  where
    by : (b : Bool) → Keeps names (cond b names (names ++ text ∷ []))
    by true = keeps_all names
    by false = (text ∷ [], refl)

texts_kept : (names texts : List Text) → Keeps names (with_texts names texts)
texts_kept names [] = keeps_all names
texts_kept names (text ∷ texts) = keeps_more names (with_text names text) (with_texts (with_text names text) texts) (text_kept names text) (texts_kept (with_text names text) texts)

said_kept : (names : List Text) (said : Said) → Keeps names (names_by names said)
said_kept names (Named text) = text_kept names text
said_kept names (Plain kind) = keeps_all names
said_kept names (Quoting bytes) = by (is_utf8 (before_zero bytes) && is_name (before_zero bytes))
  where
    by : (b : Bool) → Keeps names (cond b (with_text names (before_zero bytes)) names)
    by true = text_kept names (before_zero bytes)
    by false = keeps_all names

has_kept : (a b : List Text) (text : Text) → Keeps a b → has_text a text ≡ true → has_text b text ≡ true
has_kept a b text keeps h = ap (λ b. has_text b text) keeps.1 ∙ list_any-append (bytes_eq text) a keeps.0 ∙ ap (λ b. b || list_any (bytes_eq text) keeps.0) h

length_kept : (a b : List Text) → Keeps a b → length a ≤ length b
length_kept a b keeps =
    let l : length b ≡ length a + length keeps.0 = ap length keeps.1 ∙ length-append a keeps.0 in
    omega (arith, l)

is_same : (text : Text) → bytes_eq text text ≡ true
is_same text = (bytes_decides text text).1 refl

has_last : (names : List Text) (text : Text) → has_text (names ++ text ∷ []) text ≡ true
has_last names text = list_any-append (bytes_eq text) names (text ∷ []) ∙ ap (λ b. list_any (bytes_eq text) names || (b || false)) (is_same text) ∙ either (list_any (bytes_eq text) names)
  where
    either : (b : Bool) → (b || true) ≡ true
    either true = refl
    either false = refl

has_added : (names : List Text) (text : Text) → has_text (with_text names text) text ≡ true
has_added names text = by (has_text names text) refl
  where
    by : (b : Bool) → has_text names text ≡ b → has_text (cond b names (names ++ text ∷ [])) text ≡ true
    by true e = e
    by false e = has_last names text

number_within : (names : List Text) (text : Text) → has_text names text ≡ true → number_of names text < length names
number_within [] text h = absurd (true≢false (sym h))
number_within (name ∷ names) text h = by (bytes_eq text name) refl h (number_within names text)
  where
    by : (b : Bool) → bytes_eq text name ≡ b → (b || has_text names text) ≡ true → (has_text names text ≡ true → number_of names text < length names)
        → cond (not b) (1 + number_of names text) 0 < length (name ∷ names)
    by true e h more = omega arith
    by false e h more = let less = more h in omega (arith, less)

number_least : (names more : List Text) (text : Text) → number_of names text ≤ length names
number_least [] more text = omega arith
number_least (name ∷ names) more text = by (bytes_eq text name) (number_least names more text)
  where
    by : (b : Bool) → number_of names text ≤ length names → cond (not b) (1 + number_of names text) 0 ≤ length (name ∷ names)
    by true h = omega arith
    by false h = omega (arith, h)

number_added : (names : List Text) (text : Text) → number_of names text < length (with_text names text)
number_added names text = by (has_text names text) refl
  where
    by : (b : Bool) → has_text names text ≡ b → number_of names text < length (cond b names (names ++ text ∷ []))
    by true e = number_within names text e
    by false e =
        let l = length-append names (text ∷ []) in
        let least = number_least names [] text in
        omega (arith, l, least)

known_kept : (a b : List Text) (kind : TokenKind) → Keeps a b → IsKnown a kind → IsKnown b kind
known_kept a b (kind.Identifier name) keeps h = let more = length_kept a b keeps in omega (arith, h, more)
known_kept a b (kind.Word number) keeps h = h
known_kept a b (kind.Punctuator number) keeps h = h
known_kept a b (kind.Integer decimal unsigned longs value) keeps h = h
known_kept a b (kind.Character byte) keeps h = h
known_kept a b (kind.Text bytes) keeps h = λ e. has_kept a b (before_zero bytes) keeps (h e)

-- ---- what is said is known

word_known : (names : List Text) (text : Text) (o : Option ℕ) → reserved text ≡ o → IsKnown (names_by names (word_by text o)) (kind_by names (word_by text o))
unfolding reserved
word_known names text (Some word) e = by (ltb (position_or_len (λ word. bytes_eq word text) words) (length words)) refl (position_from-zero (λ word. bytes_eq word text) words ∙ e)
  where
    by : (b : Bool) → ltb (position_or_len (λ word. bytes_eq word text) words) (length words) ≡ b
        → cond b (Some (position_or_len (λ word. bytes_eq word text) words)) None ≡ Some word → word < length words
    by true f h =
        let same : position_or_len (λ word. bytes_eq word text) words ≡ word = cc h in
        let less = ltb-true (position_or_len (λ word. bytes_eq word text) words) (length words) f in
        omega (arith, same, less)
    by false f h = cc h
word_known names text None e = number_added names text

mark_number : (n : ℕ) (texts : List Text) (text : Characters) (mark : Punctuator) → longest_from n texts text ≡ Some mark → mark.number < n + length texts
mark_number n [] text mark h = cc h
mark_number n (listed ∷ more) text mark h =
    by (begins_with listed text) (longest_from (n + 1) more text) refl h (λ other e. mark_number (n + 1) more text other e)
  where
    by : (b : Bool) (rest : Option Punctuator) → longest_from (n + 1) more text ≡ rest
        → cond b (Some (longer (record { number = n; length = length listed }) rest)) rest ≡ Some mark
        → ((other : Punctuator) → longest_from (n + 1) more text ≡ Some other → other.number < (n + 1) + length more) → mark.number < n + length (listed ∷ more)
    by false rest r h go = let less = go mark (r ∙ h) in omega (arith, less)
    by true None r h go =
        let same : n ≡ mark.number = ap (λ (m : Option Punctuator). number_in m) h in
        omega (arith, same)
      where
        number_in : Option Punctuator → ℕ
        number_in None = 0
        number_in (Some m) = m.number
    by true (Some other) r h go = which (ltb (length listed) other.length) h
      where
        which : (b : Bool) → Some (cond b other (record { number = n; length = length listed })) ≡ Some mark → mark.number < n + length (listed ∷ more)
        which true h =
            let same : other ≡ mark = cc h in
            let less = go other r in
            let number : other.number ≡ mark.number = ap (λ (m : Punctuator). m.number) same in
            omega (arith, less, number)
        which false h =
            let same : record { number = n; length = length listed } ≡ mark = cc h in
            let number : n ≡ mark.number = ap (λ (m : Punctuator). m.number) same in
            omega (arith, number)

mark_known : (text : Characters) (mark : Punctuator) → punctuator_at text ≡ Some mark → mark.number < length punctuators
unfolding punctuator_at
mark_known text mark h =
    let less : mark.number < 0 + length punctuators = mark_number 0 punctuators (cond (is_bracket_and_scope text) (take 1 text) text) mark h in
    omega (arith, less)

integer_known : (names : List Text) (i : Integer) (k : TokenKind) → integer_kind i.decimal i.unsigned i.longs i.value ≡ Some k → IsKnown names k
integer_known names i k h = by (is_some (kind_of_literal i.decimal i.unsigned i.longs i.value)) refl h
  where
    by : (b : Bool) → is_some (kind_of_literal i.decimal i.unsigned i.longs i.value) ≡ b
        → cond b (Some (kind.Integer i.decimal i.unsigned i.longs i.value)) None ≡ Some k → IsKnown names k
    by true e h = let same : kind.Integer i.decimal i.unsigned i.longs i.value ≡ k = cc h in subst (IsKnown names) same e
    by false e h = cc h

quoting_known : (names : List Text) (bytes : Text) → IsKnown (names_by names (Quoting bytes)) (kind_by names (Quoting bytes))
quoting_known names bytes e = ap (λ b. has_text (cond b (with_text names (before_zero bytes)) names) (before_zero bytes)) e ∙ has_added names (before_zero bytes)

said_known : (names : List Text) (front rest : Characters) (said : Said) → said_of front rest ≡ Some said → IsKnown (names_by names said) (kind_by names said)
unfolding said_of
said_known names [] rest said h = cc h
said_known names (c ∷ front) rest said h = by (begins_identifier c) (is_ascii_digit c) (eqb c single_quote) (eqb c double_quote) h
  where
    text : Characters
    text = front ++ rest

    known : (other : Said) → other ≡ said → IsKnown (names_by names other) (kind_by names other) → IsKnown (names_by names said) (kind_by names said)
    known other same h = subst (λ (said : Said). IsKnown (names_by names said) (kind_by names said)) same h

    by : (w d s q : Bool)
        → cond w (word_said (c ∷ front)) (cond d (integer_said (c ∷ text) (integer_at (c ∷ text))) (cond s (character_said (character_at text))
        (cond q (string_said (string_at start text)) (punctuator_said (punctuator_at (c ∷ text)))))) ≡ Some said
        → IsKnown (names_by names said) (kind_by names said)
    by true d s q h =
        let p = word_parts (c ∷ front) said h in
        let spelled = encode_utf8_all (c ∷ front) in
        known (word_by spelled (reserved spelled)) p.1 (word_known names spelled (reserved spelled) refl)
    by false true s q h =
        let p = integer_parts (c ∷ text) (integer_at (c ∷ text)) said h in
        known (Plain p.0) p.3 (integer_known names (integer_at (c ∷ text)) p.0 p.2)
    by false false true q h =
        let p = mapped_parts (λ (e : Escape). Plain (kind.Character e.byte)) (character_at text) said h in
        known (Plain (kind.Character p.0.byte)) p.2 tt
    by false false false true h =
        let p = string_parts (string_at start text) said h in
        known (Quoting p.0.bytes) p.2 (quoting_known names p.0.bytes)
    by false false false false h =
        let p = mapped_parts (λ (mark : Punctuator). Plain (kind.Punctuator mark.number)) (punctuator_at (c ∷ text)) said h in
        known (Plain (kind.Punctuator p.0.number)) p.2 (mark_known (c ∷ text) p.0 p.1)

-- ---- places

abbrev IsUpTo : Place → Place → Type 0
IsUpTo a b = (a ≡ b) ⊎ IsBefore a b

before_before : (a b c : Place) → IsBefore a b → IsBefore b c → IsBefore a c
before_before a b c (inl h) (inl g) = inl (omega (arith, h, g))
before_before a b c (inl h) (inr g) = let same = g.0 in inl (omega (arith, h, same))
before_before a b c (inr h) (inl g) = let same = h.0 in inl (omega (arith, g, same))
before_before a b c (inr h) (inr g) = let first = h.1 in let second = g.1 in inr (h.0 ∙ g.0, omega (arith, first, second))

up_to_both : (a b c : Place) → IsUpTo a b → IsUpTo b c → IsUpTo a c
up_to_both a b c (inl same) second = subst (λ a. IsUpTo a c) (sym same) second
up_to_both a b c (inr first) (inl same) = inr (subst (IsBefore a) same first)
up_to_both a b c (inr first) (inr second) = inr (before_before a b c first second)

before_up_to : (a b c : Place) → IsBefore a b → IsUpTo b c → IsBefore a c
before_up_to a b c first (inl same) = subst (IsBefore a) same first
before_up_to a b c first (inr second) = before_before a b c first second

one_later : (place : Place) (c : ℕ) → IsBefore place (after place c)
one_later place c = by (eqb c line_feed)
  where
    by : (b : Bool) → IsBefore place (cond b (record { line = place.line + 1; column = 1 }) (record { line = place.line; column = place.column + 1 }))
    by true = inl (omega arith)
    by false = inr (refl, omega arith)

all_later : (place : Place) (text : Characters) → IsUpTo place (after_all place text)
all_later place [] = inl refl
all_later place (c ∷ text) = up_to_both place (after place c) (after_all (after place c) text) (inr (one_later place c)) (all_later (after place c) text)

some_later : (place : Place) (text : Characters) → 0 < length text → IsBefore place (after_all place text)
some_later place [] h = absurd (omega (arith, h))
some_later place (c ∷ text) h = before_up_to place (after place c) (after_all (after place c) text) (one_later place c) (all_later (after place c) text)

-- where the first of the tokens begins, or the end
abbrev first_place : List Token → Place → Place
first_place [] end = end
first_place (token ∷ tokens) end = token.span.place

rise_more : (token : Token) (tokens : List Token) (end : Place) → IsBefore token.span.place (first_place tokens end) → Rise tokens end → Rise (token ∷ tokens) end
rise_more token [] end less rise = less
rise_more token (next ∷ tokens) end less rise = (less, rise)

-- ---- all tokens

record Found (place : Place) (names : List Text) (text : Characters) (found : Lexed) : Type 0 where
  kept : Keeps names found.names
  known : All (λ token. IsKnown found.names token.kind) found.tokens
  later : IsUpTo place (first_place found.tokens found.end)
  rise : Rise found.tokens found.end
  few : length found.tokens ≤ length text
  members : All (λ text. has_text found.names text ≡ true) members

none_known : (names : List Text) → All (λ (token : Token). IsKnown names token.kind) []
none_known names i d h = absurd (omega (arith, h))

members_held : (names : List Text) → All (λ text. has_text (with_texts names members) text ≡ true) members
members_held names =
    let one = with_text names (codes "bytes") in
    let both = with_text one (codes "bits") in
    All-cons (λ text. has_text both text ≡ true) (codes "bytes") (codes "bits" ∷ []) (has_kept one both (codes "bytes") (text_kept one (codes "bits")) (has_added names (codes "bytes")))
    (All-cons (λ text. has_text both text ≡ true) (codes "bits") [] (has_added one (codes "bits")) (λ i d h. absurd (omega (arith, h))))

found_in : (before spans : List Span) (place : Place) (number : ℕ) (names : List Text) → Chain before spans []
    → Found place names (joined spans) (tokens_in place number names spans)
found_in before [] place number names chain =
    record {
      kept = texts_kept names members;
      known = none_known (with_texts names members);
      later = inl refl;
      rise = tt;
      few = omega arith;
      members = members_held names;
    }
found_in before (Gap front ∷ spans) place number names chain =
    let more = found_in (before ++ Gap front ∷ []) spans (after_all place front) number names chain.1 in
    let few = more.few in
    let l = length-append front (joined spans) in
    record {
      kept = more.kept;
      known = more.known;
      later = up_to_both place (after_all place front) (first_place (tokens_in (after_all place front) number names spans).tokens (tokens_in (after_all place front) number names spans).end)
          (all_later place front) more.later;
      rise = more.rise;
      few = omega (arith, few, l);
      members = more.members;
    }
found_in before (Piece front said ∷ spans) place number names chain =
    let next = names_by names said in
    let rest = tokens_in (after_all place front) (number + 1) next spans in
    let more = found_in (before ++ Piece front said ∷ []) spans (after_all place front) (number + 1) next chain.1 in
    let some = some_characters before (Piece front said) (joined spans ++ []) chain.0 in
    let few = more.few in
    let l = length-append front (joined spans) in
    let token = token_from (kind_by names said) place number in
    record {
      kept = keeps_more names next rest.names (said_kept names said) more.kept;
      known = All-cons (λ token. IsKnown rest.names token.kind) token rest.tokens
          (known_kept next rest.names (kind_by names said) more.kept (said_known names front (joined spans ++ []) said chain.0.says)) more.known;
      later = inl refl;
      rise = rise_more token rest.tokens rest.end
          (before_up_to place (after_all place front) (first_place rest.tokens rest.end) (some_later place front some) more.later) more.rise;
      few = omega (arith, few, l, some);
      members = more.members;
    }

usable_cut : (names : List Text) (bytes : Text) (spans : List Span) → IsCut (characters_of bytes) spans → AreUsable bytes (tokens_in start 0 names spans)
usable_cut names bytes spans cut =
    let found = found_in [] spans start 0 names (chain_from_cut (characters_of bytes) spans [] cut) in
    let few = found.few in
    let all : length (joined spans) ≡ length (characters_of bytes) = sym (ap length (append-nil (joined spans))) ∙ ap length cut.all in
    record { known = found.known; rise = found.rise; few = omega (arith, few, all); members = found.members }

pub usable : LexedAreUsable
usable names bytes found lexed = by (Ok found) refl lexed
  where
    by : (answer : Result Lexed Fault) → answer ≡ Ok found → IsLexed names bytes answer → AreUsable bytes found
    by answer same (Cut spans utf8 cut) = let is : tokens_in start 0 names spans ≡ found = cc same in subst (AreUsable bytes) is (usable_cut names bytes spans cut)
    by answer same (Stuck spans rest utf8 stuck) = cc same
    by answer same (NoCharacters other) = cc same
