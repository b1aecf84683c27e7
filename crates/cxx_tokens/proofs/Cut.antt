-- Texts, and where they are cut.
use Rattle.std.proofs.Common.{◌≡◌, ℕ, zero, suc, ◌+◌, ◌-◌, ◌<◌, ◌≤◌, Bool, true, false, ◌&&◌, true≢false, eqb, [], ◌∷◌, ◌++◌, length, get_or, take, drop, chars, encode_utf8_all, refl, sym, ap, subst, ◌∙◌, arith}
use Rattle.std.proofs.Math.Seq.{take-append_seam}
use Rattle.std.proofs.lemmas.List.{drop-drop, length-append, length-drop, take-append-drop}
use Rattle.std.proofs.lemmas.Str.{chars-nil, chars-encodes, scalars-chars, length-le-encodes, encodes-append, encodes-chars, IsCharBoundary-at_seam}
use Rattle.std.proofs.lemmas.Bool.Decides.{Decides-eqb}
use Rattle.std.proofs.Math.Utf8.{scalar}
use Rattle.std.specs.List.{slice_range}
use Rattle.std.specs.Str.{all_scalars, IsUtf8, IsCharBoundary}
use Rattle.cxx_base.specs.Texts.{Text}
use Rattle.cxx_base.specs.declared.place.Place.{Place}
use Rattle.cxx_tokens.specs.Characters.{Characters, after, after_all, begins_with}

-- an empty text has no characters
pub no_characters : (bytes : Text) → length bytes ≡ 0 → chars bytes ≡ []
no_characters [] h = chars-nil
no_characters (b ∷ bytes) h = absurd (omega (arith, h))

and_split : (a b : Bool) → (a && b) ≡ true → (a ≡ true) × (b ≡ true)
and_split true b h = (refl, h)
and_split false b h = absurd (true≢false (sym h))

pub nil_is_no_cons : {A : Type 0} (c : ℕ) (rest : Characters) → [] ≡ c ∷ rest → A
nil_is_no_cons c rest h = let e : 0 ≡ suc (length rest) = ap length h in absurd (omega (arith, e))

-- a front that is one character longer
pub drop_one_more : (n : ℕ) (text : Characters) (c : ℕ) (rest : Characters) → drop n text ≡ c ∷ rest → drop (n + 1) text ≡ rest
drop_one_more n text c rest h = sym (drop-drop 1 n text) ∙ ap (drop 1) h

-- more characters are left, so the front is short
pub front_is_short : (n : ℕ) (text : Characters) (c : ℕ) (rest : Characters) → drop n text ≡ c ∷ rest → n < length text
front_is_short n text c rest h =
    let e : length (drop n text) ≡ suc (length rest) = ap length h in
    let l = length-drop n text in
    omega (arith, e, l)

-- nothing is left, so the front is all
pub none_is_left : (n : ℕ) (text : Characters) → drop n text ≡ [] → length text ≤ n
none_is_left n text h =
    let e : length (drop n text) ≡ 0 = ap length h in
    let l = length-drop n text in
    omega (arith, e, l)

place_behind : (n : ℕ) (text : Characters) (c : ℕ) (rest : Characters) (place : Place) → drop n text ≡ c ∷ rest
    → after_all place (take (suc n) text) ≡ after (after_all place (take n text)) c
place_behind zero [] c rest place h = nil_is_no_cons c rest h
place_behind zero (d ∷ text) c rest place h = ap (after place) (cc h)
place_behind (suc n) [] c rest place h = nil_is_no_cons c rest h
place_behind (suc n) (d ∷ text) c rest place h = place_behind n text c rest (after place d) h

-- the place after one more character
pub place_one_more : (n : ℕ) (text : Characters) (c : ℕ) (rest : Characters) (place : Place) → drop n text ≡ c ∷ rest
    → after_all place (take (n + 1) text) ≡ after (after_all place (take n text)) c
place_one_more n text c rest place h =
    let e : n + 1 ≡ suc n = omega arith in
    ap (λ k. after_all place (take k text)) e ∙ place_behind n text c rest place h

scalars-take : (n : ℕ) (text : Characters) → all_scalars text ≡ true → all_scalars (take n text) ≡ true
scalars-take zero text h = refl
scalars-take (suc n) [] h = refl
scalars-take (suc n) (c ∷ text) h =
    let both = and_split (scalar c) (all_scalars text) h in
    let more : all_scalars (take n text) ≡ true = scalars-take n text both.1 in
    rw (both.0, more) refl

pub from_start : (text : Text) (n : ℕ) → slice_range text 0 n ≡ take n text
from_start text n = let e : n - 0 ≡ n = omega arith in ap (λ k. take k text) e

-- there are no more characters than bytes
pub characters_are_few : (text : Text) → IsUtf8 text → length (chars text) ≤ length text
characters_are_few text utf8 =
    let few = length-le-encodes (chars text) in
    let same : length (encode_utf8_all (chars text)) ≡ length text = ap length (encodes-chars text utf8) in
    omega (arith, few, same)

-- what stands before a cut, as bytes
module _ (text rest : Text) (n : ℕ) (utf8 : IsUtf8 text) (more : IsUtf8 rest) (h : chars rest ≡ drop n (chars text)) where
  pub halves : text ≡ encode_utf8_all (take n (chars text)) ++ rest
  halves =
      sym (encodes-chars text utf8) ∙ ap encode_utf8_all (sym (take-append-drop n (chars text))) ∙ encodes-append (take n (chars text)) (drop n (chars text))
      ∙ ap (λ bytes. encode_utf8_all (take n (chars text)) ++ bytes) (ap encode_utf8_all (sym h) ∙ encodes-chars rest more)

  pub front_length : length text - length rest ≡ length (encode_utf8_all (take n (chars text)))
  front_length =
      let e : length text ≡ length (encode_utf8_all (take n (chars text))) + length rest = ap length halves ∙ length-append (encode_utf8_all (take n (chars text))) rest in
      omega (arith, e)

  pub front_bytes : take (length text - length rest) text ≡ encode_utf8_all (take n (chars text))
  front_bytes = ap (λ k. take k text) front_length ∙ ap (take (length (encode_utf8_all (take n (chars text))))) halves ∙ take-append_seam (encode_utf8_all (take n (chars text))) rest

  pub front_boundary : IsCharBoundary text (length text - length rest)
  front_boundary = subst (IsCharBoundary text) (sym front_length) (IsCharBoundary-at_seam text (encode_utf8_all (take n (chars text))) rest halves more)

  -- the rest has fewer characters than all, so the front has them
  pub front_characters : chars (take (length text - length rest) text) ≡ take n (chars text)
  front_characters = ap chars front_bytes ∙ chars-encodes (take n (chars text)) (scalars-take n (chars text) (scalars-chars text utf8))

  pub no_longer : length rest ≤ length text
  no_longer =
      let e : length text ≡ length (encode_utf8_all (take n (chars text))) + length rest = ap length halves ∙ length-append (encode_utf8_all (take n (chars text))) rest in
      omega (arith, e)

begins_behind : (n : ℕ) (front text : Characters) (c : ℕ) (rest : Characters) → n < length front → text ≡ c ∷ rest → get_or front n 0 ≡ c
    → begins_with (drop (suc n) front) rest ≡ begins_with (drop n front) text
begins_behind n [] text c rest h e same = absurd (omega (arith, h))
begins_behind zero (f ∷ front) text c rest h e same =
    let yes : eqb c f ≡ true = (Decides-eqb c f).1 (sym same) in
    rw (e, yes) refl
begins_behind (suc n) (f ∷ front) text c rest h e same = begins_behind n front text c rest (omega (arith, h)) e same

-- a front with one character less
pub begins_with_one_more : (n : ℕ) (front text : Characters) (c : ℕ) (rest : Characters) → n < length front → text ≡ c ∷ rest → get_or front n 0 ≡ c
    → begins_with (drop (n + 1) front) rest ≡ begins_with (drop n front) text
begins_with_one_more n front text c rest h e same =
    let k : n + 1 ≡ suc n = omega arith in
    ap (λ m. begins_with (drop m front) rest) k ∙ begins_behind n front text c rest h e same

-- a cut of what follows a cut
pub drop_both : (n m k : ℕ) (text rest : Characters) → rest ≡ drop n text → k ≡ n + m → drop m rest ≡ drop k text
drop_both n m k text rest h e = ap (drop m) h ∙ drop-drop m n text ∙ ap (λ i. drop i text) (sym e)

pub within_both : (n m k : ℕ) (text rest : Characters) → rest ≡ drop n text → n ≤ length text → m ≤ length rest → k ≡ n + m → k ≤ length text
within_both n m k text rest h first second e =
    let l : length rest ≡ length text - n = ap length h ∙ length-drop n text in
    omega (arith, l, first, second, e)

-- a text that is not empty has characters
pub some_characters : (text : Text) → IsUtf8 text → 0 < length text → 0 < length (chars text)
some_characters text utf8 some = by (chars text) refl
  where
    by : (cs : Characters) → chars text ≡ cs → 0 < length cs
    by [] e =
        let none : length (encode_utf8_all (chars text)) ≡ 0 = ap (λ cs. length (encode_utf8_all cs)) e in
        let same : length (encode_utf8_all (chars text)) ≡ length text = ap length (encodes-chars text utf8) in
        absurd (omega (arith, some, none, same))
    by (c ∷ cs) e = omega arith
