-- The longest punctuator is found among those that begin as the text does.
use Rattle.std.proofs.Common.{◌≡◌, ℕ, ◌+◌, ◌-◌, ◌<◌, ◌≤◌, Bool, true, false, cond, ltb, eqb, ◌&&◌, List, [], ◌∷◌, length, map, take, drop, get_or, slice_get, is_some, Some, None, IfSome, Option, Bor, refl, sym, ap, subst, ◌∙◌, arith, codes, true≢false}
use Rattle.std.proofs.lemmas.List.{drop-drop, get_or-drop, length-map}
use Rattle.std.specs.Cmp.Lexicographic.{bytes_decides}
use Rattle.std.specs.List.{list_all}
use Rattle.std.specs.Str.{bytes_eq}
use Rattle.std.proofs.Math.Seq.{take-length}
use Rattle.std.proofs.lemmas.Bool.{ltb-true, ltb-false, eqb-true}
use Rattle.std.proofs.lemmas.Bool.Decides.{nat_tests}
use Rattle.cxx_base.specs.Texts.{Text}
use Rattle.cxx_tokens.specs.Characters.{Characters, begins_with}
use Rattle.cxx_tokens.specs.Punctuators.{Punctuator, longer, longest, longest_from}
use Rattle.cxx_tokens.specs.Search.{combined, longest_among}
use Rattle.cxx_tokens.specs.Tables.{punctuators}
use Rattle.cxx_tokens.specs.Cuts.{seen_punctuators}
use Rattle.cxx_tokens.specs.Words.{AreBelow, word_at}
use Rattle.cxx_tokens.specs.declared.punctuator.Punctuator.{Punctuator as KeptPunctuator}
use Rattle.cxx_tokens.specs.declared.punctuator.TheConstants.{PUNCTUATORS, BY_FIRST}
use Rattle.cxx_tokens.proofs.Words.{below_passes, get_or-now}

-- a bracket alone
pub bracket_is : (text : Characters) → begins_with (codes "[") text ≡ true → Some (record { number = 2; length = 1 }) ≡ longest (take 1 text)
unfolding punctuators
bracket_is [] h = absurd (true≢false (sym h))
bracket_is (c ∷ text) h = by (eqb c 91) refl h
  where
    by : (b : Bool) → eqb c 91 ≡ b → (b && true) ≡ true → Some (record { number = 2; length = 1 }) ≡ longest (c ∷ [])
    by true e h = let same : c ≡ 91 = eqb-true c 91 e in rw same refl
    by false e h = absurd (true≢false (sym h))

-- of three the longest, in whichever order they are tried
longest_of_three : (f m r : Punctuator) → longer (longer f (Some m)) (Some r) ≡ longer f (Some (longer m (Some r)))
longest_of_three f m r = by (ltb f.length m.length) refl (ltb m.length r.length) refl
  where
    by : (a : Bool) → ltb f.length m.length ≡ a → (b : Bool) → ltb m.length r.length ≡ b
        → longer (cond a m f) (Some r) ≡ longer f (Some (cond b r m))
    by true first true second =
        let x = ltb-true f.length m.length first in
        let y = ltb-true m.length r.length second in
        let all : ltb f.length r.length ≡ true = grind (arith, nat_tests) in
        rw (second, all) refl
    by true first false second = rw (second, first) refl
    by false first true second = refl
    by false first false second =
        let x = ltb-false f.length m.length first in
        let y = ltb-false m.length r.length second in
        let none : ltb f.length r.length ≡ false = grind (arith, nat_tests) in
        rw (none, first) refl

longer_again : (found : Option Punctuator) (m best : Punctuator) (rest : Option Punctuator) → Some best ≡ combined found (Some m)
    → combined (Some best) rest ≡ combined found (Some (longer m rest))
longer_again None m best rest h = ap (λ (first : Option Punctuator). combined first rest) h
longer_again (Some f) m best None h = h
longer_again (Some f) m best (Some r) h = ap (λ (first : Option Punctuator). combined first (Some r)) h ∙ ap Some (longest_of_three f m r)

-- a text with which the text begins is taken into account
pub tried : (texts : List (Bor Text)) (number : ℕ) (numbers : List ℕ) (text : Characters) (found : Option Punctuator) (best : Punctuator)
    → begins_with (word_at texts number) text ≡ true → Some best ≡ combined found (Some (record { number = number; length = length (word_at texts number) }))
    → combined (Some best) (longest_among texts numbers text) ≡ combined found (longest_among texts (number ∷ numbers) text)
tried texts number numbers text found best begins h =
    longer_again found (record { number = number; length = length (word_at texts number) }) best (longest_among texts numbers text) h
    ∙ (rw begins refl)

-- the same of the first of some numbers
pub tried_first : (texts : List (Bor Text)) (left : List ℕ) (k : ℕ) (text : Characters) (found : Option Punctuator) (best : Punctuator)
    → 1 ≤ length left → k ≡ length left → begins_with (word_at texts (get_or left 0 0)) text ≡ true
    → Some best ≡ combined found (Some (record { number = get_or left 0 0; length = length (word_at texts (get_or left 0 0)) }))
    → combined (Some best) (longest_among texts (take (k - 1) (drop 1 left)) text) ≡ combined found (longest_among texts left text)
tried_first texts [] k text found best some all begins h = absurd (omega (arith, some))
tried_first texts (number ∷ numbers) k text found best some all begins h =
    let e : k - 1 ≡ length numbers = omega (arith, all) in
    ap (λ ns. combined (Some best) (longest_among texts ns text)) (ap (λ n. take n numbers) e ∙ take-length numbers)
    ∙ tried texts number numbers text found best begins h

pub below_rest : (most : ℕ) (left : List ℕ) (k : ℕ) → 1 ≤ length left → k ≡ length left → AreBelow most left → AreBelow most (take (k - 1) (drop 1 left))
below_rest most [] k some all h = absurd (omega (arith, some))
below_rest most (number ∷ numbers) k some all h =
    let e : k - 1 ≡ length numbers = omega (arith, all) in
    subst (AreBelow most) (sym (ap (λ n. take n numbers) e ∙ take-length numbers)) h.1

-- ---- the texts that begin as the text does

abbrev pub may_begin : ℕ → Text → Bool
may_begin c [] = true
may_begin c (d ∷ text) = eqb c d

-- the places of those that may begin with a character, of which the first stands at place i
abbrev pub of_first : ℕ → ℕ → List Text → List ℕ
of_first c i [] = []
of_first c i (listed ∷ texts) = cond (may_begin c listed) (i ∷ of_first c (i + 1) texts) (of_first c (i + 1) texts)

of_first-below : (c most i : ℕ) (texts : List Text) → i + length texts ≤ most → AreBelow most (of_first c i texts)
of_first-below c most i [] h = tt
of_first-below c most i (listed ∷ texts) h = by (may_begin c listed) (of_first-below c most (i + 1) texts (omega (arith, h)))
  where
    by : (b : Bool) → AreBelow most (of_first c (i + 1) texts) → AreBelow most (cond b (i ∷ of_first c (i + 1) texts) (of_first c (i + 1) texts))
    by true rest = (omega (arith, h), rest)
    by false rest = rest

other_first : (c : ℕ) (listed rest : Text) → may_begin c listed ≡ false → begins_with listed (c ∷ rest) ≡ false
other_first c [] rest h = absurd (true≢false h)
other_first c (d ∷ listed) rest h = rw h refl

module _ (all : List (Bor Text)) (c : ℕ) (rest : Characters) where
  search_by_first : (i : ℕ) (texts : List Text) → drop i (map (λ text. text.now) all) ≡ texts
      → longest_among all (of_first c i texts) (c ∷ rest) ≡ longest_from i texts (c ∷ rest)
  search_by_first i [] h = refl
  search_by_first i (listed ∷ texts) h = by (may_begin c listed) refl (search_by_first (i + 1) texts later)
    where
      now : List Text
      now = map (λ text. text.now) all

      later : drop (i + 1) now ≡ texts
      later = sym (drop-drop 1 i now) ∙ ap (drop 1) h

      here : word_at all i ≡ listed
      here =
          let same : i ≡ i + 0 = omega arith in
          get_or-now all i ∙ ap (λ k. get_or now k []) same ∙ sym (get_or-drop i now 0 []) ∙ ap (λ (ts : List Text). get_or ts 0 []) h

      by : (b : Bool) → may_begin c listed ≡ b → longest_among all (of_first c (i + 1) texts) (c ∷ rest) ≡ longest_from (i + 1) texts (c ∷ rest)
          → longest_among all (cond b (i ∷ of_first c (i + 1) texts) (of_first c (i + 1) texts)) (c ∷ rest) ≡ longest_from i (listed ∷ texts) (c ∷ rest)
      by true e more = rw (here, more) refl
      by false e more =
          let no : begins_with listed (c ∷ rest) ≡ false = other_first c listed rest e in
          rw (no, more) refl

abbrev texts : List Text
texts = map (λ text. text.now) PUNCTUATORS

-- the punctuators of the code are those of the definition
punctuators_are : texts ≡ punctuators
unfolding punctuators
punctuators_are = refl

abbrev tables : List (List ℕ)
tables = map (λ numbers. numbers.now) BY_FIRST

-- the table has the places of the punctuators that begin with each character
places_by_first : (c : ℕ) → c < 128 → get_or tables c [] ≡ of_first c 0 texts
places_by_first c h = (bytes_decides _ _).0 (below_passes 128 (λ c. bytes_eq (get_or tables c []) (of_first c 0 texts)) refl c h)

-- no punctuator begins with another character
abbrev first_below : ℕ → Text → Bool
first_below n [] = false
first_below n (d ∷ text) = ltb d n

none_of_first : (c i : ℕ) (listed : List Text) → list_all (λ text. first_below 128 text) listed ≡ true → 128 ≤ c → of_first c i listed ≡ []
none_of_first c i [] h great = refl
none_of_first c i ([] ∷ listed) h great = absurd (true≢false (sym h))
none_of_first c i ((d ∷ text) ∷ listed) h great = by (ltb d 128) refl h (λ rest. none_of_first c (i + 1) listed rest great)
  where
    by : (b : Bool) → ltb d 128 ≡ b → (b && list_all (λ text. first_below 128 text) listed) ≡ true
        → (list_all (λ text. first_below 128 text) listed ≡ true → of_first c (i + 1) listed ≡ []) → of_first c i ((d ∷ text) ∷ listed) ≡ []
    by true e h rest =
        let less = ltb-true d 128 e in
        let other : eqb c d ≡ false = grind (arith, nat_tests) in
        rw other (rest h)
    by false e h rest = absurd (true≢false (sym h))

pub none_at_the_end : (text : Characters) → slice_get text 0 ≡ None → None ≡ longest text
unfolding punctuators
none_at_the_end [] h = refl
none_at_the_end (c ∷ text) h = absurd (true≢false (ap is_some h))

module _ (words : List (Bor Text)) (by_first : List (Bor (List ℕ))) (text : Characters) (c : ℕ)
    (same_words : map (λ text. text.now) words ≡ map (λ text. text.now) PUNCTUATORS)
    (same_places : map (λ numbers. numbers.now) by_first ≡ map (λ numbers. numbers.now) BY_FIRST)
    (first : slice_get text 0 ≡ Some c) where
  count : length by_first ≡ 128
  count = sym (length-map by_first (λ numbers. numbers.now)) ∙ ap length same_places

  places : c < 128 → (get_or by_first c (record { ref_ptr = (0, 0); now = [] })).now ≡ of_first c 0 texts
  places h = get_or-now by_first c ∙ ap (λ t. get_or t c []) same_places ∙ places_by_first c h

  pub places_below : c < length by_first → AreBelow (length words) (get_or by_first c (record { ref_ptr = (0, 0); now = [] })).now
  places_below h =
      let many : 49 ≡ length words = sym (ap length same_words) ∙ length-map words (λ text. text.now) in
      subst (AreBelow (length words)) (sym (places (omega (arith, h, count)))) (of_first-below c (length words) 0 texts (omega (arith, many)))

  searched : longest_among words (of_first c 0 texts) text ≡ longest text
  searched = by text first
    where
      by : (text : Characters) → slice_get text 0 ≡ Some c → longest_among words (of_first c 0 texts) text ≡ longest text
      by [] h = absurd (true≢false (ap is_some (sym h)))
      by (d ∷ rest) h =
          let same : d ≡ c = cc h in
          ap (λ d. longest_among words (of_first c 0 texts) (d ∷ rest)) same ∙ search_by_first words c rest 0 texts same_words
          ∙ ap (λ listed. longest_from 0 listed (c ∷ rest)) punctuators_are ∙ ap (λ d. longest (d ∷ rest)) (sym same)

  pub found_by_first : c < length by_first → longest_among words (get_or by_first c (record { ref_ptr = (0, 0); now = [] })).now text ≡ longest text
  found_by_first h = ap (λ numbers. longest_among words numbers text) (places (omega (arith, h, count))) ∙ searched

  pub none_greater : length by_first ≤ c → None ≡ longest text
  none_greater h =
      sym (ap (λ numbers. longest_among words numbers text) (none_of_first c 0 texts refl (omega (arith, h, count)))) ∙ searched

-- ---- a punctuator has a character at least

pub longer_least : (first : Punctuator) (rest : Option Punctuator) → first.length ≤ (longer first rest).length
longer_least first None = omega arith
longer_least first (Some other) = by (ltb first.length other.length) refl
  where
    by : (b : Bool) → ltb first.length other.length ≡ b → first.length ≤ (cond b other first).length
    by true e = let less = ltb-true first.length other.length e in omega (arith, less)
    by false e = omega arith

abbrev some_text : Text → Bool
some_text [] = false
some_text (c ∷ text) = true

some_listed : (number : ℕ) (listed : List Text) (text : Characters) → list_all some_text listed ≡ true
    → IfSome (longest_from number listed text) (λ found. 0 < found.length)
some_listed number [] text h = tt
some_listed number ([] ∷ more) text h = absurd (true≢false (sym h))
some_listed number ((c ∷ first) ∷ more) text h = by (begins_with (c ∷ first) text) (some_listed (number + 1) more text h)
  where
    by : (b : Bool) → IfSome (longest_from (number + 1) more text) (λ found. 0 < found.length)
        → IfSome (cond b (Some (longer (record { number = number; length = length (c ∷ first) }) (longest_from (number + 1) more text))) (longest_from (number + 1) more text)) (λ found. 0 < found.length)
    by true rest = let l = longer_least (record { number = number; length = length (c ∷ first) }) (longest_from (number + 1) more text) in omega (arith, l)
    by false rest = rest

pub some_found : (found : Option KeptPunctuator) (text : Characters) → seen_punctuators found ≡ longest text → IfSome found (λ kept. 0 < kept.cut.length)
unfolding punctuators
some_found None text h = tt
some_found (Some kept) text h = subst (λ (seen : Option Punctuator). IfSome seen (λ found. 0 < found.length)) (sym h) (some_listed 0 punctuators text refl)
