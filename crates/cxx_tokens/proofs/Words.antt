-- A word stands in the table at its key.
use Rattle.std.proofs.Common.{◌≡◌, ℕ, zero, suc, ◌+◌, ◌-◌, ◌<◌, ◌≤◌, Bool, true, false, ◌&&◌, cond, eqb, ltb, List, [], ◌∷◌, length, map, get_or, Option, Some, None, Bor, refl, sym, ap, ◌∙◌, arith, true≢false}
use Rattle.std.proofs.lemmas.List.{length-map}
use Rattle.std.proofs.lemmas.Bool.{ltb-true}
use Rattle.std.proofs.lemmas.Bool.Decides.{Decides-eqb, nat_tests}
use Rattle.std.specs.Cmp.Lexicographic.{bytes_decides}
use Rattle.std.specs.List.{position_from}
use Rattle.std.specs.Str.{bytes_eq}
use Rattle.cxx_base.specs.Texts.{Text}
use Rattle.cxx_tokens.specs.Lex.{reserved}
use Rattle.cxx_tokens.specs.declared.word.TheConstants.{WORDS, BY_KEY}
use Rattle.cxx_tokens.specs.Tables.{words as listed}
use Rattle.cxx_tokens.specs.Words.{key, place_if, word_at}

pub get_or-now : (refs : List (Bor (List ℕ))) (n : ℕ) → (get_or refs n (record { ref_ptr = (0, 0); now = [] })).now ≡ get_or (map (λ r. r.now) refs) n []
get_or-now [] n = refl
get_or-now (r ∷ refs) zero = refl
get_or-now (r ∷ refs) (suc n) = get_or-now refs n

-- a test that passes at each number below n
abbrev pub all_below : ℕ → (ℕ → Bool) → Bool
all_below zero p = true
all_below (suc n) p = p n && all_below n p

pub below_passes : (n : ℕ) (p : ℕ → Bool) → all_below n p ≡ true → (k : ℕ) → k < n → p k ≡ true
below_passes zero p h k less = absurd (omega (arith, less))
below_passes (suc n) p h k less = by (p n) refl h (eqb k n) refl (λ rest less. below_passes n p rest k less)
  where
    by : (b : Bool) → p n ≡ b → (b && all_below n p) ≡ true → (same : Bool) → eqb k n ≡ same → (all_below n p ≡ true → k < n → p k ≡ true) → p k ≡ true
    by false e h same q rest = absurd (true≢false (sym h))
    by true e h true q rest = let k_is : k ≡ n = (Decides-eqb k n).0 q in rw k_is e
    by true e h false q rest = rest h (grind (arith, nat_tests))

abbrev texts : List Text
texts = map (λ word. word.now) WORDS

-- the words of the code are those of the definition
words_are : listed ≡ texts
unfolding listed
words_are = refl

-- each word is in the table at its key
place_of_word : (k : ℕ) → k < 93 → get_or BY_KEY (key (get_or texts k [])) 0 ≡ k
place_of_word k h =
    (Decides-eqb (get_or BY_KEY (key (get_or texts k [])) 0) k).0 (below_passes 93 (λ k. eqb (get_or BY_KEY (key (get_or texts k [])) 0) k) refl k h)

-- what a search from a place on finds
module _ (p : Text → Bool) where
  pub found_passes : (i : ℕ) (all : List Text) (k : ℕ) → position_from p i all ≡ Some k → (i ≤ k) × (k < i + length all) × (p (get_or all (k - i) []) ≡ true)
  found_passes i [] k h = absurd (cc h)
  found_passes i (first ∷ all) k h = by (p first) refl h (λ h. found_passes (i + 1) all k h)
    where
      by : (b : Bool) → p first ≡ b → cond b (Some i) (position_from p (i + 1) all) ≡ Some k
          → (position_from p (i + 1) all ≡ Some k → (i + 1 ≤ k) × (k < i + 1 + length all) × (p (get_or all (k - (i + 1)) []) ≡ true))
          → (i ≤ k) × (k < i + length (first ∷ all)) × (p (get_or (first ∷ all) (k - i) []) ≡ true)
      by true e h go =
          let same : i ≡ k = cc h in
          let none : k - i ≡ 0 = omega (arith, same) in
          (omega (arith, same), omega (arith, same), ap (λ n. p (get_or (first ∷ all) n [])) none ∙ e)
      by false e h go =
          let later = go h in
          let least = later.0 in
          let less = later.1 in
          let more : k - i ≡ suc (k - (i + 1)) = omega (arith, least) in
          (omega (arith, least), omega (arith, less), ap (λ n. p (get_or (first ∷ all) n [])) more ∙ later.2)

  pub none_passes : (i : ℕ) (all : List Text) (k : ℕ) → position_from p i all ≡ None → k < length all → p (get_or all k []) ≡ false
  none_passes i [] k h less = absurd (omega (arith, less))
  none_passes i (first ∷ all) k h less = by (p first) refl h k less (λ h k less. none_passes (i + 1) all k h less)
    where
      by : (b : Bool) → p first ≡ b → cond b (Some i) (position_from p (i + 1) all) ≡ None → (k : ℕ) → k < length (first ∷ all)
          → (position_from p (i + 1) all ≡ None → (k : ℕ) → k < length all → p (get_or all k []) ≡ false) → p (get_or (first ∷ all) k []) ≡ false
      by true e h k less rest = absurd (cc h)
      by false e h zero less rest = e
      by false e h (suc k) less rest = rest h k (omega (arith, less))

module _ (text : Text) where
  abbrev is_text : Text → Bool
  is_text word = bytes_eq word text

  searched : reserved text ≡ position_from is_text 0 texts
  unfolding reserved
  searched = ap (position_from is_text 0) words_are

  -- a reserved word is the one of its key
  word_here : (k : ℕ) → reserved text ≡ Some k → (k < 93) × (bytes_eq (get_or texts k []) text ≡ true) × (get_or BY_KEY (key text) 0 ≡ k)
  word_here k h =
      let found = found_passes is_text 0 texts k (sym searched ∙ h) in
      let less : k < 93 = found.1 in
      let here : k - 0 ≡ k = omega arith in
      let is : bytes_eq (get_or texts k []) text ≡ true = sym (ap (λ n. is_text (get_or texts n [])) here) ∙ found.2 in
      let same : get_or texts k [] ≡ text = (bytes_decides (get_or texts k []) text).0 is in
      (less, is, ap (λ word. get_or BY_KEY (key word) 0) (sym same) ∙ place_of_word k less)

  no_word_here : (k : ℕ) → reserved text ≡ None → k < 93 → bytes_eq (get_or texts k []) text ≡ false
  no_word_here k h less = none_passes is_text 0 texts k (sym searched ∙ h) less

  below_all : (n : ℕ) → n < 93 → ltb n 93 ≡ true
  below_all n h = grind (arith, nat_tests)

  -- the place of the key is that of the text, where the word there is the text
  at_key : (k : ℕ) → k ≡ get_or BY_KEY (key text) 0 → cond (ltb k 93 && bytes_eq (get_or texts k []) text) (Some k) None ≡ reserved text
  at_key k e = by (reserved text) refl (ltb k 93) refl (bytes_eq (get_or texts k []) text) refl
    where
      by : (o : Option ℕ) → reserved text ≡ o → (a : Bool) → ltb k 93 ≡ a → (b : Bool) → bytes_eq (get_or texts k []) text ≡ b
          → cond (a && b) (Some k) None ≡ reserved text
      by None h true less true is = absurd (true≢false (sym is ∙ no_word_here k h (ltb-true k 93 less)))
      by None h true less false is = sym h
      by None h false less b is = sym h
      by (Some n) h a less b is =
          let here = word_here n h in
          let same : k ≡ n = e ∙ here.2 in
          let first : a ≡ true = sym less ∙ rw same (below_all n here.0) in
          let second : b ≡ true = sym is ∙ ap (λ i. bytes_eq (get_or texts i []) text) same ∙ here.1 in
          rw (first, second, same) (sym h)

module _ (words : List (Bor Text)) (same_words : map (λ word. word.now) words ≡ map (λ word. word.now) WORDS) where
  many : length words ≡ 93
  many = sym (length-map words (λ word. word.now)) ∙ ap length same_words

  word_in : (k : ℕ) → word_at words k ≡ get_or texts k []
  word_in k = get_or-now words k ∙ ap (λ all. get_or all k []) same_words

  pub found_by_key : (text : Text) (k : ℕ) → k ≡ get_or BY_KEY (key text) 0 → place_if words k text ≡ reserved text
  found_by_key text k e =
      ap (λ n. cond (ltb k n && bytes_eq (word_at words k) text) (Some k) None) many
      ∙ ap (λ word. cond (ltb k 93 && bytes_eq word text) (Some k) None) (word_in k)
      ∙ at_key text k e
