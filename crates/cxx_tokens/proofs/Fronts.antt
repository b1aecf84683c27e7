-- Fronts of texts that are tokens: by their first character, by membership of a list, and by what ends them.
use Rattle.std.proofs.Common.{◌≡◌, ℕ, zero, suc, ◌+◌, ◌<◌, ◌≤◌, Bool, true, false, ◌&&◌, ◌||◌, cond, List, [], ◌∷◌, ◌++◌, length, take, drop, refl, sym, ap, ◌∙◌, arith, true≢false}
use Rattle.std.proofs.lemmas.Bool.{and_parts, and_from}
use Rattle.std.specs.Cmp.Lexicographic.{bytes_decides}
use Rattle.std.specs.List.{list_all, prefix_len}
use Rattle.std.specs.Str.{bytes_eq}
use Rattle.cxx_base.specs.Texts.{Text}
use Rattle.cxx_tokens.specs.Characters.{Characters, first_is}
use Rattle.cxx_tokens.specs.Munch.{is_listed}

-- a longer front goes on behind a front
goes_on : (n m : ℕ) (text : Characters) → n < m → m ≤ length text → (c : ℕ) × (rest : Characters) × (take m text ≡ take n text ++ c ∷ rest)
goes_on zero zero text less within = absurd (omega (arith, less))
goes_on zero (suc m) [] less within = absurd (omega (arith, within))
goes_on zero (suc m) (c ∷ text) less within = (c, take m text, refl)
goes_on (suc n) zero text less within = absurd (omega (arith, less))
goes_on (suc n) (suc m) [] less within = absurd (omega (arith, within))
goes_on (suc n) (suc m) (c ∷ text) less within =
    let more = goes_on n m text (omega (arith, less)) (omega (arith, within)) in
    (more.0, more.1, ap (λ (front : Characters). c ∷ front) more.2)

-- a form that never goes on behind a text of that form
abbrev pub IsPrefixFree : (Characters → Bool) → Type 0
IsPrefixFree p = (front : Characters) (c : ℕ) (rest : Characters) → p front ≡ true → p (front ++ c ∷ rest) ≡ false

pub none_longer : (p : Characters → Bool) → IsPrefixFree p → (n m : ℕ) (text : Characters) → p (take n text) ≡ true → n < m → m ≤ length text → p (take m text) ≡ false
none_longer p free n m text h less within =
    let more = goes_on n m text less within in
    ap p more.2 ∙ free (take n text) more.0 more.1 h

-- what holds of each listed text holds of a listed text
pub listed_passes : (p : Characters → Bool) (texts : List Text) (text : Characters) → list_all p texts ≡ true → is_listed texts text ≡ true → p text ≡ true
listed_passes p [] text all h = absurd (true≢false (sym h))
listed_passes p (listed ∷ texts) text all h =
    let parts_of = and_parts (p listed) (list_all p texts) all in
    by (bytes_eq text listed) refl h parts_of.0 (λ more. listed_passes p texts text parts_of.1 more)
  where
    by : (b : Bool) → bytes_eq text listed ≡ b → (b || is_listed texts text) ≡ true → p listed ≡ true → (is_listed texts text ≡ true → p text ≡ true) → p text ≡ true
    by true e h here more = ap p ((bytes_decides text listed).0 e) ∙ here
    by false e h here more = more h

pub all_kept : (p q : ℕ → Bool) → ((c : ℕ) → p c ≡ true → q c ≡ true) → (text : Characters) → list_all p text ≡ true → list_all q text ≡ true
all_kept p q keeps [] h = refl
all_kept p q keeps (c ∷ text) h =
    let parts = and_parts (p c) (list_all p text) h in
    and_from (q c) (list_all q text) (keeps c parts.0) (all_kept p q keeps text parts.1)

-- ---- runs

pub run_front : (p : ℕ → Bool) (k : ℕ) (text : Characters) → k ≤ prefix_len p text → list_all p (take k text) ≡ true
run_front p zero text h = refl
run_front p (suc k) [] h = refl
run_front p (suc k) (c ∷ text) h = by (p c) refl h (λ more. run_front p k text more)
  where
    by : (b : Bool) → p c ≡ b → suc k ≤ cond b (1 + prefix_len p text) 0 → (k ≤ prefix_len p text → list_all p (take k text) ≡ true) → (b && list_all p (take k text)) ≡ true
    by true e h more = more (omega (arith, h))
    by false e h more = absurd (omega (arith, h))

-- a front longer than the run has a character that is not of it
pub beyond_run : (p : ℕ → Bool) (k : ℕ) (text : Characters) → prefix_len p text < k → k ≤ length text → list_all p (take k text) ≡ false
beyond_run p zero text less within = absurd (omega (arith, less))
beyond_run p (suc k) [] less within = absurd (omega (arith, within))
beyond_run p (suc k) (c ∷ text) less within = by (p c) refl less (λ more. beyond_run p k text more (omega (arith, within)))
  where
    by : (b : Bool) → p c ≡ b → cond b (1 + prefix_len p text) 0 < suc k → (prefix_len p text < k → list_all p (take k text) ≡ false)
        → (b && list_all p (take k text)) ≡ false
    by true e less more = more (omega (arith, less))
    by false e less more = refl

-- the character behind a shorter front
pub passes_behind : (p : ℕ → Bool) (n m : ℕ) (text : Characters) → n < m → m ≤ length text → list_all p (take m text) ≡ true → first_is p (drop n text) ≡ true
passes_behind p n zero text less within h = absurd (omega (arith, less))
passes_behind p n (suc m) [] less within h = absurd (omega (arith, within))
passes_behind p zero (suc m) (c ∷ text) less within h = (and_parts (p c) (list_all p (take m text)) h).0
passes_behind p (suc n) (suc m) (c ∷ text) less within h =
    passes_behind p n m text (omega (arith, less)) (omega (arith, within)) ((and_parts (p c) (list_all p (take m text)) h).1)
