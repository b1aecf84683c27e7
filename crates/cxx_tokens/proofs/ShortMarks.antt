-- A punctuator of one character, where that character or the one behind it tells that it is no longer one.
use Rattle.std.proofs.Common.{◌≡◌, ℕ, zero, suc, ◌+◌, ◌<◌, ◌≤◌, Bool, true, false, not, ◌&&◌, ◌||◌, cond, eqb, ltb, List, [], ◌∷◌, length, take, drop, get_or, Option, Some, None, refl, sym, ap, ◌∙◌, arith, true≢false}
use Rattle.std.proofs.lemmas.Bool.{and_parts, eqb-true, ltb-true}
use Rattle.std.proofs.lemmas.Bool.Decides.{nat_tests}
use Rattle.std.specs.List.{AllByRecursion, list_all}
use Rattle.cxx_base.specs.Texts.{Text}
use Rattle.cxx_tokens.specs.Characters.{Characters, begins_with}
use Rattle.cxx_tokens.specs.Punctuators.{Punctuator, is_bracket_and_scope, longest, longest_from, punctuator_at}
use Rattle.cxx_tokens.specs.Search.{IsOfTwo, goes_on}
use Rattle.cxx_tokens.specs.Tables.{punctuators}
use Rattle.cxx_tokens.specs.declared.punctuator.TheConstants.{ALONE, SHORTEST, WITH_EQUAL, DOUBLED}
use Rattle.cxx_tokens.proofs.Words.{below_passes}

-- texts with which the same listed texts begin
same_from : (number : ℕ) (texts : List Text) (a b : Characters) → AllByRecursion (λ listed. begins_with listed a ≡ begins_with listed b) texts
    → longest_from number texts a ≡ longest_from number texts b
same_from number [] a b h = refl
same_from number (listed ∷ more) a b h = rw (h.0, same_from (number + 1) more a b h.1) refl

each : (p : Text → Bool) (Q : Text → Type 0) → ((listed : Text) → p listed ≡ true → Q listed) → (texts : List Text) → list_all p texts ≡ true → AllByRecursion Q texts
each p Q go [] h = tt
each p Q go (listed ∷ texts) h = let parts = and_parts (p listed) (list_all p texts) h in (go listed parts.0, each p Q go texts parts.1)

-- a number of the tables is below 49 at ASCII characters alone
past_end : (xs : List ℕ) (n d : ℕ) → length xs ≤ n → get_or xs n d ≡ d
past_end [] n d h = refl
past_end (x ∷ xs) zero d h = absurd (omega (arith, h))
past_end (x ∷ xs) (suc n) d h = past_end xs n d (omega (arith, h))

pub is_ascii_where : (xs : List ℕ) (c n : ℕ) → length xs ≡ 128 → n ≡ get_or xs c 49 → n < 49 → c < 128
is_ascii_where xs c n long e less = by (ltb c 128) refl
  where
    by : (b : Bool) → ltb c 128 ≡ b → c < 128
    by true q = ltb-true c 128 q
    by false q =
        let far : length xs ≤ c = grind (arith, nat_tests) in
        let none = past_end xs c 49 far in
        absurd (omega (arith, none, e, less))

pub implied : (a b : Bool) → a ≡ true → (not a || b) ≡ true → b ≡ true
implied true b e h = h
implied false b e h = absurd (true≢false (sym e))

-- the punctuator of this number, of one character
abbrev is_mark : ℕ → Option Punctuator → Bool
is_mark n None = false
is_mark n (Some mark) = eqb mark.number n && eqb mark.length 1

mark_is : (n : ℕ) (found : Option Punctuator) → is_mark n found ≡ true → Some (record { number = n; length = 1 }) ≡ found
mark_is n None h = absurd (true≢false (sym h))
mark_is n (Some mark) h =
    let parts = and_parts (eqb mark.number n) (eqb mark.length 1) h in
    ap (λ k. Some (record { number = k; length = 1 })) (sym (eqb-true mark.number n parts.0))
    ∙ ap (λ l. Some (record { number = mark.number; length = l })) (sym (eqb-true mark.length 1 parts.1))

-- ---- a character that begins no other punctuator

abbrev is_alone : ℕ → Text → Bool
is_alone c [] = true
is_alone c (d ∷ []) = true
is_alone c (d ∷ e ∷ listed) = not (eqb c d)

alone_same : (c : ℕ) (rest : Characters) (listed : Text) → is_alone c listed ≡ true → begins_with listed (c ∷ rest) ≡ begins_with listed (c ∷ [])
alone_same c rest [] h = refl
alone_same c rest (d ∷ []) h = refl
alone_same c rest (d ∷ e ∷ listed) h = by (eqb c d) refl h
  where
    by : (b : Bool) → eqb c d ≡ b → not b ≡ true → begins_with (d ∷ e ∷ listed) (c ∷ rest) ≡ begins_with (d ∷ e ∷ listed) (c ∷ [])
    by true q h = absurd (true≢false (sym h))
    by false q h = rw q refl

abbrev is_lone : ℕ → ℕ → Bool
is_lone n c = not (ltb n 49) || (list_all (is_alone c) punctuators && (is_mark n (longest (c ∷ [])) && not (eqb c 91)))

lone_passes : (c : ℕ) → c < 128 → is_lone (get_or ALONE c 49) c ≡ true
unfolding punctuators
lone_passes c h = below_passes 128 (λ c. is_lone (get_or ALONE c 49) c) refl c h

pub not_true : (b : Bool) → not b ≡ true → b ≡ false
not_true true h = absurd (true≢false (sym h))
not_true false h = refl

pub alone_is : (c n : ℕ) (text rest : Characters) → text ≡ c ∷ rest → n ≡ get_or ALONE c 49 → n < 49 → Some (record { number = n; length = 1 }) ≡ punctuator_at text
unfolding punctuator_at
alone_is c n text rest here e less =
    let small : ltb n 49 ≡ true = grind (arith, nat_tests) in
    let passes : is_lone n c ≡ true = ap (λ k. is_lone k c) e ∙ lone_passes c (is_ascii_where ALONE c n refl e less) in
    let parts = and_parts (list_all (is_alone c) punctuators) (is_mark n (longest (c ∷ [])) && not (eqb c 91)) (implied (ltb n 49) _ small passes) in
    let marked = and_parts (is_mark n (longest (c ∷ []))) (not (eqb c 91)) parts.1 in
    let other : eqb c 91 ≡ false = not_true (eqb c 91) marked.1 in
    let bracket : is_bracket_and_scope (c ∷ rest) ≡ false = rw other refl in
    let same : longest (c ∷ rest) ≡ longest (c ∷ []) =
    same_from 0 punctuators (c ∷ rest) (c ∷ []) (each (is_alone c) (λ listed. begins_with listed (c ∷ rest) ≡ begins_with listed (c ∷ [])) (alone_same c rest) punctuators parts.0) in
    mark_is n (longest (c ∷ [])) marked.0 ∙ sym same ∙ ap (λ b. longest (cond b (take 1 (c ∷ rest)) (c ∷ rest))) (sym bracket) ∙ ap punctuator_at (sym here)

-- ---- one behind which no character of a longer punctuator stands

abbrev goes_by : Text → Bool
goes_by [] = true
goes_by (a ∷ []) = true
goes_by (a ∷ b ∷ listed) = goes_on b

no_further : (c d : ℕ) (rest : Characters) (listed : Text) → goes_on d ≡ false → goes_by listed ≡ true → begins_with listed (c ∷ d ∷ rest) ≡ begins_with listed (c ∷ [])
no_further c d rest [] h g = refl
no_further c d rest (a ∷ []) h g = refl
no_further c d rest (a ∷ b ∷ listed) h g = by (eqb d b) refl
  where
    by : (e : Bool) → eqb d b ≡ e → begins_with (a ∷ b ∷ listed) (c ∷ d ∷ rest) ≡ begins_with (a ∷ b ∷ listed) (c ∷ [])
    by true q =
        let same : goes_on d ≡ goes_on b = ap goes_on (eqb-true d b q) in
        absurd (true≢false (sym g ∙ sym same ∙ h))
    by false q = rw q refl

all_go : list_all goes_by punctuators ≡ true
unfolding punctuators
all_go = refl

abbrev is_short : ℕ → ℕ → Bool
is_short n c = not (ltb n 49) || is_mark n (longest (c ∷ []))

short_passes : (c : ℕ) → c < 128 → is_short (get_or SHORTEST c 49) c ≡ true
unfolding punctuators
short_passes c h = below_passes 128 (λ c. is_short (get_or SHORTEST c 49) c) refl c h

no_scope : (c d : ℕ) (rest : Characters) → goes_on d ≡ false → is_bracket_and_scope (c ∷ d ∷ rest) ≡ false
no_scope c d rest h = by (eqb d 58) refl
  where
    by : (e : Bool) → eqb d 58 ≡ e → is_bracket_and_scope (c ∷ d ∷ rest) ≡ false
    by true q = absurd (true≢false (ap goes_on (sym (eqb-true d 58 q)) ∙ h))
    by false q = rw q (none (eqb c 91))
      where
        none : (b : Bool) → ((b && false) && not (b && false)) ≡ false
        none true = refl
        none false = refl

pub shortest_is : (c d n : ℕ) (text rest more : Characters) → text ≡ c ∷ rest → rest ≡ d ∷ more → goes_on d ≡ false → n ≡ get_or SHORTEST c 49 → n < 49
    → Some (record { number = n; length = 1 }) ≡ punctuator_at text
unfolding punctuator_at
shortest_is c d n text rest more here next h e less =
    let small : ltb n 49 ≡ true = grind (arith, nat_tests) in
    let passes : is_short n c ≡ true = ap (λ k. is_short k c) e ∙ short_passes c (is_ascii_where SHORTEST c n refl e less) in
    let marked = implied (ltb n 49) (is_mark n (longest (c ∷ []))) small passes in
    let all : Characters = c ∷ d ∷ more in
    let same : longest all ≡ longest (c ∷ []) =
    same_from 0 punctuators all (c ∷ []) (each goes_by (λ listed. begins_with listed all ≡ begins_with listed (c ∷ [])) (λ listed g. no_further c d more listed h g) punctuators all_go) in
    mark_is n (longest (c ∷ [])) marked ∙ sym same ∙ ap (λ b. longest (cond b (take 1 all) all)) (sym (no_scope c d more h)) ∙ ap punctuator_at (sym (here ∙ ap (λ r. c ∷ r) next))

-- ---- two characters, behind which no `=` stands

abbrev ends_equal : Text → Bool
ends_equal [] = true
ends_equal (a ∷ []) = true
ends_equal (a ∷ b ∷ []) = true
ends_equal (a ∷ b ∷ e ∷ listed) = eqb e 61

all_end : list_all ends_equal punctuators ≡ true
unfolding punctuators
all_end = refl

no_third : (c d e : ℕ) (rest : Characters) (listed : Text) → eqb e 61 ≡ false → ends_equal listed ≡ true
    → begins_with listed (c ∷ d ∷ e ∷ rest) ≡ begins_with listed (c ∷ d ∷ [])
no_third c d e rest [] h g = refl
no_third c d e rest (a ∷ []) h g = refl
no_third c d e rest (a ∷ b ∷ []) h g = refl
no_third c d e rest (a ∷ b ∷ x ∷ listed) h g =
    let same : x ≡ 61 = eqb-true x 61 g in
    let other : eqb e x ≡ false = ap (eqb e) same ∙ h in
    rw other refl

abbrev is_two : ℕ → Option Punctuator → Bool
is_two n None = false
is_two n (Some mark) = eqb mark.number n && eqb mark.length 2

two_is : (n : ℕ) (found : Option Punctuator) → is_two n found ≡ true → Some (record { number = n; length = 2 }) ≡ found
two_is n None h = absurd (true≢false (sym h))
two_is n (Some mark) h =
    let parts = and_parts (eqb mark.number n) (eqb mark.length 2) h in
    ap (λ k. Some (record { number = k; length = 2 })) (sym (eqb-true mark.number n parts.0))
    ∙ ap (λ l. Some (record { number = mark.number; length = l })) (sym (eqb-true mark.length 2 parts.1))

abbrev is_of_two : ℕ → ℕ → ℕ → Bool
is_of_two n c d = not (ltb n 49) || (is_two n (longest (c ∷ d ∷ [])) && not (eqb c 91))

with_equal_passes : (c : ℕ) → c < 128 → is_of_two (get_or WITH_EQUAL c 49) c 61 ≡ true
unfolding punctuators
with_equal_passes c h = below_passes 128 (λ c. is_of_two (get_or WITH_EQUAL c 49) c 61) refl c h

doubled_passes : (c : ℕ) → c < 128 → is_of_two (get_or DOUBLED c 49) c c ≡ true
unfolding punctuators
doubled_passes c h = below_passes 128 (λ c. is_of_two (get_or DOUBLED c 49) c c) refl c h

of_two : (n c d : ℕ) → n < 49 → is_of_two n c d ≡ true → IsOfTwo c d n
of_two n c d less h =
    let small : ltb n 49 ≡ true = grind (arith, nat_tests) in
    let parts = and_parts (is_two n (longest (c ∷ d ∷ []))) (not (eqb c 91)) (implied (ltb n 49) _ small h) in
    (two_is n (longest (c ∷ d ∷ [])) parts.0, not_true (eqb c 91) parts.1)

pub with_equal_is : (c n : ℕ) → n ≡ get_or WITH_EQUAL c 49 → n < 49 → IsOfTwo c 61 n
with_equal_is c n e less = of_two n c 61 less (ap (λ k. is_of_two k c 61) e ∙ with_equal_passes c (is_ascii_where WITH_EQUAL c n refl e less))

pub doubled_is : (c n : ℕ) → n ≡ get_or DOUBLED c 49 → n < 49 → IsOfTwo c c n
doubled_is c n e less = of_two n c c less (ap (λ k. is_of_two k c c) e ∙ doubled_passes c (is_ascii_where DOUBLED c n refl e less))

pub arrow_is : IsOfTwo 45 62 14
unfolding punctuators
arrow_is = (refl, refl)

pub two_told : (c d e n : ℕ) (text rest behind more : Characters) → text ≡ c ∷ rest → rest ≡ d ∷ behind → behind ≡ e ∷ more → eqb e 61 ≡ false → IsOfTwo c d n
    → Some (record { number = n; length = 2 }) ≡ punctuator_at text
unfolding punctuator_at
two_told c d e n text rest behind more here next third h is =
    let all : Characters = c ∷ d ∷ e ∷ more in
    let whole : text ≡ all = here ∙ ap (λ r. c ∷ r) (next ∙ ap (λ r. d ∷ r) third) in
    let bracket : is_bracket_and_scope all ≡ false = rw is.1 refl in
    let same : longest all ≡ longest (c ∷ d ∷ []) =
    same_from 0 punctuators all (c ∷ d ∷ []) (each ends_equal (λ listed. begins_with listed all ≡ begins_with listed (c ∷ d ∷ [])) (λ listed g. no_third c d e more listed h g) punctuators all_end) in
    is.0 ∙ sym same ∙ ap (λ b. longest (cond b (take 1 all) all)) (sym bracket) ∙ ap punctuator_at (sym whole)

-- ---- what is cut off

pub one_cut : (c : ℕ) (text rest : Characters) → text ≡ c ∷ rest → (rest ≡ drop 1 text) × (1 ≤ length text)
one_cut c text rest h =
    let long = ap length h in
    (sym (ap (drop 1) h), omega (arith, long))

pub two_cut : (c d : ℕ) (text rest behind : Characters) → text ≡ c ∷ rest → rest ≡ d ∷ behind → (behind ≡ drop 2 text) × (2 ≤ length text)
two_cut c d text rest behind h next =
    let whole : text ≡ c ∷ d ∷ behind = h ∙ ap (λ r. c ∷ r) next in
    let long = ap length whole in
    (sym (ap (drop 2) whole), omega (arith, long))
