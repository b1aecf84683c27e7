-- What stands between tokens.
use Rattle.std.proofs.Common.{◌≡◌, ◌≢◌, ℕ, suc, ◌+◌, ◌≤◌, Bool, true, false, ◌&&◌, eqb, [], ◌∷◌, length, drop, chars, encode_utf8_all, Option, Some, None, refl, sym, ap, ◌∙◌, arith, true≢false}
use Rattle.std.proofs.lemmas.Bool.Decides.{Decides-eqb}
use Rattle.std.proofs.lemmas.List.{length-drop}
use Rattle.std.proofs.lemmas.Str.{encodes-chars}
use Rattle.std.specs.Option.{option_map}
use Rattle.std.specs.Str.{IsUtf8}
use Rattle.cxx_base.specs.Texts.{Text}
use Rattle.cxx_tokens.specs.Characters.{Characters, begins_with, first_is, star, slash}
use Rattle.cxx_tokens.specs.Gaps.{block_len, is_empty}
use Rattle.cxx_tokens.proofs.Cut.{characters_are_few}

-- a front of one character
pub begins_with_one : (f : ℕ) (text : Characters) → begins_with (f ∷ []) text ≡ first_is (λ c. eqb c f) text
begins_with_one f [] = refl
begins_with_one f (c ∷ text) = by (eqb c f)
  where
    by : (b : Bool) → (b && true) ≡ b
    by true = refl
    by false = refl

-- the end of a comment is not here, so it is further on
pub block_further : (k : ℕ) (text : Characters) (c : ℕ) (rest : Characters) → text ≡ c ∷ rest → (eqb c star && begins_with (slash ∷ []) rest) ≡ false
    → option_map (λ n. (k + 1) + n) (block_len rest) ≡ option_map (λ n. k + n) (block_len text)
block_further k text c rest h e =
    let no : (eqb c star && first_is (λ d. eqb d slash) rest) ≡ false = ap (λ b. eqb c star && b) (sym (begins_with_one slash rest)) ∙ e in
    let here : block_len text ≡ option_map (λ n. 1 + n) (block_len rest) = ap block_len h ∙ rw no refl in
    by (block_len rest) ∙ ap (option_map (λ n. k + n)) (sym here)
  where
    by : (o : Option ℕ) → option_map (λ n. (k + 1) + n) o ≡ option_map (λ n. k + n) (option_map (λ n. 1 + n) o)
    by None = refl
    by (Some n) = let e : (k + 1) + n ≡ k + (1 + n) = omega arith in ap Some e

-- no end begins with another character, or with a star alone
pub not_star : (c : ℕ) (rest : Characters) → c ≢ star → (eqb c star && begins_with (slash ∷ []) rest) ≡ false
not_star c rest h = by (eqb c star) refl
  where
    by : (b : Bool) → eqb c star ≡ b → (b && begins_with (slash ∷ []) rest) ≡ false
    by true e = absurd (h ((Decides-eqb c star).0 e))
    by false e = refl

pub not_slash : (c : ℕ) (rest : Characters) → begins_with (slash ∷ []) rest ≡ false → (eqb c star && begins_with (slash ∷ []) rest) ≡ false
not_slash c rest h = ap (λ b. eqb c star && b) h ∙ by (eqb c star)
  where
    by : (b : Bool) → (b && false) ≡ false
    by true = refl
    by false = refl

-- a star and a slash behind n characters are within the text
pub two_within : (n : ℕ) (text : Characters) (c : ℕ) (rest : Characters) → drop n text ≡ c ∷ rest → begins_with (slash ∷ []) rest ≡ true → n + 2 ≤ length text
two_within n text c rest h begins =
    let l = length-drop n text in
    let e : length (drop n text) ≡ suc (length rest) = ap length h in
    let some : 1 ≤ length rest = by rest begins in
    omega (arith, e, l, some)
  where
    by : (rest : Characters) → begins_with (slash ∷ []) rest ≡ true → 1 ≤ length rest
    by [] h = absurd (true≢false (sym h))
    by (d ∷ rest) h = omega arith

-- a text is empty if it has no characters
pub empty_is : (text : Text) → IsUtf8 text → eqb (length text) 0 ≡ is_empty (chars text)
empty_is text utf8 = by (chars text) refl
  where
    by : (cs : Characters) → chars text ≡ cs → eqb (length text) 0 ≡ is_empty cs
    by [] e =
        let none : text ≡ [] = sym (encodes-chars text utf8) ∙ ap encode_utf8_all e in
        ap (λ t. eqb (length t) 0) none
    by (c ∷ cs) e = other (eqb (length text) 0) refl
      where
        other : (b : Bool) → eqb (length text) 0 ≡ b → b ≡ false
        other false q = refl
        other true q =
            let n : length text ≡ 0 = (Decides-eqb (length text) 0).0 q in
            let few = characters_are_few text utf8 in
            let more : length (chars text) ≡ suc (length cs) = ap length e in
            absurd (omega (arith, n, few, more))
