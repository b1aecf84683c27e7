-- A punctuator of one character that begins nothing else.
use Rattle.std.proofs.Common.{◌≡◌, ◌≢◌, ℕ, ◌<◌, Bool, true, not, ◌&&◌, ◌||◌, eqb, ltb, get_or, refl, sym, ap, ◌∙◌, arith, true≢false}
use Rattle.std.proofs.lemmas.Bool.{and_parts, ltb-true}
use Rattle.std.proofs.lemmas.Bool.Decides.{nat_tests}
use Rattle.std.specs.Char.{is_ascii_digit}
use Rattle.cxx_tokens.specs.Turns.{IsMark}
use Rattle.cxx_tokens.specs.declared.punctuator.TheConstants.{ALONE}
use Rattle.cxx_tokens.proofs.Munch.{begins_no_word, no_word_begins}
use Rattle.cxx_tokens.proofs.ShortMarks.{implied, is_ascii_where, not_true}
use Rattle.cxx_tokens.proofs.Words.{below_passes}

-- no comment, string, line or character begins so
abbrev begins_none : ℕ → Bool
begins_none c = not (eqb c 34) && (not (eqb c 35) && (not (eqb c 39) && not (eqb c 47)))

abbrev stands_alone : ℕ → Bool
stands_alone c = ltb 32 c && (begins_no_word c && (not (is_ascii_digit c) && begins_none c))

other : (c d : ℕ) → not (eqb c d) ≡ true → (not (eqb d d) ≡ true → ⊥) → c ≢ d
other c d h same = λ e. same (sym (ap (λ x. not (eqb x d)) e) ∙ h)

pub lone_is_mark : (c n : ℕ) → n ≡ get_or ALONE c 49 → n < 49 → IsMark c
lone_is_mark c n e less =
    let small : ltb n 49 ≡ true = grind (arith, nat_tests) in
    let passes = below_passes 128 (λ c. not (ltb (get_or ALONE c 49) 49) || stands_alone c) refl c (is_ascii_where ALONE c n refl e less) in
    let alone : stands_alone c ≡ true = implied (ltb n 49) (stands_alone c) small (ap (λ k. not (ltb k 49) || stands_alone c) e ∙ passes) in
    let a = and_parts (ltb 32 c) (begins_no_word c && (not (is_ascii_digit c) && begins_none c)) alone in
    let b = and_parts (begins_no_word c) (not (is_ascii_digit c) && begins_none c) a.1 in
    let d = and_parts (not (is_ascii_digit c)) (begins_none c) b.1 in
    let s = and_parts (not (eqb c 34)) (not (eqb c 35) && (not (eqb c 39) && not (eqb c 47))) d.1 in
    let l = and_parts (not (eqb c 35)) (not (eqb c 39) && not (eqb c 47)) s.1 in
    let q = and_parts (not (eqb c 39)) (not (eqb c 47)) l.1 in
    record {
      no_space = ltb-true 32 c a.0;
      no_word = no_word_begins c b.0;
      no_digit = not_true (is_ascii_digit c) d.0;
      no_string = other c 34 s.0 (λ h. true≢false (sym h));
      no_line = other c 35 l.0 (λ h. true≢false (sym h));
      no_character = other c 39 q.0 (λ h. true≢false (sym h));
      no_comment = other c 47 q.1 (λ h. true≢false (sym h));
    }
