-- Cuts behind cuts.
use Rattle.std.proofs.Common.{◌≡◌, ℕ, suc, ◌+◌, ◌-◌, ◌<◌, true, true≢false, eqb, [], ◌∷◌, length, take, drop, chars, sym, ap, ◌∙◌, arith}
use Rattle.std.proofs.lemmas.Bool.{and_from, and_parts, eqb-true}
use Rattle.std.specs.List.{list_all, prefix_len}
use Rattle.cxx_base.specs.Texts.{Text}
use Rattle.cxx_tokens.specs.Characters.{Characters, begins_with, is_in_line, slash}
use Rattle.cxx_tokens.specs.Cuts.{IfPassed, IsCut, IsCutBehindOne, IsFlat, IsFlatBehindOne}
use Rattle.cxx_tokens.specs.declared.gap.Gap.{Gap}
use Rattle.cxx_tokens.specs.declared.gap.Gap.TheVariants.{Absent, InLine, Block, Unended}
use Rattle.cxx_tokens.specs.declared.text.Cut.{Cut}
use Rattle.cxx_tokens.proofs.Fronts.{run_front}

-- a cut that is counted from the character before
pub cut_from_one_before : (text behind : Text) (c : ℕ) (cut : Cut) → chars text ≡ c ∷ chars behind → IsCutBehindOne behind cut → IsCut text cut
cut_from_one_before text behind c cut first second =
    let e : cut.length ≡ suc (cut.length - 1) = omega (arith, second.some) in
    let l : length (chars text) ≡ suc (length (chars behind)) = ap length first in
    record {
      rest = second.rest ∙ ap (λ k. drop k (c ∷ chars behind)) (sym e) ∙ ap (drop cut.length) (sym first);
      within = omega (arith, l, second.within);
    }

pub cuts_from_one_before : (text behind : Text) (c : ℕ) (found : Gap) → chars text ≡ c ∷ chars behind → IfPassed (IsCutBehindOne behind) found
    → IfPassed (λ cut. (0 < cut.length) × IsCut text cut) found
cuts_from_one_before text behind c Absent first second = tt
cuts_from_one_before text behind c (InLine cut) first second = (omega (arith, second.some), cut_from_one_before text behind c cut first second)
cuts_from_one_before text behind c (Block cut) first second = (omega (arith, second.some), cut_from_one_before text behind c cut first second)
cuts_from_one_before text behind c Unended first second = tt

-- no line feed behind a character that is none
pub flat_from_one_before : (text behind : Text) (c : ℕ) (found : Gap) → chars text ≡ c ∷ chars behind → is_in_line c ≡ true
    → IfPassed (IsCutBehindOne behind) found → IsFlatBehindOne behind found → IsFlat text found
flat_from_one_before text behind c Absent first none cuts second = tt
flat_from_one_before text behind c (InLine cut) first none cuts second =
    let e : cut.length ≡ suc (cut.length - 1) = omega (arith, cuts.some) in
    ap (λ n. list_all is_in_line (take n (chars text))) e ∙ ap (λ t. list_all is_in_line (take (suc (cut.length - 1)) t)) first
    ∙ and_from (is_in_line c) (list_all is_in_line (take (cut.length - 1) (chars behind))) none second
flat_from_one_before text behind c (Block cut) first none cuts second = tt
flat_from_one_before text behind c Unended first none cuts second = tt

-- the rest of a line
pub flat_line : (text : Characters) (n k : ℕ) → n ≡ prefix_len is_in_line text → k ≡ 1 + n → list_all is_in_line (take (k - 1) text) ≡ true
flat_line text n k run long =
    let e : k - 1 ≡ n = omega (arith, long) in
    ap (λ k. list_all is_in_line (take k text)) e ∙ run_front is_in_line n text (omega (arith, run))

-- a slash and the rest of a line
pub flat_comment : (text rest : Characters) (n k : ℕ) → begins_with (slash ∷ []) text ≡ true → rest ≡ drop 1 text → n ≡ prefix_len is_in_line rest → k ≡ 2 + n
    → list_all is_in_line (take (k - 1) text) ≡ true
flat_comment [] rest n k begins behind run long = absurd (true≢false (sym begins))
flat_comment (c ∷ text) rest n k begins behind run long =
    let e : k - 1 ≡ suc n = omega (arith, long) in
    let is : c ≡ slash = eqb-true c slash (and_parts (eqb c slash) true begins).0 in
    let here : is_in_line c ≡ true = ap is_in_line is in
    ap (λ k. list_all is_in_line (take k (c ∷ text))) e
    ∙ and_from (is_in_line c) (list_all is_in_line (take n text)) here
    (run_front is_in_line n text (omega (arith, run, ap (prefix_len is_in_line) behind)))
