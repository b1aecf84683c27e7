-- A source that is not too long has fewer tokens than a `u32` numbers.
use Rattle.std.proofs.Common.{◌≡◌, ◌≤◌, ◌<◌, ◌^◌, ℕ, Bool, true, false, if◌then◌else◌, ◌==◌, List, [], ◌∷◌, length, take, chars, Result, Ok, refl, sym, ap, ◌∙◌, subst, arith}
use Rattle.std.specs.Str.{IsUtf8, is_utf8}
use Rattle.std.specs.Str.Lossy.{utf8_valid_len}
use Rattle.std.proofs.Math.Seq.{take-length}
use Rattle.std.proofs.lemmas.Str.{IsUtf8-from_is_utf8, utf8_valid_len-IsUtf8}
use Rattle.cxx_base.specs.Texts.{Text}
use Rattle.cxx_base.specs.declared.limits.TheConstants.{MAX_SOURCE}
use Rattle.cxx_tokens.specs.Characters.{Characters, byte_order_mark, characters_of, without_byte_order_mark}
use Rattle.cxx_tokens.specs.Cutting.{IsLexed, Cut, Stuck, NoCharacters}
use Rattle.cxx_tokens.specs.Faults.{Fault}
use Rattle.cxx_tokens.specs.Lex.{Lexed, lex}
use Rattle.cxx_tokens.proofs.Cut.{characters_are_few}
use Rattle.cxx_tokens.proofs.CutLaws.{scan_is_cut}
use Rattle.cxx_tokens.proofs.UsableLaws.{usable}

no_more : (text : Characters) → length (without_byte_order_mark text) ≤ length text
no_more [] = omega arith
no_more (c ∷ text) = by (c == byte_order_mark)
  where
    by : (b : Bool) → length (if b then text else c ∷ text) ≤ length (c ∷ text)
    by true = omega arith
    by false = omega arith

are_characters : (names : List Text) (bytes : Text) (answer : Result Lexed Fault) (found : Lexed) → answer ≡ Ok found → IsLexed names bytes answer → is_utf8 bytes ≡ true
are_characters names bytes answer found same (Cut spans utf8 cut) = utf8
are_characters names bytes answer found same (Stuck spans rest utf8 stuck) = utf8
are_characters names bytes answer found same (NoCharacters other) = cc same

pub is_short : (names : List Text) (bytes : Text) → length bytes ≤ MAX_SOURCE → (found : Lexed) → lex names bytes ≡ Ok found → length found.tokens < 2 ^ 32
is_short names bytes fits found e =
    let lexed : IsLexed names bytes (Ok found) = subst (IsLexed names bytes) e (scan_is_cut names bytes) in
    let few = (usable names bytes found lexed).few in
    let utf8 : IsUtf8 bytes = IsUtf8-from_is_utf8 bytes (are_characters names bytes (Ok found) found refl lexed) in
    let whole : take (utf8_valid_len bytes) bytes ≡ bytes = ap (λ (n : ℕ). take n bytes) (utf8_valid_len-IsUtf8 bytes utf8) ∙ take-length bytes in
    let less : length (characters_of bytes) ≤ length (chars bytes) = subst (λ (text : Text). length (without_byte_order_mark (chars text)) ≤ length (chars bytes)) (sym whole) (no_more (chars bytes)) in
    let some = characters_are_few bytes utf8 in
    omega (arith, few, less, some, fits)
