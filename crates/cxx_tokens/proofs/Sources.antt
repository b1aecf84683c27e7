-- The source: UTF-8, or not.
use Rattle.std.proofs.Common.{◌≡◌, ℕ, false, true, List, take, chars, Err, refl, ap, ◌∙◌}
use Rattle.std.proofs.Math.Seq.{take-length}
use Rattle.std.proofs.lemmas.Str.{is_utf8-from_IsUtf8, utf8_valid_len-IsUtf8}
use Rattle.std.specs.Str.{IsUtf8, is_utf8}
use Rattle.std.specs.Str.Lossy.{utf8_valid_len}
use Rattle.cxx_base.specs.Texts.{Text}
use Rattle.cxx_tokens.specs.Characters.{after_all, start, without_byte_order_mark}
use Rattle.cxx_tokens.specs.Lex.{lex, lex_characters}
use Rattle.cxx_tokens.specs.Faults.{L1}
use Rattle.cxx_tokens.proofs.Runs.{not_utf8}

pub of_text : (names : List Text) (bytes : Text) → IsUtf8 bytes → lex names bytes ≡ lex_characters names (without_byte_order_mark (chars bytes))
unfolding lex
of_text names bytes utf8 =
    let yes : is_utf8 bytes ≡ true = is_utf8-from_IsUtf8 bytes utf8 in
    let all : take (utf8_valid_len bytes) bytes ≡ bytes = ap (λ n. take n bytes) (utf8_valid_len-IsUtf8 bytes utf8) ∙ take-length bytes in
    rw (yes, all) refl

pub of_no_text : (names : List Text) (bytes : Text) (n : ℕ) → (¬ IsUtf8 bytes) → n ≡ utf8_valid_len bytes
    → lex names bytes ≡ Err (L1 (after_all start (without_byte_order_mark (chars (take n bytes)))))
unfolding lex
of_no_text names bytes n other front =
    let no : is_utf8 bytes ≡ false = not_utf8 bytes other in
    rw (no, front) refl
