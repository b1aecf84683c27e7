-- The key of a word. Only the search for a reserved word and that for a name cite this; the words themselves are in Tables.
use Rattle.std.specs.Prelude.{ℕ, ◌+◌, ◌-◌, ◌*◌, ◌%◌, ◌/◌, ◌<◌, ◌&&◌, nat_lt, if◌then◌else◌, List, [], ◌∷◌, length, get_or, Option, Some, None}
use Rattle.std.specs.Borrow.{Bor}
use Rattle.std.specs.Str.{bytes_eq}
use Rattle.cxx_base.specs.Texts.{Text}

abbrev pub AreBelow : ℕ → List ℕ → Type 0
AreBelow n [] = Unit {0}
AreBelow n (place ∷ places) = (place < n) × AreBelow n places

abbrev pub word_at : List (Bor Text) → ℕ → Text
word_at words place = (get_or words place (record { ref_ptr = (0, 0); now = [] })).now

-- the place, where the text is the word there
abbrev pub place_if : List (Bor Text) → ℕ → Text → Option ℕ
place_if words place text = if nat_lt place (length words) && bytes_eq (word_at words place) text then Some place else None

-- a number below 512 that tells the words apart
abbrev pub key : Text → ℕ
key text = (get_or text 0 0 + 17 * (get_or text (length text / 2) 0 + get_or text (length text - 1) 0) + 5 * (length text % 64)) % 512
