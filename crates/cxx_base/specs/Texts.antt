-- Lists of texts without repeats, in which the number of a text is its place.
use Rattle.std.specs.Prelude.{ℕ, Bool, List, [], ◌∷◌, ◌++◌, if◌then◌else◌, fold}
use Rattle.std.specs.List.{list_any, position_or_len, IsDistinct}
use Rattle.std.specs.Str.{bytes_eq}

-- the bytes of a text
abbrev pub Text : Type 0
Text = List ℕ

abbrev pub has_text : List Text → Text → Bool
has_text texts text = list_any (bytes_eq text) texts

-- the place of a text in the list, or the length where it is not there
abbrev pub number_of : List Text → Text → ℕ
number_of texts text = position_or_len (bytes_eq text) texts

-- the list with the text, which goes to the end where it is new
abbrev pub with_text : List Text → Text → List Text
with_text texts text = if has_text texts text then texts else texts ++ text ∷ []

-- each of the texts, in order
abbrev pub with_texts : List Text → List Text → List Text
with_texts texts more = fold with_text texts more

-- no text stands twice
abbrev pub AreDistinct : List Text → Type 0
AreDistinct texts = IsDistinct bytes_eq texts
