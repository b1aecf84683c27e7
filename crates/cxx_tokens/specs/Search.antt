-- The search for a punctuator among those that begin as the text does. Only that search cites this.
use Rattle.std.specs.Prelude.{◌≡◌, ℕ, Bool, false, ◌||◌, ◌==◌, if◌then◌else◌, List, [], ◌∷◌, length, Option, Some, None}
use Rattle.std.specs.Borrow.{Bor}
use Rattle.cxx_base.specs.Texts.{Text}
use Rattle.cxx_tokens.specs.Characters.{Characters, begins_with}
use Rattle.cxx_tokens.specs.Punctuators.{Punctuator, longer, longest}
use Rattle.cxx_tokens.specs.Words.{word_at}

-- the longest of the texts with these numbers with which the text begins
abbrev pub longest_among : List (Bor Text) → List ℕ → Characters → Option Punctuator
longest_among texts [] text = None
longest_among texts (number ∷ numbers) text =
    let rest = longest_among texts numbers text in
    if begins_with (word_at texts number) text then Some (longer (record { number = number; length = length (word_at texts number) }) rest) else rest

-- the longest of what was found and of what follows
abbrev pub combined : Option Punctuator → Option Punctuator → Option Punctuator
combined None rest = rest
combined (Some mark) rest = Some (longer mark rest)

-- whether a character stands behind the first one of a punctuator: one of = + - > < & | ^ : ]
abbrev pub goes_on : ℕ → Bool
goes_on c =
    c == 61 || (c == 43 || (c == 45 || (c == 62 || (c == 60 || (c == 38 || (c == 124 || (c == 94 || (c == 58 || c == 93))))))))

-- the punctuator of this number is these two characters, and no scope begins with the first
abbrev pub IsOfTwo : ℕ → ℕ → ℕ → Type 0
IsOfTwo c d number = (Some (record { number = number; length = 2 }) ≡ longest (c ∷ d ∷ [])) × ((c == 91) ≡ false)
