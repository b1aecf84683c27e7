-- The punctuator at the front of a text ([lex.operators], [lex.pptoken]).
use Rattle.std.specs.Prelude.{ℕ, ◌+◌, Bool, ◌&&◌, not, nat_lt, if◌then◌else◌, List, [], ◌∷◌, length, take, Option, Some, None, codes}
use Rattle.cxx_base.specs.Texts.{Text}
use Rattle.cxx_tokens.specs.Characters.{Characters, begins_with}
use Rattle.cxx_tokens.specs.Tables.{punctuators}

-- a punctuator by its place in the list, and how many characters it has
pub record Punctuator : Type 0 where
  pub number : ℕ
  pub length : ℕ

-- the longer one, and of two of one length the first
abbrev pub longer : Punctuator → Option Punctuator → Punctuator
longer first None = first
longer first (Some other) = if nat_lt first.length other.length then other else first

-- the longest of the listed texts with which the text begins; the first of them has this number
abbrev pub longest_from : ℕ → List Text → Characters → Option Punctuator
longest_from number [] text = None
longest_from number (listed ∷ more) text =
    let rest = longest_from (number + 1) more text in
    if begins_with listed text then Some (longer (record { number = number; length = length listed }) rest) else rest

abbrev pub longest : Characters → Option Punctuator
longest text = longest_from 0 punctuators text

-- `[::` is `[` and `::`, unless a further colon follows
abbrev pub is_bracket_and_scope : Characters → Bool
is_bracket_and_scope text = begins_with (codes "[::") text && not (begins_with (codes "[:::") text)

-- the punctuator at the front of a text: the longest one, but for that `[`
unfoldable pub punctuator_at : Characters → Option Punctuator
punctuator_at text = longest (if is_bracket_and_scope text then take 1 text else text)
