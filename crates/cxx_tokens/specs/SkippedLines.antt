-- The lines that a preprocessor leaves and that are skipped, by their form ([cpp.pre]).
use Rattle.std.specs.Prelude.{◌≡◌, ◌<◌, true, not, ◌==◌, List, [], ◌∷◌, ◌++◌, ◌⊎◌, length, codes}
use Rattle.std.specs.Char.{is_ascii_digit}
use Rattle.std.specs.List.{list_all, AllByRecursion}
use Rattle.cxx_tokens.specs.Characters.{Characters, is_blank, double_quote}

-- white space within a line, or nothing
abbrev pub AreBlanks : Characters → Type 0
AreBlanks text = list_all is_blank text ≡ true

abbrev pub AreDigits : Characters → Type 0
AreDigits text = list_all is_ascii_digit text ≡ true

-- characters without a quote
abbrev pub AreUnquoted : Characters → Type 0
AreUnquoted text = list_all (λ c. not (c == double_quote)) text ≡ true

abbrev pub end_to_end : List Characters → Characters
end_to_end [] = []
end_to_end (part ∷ parts) = part ++ end_to_end parts

-- What follows the `#` of a line that is skipped: a group of digits, a text between quotes, and any number of groups of digits, or
-- `include` and `<meta>`. White space may stand before, between and behind the parts.
pub data IsSkipped (line : Characters) : Type 0 where
  marker : (before digits between name : Characters) (groups : List Characters)
      → line ≡ before ++ (digits ++ (between ++ (double_quote ∷ (name ++ (double_quote ∷ end_to_end groups)))))
      → AreBlanks before → 0 < length digits → AreDigits digits → AreBlanks between → AreUnquoted name
      → AllByRecursion (λ group. AreBlanks group ⊎ AreDigits group) groups → IsSkipped line
  header : (before between behind : Characters) → line ≡ before ++ (codes "include" ++ (between ++ (codes "<meta>" ++ behind)))
      → AreBlanks before → AreBlanks between → AreBlanks behind → IsSkipped line
