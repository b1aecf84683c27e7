-- What it is that a text derives a unit, without a bound on its items.
use Rattle.std.specs.Prelude.{◌≡◌, ℕ, zero, ◌<◌, ◌≤◌, true, false, List, [], ◌∷◌, ◌++◌, length, ◌⊎◌}
use Rattle.cxx_tree.specs.declared.decl.Item.{Item}
use Rattle.cxx_tokens.specs.declared.token.Tokens.{Tokens}
use Rattle.cxx_reading.specs.Reading.{Tree, No, Why, Nothing, left}
use Rattle.cxx_grammar.specs.Units.{Derived, Derives, Refused, opens, closes_none, item, derived}

-- With more turns than there are tokens left the items from a token on are the same.
abbrev pub EndsByItself : Tokens → Type 0
EndsByItself tokens = (n heads : ℕ) (found : List Item) (i : ℕ) → left tokens i ≤ n
    → derived tokens n heads found i ≡ derived tokens (left tokens i) heads found i

-- So many heads are open, and these items were read, behind the items before a token: from the first token on they read one
-- after the other, and each "}" closes an open head.
pub data Behind (tokens : Tokens) : ℕ → List Item → ℕ → Type 0 where
  Start : Behind tokens zero [] zero
  Next : (heads i j : ℕ) (found : List Item) (x : Item) → Behind tokens heads found i → i < length tokens.list
      → item tokens i ≡ Tree x j → closes_none heads x ≡ false → Behind tokens (opens heads x) (found ++ x ∷ []) j

-- why no item is taken at a token, with so many heads open
abbrev pub Stops : Tokens → ℕ → ℕ → Why → Type 0
Stops tokens heads i why = (item tokens i ≡ No why)
    ⊎ ((x : Item) × (j : ℕ) × (item tokens i ≡ Tree x j) × (closes_none heads x ≡ true) × (why ≡ Nothing))

-- A text derives its items where they go to the last token and no head is left open. Else the first item that is too deep, or
-- where nothing begins, or that is a "}" that closes none, decides, or the end of the text where a head is left open.
abbrev pub IsDecided : Tokens → Derived → Type 0
IsDecided tokens (Derives items) = (i : ℕ) × Behind tokens zero items i × (length tokens.list ≤ i)
IsDecided tokens (Refused why i) = (heads : ℕ) × (found : List Item) × Behind tokens heads found i
    × (((i < length tokens.list) × Stops tokens heads i why) ⊎ ((length tokens.list ≤ i) × (zero < heads) × (why ≡ Nothing)))
