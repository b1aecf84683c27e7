-- The items of a text beside a loop that counts its turns up.
use Rattle.std.proofs.Common.{◌≡◌, ℕ, zero, suc, ◌+◌, ◌-◌, ◌<◌, ◌≤◌, true, false, nat_lt, List, [], ◌∷◌, ◌++◌, length, ap, ◌∙◌, refl, arith}
use Rattle.std.proofs.lemmas.Bool.{lt-ltb, ltb-true}
use Rattle.cxx_tree.specs.declared.decl.Item.{Item}
use Rattle.cxx_tokens.specs.declared.token.Tokens.{Tokens}
use Rattle.cxx_reading.specs.Reading.{Tree, No, Why, Nothing}
use Rattle.cxx_reading.proofs.Starts.{is_false}
use Rattle.cxx_grammar.specs.Units.{Derived, Refused, opens, closes_none, item, at_end, step, derived}

module _ (tokens : Tokens) where
  turned : (m heads : ℕ) (found : List Item) (i : ℕ) → i < length tokens.list → derived tokens (suc m) heads found i ≡ step tokens (derived tokens m) heads found i (item tokens i)
  unfolding derived
  turned m heads found i below = let holds : nat_lt i (length tokens.list) ≡ true = lt-ltb i (length tokens.list) below in rw holds

  pub stays : (m heads : ℕ) (found : List Item) (i : ℕ) → length tokens.list ≤ i → derived tokens m heads found i ≡ at_end tokens heads found i
  unfolding derived
  stays zero heads found i past = refl
  stays (suc m) heads found i past =
      let holds : nat_lt i (length tokens.list) ≡ false = is_false (nat_lt i (length tokens.list)) (λ h. let below : i < length tokens.list = ltb-true i (length tokens.list) h in omega arith) in rw holds

  module _ (end : Derived) (n turn heads : ℕ) (found : List Item) (i : ℕ) (rest : end ≡ derived tokens (n - turn) heads found i) where
    opened : turn < n → i < length tokens.list → end ≡ step tokens (derived tokens (n - (turn + 1))) heads found i (item tokens i)
    opened below there =
        let e : n - turn ≡ suc (n - (turn + 1)) = omega arith in
        rest ∙ ap (λ (m : ℕ). derived tokens m heads found i) e ∙ turned (n - (turn + 1)) heads found i there

    pub item_goes_on : turn < n → i < length tokens.list → (x : Item) (j : ℕ) → item tokens i ≡ Tree x j → closes_none heads x ≡ false
        → end ≡ derived tokens (n - (turn + 1)) (opens heads x) (found ++ x ∷ []) j
    item_goes_on below there x j e h = opened below there ∙ ap (step tokens (derived tokens (n - (turn + 1))) heads found i) e ∙ rw h

    pub item_closes : turn < n → i < length tokens.list → (x : Item) (j : ℕ) → item tokens i ≡ Tree x j → closes_none heads x ≡ true → end ≡ Refused Nothing i
    item_closes below there x j e h = opened below there ∙ ap (step tokens (derived tokens (n - (turn + 1))) heads found i) e ∙ rw h

    pub item_refused : turn < n → i < length tokens.list → (why : Why) → item tokens i ≡ No why → end ≡ Refused why i
    item_refused below there why e = opened below there ∙ ap (step tokens (derived tokens (n - (turn + 1))) heads found i) e

    pub items_end : length tokens.list ≤ i → end ≡ at_end tokens heads found i
    items_end past = rest ∙ stays (n - turn) heads found i past

    pub turns_end : n ≤ turn → end ≡ at_end tokens heads found i
    unfolding derived
    turns_end over = let e : n - turn ≡ 0 = omega arith in rest ∙ ap (λ (m : ℕ). derived tokens m heads found i) e

pub ruleset unit_turns = (item_goes_on, item_closes, item_refused, items_end, turns_end)
