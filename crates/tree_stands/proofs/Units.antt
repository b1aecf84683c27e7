-- Items stand where they were read, and those of a unit in turn.
use Rattle.std.proofs.Common.{◌≡◌, ℕ, zero, suc, ◌+◌, ◌<◌, ◌≤◌, Bool, true, false, List, [], ◌∷◌, ◌++◌, length, nat_lt, if◌then◌else◌, refl, arith}
use Rattle.std.proofs.lemmas.Bool.{ltb-false}
use Rattle.cxx_tree.specs.declared.decl.Item.{Item}
use Rattle.tree_stands.specs.Stands.{StandsItem, StandsIdentifier}
use Rattle.cxx_tokens.specs.declared.token.Tokens.{Tokens}
use Rattle.cxx_tokens.specs.declared.mark.TheConstants as mark
use Rattle.cxx_tokens.specs.declared.keyword.TheConstants as keyword
use Rattle.cxx_reading.specs.Reading.{End, Tree, No, Nothing}
use Rattle.cxx_grammar.specs.Units as units
use Rattle.cxx_grammar.specs.Units.{Derived, Derives, Refused, opens, closes_none, item, derived, unit, at_end, step}
use Rattle.tree_stands.specs.Laws.{StandInTurn, UnitStands}
use Rattle.tree_stands.proofs.Holding.{next, either, Part, TreeStands, spanned, loosened, alone, Holds}
use Rattle.tree_stands.proofs.Single.{takes_punctuator, takes_word, identifier_stands}
use Rattle.tree_stands.proofs.Names.{parts}
use Rattle.tree_stands.proofs.Nesting.{declared}

module _ (tokens : Tokens) where
  pub namespace_head : TreeStands tokens (StandsItem tokens) (units.namespace_head tokens)
  unfolding units.namespace_head
  namespace_head i = spanned tokens _ i _ (
      next _ _ _ _ (takes_word tokens keyword.NAMESPACE i) (λ _ a ha.
      next _ _ _ _ (identifier_stands tokens a) (λ x b hb.
      next _ _ _ _ (parts tokens a (x ∷ []) b (alone tokens (StandsIdentifier tokens) a b x (loosened tokens (StandsIdentifier tokens) a x b hb))) (λ all c hc.
      next _ _ _ _ (takes_punctuator tokens mark.LEFT_BRACE c) (λ _ d hd.
      record {
        holds = (let rises : i < d = omega arith in let within : d ≤ length tokens.list = hd.within in
            record {
              rises = rises;
              within = within;
              stands = ((refl, rises, within), hc.stands i d (omega arith) (omega arith));
            });
      })))))

  pub close_item : TreeStands tokens (StandsItem tokens) (units.close_item tokens)
  unfolding units.close_item
  close_item i = spanned tokens _ i _ (
      next _ _ _ _ (takes_punctuator tokens mark.RIGHT_BRACE i) (λ _ a ha.
      record {
        holds = (let rises : i < a = omega arith in let within : a ≤ length tokens.list = ha.within in
            record {
              rises = rises;
              within = within;
              stands = (refl, rises, within);
            });
      }))

  pub decl_item : TreeStands tokens (StandsItem tokens) (units.decl_item tokens)
  unfolding units.decl_item
  decl_item i = next _ _ _ _ (declared tokens i) (λ x a ha. record { holds = record { rises = ha.rises; within = ha.within; stands = ha.stands } })

  pub empty_item : TreeStands tokens (StandsItem tokens) (units.empty_item tokens)
  unfolding units.empty_item
  empty_item i = spanned tokens _ i _ (
      next _ _ _ _ (takes_punctuator tokens mark.SEMICOLON i) (λ _ a ha.
      record {
        holds = (let rises : i < a = omega arith in let within : a ≤ length tokens.list = ha.within in
            record {
              rises = rises;
              within = within;
              stands = (refl, rises, within);
            });
      }))

  pub item_stands : TreeStands tokens (StandsItem tokens) (units.item tokens)
  unfolding units.item
  item_stands i =
      either _ _ _ (namespace_head i) (
      either _ _ _ (close_item i) (
      either _ _ _ (decl_item i) (
      empty_item i)))

  -- one more behind items that stand in turn
  in_turn : (xs : List Item) (x : Item) (i j k : ℕ) → StandInTurn tokens i j xs → StandsItem tokens j k x → StandInTurn tokens i k (xs ++ x ∷ [])
  in_turn [] x i j k h g = (k, rw h g, refl)
  in_turn (y ∷ ys) x i j k h g = (h.0, h.1, in_turn ys x h.0 j k h.2 g)

  -- these items were read before a token
  record Found (found : List Item) (i : ℕ) : Type 0 where
    within : i ≤ length tokens.list
    stand : StandInTurn tokens 0 i found

  more_found : (found : List Item) (x : Item) (i j : ℕ) → Found found i → Part tokens (StandsItem tokens) i x j → Found (found ++ x ∷ []) j
  more_found found x i j h hx = record { within = hx.within; stand = in_turn found x 0 i j h.stand hx.stands }

  picked : (b : Bool) (x y : Derived) → UnitStands tokens x → UnitStands tokens y → UnitStands tokens (if b then x else y)
  picked true x y h g = h
  picked false x y h g = g

  ended : (heads : ℕ) (found : List Item) (i : ℕ) → length tokens.list ≤ i → Found found i → UnitStands tokens (at_end tokens heads found i)
  ended zero found i over h = let before : i ≤ length tokens.list = h.within in let e : length tokens.list ≡ i = omega arith in rw e h.stand
  ended (suc heads) found i over h = tt

  stepped : (n heads : ℕ) (found : List Item) (i : ℕ) (e : End Item)
      → ((heads' : ℕ) (xs : List Item) (k : ℕ) → length tokens.list ≤ n + k → Found xs k → UnitStands tokens (derived tokens n heads' xs k))
      → length tokens.list ≤ suc n + i → Found found i → Holds (λ x k. Part tokens (StandsItem tokens) i x k) e → UnitStands tokens (step tokens (derived tokens n) heads found i e)
  stepped n heads found i (Tree x j) g few h hx = let rises : i < j = hx.rises in picked (closes_none heads x) (Refused Nothing i) (derived tokens n (opens heads x) (found ++ x ∷ []) j) tt
      (g (opens heads x) (found ++ x ∷ []) j (omega arith) (more_found found x i j h hx))
  stepped n heads found i (No why) g few h hx = tt

  asked : (b : Bool) (x y : Derived) → UnitStands tokens x → (b ≡ false → UnitStands tokens y) → UnitStands tokens (if b then x else y)
  asked true x y h g = h
  asked false x y h g = g refl

  derived_stands : (n heads : ℕ) (found : List Item) (i : ℕ) → length tokens.list ≤ n + i → Found found i → UnitStands tokens (derived tokens n heads found i)
  unfolding derived
  derived_stands zero heads found i few h = ended heads found i (omega arith) h
  derived_stands (suc n) heads found i few h = asked (nat_lt i (length tokens.list)) (step tokens (derived tokens n) heads found i (item tokens i)) (at_end tokens heads found i)
      (stepped n heads found i (item tokens i) (derived_stands n) few h (item_stands i).holds)
      (λ e. ended heads found i (ltb-false i (length tokens.list) e) h)

  pub unit_stands : UnitStands tokens (unit tokens)
  unfolding unit
  unit_stands = derived_stands (length tokens.list) 0 [] 0 (omega arith) (record { within = omega arith; stand = refl })
