-- What begins a declaration in a body: how far its name goes, and what each kind of token says of it.
use Rattle.std.proofs.Common.{◌≡◌, ℕ, zero, suc, ◌+◌, ◌-◌, ◌<◌, ◌≤◌, Bool, true, false, if◌then◌else◌, List, [], ◌∷◌, ◌++◌, Some, None, refl, ap, ◌∙◌, sym, arith}
use Rattle.std.proofs.Math.Bool.{or-false}
use Rattle.std.proofs.lemmas.Bool.{ne_eqb}
use Rattle.cxx_tree.specs.declared.identifier.Identifier.{Identifier}
use Rattle.cxx_tokens.specs.declared.token.Tokens.{Tokens}
use Rattle.cxx_tokens.specs.declared.mark.TheConstants as mark
use Rattle.cxx_tokens.specs.declared.keyword.TheConstants.{CONSTEXPR, CONST, TYPENAME}
use Rattle.cxx_reading.specs.declared.seen.Seen.TheVariants.{Identifier as SeenIdentifier, Integer, Character, Text, Word, Punctuator}
use Rattle.cxx_reading.specs.Reading.{End, Tree, No, Nothing, TooDeep, and_then, go_on, turns, kind, left, punctuator, present, identifier}
use Rattle.cxx_reading.proofs.Factor.{assoc, pointwise}
use Rattle.cxx_grammar.specs.Names.{vector_head, part, parts_on, parts, any_name}
use Rattle.cxx_grammar.specs.Fundamentals.{fund}
use Rattle.cxx_grammar.specs.Locals.{points, behind_points, declares, stands_alone, begins_local}
use Rattle.cxx_grammar.proofs.Begins.{no_vector_head, no_any_name, no_name, no_fund}
use Rattle.cxx_grammar.proofs.TypeArms.{name_elsewhere, name_at_scope}
use Rattle.parse_local.specs.Joined.{part_on, behind_parts, behind_name, behind_point}

-- ---- a walk over "*", "&" and "const" beside its loop

opened_point : {A : Type 0} (b : Bool) (i j : ℕ) (f : ℕ → A) (x : A) → (if b then Some (i + 1) else None) ≡ Some j → (if b then f (i + 1) else x) ≡ f j
opened_point true i j f x e = ap f (let g : i + 1 ≡ j = cc in g)
opened_point false i j f x e = cc

no_point : {A : Type 0} (b : Bool) (i : ℕ) (x y : A) → (if b then Some (i + 1) else None) ≡ None → (if b then x else y) ≡ y
no_point true i x y e = cc
no_point false i x y e = refl

module _ (tokens : Tokens) (end n turn i : ℕ) (rest : end ≡ behind_points tokens (n - turn) i) where
  pub walks_on : turn < n → (j : ℕ) → behind_point tokens i ≡ Some j → end ≡ behind_points tokens (n - (turn + 1)) j
  unfolding behind_points
  walks_on below j e =
      let m : n - turn ≡ suc (n - (turn + 1)) = omega arith in
      rest ∙ ap (λ (k : ℕ). behind_points tokens k i) m ∙ opened_point (points tokens i) i j (behind_points tokens (n - (turn + 1))) i e

  pub walk_stops : turn < n → behind_point tokens i ≡ None → end ≡ i
  unfolding behind_points
  walk_stops below e =
      let m : n - turn ≡ suc (n - (turn + 1)) = omega arith in
      rest ∙ ap (λ (k : ℕ). behind_points tokens k i) m ∙ no_point (points tokens i) i (behind_points tokens (n - (turn + 1)) (i + 1)) i e

  pub walk_ends : n ≤ turn → end ≡ i
  unfolding behind_points
  walk_ends over = let m : n - turn ≡ 0 = omega arith in rest ∙ ap (λ (k : ℕ). behind_points tokens k i) m

pub ruleset walks = (walks_on, walk_stops, walk_ends)

-- ---- a name that is skipped ends where its tree does

-- an end without its tree
abbrev skipped : {A : Type 0} → End A → End (Unit {0})
skipped e = and_then e (λ a j. Tree tt j)

module _ (tokens : Tokens) where
  part_skipped : (n : ℕ) (found : List Identifier) (i : ℕ) (e : End Identifier) → ((more : List Identifier) (j : ℕ) → skipped (turns n (parts_on tokens) more j) ≡ turns n (part_on tokens) tt j)
      → skipped (go_on (turns n (parts_on tokens)) found i (and_then e (λ x j. Tree (found ++ x ∷ []) j))) ≡ go_on (turns n (part_on tokens)) tt i (and_then e (λ x j. Tree tt j))
  part_skipped n found i (Tree x j) h = h (found ++ x ∷ []) j
  part_skipped n found i (No Nothing) h = refl
  part_skipped n found i (No TooDeep) h = refl

  turns_skipped : (n : ℕ) (found : List Identifier) (i : ℕ) → skipped (turns n (parts_on tokens) found i) ≡ turns n (part_on tokens) tt i
  unfolding turns
  turns_skipped zero found i = refl
  turns_skipped (suc n) found i = part_skipped n found i (part tokens i) (turns_skipped n)

  parts_skipped : (found : List Identifier) (i : ℕ) → skipped (parts tokens found i) ≡ behind_parts tokens i
  unfolding parts behind_parts
  parts_skipped found i = turns_skipped (left tokens i) found i

  name_skipped : (i : ℕ) → skipped (any_name tokens i) ≡ behind_name tokens i
  unfolding any_name behind_name
  name_skipped i = simp assoc (pointwise (present (punctuator tokens mark.SCOPE) i) _ _ (λ r j. pointwise (identifier tokens j) _ _ (λ f k. parts_skipped [] k)))

  declares_same : {A : Type 0} (e : End A) → declares tokens (skipped e) ≡ declares tokens e
  declares_same (Tree a j) = refl
  declares_same (No why) = refl

  pub declares_skipped : (i : ℕ) → declares tokens (any_name tokens i) ≡ declares tokens (behind_name tokens i)
  declares_skipped i = sym (declares_same (any_name tokens i)) ∙ ap (declares tokens) (name_skipped i)

  -- ---- at each kind of token

  module _ (i : ℕ) where
    pub begins_at_constexpr : kind tokens i ≡ Some (Word CONSTEXPR) → begins_local tokens i ≡ true
    unfolding begins_local
    begins_at_constexpr e = rw e refl

    pub begins_at_const : kind tokens i ≡ Some (Word CONST) → begins_local tokens i ≡ true
    unfolding begins_local
    begins_at_const e = rw e refl

    pub begins_at_typename : kind tokens i ≡ Some (Word TYPENAME) → begins_local tokens i ≡ true
    unfolding begins_local
    begins_at_typename e = rw e refl

    pub begins_at_word : (n : ℕ) → kind tokens i ≡ Some (Word n) → (n ≡ CONSTEXPR → ⊥) → (n ≡ CONST → ⊥) → (n ≡ TYPENAME → ⊥) → begins_local tokens i ≡ stands_alone tokens (fund tokens i)
    unfolding begins_local
    begins_at_word n e a b c = simp (e, ne_eqb n CONSTEXPR a, ne_eqb n CONST b, ne_eqb n TYPENAME c, no_vector_head tokens i _ e refl, no_name tokens i _ e refl, or-false)

    pub begins_at_vector : (j : ℕ) → kind tokens i ≡ Some SeenIdentifier → vector_head tokens i ≡ Tree tt j → begins_local tokens i ≡ true
    unfolding begins_local
    begins_at_vector j e v = simp (e, v)

    pub begins_at_identifier : kind tokens i ≡ Some SeenIdentifier → vector_head tokens i ≡ No Nothing → begins_local tokens i ≡ declares tokens (any_name tokens i)
    unfolding begins_local
    begins_at_identifier e v = simp (e, v, no_fund tokens i _ e refl, name_elsewhere tokens i v)

    pub begins_at_punctuator : (n : ℕ) → kind tokens i ≡ Some (Punctuator n) → begins_local tokens i ≡ declares tokens (any_name tokens i)
    unfolding begins_local
    begins_at_punctuator n e = simp (e, no_vector_head tokens i _ e refl, no_fund tokens i _ e refl, name_at_scope tokens i n e)

    pub begins_at_integer : kind tokens i ≡ Some Integer → begins_local tokens i ≡ false
    unfolding begins_local
    begins_at_integer e = simp (e, no_vector_head tokens i _ e refl, no_fund tokens i _ e refl, no_name tokens i _ e refl)

    pub begins_at_character : kind tokens i ≡ Some Character → begins_local tokens i ≡ false
    unfolding begins_local
    begins_at_character e = simp (e, no_vector_head tokens i _ e refl, no_fund tokens i _ e refl, no_name tokens i _ e refl)

    pub begins_at_text : kind tokens i ≡ Some Text → begins_local tokens i ≡ false
    unfolding begins_local
    begins_at_text e = simp (e, no_vector_head tokens i _ e refl, no_fund tokens i _ e refl, no_name tokens i _ e refl)

    pub begins_at_end : kind tokens i ≡ None → begins_local tokens i ≡ false
    unfolding begins_local
    begins_at_end e = simp (e, no_vector_head tokens i _ e refl, no_fund tokens i _ e refl, no_name tokens i _ e refl)

    -- none at ";"
    pub begins_none_at_semicolon : kind tokens i ≡ Some (Punctuator mark.SEMICOLON) → begins_local tokens i ≡ false
    begins_none_at_semicolon e = begins_at_punctuator mark.SEMICOLON e ∙ simp (no_any_name tokens i _ e refl)

pub ruleset begin_arms = (begins_at_constexpr, begins_at_const, begins_at_typename, begins_at_word, begins_at_vector, begins_at_identifier, begins_at_punctuator, begins_at_integer, begins_at_character, begins_at_text, begins_at_end)
