-- What a body shares with what stands around it stands where it was read: local variables, assignments, assertions and aliases.
use Rattle.std.proofs.Common.{ℕ, ◌+◌, ◌<◌, ◌≤◌, List, [], length, refl, arith}
use Rattle.cxx_tree.specs.declared.stmt.BoundTree.{BoundTree}
use Rattle.tree_stands.specs.Stands.{InOrder, Spans, StandsBoundTree, StandsInitTree, StandsLocal, StandsAssign, StandsAssert, StandsAliased, StandsAlias}
use Rattle.cxx_tokens.specs.declared.token.Tokens.{Tokens}
use Rattle.cxx_tokens.specs.declared.mark.TheConstants as mark
use Rattle.cxx_tokens.specs.declared.keyword.TheConstants as keyword
use Rattle.cxx_reading.specs.Reading.{Rule, No, Nothing, ◌>>◌, pure, left, node, text}
use Rattle.cxx_grammar.specs.Locals as locals
use Rattle.tree_stands.proofs.Holding.{Where, next, either, one_of, In, Part, Group, TreeStands, spanned, loosely, later, passes_present, stands_optional, no_part, stand_repeated}
use Rattle.tree_stands.proofs.Single.{passes_guard, takes_punctuator, takes_word, takes_text, identifier_stands}
use Rattle.tree_stands.proofs.Operators as operators
use Rattle.tree_stands.proofs.Levels as levels

module _ (tokens : Tokens) where
  -- where a declaration of a local variable begins, and elsewhere
  pub locally : {A : Type 0} (StandsIn : ℕ → ℕ → A → Type 0) (q : Rule A) → TreeStands tokens StandsIn q → TreeStands tokens StandsIn (locals.locally tokens q)
  locally StandsIn q h i = one_of (λ x k. Part tokens StandsIn i x k) (locals.begins_local tokens i) (q i) (No Nothing) (h i) (record { holds = tt })

  pub elsewhere : {A : Type 0} (StandsIn : ℕ → ℕ → A → Type 0) (q : Rule A) → TreeStands tokens StandsIn q → TreeStands tokens StandsIn (locals.elsewhere tokens q)
  elsewhere StandsIn q h i = one_of (λ x k. Part tokens StandsIn i x k) (locals.begins_local tokens i) (No Nothing) (q i) (record { holds = tt }) (h i)

  message_text : TreeStands tokens (Spans tokens) (node tokens (text tokens >> pure (λ s. s)))
  message_text i = spanned tokens _ i _ (next _ _ _ _ (takes_text tokens i) (λ _ a ha.
      record { holds = record { rises = ha.rises; within = ha.within; stands = (refl, ha.rises, ha.within) } }))

  pub message : TreeStands tokens (In (Spans tokens)) (locals.message tokens)
  unfolding locals.message
  message i = next _ _ _ _ (takes_punctuator tokens mark.COMMA i) (λ _ a ha. later tokens (Spans tokens) i a _ (omega arith) (message_text a))

  module _ (level : ℕ) where
    pub bound : TreeStands tokens (StandsBoundTree tokens) (locals.bound tokens level)
    unfolding locals.bound
    bound i = spanned tokens _ i _ (
        next _ _ _ _ (takes_punctuator tokens mark.LEFT_BRACKET i) (λ _ a ha.
        next _ _ _ _ (stands_optional tokens _ _ (loosely tokens _ _ (levels.at_expr tokens (level + 1))) a) (λ x b hb.
        next _ _ _ _ (takes_punctuator tokens mark.RIGHT_BRACKET b) (λ _ c hc.
        record {
          holds = (let rises : i < c = omega arith in let within : c ≤ length tokens.list = hc.within in
              record {
                rises = rises;
                within = within;
                stands = ((refl, rises, within), hb.stands i c (omega arith) (omega arith));
              });
        }))))

    pub bounds : (first : ℕ) (xs : List BoundTree) (i : ℕ) → Group tokens (InOrder (StandsBoundTree tokens)) first xs i
        → Where (λ ys k. Group tokens (InOrder (StandsBoundTree tokens)) first ys k) (locals.bounds tokens level xs i)
    unfolding locals.bounds
    bounds first xs i now = stand_repeated tokens (StandsBoundTree tokens) (locals.bound tokens level) (loosely tokens _ _ bound) first (left tokens i) xs i now

    pub init_equal : TreeStands tokens (StandsInitTree tokens) (locals.init_equal tokens level)
    unfolding locals.init_equal
    init_equal i =
        next _ _ _ _ (takes_punctuator tokens mark.EQUAL i) (λ _ a ha.
        next _ _ _ _ (levels.at_expr tokens level a) (λ x b hb.
        record {
          holds = (let rises : i < b = omega arith in let within : b ≤ length tokens.list = hb.within in
              record {
                rises = rises;
                within = within;
                stands = (a, b, omega arith, hb.stands, omega arith);
              });
        }))

    pub init_equal_braced : TreeStands tokens (StandsInitTree tokens) (locals.init_equal_braced tokens level)
    unfolding locals.init_equal_braced
    init_equal_braced i =
        next _ _ _ _ (takes_punctuator tokens mark.EQUAL i) (λ _ a ha.
        next _ _ _ _ (levels.at_braced tokens level a) (λ x b hb.
        record {
          holds = (let rises : i < b = omega arith in let within : b ≤ length tokens.list = hb.within in
              record {
                rises = rises;
                within = within;
                stands = (a, b, omega arith, hb.stands, omega arith);
              });
        }))

    pub init_braced : TreeStands tokens (StandsInitTree tokens) (locals.init_braced tokens level)
    unfolding locals.init_braced
    init_braced i = next _ _ _ _ (levels.at_braced tokens level i) (λ x a ha. record { holds = record { rises = ha.rises; within = ha.within; stands = ha.stands } })

    pub init : TreeStands tokens (StandsInitTree tokens) (locals.init tokens level)
    unfolding locals.init
    init i = either _ _ _ (init_equal i) (either _ _ _ (init_equal_braced i) (init_braced i))

    pub local : TreeStands tokens (StandsLocal tokens) (locals.local tokens level)
    unfolding locals.local
    local i = spanned tokens _ i _ (
        next _ _ _ _ (passes_present tokens _ (takes_word tokens keyword.CONSTEXPR) i) (λ _ a ha.
        next _ _ _ _ (levels.at_type tokens level a) (λ t b hb.
        next _ _ _ _ (identifier_stands tokens b) (λ n c hc.
        next _ _ _ _ (bounds c [] c (no_part tokens (StandsBoundTree tokens) c)) (λ all d hd.
        next _ _ _ _ (stands_optional tokens _ _ (loosely tokens _ _ init) d) (λ x e he.
        next _ _ _ _ (takes_punctuator tokens mark.SEMICOLON e) (λ _ f hf.
        next _ _ _ _ (passes_guard tokens (locals.fit_bounds all x) f) (λ _ g hg.
        record {
          holds = (let rises : i < g = omega arith in let within : g ≤ length tokens.list = hg.within hf.within in
              record {
                rises = rises;
                within = within;
                stands = ((refl, rises, within), b, c, d, (a, b, omega arith, hb.stands, omega arith), (b, c, omega arith, hc.stands, omega arith), hd.stands c d (omega arith) (omega arith), he.stands d g (omega arith) (omega arith));
              });
        }))))))))

    pub assign_equal : TreeStands tokens (StandsAssign tokens) (locals.assign_equal tokens level)
    unfolding locals.assign_equal
    assign_equal i = spanned tokens _ i _ (
        next _ _ _ _ (levels.at_unary tokens level i) (λ x a ha.
        next _ _ _ _ (takes_punctuator tokens mark.EQUAL a) (λ _ b hb.
        next _ _ _ _ (levels.at_arg tokens level b) (λ y c hc.
        record {
          holds = (let rises : i < c = omega arith in let within : c ≤ length tokens.list = hc.within in
              record {
                rises = rises;
                within = within;
                stands = ((refl, rises, within), b, (i, a, omega arith, ha.stands, omega arith), (b, c, omega arith, hc.stands, omega arith));
              });
        }))))

    pub assign_compound : TreeStands tokens (StandsAssign tokens) (locals.assign_compound tokens level)
    unfolding locals.assign_compound
    assign_compound i = spanned tokens _ i _ (
        next _ _ _ _ (levels.at_unary tokens level i) (λ x a ha.
        next _ _ _ _ (operators.compound tokens a) (λ op b hb.
        next _ _ _ _ (levels.at_expr tokens level b) (λ y c hc.
        record {
          holds = (let rises : i < c = omega arith in let within : c ≤ length tokens.list = hc.within in
              record {
                rises = rises;
                within = within;
                stands = ((refl, rises, within), b, (i, a, omega arith, ha.stands, omega arith), (b, c, omega arith, hc.stands, omega arith));
              });
        }))))

    pub step_before : TreeStands tokens (StandsAssign tokens) (locals.step_before tokens level)
    unfolding locals.step_before
    step_before i = spanned tokens _ i _ (
        next _ _ _ _ (operators.before tokens i) (λ op a ha.
        next _ _ _ _ (levels.at_unary tokens (level + 1) a) (λ x b hb.
        record {
          holds = (let rises : i < b = omega arith in let within : b ≤ length tokens.list = hb.within in
              record {
                rises = rises;
                within = within;
                stands = ((refl, rises, within), (a, b, omega arith, hb.stands, omega arith));
              });
        })))

    pub step_behind : TreeStands tokens (StandsAssign tokens) (locals.step_behind tokens level)
    unfolding locals.step_behind
    step_behind i = spanned tokens _ i _ (
        next _ _ _ _ (levels.at_unary tokens level i) (λ x a ha.
        next _ _ _ _ (operators.behind tokens a) (λ op b hb.
        record {
          holds = (let rises : i < b = omega arith in let within : b ≤ length tokens.list = hb.within in
              record {
                rises = rises;
                within = within;
                stands = ((refl, rises, within), (i, a, omega arith, ha.stands, omega arith));
              });
        })))

    pub assign : TreeStands tokens (StandsAssign tokens) (locals.assign tokens level)
    unfolding locals.assign
    assign i =
        either _ _ _ (assign_equal i) (
        either _ _ _ (assign_compound i) (
        either _ _ _ (step_before i) (
        step_behind i)))

    pub assert : TreeStands tokens (StandsAssert tokens) (locals.assert tokens level)
    unfolding locals.assert
    assert i = spanned tokens _ i _ (
        next _ _ _ _ (takes_word tokens keyword.STATIC_ASSERT i) (λ _ a ha.
        next _ _ _ _ (takes_punctuator tokens mark.LEFT_PAREN a) (λ _ b hb.
        next _ _ _ _ (levels.at_expr tokens level b) (λ x c hc.
        next _ _ _ _ (stands_optional tokens _ _ message c) (λ s d hd.
        next _ _ _ _ (takes_punctuator tokens mark.RIGHT_PAREN d) (λ _ e he.
        next _ _ _ _ (takes_punctuator tokens mark.SEMICOLON e) (λ _ f hf.
        record {
          holds = (let rises : i < f = omega arith in let within : f ≤ length tokens.list = hf.within in
              record {
                rises = rises;
                within = within;
                stands = ((refl, rises, within), c, (b, c, omega arith, hc.stands, omega arith), hd.stands c f (omega arith) (omega arith));
              });
        })))))))

    pub aliased : TreeStands tokens (StandsAliased tokens) (locals.aliased tokens level)
    unfolding locals.aliased
    aliased i = either _ _ _
        (next _ _ _ _ (levels.at_type tokens level i) (λ x a ha. record { holds = record { rises = ha.rises; within = ha.within; stands = ha.stands } }))
        (next _ _ _ _ (levels.at_splice tokens level i) (λ x a ha. record { holds = record { rises = ha.rises; within = ha.within; stands = ha.stands } }))

    pub alias : TreeStands tokens (StandsAlias tokens) (locals.alias tokens level)
    unfolding locals.alias
    alias i = spanned tokens _ i _ (
        next _ _ _ _ (takes_word tokens keyword.USING i) (λ _ a ha.
        next _ _ _ _ (identifier_stands tokens a) (λ n b hb.
        next _ _ _ _ (takes_punctuator tokens mark.EQUAL b) (λ _ c hc.
        next _ _ _ _ (aliased c) (λ x d hd.
        next _ _ _ _ (takes_punctuator tokens mark.SEMICOLON d) (λ _ e he.
        record {
          holds = (let rises : i < e = omega arith in let within : e ≤ length tokens.list = he.within in
              record {
                rises = rises;
                within = within;
                stands = ((refl, rises, within), c, (a, b, omega arith, hb.stands, omega arith), (c, d, omega arith, hd.stands, omega arith));
              });
        }))))))
