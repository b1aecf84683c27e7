-- Declarations stand where they were read, but for classes.
use Rattle.std.proofs.Common.{ℕ, ◌&&◌, nat_le, ◌+◌, ◌<◌, ◌≤◌, Bool, true, false, List, [], ◌∷◌, length, refl, arith}
use Rattle.cxx_base.specs.declared.limits.TheConstants.{MAX_NESTING}
use Rattle.cxx_tree.specs.declared.stmt.Stmt.{Stmt}
use Rattle.cxx_tree.specs.declared.decl.EnumeratorTree.{EnumeratorTree}
use Rattle.cxx_tree.specs.declared.decl.ParameterTree.{ParameterTree}
use Rattle.tree_stands.specs.Stands.{InOrder, IfAny, Stands, StandsType, StandsBoundTree, StandsStmt, StandsBody, StandsBlock, StandsNamespace, StandsNamespaceAlias, StandsEnumerator, StandsEnum, StandsVariable, StandsParameter, StandsFunction}
use Rattle.cxx_tokens.specs.declared.token.Tokens.{Tokens}
use Rattle.cxx_tokens.specs.declared.mark.TheConstants as mark
use Rattle.cxx_tokens.specs.declared.keyword.TheConstants as keyword
use Rattle.cxx_reading.specs.Reading.{Rule, No, TooDeep, left}
use Rattle.cxx_grammar.specs.declared.specifier.DeclWords.{DeclWords}
use Rattle.cxx_grammar.specs.Sequences.{next_of}
use Rattle.cxx_grammar.specs.Declarations as decls
use Rattle.cxx_grammar.specs.Locals.{fit_bounds}
use Rattle.tree_stands.proofs.Holding.{Where, next, either, one_of, In, wider_any, Passed, Part, Group, TreeStands, ListStands, spanned, loosened, loosely, later, passes_present, passes_optional, stands_optional, stand_if_any, alone, no_part, stand_repeated, passes_repeated}
use Rattle.tree_stands.proofs.Single.{passes_guard, takes_punctuator, takes_word, identifier_stands}
use Rattle.tree_stands.proofs.StatementRows.{row_of_stmts}
use Rattle.tree_stands.proofs.Operators as operators
use Rattle.tree_stands.proofs.Levels as levels
use Rattle.tree_stands.proofs.Locals as locals

module _ (tokens : Tokens) where
  pub read_at : {A : Type 0} (StandsIn : ℕ → ℕ → A → Type 0) (level : ℕ) (q : Rule A) → TreeStands tokens StandsIn q → TreeStands tokens StandsIn (decls.read_at tokens level q)
  read_at StandsIn level q h i = one_of (λ x k. Part tokens StandsIn i x k) (nat_le level MAX_NESTING) (q i) (No TooDeep) (h i) (record { holds = tt })

  -- a comma and a part
  pub next_of_it : {A : Type 0} (StandsIn : ℕ → ℕ → A → Type 0) (q : Rule A) → TreeStands tokens StandsIn q → TreeStands tokens (In StandsIn) (next_of tokens q)
  next_of_it StandsIn q h i = next _ _ _ _ (takes_punctuator tokens mark.COMMA i) (λ _ a ha. later tokens StandsIn i a _ (omega arith) (h a))

  pub specifiers : (t : DeclWords) (i : ℕ) → Where (λ x k. Passed tokens i k) (decls.specifiers tokens t i)
  unfolding decls.specifiers
  specifiers t i = passes_repeated tokens (decls.specifier tokens) (operators.specifier tokens) (left tokens i) t i

  pub constructor_words : (t : DeclWords) (i : ℕ) → Where (λ x k. Passed tokens i k) (decls.constructor_words tokens t i)
  unfolding decls.constructor_words
  constructor_words t i = passes_repeated tokens (decls.constructor_word tokens) (operators.constructor_word tokens) (left tokens i) t i

  const_if : (b : Bool) (i : ℕ) → Where (λ x k. Passed tokens i k) (decls.const_if tokens b i)
  const_if true i = passes_present tokens _ (takes_word tokens keyword.CONST) i
  const_if false i = record { holds = record { goes = omega arith; within = λ before. before } }

  -- ---- bodies, whose statements are read by a rule

  module _ (inside : Rule Stmt) (h : TreeStands tokens (StandsStmt tokens) inside) where
    pub more_statements : (first : ℕ) (xs : List Stmt) (i : ℕ) → Group tokens (InOrder (StandsStmt tokens)) first xs i
        → Where (λ ys k. Group tokens (InOrder (StandsStmt tokens)) first ys k) (decls.more_statements tokens inside xs i)
    unfolding decls.more_statements
    more_statements first xs i now = stand_repeated tokens (StandsStmt tokens) (inside) (loosely tokens _ _ h) first (left tokens i) xs i now

    pub some_statements : ListStands tokens (StandsStmt tokens) (decls.some_statements tokens inside)
    unfolding decls.some_statements
    some_statements i = next _ _ _ _ (h i) (λ x a ha. more_statements i (x ∷ []) a (alone tokens (StandsStmt tokens) i a x (loosened tokens (StandsStmt tokens) i x a ha)))

    pub statements : ListStands tokens (StandsStmt tokens) (decls.statements tokens inside)
    unfolding decls.statements
    statements = stand_if_any tokens (StandsStmt tokens) _ some_statements

    pub body : TreeStands tokens (StandsBody tokens) (decls.body tokens inside)
    unfolding decls.body
    body i = spanned tokens _ i _ (
        next _ _ _ _ (takes_punctuator tokens mark.LEFT_BRACE i) (λ _ a ha.
        next _ _ _ _ (statements a) (λ xs b hb.
        next _ _ _ _ (takes_punctuator tokens mark.RIGHT_BRACE b) (λ _ c hc.
        record {
          holds = (let rises : i < c = omega arith in let within : c ≤ length tokens.list = hc.within in
              record {
                rises = rises;
                within = within;
                stands = ((refl, rises, within), row_of_stmts tokens i c xs (hb.stands i c (omega arith) (omega arith)));
              });
        }))))

    pub block : TreeStands tokens (StandsBlock tokens) (decls.block tokens inside)
    unfolding decls.block
    block i = spanned tokens _ i _ (
        next _ _ _ _ (takes_word tokens keyword.CONSTEVAL i) (λ _ a ha.
        next _ _ _ _ (body a) (λ x b hb.
        record {
          holds = (let rises : i < b = omega arith in let within : b ≤ length tokens.list = hb.within in
              record {
                rises = rises;
                within = within;
                stands = ((refl, rises, within), (a, b, omega arith, hb.stands, omega arith));
              });
        })))

    pub without_body : TreeStands tokens (IfAny (StandsBody tokens)) (decls.without_body tokens)
    unfolding decls.without_body
    without_body i = next _ _ _ _ (takes_punctuator tokens mark.SEMICOLON i) (λ _ a ha. record { holds = record { rises = ha.rises; within = ha.within; stands = omega arith } })

    pub with_body : TreeStands tokens (IfAny (StandsBody tokens)) (decls.with_body tokens inside)
    unfolding decls.with_body
    with_body i = next _ _ _ _ (body i) (λ x a ha. record { holds = record { rises = ha.rises; within = ha.within; stands = (i, a, omega arith, ha.stands, omega arith) } })

    pub body_or_none : TreeStands tokens (IfAny (StandsBody tokens)) (decls.body_or_none tokens inside)
    unfolding decls.body_or_none
    body_or_none i = either _ _ _ (without_body i) (with_body i)

  -- ---- forms at a level

  module _ (level : ℕ) where
    pub namespace_name : TreeStands tokens (StandsNamespace tokens) (decls.namespace_name tokens level)
    unfolding decls.namespace_name
    namespace_name i = next _ _ _ _ (levels.at_name tokens level i) (λ x a ha. record { holds = record { rises = ha.rises; within = ha.within; stands = ha.stands } })

    pub namespace_splice : TreeStands tokens (StandsNamespace tokens) (decls.namespace_splice tokens level)
    unfolding decls.namespace_splice
    namespace_splice i = next _ _ _ _ (levels.at_splice tokens level i) (λ x a ha. record { holds = record { rises = ha.rises; within = ha.within; stands = ha.stands } })

    pub namespace_named : TreeStands tokens (StandsNamespace tokens) (decls.namespace_named tokens level)
    unfolding decls.namespace_named
    namespace_named i = either _ _ _ (namespace_name i) (namespace_splice i)

    pub namespace_alias : TreeStands tokens (StandsNamespaceAlias tokens) (decls.namespace_alias tokens level)
    unfolding decls.namespace_alias
    namespace_alias i = spanned tokens _ i _ (
        next _ _ _ _ (takes_word tokens keyword.NAMESPACE i) (λ _ a ha.
        next _ _ _ _ (identifier_stands tokens a) (λ n b hb.
        next _ _ _ _ (takes_punctuator tokens mark.EQUAL b) (λ _ c hc.
        next _ _ _ _ (namespace_named c) (λ x d hd.
        next _ _ _ _ (takes_punctuator tokens mark.SEMICOLON d) (λ _ e he.
        record {
          holds = (let rises : i < e = omega arith in let within : e ≤ length tokens.list = he.within in
              record {
                rises = rises;
                within = within;
                stands = ((refl, rises, within), c, (a, b, omega arith, hb.stands, omega arith), (c, d, omega arith, hd.stands, omega arith));
              });
        }))))))

    pub enumerator_value : TreeStands tokens (In (Stands tokens)) (decls.enumerator_value tokens level)
    unfolding decls.enumerator_value
    enumerator_value i = next _ _ _ _ (takes_punctuator tokens mark.EQUAL i) (λ _ a ha. later tokens (Stands tokens) i a _ (omega arith) (levels.at_expr tokens (level + 1) a))

    pub enumerator_form : TreeStands tokens (StandsEnumerator tokens) (decls.enumerator_form tokens level)
    unfolding decls.enumerator_form
    enumerator_form i = spanned tokens _ i _ (
        next _ _ _ _ (identifier_stands tokens i) (λ n a ha.
        next _ _ _ _ (stands_optional tokens _ _ enumerator_value a) (λ x b hb.
        record {
          holds = (let rises : i < b = omega arith in let within : b ≤ length tokens.list = hb.within ha.within in
              record {
                rises = rises;
                within = within;
                stands = ((refl, rises, within), a, (i, a, omega arith, ha.stands, omega arith), hb.stands a b (omega arith) (omega arith));
              });
        })))

    pub enumerator : TreeStands tokens (StandsEnumerator tokens) (decls.enumerator tokens level)
    unfolding decls.enumerator
    enumerator = read_at (StandsEnumerator tokens) (level + 1) (decls.enumerator_form tokens level) enumerator_form

    pub more_enumerators : (first : ℕ) (xs : List EnumeratorTree) (i : ℕ) → Group tokens (InOrder (StandsEnumerator tokens)) first xs i
        → Where (λ ys k. Group tokens (InOrder (StandsEnumerator tokens)) first ys k) (decls.more_enumerators tokens level xs i)
    unfolding decls.more_enumerators
    more_enumerators first xs i now = stand_repeated tokens (StandsEnumerator tokens) (next_of tokens (decls.enumerator tokens level)) (next_of_it (StandsEnumerator tokens) (decls.enumerator tokens level) enumerator) first (left tokens i) xs i now

    pub some_enumerators : ListStands tokens (StandsEnumerator tokens) (decls.some_enumerators tokens level)
    unfolding decls.some_enumerators
    some_enumerators i =
        next _ _ _ _ (enumerator i) (λ x a ha.
        next _ _ _ _ (more_enumerators i (x ∷ []) a (alone tokens (StandsEnumerator tokens) i a x (loosened tokens (StandsEnumerator tokens) i x a ha))) (λ all b hb.
        next _ _ _ _ (passes_present tokens _ (takes_punctuator tokens mark.COMMA) b) (λ _ c hc.
        record {
          holds = record {
            goes = omega arith;
            within = λ before. hc.within (hb.within before);
            stands = λ first end before behind. hb.stands first end before (omega arith);
          };
        })))

    pub enumerators : ListStands tokens (StandsEnumerator tokens) (decls.enumerators tokens level)
    unfolding decls.enumerators
    enumerators = stand_if_any tokens (StandsEnumerator tokens) _ some_enumerators

    pub underlying : TreeStands tokens (In (StandsType tokens)) (decls.underlying tokens level)
    unfolding decls.underlying
    underlying i = next _ _ _ _ (takes_punctuator tokens mark.COLON i) (λ _ a ha. later tokens (StandsType tokens) i a _ (omega arith) (levels.at_type tokens level a))

    pub enumeration : TreeStands tokens (StandsEnum tokens) (decls.enumeration tokens level)
    unfolding decls.enumeration
    enumeration i = spanned tokens _ i _ (
        next _ _ _ _ (takes_word tokens keyword.ENUM i) (λ _ a ha.
        next _ _ _ _ (passes_optional tokens _ (operators.key tokens) a) (λ _ b hb.
        next _ _ _ _ (identifier_stands tokens b) (λ n c hc.
        next _ _ _ _ (stands_optional tokens _ _ underlying c) (λ t d hd.
        next _ _ _ _ (takes_punctuator tokens mark.LEFT_BRACE d) (λ _ e he.
        next _ _ _ _ (enumerators e) (λ all f hf.
        next _ _ _ _ (takes_punctuator tokens mark.RIGHT_BRACE f) (λ _ g hg.
        next _ _ _ _ (takes_punctuator tokens mark.SEMICOLON g) (λ _ j hj.
        record {
          holds = (let rises : i < j = omega arith in let within : j ≤ length tokens.list = hj.within in
              record {
                rises = rises;
                within = within;
                stands = ((refl, rises, within), c, e, (b, c, omega arith, hc.stands, omega arith), hd.stands c e (omega arith) (omega arith), hf.stands e j (omega arith) (omega arith));
              });
        })))))))))

    pub variable : (in_class : Bool) → TreeStands tokens (StandsVariable tokens) (decls.variable tokens level in_class)
    unfolding decls.variable
    variable in_class i = spanned tokens _ i _ (
        next _ _ _ _ (specifiers decls.no_words i) (λ words a ha.
        next _ _ _ _ (levels.at_type tokens level a) (λ t b hb.
        next _ _ _ _ (identifier_stands tokens b) (λ n c hc.
        next _ _ _ _ (locals.bounds tokens level c [] c (no_part tokens (StandsBoundTree tokens) c)) (λ all d hd.
        next _ _ _ _ (stands_optional tokens _ _ (loosely tokens _ _ (locals.init tokens level)) d) (λ x e he.
        next _ _ _ _ (takes_punctuator tokens mark.SEMICOLON e) (λ _ f hf.
        next _ _ _ _ (passes_guard tokens ((decls.stand_together words && decls.fit_words in_class words) && fit_bounds all x) f) (λ _ g hg.
        record {
          holds = (let rises : i < g = omega arith in let within : g ≤ length tokens.list = hg.within hf.within in
              record {
                rises = rises;
                within = within;
                stands = ((refl, rises, within), b, c, d, (a, b, omega arith, hb.stands, omega arith), (b, c, omega arith, hc.stands, omega arith), hd.stands c d (omega arith) (omega arith), he.stands d g (omega arith) (omega arith));
              });
        }))))))))

    pub parameter : TreeStands tokens (StandsParameter tokens) (decls.parameter tokens level)
    unfolding decls.parameter
    parameter i = spanned tokens _ i _ (
        next _ _ _ _ (levels.at_type tokens (level + 1) i) (λ t a ha.
        next _ _ _ _ (stands_optional tokens _ _ (loosely tokens _ _ (identifier_stands tokens)) a) (λ n b hb.
        record {
          holds = (let rises : i < b = omega arith in let within : b ≤ length tokens.list = hb.within ha.within in
              record {
                rises = rises;
                within = within;
                stands = ((refl, rises, within), a, (i, a, omega arith, ha.stands, omega arith), hb.stands a b (omega arith) (omega arith));
              });
        })))

    pub more_parameters : (first : ℕ) (xs : List ParameterTree) (i : ℕ) → Group tokens (InOrder (StandsParameter tokens)) first xs i
        → Where (λ ys k. Group tokens (InOrder (StandsParameter tokens)) first ys k) (decls.more_parameters tokens level xs i)
    unfolding decls.more_parameters
    more_parameters first xs i now = stand_repeated tokens (StandsParameter tokens) (next_of tokens (decls.parameter tokens level)) (next_of_it (StandsParameter tokens) (decls.parameter tokens level) parameter) first (left tokens i) xs i now

    pub some_parameters : ListStands tokens (StandsParameter tokens) (decls.some_parameters tokens level)
    unfolding decls.some_parameters
    some_parameters i = next _ _ _ _ (parameter i) (λ x a ha. more_parameters i (x ∷ []) a (alone tokens (StandsParameter tokens) i a x (loosened tokens (StandsParameter tokens) i x a ha)))

    pub parameters_if_any : ListStands tokens (StandsParameter tokens) (decls.parameters_if_any tokens level)
    unfolding decls.parameters_if_any
    parameters_if_any = stand_if_any tokens (StandsParameter tokens) _ some_parameters

    pub parameters : ListStands tokens (StandsParameter tokens) (decls.parameters tokens level)
    unfolding decls.parameters
    parameters i =
        next _ _ _ _ (takes_punctuator tokens mark.LEFT_PAREN i) (λ _ a ha.
        next _ _ _ _ (parameters_if_any a) (λ all b hb.
        next _ _ _ _ (takes_punctuator tokens mark.RIGHT_PAREN b) (λ _ c hc.
        record {
          holds = record {
            goes = omega arith;
            within = λ before. hc.within;
            stands = λ first end before behind. hb.stands first end (omega arith) (omega arith);
          };
        })))

    module _ (inside : Rule Stmt) (h : TreeStands tokens (StandsStmt tokens) inside) where
      pub function : (in_class : Bool) → TreeStands tokens (StandsFunction tokens) (decls.function tokens level inside in_class)
      unfolding decls.function
      function in_class i = spanned tokens _ i _ (
          next _ _ _ _ (specifiers decls.no_words i) (λ words a ha.
          next _ _ _ _ (levels.at_type tokens level a) (λ t b hb.
          next _ _ _ _ (identifier_stands tokens b) (λ n c hc.
          next _ _ _ _ (parameters c) (λ all d hd.
          next _ _ _ _ (const_if in_class d) (λ is_const e he.
          next _ _ _ _ (passes_present tokens _ (takes_word tokens keyword.NOEXCEPT) e) (λ _ f hf.
          next _ _ _ _ (body_or_none inside h f) (λ x g hg.
          next _ _ _ _ (passes_guard tokens (decls.stand_together words) g) (λ _ j hj.
          record {
            holds = (let rises : i < j = omega arith in let within : j ≤ length tokens.list = hj.within hg.within in
                record {
                  rises = rises;
                  within = within;
                  stands = ((refl, rises, within), b, c, f, (a, b, omega arith, hb.stands, omega arith), (b, c, omega arith, hc.stands, omega arith), hd.stands c f (omega arith) (omega arith), wider_any _ f f g j x (omega arith) (omega arith) hg.stands);
                });
          })))))))))
