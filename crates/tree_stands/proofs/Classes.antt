-- Classes, their members and declarations stand where they were read.
use Rattle.std.proofs.Common.{◌≡◌, ℕ, ◌+◌, ◌<◌, ◌≤◌, true, false, List, [], ◌∷◌, refl, subst, length, arith}
use Rattle.cxx_base.specs.declared.place.Place.{Place}
use Rattle.cxx_tree.specs.declared.stmt.Stmt.{Stmt}
use Rattle.cxx_tree.specs.declared.identifier.Identifier.{Identifier}
use Rattle.cxx_tree.specs.declared.decl.BaseTree.{BaseTree}
use Rattle.cxx_tree.specs.declared.decl.BlockTree.{BlockTree}
use Rattle.cxx_tree.specs.declared.decl.FunctionTree.{FunctionTree}
use Rattle.cxx_tree.specs.declared.decl.ConstructorTree.{ConstructorTree}
use Rattle.cxx_tree.specs.declared.decl.DestructorTree.{DestructorTree}
use Rattle.cxx_tree.specs.declared.decl.Member.{Member}
use Rattle.cxx_tree.specs.declared.decl.Member.TheVariants as member-of
use Rattle.cxx_tree.specs.declared.decl.MemberInit.{MemberInit}
use Rattle.tree_stands.specs.Stands.{InOrder, StandsTilde, StandsBased, StandsBase, StandsMemberValue, StandsMemberInit, StandsStmt, StandsBlock, StandsFunction, StandsClass, StandsMember, StandsDecl, StandsIdentifier}
use Rattle.cxx_tokens.specs.declared.token.Tokens.{Tokens}
use Rattle.cxx_tokens.specs.declared.mark.TheConstants as mark
use Rattle.cxx_tokens.specs.declared.keyword.TheConstants as keyword
use Rattle.cxx_reading.specs.Reading.{Rule, left, span}
use Rattle.cxx_grammar.specs.Sequences.{next_of}
use Rattle.cxx_grammar.specs.Nests.{Nests, of_function, of_block}
use Rattle.cxx_grammar.specs.Declarations as specs
use Rattle.cxx_grammar.specs.Classes as classes
use Rattle.tree_stands.proofs.Holding.{Where, next, either, Group, TreeStands, ListStands, spanned, loosened, loosely, part_later, passes_present, passes_optional, stand_if_any, alone, stand_repeated}
use Rattle.tree_stands.proofs.Single.{passes_guard, is_seen, takes_punctuator, takes_word, identifier_stands}
use Rattle.tree_stands.proofs.StatementRows.{boxed_body, row_of_members, body_if_any_stands}
use Rattle.tree_stands.proofs.Operators as operators
use Rattle.tree_stands.proofs.Levels as levels
use Rattle.tree_stands.proofs.Locals as locals
use Rattle.tree_stands.proofs.Declarations as decls
use Rattle.tree_stands.proofs.Inner.{StandNests}

abbrev pub StandsConstructor : Tokens → ℕ → ℕ → ConstructorTree → Type 0
StandsConstructor tokens i j x = StandsMember tokens i j (member-of.Constructor x)

abbrev pub StandsDestructor : Tokens → ℕ → ℕ → DestructorTree → Type 0
StandsDestructor tokens i j x = StandsMember tokens i j (member-of.Destructor x)

module _ (tokens : Tokens) where
  -- a function and a block of a class as its members
  member_function : (i j : ℕ) (x : FunctionTree) → StandsFunction tokens i j x → StandsMember tokens i j (member-of.Function x)
  member_function i j x h = (h.0, h.1, h.2, h.3, h.4, h.5, h.6, body_if_any_stands tokens h.3 j x.body h.7)

  member_block : (i j : ℕ) (x : BlockTree) → StandsBlock tokens i j x → StandsMember tokens i j (member-of.Block x)
  member_block i j x h = h

  pub access_member : TreeStands tokens (StandsMember tokens) (classes.access_member tokens)
  unfolding classes.access_member
  access_member i = spanned tokens _ i _ (
      next _ _ _ _ (operators.access tokens i) (λ x a ha.
      next _ _ _ _ (takes_punctuator tokens mark.COLON a) (λ _ b hb.
      record {
        holds = (let rises : i < b = omega arith in let within : b ≤ length tokens.list = hb.within in
            record {
              rises = rises;
              within = within;
              stands = (refl, rises, within);
            });
      })))

  pub empty_member : TreeStands tokens (StandsMember tokens) (classes.empty_member tokens)
  unfolding classes.empty_member
  empty_member i = spanned tokens _ i _ (
      next _ _ _ _ (takes_punctuator tokens mark.SEMICOLON i) (λ _ a ha.
      record {
        holds = (let rises : i < a = omega arith in let within : a ≤ length tokens.list = ha.within in
            record {
              rises = rises;
              within = within;
              stands = (refl, rises, within);
            });
      }))

  -- the mark of a destructor
  record IsTilde (i : ℕ) (x : Place) (k : ℕ) : Type 0 where
    stands : StandsTilde tokens i x
    ends : k ≡ i + 1

  tilde : (i : ℕ) → Where (λ x k. IsTilde i x k) (classes.tilde tokens i)
  unfolding classes.tilde span
  tilde i = spanned tokens _ i _ (next _ _ _ _ (is_seen tokens mark.TILDE i) (λ _ a ha. record { holds = record { stands = (refl, ha.sees); ends = ha.ends } }))

  -- the name right behind it
  named_behind : (a b c : ℕ) (n : Identifier) → b ≡ a + 1 → StandsIdentifier tokens b c n → StandsIdentifier tokens (a + 1) (a + 2) n
  named_behind a b c n e h = let g : c ≡ a + 2 = omega (arith, e, h.1) in
      subst (λ (j : ℕ). StandsIdentifier tokens j (a + 2) n) e (subst (λ (k : ℕ). StandsIdentifier tokens b k n) g h)

  pub class_declared : TreeStands tokens (StandsClass tokens) (classes.class_declared tokens)
  unfolding classes.class_declared
  class_declared i = spanned tokens _ i _ (
      next _ _ _ _ (operators.key tokens i) (λ x a ha.
      next _ _ _ _ (identifier_stands tokens a) (λ n b hb.
      next _ _ _ _ (takes_punctuator tokens mark.SEMICOLON b) (λ _ c hc.
      record {
        holds = (let rises : i < c = omega arith in let within : c ≤ length tokens.list = hc.within in
            record {
              rises = rises;
              within = within;
              stands = ((refl, rises, within), (a, b, omega arith, hb.stands, omega arith));
            });
      }))))

  module _ (level : ℕ) where
    pub based_name : TreeStands tokens (StandsBased tokens) (classes.based_name tokens level)
    unfolding classes.based_name
    based_name i = next _ _ _ _ (levels.at_name tokens level i) (λ x a ha. record { holds = record { rises = ha.rises; within = ha.within; stands = ha.stands } })

    pub based_splice : TreeStands tokens (StandsBased tokens) (classes.based_splice tokens level)
    unfolding classes.based_splice
    based_splice i = next _ _ _ _ (levels.at_splice tokens level i) (λ x a ha. record { holds = record { rises = ha.rises; within = ha.within; stands = ha.stands } })

    pub based_typename : TreeStands tokens (StandsBased tokens) (classes.based_typename tokens level)
    unfolding classes.based_typename
    based_typename i = spanned tokens _ i _ (
        next _ _ _ _ (takes_word tokens keyword.TYPENAME i) (λ _ a ha.
        next _ _ _ _ (levels.at_splice tokens level a) (λ x b hb.
        record {
          holds = (let rises : i < b = omega arith in let within : b ≤ length tokens.list = hb.within in
              record {
                rises = rises;
                within = within;
                stands = ((refl, rises, within), (a, b, omega arith, hb.stands, omega arith));
              });
        })))

    pub based : TreeStands tokens (StandsBased tokens) (classes.based tokens level)
    unfolding classes.based
    based i = either _ _ _ (based_name i) (either _ _ _ (based_splice i) (based_typename i))

    pub base : TreeStands tokens (StandsBase tokens) (classes.base tokens level)
    unfolding classes.base
    base i = spanned tokens _ i _ (
        next _ _ _ _ (passes_optional tokens _ (operators.access tokens) i) (λ _ a ha.
        next _ _ _ _ (based a) (λ x b hb.
        record {
          holds = (let rises : i < b = omega arith in let within : b ≤ length tokens.list = hb.within in
              record {
                rises = rises;
                within = within;
                stands = ((refl, rises, within), (a, b, omega arith, hb.stands, omega arith));
              });
        })))

    pub more_bases : (first : ℕ) (xs : List BaseTree) (i : ℕ) → Group tokens (InOrder (StandsBase tokens)) first xs i
        → Where (λ ys k. Group tokens (InOrder (StandsBase tokens)) first ys k) (classes.more_bases tokens level xs i)
    unfolding classes.more_bases
    more_bases first xs i now = stand_repeated tokens (StandsBase tokens) (next_of tokens (classes.base tokens level)) (decls.next_of_it tokens (StandsBase tokens) (classes.base tokens level) base) first (left tokens i) xs i now

    pub some_bases : ListStands tokens (StandsBase tokens) (classes.some_bases tokens level)
    unfolding classes.some_bases
    some_bases i = next _ _ _ _ (takes_punctuator tokens mark.COLON i) (λ _ a ha. next _ _ _ _ (base a) (λ x b hb.
        more_bases i (x ∷ []) b (alone tokens (StandsBase tokens) i b x (part_later tokens (StandsBase tokens) i a b x (omega arith) hb))))

    pub bases : ListStands tokens (StandsBase tokens) (classes.bases tokens level)
    unfolding classes.bases
    bases = stand_if_any tokens (StandsBase tokens) _ some_bases

    pub value_args : TreeStands tokens (StandsMemberValue tokens) (classes.value_args tokens level)
    unfolding classes.value_args
    value_args i = next _ _ _ _ (levels.at_args tokens level i) (λ x a ha. record { holds = record { rises = ha.rises; within = ha.within; stands = ha.stands } })

    pub value_braced : TreeStands tokens (StandsMemberValue tokens) (classes.value_braced tokens level)
    unfolding classes.value_braced
    value_braced i = next _ _ _ _ (levels.at_braced tokens level i) (λ x a ha. record { holds = record { rises = ha.rises; within = ha.within; stands = ha.stands } })

    pub init_value : TreeStands tokens (StandsMemberValue tokens) (classes.init_value tokens level)
    unfolding classes.init_value
    init_value i = either _ _ _ (value_args i) (value_braced i)

    pub member_init : TreeStands tokens (StandsMemberInit tokens) (classes.member_init tokens level)
    unfolding classes.member_init
    member_init i = spanned tokens _ i _ (
        next _ _ _ _ (levels.at_name tokens level i) (λ n a ha.
        next _ _ _ _ (init_value a) (λ x b hb.
        record {
          holds = (let rises : i < b = omega arith in let within : b ≤ length tokens.list = hb.within in
              record {
                rises = rises;
                within = within;
                stands = ((refl, rises, within), a, (i, a, omega arith, ha.stands, omega arith), (a, b, omega arith, hb.stands, omega arith));
              });
        })))

    pub more_inits : (first : ℕ) (xs : List MemberInit) (i : ℕ) → Group tokens (InOrder (StandsMemberInit tokens)) first xs i
        → Where (λ ys k. Group tokens (InOrder (StandsMemberInit tokens)) first ys k) (classes.more_inits tokens level xs i)
    unfolding classes.more_inits
    more_inits first xs i now = stand_repeated tokens (StandsMemberInit tokens) (next_of tokens (classes.member_init tokens level)) (decls.next_of_it tokens (StandsMemberInit tokens) (classes.member_init tokens level) member_init) first (left tokens i) xs i now

    pub some_inits : ListStands tokens (StandsMemberInit tokens) (classes.some_inits tokens level)
    unfolding classes.some_inits
    some_inits i = next _ _ _ _ (takes_punctuator tokens mark.COLON i) (λ _ a ha. next _ _ _ _ (member_init a) (λ x b hb.
        more_inits i (x ∷ []) b (alone tokens (StandsMemberInit tokens) i b x (part_later tokens (StandsMemberInit tokens) i a b x (omega arith) hb))))

    pub member_inits : ListStands tokens (StandsMemberInit tokens) (classes.member_inits tokens level)
    unfolding classes.member_inits
    member_inits = stand_if_any tokens (StandsMemberInit tokens) _ some_inits

    pub alias_member : TreeStands tokens (StandsMember tokens) (classes.alias_member tokens level)
    unfolding classes.alias_member
    alias_member i = next _ _ _ _ (locals.alias tokens level i) (λ x a ha. record { holds = record { rises = ha.rises; within = ha.within; stands = ha.stands } })

    pub enum_member : TreeStands tokens (StandsMember tokens) (classes.enum_member tokens level)
    unfolding classes.enum_member
    enum_member i = next _ _ _ _ (decls.enumeration tokens level i) (λ x a ha. record { holds = record { rises = ha.rises; within = ha.within; stands = ha.stands } })

    pub assert_member : TreeStands tokens (StandsMember tokens) (classes.assert_member tokens level)
    unfolding classes.assert_member
    assert_member i = next _ _ _ _ (locals.assert tokens (level + 1) i) (λ x a ha. record { holds = record { rises = ha.rises; within = ha.within; stands = ha.stands } })

    pub data_member : TreeStands tokens (StandsMember tokens) (classes.data_member tokens level)
    unfolding classes.data_member
    data_member i = next _ _ _ _ (decls.variable tokens level true i) (λ x a ha. record { holds = record { rises = ha.rises; within = ha.within; stands = ha.stands } })

    pub namespace_decl : TreeStands tokens (StandsDecl tokens) (classes.namespace_decl tokens level)
    unfolding classes.namespace_decl
    namespace_decl i = next _ _ _ _ (decls.namespace_alias tokens level i) (λ x a ha. record { holds = record { rises = ha.rises; within = ha.within; stands = ha.stands } })

    pub alias_decl : TreeStands tokens (StandsDecl tokens) (classes.alias_decl tokens level)
    unfolding classes.alias_decl
    alias_decl i = next _ _ _ _ (locals.alias tokens level i) (λ x a ha. record { holds = record { rises = ha.rises; within = ha.within; stands = ha.stands } })

    pub enum_decl : TreeStands tokens (StandsDecl tokens) (classes.enum_decl tokens level)
    unfolding classes.enum_decl
    enum_decl i = next _ _ _ _ (decls.enumeration tokens level i) (λ x a ha. record { holds = record { rises = ha.rises; within = ha.within; stands = ha.stands } })

    pub variable_decl : TreeStands tokens (StandsDecl tokens) (classes.variable_decl tokens level)
    unfolding classes.variable_decl
    variable_decl i = next _ _ _ _ (decls.variable tokens level false i) (λ x a ha. record { holds = record { rises = ha.rises; within = ha.within; stands = ha.stands } })

    pub assert_decl : TreeStands tokens (StandsDecl tokens) (classes.assert_decl tokens level)
    unfolding classes.assert_decl
    assert_decl i = next _ _ _ _ (locals.assert tokens (level + 1) i) (λ x a ha. record { holds = record { rises = ha.rises; within = ha.within; stands = ha.stands } })

    -- ---- what has a body

    module _ (inside : Rule Stmt) (h : TreeStands tokens (StandsStmt tokens) inside) where
      pub constructor_form : TreeStands tokens (StandsConstructor tokens) (classes.constructor_form tokens level inside)
      unfolding classes.constructor_form
      constructor_form i = spanned tokens _ i _ (
          next _ _ _ _ (decls.constructor_words tokens specs.no_words i) (λ words a ha.
          next _ _ _ _ (identifier_stands tokens a) (λ n b hb.
          next _ _ _ _ (decls.parameters tokens level b) (λ all c hc.
          next _ _ _ _ (passes_present tokens _ (takes_word tokens keyword.NOEXCEPT) c) (λ _ d hd.
          next _ _ _ _ (member_inits d) (λ inits e he.
          next _ _ _ _ (decls.body tokens inside h e) (λ x f hf.
          next _ _ _ _ (passes_guard tokens (specs.stand_together words) f) (λ _ g hg.
          record {
            holds = (let rises : i < g = omega arith in let within : g ≤ length tokens.list = hg.within hf.within in
                record {
                  rises = rises;
                  within = within;
                  stands = ((refl, rises, within), b, d, e, (a, b, omega arith, hb.stands, omega arith), hc.stands b d (omega arith) (omega arith), he.stands d e (omega arith) (omega arith), boxed_body tokens e g x (e, f, omega arith, hf.stands, omega arith));
                });
          }))))))))

      pub destructor_form : TreeStands tokens (StandsDestructor tokens) (classes.destructor_form tokens level inside)
      unfolding classes.destructor_form
      destructor_form i = spanned tokens _ i _ (
          next _ _ _ _ (decls.specifiers tokens specs.no_words i) (λ words a ha.
          next _ _ _ _ (tilde a) (λ mark_place b hb.
          next _ _ _ _ (identifier_stands tokens b) (λ n c hc.
          next _ _ _ _ (takes_punctuator tokens mark.LEFT_PAREN c) (λ _ d hd.
          next _ _ _ _ (takes_punctuator tokens mark.RIGHT_PAREN d) (λ _ e he.
          next _ _ _ _ (passes_present tokens _ (takes_word tokens keyword.NOEXCEPT) e) (λ _ f hf.
          next _ _ _ _ (decls.body tokens inside h f) (λ x g hg.
          next _ _ _ _ (passes_guard tokens (specs.stand_together words) g) (λ _ j hj.
          record {
            holds = (let rises : i < j = omega arith in let within : j ≤ length tokens.list = hj.within hg.within in
                record {
                  rises = rises;
                  within = within;
                  stands = (let marked : b ≡ a + 1 = hb.ends in let named : c ≡ b + 1 = hc.stands.1 in
                      ((refl, rises, within), a, omega arith, hb.stands, named_behind a b c n marked hc.stands, (f, g, omega arith, hg.stands, omega arith)));
                });
          })))))))))

    -- ---- classes, whose members are read by a rule

    module _ (inside : Rule Member) (h : TreeStands tokens (StandsMember tokens) inside) where
      pub more_members : (first : ℕ) (xs : List Member) (i : ℕ) → Group tokens (InOrder (StandsMember tokens)) first xs i
          → Where (λ ys k. Group tokens (InOrder (StandsMember tokens)) first ys k) (classes.more_members tokens level inside xs i)
      unfolding classes.more_members
      more_members first xs i now = stand_repeated tokens (StandsMember tokens) (inside) (loosely tokens _ _ h) first (left tokens i) xs i now

      pub some_members : ListStands tokens (StandsMember tokens) (classes.some_members tokens level inside)
      unfolding classes.some_members
      some_members i = next _ _ _ _ (h i) (λ x a ha. more_members i (x ∷ []) a (alone tokens (StandsMember tokens) i a x (loosened tokens (StandsMember tokens) i x a ha)))

      pub members : ListStands tokens (StandsMember tokens) (classes.members tokens level inside)
      unfolding classes.members
      members = stand_if_any tokens (StandsMember tokens) _ some_members

      pub class_defined : TreeStands tokens (StandsClass tokens) (classes.class_defined tokens level inside)
      unfolding classes.class_defined
      class_defined i = spanned tokens _ i _ (
          next _ _ _ _ (operators.key tokens i) (λ k_word a ha.
          next _ _ _ _ (identifier_stands tokens a) (λ n b hb.
          next _ _ _ _ (bases b) (λ from c hc.
          next _ _ _ _ (takes_punctuator tokens mark.LEFT_BRACE c) (λ _ d hd.
          next _ _ _ _ (members d) (λ all e he.
          next _ _ _ _ (takes_punctuator tokens mark.RIGHT_BRACE e) (λ _ f hf.
          next _ _ _ _ (takes_punctuator tokens mark.SEMICOLON f) (λ _ g hg.
          next _ _ _ _ (passes_guard tokens (classes.are_named n.name.0 all) g) (λ _ j hj.
          record {
            holds = (let rises : i < j = omega arith in let within : j ≤ length tokens.list = hj.within hg.within in
                record {
                  rises = rises;
                  within = within;
                  stands = ((refl, rises, within), b, d, (a, b, omega arith, hb.stands, omega arith), hc.stands b d (omega arith) (omega arith), row_of_members tokens d j all (he.stands d j (omega arith) (omega arith)));
                });
          })))))))))

      pub class : TreeStands tokens (StandsClass tokens) (classes.class tokens level inside)
      unfolding classes.class
      class i = either _ _ _ (class_declared i) (class_defined i)

    -- ---- members and declarations, where the rules one level deeper are known

    module _ (inner : Nests) (h : StandNests tokens inner) where
      pub class_member : TreeStands tokens (StandsMember tokens) (classes.class_member tokens level inner)
      unfolding classes.class_member
      class_member i = next _ _ _ _ (class inner.member h.of_member i) (λ x a ha. record { holds = record { rises = ha.rises; within = ha.within; stands = ha.stands } })

      pub block_member : TreeStands tokens (StandsMember tokens) (classes.block_member tokens level inner)
      unfolding classes.block_member
      block_member i = next _ _ _ _ (decls.block tokens (inner.stmt of_block) (h.of_stmt of_block) i) (λ x a ha. record {
        holds = record {
          rises = ha.rises;
          within = ha.within;
          stands = member_block i a x ha.stands;
        };
      })

      pub function_member : TreeStands tokens (StandsMember tokens) (classes.function_member tokens level inner)
      unfolding classes.function_member
      function_member i = next _ _ _ _ (decls.function tokens level (inner.stmt of_function) (h.of_stmt of_function) true i) (λ x a ha. record {
        holds = record {
          rises = ha.rises;
          within = ha.within;
          stands = member_function i a x ha.stands;
        };
      })

      pub constructor_member : TreeStands tokens (StandsMember tokens) (classes.constructor_member tokens level inner)
      unfolding classes.constructor_member
      constructor_member i = next _ _ _ _ (constructor_form (inner.stmt of_function) (h.of_stmt of_function) i) (λ x a ha. record { holds = record { rises = ha.rises; within = ha.within; stands = ha.stands } })

      pub destructor_member : TreeStands tokens (StandsMember tokens) (classes.destructor_member tokens level inner)
      unfolding classes.destructor_member
      destructor_member i = next _ _ _ _ (destructor_form (inner.stmt of_function) (h.of_stmt of_function) i) (λ x a ha. record { holds = record { rises = ha.rises; within = ha.within; stands = ha.stands } })

      pub member : TreeStands tokens (StandsMember tokens) (classes.member tokens level inner)
      unfolding classes.member
      member i =
          either _ _ _ (access_member i) (
          either _ _ _ (empty_member i) (
          either _ _ _ (alias_member i) (
          either _ _ _ (class_member i) (
          either _ _ _ (enum_member i) (
          either _ _ _ (assert_member i) (
          either _ _ _ (block_member i) (
          either _ _ _ (data_member i) (
          either _ _ _ (function_member i) (
          either _ _ _ (constructor_member i) (
          destructor_member i))))))))))

      pub class_decl : TreeStands tokens (StandsDecl tokens) (classes.class_decl tokens level inner)
      unfolding classes.class_decl
      class_decl i = next _ _ _ _ (class inner.member h.of_member i) (λ x a ha. record { holds = record { rises = ha.rises; within = ha.within; stands = ha.stands } })

      pub function_decl : TreeStands tokens (StandsDecl tokens) (classes.function_decl tokens level inner)
      unfolding classes.function_decl
      function_decl i = next _ _ _ _ (decls.function tokens level (inner.stmt of_function) (h.of_stmt of_function) false i) (λ x a ha. record { holds = record { rises = ha.rises; within = ha.within; stands = ha.stands } })

      pub block_decl : TreeStands tokens (StandsDecl tokens) (classes.block_decl tokens level inner)
      unfolding classes.block_decl
      block_decl i = next _ _ _ _ (decls.block tokens (inner.stmt of_block) (h.of_stmt of_block) i) (λ x a ha. record { holds = record { rises = ha.rises; within = ha.within; stands = ha.stands } })

      pub decl : TreeStands tokens (StandsDecl tokens) (classes.decl tokens level inner)
      unfolding classes.decl
      decl i =
          either _ _ _ (namespace_decl i) (
          either _ _ _ (alias_decl i) (
          either _ _ _ (class_decl i) (
          either _ _ _ (enum_decl i) (
          either _ _ _ (function_decl i) (
          either _ _ _ (variable_decl i) (
          either _ _ _ (assert_decl i) (
          block_decl i)))))))
