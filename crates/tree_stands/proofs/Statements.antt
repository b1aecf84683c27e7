-- Statements stand where they were read.
use Rattle.std.proofs.Common.{ℕ, not, ◌+◌, ◌<◌, ◌≤◌, length, refl, arith}
use Rattle.cxx_tree.specs.declared.stmt.Stmt.{Stmt}
use Rattle.cxx_tree.specs.declared.decl.Member.{Member}
use Rattle.tree_stands.specs.Stands.{StandsStmt, StandsMember, StandsReturned, StandsForInit, StandsForStep, StandsForRange, StandsBlock, StandsClass}
use Rattle.cxx_tokens.specs.declared.token.Tokens.{Tokens}
use Rattle.cxx_tokens.specs.declared.mark.TheConstants as mark
use Rattle.cxx_tokens.specs.declared.keyword.TheConstants as keyword
use Rattle.cxx_reading.specs.Reading.{Rule, ◌>>◌, word}
use Rattle.cxx_grammar.specs.declared.within.Within.{Within}
use Rattle.cxx_grammar.specs.Nests.{Nests, of_block, looping}
use Rattle.cxx_grammar.specs.Classes as specs
use Rattle.cxx_grammar.specs.Statements as forms
use Rattle.tree_stands.proofs.Holding.{next, either, In, Part, TreeStands, spanned, loosely, later, stands_optional}
use Rattle.tree_stands.proofs.Single.{where_guard, passes_guard, takes_punctuator, takes_word, identifier_stands}
use Rattle.tree_stands.proofs.StatementRows.{boxed_stmt, class_stands, else_stands}
use Rattle.tree_stands.proofs.Levels as levels
use Rattle.tree_stands.proofs.Locals as locals
use Rattle.tree_stands.proofs.Declarations as decls
use Rattle.tree_stands.proofs.Classes as classes
use Rattle.tree_stands.proofs.Inner.{StandNests}

module _ (tokens : Tokens) where
  pub empty_form : TreeStands tokens (StandsStmt tokens) (forms.empty_form tokens)
  unfolding forms.empty_form
  empty_form i = spanned tokens _ i _ (
      next _ _ _ _ (takes_punctuator tokens mark.SEMICOLON i) (λ _ a ha.
      record {
        holds = (let rises : i < a = omega arith in let within : a ≤ length tokens.list = ha.within in
            record {
              rises = rises;
              within = within;
              stands = (refl, rises, within);
            });
      }))

  pub break_form : (within : Within) → TreeStands tokens (StandsStmt tokens) (forms.break_form tokens within)
  unfolding forms.break_form
  break_form within i = spanned tokens _ i _ (
      next _ _ _ _ (passes_guard tokens within.in_loop i) (λ _ a ha.
      next _ _ _ _ (takes_word tokens keyword.BREAK a) (λ _ b hb.
      next _ _ _ _ (takes_punctuator tokens mark.SEMICOLON b) (λ _ c hc.
      record {
        holds = (let rises : i < c = omega arith in let within : c ≤ length tokens.list = hc.within in
            record {
              rises = rises;
              within = within;
              stands = (refl, rises, within);
            });
      }))))

  pub continue_form : (within : Within) → TreeStands tokens (StandsStmt tokens) (forms.continue_form tokens within)
  unfolding forms.continue_form
  continue_form within i = spanned tokens _ i _ (
      next _ _ _ _ (passes_guard tokens within.in_loop i) (λ _ a ha.
      next _ _ _ _ (takes_word tokens keyword.CONTINUE a) (λ _ b hb.
      next _ _ _ _ (takes_punctuator tokens mark.SEMICOLON b) (λ _ c hc.
      record {
        holds = (let rises : i < c = omega arith in let within : c ≤ length tokens.list = hc.within in
            record {
              rises = rises;
              within = within;
              stands = (refl, rises, within);
            });
      }))))

  pub for_empty : TreeStands tokens (StandsForInit tokens) (forms.for_empty tokens)
  unfolding forms.for_empty
  for_empty i = spanned tokens _ i _ (
      next _ _ _ _ (takes_punctuator tokens mark.SEMICOLON i) (λ _ a ha.
      record {
        holds = (let rises : i < a = omega arith in let within : a ≤ length tokens.list = ha.within in
            record {
              rises = rises;
              within = within;
              stands = (refl, rises, within);
            });
      }))

  module _ (level : ℕ) where
    pub alias_form : TreeStands tokens (StandsStmt tokens) (forms.alias_form tokens level)
    unfolding forms.alias_form
    alias_form i = next _ _ _ _ (locals.alias tokens level i) (λ x a ha. record { holds = record { rises = ha.rises; within = ha.within; stands = ha.stands } })

    pub local_form : TreeStands tokens (StandsStmt tokens) (forms.local_form tokens level)
    unfolding forms.local_form
    local_form = locals.locally tokens (StandsStmt tokens) _ (λ i. next _ _ _ _ (locals.local tokens level i) (λ x a ha. record { holds = record { rises = ha.rises; within = ha.within; stands = ha.stands } }))

    pub assign_form : TreeStands tokens (StandsStmt tokens) (forms.assign_form tokens level)
    unfolding forms.assign_form
    assign_form = locals.elsewhere tokens (StandsStmt tokens) _ (λ i.
        next _ _ _ _ (locals.assign tokens level i) (λ x a ha.
        next _ _ _ _ (takes_punctuator tokens mark.SEMICOLON a) (λ _ b hb.
        record { holds = record { rises = omega arith; within = hb.within; stands = (a, ha.stands, omega arith) } })))

    pub expr_form : TreeStands tokens (StandsStmt tokens) (forms.expr_form tokens level)
    unfolding forms.expr_form
    expr_form = locals.elsewhere tokens (StandsStmt tokens) _ (λ i. spanned tokens _ i _ (
        next _ _ _ _ (levels.at_expr tokens level i) (λ x a ha.
        next _ _ _ _ (takes_punctuator tokens mark.SEMICOLON a) (λ _ b hb.
        record {
          holds = (let rises : i < b = omega arith in let within : b ≤ length tokens.list = hb.within in
              record { rises = rises; within = within; stands = ((refl, rises, within), (i, a, omega arith, ha.stands, omega arith)) });
        }))))

    pub returned : TreeStands tokens (StandsReturned tokens) (forms.returned tokens level)
    unfolding forms.returned
    returned i = either _ _ _
        (next _ _ _ _ (levels.at_expr tokens level i) (λ x a ha. record { holds = record { rises = ha.rises; within = ha.within; stands = ha.stands } }))
        (next _ _ _ _ (levels.at_braced tokens level i) (λ x a ha. record { holds = record { rises = ha.rises; within = ha.within; stands = ha.stands } }))

    pub return_form : TreeStands tokens (StandsStmt tokens) (forms.return_form tokens level)
    unfolding forms.return_form
    return_form i = spanned tokens _ i _ (
        next _ _ _ _ (takes_word tokens keyword.RETURN i) (λ _ a ha.
        next _ _ _ _ (stands_optional tokens _ _ (loosely tokens _ _ returned) a) (λ x b hb.
        next _ _ _ _ (takes_punctuator tokens mark.SEMICOLON b) (λ _ c hc.
        record {
          holds = (let rises : i < c = omega arith in let within : c ≤ length tokens.list = hc.within in
              record {
                rises = rises;
                within = within;
                stands = ((refl, rises, within), hb.stands i c (omega arith) (omega arith));
              });
        }))))

    pub assert_form : TreeStands tokens (StandsStmt tokens) (forms.assert_form tokens level)
    unfolding forms.assert_form
    assert_form i = next _ _ _ _ (locals.assert tokens level i) (λ x a ha. record { holds = record { rises = ha.rises; within = ha.within; stands = ha.stands } })

    pub for_local : TreeStands tokens (StandsForInit tokens) (forms.for_local tokens level)
    unfolding forms.for_local
    for_local = locals.locally tokens (StandsForInit tokens) _ (λ i. next _ _ _ _ (locals.local tokens level i) (λ x a ha. record { holds = record { rises = ha.rises; within = ha.within; stands = ha.stands } }))

    pub for_assign : TreeStands tokens (StandsForInit tokens) (forms.for_assign tokens level)
    unfolding forms.for_assign
    for_assign = locals.elsewhere tokens (StandsForInit tokens) _ (λ i.
        next _ _ _ _ (locals.assign tokens level i) (λ x a ha.
        next _ _ _ _ (takes_punctuator tokens mark.SEMICOLON a) (λ _ b hb.
        record { holds = record { rises = omega arith; within = hb.within; stands = (a, ha.stands, omega arith) } })))

    pub for_init : TreeStands tokens (StandsForInit tokens) (forms.for_init tokens level)
    unfolding forms.for_init
    for_init i = either _ _ _ (for_local i) (either _ _ _ (for_assign i) (for_empty i))

    pub for_step : TreeStands tokens (StandsForStep tokens) (forms.for_step tokens level)
    unfolding forms.for_step
    for_step i = either _ _ _
        (next _ _ _ _ (locals.assign tokens level i) (λ x a ha. record { holds = record { rises = ha.rises; within = ha.within; stands = ha.stands } }))
        (next _ _ _ _ (levels.at_expr tokens level i) (λ x a ha. record { holds = record { rises = ha.rises; within = ha.within; stands = ha.stands } }))

    pub range : TreeStands tokens (StandsForRange tokens) (forms.range tokens level)
    unfolding forms.range
    range = locals.locally tokens (StandsForRange tokens) _ (λ i.
        next _ _ _ _ (levels.at_type tokens level i) (λ t a ha.
        next _ _ _ _ (identifier_stands tokens a) (λ n b hb.
        next _ _ _ _ (takes_punctuator tokens mark.COLON b) (λ _ c hc.
        next _ _ _ _ (levels.at_expr tokens level c) (λ x d hd.
        record {
          holds = record {
            rises = omega arith;
            within = hd.within;
            stands = (a, b, (i, a, omega arith, ha.stands, omega arith), (a, b, omega arith, hb.stands, omega arith), (c, d, omega arith, hd.stands, omega arith));
          };
        })))))

    module _ (inner : Nests) (h : StandNests tokens inner) (within : Within) where
      else_part : TreeStands tokens (In (StandsStmt tokens)) (word tokens keyword.ELSE >> inner.sub within)
      else_part i = next _ _ _ _ (takes_word tokens keyword.ELSE i) (λ _ a ha. later tokens (StandsStmt tokens) i a _ (omega arith) (h.of_sub within a))

      pub if_form : TreeStands tokens (StandsStmt tokens) (forms.if_form tokens level inner within)
      unfolding forms.if_form
      if_form i = spanned tokens _ i _ (
          next _ _ _ _ (takes_word tokens keyword.IF i) (λ _ a ha.
          next _ _ _ _ (takes_punctuator tokens mark.LEFT_PAREN a) (λ _ b hb.
          next _ _ _ _ (levels.at_expr tokens level b) (λ x c hc.
          next _ _ _ _ (takes_punctuator tokens mark.RIGHT_PAREN c) (λ _ d hd.
          next _ _ _ _ (h.of_sub within d) (λ y e he.
          next _ _ _ _ (stands_optional tokens _ _ else_part e) (λ o f hf.
          record {
            holds = (let rises : i < f = omega arith in let within : f ≤ length tokens.list = hf.within he.within in
                record {
                  rises = rises;
                  within = within;
                  stands = ((refl, rises, within), d, e, (b, c, omega arith, hc.stands, omega arith), boxed_stmt tokens d e y (d, e, omega arith, he.stands, omega arith), else_stands tokens e f o (hf.stands e f (omega arith) (omega arith)));
                });
          })))))))

      pub while_form : TreeStands tokens (StandsStmt tokens) (forms.while_form tokens level inner within)
      unfolding forms.while_form
      while_form i = spanned tokens _ i _ (
          next _ _ _ _ (takes_word tokens keyword.WHILE i) (λ _ a ha.
          next _ _ _ _ (takes_punctuator tokens mark.LEFT_PAREN a) (λ _ b hb.
          next _ _ _ _ (levels.at_expr tokens level b) (λ x c hc.
          next _ _ _ _ (takes_punctuator tokens mark.RIGHT_PAREN c) (λ _ d hd.
          next _ _ _ _ (h.of_sub (looping within) d) (λ y e he.
          record {
            holds = (let rises : i < e = omega arith in let within : e ≤ length tokens.list = he.within in
                record {
                  rises = rises;
                  within = within;
                  stands = ((refl, rises, within), d, (b, c, omega arith, hc.stands, omega arith), boxed_stmt tokens d e y (d, e, omega arith, he.stands, omega arith));
                });
          }))))))

      pub for_form : TreeStands tokens (StandsStmt tokens) (forms.for_form tokens level inner within)
      unfolding forms.for_form
      for_form i = spanned tokens _ i _ (
          next _ _ _ _ (takes_word tokens keyword.FOR i) (λ _ a ha.
          next _ _ _ _ (takes_punctuator tokens mark.LEFT_PAREN a) (λ _ b hb.
          next _ _ _ _ (for_init b) (λ x c hc.
          next _ _ _ _ (stands_optional tokens _ _ (loosely tokens _ _ (levels.at_expr tokens level)) c) (λ o d hd.
          next _ _ _ _ (takes_punctuator tokens mark.SEMICOLON d) (λ _ e he.
          next _ _ _ _ (stands_optional tokens _ _ (loosely tokens _ _ for_step) e) (λ q f hf.
          next _ _ _ _ (takes_punctuator tokens mark.RIGHT_PAREN f) (λ _ g hg.
          next _ _ _ _ (h.of_sub (looping within) g) (λ y j hj.
          record {
            holds = (let rises : i < j = omega arith in let within : j ≤ length tokens.list = hj.within in
                record {
                  rises = rises;
                  within = within;
                  stands = (
                    (refl, rises, within),
                    g,
                    (
                      i,
                      g,
                      omega arith,
                      (c, e, (b, c, omega arith, hc.stands, omega arith), hd.stands c e (omega arith) (omega arith), hf.stands e g (omega arith) (omega arith)),
                      omega arith,
                    ),
                    boxed_stmt tokens g j y (g, j, omega arith, hj.stands, omega arith),
                  );
                });
          })))))))))

      pub range_for_form : TreeStands tokens (StandsStmt tokens) (forms.range_for_form tokens level inner within)
      unfolding forms.range_for_form
      range_for_form i = spanned tokens _ i _ (
          next _ _ _ _ (takes_word tokens keyword.FOR i) (λ _ a ha.
          next _ _ _ _ (takes_punctuator tokens mark.LEFT_PAREN a) (λ _ b hb.
          next _ _ _ _ (range b) (λ x c hc.
          next _ _ _ _ (takes_punctuator tokens mark.RIGHT_PAREN c) (λ _ d hd.
          next _ _ _ _ (h.of_sub (looping within) d) (λ y e he.
          record {
            holds = (let rises : i < e = omega arith in let within : e ≤ length tokens.list = he.within in
                record {
                  rises = rises;
                  within = within;
                  stands = ((refl, rises, within), d, (b, c, omega arith, hc.stands, omega arith), boxed_stmt tokens d e y (d, e, omega arith, he.stands, omega arith));
                });
          }))))))

  -- ---- statements with braces of their own

  pub body_form : (inside : Rule Stmt) → TreeStands tokens (StandsStmt tokens) inside → TreeStands tokens (StandsStmt tokens) (forms.body_form tokens inside)
  unfolding forms.body_form
  body_form inside h i = (next _ _ _ _ (decls.body tokens inside h i) (λ x a ha. record { holds = record { rises = ha.rises; within = ha.within; stands = ha.stands } }))

  pub class_form : (level : ℕ) (inside : Rule Member) (within : Within) → TreeStands tokens (StandsMember tokens) inside → TreeStands tokens (StandsStmt tokens) (forms.class_form tokens level inside within)
  unfolding forms.class_form
  class_form level inside within h i =
      next _ _ _ _ (classes.class tokens level inside h i) (λ x a ha.
      next _ _ _ _ (where_guard (λ k. Part tokens (StandsClass tokens) i x k) (not within.in_block) a ha) (λ _ b hb.
      record { holds = record { rises = hb.rises; within = hb.within; stands = class_stands tokens i b x hb.stands } }))

  pub block_form : (inside : Rule Stmt) (within : Within) → TreeStands tokens (StandsStmt tokens) inside → TreeStands tokens (StandsStmt tokens) (forms.block_form tokens inside within)
  unfolding forms.block_form
  block_form inside within h i =
      next _ _ _ _ (decls.block tokens inside h i) (λ x a ha.
      next _ _ _ _ (where_guard (λ k. Part tokens (StandsBlock tokens) i x k) (not within.in_block) a ha) (λ _ b hb.
      record { holds = record { rises = hb.rises; within = hb.within; stands = hb.stands } }))

  pub bracketed : (level : ℕ) (statement : Within → Rule Stmt) (inside : Rule Member) (within : Within) → ((w : Within) → TreeStands tokens (StandsStmt tokens) (statement w))
      → TreeStands tokens (StandsMember tokens) inside → TreeStands tokens (StandsStmt tokens) (forms.bracketed tokens level statement inside within)
  unfolding forms.bracketed
  bracketed level statement inside within h g i =
      either _ _ _ (body_form (statement within) (h within) i) (either _ _ _ (class_form level inside within g i) (block_form (statement of_block) within (h of_block) i))

  -- ---- all statements

  module _ (level : ℕ) (inner : Nests) (h : StandNests tokens inner) where
    pub other_stmt : (in_parens : ℕ) (within : Within) → TreeStands tokens (StandsStmt tokens) (forms.other_stmt tokens level inner in_parens within)
    unfolding forms.other_stmt
    other_stmt in_parens within i =
        either _ _ _ (empty_form i) (
        either _ _ _ (assert_form in_parens i) (
        either _ _ _ (alias_form level i) (
        either _ _ _ (local_form level i) (
        either _ _ _ (assign_form level i) (
        either _ _ _ (expr_form level i) (
        either _ _ _ (if_form in_parens inner h within i) (
        either _ _ _ (while_form in_parens inner h within i) (
        either _ _ _ (for_form in_parens inner h within i) (
        either _ _ _ (range_for_form in_parens inner h within i) (
        either _ _ _ (return_form level i) (
        either _ _ _ (break_form within i) (
        continue_form within i))))))))))))

    pub stmt : (within : Within) → TreeStands tokens (StandsStmt tokens) (forms.stmt tokens level inner within)
    unfolding forms.stmt
    stmt within i = either _ _ _ (bracketed level inner.stmt inner.member within h.of_stmt h.of_member i) (other_stmt (level + 1) within i)

    pub sub : (within : Within) → TreeStands tokens (StandsStmt tokens) (forms.sub tokens level inner within)
    unfolding forms.sub
    sub within i = either _ _ _ (bracketed level (forms.stmt tokens level inner) (specs.member tokens level inner) within stmt (classes.member tokens level inner h) i) (other_stmt level within i)
