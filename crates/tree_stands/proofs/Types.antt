-- Types and splices stand where they were read.
use Rattle.std.proofs.Common.{ℕ, ◌<◌, ◌≤◌, Bool, List, [], length, refl, arith}
use Rattle.tree_stands.specs.Stands.{StandsSplice, StandsBasic, StandsType}
use Rattle.cxx_tokens.specs.declared.token.Tokens.{Tokens}
use Rattle.cxx_tokens.specs.declared.mark.TheConstants.{LEFT_SPLICE, RIGHT_SPLICE, STAR, AMPERSAND, GREATER}
use Rattle.cxx_tokens.specs.declared.keyword.TheConstants.{CONST, TYPENAME}
use Rattle.cxx_reading.specs.Reading.{left}
use Rattle.cxx_grammar.specs.Types as types
use Rattle.cxx_grammar.specs.Rules.{Rules}
use Rattle.tree_stands.proofs.Holding.{Where, next, so, either, Took, Passed, Takes, TreeStands, spanned, passes_present, passes_repeated}
use Rattle.tree_stands.proofs.Single.{takes_punctuator, takes_word}
use Rattle.tree_stands.proofs.Rows.{boxed_expr}
use Rattle.tree_stands.proofs.Names as names
use Rattle.tree_stands.proofs.Fundamentals as fundamentals
use Rattle.tree_stands.proofs.Deeper.{StandRules}

module _ (tokens : Tokens) where
  pub pointer : Takes tokens (types.pointer tokens)
  unfolding types.pointer
  pointer i = next _ _ _ _ (takes_punctuator tokens STAR i) (λ _ a ha. so (λ _ k. Passed tokens a k) (λ _ k. Took tokens i k) _ (passes_present tokens _ (takes_word tokens CONST) a)
      (λ _ k hk. record { rises = omega arith; within = hk.within ha.within }))

  one_pointer : (found : List Bool) → Takes tokens (types.pointers_on tokens found)
  one_pointer found i = next _ _ _ _ (pointer i) (λ _ a ha. record { holds = ha })

  pub pointers : (found : List Bool) (i : ℕ) → Where (λ x k. Passed tokens i k) (types.pointers tokens found i)
  unfolding types.pointers
  pointers found i = passes_repeated tokens (types.pointers_on tokens) one_pointer (left tokens i) found i

  pub basic_fund : TreeStands tokens (StandsBasic tokens) (types.basic_fund tokens)
  unfolding types.basic_fund
  basic_fund i = spanned tokens _ i _ (
      next _ _ _ _ (fundamentals.fund tokens i) (λ f a ha.
      record {
        holds = (let rises : i < a = omega arith in let within : a ≤ length tokens.list = ha.within in
            record {
              rises = rises;
              within = within;
              stands = (refl, rises, within);
            });
      }))

  pub basic_name : TreeStands tokens (StandsBasic tokens) (types.basic_name tokens)
  unfolding types.basic_name
  basic_name i = next _ _ _ _ (names.name tokens i) (λ x a ha. record { holds = record { rises = ha.rises; within = ha.within; stands = ha.stands } })

  pub basic_vector : TreeStands tokens (StandsBasic tokens) (types.basic_vector tokens)
  unfolding types.basic_vector
  basic_vector i = spanned tokens _ i _ (
      next _ _ _ _ (names.vector_head tokens i) (λ _ a ha.
      next _ _ _ _ (names.name tokens a) (λ n b hb.
      next _ _ _ _ (takes_punctuator tokens GREATER b) (λ _ c hc.
      record {
        holds = (let rises : i < c = omega arith in let within : c ≤ length tokens.list = hc.within in
            record {
              rises = rises;
              within = within;
              stands = ((refl, rises, within), (a, b, omega arith, hb.stands, omega arith));
            });
      }))))

  module _ (deeper : Rules) (h : StandRules tokens deeper) where
    pub splice : TreeStands tokens (StandsSplice tokens) (types.splice tokens deeper)
    unfolding types.splice
    splice i = spanned tokens _ i _ (
        next _ _ _ _ (takes_punctuator tokens LEFT_SPLICE i) (λ _ a ha.
        next _ _ _ _ (h.exprs a) (λ x b hb.
        next _ _ _ _ (takes_punctuator tokens RIGHT_SPLICE b) (λ _ c hc.
        record {
          holds = (let rises : i < c = omega arith in let within : c ≤ length tokens.list = hc.within in
              record {
                rises = rises;
                within = within;
                stands = ((refl, rises, within), boxed_expr tokens i c x (a, b, omega arith, hb.stands, omega arith));
              });
        }))))

    pub basic_typename : TreeStands tokens (StandsBasic tokens) (types.basic_typename tokens deeper)
    unfolding types.basic_typename
    basic_typename i = spanned tokens _ i _ (
        next _ _ _ _ (takes_word tokens TYPENAME i) (λ _ a ha.
        next _ _ _ _ (splice a) (λ x b hb.
        record {
          holds = (let rises : i < b = omega arith in let within : b ≤ length tokens.list = hb.within in
              record {
                rises = rises;
                within = within;
                stands = ((refl, rises, within), (a, b, omega arith, hb.stands, omega arith));
              });
        })))

    pub basic : TreeStands tokens (StandsBasic tokens) (types.basic tokens deeper)
    unfolding types.basic
    basic i =
        either _ _ _ (basic_fund i) (
        either _ _ _ (basic_name i) (
        either _ _ _ (basic_typename i) (
        basic_vector i)))

    pub type_tree : TreeStands tokens (StandsType tokens) (types.type_tree tokens deeper)
    unfolding types.type_tree
    type_tree i = spanned tokens _ i _ (
        next _ _ _ _ (passes_present tokens _ (takes_word tokens CONST) i) (λ _ a ha.
        next _ _ _ _ (basic a) (λ t b hb.
        next _ _ _ _ (passes_present tokens _ (takes_word tokens CONST) b) (λ _ c hc.
        next _ _ _ _ (pointers [] c) (λ all d hd.
        next _ _ _ _ (passes_present tokens _ (takes_punctuator tokens AMPERSAND) d) (λ _ e he.
        record {
          holds = (let rises : i < e = omega arith in let within : e ≤ length tokens.list = he.within (hd.within (hc.within hb.within)) in
              record {
                rises = rises;
                within = within;
                stands = ((refl, rises, within), (a, b, omega arith, hb.stands, omega arith));
              });
        }))))))
