-- Primary expressions stand where they were read.
use Rattle.std.proofs.Common.{ℕ, ◌<◌, ◌≤◌, length, refl, arith}
use Rattle.cxx_tree.specs.declared.identifier.NameTree.{NameTree}
use Rattle.cxx_tree.specs.declared.expr.Expr.TheVariants as expr-of
use Rattle.tree_stands.specs.Stands.{Stands, StandsName}
use Rattle.cxx_tokens.specs.declared.token.Tokens.{Tokens}
use Rattle.cxx_tokens.specs.declared.mark.TheConstants.{LEFT_PAREN, RIGHT_PAREN, LESS, GREATER}
use Rattle.cxx_tokens.specs.declared.keyword.TheConstants.{TRUE, FALSE, NULLPTR, THIS, TYPENAME, STATIC_CAST}
use Rattle.cxx_reading.specs.Reading.{Tree, No, Nothing, span}
use Rattle.cxx_grammar.specs.Names.{extracts}
use Rattle.cxx_grammar.specs.Primaries as primaries
use Rattle.cxx_grammar.specs.Rules.{Rules}
use Rattle.tree_stands.proofs.Holding.{Where, next, either, one_of, Part, TreeStands, spanned}
use Rattle.tree_stands.proofs.Single.{takes_punctuator, takes_word, takes_integer, takes_character, takes_text}
use Rattle.tree_stands.proofs.Rows.{boxed_expr, boxed_basic, boxed_braced, boxed_args, boxed_type}
use Rattle.tree_stands.proofs.Names as names
use Rattle.tree_stands.proofs.Fundamentals as fundamentals
use Rattle.tree_stands.proofs.Types as types
use Rattle.tree_stands.proofs.Lists as lists
use Rattle.tree_stands.proofs.Deeper.{StandRules}

module _ (tokens : Tokens) where
  pub integer_form : TreeStands tokens (Stands tokens) (primaries.integer_form tokens)
  unfolding primaries.integer_form
  integer_form i = spanned tokens _ i _ (
      next _ _ _ _ (takes_integer tokens i) (λ n a ha.
      record {
        holds = (let rises : i < a = omega arith in let within : a ≤ length tokens.list = ha.within in
            record {
              rises = rises;
              within = within;
              stands = (refl, rises, within);
            });
      }))

  pub character_form : TreeStands tokens (Stands tokens) (primaries.character_form tokens)
  unfolding primaries.character_form
  character_form i = spanned tokens _ i _ (
      next _ _ _ _ (takes_character tokens i) (λ n a ha.
      record {
        holds = (let rises : i < a = omega arith in let within : a ≤ length tokens.list = ha.within in
            record {
              rises = rises;
              within = within;
              stands = (refl, rises, within);
            });
      }))

  pub text_form : TreeStands tokens (Stands tokens) (primaries.text_form tokens)
  unfolding primaries.text_form
  text_form i = spanned tokens _ i _ (
      next _ _ _ _ (takes_text tokens i) (λ n a ha.
      record {
        holds = (let rises : i < a = omega arith in let within : a ≤ length tokens.list = ha.within in
            record {
              rises = rises;
              within = within;
              stands = (refl, rises, within);
            });
      }))

  pub true_form : TreeStands tokens (Stands tokens) (primaries.true_form tokens)
  unfolding primaries.true_form
  true_form i = spanned tokens _ i _ (
      next _ _ _ _ (takes_word tokens TRUE i) (λ _ a ha.
      record {
        holds = (let rises : i < a = omega arith in let within : a ≤ length tokens.list = ha.within in
            record {
              rises = rises;
              within = within;
              stands = (refl, rises, within);
            });
      }))

  pub false_form : TreeStands tokens (Stands tokens) (primaries.false_form tokens)
  unfolding primaries.false_form
  false_form i = spanned tokens _ i _ (
      next _ _ _ _ (takes_word tokens FALSE i) (λ _ a ha.
      record {
        holds = (let rises : i < a = omega arith in let within : a ≤ length tokens.list = ha.within in
            record {
              rises = rises;
              within = within;
              stands = (refl, rises, within);
            });
      }))

  pub nullptr_form : TreeStands tokens (Stands tokens) (primaries.nullptr_form tokens)
  unfolding primaries.nullptr_form
  nullptr_form i = spanned tokens _ i _ (
      next _ _ _ _ (takes_word tokens NULLPTR i) (λ _ a ha.
      record {
        holds = (let rises : i < a = omega arith in let within : a ≤ length tokens.list = ha.within in
            record {
              rises = rises;
              within = within;
              stands = (refl, rises, within);
            });
      }))

  pub this_form : TreeStands tokens (Stands tokens) (primaries.this_form tokens)
  unfolding primaries.this_form
  this_form i = spanned tokens _ i _ (
      next _ _ _ _ (takes_word tokens THIS i) (λ _ a ha.
      record {
        holds = (let rises : i < a = omega arith in let within : a ≤ length tokens.list = ha.within in
            record {
              rises = rises;
              within = within;
              stands = (refl, rises, within);
            });
      }))

  pub name_form : TreeStands tokens (Stands tokens) (primaries.name_form tokens)
  unfolding primaries.name_form
  name_form i = next _ _ _ _ (names.name tokens i) (λ n a ha. one_of (λ x k. Part tokens (Stands tokens) i x k) (extracts tokens n a) (No Nothing) (Tree (expr-of.Name n) a)
      (record { holds = tt }) (record { holds = record { rises = ha.rises; within = ha.within; stands = ha.stands } }))

  module _ (deeper : Rules) (h : StandRules tokens deeper) where
    pub paren_form : TreeStands tokens (Stands tokens) (primaries.paren_form tokens deeper)
    unfolding primaries.paren_form
    paren_form i = spanned tokens _ i _ (
        next _ _ _ _ (takes_punctuator tokens LEFT_PAREN i) (λ _ a ha.
        next _ _ _ _ (h.exprs a) (λ x b hb.
        next _ _ _ _ (takes_punctuator tokens RIGHT_PAREN b) (λ _ c hc.
        record {
          holds = (let rises : i < c = omega arith in let within : c ≤ length tokens.list = hc.within in
              record {
                rises = rises;
                within = within;
                stands = ((refl, rises, within), boxed_expr tokens i c x (a, b, omega arith, hb.stands, omega arith));
              });
        }))))

    pub splice_form : TreeStands tokens (Stands tokens) (primaries.splice_form tokens deeper)
    unfolding primaries.splice_form
    splice_form i = next _ _ _ _ (types.splice tokens deeper h i) (λ x a ha. record { holds = record { rises = ha.rises; within = ha.within; stands = ha.stands } })

    pub braced_form : TreeStands tokens (Stands tokens) (primaries.braced_form tokens deeper)
    unfolding primaries.braced_form
    braced_form i = spanned tokens _ i _ (
        next _ _ _ _ (types.basic tokens deeper h i) (λ t a ha.
        next _ _ _ _ (lists.braced tokens deeper h a) (λ x b hb.
        record {
          holds = (let rises : i < b = omega arith in let within : b ≤ length tokens.list = hb.within in
              record {
                rises = rises;
                within = within;
                stands = ((refl, rises, within), a, boxed_basic tokens i a t (i, a, omega arith, ha.stands, omega arith), boxed_braced tokens a b x (a, b, omega arith, hb.stands, omega arith));
              });
        })))

    pub fund_call_form : TreeStands tokens (Stands tokens) (primaries.fund_call_form tokens deeper)
    unfolding primaries.fund_call_form
    fund_call_form i = spanned tokens _ i _ (
        next _ _ _ _ (fundamentals.fund tokens i) (λ t a ha.
        next _ _ _ _ (lists.args tokens deeper h a) (λ x b hb.
        record {
          holds = (let rises : i < b = omega arith in let within : b ≤ length tokens.list = hb.within in
              record {
                rises = rises;
                within = within;
                stands = ((refl, rises, within), (a, b, omega arith, hb.stands, omega arith));
              });
        })))

    pub typename_call_form : TreeStands tokens (Stands tokens) (primaries.typename_call_form tokens deeper)
    unfolding primaries.typename_call_form
    typename_call_form i = spanned tokens _ i _ (
        next _ _ _ _ (takes_word tokens TYPENAME i) (λ _ a ha.
        next _ _ _ _ (types.splice tokens deeper h a) (λ t b hb.
        next _ _ _ _ (lists.args tokens deeper h b) (λ x c hc.
        record {
          holds = (let rises : i < c = omega arith in let within : c ≤ length tokens.list = hc.within in
              record {
                rises = rises;
                within = within;
                stands = ((refl, rises, within), b, (a, b, omega arith, hb.stands, omega arith), boxed_args tokens b c x (b, c, omega arith, hc.stands, omega arith));
              });
        }))))

    pub cast_form : TreeStands tokens (Stands tokens) (primaries.cast_form tokens deeper)
    unfolding primaries.cast_form
    cast_form i = spanned tokens _ i _ (
        next _ _ _ _ (takes_word tokens STATIC_CAST i) (λ _ a ha.
        next _ _ _ _ (takes_punctuator tokens LESS a) (λ _ b hb.
        next _ _ _ _ (types.type_tree tokens deeper h b) (λ t c hc.
        next _ _ _ _ (takes_punctuator tokens GREATER c) (λ _ d hd.
        next _ _ _ _ (takes_punctuator tokens LEFT_PAREN d) (λ _ e he.
        next _ _ _ _ (h.exprs e) (λ x f hf.
        next _ _ _ _ (takes_punctuator tokens RIGHT_PAREN f) (λ _ g hg.
        record {
          holds = (let rises : i < g = omega arith in let within : g ≤ length tokens.list = hg.within in
              record {
                rises = rises;
                within = within;
                stands = ((refl, rises, within), e, boxed_type tokens i e t (b, c, omega arith, hc.stands, omega arith), boxed_expr tokens e g x (e, f, omega arith, hf.stands, omega arith));
              });
        }))))))))

    -- what follows a name that ends at j
    extract_of : (i j : ℕ) (n : NameTree) → Part tokens (StandsName tokens) i n j
        → Where (λ f k. Part tokens (Stands tokens) i (f (span tokens i k)) k) (primaries.extract_of tokens deeper n j)
    extract_of i j n hn =
        next _ _ _ _ (takes_punctuator tokens LESS j) (λ _ a ha.
        next _ _ _ _ (types.type_tree tokens deeper h a) (λ t b hb.
        next _ _ _ _ (takes_punctuator tokens GREATER b) (λ _ c hc.
        next _ _ _ _ (takes_punctuator tokens LEFT_PAREN c) (λ _ d hd.
        next _ _ _ _ (h.exprs d) (λ x e he.
        next _ _ _ _ (takes_punctuator tokens RIGHT_PAREN e) (λ _ f hf.
        record {
          holds = (let rises : i < f = omega arith in let within : f ≤ length tokens.list = hf.within in
              record {
                rises = rises;
                within = within;
                stands = (
                  (refl, rises, within),
                  a,
                  d,
                  (i, j, omega arith, hn.stands, omega arith),
                  boxed_type tokens a d t (a, b, omega arith, hb.stands, omega arith),
                  boxed_expr tokens d f x (d, e, omega arith, he.stands, omega arith),
                );
              });
        }))))))

    pub extract_form : TreeStands tokens (Stands tokens) (primaries.extract_form tokens deeper)
    unfolding primaries.extract_form
    extract_form i = spanned tokens _ i _ (next _ _ _ _ (names.name tokens i) (λ n a ha.
        one_of (λ f k. Part tokens (Stands tokens) i (f (span tokens i k)) k) (extracts tokens n a) (primaries.extract_of tokens deeper n a) (No Nothing) (extract_of i a n ha) (record { holds = tt })))

    pub primary : TreeStands tokens (Stands tokens) (primaries.primary tokens deeper)
    unfolding primaries.primary
    primary i =
        either _ _ _ (integer_form i) (
        either _ _ _ (character_form i) (
        either _ _ _ (text_form i) (
        either _ _ _ (true_form i) (
        either _ _ _ (false_form i) (
        either _ _ _ (nullptr_form i) (
        either _ _ _ (this_form i) (
        either _ _ _ (name_form i) (
        either _ _ _ (paren_form i) (
        either _ _ _ (splice_form i) (
        either _ _ _ (braced_form i) (
        either _ _ _ (fund_call_form i) (
        either _ _ _ (typename_call_form i) (
        either _ _ _ (cast_form i) (
        extract_form i))))))))))))))
