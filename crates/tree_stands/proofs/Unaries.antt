-- Unary expressions stand where they were read.
use Rattle.std.proofs.Common.{ℕ, ◌<◌, ◌≤◌, length, refl, arith}
use Rattle.cxx_base.specs.declared.place.Span.{Span}
use Rattle.tree_stands.specs.Stands.{Spans, Stands, StandsType, StandsNewInit}
use Rattle.cxx_tokens.specs.declared.token.Tokens.{Tokens}
use Rattle.cxx_tokens.specs.declared.mark.TheConstants.{LEFT_PAREN, RIGHT_PAREN, LEFT_BRACKET, RIGHT_BRACKET, SCOPE, REFLECT}
use Rattle.cxx_tokens.specs.declared.keyword.TheConstants.{SIZEOF, NEW, DELETE}
use Rattle.cxx_grammar.specs.declared.parts.SizedOperand.{SizedOperand}
use Rattle.cxx_grammar.specs.declared.parts.SizedOperand.TheVariants as sized-of
use Rattle.cxx_grammar.specs.Unaries as unaries
use Rattle.cxx_grammar.specs.Unaries.{sizeof_of}
use Rattle.cxx_grammar.specs.Rules.{Rules}
use Rattle.tree_stands.proofs.Holding.{next, either, In, Takes, TreeStands, spanned, loosely, takes_later, passes_present, stands_optional}
use Rattle.tree_stands.proofs.Single.{takes_punctuator, takes_word}
use Rattle.tree_stands.proofs.Rows.{boxed_expr, boxed_type, bound_stands, init_stands}
use Rattle.tree_stands.proofs.Operators.{unary_operator}
use Rattle.tree_stands.proofs.Lists as lists
use Rattle.tree_stands.proofs.Postfixes.{postfix}
use Rattle.tree_stands.proofs.Deeper.{StandRules}

abbrev pub StandsSized : Tokens → ℕ → ℕ → SizedOperand → Type 0
StandsSized tokens i j (sized-of.«Type» x) = StandsType tokens i j x
StandsSized tokens i j (sized-of.Expr x) = Stands tokens i j x

module _ (tokens : Tokens) (deeper : Rules) (h : StandRules tokens deeper) where
  pub prefixed_form : TreeStands tokens (Stands tokens) (unaries.prefixed_form tokens deeper)
  unfolding unaries.prefixed_form
  prefixed_form i = spanned tokens _ i _ (
      next _ _ _ _ (unary_operator tokens i) (λ op a ha.
      next _ _ _ _ (h.unarys a) (λ x b hb.
      record {
        holds = (let rises : i < b = omega arith in let within : b ≤ length tokens.list = hb.within in
            record {
              rises = rises;
              within = within;
              stands = ((refl, rises, within), boxed_expr tokens i b x (a, b, omega arith, hb.stands, omega arith));
            });
      })))

  pub reflect_global : TreeStands tokens (Stands tokens) (unaries.reflect_global tokens deeper)
  unfolding unaries.reflect_global
  reflect_global i = spanned tokens _ i _ (
      next _ _ _ _ (takes_punctuator tokens REFLECT i) (λ _ a ha.
      next _ _ _ _ (takes_punctuator tokens SCOPE a) (λ _ b hb.
      record {
        holds = (let rises : i < b = omega arith in let within : b ≤ length tokens.list = hb.within in
            record {
              rises = rises;
              within = within;
              stands = (refl, rises, within);
            });
      })))

  pub reflect_type : TreeStands tokens (Stands tokens) (unaries.reflect_type tokens deeper)
  unfolding unaries.reflect_type
  reflect_type i = spanned tokens _ i _ (
      next _ _ _ _ (takes_punctuator tokens REFLECT i) (λ _ a ha.
      next _ _ _ _ (h.types a) (λ t b hb.
      record {
        holds = (let rises : i < b = omega arith in let within : b ≤ length tokens.list = hb.within in
            record {
              rises = rises;
              within = within;
              stands = ((refl, rises, within), boxed_type tokens i b t (a, b, omega arith, hb.stands, omega arith));
            });
      })))

  pub reflect_form : TreeStands tokens (Stands tokens) (unaries.reflect_form tokens deeper)
  unfolding unaries.reflect_form
  reflect_form i = either _ _ _ (reflect_global i) (reflect_type i)

  pub sized_type : TreeStands tokens (StandsSized tokens) (unaries.sized_type tokens deeper)
  unfolding unaries.sized_type
  sized_type i = next _ _ _ _ (h.types i) (λ x a ha. record { holds = record { rises = ha.rises; within = ha.within; stands = ha.stands } })

  pub sized_expr : TreeStands tokens (StandsSized tokens) (unaries.sized_expr tokens deeper)
  unfolding unaries.sized_expr
  sized_expr i = next _ _ _ _ (h.exprs i) (λ x a ha. record { holds = record { rises = ha.rises; within = ha.within; stands = ha.stands } })

  pub sized : TreeStands tokens (StandsSized tokens) (unaries.sized tokens deeper)
  unfolding unaries.sized
  sized i = either _ _ _ (sized_type i) (sized_expr i)

  sizeof_stands : (i k : ℕ) (x : SizedOperand) (s : Span) → Spans tokens i k s → In (StandsSized tokens) i k x → Stands tokens i k (sizeof_of x s)
  sizeof_stands i k (sized-of.«Type» x) s hs hx = (hs, boxed_type tokens i k x hx)
  sizeof_stands i k (sized-of.Expr x) s hs hx = (hs, boxed_expr tokens i k x hx)

  pub sizeof_form : TreeStands tokens (Stands tokens) (unaries.sizeof_form tokens deeper)
  unfolding unaries.sizeof_form
  sizeof_form i = spanned tokens _ i _ (
      next _ _ _ _ (takes_word tokens SIZEOF i) (λ _ a ha.
      next _ _ _ _ (takes_punctuator tokens LEFT_PAREN a) (λ _ b hb.
      next _ _ _ _ (sized b) (λ x c hc.
      next _ _ _ _ (takes_punctuator tokens RIGHT_PAREN c) (λ _ d hd.
      record {
        holds = (let rises : i < d = omega arith in let within : d ≤ length tokens.list = hd.within in
            record {
              rises = rises;
              within = within;
              stands = sizeof_stands i d x _ (refl, rises, within) (b, c, omega arith, hc.stands, omega arith);
            });
      })))))

  pub empty_brackets : Takes tokens (unaries.empty_brackets tokens deeper)
  unfolding unaries.empty_brackets
  empty_brackets i = next _ _ _ _ (takes_punctuator tokens LEFT_BRACKET i) (λ _ a ha. takes_later tokens i a _ (omega arith) (takes_punctuator tokens RIGHT_BRACKET a))

  pub delete_form : TreeStands tokens (Stands tokens) (unaries.delete_form tokens deeper)
  unfolding unaries.delete_form
  delete_form i = spanned tokens _ i _ (
      next _ _ _ _ (takes_word tokens DELETE i) (λ _ a ha.
      next _ _ _ _ (passes_present tokens _ empty_brackets a) (λ _ b hb.
      next _ _ _ _ (h.unarys b) (λ x c hc.
      record {
        holds = (let rises : i < c = omega arith in let within : c ≤ length tokens.list = hc.within in
            record {
              rises = rises;
              within = within;
              stands = ((refl, rises, within), boxed_expr tokens i c x (b, c, omega arith, hc.stands, omega arith));
            });
      }))))

  pub new_bound : TreeStands tokens (In (Stands tokens)) (unaries.new_bound tokens deeper)
  unfolding unaries.new_bound
  new_bound i =
      next _ _ _ _ (takes_punctuator tokens LEFT_BRACKET i) (λ _ a ha.
      next _ _ _ _ (h.exprs a) (λ x b hb.
      next _ _ _ _ (takes_punctuator tokens RIGHT_BRACKET b) (λ _ c hc.
      record {
        holds = (let rises : i < c = omega arith in let within : c ≤ length tokens.list = hc.within in
            record {
              rises = rises;
              within = within;
              stands = (a, b, omega arith, hb.stands, omega arith);
            });
      })))

  pub init_args : TreeStands tokens (StandsNewInit tokens) (unaries.init_args tokens deeper)
  unfolding unaries.init_args
  init_args i = next _ _ _ _ (lists.args tokens deeper h i) (λ x a ha. record { holds = record { rises = ha.rises; within = ha.within; stands = ha.stands } })

  pub init_braced : TreeStands tokens (StandsNewInit tokens) (unaries.init_braced tokens deeper)
  unfolding unaries.init_braced
  init_braced i = next _ _ _ _ (lists.braced tokens deeper h i) (λ x a ha. record { holds = record { rises = ha.rises; within = ha.within; stands = ha.stands } })

  pub new_init : TreeStands tokens (StandsNewInit tokens) (unaries.new_init tokens deeper)
  unfolding unaries.new_init
  new_init i = either _ _ _ (init_args i) (init_braced i)

  pub new_form : TreeStands tokens (Stands tokens) (unaries.new_form tokens deeper)
  unfolding unaries.new_form
  new_form i = spanned tokens _ i _ (
      next _ _ _ _ (takes_word tokens NEW i) (λ _ a ha.
      next _ _ _ _ (h.types a) (λ t b hb.
      next _ _ _ _ (stands_optional tokens _ _ new_bound b) (λ x c hc.
      next _ _ _ _ (stands_optional tokens _ _ (loosely tokens _ _ new_init) c) (λ y d hd.
      record {
        holds = (let rises : i < d = omega arith in let within : d ≤ length tokens.list = hd.within (hc.within hb.within) in
            record {
              rises = rises;
              within = within;
              stands = ((refl, rises, within), b, c, boxed_type tokens i b t (a, b, omega arith, hb.stands, omega arith), bound_stands tokens b c x (hc.stands b c (omega arith) (omega arith)), init_stands tokens c d y (hd.stands c d (omega arith) (omega arith)));
            });
      })))))

  pub unary : TreeStands tokens (Stands tokens) (unaries.unary tokens deeper)
  unfolding unaries.unary
  unary i =
      either _ _ _ (prefixed_form i) (
      either _ _ _ (reflect_form i) (
      either _ _ _ (sizeof_form i) (
      either _ _ _ (delete_form i) (
      either _ _ _ (new_form i) (
      postfix tokens deeper h i)))))
