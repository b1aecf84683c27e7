-- Chains of operators and whole expressions stand where they were read.
use Rattle.std.proofs.Common.{ℕ, zero, suc, ◌<◌, ◌≤◌, List, [], ◌∷◌, length, Option, Some, None, refl, arith}
use Rattle.cxx_tree.specs.declared.expr.Expr.{Expr}
use Rattle.cxx_tree.specs.declared.expr.Operation.{Operation}
use Rattle.tree_stands.specs.Stands.{Stands, StandsOperation}
use Rattle.cxx_tokens.specs.declared.token.Tokens.{Tokens}
use Rattle.cxx_tokens.specs.declared.mark.TheConstants.{QUESTION, COLON}
use Rattle.cxx_reading.specs.Reading.{Rule, left, span}
use Rattle.cxx_grammar.specs.declared.parts.Arms.{Arms}
use Rattle.cxx_grammar.specs.Expressions as expressions
use Rattle.cxx_grammar.specs.Expressions.{with_operations, with_arms}
use Rattle.cxx_grammar.specs.Rules.{Rules}
use Rattle.tree_stands.proofs.Holding.{next, In, wider, Part, TreeStands, spanned, loosely, optional_stands, Optional, Listed, listed, ends_there}
use Rattle.tree_stands.proofs.Single.{takes_punctuator}
use Rattle.tree_stands.proofs.Rows.{boxed_expr, row_of_operations}
use Rattle.tree_stands.proofs.Operators.{line}
use Rattle.tree_stands.proofs.Unaries.{unary}
use Rattle.tree_stands.proofs.Deeper.{StandRules}

abbrev pub StandsArms : Tokens → ℕ → ℕ → Arms → Type 0
StandsArms tokens i j x = (k : ℕ) × In (Stands tokens) i k x.on_true × In (Stands tokens) k j x.on_false

module _ (tokens : Tokens) (deeper : Rules) (h : StandRules tokens deeper) where
  pub operation : (n : ℕ) (operand : Rule Expr) → TreeStands tokens (Stands tokens) operand → TreeStands tokens (StandsOperation tokens) (expressions.operation tokens deeper n operand)
  operation n operand g i = spanned tokens _ i _ (
      next _ _ _ _ (line tokens n i) (λ op a ha.
      next _ _ _ _ (g a) (λ x b hb.
      record {
        holds = (let rises : i < b = omega arith in let within : b ≤ length tokens.list = hb.within in
            record { rises = rises; within = within; stands = ((refl, rises, within), (a, b, omega arith, hb.stands, omega arith)) });
      })))

  -- a first operand up to a, with its operations up to b
  chained : (i a b : ℕ) (x : Expr) (xs : List Operation) → Part tokens (Stands tokens) i x a → Listed tokens (StandsOperation tokens) a xs b
      → Part tokens (Stands tokens) i (with_operations x xs (span tokens i b)) b
  chained i a b x [] hx hs = ends_there tokens (Stands tokens) i a b x hs.stays hx
  chained i a b x (s ∷ more) hx hs = let starts : i < a = hx.rises in let goes : a ≤ b = hs.all.goes in let rises : i < b = omega arith in let within : b ≤ length tokens.list = hs.all.within hx.within in
      record {
        rises = rises;
        within = within;
        stands = (
          (refl, rises, within),
          a,
          boxed_expr tokens i a x (i, a, omega arith, hx.stands, omega arith),
          row_of_operations tokens a b (s ∷ more) (hs.all.stands a b (omega arith) (omega arith)),
        );
      }

  longer_chain : (n : ℕ) → TreeStands tokens (Stands tokens) (expressions.chain tokens deeper n) → TreeStands tokens (Stands tokens) (expressions.chain tokens deeper (suc n))
  unfolding expressions.chain
  longer_chain n g i = spanned tokens _ i _ (
      next _ _ _ _ (g i) (λ x a ha.
      next _ _ _ _ (listed tokens (StandsOperation tokens) (expressions.operation tokens deeper n (expressions.chain tokens deeper n))
      (loosely tokens _ _ (operation n (expressions.chain tokens deeper n) g)) (left tokens a) a) (λ all b hb.
      record { holds = chained i a b x all ha hb })))

  first_chain : TreeStands tokens (Stands tokens) (expressions.chain tokens deeper zero)
  unfolding expressions.chain
  first_chain i = unary tokens deeper h i

  pub chain : (n : ℕ) → TreeStands tokens (Stands tokens) (expressions.chain tokens deeper n)
  chain zero = first_chain
  chain (suc n) = longer_chain n (chain n)

  pub arms : TreeStands tokens (StandsArms tokens) (expressions.arms tokens deeper)
  unfolding expressions.arms
  arms i =
      next _ _ _ _ (takes_punctuator tokens QUESTION i) (λ _ a ha.
      next _ _ _ _ (h.exprs a) (λ x b hb.
      next _ _ _ _ (takes_punctuator tokens COLON b) (λ _ c hc.
      next _ _ _ _ (h.exprs c) (λ y d hd.
      record {
        holds = (let rises : i < d = omega arith in let within : d ≤ length tokens.list = hd.within in
            record {
              rises = rises;
              within = within;
              stands = (c, (a, b, omega arith, hb.stands, omega arith), (c, d, omega arith, hd.stands, omega arith));
            });
      }))))

  -- a condition up to a, with its arms among what follows up to b
  conditional : (i a b : ℕ) (x : Expr) (arms : Arms) → i < a → a ≤ b → b ≤ length tokens.list → Stands tokens i a x → In (StandsArms tokens) a b arms
      → Part tokens (Stands tokens) i (with_arms x (Some arms) (span tokens i b)) b
  conditional i a b x arms starts goes within hx h = let rises : i < b = omega arith in let both = h.3 in
      record {
        rises = rises;
        within = within;
        stands = (
          (refl, rises, within),
          a,
          both.0,
          boxed_expr tokens i a x (i, a, omega arith, hx, omega arith),
          boxed_expr tokens a both.0 arms.on_true (wider (Stands tokens) a h.0 both.0 both.0 arms.on_true h.2 (omega arith) both.1),
          boxed_expr tokens both.0 b arms.on_false (wider (Stands tokens) both.0 both.0 h.1 b arms.on_false (omega arith) h.4 both.2),
        );
      }

  armed : (i a b : ℕ) (x : Expr) (o : Option Arms) → Part tokens (Stands tokens) i x a → Optional tokens (StandsArms tokens) a o b
      → Part tokens (Stands tokens) i (with_arms x o (span tokens i b)) b
  armed i a b x None hx hs = ends_there tokens (Stands tokens) i a b x hs.stays hx
  armed i a b x (Some arms) hx hs = conditional i a b x arms hx.rises hs.any.goes (hs.any.within hx.within) hx.stands (hs.any.stands a b (omega arith) (omega arith))

  pub expr : TreeStands tokens (Stands tokens) (expressions.expr tokens deeper)
  unfolding expressions.expr
  expr i = spanned tokens _ i _ (
      next _ _ _ _ (chain 10 i) (λ x a ha.
      next _ _ _ _ (optional_stands tokens (StandsArms tokens) _ (loosely tokens _ _ arms) a) (λ o b hb.
      record { holds = armed i a b x o ha hb })))
