-- Postfix expressions stand where they were read.
use Rattle.std.proofs.Common.{ℕ, ◌<◌, ◌≤◌, List, [], ◌∷◌, length, refl, arith}
use Rattle.cxx_tree.specs.declared.expr.Expr.{Expr}
use Rattle.cxx_tree.specs.declared.expr.Suffix.{Suffix}
use Rattle.tree_stands.specs.Stands.{Stands, StandsSuffix}
use Rattle.cxx_tokens.specs.declared.token.Tokens.{Tokens}
use Rattle.cxx_tokens.specs.declared.mark.TheConstants.{LEFT_BRACKET, RIGHT_BRACKET}
use Rattle.cxx_reading.specs.Reading.{left, span}
use Rattle.cxx_grammar.specs.Postfixes as postfixes
use Rattle.cxx_grammar.specs.Postfixes.{with_suffixes}
use Rattle.cxx_grammar.specs.Rules.{Rules}
use Rattle.tree_stands.proofs.Holding.{Where, next, either, Part, TreeStands, spanned, loosely, Listed, listed, ends_there}
use Rattle.tree_stands.proofs.Single.{takes_punctuator, identifier_stands}
use Rattle.tree_stands.proofs.Rows.{boxed_expr, row_of_suffixes}
use Rattle.tree_stands.proofs.Operators.{arrow}
use Rattle.tree_stands.proofs.Types as types
use Rattle.tree_stands.proofs.Lists as lists
use Rattle.tree_stands.proofs.Primaries.{primary}
use Rattle.tree_stands.proofs.Deeper.{StandRules}

module _ (tokens : Tokens) (deeper : Rules) (h : StandRules tokens deeper) where
  pub call_suffix : TreeStands tokens (StandsSuffix tokens) (postfixes.call_suffix tokens deeper)
  unfolding postfixes.call_suffix
  call_suffix i = next _ _ _ _ (lists.args tokens deeper h i) (λ x a ha. record { holds = record { rises = ha.rises; within = ha.within; stands = ha.stands } })

  pub subscript_suffix : TreeStands tokens (StandsSuffix tokens) (postfixes.subscript_suffix tokens deeper)
  unfolding postfixes.subscript_suffix
  subscript_suffix i = spanned tokens _ i _ (
      next _ _ _ _ (takes_punctuator tokens LEFT_BRACKET i) (λ _ a ha.
      next _ _ _ _ (h.exprs a) (λ x b hb.
      next _ _ _ _ (takes_punctuator tokens RIGHT_BRACKET b) (λ _ c hc.
      record {
        holds = (let rises : i < c = omega arith in let within : c ≤ length tokens.list = hc.within in
            record {
              rises = rises;
              within = within;
              stands = ((refl, rises, within), boxed_expr tokens i c x (a, b, omega arith, hb.stands, omega arith));
            });
      }))))

  pub member_suffix : TreeStands tokens (StandsSuffix tokens) (postfixes.member_suffix tokens deeper)
  unfolding postfixes.member_suffix
  member_suffix i = spanned tokens _ i _ (
      next _ _ _ _ (arrow tokens i) (λ is_arrow a ha.
      next _ _ _ _ (identifier_stands tokens a) (λ n b hb.
      record {
        holds = (let rises : i < b = omega arith in let within : b ≤ length tokens.list = hb.within in
            record {
              rises = rises;
              within = within;
              stands = ((refl, rises, within), (a, b, omega arith, hb.stands, omega arith));
            });
      })))

  pub member_splice_suffix : TreeStands tokens (StandsSuffix tokens) (postfixes.member_splice_suffix tokens deeper)
  unfolding postfixes.member_splice_suffix
  member_splice_suffix i = spanned tokens _ i _ (
      next _ _ _ _ (arrow tokens i) (λ is_arrow a ha.
      next _ _ _ _ (types.splice tokens deeper h a) (λ x b hb.
      record {
        holds = (let rises : i < b = omega arith in let within : b ≤ length tokens.list = hb.within in
            record {
              rises = rises;
              within = within;
              stands = ((refl, rises, within), (a, b, omega arith, hb.stands, omega arith));
            });
      })))

  pub suffix : TreeStands tokens (StandsSuffix tokens) (postfixes.suffix tokens deeper)
  unfolding postfixes.suffix
  suffix i = either _ _ _ (call_suffix i) (either _ _ _ (subscript_suffix i) (either _ _ _ (member_suffix i) (member_splice_suffix i)))

  suffixes : (i : ℕ) → Where (λ xs k. Listed tokens (StandsSuffix tokens) i xs k) (postfixes.suffixes tokens deeper [] i)
  unfolding postfixes.suffixes
  suffixes i = listed tokens (StandsSuffix tokens) (postfixes.suffix tokens deeper) (loosely tokens _ _ suffix) (left tokens i) i

  -- a primary expression up to a, with its suffixes up to b
  suffixed : (i a b : ℕ) (x : Expr) (xs : List Suffix) → Part tokens (Stands tokens) i x a → Listed tokens (StandsSuffix tokens) a xs b
      → Part tokens (Stands tokens) i (with_suffixes x xs (span tokens i b)) b
  suffixed i a b x [] hx hs = ends_there tokens (Stands tokens) i a b x hs.stays hx
  suffixed i a b x (s ∷ more) hx hs = let starts : i < a = hx.rises in let goes : a ≤ b = hs.all.goes in let rises : i < b = omega arith in let within : b ≤ length tokens.list = hs.all.within hx.within in
      record {
        rises = rises;
        within = within;
        stands = (
          (refl, rises, within),
          a,
          boxed_expr tokens i a x (i, a, omega arith, hx.stands, omega arith),
          row_of_suffixes tokens a b (s ∷ more) (hs.all.stands a b (omega arith) (omega arith)),
        );
      }

  pub postfix : TreeStands tokens (Stands tokens) (postfixes.postfix tokens deeper)
  unfolding postfixes.postfix
  postfix i = spanned tokens _ i _ (
      next _ _ _ _ (primary tokens deeper h i) (λ x a ha.
      next _ _ _ _ (suffixes a) (λ all b hb.
      record { holds = suffixed i a b x all ha hb })))
