-- Names stand where they were read.
use Rattle.std.proofs.Common.{ℕ, ◌<◌, ◌≤◌, List, [], length, arith, refl}
use Rattle.cxx_base.specs.declared.library.TheConstants.{STD, VECTOR}
use Rattle.cxx_tree.specs.declared.identifier.Identifier.{Identifier}
use Rattle.tree_stands.specs.Stands.{InOrder, StandsIdentifier, StandsName}
use Rattle.cxx_tokens.specs.declared.token.Tokens.{Tokens}
use Rattle.cxx_tokens.specs.declared.mark.TheConstants.{SCOPE, LESS}
use Rattle.cxx_reading.specs.Reading.{left}
use Rattle.cxx_grammar.specs.Names as names
use Rattle.tree_stands.proofs.Holding.{Where, next, otherwise, In, Took, Group, Takes, TreeStands, spanned, later, takes_later, passes_present, no_part, stand_repeated}
use Rattle.tree_stands.proofs.Single.{where_guard, takes_punctuator, identifier_stands}

module _ (tokens : Tokens) where
  pub named : (n : ℕ) → Takes tokens (names.named tokens n)
  unfolding names.named
  named n i = next _ _ _ _ (identifier_stands tokens i) (λ x a ha. where_guard (λ k. Took tokens i k) _ a (record { rises = ha.rises; within = ha.within }))

  pub vector_head : Takes tokens (names.vector_head tokens)
  unfolding names.vector_head
  vector_head i =
      next _ _ _ _ (named STD.0 i) (λ _ a ha.
      next _ _ _ _ (takes_punctuator tokens SCOPE a) (λ _ b hb.
      next _ _ _ _ (named VECTOR.0 b) (λ _ c hc.
      takes_later tokens i c _ (omega arith) (takes_punctuator tokens LESS c))))

  pub part : TreeStands tokens (In (StandsIdentifier tokens)) (names.part tokens)
  unfolding names.part
  part i = next _ _ _ _ (takes_punctuator tokens SCOPE i) (λ _ a ha. later tokens (StandsIdentifier tokens) i a _ (omega arith) (identifier_stands tokens a))

  pub parts : (first : ℕ) (xs : List Identifier) (i : ℕ) → Group tokens (InOrder (StandsIdentifier tokens)) first xs i
      → Where (λ ys k. Group tokens (InOrder (StandsIdentifier tokens)) first ys k) (names.parts tokens xs i)
  unfolding names.parts
  parts first xs i now = stand_repeated tokens (StandsIdentifier tokens) (names.part tokens) part first (left tokens i) xs i now

  pub any_name : TreeStands tokens (StandsName tokens) (names.any_name tokens)
  unfolding names.any_name
  any_name i = spanned tokens _ i _ (
      next _ _ _ _ (passes_present tokens _ (takes_punctuator tokens SCOPE) i) (λ rooted a ha.
      next _ _ _ _ (identifier_stands tokens a) (λ first_part b hb.
      next _ _ _ _ (parts b [] b (no_part tokens (StandsIdentifier tokens) b)) (λ more c hc.
      record {
        holds = (let rises : i < c = omega arith in let within : c ≤ length tokens.list = hc.within hb.within in
            record {
              rises = rises;
              within = within;
              stands = ((refl, rises, within), b, (a, b, omega arith, hb.stands, omega arith), hc.stands b c (omega arith) (omega arith));
            });
      }))))

  pub name : TreeStands tokens (StandsName tokens) (names.name tokens)
  unfolding names.name
  name i = otherwise _ _ _ (any_name i)
