-- The laws, from what holds of the rules.
use Rattle.std.proofs.Common.{◌≡◌, ℕ, ◌<◌, ◌≤◌, length}
use Rattle.cxx_tokens.specs.declared.token.Tokens.{Tokens}
use Rattle.cxx_reading.specs.Reading.{End, Tree, Rule}
use Rattle.cxx_grammar.specs.Nesting.{read_nests}
use Rattle.tree_stands.specs.Laws.{StandsWhereRead, ExpressionsStand, StatementsStand, DeclarationsStand}
use Rattle.tree_stands.proofs.Holding.{Where, Part, TreeStands}
use Rattle.tree_stands.proofs.Levels as levels
use Rattle.tree_stands.proofs.Locals as locals
use Rattle.tree_stands.proofs.Declarations as decls
use Rattle.tree_stands.proofs.Classes as classes
use Rattle.tree_stands.proofs.Nesting.{at_level, declared}
use Rattle.tree_stands.proofs.Units.{item_stands}

module _ (tokens : Tokens) where
  read_part : {A : Type 0} (StandsAt : ℕ → ℕ → A → Type 0) (i k : ℕ) (x : A) (e : End A) → Where (λ y m. Part tokens StandsAt i y m) e → e ≡ Tree x k
      → Part tokens StandsAt i x k
  read_part StandsAt i k x e h g = let f : Where (λ y m. Part tokens StandsAt i y m) (Tree x k) = rw g at h in f.holds

  stands_there : {A : Type 0} (StandsAt : ℕ → ℕ → A → Type 0) (i k : ℕ) (x : A) → Part tokens StandsAt i x k → StandsAt i k x × (i < k) × (k ≤ length tokens.list)
  stands_there StandsAt i k x h = (h.stands, h.rises, h.within)

  where_read : {A : Type 0} (StandsAt : ℕ → ℕ → A → Type 0) (rule : Rule A) → TreeStands tokens StandsAt rule → StandsWhereRead tokens StandsAt rule
  where_read StandsAt rule h i k x e = stands_there StandsAt i k x (read_part StandsAt i k x (rule i) (h i) e)

  pub expressions_stand : ExpressionsStand tokens
  expressions_stand = record {
    of_name = λ level. where_read _ _ (levels.at_name tokens level);
    of_type = λ level. where_read _ _ (levels.at_type tokens level);
    of_splice = λ level. where_read _ _ (levels.at_splice tokens level);
    of_args = λ level. where_read _ _ (levels.at_args tokens level);
    of_braced = λ level. where_read _ _ (levels.at_braced tokens level);
    of_unary = λ level. where_read _ _ (levels.at_unary tokens level);
    of_expr = λ level. where_read _ _ (levels.at_expr tokens level);
  }

  pub statements_stand : StatementsStand tokens
  statements_stand = record {
    of_local = λ level. where_read _ _ (locals.local tokens level);
    of_assign = λ level. where_read _ _ (locals.assign tokens level);
    of_assert = λ level. where_read _ _ (locals.assert tokens level);
    of_alias = λ level. where_read _ _ (locals.alias tokens level);
    of_stmt = λ level within. where_read _ _ ((at_level tokens level).of_stmt within);
    of_sub = λ level within. where_read _ _ ((at_level tokens level).of_sub within);
    of_body = λ level within. where_read _ _ (decls.body tokens ((read_nests tokens level).stmt within) ((at_level tokens level).of_stmt within));
  }

  pub declarations_stand : DeclarationsStand tokens
  declarations_stand = record {
    of_namespace_alias = λ level. where_read _ _ (decls.namespace_alias tokens level);
    of_enumeration = λ level. where_read _ _ (decls.enumeration tokens level);
    of_variable = λ level in_class. where_read _ _ (decls.variable tokens level in_class);
    of_function = λ level inner within in_class. where_read _ _ (decls.function tokens level ((read_nests tokens inner).stmt within) ((at_level tokens inner).of_stmt within) in_class);
    of_block = λ level within. where_read _ _ (decls.block tokens ((read_nests tokens level).stmt within) ((at_level tokens level).of_stmt within));
    of_class = λ level inner. where_read _ _ (classes.class tokens level (read_nests tokens inner).member (at_level tokens inner).of_member);
    of_member = λ level. where_read _ _ (at_level tokens level).of_member;
    of_declaration = where_read _ _ (declared tokens);
    of_item = where_read _ _ (item_stands tokens);
  }
