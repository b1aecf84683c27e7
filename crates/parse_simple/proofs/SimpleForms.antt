-- Statements that begin with neither a word nor a mark of their own: the declaration of a local variable, an assignment or an
-- expression, of which the last two share their first unary expression; and where none of them begins.
use Rattle.std.proofs.Common.{◌≡◌, ℕ, ◌+◌, ◌≤◌, Bool, true, false, if◌then◌else◌, ◌==◌, Some, refl, ◌∙◌}
use Rattle.std.proofs.lemmas.Bool.{eqb-false}
use Rattle.cxx_base.specs.declared.place.Span.{Span}
use Rattle.cxx_tree.specs.declared.expr.Expr.{Expr}
use Rattle.cxx_tree.specs.declared.stmt.Stmt.{Stmt}
use Rattle.cxx_tree.specs.declared.stmt.Stmt.TheVariants as stmt-of
use Rattle.cxx_tokens.specs.declared.token.Tokens.{Tokens}
use Rattle.cxx_tokens.specs.declared.mark.TheConstants as mark
use Rattle.cxx_tokens.specs.declared.keyword.TheConstants as keyword
use Rattle.cxx_reading.specs.declared.seen.Seen.TheVariants.{Word, Punctuator}
use Rattle.cxx_reading.specs.Reading.{End, Tree, No, Nothing, and_then, longer, kind, span, punctuator}
use Rattle.cxx_reading.proofs.Starts.{longer_nothing, no_punctuator_at}
use Rattle.cxx_reading.proofs.Factor.{assoc, pointwise, factor}
use Rattle.cxx_grammar.specs.Unaries.{unary}
use Rattle.cxx_grammar.specs.Primaries.{primary}
use Rattle.cxx_grammar.specs.Joined.{expr_from}
use Rattle.cxx_grammar.specs.Rules.{Rules}
use Rattle.cxx_grammar.specs.Read.{read}
use Rattle.cxx_grammar.specs.Locals.{begins_local, assign}
use Rattle.cxx_grammar.specs.Statements.{local_form, assign_form, expr_form}
use Rattle.cxx_grammar.proofs.Begins.{starts_fund, starts_basic, no_fund}
use Rattle.cxx_grammar.proofs.Levels.{at_unary}
use Rattle.cxx_grammar.proofs.PrimaryArms.{no_integer_form, no_character_form, no_text_form, no_true_form, no_false_form, no_nullptr_form, no_this_form, no_name_form, no_paren_form, no_splice_form, no_braced_form, no_fund_call_form, no_typename_call_form, no_cast_form, no_extract_form}
use Rattle.cxx_grammar.proofs.UnaryArms.{no_postfix, no_prefixed_form, no_reflect_form, no_sizeof_form, no_delete_form, no_new_form}
use Rattle.parse_local.proofs.Begin.{begins_at_word, begins_none_at_semicolon}
use Rattle.parse_assign.specs.Joined.{is_step, assigns, assign_rest, assign_placed, closed_assign, closed_expr, closed_rest, closed_placed, closed_step, closed}
use Rattle.parse_assign.proofs.Assignments.{no_unary_at_step, no_unary_at_mark, no_assign_rest, alone_semicolon, expr_ends, assign_at_step, assign_elsewhere}
use Rattle.parse_assign.proofs.Expressions.{below, before, expr_is, no_expr, closed_at_assign, closed_at_expr}
use Rattle.parse_simple.specs.Joined.{statement_of, local_stmt, worked, simple}

-- ---- words that begin neither a declaration, nor an expression

pub record Barren (n : ℕ) : Type 0 where
  pub truth : (n == keyword.TRUE) ≡ false
  pub falsity : (n == keyword.FALSE) ≡ false
  pub nullptr : (n == keyword.NULLPTR) ≡ false
  pub this : (n == keyword.THIS) ≡ false
  pub typename : (n == keyword.TYPENAME) ≡ false
  pub cast : (n == keyword.STATIC_CAST) ≡ false
  pub sizeof : (n == keyword.SIZEOF) ≡ false
  pub delete : (n == keyword.DELETE) ≡ false
  pub new : (n == keyword.NEW) ≡ false
  pub constexpr : (n == keyword.CONSTEXPR) ≡ false
  pub const : (n == keyword.CONST) ≡ false
  pub fundamental : starts_fund (Some (Word n)) ≡ false
  pub basic : starts_basic (Some (Word n)) ≡ false

-- ---- where neither begins

pub barren_if : Barren keyword.IF
barren_if = record { truth = refl; falsity = refl; nullptr = refl; this = refl; typename = refl; cast = refl; sizeof = refl; delete = refl; new = refl; constexpr = refl; const = refl; fundamental = refl; basic = refl }

pub barren_while : Barren keyword.WHILE
barren_while = record { truth = refl; falsity = refl; nullptr = refl; this = refl; typename = refl; cast = refl; sizeof = refl; delete = refl; new = refl; constexpr = refl; const = refl; fundamental = refl; basic = refl }

pub barren_for : Barren keyword.FOR
barren_for = record { truth = refl; falsity = refl; nullptr = refl; this = refl; typename = refl; cast = refl; sizeof = refl; delete = refl; new = refl; constexpr = refl; const = refl; fundamental = refl; basic = refl }

pub barren_return : Barren keyword.RETURN
barren_return = record { truth = refl; falsity = refl; nullptr = refl; this = refl; typename = refl; cast = refl; sizeof = refl; delete = refl; new = refl; constexpr = refl; const = refl; fundamental = refl; basic = refl }

pub barren_break : Barren keyword.BREAK
barren_break = record { truth = refl; falsity = refl; nullptr = refl; this = refl; typename = refl; cast = refl; sizeof = refl; delete = refl; new = refl; constexpr = refl; const = refl; fundamental = refl; basic = refl }

pub barren_continue : Barren keyword.CONTINUE
barren_continue = record { truth = refl; falsity = refl; nullptr = refl; this = refl; typename = refl; cast = refl; sizeof = refl; delete = refl; new = refl; constexpr = refl; const = refl; fundamental = refl; basic = refl }

pub barren_using : Barren keyword.USING
barren_using = record { truth = refl; falsity = refl; nullptr = refl; this = refl; typename = refl; cast = refl; sizeof = refl; delete = refl; new = refl; constexpr = refl; const = refl; fundamental = refl; basic = refl }

pub barren_static_assert : Barren keyword.STATIC_ASSERT
barren_static_assert = record { truth = refl; falsity = refl; nullptr = refl; this = refl; typename = refl; cast = refl; sizeof = refl; delete = refl; new = refl; constexpr = refl; const = refl; fundamental = refl; basic = refl }

pub barren_struct : Barren keyword.STRUCT
barren_struct = record { truth = refl; falsity = refl; nullptr = refl; this = refl; typename = refl; cast = refl; sizeof = refl; delete = refl; new = refl; constexpr = refl; const = refl; fundamental = refl; basic = refl }

pub barren_class : Barren keyword.CLASS
barren_class = record { truth = refl; falsity = refl; nullptr = refl; this = refl; typename = refl; cast = refl; sizeof = refl; delete = refl; new = refl; constexpr = refl; const = refl; fundamental = refl; basic = refl }

pub barren_consteval : Barren keyword.CONSTEVAL
barren_consteval = record { truth = refl; falsity = refl; nullptr = refl; this = refl; typename = refl; cast = refl; sizeof = refl; delete = refl; new = refl; constexpr = refl; const = refl; fundamental = refl; basic = refl }

module _ (tokens : Tokens) (deeper : Rules) (i n : ℕ) (e : kind tokens i ≡ Some (Word n)) (b : Barren n) where
  no_primary_word : primary tokens deeper i ≡ No Nothing
  unfolding primary
  no_primary_word = simp (no_integer_form tokens i _ e refl, no_character_form tokens i _ e refl, no_text_form tokens i _ e refl, no_true_form tokens i _ e b.truth, no_false_form tokens i _ e b.falsity, no_nullptr_form tokens i _ e b.nullptr, no_this_form tokens i _ e b.this, no_name_form tokens i _ e refl, no_paren_form tokens deeper i _ e refl, no_splice_form tokens deeper i _ e refl, no_braced_form tokens deeper i _ e b.basic, no_fund_call_form tokens deeper i _ e b.fundamental, no_typename_call_form tokens deeper i _ e b.typename, no_cast_form tokens deeper i _ e b.cast, no_extract_form tokens deeper i _ e refl)

  no_unary_word : unary tokens deeper i ≡ No Nothing
  unfolding unary
  no_unary_word = simp (no_prefixed_form tokens deeper i _ e refl, no_reflect_form tokens deeper i _ e refl, no_sizeof_form tokens deeper i _ e b.sizeof, no_delete_form tokens deeper i _ e b.delete, no_new_form tokens deeper i _ e b.new, no_postfix tokens deeper i no_primary_word)

module _ (tokens : Tokens) (level i : ℕ) (low : level ≤ 256) where
  no_local_form : begins_local tokens i ≡ false → local_form tokens level i ≡ No Nothing
  unfolding local_form
  no_local_form h = simp h

  no_assign_form : begins_local tokens i ≡ false → is_step (kind tokens i) ≡ false → (read tokens level).unary i ≡ No Nothing → assign_form tokens level i ≡ No Nothing
  unfolding assign_form assign_placed
  no_assign_form h s u = simp (h, assign_elsewhere tokens level i s, u)

  no_expr_form : begins_local tokens i ≡ false → (read tokens level).unary i ≡ No Nothing → expr_form tokens level i ≡ No Nothing
  unfolding expr_form
  no_expr_form h u = simp (h, no_expr tokens level i low u)

  -- at such a word
  module _ (n : ℕ) (e : kind tokens i ≡ Some (Word n)) (b : Barren n) where
    begins_none : begins_local tokens i ≡ false
    begins_none = begins_at_word tokens i n e (eqb-false n keyword.CONSTEXPR b.constexpr) (eqb-false n keyword.CONST b.const) (eqb-false n keyword.TYPENAME b.typename)
        ∙ simp (no_fund tokens i _ e b.fundamental)

    unary_none : (read tokens level).unary i ≡ No Nothing
    unary_none = at_unary tokens level i (below level low) (before level low) ∙ no_unary_word tokens (read tokens (level + 1)) i n e b

    pub local_none : local_form tokens level i ≡ No Nothing
    local_none = no_local_form begins_none

    pub assign_none : assign_form tokens level i ≡ No Nothing
    assign_none = let s : is_step (kind tokens i) ≡ false = rw e refl in no_assign_form begins_none s unary_none

    pub expr_none : expr_form tokens level i ≡ No Nothing
    expr_none = no_expr_form begins_none unary_none

  -- and at ";"
  module _ (e : kind tokens i ≡ Some (Punctuator mark.SEMICOLON)) where
    unary_none_at_semicolon : (read tokens level).unary i ≡ No Nothing
    unary_none_at_semicolon = no_unary_at_mark tokens level i (below level low) (before level low) mark.SEMICOLON e refl refl refl refl refl

    pub local_none_at_semicolon : local_form tokens level i ≡ No Nothing
    local_none_at_semicolon = no_local_form (begins_none_at_semicolon tokens i e)

    pub assign_none_at_semicolon : assign_form tokens level i ≡ No Nothing
    assign_none_at_semicolon = let s : is_step (kind tokens i) ≡ false = rw e refl in no_assign_form (begins_none_at_semicolon tokens i e) s unary_none_at_semicolon

    pub expr_none_at_semicolon : expr_form tokens level i ≡ No Nothing
    expr_none_at_semicolon = no_expr_form (begins_none_at_semicolon tokens i e) unary_none_at_semicolon

-- ---- as a statement

module _ (tokens : Tokens) (level start : ℕ) (x : Expr) (j : ℕ) where
  abbrev as_statement : End Stmt
  as_statement = longer
      (and_then (assign_rest tokens level start x j) (λ a k. and_then (punctuator tokens mark.SEMICOLON k) (λ t l. Tree (stmt-of.Assign a) l)))
      (and_then (expr_from tokens (read tokens (level + 1)) start x j) (λ y k. and_then (punctuator tokens mark.SEMICOLON k) (λ t l. Tree (stmt-of.Expr (span tokens start l) y) l)))

  abbrev closed_statement : End Stmt
  closed_statement = and_then (closed_rest tokens level mark.SEMICOLON start x j) (λ y k. Tree (statement_of (span tokens start k) y) k)

  statement_rest : (b : Bool) → assigns (kind tokens j) ≡ b → as_statement ≡ closed_statement
  unfolding closed_assign closed_expr
  statement_rest true a = simp (expr_ends tokens (level + 1) start x j a, no_punctuator_at tokens j _ refl mark.SEMICOLON (alone_semicolon (kind tokens j) a), closed_at_assign tokens level start mark.SEMICOLON x j a, longer_nothing, assoc)
  statement_rest false a = simp (no_assign_rest tokens level start x j a, closed_at_expr tokens level start mark.SEMICOLON x j a, assoc)

module _ (tokens : Tokens) (level i : ℕ) (low : level ≤ 256) where
  abbrev assign_or_expr : End Stmt
  assign_or_expr = longer
      (and_then (assign tokens level i) (λ a k. and_then (punctuator tokens mark.SEMICOLON k) (λ t l. Tree (stmt-of.Assign a) l)))
      (and_then {A = Span → Stmt} (and_then ((read tokens level).expr i) (λ y k. and_then (punctuator tokens mark.SEMICOLON k) (λ t l. Tree (λ (s : Span). stmt-of.Expr s y) l))) (λ f l. Tree (f (span tokens i l)) l))

  worked_is : (b : Bool) → is_step (kind tokens i) ≡ b → assign_or_expr ≡ worked tokens level i
  unfolding worked closed closed_step closed_placed assign_placed
  worked_is true h = simp (h, assign_at_step tokens level i low h, no_expr tokens level i low (no_unary_at_step tokens level i low h), longer_nothing, assoc)
  worked_is false h = simp (h, assign_elsewhere tokens level i h, expr_is tokens level i low, assoc, factor)
      (pointwise ((read tokens level).unary i) _ _ (λ x j. statement_rest tokens level i x j (assigns (kind tokens j)) refl))

  simple_by : (b : Bool) → begins_local tokens i ≡ b → longer (local_form tokens level i) (longer (assign_form tokens level i) (expr_form tokens level i)) ≡ simple tokens level i
  unfolding local_form assign_form expr_form simple local_stmt
  simple_by true h = simp (h, longer_nothing)
  simple_by false h = simp h (worked_is (is_step (kind tokens i)) refl)

  pub simple_is : longer (local_form tokens level i) (longer (assign_form tokens level i) (expr_form tokens level i)) ≡ simple tokens level i
  simple_is = simple_by (begins_local tokens i) refl
