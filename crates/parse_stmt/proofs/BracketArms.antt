-- Statements with braces of their own, and those without, by their first token.
use Rattle.std.proofs.Common.{◌≡◌, ℕ, ◌+◌, ◌≤◌, Bool, true, false, ◌||◌, ◌==◌, Option, Some, None, refl, subst, sym}
use Rattle.std.specs.Option.{is_some}
use Rattle.std.proofs.lemmas.Bool.{eqb-true}
use Rattle.cxx_tree.specs.declared.decl.Member.{Member}
use Rattle.cxx_tree.specs.declared.stmt.Stmt.{Stmt}
use Rattle.cxx_tokens.specs.declared.token.Tokens.{Tokens}
use Rattle.cxx_tokens.specs.declared.mark.TheConstants as mark
use Rattle.cxx_tokens.specs.declared.keyword.TheConstants as keyword
use Rattle.cxx_reading.specs.declared.seen.Seen.{Seen}
use Rattle.cxx_reading.specs.declared.seen.Seen.TheVariants.{Identifier, Integer, Character, Text, Word, Punctuator}
use Rattle.cxx_reading.specs.Reading.{No, Nothing, Rule, kind, is_punctuator, is_word}
use Rattle.cxx_reading.proofs.Starts.{or_left, or_right, longer_nothing, no_punctuator, no_word}
use Rattle.cxx_grammar.specs.declared.within.Within.{Within}
use Rattle.cxx_grammar.specs.Nests.{Nests, of_block}
use Rattle.cxx_grammar.specs.Declarations.{body, block, key_of_word}
use Rattle.cxx_grammar.specs.Classes.{class_declared, class_defined, class, member}
use Rattle.cxx_grammar.specs.Statements.{body_form, class_form, block_form, bracketed, other_stmt, stmt, sub}
use Rattle.parse_class.proofs.Nothing.{no_key}
use Rattle.parse_class.specs.Joined.{is_key}
use Rattle.parse_stmt.specs.Joined.{begins_bracketed, braces, stmt_braces, sub_braces}
use Rattle.parse_stmt.proofs.StatementArms.{other_at_struct, other_at_class, other_at_consteval, other_at_brace}

-- a property of each token at which such a statement begins
of_bracket_word : (P : ℕ → Type 0) → P keyword.STRUCT → P keyword.CLASS → P keyword.CONSTEVAL → (n : ℕ) (a b c : Bool) → (n == keyword.STRUCT) ≡ a → (n == keyword.CLASS) ≡ b → (n == keyword.CONSTEVAL) ≡ c → ((a || b) || c) ≡ true → P n
of_bracket_word P p q r n true b c e f g h = subst P (sym (eqb-true n keyword.STRUCT e)) p
of_bracket_word P p q r n false true c e f g h = subst P (sym (eqb-true n keyword.CLASS f)) q
of_bracket_word P p q r n false false true e f g h = subst P (sym (eqb-true n keyword.CONSTEVAL g)) r
of_bracket_word P p q r n false false false e f g h = cc

of_bracket : (P : Option Seen → Type 0) → P (Some (Punctuator mark.LEFT_BRACE)) → P (Some (Word keyword.STRUCT)) → P (Some (Word keyword.CLASS)) → P (Some (Word keyword.CONSTEVAL)) → (k : Option Seen) → begins_bracketed k ≡ true → P k
of_bracket P b p q r (Some (Punctuator n)) h = subst (λ (m : ℕ). P (Some (Punctuator m))) (sym (eqb-true n mark.LEFT_BRACE h)) b
of_bracket P b p q r (Some (Word n)) h = of_bracket_word (λ (m : ℕ). P (Some (Word m))) p q r n (n == keyword.STRUCT) (n == keyword.CLASS) (n == keyword.CONSTEVAL) refl refl refl h
of_bracket P b p q r (Some Identifier) h = cc
of_bracket P b p q r (Some Integer) h = cc
of_bracket P b p q r (Some Character) h = cc
of_bracket P b p q r (Some Text) h = cc
of_bracket P b p q r None h = cc

module _ (tokens : Tokens) (i : ℕ) where
  no_body : (inside : Rule Stmt) → is_punctuator mark.LEFT_BRACE (kind tokens i) ≡ false → body_form tokens inside i ≡ No Nothing
  unfolding body_form body
  no_body inside h = simp (no_punctuator tokens i mark.LEFT_BRACE h)

  no_class : (level : ℕ) (inside : Rule Member) (within : Within) → is_key (kind tokens i) ≡ false → class_form tokens level inside within i ≡ No Nothing
  unfolding class_form class class_declared class_defined
  no_class level inside within h = simp (no_key tokens i (kind tokens i) refl h)

  no_block : (inside : Rule Stmt) (within : Within) → is_word keyword.CONSTEVAL (kind tokens i) ≡ false → block_form tokens inside within i ≡ No Nothing
  unfolding block_form block
  no_block inside within h = simp (no_word tokens i keyword.CONSTEVAL h)

  -- no such statement at another token
  none_of_word : (n : ℕ) (a b : Bool) → (n == keyword.STRUCT) ≡ a → (n == keyword.CLASS) ≡ b → (a || b) ≡ false → is_some (key_of_word n) ≡ false
  none_of_word n false false e f h = simp (e, f)
  none_of_word n false true e f h = cc
  none_of_word n true b e f h = cc

  no_bracket_of : (k : Option Seen) → begins_bracketed k ≡ false → (is_punctuator mark.LEFT_BRACE k ≡ false) × (is_key k ≡ false) × (is_word keyword.CONSTEVAL k ≡ false)
  no_bracket_of (Some (Punctuator n)) h = (h, refl, refl)
  no_bracket_of (Some (Word n)) h = (refl, none_of_word n (n == keyword.STRUCT) (n == keyword.CLASS) refl refl (or_left _ _ h), or_right ((n == keyword.STRUCT) || (n == keyword.CLASS)) _ h)
  no_bracket_of (Some Identifier) h = (refl, refl, refl)
  no_bracket_of (Some Integer) h = (refl, refl, refl)
  no_bracket_of (Some Character) h = (refl, refl, refl)
  no_bracket_of (Some Text) h = (refl, refl, refl)
  no_bracket_of None h = (refl, refl, refl)

module _ (tokens : Tokens) (level : ℕ) (statement : Within → Rule Stmt) (inside : Rule Member) (within : Within) (i : ℕ) where
  abbrev read_braces : Type 0
  read_braces = bracketed tokens level statement inside within i ≡ braces tokens level (statement within) inside (statement of_block) within i

  bracketed_at_brace : kind tokens i ≡ Some (Punctuator mark.LEFT_BRACE) → read_braces
  unfolding bracketed braces
  bracketed_at_brace e =
      let c : is_key (kind tokens i) ≡ false = rw e refl in
      let b : is_word keyword.CONSTEVAL (kind tokens i) ≡ false = rw e refl in
      simp (e, no_class tokens i level inside within c, no_block tokens i (statement of_block) within b, longer_nothing)

  bracketed_at_key : (n : ℕ) → kind tokens i ≡ Some (Word n) → (n == keyword.CONSTEVAL) ≡ false → read_braces
  unfolding bracketed braces
  bracketed_at_key n e g =
      let a : is_punctuator mark.LEFT_BRACE (kind tokens i) ≡ false = rw e refl in
      let b : is_word keyword.CONSTEVAL (kind tokens i) ≡ false = rw e g in
      simp (e, g, no_body tokens i (statement within) a, no_block tokens i (statement of_block) within b, longer_nothing)

  bracketed_at_consteval : kind tokens i ≡ Some (Word keyword.CONSTEVAL) → read_braces
  unfolding bracketed braces
  bracketed_at_consteval e =
      let a : is_punctuator mark.LEFT_BRACE (kind tokens i) ≡ false = rw e refl in
      let c : is_key (kind tokens i) ≡ false = rw e refl in
      simp (e, no_body tokens i (statement within) a, no_class tokens i level inside within c)

  pub bracketed_is : begins_bracketed (kind tokens i) ≡ true → read_braces
  bracketed_is h = of_bracket (λ (k : Option Seen). kind tokens i ≡ k → read_braces) bracketed_at_brace (λ e. bracketed_at_key keyword.STRUCT e refl) (λ e. bracketed_at_key keyword.CLASS e refl) bracketed_at_consteval (kind tokens i) h refl

  pub no_bracketed : begins_bracketed (kind tokens i) ≡ false → bracketed tokens level statement inside within i ≡ No Nothing
  unfolding bracketed
  no_bracketed h =
      let none : (is_punctuator mark.LEFT_BRACE (kind tokens i) ≡ false) × (is_key (kind tokens i) ≡ false) × (is_word keyword.CONSTEVAL (kind tokens i) ≡ false) = no_bracket_of tokens i (kind tokens i) h in
      simp (no_body tokens i (statement within) none.0, no_class tokens i level inside within none.1, no_block tokens i (statement of_block) within none.2)

module _ (tokens : Tokens) (level : ℕ) (inner : Nests) (within : Within) (i : ℕ) where
  no_other : (in_parens : ℕ) → level ≤ 256 → begins_bracketed (kind tokens i) ≡ true → other_stmt tokens level inner in_parens within i ≡ No Nothing
  no_other in_parens low h = of_bracket (λ (k : Option Seen). kind tokens i ≡ k → other_stmt tokens level inner in_parens within i ≡ No Nothing)
      (λ e. other_at_brace tokens level in_parens inner within i low e) (λ e. other_at_struct tokens level in_parens inner within i low e) (λ e. other_at_class tokens level in_parens inner within i low e) (λ e. other_at_consteval tokens level in_parens inner within i low e) (kind tokens i) h refl

  pub stmt_at_braces : level ≤ 256 → begins_bracketed (kind tokens i) ≡ true → stmt tokens level inner within i ≡ stmt_braces tokens level inner within i
  unfolding stmt stmt_braces
  stmt_at_braces low h = simp (no_other (level + 1) low h, longer_nothing) (bracketed_is tokens level inner.stmt inner.member within i h)

  pub stmt_elsewhere : begins_bracketed (kind tokens i) ≡ false → stmt tokens level inner within i ≡ other_stmt tokens level inner (level + 1) within i
  unfolding stmt
  stmt_elsewhere h = simp (no_bracketed tokens level inner.stmt inner.member within i h)

  pub sub_at_braces : level ≤ 256 → begins_bracketed (kind tokens i) ≡ true → sub tokens level inner within i ≡ sub_braces tokens level inner within i
  unfolding sub sub_braces
  sub_at_braces low h = simp (no_other level low h, longer_nothing) (bracketed_is tokens level (stmt tokens level inner) (member tokens level inner) within i h)

  pub sub_elsewhere : begins_bracketed (kind tokens i) ≡ false → sub tokens level inner within i ≡ other_stmt tokens level inner level within i
  unfolding sub
  sub_elsewhere h = simp (no_bracketed tokens level (stmt tokens level inner) (member tokens level inner) within i h)

pub ruleset stmt_arms = (stmt_at_braces, stmt_elsewhere)

pub ruleset sub_arms = (sub_at_braces, sub_elsewhere)
