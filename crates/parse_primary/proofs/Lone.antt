-- Operands of one token, and what one look behind an operand tells.
use Rattle.std.proofs.Common.{◌≡◌, ℕ, ◌+◌, Bool, true, false, ◌||◌, ◌==◌, if◌then◌else◌, [], Option, Some, None, refl, ap, ◌∙◌, sym, slice_get}
use Rattle.std.specs.Prelude.{not}
use Rattle.cxx_base.specs.declared.place.Span.{Span}
use Rattle.cxx_tree.specs.declared.identifier.Identifier.{Identifier as IdentifierTree}
use Rattle.cxx_tree.specs.declared.literal.IntegerLiteral.{IntegerLiteral}
use Rattle.cxx_tree.specs.declared.expr.Expr.{Expr}
use Rattle.cxx_tree.specs.declared.expr.Expr.TheVariants as expr-of
use Rattle.cxx_tokens.specs.declared.token.Token.{Token}
use Rattle.cxx_tokens.specs.declared.token.TokenKind.{TokenKind}
use Rattle.cxx_tokens.specs.declared.token.TokenKind.TheVariants as token_kind
use Rattle.cxx_tokens.specs.declared.token.Tokens.{Tokens}
use Rattle.cxx_tokens.specs.declared.mark.TheConstants.{SCOPE, LEFT_BRACE, LESS}
use Rattle.cxx_base.specs.declared.library.TheConstants.{STD, VECTOR}
use Rattle.cxx_reading.specs.declared.seen.Seen.{Seen}
use Rattle.cxx_reading.specs.declared.seen.Seen.TheVariants.{Identifier, Integer, Character, Text, Word, Punctuator}
use Rattle.cxx_reading.specs.Reading.{End, Tree, No, Nothing, Rule, and_then, ◌>>◌, seen, kind_of, kind, punctuator, span, is_punctuator, is_identifier, identifier, integer, identifier_of, integer_of, of_token}
use Rattle.cxx_reading.proofs.Starts.{or_left, or_right, no_punctuator, no_punctuator_at, present_none, optional_none}
use Rattle.cxx_grammar.specs.Names.{named, vector_head, part, any_name, name}
use Rattle.cxx_grammar.specs.Lists.{braced}
use Rattle.cxx_grammar.specs.Primaries.{integer_form}
use Rattle.cxx_grammar.specs.Postfixes.{postfix}
use Rattle.cxx_grammar.specs.Joined.{named_rest, name_rest, named_joined, identified, postfix_from, begins_suffix}
use Rattle.cxx_grammar.specs.Read.{read}
use Rattle.cxx_grammar.specs.Rules.{Rules}
use Rattle.cxx_grammar.proofs.Begins.{no_braced}
use Rattle.cxx_grammar.proofs.Chains.{postfix_by_primary}
use Rattle.cxx_grammar.proofs.PrimaryArms.{primary_integer, primary_identifier}
use Rattle.parse_type.proofs.Looks.{no_parts}
use Rattle.cxx_grammar.proofs.Looks.{no_suffixes}
use Rattle.parse_primary.specs.Looks.{goes_on, is_operand, lone_name}

-- ---- forms of one token

-- where it reads, it ends there
abbrev EndsAt : {A : Type 0} → ℕ → End A → Type 0
EndsAt k (Tree a j) = j ≡ k
EndsAt k (No why) = Unit {0}

ends_integer_kind : (t : TokenKind) (after : ℕ) → EndsAt after (integer_of t after)
ends_integer_kind (token_kind.Identifier text) after = tt
ends_integer_kind (token_kind.Word n) after = tt
ends_integer_kind (token_kind.Punctuator n) after = tt
ends_integer_kind (token_kind.Integer decimal unsigned longs n) after = refl
ends_integer_kind (token_kind.Character byte) after = tt
ends_integer_kind (token_kind.Text bytes) after = tt

ends_integer_token : (t : Option Token) (after : ℕ) → EndsAt after (of_token t (λ k. integer_of k after))
ends_integer_token (Some t) after = ends_integer_kind t.kind after
ends_integer_token None after = tt

module _ (tokens : Tokens) (i : ℕ) where
  ends_integer : EndsAt (i + 1) (integer tokens i)
  unfolding integer
  ends_integer = ends_integer_token (slice_get tokens.list i) (i + 1)

  formed : (e : End IntegerLiteral) → EndsAt (i + 1) e
      → EndsAt (i + 1) (and_then {B = Expr} (and_then {B = Span → Expr} e (λ n k. Tree (λ (s : Span). expr-of.Integer s n) k)) (λ f j. Tree (f (span tokens i j)) j))
  formed (Tree n j) h = h
  formed (No why) h = tt

  ends_integer_form : EndsAt (i + 1) (integer_form tokens i)
  unfolding integer_form
  ends_integer_form = formed (integer tokens i) ends_integer

  -- an expression that no suffix follows
  goes_no_further : (deeper : Rules) (e : End Expr) → EndsAt (i + 1) e → begins_suffix (kind tokens (i + 1)) ≡ false → and_then e (postfix_from tokens deeper i) ≡ e
  goes_no_further deeper (Tree x j) h f = let g : begins_suffix (kind tokens j) ≡ false = rw h f in no_suffixes tokens deeper i x j g
  goes_no_further deeper (No why) h f = refl

  pub lone_integer : (level : ℕ) → kind tokens i ≡ Some Integer → begins_suffix (kind tokens (i + 1)) ≡ false → postfix tokens (read tokens level) i ≡ integer_form tokens i
  lone_integer level e f =
      postfix_by_primary tokens (read tokens level) i
      ∙ ap (λ (x : End Expr). and_then x (postfix_from tokens (read tokens level) i)) (primary_integer tokens (read tokens level) i e)
      ∙ goes_no_further (read tokens level) (integer_form tokens i) ends_integer_form f

-- ---- a name of one part

other_word : (n : ℕ) → Word n ≡ Identifier → ⊥
other_word n h = cc

other_punctuator : (n : ℕ) → Punctuator n ≡ Identifier → ⊥
other_punctuator n h = cc

other_integer : Integer ≡ Identifier → ⊥
other_integer h = cc

other_character : Character ≡ Identifier → ⊥
other_character h = cc

other_text : Text ≡ Identifier → ⊥
other_text h = cc

none_there : kind_of None ≡ Some Identifier → ⊥
none_there h = cc

there_kind : (t : TokenKind) (s : Span) → seen t ≡ Identifier → (x : IdentifierTree) × ((identifier_of t s ≡ Tree x s.end) × (x.span ≡ s))
there_kind (token_kind.Identifier text) s h = (record { span = s; name = text }, (refl, refl))
there_kind (token_kind.Word n) s h = absurd (other_word n h)
there_kind (token_kind.Punctuator n) s h = absurd (other_punctuator n h)
there_kind (token_kind.Integer decimal unsigned longs n) s h = absurd (other_integer h)
there_kind (token_kind.Character byte) s h = absurd (other_character h)
there_kind (token_kind.Text bytes) s h = absurd (other_text h)

there_token : (t : Option Token) (s : Span) → kind_of t ≡ Some Identifier → (x : IdentifierTree) × ((of_token t (λ k. identifier_of k s) ≡ Tree x s.end) × (x.span ≡ s))
there_token (Some t) s h = let g : seen t.kind ≡ Identifier = cc in there_kind t.kind s g
there_token None s h = absurd (none_there h)

module _ (tokens : Tokens) (i : ℕ) where
  there : kind tokens i ≡ Some Identifier → (x : IdentifierTree) × ((identifier tokens i ≡ Tree x (i + 1)) × (x.span ≡ span tokens i (i + 1)))
  unfolding kind identifier span
  there h = there_token (slice_get tokens.list i) (span tokens i (i + 1)) h

  module _ (deeper : Rules) (x : IdentifierTree) (here : kind tokens i ≡ Some Identifier) (e : identifier tokens i ≡ Tree x (i + 1)) (s : x.span ≡ span tokens i (i + 1))
      (scope : is_punctuator SCOPE (kind tokens (i + 1)) ≡ false) (brace : is_punctuator LEFT_BRACE (kind tokens (i + 1)) ≡ false) where
    abbrev begun : Bool → End (Unit {0})
    begun b = if b then Tree tt (i + 1) else No Nothing

    no_head : (b : Bool) (rest : Rule (Unit {0})) → and_then (begun b) (λ t. punctuator tokens SCOPE >> rest) ≡ No Nothing
    no_head true rest = simp (no_punctuator tokens (i + 1) SCOPE scope)
    no_head false rest = refl

    vector_none : vector_head tokens i ≡ No Nothing
    unfolding vector_head named
    vector_none = rw e (no_head (x.name.0 == STD.0) (named tokens VECTOR.0 >> punctuator tokens LESS))

    any_is : any_name tokens i ≡ Tree (record { span = span tokens i (i + 1); rooted = false; first = x; more = [] }) (i + 1)
    unfolding any_name
    any_is = simp (present_none (punctuator tokens SCOPE) i (no_punctuator_at tokens i (Some Identifier) here SCOPE refl), e, no_parts tokens (i + 1) scope)

    name_is : name tokens i ≡ Tree (record { span = span tokens i (i + 1); rooted = false; first = x; more = [] }) (i + 1)
    unfolding name
    name_is = simp (vector_none, any_is)

    rest_is : named_rest tokens deeper i (record { span = span tokens i (i + 1); rooted = false; first = x; more = [] }) (i + 1)
        ≡ Tree (expr-of.Name (record { span = span tokens i (i + 1); rooted = false; first = x; more = [] })) (i + 1)
    unfolding named_rest name_rest
    rest_is = simp (optional_none (braced tokens deeper) (i + 1) (no_braced tokens deeper (i + 1) (kind tokens (i + 1)) refl brace))

    identified_is : identified tokens deeper i ≡ Tree (expr-of.Name (record { span = span tokens i (i + 1); rooted = false; first = x; more = [] })) (i + 1)
    unfolding identified named_joined
    identified_is = simp (vector_none, name_is, rest_is)

    lone_is : lone_name tokens i ≡ Tree (expr-of.Name (record { span = span tokens i (i + 1); rooted = false; first = x; more = [] })) (i + 1)
    lone_is = rw e (ap (λ (z : Span). Tree (expr-of.Name (record { span = z; rooted = false; first = x; more = [] })) (i + 1)) s)

  pub lone : (level : ℕ) → kind tokens i ≡ Some Identifier → begins_suffix (kind tokens (i + 1)) ≡ false
      → is_punctuator SCOPE (kind tokens (i + 1)) ≡ false → is_punctuator LEFT_BRACE (kind tokens (i + 1)) ≡ false
      → postfix tokens (read tokens level) i ≡ lone_name tokens i
  lone level here f scope brace =
      let found = there here in
      let made : identified tokens (read tokens level) i ≡ Tree (expr-of.Name (record { span = span tokens i (i + 1); rooted = false; first = found.0; more = [] })) (i + 1)
      = identified_is (read tokens level) found.0 here found.1.0 found.1.1 scope brace in
      let alone : lone_name tokens i ≡ Tree (expr-of.Name (record { span = span tokens i (i + 1); rooted = false; first = found.0; more = [] })) (i + 1)
      = lone_is (read tokens level) found.0 here found.1.0 found.1.1 scope brace in
      postfix_by_primary tokens (read tokens level) i
      ∙ ap (λ (x : End Expr). and_then x (postfix_from tokens (read tokens level) i)) (primary_identifier tokens level i here ∙ made)
      ∙ no_suffixes tokens (read tokens level) i (expr-of.Name (record { span = span tokens i (i + 1); rooted = false; first = found.0; more = [] })) (i + 1) f
      ∙ sym alone

-- ---- what the look says

not_true : (b : Bool) → not b ≡ true → b ≡ false
not_true true h = cc
not_true false h = refl

name_there : (k : Option Seen) → is_identifier k ≡ true → k ≡ Some Identifier
name_there (Some Identifier) h = refl
name_there (Some Integer) h = cc
name_there (Some Character) h = cc
name_there (Some Text) h = cc
name_there (Some (Word n)) h = cc
name_there (Some (Punctuator n)) h = cc
name_there None h = cc

integer_there : (k behind : Option Seen) → is_operand k behind ≡ true → is_identifier k ≡ false → k ≡ Some Integer
integer_there (Some Identifier) behind h g = cc
integer_there (Some Integer) behind h g = refl
integer_there (Some Character) behind h g = cc
integer_there (Some Text) behind h g = cc
integer_there (Some (Word n)) behind h g = cc
integer_there (Some (Punctuator n)) behind h g = cc
integer_there None behind h g = cc

alone_behind_name : (k behind : Option Seen) → is_operand k behind ≡ true → k ≡ Some Identifier → (begins_suffix behind || goes_on behind) ≡ false
alone_behind_name k behind h e = let g : is_operand (Some Identifier) behind ≡ true = ap (λ (x : Option Seen). is_operand x behind) (sym e) ∙ h in not_true (begins_suffix behind || goes_on behind) g

alone_behind_integer : (k behind : Option Seen) → is_operand k behind ≡ true → k ≡ Some Integer → begins_suffix behind ≡ false
alone_behind_integer k behind h e = let g : is_operand (Some Integer) behind ≡ true = ap (λ (x : Option Seen). is_operand x behind) (sym e) ∙ h in not_true (begins_suffix behind) g

module _ (tokens : Tokens) (level i : ℕ) where
  pub operand_name : is_operand (kind tokens i) (kind tokens (i + 1)) ≡ true → is_identifier (kind tokens i) ≡ true → postfix tokens (read tokens level) i ≡ lone_name tokens i
  operand_name h g =
      let behind : Option Seen = kind tokens (i + 1) in
      let e : kind tokens i ≡ Some Identifier = name_there (kind tokens i) g in
      let none : (begins_suffix behind || goes_on behind) ≡ false = alone_behind_name (kind tokens i) behind h e in
      let a : begins_suffix behind ≡ false = or_left (begins_suffix behind) (goes_on behind) none in
      let b : goes_on behind ≡ false = or_right (begins_suffix behind) (goes_on behind) none in
      let c : is_punctuator SCOPE behind ≡ false = or_left (is_punctuator SCOPE behind) (is_punctuator LEFT_BRACE behind) b in
      let d : is_punctuator LEFT_BRACE behind ≡ false = or_right (is_punctuator SCOPE behind) (is_punctuator LEFT_BRACE behind) b in
      lone tokens i level e a c d

  pub operand_integer : is_operand (kind tokens i) (kind tokens (i + 1)) ≡ true → is_identifier (kind tokens i) ≡ false → postfix tokens (read tokens level) i ≡ integer_form tokens i
  operand_integer h g =
      let e : kind tokens i ≡ Some Integer = integer_there (kind tokens i) (kind tokens (i + 1)) h g in
      lone_integer tokens i level e (alone_behind_integer (kind tokens i) (kind tokens (i + 1)) h e)
