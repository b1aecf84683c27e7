-- How a grammar is written, and what its rules give. A rule gives, at the number of a token, a tree and the number of the
-- token after it, or says why there is none. Rules are made of single tokens, parts in order, choices and repetitions.
use Rattle.std.specs.Prelude.{◌≡◌, ◌≢◌, ℕ, zero, suc, ◌+◌, ◌-◌, Bool, true, false, if◌then◌else◌, ◌==◌, nat_lt, List, [], length, slice_get, Option, Some, None, Result, Ok, Err}
use Rattle.cxx_base.specs.declared.place.Place.{Place}
use Rattle.cxx_base.specs.declared.place.Span.{Span}
use Rattle.cxx_tokens.specs.declared.token.Token.{Token}
use Rattle.cxx_tokens.specs.declared.token.TokenKind.{TokenKind}
use Rattle.cxx_tokens.specs.declared.token.TokenKind.TheVariants as token_kind
use Rattle.cxx_tokens.specs.declared.token.Tokens.{Tokens}
use Rattle.cxx_tree.specs.declared.identifier.Identifier.{Identifier}
use Rattle.cxx_tree.specs.declared.literal.IntegerLiteral.{IntegerLiteral}
use Rattle.cxx_reading.specs.declared.fault.ExprFault.{ExprFault}
use Rattle.cxx_reading.specs.declared.fault.ExprFault.TheVariants.{S1, S2, Memory}
use Rattle.cxx_reading.specs.declared.seen.Seen.{Seen}
use Rattle.cxx_reading.specs.declared.seen.Seen.TheVariants as seen_kind

-- why there is no tree: nothing begins there, or the rule is too deep there
pub data Why : Type 0 where
  Nothing : Why
  TooDeep : Why

-- a tree and the number of the token after it, or why there is none
pub data End (A : Type 0) : Type 0 where
  Tree : A → ℕ → End A
  No : Why → End A

-- what a rule gives at each token
abbrev pub Rule : Type 0 → Type 0
Rule A = ℕ → End A

-- ---- parts in order

-- where a tree was read, what follows it goes on at the token after it
abbrev pub and_then : {A B : Type 0} → End A → (A → Rule B) → End B
and_then (Tree a i) f = f a i
and_then (No why) f = No why

-- two parts in order, of which the second may look at the tree of the first
infixl 10 ◌>>=◌
abbrev pub ◌>>=◌ : {A B : Type 0} → Rule A → (A → Rule B) → Rule B
p >>= f = λ i. and_then (p i) f

-- two parts in order, of which the first counts for its tokens alone
infixl 10 ◌>>◌
abbrev pub ◌>>◌ : {A B : Type 0} → Rule A → Rule B → Rule B
p >> q = p >>= (λ _. q)

-- takes no token, and gives a tree
abbrev pub pure : {A : Type 0} → A → Rule A
pure a = λ i. Tree a i

-- too deep at each token
abbrev pub too_deep : {A : Type 0} → Rule A
too_deep = λ i. No TooDeep

-- a side rule: takes no token, and where it does not hold nothing begins there
abbrev pub guard : Bool → Rule (Unit {0})
guard holds = λ i. if holds then Tree tt i else No Nothing

-- ---- choices

-- Of two that read, the one that ends last, and for a tie the first. Either may be too deep, and then the choice is.
abbrev pub longer : {A : Type 0} → End A → End A → End A
longer (No Nothing) y = y
longer (No TooDeep) y = No TooDeep
longer (Tree a i) (No Nothing) = Tree a i
longer (Tree a i) (No TooDeep) = No TooDeep
longer (Tree a i) (Tree b j) = if nat_lt i j then Tree b j else Tree a i

-- a choice of two forms
infixr 8 ◌<|>◌
abbrev pub ◌<|>◌ : {A : Type 0} → Rule A → Rule A → Rule A
p <|> q = λ i. longer (p i) (q i)

-- ---- parts that may be missing

-- what a missing part leaves: whether it is there
abbrev pub or_absent : {A : Type 0} → End A → ℕ → End Bool
or_absent (Tree a j) i = Tree true j
or_absent (No Nothing) i = Tree false i
or_absent (No TooDeep) i = No TooDeep

-- whether a part is there; it is taken where it reads
unfoldable pub present : {A : Type 0} → Rule A → Rule Bool
present p = λ i. or_absent (p i) i

-- what a missing part leaves: no tree
abbrev pub or_none : {A : Type 0} → End A → ℕ → End (Option A)
or_none (Tree a j) i = Tree (Some a) j
or_none (No Nothing) i = Tree None i
or_none (No TooDeep) i = No TooDeep

-- a part that is taken where it reads
unfoldable pub optional : {A : Type 0} → Rule A → Rule (Option A)
optional p = λ i. or_none (p i) i

-- what a missing list leaves: the empty one
abbrev pub or_empty : {A : Type 0} → End (List A) → ℕ → End (List A)
or_empty (Tree xs j) i = Tree xs j
or_empty (No Nothing) i = Tree [] i
or_empty (No TooDeep) i = No TooDeep

-- a list that is taken where it reads, and is else empty
unfoldable pub if_any : {A : Type 0} → Rule (List A) → Rule (List A)
if_any p = λ i. or_empty (p i) i

-- ---- repetitions

-- after one turn: another one where it read, the end where nothing began, and too deep where it was
abbrev pub go_on : {A : Type 0} → (A → Rule A) → A → ℕ → End A → End A
go_on again x i (Tree y j) = again y j
go_on again x i (No Nothing) = Tree x i
go_on again x i (No TooDeep) = No TooDeep

-- A part as often as it reads, but at most so many times. Each turn goes on from what was read so far.
unfoldable pub turns : {A : Type 0} → ℕ → (A → Rule A) → A → Rule A
turns zero p x = λ i. Tree x i
turns (suc n) p x = λ i. go_on (turns n p) x i (p x i)

-- ---- what a token is

-- what a token is, without what it holds
abbrev pub seen : TokenKind → Seen
seen (token_kind.Identifier name) = seen_kind.Identifier
seen (token_kind.Word n) = seen_kind.Word n
seen (token_kind.Punctuator n) = seen_kind.Punctuator n
seen (token_kind.Integer decimal unsigned longs n) = seen_kind.Integer
seen (token_kind.Character byte) = seen_kind.Character
seen (token_kind.Text bytes) = seen_kind.Text

-- the same of the token that stands there, if one does
abbrev pub kind_of : Option Token → Option Seen
kind_of (Some t) = Some (seen t.kind)
kind_of None = None

-- whether it is the punctuator of this number
abbrev pub is_punctuator : ℕ → Option Seen → Bool
is_punctuator n (Some (seen_kind.Punctuator m)) = m == n
is_punctuator n _ = false

-- whether it is the word of this number
abbrev pub is_word : ℕ → Option Seen → Bool
is_word n (Some (seen_kind.Word m)) = m == n
is_word n _ = false

-- whether it is an identifier
abbrev pub is_identifier : Option Seen → Bool
is_identifier (Some seen_kind.Identifier) = true
is_identifier _ = false

-- ---- trees of single tokens

-- that of an identifier, whose span is this
abbrev pub identifier_of : TokenKind → Span → End Identifier
identifier_of (token_kind.Identifier name) s = Tree (record { span = s; name = name }) s.end
identifier_of _ s = No Nothing

-- that of an integer literal, behind which this token stands
abbrev pub integer_of : TokenKind → ℕ → End IntegerLiteral
integer_of (token_kind.Integer decimal unsigned longs n) after = Tree (record { decimal = decimal; unsigned = unsigned; longs = longs; n = n }) after
integer_of _ after = No Nothing

-- that of a character literal
abbrev pub character_of : TokenKind → ℕ → End ℕ
character_of (token_kind.Character byte) after = Tree byte after
character_of _ after = No Nothing

-- that of a string literal
abbrev pub text_of : TokenKind → ℕ → End (List ℕ)
text_of (token_kind.Text bytes) after = Tree bytes after
text_of _ after = No Nothing

-- a rule of the token that stands there, if one does
abbrev pub of_token : {A : Type 0} → Option Token → (TokenKind → End A) → End A
of_token (Some t) f = f t.kind
of_token None f = No Nothing

-- the place of a token, or of the end of the text
abbrev pub place_of : Place → Option Token → Place
place_of end (Some t) = t.span.place
place_of end None = end

-- ---- rules over the tokens of a text

module _ (tokens : Tokens) where
  -- what the token there is
  unfoldable pub kind : ℕ → Option Seen
  kind i = kind_of (slice_get tokens.list i)

  -- how many tokens there are from this one on
  unfoldable pub left : ℕ → ℕ
  left i = length tokens.list - i

  -- From the first token up to, but not with, the end. Its place is that of the first token, or of the end of the text.
  unfoldable pub span : ℕ → ℕ → Span
  span first end = record { place = place_of tokens.end (slice_get tokens.list first); first = first; end = end }

  -- whether this punctuator stands there; no token is taken
  abbrev pub sees_punctuator : ℕ → ℕ → Bool
  sees_punctuator n i = is_punctuator n (kind i)

  -- whether this word stands there
  abbrev pub sees_word : ℕ → ℕ → Bool
  sees_word n i = is_word n (kind i)

  -- whether an identifier stands there
  abbrev pub sees_identifier : ℕ → Bool
  sees_identifier i = is_identifier (kind i)

  -- the punctuator of this number
  unfoldable pub punctuator : ℕ → Rule (Unit {0})
  punctuator n = λ i. if sees_punctuator n i then Tree tt (i + 1) else No Nothing

  -- the word of this number
  unfoldable pub word : ℕ → Rule (Unit {0})
  word n = λ i. if sees_word n i then Tree tt (i + 1) else No Nothing

  -- an identifier, with its span
  unfoldable pub identifier : Rule Identifier
  identifier = λ i. of_token (slice_get tokens.list i) (λ t. identifier_of t (span i (i + 1)))

  -- an integer literal
  unfoldable pub integer : Rule IntegerLiteral
  integer = λ i. of_token (slice_get tokens.list i) (λ t. integer_of t (i + 1))

  -- a character literal, by its byte
  unfoldable pub character : Rule ℕ
  character = λ i. of_token (slice_get tokens.list i) (λ t. character_of t (i + 1))

  -- a string literal, by its bytes
  unfoldable pub text : Rule (List ℕ)
  text = λ i. of_token (slice_get tokens.list i) (λ t. text_of t (i + 1))

  -- A part as often as it reads, from what was read so far. The bound is the number of tokens that are left.
  abbrev pub repeated : {A : Type 0} → (A → Rule A) → A → Rule A
  repeated p x = λ i. turns (left i) p x i

  -- a tree that is given the span of its tokens, of which the first is number `start`
  abbrev pub from : {A : Type 0} → ℕ → Rule (Span → A) → Rule A
  from start p = p >>= (λ f j. Tree (f (span start j)) j)

  -- a tree that is given the span of its tokens
  abbrev pub node : {A : Type 0} → Rule (Span → A) → Rule A
  node p = λ i. from i p i

-- ---- what the functions that parse ensure

-- the fault by which a function says why there is no tree
abbrev pub why : ExprFault → Why
why S1 = Nothing
why S2 = TooDeep
why Memory = Nothing

-- the end that the rule gives, unless memory ran out
abbrev pub Gives : {A : Type 0} → End A → Result (A × ℕ) ExprFault → Type 0
Gives end (Ok found) = end ≡ Tree found.0 found.1
Gives end (Err fault) = fault ≢ Memory → end ≡ No (why fault)

-- the same of a single token whose tree says nothing; memory does not run out
abbrev pub Steps : End (Unit {0}) → Result ℕ ExprFault → Type 0
Steps end (Ok j) = end ≡ Tree tt j
Steps end (Err fault) = (end ≡ No Nothing) × (fault ≡ S1)

-- of two answers the longer: whichever ends they give, the result gives the longer of these
pub record Chooses {A : Type 0} (first second result : Result (A × ℕ) ExprFault) : Type 0 where
  pub gives : (x y : End A) → Gives x first → Gives y second → Gives (longer x y) result

-- whether memory ran out
abbrev pub is_memory : {A : Type 0} → Result A ExprFault → Bool
is_memory (Err Memory) = true
is_memory _ = false
