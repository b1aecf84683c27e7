-- Functions that are passed to a parser, and read what nests at a level.
use Rattle.std.specs.Prelude.{◌≡◌, ℕ, Result}
use Rattle.std.specs.declared.alloc.Global.{Global}
use denote.Ref.{Bor}
use Rattle.cxx_tokens.specs.declared.token.Tokens.{Tokens}
use Rattle.cxx_tree.specs.declared.stmt.Stmt.{Stmt}
use Rattle.cxx_tree.specs.declared.decl.Member.{Member}
use Rattle.cxx_reading.specs.declared.fault.ExprFault.{ExprFault}
use Rattle.cxx_reading.specs.Reading.{Rule, Gives}
use Rattle.cxx_reading.specs.Readers.{Pre, Post, ReadsAt}
use Rattle.cxx_grammar.specs.declared.within.Within.{Within}
use Rattle.cxx_grammar.specs.Nesting.{read_nests}

-- what a call requires: the allocator, the tokens, the token to begin at, the level, and what the statement stands in
abbrev pub PreWithin : Type 1
PreWithin = Global → Bor Tokens → ℕ → ℕ → Within → Type 0

-- what a call ensures of its answer
abbrev pub PostWithin : Type 0 → Type 1
PostWithin A = Global → Bor Tokens → ℕ → ℕ → Within → Result (A × ℕ) ExprFault → Type 0

-- The function may be called at each token of these tokens and at this level, and then reads the rule.
pub record ReaderWithin {A : Type 0} (tokens : Tokens) (level : ℕ) (rule : Within → Rule A) (pre : PreWithin) (post : PostWithin A) : Type 0 where
  pub callable : (alloc : Global) (t : Bor Tokens) (at : ℕ) (within : Within) → pre alloc t at level within
  pub reads : (alloc : Global) (t : Bor Tokens) (at : ℕ) (within : Within) (r : Result (A × ℕ) ExprFault) → t.now ≡ tokens → post alloc t at level within r → Gives (rule within at) r

-- what reads statements, statements within statements, and members at a level
pub record AreReaders (tokens : Tokens) (level : ℕ) (stmt-pre : PreWithin) (stmt-post : PostWithin Stmt) (sub-pre : PreWithin) (sub-post : PostWithin Stmt) (member-pre : Pre) (member-post : Post Member) : Type 0 where
  pub stmt : ReaderWithin tokens level (read_nests tokens level).stmt stmt-pre stmt-post
  pub sub : ReaderWithin tokens level (read_nests tokens level).sub sub-pre sub-post
  pub member : ReadsAt tokens level (read_nests tokens level).member member-pre member-post
