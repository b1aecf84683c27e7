-- The cuts of some texts: the spans themselves.
use Rattle.std.specs.Prelude.{ℕ, false, [], ◌∷◌, codes}
use Rattle.cxx_tokens.specs.Characters.{Characters}
use Rattle.cxx_tokens.specs.Cutting.{IsCut, Plain, Span, Gap, Piece}
use Rattle.cxx_tokens.specs.declared.mark.TheConstants as mark
use Rattle.cxx_tokens.specs.declared.token.TokenKind.TheVariants as kind

-- a piece that is a punctuator
abbrev pub marked : Characters → ℕ → Span
marked front number = Piece front (Plain (kind.Punctuator number))

pub record HaveTheirCuts : Type 0 where
  -- the comment is the front that first ends with `*/`
  pub first_end : IsCut (codes "/*x*/*/") (Gap (codes "/*x*/") ∷ marked (codes "*") mark.STAR ∷ marked (codes "/") mark.SLASH ∷ [])
  pub two_colons : IsCut (codes "[::]") (marked (codes "[") mark.LEFT_BRACKET ∷ marked (codes "::") mark.SCOPE ∷ marked (codes "]") mark.RIGHT_BRACKET ∷ [])
  pub three_colons : IsCut (codes "[:::]") (marked (codes "[:") mark.LEFT_SPLICE ∷ marked (codes "::") mark.SCOPE ∷ marked (codes "]") mark.RIGHT_BRACKET ∷ [])
  -- each white-space character is a gap, and the line feed is none of the skipped line
  pub skipped_behind_comment : IsCut (codes "/* */ # 1 \"a\"\n;")
      (Gap (codes "/* */") ∷ Gap (codes " ") ∷ Gap (codes "# 1 \"a\"") ∷ Gap (codes "\n") ∷ marked (codes ";") mark.SEMICOLON ∷ [])
  pub separated : IsCut (codes "0x1'f //\n") (Piece (codes "0x1'f") (Plain (kind.Integer false false 0 31)) ∷ Gap (codes " ") ∷ Gap (codes "//") ∷ Gap (codes "\n") ∷ [])
