-- The lists by which words and punctuators are numbered.
use Rattle.std.specs.Prelude.{◌≡◌, ℕ, List, [], ◌∷◌, Some, slice_get, codes, map}
use Rattle.cxx_base.specs.Texts.{Text}
use Rattle.cxx_tokens.specs.declared.mark.TheConstants as mark
use Rattle.cxx_tokens.specs.declared.keyword.TheConstants as keyword

-- the words that are never identifiers: the keywords ([lex.key]), and the alternative spellings of operators ([lex.digraph])
unfoldable pub words : List Text
words =
    codes "alignas" ∷ codes "alignof" ∷ codes "asm" ∷ codes "auto" ∷ codes "bool" ∷ codes "break" ∷ codes "case" ∷
    codes "catch" ∷ codes "char" ∷ codes "char8_t" ∷ codes "char16_t" ∷ codes "char32_t" ∷ codes "class" ∷
    codes "concept" ∷ codes "const" ∷ codes "const_cast" ∷ codes "consteval" ∷ codes "constexpr" ∷
    codes "constinit" ∷ codes "continue" ∷ codes "contract_assert" ∷ codes "co_await" ∷ codes "co_return" ∷
    codes "co_yield" ∷ codes "decltype" ∷ codes "default" ∷ codes "delete" ∷ codes "do" ∷ codes "double" ∷
    codes "dynamic_cast" ∷ codes "else" ∷ codes "enum" ∷ codes "explicit" ∷ codes "export" ∷ codes "extern" ∷
    codes "false" ∷ codes "float" ∷ codes "for" ∷ codes "friend" ∷ codes "goto" ∷ codes "if" ∷ codes "inline" ∷
    codes "int" ∷ codes "long" ∷ codes "mutable" ∷ codes "namespace" ∷ codes "new" ∷ codes "noexcept" ∷
    codes "nullptr" ∷ codes "operator" ∷ codes "private" ∷ codes "protected" ∷ codes "public" ∷ codes "register" ∷
    codes "reinterpret_cast" ∷ codes "requires" ∷ codes "return" ∷ codes "short" ∷ codes "signed" ∷ codes "sizeof" ∷
    codes "static" ∷ codes "static_assert" ∷ codes "static_cast" ∷ codes "struct" ∷ codes "switch" ∷
    codes "template" ∷ codes "this" ∷ codes "thread_local" ∷ codes "throw" ∷ codes "true" ∷ codes "try" ∷
    codes "typedef" ∷ codes "typeid" ∷ codes "typename" ∷ codes "union" ∷ codes "unsigned" ∷ codes "using" ∷
    codes "virtual" ∷ codes "void" ∷ codes "volatile" ∷ codes "wchar_t" ∷ codes "while" ∷ codes "and" ∷
    codes "and_eq" ∷ codes "bitand" ∷ codes "bitor" ∷ codes "compl" ∷ codes "not" ∷ codes "not_eq" ∷ codes "or" ∷
    codes "or_eq" ∷ codes "xor" ∷ codes "xor_eq" ∷ []

-- the punctuators ([lex.operators])
unfoldable pub punctuators : List Text
punctuators =
    codes "{" ∷ codes "}" ∷ codes "[" ∷ codes "]" ∷ codes "[:" ∷ codes ":]" ∷ codes "(" ∷ codes ")" ∷ codes ";" ∷
    codes ":" ∷ codes "::" ∷ codes "," ∷ codes "." ∷ codes "?" ∷ codes "->" ∷ codes "+" ∷ codes "-" ∷ codes "*" ∷
    codes "/" ∷ codes "%" ∷ codes "^" ∷ codes "^^" ∷ codes "&" ∷ codes "|" ∷ codes "~" ∷ codes "!" ∷ codes "=" ∷
    codes "<" ∷ codes ">" ∷ codes "<=" ∷ codes ">=" ∷ codes "==" ∷ codes "!=" ∷ codes "<<" ∷ codes ">>" ∷
    codes "&&" ∷ codes "||" ∷ codes "++" ∷ codes "--" ∷ codes "+=" ∷ codes "-=" ∷ codes "*=" ∷ codes "/=" ∷
    codes "%=" ∷ codes "^=" ∷ codes "&=" ∷ codes "|=" ∷ codes "<<=" ∷ codes ">>=" ∷ []

-- The numbers that have a name in the code, each with the text that it stands for.
unfoldable pub numbered_marks : List (ℕ × Text)
numbered_marks =
    (mark.LEFT_BRACE, codes "{") ∷ (mark.RIGHT_BRACE, codes "}") ∷ (mark.LEFT_BRACKET, codes "[") ∷
    (mark.RIGHT_BRACKET, codes "]") ∷ (mark.LEFT_SPLICE, codes "[:") ∷ (mark.RIGHT_SPLICE, codes ":]") ∷
    (mark.LEFT_PAREN, codes "(") ∷ (mark.RIGHT_PAREN, codes ")") ∷ (mark.SEMICOLON, codes ";") ∷
    (mark.COLON, codes ":") ∷ (mark.SCOPE, codes "::") ∷ (mark.COMMA, codes ",") ∷ (mark.DOT, codes ".") ∷
    (mark.QUESTION, codes "?") ∷ (mark.ARROW, codes "->") ∷ (mark.PLUS, codes "+") ∷ (mark.MINUS, codes "-") ∷
    (mark.STAR, codes "*") ∷ (mark.SLASH, codes "/") ∷ (mark.PERCENT, codes "%") ∷ (mark.CARET, codes "^") ∷
    (mark.REFLECT, codes "^^") ∷ (mark.AMPERSAND, codes "&") ∷ (mark.PIPE, codes "|") ∷ (mark.TILDE, codes "~") ∷
    (mark.NOT, codes "!") ∷ (mark.EQUAL, codes "=") ∷ (mark.LESS, codes "<") ∷ (mark.GREATER, codes ">") ∷
    (mark.LESS_EQUAL, codes "<=") ∷ (mark.GREATER_EQUAL, codes ">=") ∷ (mark.EQUAL_EQUAL, codes "==") ∷
    (mark.NOT_EQUAL, codes "!=") ∷ (mark.SHIFT_LEFT, codes "<<") ∷ (mark.SHIFT_RIGHT, codes ">>") ∷
    (mark.AND, codes "&&") ∷ (mark.OR, codes "||") ∷ (mark.INCREMENT, codes "++") ∷ (mark.DECREMENT, codes "--") ∷
    (mark.PLUS_EQUAL, codes "+=") ∷ (mark.MINUS_EQUAL, codes "-=") ∷ (mark.STAR_EQUAL, codes "*=") ∷
    (mark.SLASH_EQUAL, codes "/=") ∷ (mark.PERCENT_EQUAL, codes "%=") ∷ (mark.CARET_EQUAL, codes "^=") ∷
    (mark.AMPERSAND_EQUAL, codes "&=") ∷ (mark.PIPE_EQUAL, codes "|=") ∷ (mark.SHIFT_LEFT_EQUAL, codes "<<=") ∷
    (mark.SHIFT_RIGHT_EQUAL, codes ">>=") ∷ []

unfoldable pub numbered_words : List (ℕ × Text)
numbered_words =
    (keyword.BOOL, codes "bool") ∷ (keyword.BREAK, codes "break") ∷ (keyword.CHAR, codes "char") ∷
    (keyword.CLASS, codes "class") ∷ (keyword.CONST, codes "const") ∷ (keyword.CONSTEVAL, codes "consteval") ∷
    (keyword.CONSTEXPR, codes "constexpr") ∷ (keyword.CONTINUE, codes "continue") ∷
    (keyword.DELETE, codes "delete") ∷ (keyword.ELSE, codes "else") ∷ (keyword.ENUM, codes "enum") ∷
    (keyword.EXPLICIT, codes "explicit") ∷ (keyword.FALSE, codes "false") ∷ (keyword.FOR, codes "for") ∷
    (keyword.IF, codes "if") ∷ (keyword.INLINE, codes "inline") ∷ (keyword.INT, codes "int") ∷
    (keyword.LONG, codes "long") ∷ (keyword.NAMESPACE, codes "namespace") ∷ (keyword.NEW, codes "new") ∷
    (keyword.NOEXCEPT, codes "noexcept") ∷ (keyword.NULLPTR, codes "nullptr") ∷
    (keyword.PRIVATE, codes "private") ∷ (keyword.PROTECTED, codes "protected") ∷
    (keyword.PUBLIC, codes "public") ∷ (keyword.RETURN, codes "return") ∷ (keyword.SHORT, codes "short") ∷
    (keyword.SIGNED, codes "signed") ∷ (keyword.SIZEOF, codes "sizeof") ∷ (keyword.STATIC, codes "static") ∷
    (keyword.STATIC_ASSERT, codes "static_assert") ∷ (keyword.STATIC_CAST, codes "static_cast") ∷
    (keyword.STRUCT, codes "struct") ∷ (keyword.THIS, codes "this") ∷ (keyword.TRUE, codes "true") ∷
    (keyword.TYPENAME, codes "typename") ∷ (keyword.UNSIGNED, codes "unsigned") ∷ (keyword.USING, codes "using") ∷
    (keyword.VOID, codes "void") ∷ (keyword.WHILE, codes "while") ∷ []

-- each number is the place of its text in the list
pub record AreNumbered : Type 0 where
  pub marks : map (λ n. slice_get punctuators n.0) numbered_marks ≡ map (λ n. Some n.1) numbered_marks
  pub keywords : map (λ n. slice_get words n.0) numbered_words ≡ map (λ n. Some n.1) numbered_words
