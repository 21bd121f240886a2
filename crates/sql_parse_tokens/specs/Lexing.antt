-- Tokens of the lexer, as lexemes are made of them.
use Rattle.std.specs.Prelude.{ℕ, min}
use Rattle.sql_lex.specs.declared.token.Token.{Token}
use Rattle.sql_lex.specs.declared.token.TokenKind.{TokenKind}
use Rattle.sql_lex.specs.declared.token.TokenKind.TheVariants as kinds
use Rattle.sql_parse_tokens.specs.declared.lexeme.Lexeme.{Lexeme}

-- a number with at most 63 bits, as the numbers of each text have
abbrev pub bounded_kind : TokenKind → TokenKind
bounded_kind (kinds.Number n) = kinds.Number (min n 9223372036854775807)
bounded_kind k = k

-- the token with such a number
abbrev pub bounded : Token → Token
bounded t = record { kind = bounded_kind t.kind; at = t.at; end = t.end }

-- where a token stands
abbrev pub place : Token → ℕ × ℕ
place t = (t.at, t.end)

-- where a lexeme stands
abbrev pub lexeme_place : Lexeme → ℕ × ℕ
lexeme_place l = (l.at, l.end)
