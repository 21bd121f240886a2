-- What a text begins with.
use Rattle.std.specs.Prelude.{ℕ, ◌<◌, ◌≤◌, Bool, nat_lt, if◌then◌else◌, List, Option, Some, None}
use Rattle.sql_lex.specs.declared.pieces.Piece.{Piece}
use Rattle.sql_lex.specs.declared.pieces.Piece.TheVariants.{Blank, Token, Nothing}
use Rattle.sql_lex.specs.declared.token.TokenKind.{TokenKind}
use Rattle.sql_lex.specs.Blanks.{blank_length}
use Rattle.sql_lex.specs.Begins.{token_of}

-- the token, where there is one
abbrev pub piece_by : Option (TokenKind × ℕ) → Piece
piece_by (Some t) = Token t.0 t.1
piece_by None = Nothing

-- white space or a comment, else a token, else nothing, directly behind a minus or not
abbrev pub piece_of : Bool → List ℕ → Piece
piece_of behind_minus bs =
    if nat_lt 0 (blank_length bs) then Blank (blank_length bs) else piece_by (token_of behind_minus bs)

-- a piece has at least one byte, and at most so many
abbrev pub IsWithin : ℕ → Piece → Type 0
IsWithin most (Blank count) = (0 < count) × (count ≤ most)
IsWithin most (Token kind count) = (0 < count) × (count ≤ most)
IsWithin most Nothing = Unit {0}
