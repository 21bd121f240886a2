-- The tokens of a text as the grammar sees them, by computing.
use Rattle.std.specs.Prelude.{ℕ, zero, suc, Bool, false, if◌then◌else◌, List, [], ◌∷◌, length, take, drop}
use Rattle.sql_lex.specs.declared.pieces.Piece.{Piece}
use Rattle.sql_lex.specs.declared.pieces.Piece.TheVariants as pieces
use Rattle.sql_lex.specs.declared.token.TokenKind.{TokenKind}
use Rattle.sql_lex.specs.Lexes.{is_minus}
use Rattle.sql_lex.specs.Pieces.{piece_of}
use Rattle.sql_lex.specs.Plain.{plain_by}
use Rattle.sql_syntax.specs.Tokens.{Tok}
use Rattle.sql_syntax.specs.Texts.{begins_with_digit, minus_by, said_by}

-- a token of some kind and its bytes, before other bytes and their tokens
abbrev pub tok_by : TokenKind → List ℕ → List ℕ → List Tok → Tok
tok_by kind bytes behind ts = if is_minus kind then minus_by (begins_with_digit behind) ts else said_by (plain_by kind bytes)

-- the tokens from a piece on, by those of what stands behind it
abbrev pub spoken_by : (Bool → List ℕ → List Tok) → List ℕ → Piece → List Tok
spoken_by more bs pieces.Nothing = []
spoken_by more bs (pieces.Blank count) = more false (drop count bs)
spoken_by more bs (pieces.Token kind count) =
    tok_by kind (take count bs) (drop count bs) (more (is_minus kind) (drop count bs)) ∷ more (is_minus kind) (drop count bs)

-- the tokens of bytes, directly behind a minus or not; the number bounds the pieces
unfoldable pub spoken_from : ℕ → Bool → List ℕ → List Tok
spoken_from zero m bs = []
spoken_from (suc n) m bs = spoken_by (spoken_from n) bs (piece_of m bs)

-- the tokens of a text, up to where no token begins
abbrev pub spoken : List ℕ → List Tok
spoken text = spoken_from (suc (length text)) false text
