-- What a text is, as one function of its bytes: a statement, a syntax error at a place, or too deep.
use Rattle.std.specs.Prelude.{◌≡◌, ℕ, zero, suc, ◌+◌, ◌-◌, ◌↔◌, Bool, false, nat_le, nat_lt, if◌then◌else◌, List, [], ◌∷◌, length, drop, Result, Ok, Err}
use Rattle.hex.specs.Hex.{IsBytes}
use Rattle.sql_grammar.specs.Reader.{Fault, Syntax, Deep}
use Rattle.sql_grammar.specs.Whole.{read_whole}
use Rattle.sql_lex.specs.declared.pieces.Piece.{Piece}
use Rattle.sql_lex.specs.declared.pieces.Piece.TheVariants as pieces
use Rattle.sql_lex.specs.declared.token.Token.{Token}
use Rattle.sql_lex.specs.Lexes.{is_minus, IsFront}
use Rattle.sql_lex.specs.Pieces.{piece_of}
use Rattle.sql_syntax.specs.Statements.{statement}
use Rattle.sql_syntax.specs.Texts.{toks, limit_open, limit_deep, place_of, reads, IsRefusedAt, IsTooDeep}
use Rattle.sql_syntax.specs.Tokens.{Tok}
use Rattle.sql_tree.specs.Depth.{depth_of}
use Rattle.sql_tree.specs.Statement.{Statement}
use Rattle.sql_tree.specs.Well.{IsWell}

-- ---- tokens with their places

-- a token before others, with the place where no token begins
abbrev pub with_first : Token → List Token × ℕ → List Token × ℕ
with_first t more = (t ∷ more.0, more.1)

-- the tokens from a piece at a place on, by those of what stands behind it
abbrev pub tokens_by : (Bool → ℕ → List ℕ → List Token × ℕ) → ℕ → List ℕ → Piece → List Token × ℕ
tokens_by more at bs pieces.Nothing = ([], at)
tokens_by more at bs (pieces.Blank count) = more false (at + count) (drop count bs)
tokens_by more at bs (pieces.Token kind count) =
    with_first (record { kind = kind; at = at; end = at + count }) (more (is_minus kind) (at + count) (drop count bs))

-- the tokens of bytes from a place on, directly behind a minus or not; the number bounds the pieces
unfoldable pub tokens_from : ℕ → Bool → ℕ → List ℕ → List Token × ℕ
tokens_from zero m at bs = ([], at)
tokens_from (suc n) m at bs = tokens_by (tokens_from n) at bs (piece_of m bs)

-- the tokens of a text, and the first place where no token begins: its length, where the whole text is tokens
abbrev pub placed_tokens : List ℕ → List Token × ℕ
placed_tokens text = tokens_from (suc (length text)) false 0 text

-- ---- the answer

-- What a text is.
pub data TextAnswer : Type 0 where
  a_statement : Statement → TextAnswer
  a_syntax_error : ℕ → TextAnswer
  too_deep : TextAnswer

-- the place before which all but so many tokens stand
abbrev pub place_before : List Token → ℕ → ℕ → ℕ
place_before ts left stop = place_of (drop (length ts - left) ts) stop

-- a whole statement, unless it has too many levels
abbrev pub whole_answer : Statement → TextAnswer
whole_answer s = if nat_le (depth_of s) limit_deep then a_statement s else too_deep

-- the answer by what is read of the tokens: behind a whole statement no byte may be left that begins no token
abbrev pub answer_by : List ℕ → List Token → ℕ → Result Statement (Fault Tok) → TextAnswer
answer_by text ts stop (Ok s) = if nat_lt stop (length text) then a_syntax_error stop else whole_answer s
answer_by text ts stop (Err (Syntax us)) = a_syntax_error (place_before ts (length us) stop)
answer_by text ts stop (Err (Deep us)) = too_deep

abbrev pub answer_of_tokens : List ℕ → List Token × ℕ → TextAnswer
answer_of_tokens text placed = answer_by text placed.0 placed.1 (read_whole (statement limit_open) (toks text placed.0))

-- what a text is
unfoldable pub text_answer : List ℕ → TextAnswer
text_answer text = answer_of_tokens text (placed_tokens text)

-- ---- laws

-- the answer is that of the grammar, both ways
pub record IsAnswered (text : List ℕ) : Type 0 where
  pub statement : (s : Statement) → reads text s ↔ (text_answer text ≡ a_statement s)
  pub refused : (at : ℕ) → IsRefusedAt text at ↔ (text_answer text ≡ a_syntax_error at)
  pub deep : IsTooDeep text ↔ (text_answer text ≡ too_deep)

-- the tokens that are computed are those of the text
abbrev pub TokensAreComputed : Type 0
TokensAreComputed = (text : List ℕ) → IsFront text (placed_tokens text).0 (placed_tokens text).1

-- a statement that a text of bytes is, is one that the parser can give
abbrev pub AnswersAreWell : Type 0
AnswersAreWell = (text : List ℕ) (s : Statement) → IsBytes text → text_answer text ≡ a_statement s → IsWell s
