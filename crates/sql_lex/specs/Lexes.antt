-- The tokens of a text.
use Rattle.std.specs.Prelude.{◌≡◌, ◌<◌, ◌≤◌, ℕ, ◌+◌, Bool, true, false, List, [], ◌∷◌, length, take, drop, Result, Ok, Err}
use Rattle.sql_lex.specs.declared.lexer.LexRefusal.{LexRefusal}
use Rattle.sql_lex.specs.declared.lexer.LexRefusal.TheVariants.{At, NoMemory}
use Rattle.sql_lex.specs.declared.pieces.Piece.TheVariants as pieces
use Rattle.sql_lex.specs.declared.token.Symbol.TheVariants as signs
use Rattle.sql_lex.specs.declared.token.Token.{Token}
use Rattle.sql_lex.specs.declared.token.TokenKind.{TokenKind}
use Rattle.sql_lex.specs.declared.token.TokenKind.TheVariants as kinds
use Rattle.sql_lex.specs.Pieces.{piece_of}
use Rattle.sql_lex.specs.Plain.{Plain, plain_by, plain_tokens}

abbrev pub is_minus : TokenKind → Bool
is_minus (kinds.Symbol signs.Minus) = true
is_minus kind = false

-- Behind a minus or not, the bytes from one place on have these tokens, up to a place where no token begins.
pub data Front : Bool → ℕ → List ℕ → List Token → ℕ → Type 0 where
  stop' : {m : Bool} {at : ℕ} {bs : List ℕ} → piece_of m bs ≡ pieces.Nothing → Front m at bs [] at
  blank' : {m : Bool} {at : ℕ} {bs : List ℕ} {ts : List Token} {to : ℕ} (count : ℕ) → piece_of m bs ≡ pieces.Blank count
      → 0 < count → count ≤ length bs → Front false (at + count) (drop count bs) ts to → Front m at bs ts to
  token' : {m : Bool} {at : ℕ} {bs : List ℕ} {ts : List Token} {to : ℕ} (kind : TokenKind) (count : ℕ) → piece_of m bs ≡ pieces.Token kind count
      → 0 < count → count ≤ length bs → Front (is_minus kind) (at + count) (drop count bs) ts to
      → Front m at bs (record { kind = kind; at = at; end = at + count } ∷ ts) to

-- the tokens of a text up to its end, or to the first byte that begins no token
abbrev pub IsFront : List ℕ → List Token → ℕ → Type 0
IsFront text ts stop = Front false 0 text ts stop

-- the whole text is these tokens, with white space and comments
abbrev pub Lexes : List ℕ → List Token → Type 0
Lexes text ts = IsFront text ts (length text)

-- this is the first byte that begins no token
abbrev pub Refuses : List ℕ → ℕ → Type 0
Refuses text at = (at < length text) × ((ts : List Token) × IsFront text ts at)

abbrev pub RefusesAt : List ℕ → LexRefusal → Type 0
RefusesAt text (At k) = Refuses text k
RefusesAt text NoMemory = Unit {0}

-- these tokens, unless memory ran out
abbrev pub LexesOnly : List Token → Result (List Token) LexRefusal → Type 0
LexesOnly ts (Ok us) = us ≡ ts
LexesOnly ts (Err (At k)) = ⊥
LexesOnly ts (Err NoMemory) = Unit {0}

-- this place, unless memory ran out
abbrev pub RefusesOnly : ℕ → Result (List Token) LexRefusal → Type 0
RefusesOnly at (Ok us) = ⊥
RefusesOnly at (Err (At k)) = k ≡ at
RefusesOnly at (Err NoMemory) = Unit {0}

-- Behind a minus or not, these bytes say these tokens and nothing else.
pub data Spells : Bool → List ℕ → List Plain → Type 0 where
  end' : {m : Bool} → Spells m [] []
  gap' : {m : Bool} {bs : List ℕ} {ps : List Plain} (count : ℕ) → piece_of m bs ≡ pieces.Blank count
      → 0 < count → count ≤ length bs → Spells false (drop count bs) ps → Spells m bs ps
  say' : {m : Bool} {bs : List ℕ} {ps : List Plain} (kind : TokenKind) (count : ℕ) → piece_of m bs ≡ pieces.Token kind count
      → 0 < count → count ≤ length bs → Spells (is_minus kind) (drop count bs) ps → Spells m bs (plain_by kind (take count bs) ∷ ps)

-- a text says these tokens
abbrev pub Says : List ℕ → List Plain → Type 0
Says text ps = Spells false text ps

-- the whole text was read, and says this
abbrev pub FrontSays : List ℕ → List Plain → List Token × ℕ → Type 0
FrontSays text ps r = (plain_tokens text r.0 ≡ ps) × (r.1 ≡ length text)

-- tokens that say this, unless memory ran out
abbrev pub SaysOnly : List ℕ → List Plain → Result (List Token) LexRefusal → Type 0
SaysOnly text ps (Ok ts) = plain_tokens text ts ≡ ps
SaysOnly text ps (Err (At k)) = ⊥
SaysOnly text ps (Err NoMemory) = Unit {0}
