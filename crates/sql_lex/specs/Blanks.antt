-- White space and comments.
use Rattle.std.specs.Prelude.{◌<◌, ℕ, suc, ◌+◌, Bool, true, false, not, ◌||◌, ◌&&◌, ◌==◌, nat_eq, if◌then◌else◌, List, [], ◌∷◌, drop, codes, Option, Some, None, unwrap_or}
use Rattle.std.specs.List.{starts_with}
use Rattle.sql_lex.specs.Quotes.{begins, further}

-- tab, line feed, carriage return or space
abbrev pub is_white : ℕ → Bool
is_white b = b == 9 || b == 10 || b == 13 || b == 32

-- whether a text begins with white space
abbrev pub is_white_first : List ℕ → Bool
is_white_first [] = false
is_white_first (b ∷ bs) = is_white b

-- whether white space or the end of the text is next
abbrev pub is_white_next : List ℕ → Bool
is_white_next [] = true
is_white_next (b ∷ bs) = is_white b

-- the bytes up to and with the next line feed, or to the end of the text
abbrev pub line_length : List ℕ → ℕ
line_length [] = 0
line_length (b ∷ bs) = if b == 10 then 1 else suc (line_length bs)

-- whether a star is the end of a comment
abbrev pub closes_block : ℕ → List ℕ → Bool
closes_block b bs = b == 42 && begins 47 bs

-- the bytes up to and with the first */
abbrev pub block_length : List ℕ → Option ℕ
block_length [] = None
block_length (b ∷ bs) = if closes_block b bs then Some 2 else further 1 (block_length bs)

-- two dashes, then white space or the end
abbrev pub opens_line : List ℕ → Bool
opens_line bs = starts_with nat_eq bs (codes "--") && is_white_next (drop 2 bs)

-- a slash and a star, but no exclamation mark
abbrev pub opens_block : List ℕ → Bool
opens_block bs = starts_with nat_eq bs (codes "/*") && not (begins 33 (drop 2 bs))

-- how many bytes of white space or of one comment a text begins with: 0 where it begins with neither
abbrev pub blank_length : List ℕ → ℕ
blank_length bs =
    if is_white_first bs then 1
    else if opens_line bs then 2 + line_length (drop 2 bs)
    else if opens_block bs then unwrap_or (further 2 (block_length (drop 2 bs))) 0
    else 0

-- white space and whole comments
pub data IsBlank : List ℕ → Type 0 where
  nothing' : IsBlank []
  piece' : {bs : List ℕ} → 0 < blank_length bs → IsBlank (drop (blank_length bs) bs) → IsBlank bs
