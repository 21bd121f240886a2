-- A token without its place: what it says.
use Rattle.std.specs.Prelude.{ℕ, ◌-◌, ◌||◌, ◌==◌, if◌then◌else◌, List, [], ◌∷◌, length, take, drop, map, Option, None, unwrap_or}
use Rattle.std.specs.Result.{result_ok}
use Rattle.hex.specs.Hex.{decode_of}
use Rattle.sql_lex.specs.declared.keyword.Keyword.{Keyword}
use Rattle.sql_lex.specs.declared.token.Symbol.{Symbol}
use Rattle.sql_lex.specs.declared.token.Token.{Token}
use Rattle.sql_lex.specs.declared.token.TokenKind.{TokenKind}
use Rattle.sql_lex.specs.declared.token.TokenKind.TheVariants as kinds
use Rattle.sql_lex.specs.Folded.{folded}
use Rattle.sql_lex.specs.Keywords.{keyword_of}
use Rattle.sql_lex.specs.Quotes.{meant}

pub data Plain : Type 0 where
  -- a name or a keyword without quotes, in lower case
  word : List ℕ → Plain
  -- a name in backquotes, in lower case
  quoted : List ℕ → Plain
  number : ℕ → Plain
  -- 9223372036854775808 directly behind a minus
  least : Plain
  -- the bytes that a string or a hexadecimal literal stands for
  text : List ℕ → Plain
  symbol : Symbol → Plain

-- the bytes from one place to another
abbrev pub bytes_at : List ℕ → ℕ → ℕ → List ℕ
bytes_at bs at end = take (end - at) (drop at bs)

-- what stands between the first and the last byte
abbrev pub inside : List ℕ → List ℕ
inside bs = take (length bs - 2) (drop 1 bs)

-- the name in backquotes
abbrev pub quoted_name : List ℕ → List ℕ
quoted_name bs = folded (meant 96 (inside bs))

-- the bytes that pairs of hexadecimal digits stand for
abbrev pub hex_bytes : List ℕ → List ℕ
hex_bytes digits = unwrap_or (result_ok (decode_of digits)) []

-- the bytes that a literal stands for, X'..' or a string in its quotes
abbrev pub literal_bytes : List ℕ → List ℕ
literal_bytes [] = []
literal_bytes (b ∷ bs) = if b == 120 || b == 88 then hex_bytes (inside bs) else meant b (inside (b ∷ bs))

-- what a token of some kind says by its bytes
abbrev pub plain_by : TokenKind → List ℕ → Plain
plain_by kinds.Word bs = word (folded bs)
plain_by kinds.Quoted bs = quoted (quoted_name bs)
plain_by (kinds.Number n) bs = number n
plain_by kinds.Least bs = least
plain_by kinds.Text bs = text (literal_bytes bs)
plain_by (kinds.Symbol s) bs = symbol s

abbrev pub plain_token : List ℕ → Token → Plain
plain_token bs t = plain_by t.kind (bytes_at bs t.at t.end)

abbrev pub plain_tokens : List ℕ → List Token → List Plain
plain_tokens bs = map (plain_token bs)

-- the name that a token may be, in lower case; empty for a token that is none
abbrev pub name_in : Plain → List ℕ
name_in (word w) = w
name_in (quoted w) = w
name_in (number n) = []
name_in least = []
name_in (text t) = []
name_in (symbol s) = []

-- the bytes of a literal; empty for a token that is none
abbrev pub text_in : Plain → List ℕ
text_in (word w) = []
text_in (quoted w) = []
text_in (number n) = []
text_in least = []
text_in (text t) = t
text_in (symbol s) = []

-- the keyword that a token is, where it is one
abbrev pub keyword_in : Plain → Option Keyword
keyword_in (word w) = keyword_of w
keyword_in (quoted w) = None
keyword_in (number n) = None
keyword_in least = None
keyword_in (text t) = None
keyword_in (symbol s) = None
