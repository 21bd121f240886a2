-- The token that a text begins with.
use Rattle.std.specs.Prelude.{ℕ, ◌+◌, ◌-◌, ◌*◌, ◌%◌, Bool, ◌||◌, ◌&&◌, ◌==◌, nat_le, nat_lt, nat_eq, if◌then◌else◌, List, [], ◌∷◌, take, drop, codes, Option, Some, None}
use Rattle.std.specs.Char.{is_ascii_digit, is_ascii_alphabetic}
use Rattle.std.specs.List.{starts_with, prefix_len}
use Rattle.std.specs.Option.{option_map, option_and_then, option_or}
use Rattle.hex.specs.Hex.{is_hex_digit}
use Rattle.sql_lex.specs.declared.token.Symbol.{Symbol}
use Rattle.sql_lex.specs.declared.token.Symbol.TheVariants as signs
use Rattle.sql_lex.specs.declared.token.TokenKind.{TokenKind}
use Rattle.sql_lex.specs.declared.token.TokenKind.TheVariants as kinds
use Rattle.sql_lex.specs.Quotes.{begins, closing, meant, is_name}

-- a kind of token with its number of bytes
abbrev pub sized : ℕ → Option TokenKind → Option (TokenKind × ℕ)
sized count = option_map (λ kind. (kind, count))

-- ---- numbers
-- the number n with digits behind it
abbrev pub number_from : ℕ → List ℕ → ℕ
number_from n [] = n
number_from n (d ∷ ds) = number_from (10 * n + (d - 48)) ds

-- a number of at most 63 bits, or one more directly behind a minus
abbrev pub number_kind : Bool → ℕ → Option TokenKind
number_kind behind_minus n =
    if nat_lt n 9223372036854775808 then Some (kinds.Number n)
    else if behind_minus && n == 9223372036854775808 then Some kinds.Least
    else None

-- a digit and the digits behind it
abbrev pub number_token : Bool → List ℕ → Option (TokenKind × ℕ)
number_token behind_minus bs =
    let count = 1 + prefix_len is_ascii_digit (drop 1 bs) in
    sized count (number_kind behind_minus (number_from 0 (take count bs)))

-- ---- words and names
abbrev pub is_letter : ℕ → Bool
is_letter b = is_ascii_alphabetic b || b == 95

-- a letter, a digit or a dollar sign
abbrev pub is_word_byte : ℕ → Bool
is_word_byte b = is_letter b || is_ascii_digit b || b == 36

-- a letter and what goes on with it, together at most 64 bytes
abbrev pub word_token : List ℕ → Option (TokenKind × ℕ)
word_token bs =
    let count = 1 + prefix_len is_word_byte (drop 1 bs) in
    if nat_le count 64 then Some (kinds.Word, count) else None

-- a name, from behind its opening backquote, where the closing one is the byte before `count`
abbrev pub name_kind : List ℕ → ℕ → Option (TokenKind × ℕ)
name_kind bs count = if is_name (meant 96 (take (count - 1) bs)) then Some (kinds.Quoted, 1 + count) else None

abbrev pub quoted_token : List ℕ → Option (TokenKind × ℕ)
quoted_token bs = option_and_then (name_kind bs) (closing 96 bs)

-- ---- literals
-- a string, from behind its opening quote
abbrev pub string_token : ℕ → List ℕ → Option (TokenKind × ℕ)
string_token quote bs = option_map (λ count. (kinds.Text, 1 + count)) (closing quote bs)

-- an even number of hexadecimal digits and a quote, from behind the x and the opening quote
abbrev pub hex_token : List ℕ → Option (TokenKind × ℕ)
hex_token bs =
    let count = prefix_len is_hex_digit bs in
    if count % 2 == 0 && begins 39 (drop count bs) then Some (kinds.Text, 3 + count) else None

-- ---- symbols
-- the symbol of one byte
abbrev pub symbol_of_one : ℕ → Option Symbol
symbol_of_one b =
    if b == 40 then Some signs.Open
    else if b == 41 then Some signs.Close
    else if b == 44 then Some signs.Comma
    else if b == 59 then Some signs.Semicolon
    else if b == 46 then Some signs.Dot
    else if b == 64 then Some signs.At
    else if b == 61 then Some signs.Equal
    else if b == 60 then Some signs.Less
    else if b == 62 then Some signs.Greater
    else if b == 43 then Some signs.Plus
    else if b == 45 then Some signs.Minus
    else if b == 42 then Some signs.Star
    else if b == 37 then Some signs.Percent
    else None

-- the symbol of two bytes
abbrev pub symbol_of_two : ℕ → ℕ → Option Symbol
symbol_of_two a b =
    if a == 64 && b == 64 then Some signs.AtAt
    else if a == 58 && b == 61 then Some signs.Assign
    else if a == 60 && b == 62 || a == 33 && b == 61 then Some signs.NotEqual
    else if a == 60 && b == 61 then Some signs.LessEqual
    else if a == 62 && b == 61 then Some signs.GreaterEqual
    else None

-- a symbol with its number of bytes
abbrev pub signed : ℕ → Option Symbol → Option (TokenKind × ℕ)
signed count = option_map (λ s. (kinds.Symbol s, count))

-- a symbol of one byte or two, if possible of two
abbrev pub short_symbol : List ℕ → Option (TokenKind × ℕ)
short_symbol [] = None
short_symbol (a ∷ []) = signed 1 (symbol_of_one a)
short_symbol (a ∷ b ∷ bs) = option_or (signed 2 (symbol_of_two a b)) (signed 1 (symbol_of_one a))

-- the longest symbol
abbrev pub symbol_token : List ℕ → Option (TokenKind × ℕ)
symbol_token bs =
    if starts_with nat_eq bs (codes "<=>") then Some (kinds.Symbol signs.NullSafeEqual, 3) else short_symbol bs

-- ---- any token
-- the token of a text with its first byte and what is behind it
abbrev pub token_by : Bool → ℕ → List ℕ → Option (TokenKind × ℕ)
token_by behind_minus b bs =
    if is_ascii_digit b then number_token behind_minus (b ∷ bs)
    else if (b == 120 || b == 88) && begins 39 bs then hex_token (drop 1 bs)
    else if is_letter b then word_token (b ∷ bs)
    else if b == 39 || b == 34 then string_token b bs
    else if b == 96 then quoted_token bs
    else symbol_token (b ∷ bs)

-- the token that a text begins with, which stands directly behind a minus or not, and its number of bytes
abbrev pub token_of : Bool → List ℕ → Option (TokenKind × ℕ)
token_of behind_minus [] = None
token_of behind_minus (b ∷ bs) = token_by behind_minus b bs
