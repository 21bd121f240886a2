-- A piece of a text has at least one byte, and no more than there are.
use Rattle.std.proofs.Common.{◌≡◌, ◌<◌, ◌≤◌, ℕ, zero, suc, ◌+◌, ◌-◌, ◌%◌, Bool, true, false, not, ◌&&◌, ◌||◌, ◌==◌, List, [], ◌∷◌, length, take, drop, Option, Some, None, refl, subst, arith, cond}
use Rattle.std.proofs.lemmas.Bool.{and_parts, ltb-true}
use Rattle.std.specs.Prelude.{nat_le, nat_lt, nat_eq, codes, unwrap_or}
use Rattle.std.specs.Char.{is_ascii_digit}
use Rattle.std.specs.List.{starts_with, prefix_len}
use Rattle.std.specs.Option.{option_map, option_and_then, option_or}
use Rattle.std.proofs.lemmas.List.Sums.{prefix_len-le-length}
use Rattle.hex.specs.Hex.{is_hex_digit}
use Rattle.sql_lex.specs.declared.pieces.Piece.TheVariants as pieces
use Rattle.sql_lex.specs.declared.token.Symbol.{Symbol}
use Rattle.sql_lex.specs.declared.token.Symbol.TheVariants as signs
use Rattle.sql_lex.specs.declared.token.TokenKind.{TokenKind}
use Rattle.sql_lex.specs.declared.token.TokenKind.TheVariants as kinds
use Rattle.sql_lex.specs.Begins.{sized, number_from, number_kind, is_letter, is_word_byte, number_token, word_token, name_kind, quoted_token, string_token, hex_token, symbol_of_one, symbol_of_two, signed, short_symbol, symbol_token, token_of}
use Rattle.sql_lex.specs.Blanks.{is_white_first, is_white_next, line_length, closes_block, block_length, opens_line, opens_block, blank_length}
use Rattle.sql_lex.specs.Pieces.{piece_by, piece_of, IsWithin}
use Rattle.sql_lex.specs.Quotes.{begins, further, leads, closes, closing_from, closing, meant, is_name}

-- ---- counts and tokens within some bytes
abbrev Fits : ℕ → Option ℕ → Type 0
Fits most None = Unit {0}
Fits most (Some n) = (0 < n) × (n ≤ most)

abbrev Token : Type 0
Token = TokenKind × ℕ

abbrev Within : ℕ → Option Token → Type 0
Within most None = Unit {0}
Within most (Some t) = (0 < t.1) × (t.1 ≤ most)

one_or : (b : Bool) (most : ℕ) (o : Option ℕ) → Fits most o → Fits (suc most) (cond b (Some 1) (further 1 o))
one_or true most o h = (omega arith, omega arith)
one_or false most None h = tt
one_or false most (Some n) h = let p = h.0 in let q = h.1 in (omega (arith, p), omega (arith, q))

closing_fits : (quote : ℕ) (held : Bool) (bs : List ℕ) → Fits (length bs) (closing_from quote held bs)
closing_fits quote held [] = tt
closing_fits quote held (b ∷ bs) = one_or (closes quote held b bs) (length bs) (closing_from quote (leads quote held b) bs) (closing_fits quote (leads quote held b) bs)

two_or : (b : Bool) (most : ℕ) (o : Option ℕ) → (b ≡ true → 1 ≤ most) → Fits most o → Fits (suc most) (cond b (Some 2) (further 1 o))
two_or true most o one h = let l = one refl in (omega arith, omega (arith, l))
two_or false most None one h = tt
two_or false most (Some n) one h = let p = h.0 in let q = h.1 in (omega (arith, p), omega (arith, q))

begins_some : (c : ℕ) (bs : List ℕ) → begins c bs ≡ true → 1 ≤ length bs
begins_some c [] h = cc
begins_some c (b ∷ bs) h = omega arith

closes_some : (b : ℕ) (bs : List ℕ) → closes_block b bs ≡ true → 1 ≤ length bs
closes_some b bs h = begins_some 47 bs (and_parts (b == 42) (begins 47 bs) h).1

block_fits : (bs : List ℕ) → Fits (length bs) (block_length bs)
block_fits [] = tt
block_fits (b ∷ bs) = two_or (closes_block b bs) (length bs) (block_length bs) (closes_some b bs) (block_fits bs)

line_fits : (bs : List ℕ) → line_length bs ≤ length bs
line_fits [] = omega arith
line_fits (b ∷ bs) = by (b == 10) (line_fits bs)
  where
    by : (c : Bool) → line_length bs ≤ length bs → cond c 1 (suc (line_length bs)) ≤ suc (length bs)
    by true l = omega arith
    by false l = omega (arith, l)

-- ---- white space and comments
two_first : (a b : ℕ) (bs : List ℕ) → starts_with nat_eq bs (a ∷ b ∷ []) ≡ true → length (drop 2 bs) + 2 ≡ length bs
two_first a b [] h = cc
two_first a b (c ∷ []) h = absurd (by (nat_eq a c) h)
  where
    by : (x : Bool) → (x && false) ≡ true → ⊥
    by true e = cc
    by false e = cc
two_first a b (c ∷ d ∷ bs) h = omega arith

white_some : (bs : List ℕ) → is_white_first bs ≡ true → 1 ≤ length bs
white_some [] h = cc
white_some (b ∷ bs) h = omega arith

unwrapped : (n most : ℕ) (o : Option ℕ) → Fits most o → unwrap_or (further n o) 0 ≤ n + most
unwrapped n most None h = omega arith
unwrapped n most (Some k) h = let l = h.1 in omega (arith, l)

blank_fits : (bs : List ℕ) → blank_length bs ≤ length bs
blank_fits bs = white (is_white_first bs) refl
  where
    block : (c : Bool) → opens_block bs ≡ c → cond c (unwrap_or (further 2 (block_length (drop 2 bs))) 0) 0 ≤ length bs
    block true e =
        let l = unwrapped 2 (length (drop 2 bs)) (block_length (drop 2 bs)) (block_fits (drop 2 bs)) in
        let m = two_first 47 42 bs (and_parts (starts_with nat_eq bs (codes "/*")) (not (begins 33 (drop 2 bs))) e).0 in
        omega (arith, l, m)
    block false e = omega arith

    line : (c : Bool) → opens_line bs ≡ c → cond c (2 + line_length (drop 2 bs)) (cond (opens_block bs) (unwrap_or (further 2 (block_length (drop 2 bs))) 0) 0) ≤ length bs
    line true e =
        let l = line_fits (drop 2 bs) in
        let m = two_first 45 45 bs (and_parts (starts_with nat_eq bs (codes "--")) (is_white_next (drop 2 bs)) e).0 in
        omega (arith, l, m)
    line false e = block (opens_block bs) refl

    white : (c : Bool) → is_white_first bs ≡ c
        → cond c 1 (cond (opens_line bs) (2 + line_length (drop 2 bs)) (cond (opens_block bs) (unwrap_or (further 2 (block_length (drop 2 bs))) 0) 0)) ≤ length bs
    white true e = white_some bs e
    white false e = line (opens_line bs) refl

-- ---- tokens
sized_fits : (count most : ℕ) (o : Option TokenKind) → 0 < count → count ≤ most → Within most (sized count o)
sized_fits count most None p l = tt
sized_fits count most (Some k) p l = (p, l)

signed_fits : (count most : ℕ) (o : Option Symbol) → 0 < count → count ≤ most → Within most (signed count o)
signed_fits count most None p l = tt
signed_fits count most (Some k) p l = (p, l)

if_fits : (c : Bool) (most : ℕ) (x y : Option Token) → Within most x → Within most y → Within most (cond c x y)
if_fits true most x y h k = h
if_fits false most x y h k = k

number_fits : (m : Bool) (b : ℕ) (bs : List ℕ) → Within (length (b ∷ bs)) (number_token m (b ∷ bs))
number_fits m b bs =
    let l = prefix_len-le-length is_ascii_digit bs in
    sized_fits (1 + prefix_len is_ascii_digit bs) (length (b ∷ bs)) (number_kind m (number_from 0 (take (1 + prefix_len is_ascii_digit bs) (b ∷ bs)))) (omega arith) (omega (arith, l))

word_fits : (b : ℕ) (bs : List ℕ) → Within (length (b ∷ bs)) (word_token (b ∷ bs))
word_fits b bs =
    let l = prefix_len-le-length is_word_byte bs in
    if_fits (nat_le (1 + prefix_len is_word_byte bs) 64) (length (b ∷ bs)) (Some (kinds.Word, 1 + prefix_len is_word_byte bs)) None (omega arith, omega (arith, l)) tt

string_fits : (q : ℕ) (bs : List ℕ) → Within (suc (length bs)) (string_token q bs)
string_fits q bs = by (closing q bs) (closing_fits q false bs)
  where
    by : (o : Option ℕ) → Fits (length bs) o → Within (suc (length bs)) (option_map (λ count. (kinds.Text, 1 + count)) o)
    by None h = tt
    by (Some n) h = let l = h.1 in (omega arith, omega (arith, l))

quoted_fits : (bs : List ℕ) → Within (suc (length bs)) (quoted_token bs)
quoted_fits bs = by (closing 96 bs) (closing_fits 96 false bs)
  where
    by : (o : Option ℕ) → Fits (length bs) o → Within (suc (length bs)) (option_and_then (name_kind bs) o)
    by None h = tt
    by (Some n) h = let l = h.1 in if_fits (is_name (meant 96 (take (n - 1) bs))) (suc (length bs)) (Some (kinds.Quoted, 1 + n)) None (omega arith, omega (arith, l)) tt

begins_drop : (c n : ℕ) (bs : List ℕ) → begins c (drop n bs) ≡ true → n < length bs
begins_drop c n [] h = absurd (by n h)
  where
    by : (n : ℕ) → begins c (drop n []) ≡ true → ⊥
    by zero e = cc
    by (suc k) e = cc
begins_drop c zero (b ∷ bs) h = omega arith
begins_drop c (suc n) (b ∷ bs) h = let k = begins_drop c n bs h in omega (arith, k)

hex_fits : (bs : List ℕ) → Within (3 + length bs - 1) (hex_token bs)
hex_fits bs = by (prefix_len is_hex_digit bs % 2 == 0 && begins 39 (drop (prefix_len is_hex_digit bs) bs)) refl
  where
    by : (c : Bool) → (prefix_len is_hex_digit bs % 2 == 0 && begins 39 (drop (prefix_len is_hex_digit bs) bs)) ≡ c
        → Within (3 + length bs - 1) (cond c (Some (kinds.Text, 3 + prefix_len is_hex_digit bs)) None)
    by true e =
        let l = begins_drop 39 (prefix_len is_hex_digit bs) bs (and_parts (prefix_len is_hex_digit bs % 2 == 0) (begins 39 (drop (prefix_len is_hex_digit bs) bs)) e).1 in
        (omega arith, omega (arith, l))
    by false e = tt

option_or_fits : (most : ℕ) (x y : Option Token) → Within most x → Within most y → Within most (option_or x y)
option_or_fits most None y h k = k
option_or_fits most (Some t) y h k = h

short_fits : (bs : List ℕ) → Within (length bs) (short_symbol bs)
short_fits [] = tt
short_fits (a ∷ []) = signed_fits 1 1 (symbol_of_one a) (omega arith) (omega arith)
short_fits (a ∷ b ∷ bs) =
    option_or_fits (length (a ∷ b ∷ bs)) (signed 2 (symbol_of_two a b)) (signed 1 (symbol_of_one a))
    (signed_fits 2 (length (a ∷ b ∷ bs)) (symbol_of_two a b) (omega arith) (omega arith)) (signed_fits 1 (length (a ∷ b ∷ bs)) (symbol_of_one a) (omega arith) (omega arith))

three_first : (bs : List ℕ) → starts_with nat_eq bs (codes "<=>") ≡ true → 3 ≤ length bs
three_first [] h = cc
three_first (a ∷ []) h = absurd (by (nat_eq 60 a) h)
  where
    by : (x : Bool) → (x && false) ≡ true → ⊥
    by true e = cc
    by false e = cc
three_first (a ∷ b ∷ []) h = absurd (by (nat_eq 60 a) (nat_eq 61 b) h)
  where
    by : (x y : Bool) → (x && (y && false)) ≡ true → ⊥
    by true true e = cc
    by true false e = cc
    by false y e = cc
three_first (a ∷ b ∷ c ∷ bs) h = omega arith

symbol_fits : (bs : List ℕ) → Within (length bs) (symbol_token bs)
symbol_fits bs = by (starts_with nat_eq bs (codes "<=>")) refl
  where
    by : (c : Bool) → starts_with nat_eq bs (codes "<=>") ≡ c → Within (length bs) (cond c (Some (kinds.Symbol signs.NullSafeEqual, 3)) (short_symbol bs))
    by true e = (omega arith, three_first bs e)
    by false e = short_fits bs

-- what stands behind the tests for a hexadecimal literal, and behind that for a digit
abbrev behind_hex : ℕ → List ℕ → Option Token
behind_hex b bs =
    cond (is_letter b) (word_token (b ∷ bs)) (cond (b == 39 || b == 34) (string_token b bs) (cond (b == 96) (quoted_token bs) (symbol_token (b ∷ bs))))

abbrev behind_digit : ℕ → List ℕ → Option Token
behind_digit b bs = cond ((b == 120 || b == 88) && begins 39 bs) (hex_token (drop 1 bs)) (behind_hex b bs)

token_fits : (m : Bool) (bs : List ℕ) → Within (length bs) (token_of m bs)
token_fits m [] = tt
token_fits m (b ∷ bs) =
    if_fits (is_ascii_digit b) (length (b ∷ bs)) (number_token m (b ∷ bs)) (behind_digit b bs) (number_fits m b bs) (hex ((b == 120 || b == 88) && begins 39 bs) refl)
  where
    rest : Within (length (b ∷ bs)) (behind_hex b bs)
    rest =
        if_fits (is_letter b) (length (b ∷ bs)) (word_token (b ∷ bs)) (cond (b == 39 || b == 34) (string_token b bs) (cond (b == 96) (quoted_token bs) (symbol_token (b ∷ bs)))) (word_fits b bs)
        (if_fits (b == 39 || b == 34) (length (b ∷ bs)) (string_token b bs) (cond (b == 96) (quoted_token bs) (symbol_token (b ∷ bs))) (string_fits b bs)
        (if_fits (b == 96) (length (b ∷ bs)) (quoted_token bs) (symbol_token (b ∷ bs)) (quoted_fits bs) (symbol_fits (b ∷ bs))))

    one_more : (cs : List ℕ) → 1 ≤ length cs → Within (3 + length (drop 1 cs) - 1) (hex_token (drop 1 cs)) → Within (suc (length cs)) (hex_token (drop 1 cs))
    one_more [] l h = absurd (omega (arith, l))
    one_more (c ∷ cs) l h = subst (λ k. Within k (hex_token cs)) (omega arith) h

    hex : (c : Bool) → ((b == 120 || b == 88) && begins 39 bs) ≡ c → Within (length (b ∷ bs)) (cond c (hex_token (drop 1 bs)) (behind_hex b bs))
    hex true e = one_more bs (begins_some 39 bs (and_parts (b == 120 || b == 88) (begins 39 bs) e).1) (hex_fits (drop 1 bs))
    hex false e = rest

-- ---- pieces
pub piece_within : (m : Bool) (bs : List ℕ) → IsWithin (length bs) (piece_of m bs)
piece_within m bs = by (nat_lt 0 (blank_length bs)) refl
  where
    token : (o : Option Token) → Within (length bs) o → IsWithin (length bs) (piece_by o)
    token None h = tt
    token (Some t) h = h

    by : (c : Bool) → nat_lt 0 (blank_length bs) ≡ c → IsWithin (length bs) (cond c (pieces.Blank (blank_length bs)) (piece_by (token_of m bs)))
    by true e = (ltb-true 0 (blank_length bs) e, blank_fits bs)
    by false e = token (token_of m bs) (token_fits m bs)
