-- The numbers of a text's tokens have at most 63 bits.
use Rattle.std.proofs.Common.{◌≡◌, ℕ, ◌+◌, ◌-◌, min, Bool, true, false, if◌then◌else◌, nat_lt, ◌||◌, ◌&&◌, ◌==◌, List, [], ◌∷◌, take, map, codes, nat_eq, Option, Some, None, refl, sym, ap, ◌∙◌, arith}
use Rattle.std.proofs.lemmas.Bool.{ltb-true}
use Rattle.std.specs.Option.{option_map, option_and_then, option_or}
use Rattle.std.specs.List.{starts_with}
use Rattle.std.specs.Char.{is_ascii_digit}
use Rattle.sql_lex.specs.declared.pieces.Piece.TheVariants as pieces
use Rattle.sql_lex.specs.declared.token.Symbol.{Symbol}
use Rattle.sql_lex.specs.declared.token.Symbol.TheVariants as signs
use Rattle.sql_lex.specs.declared.token.Token.{Token}
use Rattle.sql_lex.specs.declared.token.TokenKind.{TokenKind}
use Rattle.sql_lex.specs.declared.token.TokenKind.TheVariants as kinds
use Rattle.sql_lex.specs.Begins.{sized, is_letter, name_kind, signed, symbol_of_one, symbol_of_two, short_symbol, token_of}
use Rattle.sql_lex.specs.Blanks.{blank_length}
use Rattle.sql_lex.specs.Lexes.{Front, stop', blank', token', IsFront}
use Rattle.sql_lex.specs.Pieces.{piece_by, piece_of}
use Rattle.sql_lex.specs.Quotes.{begins, closing, is_name, meant}
use Rattle.sql_parse_tokens.specs.Lexing.{bounded, bounded_kind}

-- a kind whose number, where it has one, has at most 63 bits
abbrev Small : TokenKind → Type 0
Small kind = bounded_kind kind ≡ kind

abbrev SmallKind : Option TokenKind → Type 0
SmallKind None = Unit {0}
SmallKind (Some kind) = Small kind

abbrev SmallToken : Option (TokenKind × ℕ) → Type 0
SmallToken None = Unit {0}
SmallToken (Some t) = Small t.0

small_if : (b : Bool) (s t : Option (TokenKind × ℕ)) → SmallToken s → SmallToken t → SmallToken (if b then s else t)
small_if true s t g h = g
small_if false s t g h = h

small_sized : (count : ℕ) (o : Option TokenKind) → SmallKind o → SmallToken (sized count o)
small_sized count None h = tt
small_sized count (Some kind) h = h

small_number : (b c : Bool) (n : ℕ) → nat_lt n 9223372036854775808 ≡ b → SmallKind (if b then Some (kinds.Number n) else if c then Some kinds.Least else None)
small_number true c n e = let l = ltb-true n 9223372036854775808 e in let m : min n 9223372036854775807 ≡ n = omega (arith, l) in ap kinds.Number m
small_number false true n e = refl
small_number false false n e = tt

small_signed : (count : ℕ) (o : Option Symbol) → SmallToken (signed count o)
small_signed count None = tt
small_signed count (Some s) = refl

small_or : (s t : Option (TokenKind × ℕ)) → SmallToken s → SmallToken t → SmallToken (option_or s t)
small_or None t g h = h
small_or (Some s) t g h = g

small_string : (o : Option ℕ) → SmallToken (option_map (λ count. (kinds.Text, 1 + count)) o)
small_string None = tt
small_string (Some n) = refl

small_quoted : (bs : List ℕ) (o : Option ℕ) → SmallToken (option_and_then (name_kind bs) o)
small_quoted bs None = tt
small_quoted bs (Some n) = small_if (is_name (meant 96 (take (n - 1) bs))) (Some (kinds.Quoted, 1 + n)) None refl tt

small_short : (bs : List ℕ) → SmallToken (short_symbol bs)
small_short [] = tt
small_short (a ∷ []) = small_signed 1 (symbol_of_one a)
small_short (a ∷ b ∷ bs) = small_or (signed 2 (symbol_of_two a b)) (signed 1 (symbol_of_one a)) (small_signed 2 (symbol_of_two a b)) (small_signed 1 (symbol_of_one a))

small_token : (m : Bool) (bs : List ℕ) → SmallToken (token_of m bs)
small_token m [] = tt
small_token m (b ∷ bs) =
    let number = small_sized _ _ (small_number _ _ _ refl) in
    small_if (is_ascii_digit b) _ _ number (
    small_if ((b == 120 || b == 88) && begins 39 bs) _ _ (small_if _ (Some (kinds.Text, _)) None refl tt) (
    small_if (is_letter b) _ _ (small_if _ (Some (kinds.Word, _)) None refl tt) (
    small_if (b == 39 || b == 34) _ _ (small_string (closing b bs)) (
    small_if (b == 96) _ _ (small_quoted bs (closing 96 bs)) (
    small_if (starts_with nat_eq (b ∷ bs) (codes "<=>")) (Some (kinds.Symbol signs.NullSafeEqual, 3)) (short_symbol (b ∷ bs)) refl (small_short (b ∷ bs)))))))

small_piece : (o : Option (TokenKind × ℕ)) (kind : TokenKind) (count : ℕ) → SmallToken o → piece_by o ≡ pieces.Token kind count → Small kind
small_piece None kind count h e = absurd cc
small_piece (Some t) kind count h e = let k : t.0 ≡ kind = cc in ap bounded_kind (sym k) ∙ (h ∙ k)

small_by : (b : Bool) (n : ℕ) (o : Option (TokenKind × ℕ)) (kind : TokenKind) (count : ℕ) → SmallToken o → (if b then pieces.Blank n else piece_by o) ≡ pieces.Token kind count → Small kind
small_by true n o kind count h e = absurd cc
small_by false n o kind count h e = small_piece o kind count h e

small_of : (m : Bool) (bs : List ℕ) (kind : TokenKind) (count : ℕ) → piece_of m bs ≡ pieces.Token kind count → Small kind
small_of m bs kind count e = small_by (nat_lt 0 (blank_length bs)) (blank_length bs) (token_of m bs) kind count (small_token m bs) e

bounded_from : {m : Bool} {at : ℕ} {bs : List ℕ} {ts : List Token} {to : ℕ} → Front m at bs ts to → map bounded ts ≡ ts
bounded_from (stop' e) = refl
bounded_from (blank' count e some within f) = bounded_from f
bounded_from {m = m} {at = at} {bs = bs} (token' {ts = ts} kind count e some within f) =
    rw (bounded_from f, small_of m bs kind count e) refl

-- the tokens of a text are as they are
pub bounded_front : (text : List ℕ) (ts : List Token) (stop : ℕ) → IsFront text ts stop → map bounded ts ≡ ts
bounded_front text ts stop f = bounded_from f
