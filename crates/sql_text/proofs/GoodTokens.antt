-- The tokens of a text of bytes are good.
use Rattle.std.proofs.Common.{◌≡◌, ◌<◌, ◌≤◌, ℕ, zero, suc, ◌+◌, ◌-◌, Bool, true, false, List, [], ◌∷◌, ◌++◌, length, take, drop, Option, Some, None, Result, Ok, Err, refl, sym, ◌∙◌, ap, subst, arith}
use Rattle.std.proofs.lemmas.Bool.{and_parts, and_from, leb-true, le-leb, ltb-true, agree_below_at}
use Rattle.std.proofs.lemmas.List.{drop-drop}
use Rattle.std.specs.Prelude.{◌&&◌, ◌||◌, ◌==◌, not, nat_le, nat_lt, nat_eq, codes, if◌then◌else◌, unwrap_or}
use Rattle.std.specs.Char.{is_ascii_digit, to_ascii_lowercase}
use Rattle.std.specs.List.{list_all, prefix_len, starts_with}
use Rattle.std.specs.Option.{option_map, option_and_then, option_or}
use Rattle.std.specs.Result.{result_ok}
use Rattle.hex.specs.Hex.{IsBytes, decode_of, is_hex_digit}
use Rattle.hex.specs.declared.error.FromHexError.{FromHexError}
use Rattle.hex.proofs.HexLemmas.{decode_of-ok}
use Rattle.val_types.specs.declared.ops.Func.{Func}
use Rattle.sql_lex.specs.declared.keyword.Keyword.{Keyword}
use Rattle.sql_lex.specs.declared.pieces.Piece.{Piece}
use Rattle.sql_lex.specs.declared.pieces.Piece.TheVariants as pieces
use Rattle.sql_lex.specs.declared.token.Symbol.{Symbol}
use Rattle.sql_lex.specs.declared.token.Symbol.TheVariants as signs
use Rattle.sql_lex.specs.declared.token.Token.{Token}
use Rattle.sql_lex.specs.declared.token.TokenKind.{TokenKind}
use Rattle.sql_lex.specs.declared.token.TokenKind.TheVariants as kinds
use Rattle.sql_lex.specs.Begins.{sized, number_kind, number_token, is_letter, is_word_byte, word_token, name_kind, quoted_token, string_token, hex_token, symbol_of_one, symbol_of_two, signed, short_symbol, symbol_token, token_by, token_of}
use Rattle.sql_lex.specs.Blanks.{blank_length}
use Rattle.sql_lex.specs.Folded.{folded}
use Rattle.sql_lex.specs.Keywords.{keyword_of}
use Rattle.sql_lex.specs.Lexes.{Front, stop', blank', token', Lexes, is_minus}
use Rattle.sql_lex.specs.Pieces.{piece_of, piece_by}
use Rattle.sql_lex.specs.Plain.{plain_by, inside, hex_bytes, literal_bytes}
use Rattle.sql_lex.specs.Quotes.{begins, closing, leads, escaped_byte, escaped, stands_for, meant_from, meant, is_printable}
use Rattle.sql_lex.specs.Quotes.{is_name as is_short}
use Rattle.sql_tree.specs.BuiltIns.{function_named}
use Rattle.sql_tree.specs.Well.{is_name_byte, is_name}
use Rattle.sql_syntax.specs.Texts.{begins_with_digit, minus_by, name_by, word_by, said_by, tok_before, toks}
use Rattle.sql_text.proofs.Good.{is_good, AllGood, Each}
use Rattle.sql_text.proofs.Written.{function_same}

-- ---- bytes
abbrev Bytes : List ℕ → Type 0
Bytes bs = Each (λ b. b < 256) bs

bytes_from : (bs : List ℕ) → IsBytes bs → Bytes bs
bytes_from [] h = tt
bytes_from (b ∷ bs) h = (h zero, bytes_from bs (λ i. h (suc i)))

bytes_take : (n : ℕ) (bs : List ℕ) → Bytes bs → Bytes (take n bs)
bytes_take zero bs h = tt
bytes_take (suc n) [] h = tt
bytes_take (suc n) (b ∷ bs) h = (h.0, bytes_take n bs h.1)

bytes_drop : (n : ℕ) (bs : List ℕ) → Bytes bs → Bytes (drop n bs)
bytes_drop zero bs h = h
bytes_drop (suc n) [] h = tt
bytes_drop (suc n) (b ∷ bs) h = bytes_drop n bs h.1

bytes_append : (bs cs : List ℕ) → Bytes bs → Bytes cs → Bytes (bs ++ cs)
bytes_append [] cs h k = k
bytes_append (b ∷ bs) cs h k = (h.0, bytes_append bs cs h.1 k)

bytes_all : (bs : List ℕ) → Bytes bs → list_all (λ b. nat_le b 255) bs ≡ true
bytes_all [] h = refl
bytes_all (b ∷ bs) h = let l = h.0 in and_from (nat_le b 255) (list_all (λ c. nat_le c 255) bs) (le-leb b 255 (omega (arith, l))) (bytes_all bs h.1)

-- ---- one of two
if_both : {A : Type 0} (P : A → Type 0) (b : Bool) (x y : A) → (b ≡ true → P x) → (b ≡ false → P y) → P (if b then x else y)
if_both P true x y p q = p refl
if_both P false x y p q = q refl

implied : (p q : Bool) → (not p || q) ≡ true → p ≡ true → q ≡ true
implied true q e h = e
implied false q e h = cc

-- ---- what stands in quotes
abbrev Small : ℕ → Type 0
Small b = b < 256

escaped_small : (b : ℕ) → b < 256 → Small (escaped_byte b)
escaped_small b l =
    if_both Small (b == 48) 0 _ (λ e. omega arith) (λ e.
    if_both Small (b == 98) 8 _ (λ e. omega arith) (λ e.
    if_both Small (b == 110) 10 _ (λ e. omega arith) (λ e.
    if_both Small (b == 114) 13 _ (λ e. omega arith) (λ e.
    if_both Small (b == 116) 9 _ (λ e. omega arith) (λ e.
    if_both Small (b == 90) 26 b (λ e. omega arith) (λ e. l))))))

escaped_bytes : (b : ℕ) → b < 256 → Bytes (escaped b)
escaped_bytes b l = if_both Bytes (b == 37 || b == 95) (92 ∷ b ∷ []) (escaped_byte b ∷ []) (λ e. (omega arith, (l, tt))) (λ e. (escaped_small b l, tt))

stands_bytes : (quote : ℕ) (held : Bool) (b : ℕ) → b < 256 → Bytes (stands_for quote held b)
stands_bytes quote held b l =
    if_both Bytes (leads quote held b) [] _ (λ e. tt) (λ e. if_both Bytes (held && not (quote == 96)) (escaped b) (b ∷ []) (λ e. escaped_bytes b l) (λ e. (l, tt)))

meant_bytes : (quote : ℕ) (held : Bool) (bs : List ℕ) → Bytes bs → Bytes (meant_from quote held bs)
meant_bytes quote held [] h = tt
meant_bytes quote held (b ∷ bs) h = bytes_append (stands_for quote held b) (meant_from quote (leads quote held b) bs) (stands_bytes quote held b h.0) (meant_bytes quote (leads quote held b) bs h.1)

decoded_bytes : (digits : List ℕ) (r : Result (List ℕ) FromHexError) → decode_of digits ≡ r → Bytes (unwrap_or (result_ok r) [])
decoded_bytes digits (Ok bs) e = bytes_from bs (decode_of-ok digits bs e).3
decoded_bytes digits (Err x) e = tt

inside_bytes : (bs : List ℕ) → Bytes bs → Bytes (inside bs)
inside_bytes bs h = bytes_take (length bs - 2) (drop 1 bs) (bytes_drop 1 bs h)

literal_good : (bs : List ℕ) → Bytes bs → Bytes (literal_bytes bs)
literal_good [] h = tt
literal_good (b ∷ bs) h =
    if_both Bytes (b == 120 || b == 88) (hex_bytes (inside bs)) (meant b (inside (b ∷ bs))) (λ e. decoded_bytes (inside bs) (decode_of (inside bs)) refl) (λ e. meant_bytes b false (inside (b ∷ bs)) (inside_bytes (b ∷ bs) h))

-- ---- names
word_folds : (b : ℕ) → b < 256 → is_word_byte b ≡ true → is_name_byte (to_ascii_lowercase b) ≡ true
word_folds b l w = implied (is_word_byte b) (is_name_byte (to_ascii_lowercase b)) (agree_below_at (λ c. not (is_word_byte c) || is_name_byte (to_ascii_lowercase c)) (λ c. true) 256 b refl l) w

letter_goes_on : (b : ℕ) → b < 256 → is_letter b ≡ true → is_word_byte b ≡ true
letter_goes_on b l w = implied (is_letter b) (is_word_byte b) (agree_below_at (λ c. not (is_letter c) || is_word_byte c) (λ c. true) 256 b refl l) w

printable_folds : (b : ℕ) → b < 256 → is_printable b ≡ true → is_name_byte (to_ascii_lowercase b) ≡ true
printable_folds b l w = implied (is_printable b) (is_name_byte (to_ascii_lowercase b)) (agree_below_at (λ c. not (is_printable c) || is_name_byte (to_ascii_lowercase c)) (λ c. true) 256 b refl l) w

folded_length : (bs : List ℕ) → length (folded bs) ≡ length bs
folded_length [] = refl
folded_length (b ∷ bs) = ap suc (folded_length bs)

module _ (p : ℕ → Bool) (f : (b : ℕ) → b < 256 → p b ≡ true → is_name_byte (to_ascii_lowercase b) ≡ true) where
  folded_all : (bs : List ℕ) → Bytes bs → list_all p bs ≡ true → list_all is_name_byte (folded bs) ≡ true
  folded_all [] h e = refl
  folded_all (b ∷ bs) h e =
      let k = and_parts (p b) (list_all p bs) e in
      and_from (is_name_byte (to_ascii_lowercase b)) (list_all is_name_byte (folded bs)) (f b h.0 k.0) (folded_all bs h.1 k.1)

  folded_name : (bs : List ℕ) → Bytes bs → nat_le 1 (length bs) ≡ true → nat_le (length bs) 64 ≡ true → list_all p bs ≡ true → is_name (folded bs) ≡ true
  folded_name bs h some few e =
      and_from (nat_le 1 (length (folded bs)) && nat_le (length (folded bs)) 64) (list_all is_name_byte (folded bs))
      (and_from (nat_le 1 (length (folded bs))) (nat_le (length (folded bs)) 64) (ap (λ k. nat_le 1 k) (folded_length bs) ∙ some) (ap (λ k. nat_le k 64) (folded_length bs) ∙ few)) (folded_all bs h e)

prefix_step : (p : ℕ → Bool) (x : ℕ) (xs : List ℕ) (b : Bool) → p x ≡ b → list_all p (take (prefix_len p xs) xs) ≡ true → list_all p (take (if b then 1 + prefix_len p xs else 0) (x ∷ xs)) ≡ true
prefix_step p x xs true e h =
    let k : suc (prefix_len p xs) ≡ 1 + prefix_len p xs = omega arith in
    subst (λ (n : ℕ). list_all p (take n (x ∷ xs)) ≡ true) k (and_from (p x) (list_all p (take (prefix_len p xs) xs)) e h)
prefix_step p x xs false e h = refl

prefix_all : (p : ℕ → Bool) (xs : List ℕ) → list_all p (take (prefix_len p xs) xs) ≡ true
prefix_all p [] = refl
prefix_all p (x ∷ xs) = prefix_step p x xs (p x) refl (prefix_all p xs)

take_short : (n : ℕ) (xs : List ℕ) → length (take n xs) ≤ n
take_short zero xs = omega arith
take_short (suc n) [] = omega arith
take_short (suc n) (x ∷ xs) = let k = take_short n xs in omega (arith, k)

take_full : (n : ℕ) (xs : List ℕ) → n ≤ length xs → length (take n xs) ≡ n
take_full zero xs l = refl
take_full (suc n) [] l = absurd (omega (arith, l))
take_full (suc n) (x ∷ xs) l = ap suc (take_full n xs (omega (arith, l)))

take_twice : (m n : ℕ) (xs : List ℕ) → m ≤ n → take m (take n xs) ≡ take m xs
take_twice zero n xs l = refl
take_twice (suc m) zero xs l = absurd (omega (arith, l))
take_twice (suc m) (suc n) [] l = refl
take_twice (suc m) (suc n) (x ∷ xs) l = ap (λ us. x ∷ us) (take_twice m n xs (omega (arith, l)))

-- ---- what a text begins with
-- a token of this kind and size, where there is one, says what is good
abbrev GoodBy : List ℕ → Option (TokenKind × ℕ) → Type 0
GoodBy us None = Unit {0}
GoodBy us (Some t) = t.1 ≤ length us → is_good (said_by (plain_by t.0 (take t.1 us))) ≡ true

function_good : (o : Option Func) (w : List ℕ) → function_named w ≡ o → is_name w ≡ true → is_good (name_by o w) ≡ true
function_good None w e g = g
function_good (Some f) w e g = subst (λ (n : List ℕ). is_name n ≡ true) (sym (function_same w f e)) g

named_good : (o : Option Keyword) (w : List ℕ) → is_name w ≡ true → is_good (word_by o w) ≡ true
named_good None w g = function_good (function_named w) w refl g
named_good (Some k) w g = refl

word_said : (b : ℕ) (bs : List ℕ) (k : ℕ) → Bytes (b ∷ bs) → is_letter b ≡ true → k ≡ prefix_len is_word_byte bs → nat_le (1 + k) 64 ≡ true → is_name (folded (take (1 + k) (b ∷ bs))) ≡ true
word_said b bs k h e q few =
    let n : suc k ≡ 1 + k = omega arith in
    let w : List ℕ = b ∷ take k bs in
    let l = take_short k bs in
    let m = leb-true (1 + k) 64 few in
    let all : list_all is_word_byte (take k bs) ≡ true = subst (λ (i : ℕ). list_all is_word_byte (take i bs) ≡ true) (sym q) (prefix_all is_word_byte bs) in
    subst (λ (i : ℕ). is_name (folded (take i (b ∷ bs))) ≡ true) n
    (folded_name is_word_byte word_folds w (h.0, bytes_take k bs h.1) (le-leb 1 (length w) (omega arith)) (le-leb (length w) 64 (omega (arith, l, m)))
    (and_from (is_word_byte b) (list_all is_word_byte (take k bs)) (letter_goes_on b h.0 e) all))

word_good : (b : ℕ) (bs : List ℕ) → Bytes (b ∷ bs) → is_letter b ≡ true → GoodBy (b ∷ bs) (word_token (b ∷ bs))
word_good b bs h e =
    let k : ℕ = prefix_len is_word_byte bs in
    let w : List ℕ = folded (take (1 + k) (b ∷ bs)) in
    if_both (GoodBy (b ∷ bs)) (nat_le (1 + k) 64) (Some (kinds.Word, 1 + k)) None (λ few. λ l. named_good (keyword_of w) w (word_said b bs k h e refl few)) (λ few. tt)

inside_is : (b : ℕ) (bs : List ℕ) (count : ℕ) → 1 + count ≤ length (b ∷ bs) → inside (take (1 + count) (b ∷ bs)) ≡ take (count - 1) bs
inside_is b bs count l =
    let n : 1 + count ≡ suc count = omega arith in
    let full = take_full count bs (omega (arith, l)) in
    let size : suc (length (take count bs)) - 2 ≡ count - 1 = omega (arith, full) in
    ap (λ k. inside (take k (b ∷ bs))) n ∙ (ap (λ k. take k (take count bs)) size ∙ take_twice (count - 1) count bs (omega arith))

quoted_said : (b : ℕ) (bs : List ℕ) (count : ℕ) → Bytes bs → is_short (meant 96 (take (count - 1) bs)) ≡ true → 1 + count ≤ length (b ∷ bs) → is_name (folded (meant 96 (inside (take (1 + count) (b ∷ bs))))) ≡ true
quoted_said b bs count h e l =
    let w : List ℕ = meant 96 (take (count - 1) bs) in
    let k = and_parts (nat_le 1 (length w) && nat_le (length w) 64) (list_all is_printable w) e in
    let j = and_parts (nat_le 1 (length w)) (nat_le (length w) 64) k.0 in
    subst (λ (us : List ℕ). is_name (folded (meant 96 us)) ≡ true) (sym (inside_is b bs count l))
    (folded_name is_printable printable_folds w (meant_bytes 96 false (take (count - 1) bs) (bytes_take (count - 1) bs h)) j.0 j.1 k.1)

quoted_good : (b : ℕ) (bs : List ℕ) → Bytes bs → (o : Option ℕ) → GoodBy (b ∷ bs) (option_and_then (name_kind bs) o)
quoted_good b bs h None = tt
quoted_good b bs h (Some count) =
    if_both (GoodBy (b ∷ bs)) (is_short (meant 96 (take (count - 1) bs))) (Some (kinds.Quoted, 1 + count)) None (λ e. λ l. quoted_said b bs count h e l) (λ e. tt)

number_good : (us : List ℕ) (m : Bool) (n count : ℕ) → GoodBy us (sized count (number_kind m n))
number_good us m n count =
    if_both (λ o. GoodBy us (sized count o)) (nat_lt n 9223372036854775808) (Some (kinds.Number n)) _
    (λ e. λ l. (let k = ltb-true n 9223372036854775808 e in le-leb n 9223372036854775807 (omega (arith, k))))
    (λ e. if_both (λ o. GoodBy us (sized count o)) (m && n == 9223372036854775808) (Some kinds.Least) None (λ q. λ l. refl) (λ q. tt))

text_good : (us : List ℕ) (count : ℕ) → Bytes us → GoodBy us (Some (kinds.Text, count))
text_good us count h l = bytes_all (literal_bytes (take count us)) (literal_good (take count us) (bytes_take count us h))

string_good : (us : List ℕ) → Bytes us → (o : Option ℕ) → GoodBy us (option_map (λ count. (kinds.Text, 1 + count)) o)
string_good us h None = tt
string_good us h (Some count) = text_good us (1 + count) h

hex_good : (us bs : List ℕ) → Bytes us → GoodBy us (hex_token bs)
hex_good us bs h = if_both (GoodBy us) _ (Some (kinds.Text, 3 + prefix_len is_hex_digit bs)) None (λ e. text_good us (3 + prefix_len is_hex_digit bs) h) (λ e. tt)

sign_good : (us : List ℕ) (count : ℕ) (o : Option Symbol) → GoodBy us (signed count o)
sign_good us count None = tt
sign_good us count (Some s) = λ l. refl

either_good : (us : List ℕ) (o p : Option (TokenKind × ℕ)) → GoodBy us o → GoodBy us p → GoodBy us (option_or o p)
either_good us None p g h = h
either_good us (Some t) p g h = g

short_good : (us bs : List ℕ) → GoodBy us (short_symbol bs)
short_good us [] = tt
short_good us (a ∷ []) = sign_good us 1 (symbol_of_one a)
short_good us (a ∷ b ∷ bs) = either_good us (signed 2 (symbol_of_two a b)) (signed 1 (symbol_of_one a)) (sign_good us 2 (symbol_of_two a b)) (sign_good us 1 (symbol_of_one a))

symbol_good : (us bs : List ℕ) → GoodBy us (symbol_token bs)
symbol_good us bs = if_both (GoodBy us) (starts_with nat_eq bs (codes "<=>")) (Some (kinds.Symbol signs.NullSafeEqual, 3)) (short_symbol bs) (λ e. λ l. refl) (λ e. short_good us bs)

token_good : (m : Bool) (b : ℕ) (bs : List ℕ) → Bytes (b ∷ bs) → GoodBy (b ∷ bs) (token_by m b bs)
token_good m b bs h =
    let us : List ℕ = b ∷ bs in
    if_both (GoodBy us) (is_ascii_digit b) (number_token m us) _ (λ e. number_good us m _ _) (λ e.
    if_both (GoodBy us) ((b == 120 || b == 88) && begins 39 bs) (hex_token (drop 1 bs)) _ (λ e. hex_good us (drop 1 bs) h) (λ e.
    if_both (GoodBy us) (is_letter b) (word_token us) _ (λ e. word_good b bs h e) (λ e.
    if_both (GoodBy us) (b == 39 || b == 34) (string_token b bs) _ (λ e. string_good us h (closing b bs)) (λ e.
    if_both (GoodBy us) (b == 96) (quoted_token bs) (symbol_token us) (λ e. quoted_good b bs h.1 (closing 96 bs)) (λ e. symbol_good us us)))))

of_good : (m : Bool) (bs : List ℕ) → Bytes bs → GoodBy bs (token_of m bs)
of_good m [] h = tt
of_good m (b ∷ bs) h = token_good m b bs h

-- ---- pieces and texts
abbrev GoodPiece : List ℕ → Piece → Type 0
GoodPiece us (pieces.Blank count) = Unit {0}
GoodPiece us (pieces.Token kind count) = count ≤ length us → is_good (said_by (plain_by kind (take count us))) ≡ true
GoodPiece us pieces.Nothing = Unit {0}

by_token : (us : List ℕ) (o : Option (TokenKind × ℕ)) → GoodBy us o → GoodPiece us (piece_by o)
by_token us None g = tt
by_token us (Some t) g = g

piece_good : (m : Bool) (bs : List ℕ) → Bytes bs → GoodPiece bs (piece_of m bs)
piece_good m bs h = if_both (GoodPiece bs) (nat_lt 0 (blank_length bs)) (pieces.Blank (blank_length bs)) (piece_by (token_of m bs)) (λ e. tt) (λ e. by_token bs (token_of m bs) (of_good m bs h))

minus_good : {A : Type 0} (b : Bool) (ts : List A) → is_good (minus_by b ts) ≡ true
minus_good false ts = refl
minus_good true [] = refl
minus_good true (t ∷ ts) = refl

module _ (text : List ℕ) where
  slice_good : (bs : List ℕ) (kind : TokenKind) (at count : ℕ) (ts : List Token) → bs ≡ drop at text → is_good (said_by (plain_by kind (take count bs))) ≡ true
      → is_good (tok_before text (record { kind = kind; at = at; end = at + count }) ts) ≡ true
  slice_good bs kind at count ts e g =
      let k : count ≡ (at + count) - at = omega arith in
      let q : take count bs ≡ take ((at + count) - at) (drop at text) = ap (take count) e ∙ ap (λ n. take n (drop at text)) k in
      if_both (λ t. is_good t ≡ true) (is_minus kind) (minus_by (begins_with_digit (drop (at + count) text)) ts) (said_by (plain_by kind (take ((at + count) - at) (drop at text))))
      (λ o. minus_good (begins_with_digit (drop (at + count) text)) ts) (λ o. subst (λ (us : List ℕ). is_good (said_by (plain_by kind us)) ≡ true) q g)

  front_good : {m : Bool} {at : ℕ} {bs : List ℕ} {ts : List Token} {to : ℕ} → Front m at bs ts to → bs ≡ drop at text → Bytes bs → AllGood (toks text ts)
  front_good (stop' q) e h = tt
  front_good {at = at} {bs = bs} (blank' count q some within f) e h = front_good f (ap (drop count) e ∙ drop-drop count at text) (bytes_drop count bs h)
  front_good {m = m} {at = at} {bs = bs} (token' {ts = ts} kind count q some within f) e h =
      let g : GoodPiece bs (pieces.Token kind count) = subst (λ (x : Piece). GoodPiece bs x) q (piece_good m bs h) in
      (slice_good bs kind at count ts e (g within), front_good f (ap (drop count) e ∙ drop-drop count at text) (bytes_drop count bs h))

pub tokens_good : (text : List ℕ) → IsBytes text → (ts : List Token) → Lexes text ts → AllGood (toks text ts)
tokens_good text h ts f = front_good text f refl (bytes_from text h)
