-- What is written in quotes is read back.
use Rattle.std.proofs.Common.{◌≡◌, ℕ, suc, ◌+◌, ◌-◌, ◌*◌, ◌/◌, ◌%◌, ◌^◌, ◌≤◌, ◌<◌, inl, inr, ◌⊎◌, Bool, true, false, not, ◌&&◌, ◌||◌, ◌==◌, List, [], ◌∷◌, ◌++◌, length, take, drop, Some, None, refl, sym, ap, ◌∙◌, subst, arith, eq-eqb, rules, append_assoc, length-append}
use Rattle.std.proofs.lemmas.Bool.{eqb-true, ne_eqb, and_parts, and_right, or_cases, leb-true, le-leb, lt-leb, lt-ltb}
use Rattle.std.specs.Prelude.{nat_le, is_some, unwrap_or, if◌then◌else◌}
use Rattle.std.proofs.Math.Seq.{take-append_seam, drop-append_seam}
use Rattle.std.proofs.lemmas.Fmt.{decimal_by_steps}
use Rattle.std.specs.Char.{is_ascii_digit, is_ascii_alphabetic}
use Rattle.std.specs.Fmt.{decimal}
use Rattle.std.specs.List.{prefix_len}
use Rattle.std.specs.Option.{option_and_then, option_map}
use Rattle.hex.specs.Hex.{IsBytes, is_hex_digit, upper_digits, encode_with, encode_upper}
use Rattle.hex.proofs.HexLemmas.{length-encode_with, IsDigits-upper_digits, decode_of-encode_upper}
use Rattle.std.specs.Result.{result_ok}
use Rattle.sql_lex.specs.declared.pieces.Piece.TheVariants as pieces
use Rattle.sql_lex.specs.declared.token.TokenKind.{TokenKind}
use Rattle.sql_lex.specs.declared.token.TokenKind.TheVariants as kinds
use Rattle.sql_lex.specs.Quotes.{begins, further, leads, closing_from, meant_from, meant, is_name}
use Rattle.sql_lex.specs.Begins.{name_kind, quoted_token, token_by, number_from, number_kind, number_token, sized, is_letter, is_word_byte, word_token, hex_token}
use Rattle.sql_lex.specs.Blanks.{blank_length}
use Rattle.sql_lex.specs.Lexes.{is_minus, Spells, gap', say'}
use Rattle.sql_lex.specs.Pieces.{piece_of, piece_by}
use Rattle.sql_lex.specs.Folded.{folded}
use Rattle.sql_lex.specs.Plain.{Plain, word, quoted, number, text, plain_by, quoted_name, literal_bytes, hex_bytes}
use Rattle.sql_lex.specs.Spelled.{doubled, in_backquotes, AllOf, Ends, is_simple}

bool_cases : (b : Bool) → (b ≡ true) ⊎ (b ≡ false)
bool_cases true = inl refl
bool_cases false = inr refl

not_true : (b : Bool) → not b ≡ true → b ≡ false
not_true true e = cc
not_true false e = refl

and_false : (b : Bool) → (b && false) ≡ false
and_false true = refl
and_false false = refl

-- ---- names in backquotes
other_leads : (b : ℕ) → (b == 96) ≡ false → leads 96 false b ≡ false
other_leads b e = rw e (and_false (b == 92))

other_closing : (b : ℕ) (bs : List ℕ) → (b == 96) ≡ false → closing_from 96 false (b ∷ bs) ≡ further 1 (closing_from 96 false bs)
other_closing b bs e = rw (e, and_false (b == 92)) refl

other_meant : (b : ℕ) (bs : List ℕ) → (b == 96) ≡ false → meant_from 96 false (b ∷ bs) ≡ b ∷ meant_from 96 false bs
other_meant b bs e = rw (e, and_false (b == 92)) refl

other_doubled : (b : ℕ) (bs : List ℕ) → (b == 96) ≡ false → doubled (b ∷ bs) ≡ b ∷ doubled bs
other_doubled b bs e = rw e refl

twice_doubled : (b : ℕ) (bs : List ℕ) → (b == 96) ≡ true → doubled (b ∷ bs) ≡ 96 ∷ 96 ∷ doubled bs
twice_doubled b bs e = rw e refl

name_closes : (name rest : List ℕ) → begins 96 rest ≡ false → closing_from 96 false (doubled name ++ 96 ∷ rest) ≡ Some (1 + length (doubled name))
name_closes [] rest e = rw e refl
name_closes (b ∷ bs) rest e =
    let more = name_closes bs rest e in
    elim (bool_cases (b == 96)) [
      | inl is ↦ rw (twice_doubled b bs is, more) (ap Some (omega arith))
      | inr is ↦ rw (other_doubled b bs is, other_closing b (doubled bs ++ 96 ∷ rest) is, more) (ap Some (omega arith))
    ]

name_meant : (name : List ℕ) → meant 96 (doubled name) ≡ name
name_meant [] = refl
name_meant (b ∷ bs) =
    elim (bool_cases (b == 96)) [
      | inl is ↦ (let same : 96 ≡ b = sym (eqb-true b 96 is) in rw (twice_doubled b bs is, name_meant bs, same) refl)
      | inr is ↦ rw (other_doubled b bs is, other_meant b (doubled bs) is, name_meant bs) refl
    ]

-- ---- a token that is a slice
say_slice : (m : Bool) (w rest : List ℕ) (ps : List Plain) (kind : TokenKind) → piece_of m (w ++ rest) ≡ pieces.Token kind (length w) → 0 < length w
    → Spells (is_minus kind) rest ps → Spells m (w ++ rest) (plain_by kind w ∷ ps)
say_slice m w rest ps kind e some s =
    let behind : Spells (is_minus kind) (drop (length w) (w ++ rest)) ps = rw drop-append_seam s in
    let all : Spells m (w ++ rest) (plain_by kind (take (length w) (w ++ rest)) ∷ ps) = say' kind (length w) e some (omega (arith, length-append w rest)) behind in
    rw take-append_seam at all

abbrev pub quoted_slice : List ℕ → List ℕ
quoted_slice name = 96 ∷ (doubled name ++ 96 ∷ [])

pub name_read : (m : Bool) (name rest : List ℕ) → is_name name ≡ true → begins 96 rest ≡ false → piece_of m (96 ∷ (doubled name ++ 96 ∷ rest)) ≡ pieces.Token kinds.Quoted (2 + length (doubled name))
name_read m name rest good e =
    let d : List ℕ = doubled name in
    let closed : quoted_token (d ++ 96 ∷ rest) ≡ name_kind (d ++ 96 ∷ rest) (1 + length d) = ap (option_and_then (name_kind (d ++ 96 ∷ rest))) (name_closes name rest e) in
    let size : 1 + length d - 1 ≡ length d = omega arith in
    let named : name_kind (d ++ 96 ∷ rest) (1 + length d) ≡ Some (kinds.Quoted, 1 + (1 + length d)) = rw (size, take-append_seam d (96 ∷ rest), name_meant name, good) refl in
    ap piece_by (closed ∙ named) ∙ ap (pieces.Token kinds.Quoted) (omega arith)

pub name_said : (name : List ℕ) → quoted_name (quoted_slice name) ≡ folded name
name_said name =
    let d : List ℕ = doubled name in
    let size : length (quoted_slice name) - 2 ≡ length d = omega (arith, length-append d (96 ∷ [])) in
    ap (λ k. folded (meant 96 (take k (d ++ 96 ∷ [])))) size ∙ (ap (λ us. folded (meant 96 us)) (take-append_seam d (96 ∷ [])) ∙ ap folded (name_meant name))

pub name_spells : (m : Bool) (name rest : List ℕ) (ps : List Plain) → is_name name ≡ true → begins 96 rest ≡ false → Spells false rest ps → Spells m (in_backquotes name rest) (quoted (folded name) ∷ ps)
name_spells m name rest ps good e s =
    let d : List ℕ = doubled name in
    let joined : quoted_slice name ++ rest ≡ in_backquotes name rest = ap (λ us. 96 ∷ us) (append_assoc d (96 ∷ []) rest) in
    let size : 2 + length d ≡ length (quoted_slice name) = omega (arith, length-append d (96 ∷ [])) in
    let read : piece_of m (quoted_slice name ++ rest) ≡ pieces.Token kinds.Quoted (length (quoted_slice name)) =
    ap (piece_of m) joined ∙ (name_read m name rest good e ∙ ap (pieces.Token kinds.Quoted) size) in
    let all : Spells m (quoted_slice name ++ rest) (quoted (quoted_name (quoted_slice name)) ∷ ps) = say_slice m (quoted_slice name) rest ps kinds.Quoted read (omega arith) s in
    let named : Spells m (in_backquotes name rest) (quoted (quoted_name (quoted_slice name)) ∷ ps) = subst (λ (us : List ℕ). Spells m us (quoted (quoted_name (quoted_slice name)) ∷ ps)) joined all in
    subst (λ (w : List ℕ). Spells m (in_backquotes name rest) (quoted w ∷ ps)) (name_said name) named

-- ---- words and numbers
unequal : (b c : ℕ) → c < b → (b == c) ≡ false
unequal b c l = ne_eqb b c (λ e. omega arith)

unequal_back : (b c : ℕ) → c < b → (c == b) ≡ false
unequal_back b c l = ne_eqb c b (λ e. omega arith)

-- no white space and no comment begins with a later byte than the slash
dark : (b : ℕ) (bs : List ℕ) → 47 < b → blank_length (b ∷ bs) ≡ 0
dark b bs l =
    rw (unequal b 9 (omega arith), unequal b 10 (omega arith), unequal b 13 (omega arith), unequal b 32 (omega arith), unequal_back b 45 (omega arith), unequal_back b 47 (omega arith)) refl

dark_piece : (m : Bool) (b : ℕ) (bs : List ℕ) → 47 < b → piece_of m (b ∷ bs) ≡ piece_by (token_by m b bs)
dark_piece m b bs l = rw (dark b bs l) refl

ends_here : (class : ℕ → Bool) (rest : List ℕ) → Ends class rest → prefix_len class rest ≡ 0
ends_here class [] e = refl
ends_here class (b ∷ bs) e = rw e refl

runs : (class : ℕ → Bool) (w rest : List ℕ) → AllOf class w → Ends class rest → prefix_len class (w ++ rest) ≡ length w
runs class [] rest h e = ends_here class rest e
runs class (b ∷ bs) rest h e = rw (h.0, runs class bs rest h.1 e) (omega arith)

all_push : (class : ℕ → Bool) (w : List ℕ) (b : ℕ) → AllOf class w → class b ≡ true → AllOf class (w ++ b ∷ [])
all_push class [] b h e = (e, tt)
all_push class (x ∷ w) b h e = (h.0, all_push class w b h.1 e)

number_push : (n : ℕ) (ds : List ℕ) (c : ℕ) → number_from n (ds ++ c ∷ []) ≡ 10 * number_from n ds + (c - 48)
number_push n [] c = refl
number_push n (d ∷ ds) c = number_push (10 * n + (d - 48)) ds c

digit_is : (n : ℕ) → n < 10 → is_ascii_digit (48 + n) ≡ true
digit_is n l = search rules

-- the digits of a number stand for it
abbrev pub Digits : ℕ → List ℕ → Type 0
Digits n ds = AllOf is_ascii_digit ds × (0 < length ds) × (number_from 0 ds ≡ n)

pub decimal_digits : (n : ℕ) → n < 2 ^ 64 → Digits n (decimal n)
decimal_digits = decimal_by_steps Digits
    (λ n l. ((digit_is n l, tt), omega arith, omega arith))
    (λ n ds l h.
    let last : n % 10 < 10 = omega arith in (
      all_push is_ascii_digit ds (48 + n % 10) h.0 (digit_is (n % 10) last),
      omega (arith, length-append ds ((48 + n % 10) ∷ [])),
      number_push 0 ds (48 + n % 10) ∙ rw h.2 (omega arith),
    ))

digit_above : (b : ℕ) → is_ascii_digit b ≡ true → (47 < b) × (b < 58)
digit_above b e = let p = and_parts (nat_le 48 b) (nat_le b 57) e in
    let low : 48 ≤ b = leb-true 48 b p.0 in
    let high : b ≤ 57 = leb-true b 57 p.1 in
    (omega arith, omega arith)

number_token_is : (m : Bool) (d n : ℕ) (ds rest : List ℕ) → Digits n (d ∷ ds) → n < 9223372036854775808 → Ends is_ascii_digit rest
    → number_token m (d ∷ (ds ++ rest)) ≡ Some (kinds.Number n, length (d ∷ ds))
number_token_is m d n ds rest h l e =
    let size : 1 + prefix_len is_ascii_digit (ds ++ rest) ≡ length (d ∷ ds) = ap (λ k. 1 + k) (runs is_ascii_digit ds rest h.0.1 e) ∙ omega arith in
    let value : number_from 0 (take (length (d ∷ ds)) ((d ∷ ds) ++ rest)) ≡ n = ap (number_from 0) (take-append_seam (d ∷ ds) rest) ∙ h.2 in
    ap (λ k. sized k (number_kind m (number_from 0 (take k (d ∷ (ds ++ rest)))))) size
    ∙ (ap (λ v. sized (length (d ∷ ds)) (number_kind m v)) value ∙ rw (lt-ltb n 9223372036854775808 l) refl)

pub number_read : (m : Bool) (n : ℕ) (w rest : List ℕ) → Digits n w → n < 9223372036854775808 → Ends is_ascii_digit rest → piece_of m (w ++ rest) ≡ pieces.Token (kinds.Number n) (length w)
number_read m n [] rest h l e = absurd (omega (arith, h.1))
number_read m n (d ∷ ds) rest h l e =
    let above = digit_above d h.0.0 in
    let first : token_by m d (ds ++ rest) ≡ number_token m (d ∷ (ds ++ rest)) = rw h.0.0 refl in
    dark_piece m d (ds ++ rest) above.0 ∙ ap piece_by (first ∙ number_token_is m d n ds rest h l e)

-- digits of a number that is one too large for 63 bits, directly behind a minus
pub least_read : (w rest : List ℕ) → Digits 9223372036854775808 w → Ends is_ascii_digit rest → piece_of true (w ++ rest) ≡ pieces.Token kinds.Least (length w)
least_read [] rest h e = absurd (omega (arith, h.1))
least_read (d ∷ ds) rest h e =
    let above = digit_above d h.0.0 in
    let first : token_by true d (ds ++ rest) ≡ number_token true (d ∷ (ds ++ rest)) = rw h.0.0 refl in
    let size : 1 + prefix_len is_ascii_digit (ds ++ rest) ≡ length (d ∷ ds) = ap (λ k. 1 + k) (runs is_ascii_digit ds rest h.0.1 e) ∙ omega arith in
    let value : number_from 0 (take (length (d ∷ ds)) ((d ∷ ds) ++ rest)) ≡ 9223372036854775808 = ap (number_from 0) (take-append_seam (d ∷ ds) rest) ∙ h.2 in
    let token : number_token true (d ∷ (ds ++ rest)) ≡ Some (kinds.Least, length (d ∷ ds)) =
    ap (λ k. sized k (number_kind true (number_from 0 (take k (d ∷ (ds ++ rest)))))) size ∙ ap (λ v. sized (length (d ∷ ds)) (number_kind true v)) value in
    dark_piece true d (ds ++ rest) above.0 ∙ ap piece_by (first ∙ token)

pub number_spells : (m : Bool) (n : ℕ) (rest : List ℕ) (ps : List Plain) → n < 9223372036854775808 → Ends is_ascii_digit rest → Spells false rest ps → Spells m (decimal n ++ rest) (number n ∷ ps)
number_spells m n rest ps l e s =
    let h = decimal_digits n (omega arith) in
    say_slice m (decimal n) rest ps (kinds.Number n) (number_read m n (decimal n) rest h l e) h.1 s

letter_above : (b : ℕ) → is_letter b ≡ true → 57 < b
letter_above b e =
    elim (or_cases (is_ascii_alphabetic b) (b == 95) e) [
      | inl x ↦ elim (or_cases (nat_le 65 b && nat_le b 90) (nat_le 97 b && nat_le b 122) x) [
        | inl y ↦ (let l : 65 ≤ b = leb-true 65 b (and_parts (nat_le 65 b) (nat_le b 90) y).0 in omega arith)
        | inr y ↦ (let l : 97 ≤ b = leb-true 97 b (and_parts (nat_le 97 b) (nat_le b 122) y).0 in omega arith)
      ]
      | inr x ↦ (let l : b ≡ 95 = eqb-true b 95 x in omega arith)
    ]

no_digit : (b : ℕ) → 57 < b → is_ascii_digit b ≡ false
no_digit b l = and_right (nat_le 48 b) (nat_le b 57) (lt-leb b 57 l)

no_quote_in : (bs rest : List ℕ) → AllOf is_word_byte bs → begins 39 rest ≡ false → begins 39 (bs ++ rest) ≡ false
no_quote_in [] rest h e = e
no_quote_in (c ∷ cs) rest h e =
    ne_eqb c 39 (λ same. let f : is_word_byte 39 ≡ true = subst (λ (b : ℕ). is_word_byte b ≡ true) same h.0 in cc)

word_token_is : (b : ℕ) (bs rest : List ℕ) → AllOf is_word_byte bs → length (b ∷ bs) ≤ 64 → Ends is_word_byte rest → word_token (b ∷ (bs ++ rest)) ≡ Some (kinds.Word, length (b ∷ bs))
word_token_is b bs rest h l e =
    let size : 1 + prefix_len is_word_byte (bs ++ rest) ≡ length (b ∷ bs) = ap (λ k. 1 + k) (runs is_word_byte bs rest h e) ∙ omega arith in
    ap (λ k. if nat_le k 64 then Some (kinds.Word, k) else None) size ∙ rw (le-leb (length (b ∷ bs)) 64 l) refl

pub word_read : (m : Bool) (b : ℕ) (bs rest : List ℕ) → is_letter b ≡ true → AllOf is_word_byte bs → length (b ∷ bs) ≤ 64
    → Ends is_word_byte rest → begins 39 rest ≡ false → piece_of m ((b ∷ bs) ++ rest) ≡ pieces.Token kinds.Word (length (b ∷ bs))
word_read m b bs rest first more l e q =
    let above = letter_above b first in
    let token : token_by m b (bs ++ rest) ≡ word_token (b ∷ (bs ++ rest)) =
    rw (no_digit b above, no_quote_in bs rest more q, and_false (b == 120 || b == 88), first) refl in
    dark_piece m b (bs ++ rest) (omega arith) ∙ ap piece_by (token ∙ word_token_is b bs rest more l e)

pub word_spells : (m : Bool) (b : ℕ) (bs rest : List ℕ) (ps : List Plain) → is_letter b ≡ true → AllOf is_word_byte bs → length (b ∷ bs) ≤ 64
    → Ends is_word_byte rest → begins 39 rest ≡ false → Spells false rest ps → Spells m ((b ∷ bs) ++ rest) (word (folded (b ∷ bs)) ∷ ps)
word_spells m b bs rest ps first more l e q s = say_slice m (b ∷ bs) rest ps kinds.Word (word_read m b bs rest first more l e q) (omega arith) s

pub space_spells : (m : Bool) (rest : List ℕ) (ps : List Plain) → Spells false rest ps → Spells m (32 ∷ rest) ps
space_spells m rest ps s = gap' 1 refl (omega arith) (omega arith) s

-- ---- strings
simple_parts : (b : ℕ) → is_simple b ≡ true → ((b == 39) ≡ false) × ((b == 92) ≡ false)
simple_parts b e = let p = and_parts (not (b == 39)) (not (b == 92)) e in (not_true (b == 39) p.0, not_true (b == 92) p.1)

text_closes : (t rest : List ℕ) → AllOf is_simple t → begins 39 rest ≡ false → closing_from 39 false (t ++ 39 ∷ rest) ≡ Some (1 + length t)
text_closes [] rest h e = rw e refl
text_closes (b ∷ bs) rest h e = let p = simple_parts b h.0 in rw (p.0, p.1, text_closes bs rest h.1 e) (ap Some (omega arith))

text_meant : (t : List ℕ) → AllOf is_simple t → meant 39 t ≡ t
text_meant [] h = refl
text_meant (b ∷ bs) h = let p = simple_parts b h.0 in rw (p.0, p.1, text_meant bs h.1) refl

abbrev pub string_slice : List ℕ → List ℕ
string_slice t = 39 ∷ (t ++ 39 ∷ [])

pub text_said : (t : List ℕ) → AllOf is_simple t → literal_bytes (string_slice t) ≡ t
text_said t h =
    let size : length (string_slice t) - 2 ≡ length t = omega (arith, length-append t (39 ∷ [])) in
    ap (λ k. meant 39 (take k (t ++ 39 ∷ []))) size ∙ (ap (meant 39) (take-append_seam t (39 ∷ [])) ∙ text_meant t h)

pub text_read : (m : Bool) (t rest : List ℕ) → AllOf is_simple t → begins 39 rest ≡ false → piece_of m (string_slice t ++ rest) ≡ pieces.Token kinds.Text (length (string_slice t))
text_read m t rest h e =
    let joined : string_slice t ++ rest ≡ 39 ∷ (t ++ 39 ∷ rest) = ap (λ us. 39 ∷ us) (append_assoc t (39 ∷ []) rest) in
    let size : 1 + (1 + length t) ≡ length (string_slice t) = omega (arith, length-append t (39 ∷ [])) in
    let read : piece_of m (39 ∷ (t ++ 39 ∷ rest)) ≡ pieces.Token kinds.Text (1 + (1 + length t)) =
    ap (λ o. piece_by (option_map (λ count. (kinds.Text, 1 + count)) o)) (text_closes t rest h e) in
    ap (piece_of m) joined ∙ (read ∙ ap (pieces.Token kinds.Text) size)

pub text_spells : (m : Bool) (t rest : List ℕ) (ps : List Plain) → AllOf is_simple t → begins 39 rest ≡ false → Spells false rest ps → Spells m (39 ∷ (t ++ 39 ∷ rest)) (text t ∷ ps)
text_spells m t rest ps h e s =
    let joined : string_slice t ++ rest ≡ 39 ∷ (t ++ 39 ∷ rest) = ap (λ us. 39 ∷ us) (append_assoc t (39 ∷ []) rest) in
    let all = say_slice m (string_slice t) rest ps kinds.Text (text_read m t rest h e) (omega arith) s in
    let here : Spells m (39 ∷ (t ++ 39 ∷ rest)) (text (literal_bytes (string_slice t)) ∷ ps) = subst (λ (us : List ℕ). Spells m us (text (literal_bytes (string_slice t)) ∷ ps)) joined all in
    subst (λ (w : List ℕ). Spells m (39 ∷ (t ++ 39 ∷ rest)) (text w ∷ ps)) (text_said t h) here

-- ---- hexadecimal literals
hex_digits : (t : List ℕ) → IsBytes t → AllOf is_hex_digit (encode_with upper_digits t)
unfolding encode_with
hex_digits [] h = tt
hex_digits (b ∷ rest) h =
    let small : b < 256 = h 0 in
    let high = IsDigits-upper_digits (b / 16) (omega arith) in
    let low = IsDigits-upper_digits (b % 16) (omega arith) in
    (ap is_some high, (ap is_some low, hex_digits rest (λ k. h (suc k))))

hex_even : (t : List ℕ) → (length (encode_upper t) % 2 == 0) ≡ true
hex_even t = let e = length-encode_with upper_digits t in eq-eqb (length (encode_upper t) % 2) 0 (omega arith)

hex_token_is : (t rest : List ℕ) → IsBytes t → hex_token (encode_upper t ++ 39 ∷ rest) ≡ Some (kinds.Text, 3 + length (encode_upper t))
hex_token_is t rest h =
    let w : List ℕ = encode_upper t in
    let size : prefix_len is_hex_digit (w ++ 39 ∷ rest) ≡ length w = runs is_hex_digit w (39 ∷ rest) (hex_digits t h) refl in
    ap (λ k. if k % 2 == 0 && begins 39 (drop k (w ++ 39 ∷ rest)) then Some (kinds.Text, 3 + k) else None) size
    ∙ rw (hex_even t, drop-append_seam w (39 ∷ rest)) refl

abbrev pub hex_slice : List ℕ → List ℕ
hex_slice t = 88 ∷ 39 ∷ (encode_upper t ++ 39 ∷ [])

pub hex_said : (t : List ℕ) → IsBytes t → literal_bytes (hex_slice t) ≡ t
hex_said t h =
    let w : List ℕ = encode_upper t in
    let size : length (39 ∷ (w ++ 39 ∷ [])) - 2 ≡ length w = omega (arith, length-append w (39 ∷ [])) in
    ap (λ k. hex_bytes (take k (w ++ 39 ∷ []))) size ∙ (ap hex_bytes (take-append_seam w (39 ∷ [])) ∙ ap (λ r. unwrap_or (result_ok r) []) (decode_of-encode_upper t h))

pub hex_read : (m : Bool) (t rest : List ℕ) → IsBytes t → piece_of m (hex_slice t ++ rest) ≡ pieces.Token kinds.Text (length (hex_slice t))
hex_read m t rest h =
    let w : List ℕ = encode_upper t in
    let joined : hex_slice t ++ rest ≡ 88 ∷ 39 ∷ (w ++ 39 ∷ rest) = ap (λ us. 88 ∷ 39 ∷ us) (append_assoc w (39 ∷ []) rest) in
    let size : 3 + length w ≡ length (hex_slice t) = omega (arith, length-append w (39 ∷ [])) in
    let read : piece_of m (88 ∷ 39 ∷ (w ++ 39 ∷ rest)) ≡ pieces.Token kinds.Text (3 + length w) = ap piece_by (hex_token_is t rest h) in
    ap (piece_of m) joined ∙ (read ∙ ap (pieces.Token kinds.Text) size)

pub hex_spells : (m : Bool) (t rest : List ℕ) (ps : List Plain) → IsBytes t → Spells false rest ps → Spells m (88 ∷ 39 ∷ (encode_upper t ++ 39 ∷ rest)) (text t ∷ ps)
hex_spells m t rest ps h s =
    let w : List ℕ = encode_upper t in
    let joined : hex_slice t ++ rest ≡ 88 ∷ 39 ∷ (w ++ 39 ∷ rest) = ap (λ us. 88 ∷ 39 ∷ us) (append_assoc w (39 ∷ []) rest) in
    let all = say_slice m (hex_slice t) rest ps kinds.Text (hex_read m t rest h) (omega arith) s in
    let here : Spells m (88 ∷ 39 ∷ (w ++ 39 ∷ rest)) (text (literal_bytes (hex_slice t)) ∷ ps) = subst (λ (us : List ℕ). Spells m us (text (literal_bytes (hex_slice t)) ∷ ps)) joined all in
    subst (λ (v : List ℕ). Spells m (88 ∷ 39 ∷ (w ++ 39 ∷ rest)) (text v ∷ ps)) (hex_said t h) here
