-- Names, words, numbers, texts and signs as they are written.
use Rattle.std.proofs.Common.{◌≡◌, ◌<◌, ◌≤◌, ℕ, zero, suc, ◌+◌, Bool, true, false, cond, not, ◌&&◌, ◌||◌, ◌==◌, List, [], ◌∷◌, ◌++◌, length, Option, Some, None, refl, sym, ◌∙◌, ap, subst, arith, append_assoc, length-append, inl, inr, ◌⊎◌}
use Rattle.std.proofs.lemmas.Bool.{and_parts, leb-true, ltb-true, ltb-false, ne_eqb}
use Rattle.std.proofs.lemmas.Slice.Eq.{bytes_eq-Decides}
use Rattle.std.specs.Prelude.{nat_le, nat_lt, if◌then◌else◌}
use Rattle.std.specs.Char.{to_ascii_lowercase, is_ascii_digit}
use Rattle.std.specs.Fmt.{decimal}
use Rattle.std.specs.List.{list_all, find}
use Rattle.std.specs.Str.{bytes_eq}
use Rattle.hex.specs.Hex.{IsBytes}
use Rattle.val_types.specs.Text.{is_plain, quoted_of}
use Rattle.val_types.specs.declared.ops.Func.{Func}
use Rattle.sql_lex.specs.declared.keyword.Keyword.{Keyword}
use Rattle.sql_lex.specs.declared.keyword.Keyword.TheVariants as words
use Rattle.sql_lex.specs.declared.pieces.Piece.TheVariants as pieces
use Rattle.sql_lex.specs.declared.token.Symbol.{Symbol}
use Rattle.sql_lex.specs.declared.token.Symbol.TheVariants as signs
use Rattle.sql_lex.specs.declared.token.TokenKind.TheVariants as kinds
use Rattle.sql_lex.specs.Begins.{is_letter, is_word_byte}
use Rattle.sql_lex.specs.Folded.{folded}
use Rattle.sql_lex.specs.Keywords.{word_of, keywords, keyword_of}
use Rattle.sql_lex.specs.Lexes.{is_minus}
use Rattle.sql_lex.specs.Pieces.{piece_of}
use Rattle.sql_lex.specs.Plain.{quoted_name as quoted_said}
use Rattle.sql_lex.specs.Quotes.{is_printable, is_name as is_quoted_name}
use Rattle.sql_lex.specs.Spelled.{AllOf, is_simple, doubled}
use Rattle.sql_lex.proofs.Spelled.{quoted_slice, name_read, name_said, Digits, decimal_digits, number_read, least_read, word_read, string_slice, text_read, text_said, hex_slice, hex_read, hex_said}
use Rattle.sql_grammar.specs.Sets.{member}
use Rattle.sql_grammar.specs.Rule.{only_then}
use Rattle.sql_tree.specs.BuiltIns.{functions, lower_name, function_named}
use Rattle.sql_tree.specs.Well.{is_name, is_name_byte, is_number}
use Rattle.sql_print.specs.Names as print
use Rattle.sql_print.specs.Names.{doubled as doubled_text, quoted_name as name_text}
use Rattle.sql_syntax.specs.Tokens.{Tok, key, function_word, quoted_name, digits, least_digits, literal_text, mark, tight_minus, kind, code, names, but, name_said as name_of, keyword}
use Rattle.sql_syntax.specs.Texts.{minus_by, name_by, word_by}
use Rattle.sql_syntax.proofs.Words.{keyword_kind}
use Rattle.sql_text.proofs.Saying.{Says, say', soft, soft_word, soft_digit, soft_quote, soft_backquote, says_slice, space_says}
use Rattle.sql_text.proofs.Reading.{Said, Firm, Reading, one}
use Rattle.sql_text.proofs.BareWords.{reserved_or_name, function_is_name}

all_of : (class : ℕ → Bool) (w : List ℕ) → list_all class w ≡ true → AllOf class w
all_of class [] e = tt
all_of class (b ∷ w) e = let p = and_parts (class b) (list_all class w) e in (p.0, all_of class w p.1)

all_as : (p q : ℕ → Bool) → ((b : ℕ) → p b ≡ true → q b ≡ true) → (w : List ℕ) → list_all p w ≡ true → list_all q w ≡ true
all_as p q f [] e = refl
all_as p q f (b ∷ w) e = let k = and_parts (p b) (list_all p w) e in rw (f b k.0, all_as p q f w k.1) refl

-- ---- names in backquotes
lower_same : (b : ℕ) → not (nat_le 65 b && nat_le b 90) ≡ true → to_ascii_lowercase b ≡ b
lower_same b e = by (nat_lt b 65) (nat_lt b 91) refl refl
  where
    by : (c d : Bool) → nat_lt b 65 ≡ c → nat_lt b 91 ≡ d → cond c b (cond d (b + 32) b) ≡ b
    by true d p q = refl
    by false false p q = refl
    by false true p q = absurd (grind (arith, p, q, e))

name_byte : (b : ℕ) → is_name_byte b ≡ true → (is_printable b ≡ true) × (to_ascii_lowercase b ≡ b)
name_byte b e =
    let p = and_parts (nat_le 32 b && nat_le b 126) (not (nat_le 65 b && nat_le b 90)) e in
    (p.0, lower_same b p.1)

folded_same : (n : List ℕ) → list_all is_name_byte n ≡ true → folded n ≡ n
folded_same [] e = refl
folded_same (b ∷ n) e =
    let p = and_parts (is_name_byte b) (list_all is_name_byte n) e in
    let q : to_ascii_lowercase b ≡ b = (name_byte b p.0).1 in
    rw (q, folded_same n p.1) refl

pub record NameParts (n : List ℕ) : Type 0 where
  pub quotable : is_quoted_name n ≡ true
  pub lower : folded n ≡ n
  pub short : length n ≤ 64

pub name_parts : (n : List ℕ) → is_name n ≡ true → NameParts n
name_parts n e =
    let p = and_parts (nat_le 1 (length n) && nat_le (length n) 64) (list_all is_name_byte n) e in
    let q = and_parts (nat_le 1 (length n)) (nat_le (length n) 64) p.0 in
    record {
      quotable = rw (p.0, all_as is_name_byte is_printable (λ b h. (name_byte b h).0) n p.1) refl;
      lower = folded_same n p.1;
      short = leb-true (length n) 64 q.1;
    }

doubled_same : (n : List ℕ) → doubled_text n ≡ doubled n
doubled_same [] = refl
doubled_same (b ∷ n) = ap (λ z. (if b == 96 then 96 ∷ 96 ∷ [] else b ∷ []) ++ z) (doubled_same n)

pub name_written : (n : List ℕ) → is_name n ≡ true → Said (quoted_name n) (name_text n)
name_written n good = subst (λ (z : List ℕ). Said (quoted_name n) z) (sym (ap (λ z. 96 ∷ (z ++ 96 ∷ [])) (doubled_same n))) (record { says = says' })
  where
    says' : (bs : List ℕ) (us : List Tok) → soft bs ≡ true → Says false bs us → Says false (quoted_slice n ++ bs) (quoted_name n ∷ us)
    says' bs us o s =
        let k = name_parts n good in
        let d : List ℕ = doubled n in
        let joined : quoted_slice n ++ bs ≡ 96 ∷ (d ++ 96 ∷ bs) = ap (λ z. 96 ∷ z) (append_assoc d (96 ∷ []) bs) in
        let size : 2 + length d ≡ length (quoted_slice n) = omega (arith, length-append d (96 ∷ [])) in
        let read : piece_of false (quoted_slice n ++ bs) ≡ pieces.Token kinds.Quoted (length (quoted_slice n)) =
        ap (piece_of false) joined ∙ (name_read false n bs k.quotable (soft_backquote bs o) ∙ ap (pieces.Token kinds.Quoted) size) in
        let all : Says false (quoted_slice n ++ bs) (quoted_name (quoted_said (quoted_slice n)) ∷ us) =
        says_slice false (quoted_slice n) bs us kinds.Quoted read (omega arith) refl s in
        subst (λ (z : List ℕ). Says false (quoted_slice n ++ bs) (quoted_name z ∷ us)) (name_said n ∙ k.lower) all

-- ---- words
pub word_written : (b : ℕ) (bs : List ℕ) → is_letter b ≡ true → AllOf is_word_byte bs → length (b ∷ bs) ≤ 64 → Said (word_by (keyword_of (folded (b ∷ bs))) (folded (b ∷ bs))) (b ∷ bs)
word_written b bs e all l = record {
  says = λ rest us o s. says_slice false (b ∷ bs) rest us kinds.Word (word_read false b bs rest e all l (soft_word rest o) (soft_quote rest o)) (omega arith) refl s;
}

pub keyword_said : (k : Keyword) (b : ℕ) (bs : List ℕ) → is_letter b ≡ true → list_all is_word_byte bs ≡ true → nat_le (length (b ∷ bs)) 64 ≡ true
    → keyword_of (folded (b ∷ bs)) ≡ Some k → Said (key k) (b ∷ bs)
keyword_said k b bs e all l q =
    subst (λ (o : Option Keyword). Said (word_by o (folded (b ∷ bs))) (b ∷ bs)) q (word_written b bs e (all_of is_word_byte bs all) (leb-true (length (b ∷ bs)) 64 l))

-- a word: a letter and what may follow it, 64 bytes at most
abbrev pub is_spelled : List ℕ → Bool
is_spelled [] = false
is_spelled (b ∷ bs) = is_letter b && (list_all is_word_byte bs && nat_le (length (b ∷ bs)) 64)

-- a word that is no keyword and names a built-in function
pub function_said : (f : Func) (w : List ℕ) → is_spelled w ≡ true → keyword_of (folded w) ≡ None → function_named (folded w) ≡ Some f → Said (function_word f) w
function_said f [] s none e = cc
function_said f (b ∷ bs) s none e =
    let p = and_parts (is_letter b) (list_all is_word_byte bs && nat_le (length (b ∷ bs)) 64) s in
    let q = and_parts (list_all is_word_byte bs) (nat_le (length (b ∷ bs)) 64) p.1 in
    let r = word_written b bs p.0 (all_of is_word_byte bs q.0) (leb-true (length (b ∷ bs)) 64 q.1) in
    let n = subst (λ (o : Option Keyword). Said (word_by o (folded (b ∷ bs))) (b ∷ bs)) none r in
    subst (λ (o : Option Func). Said (name_by o (folded (b ∷ bs))) (b ∷ bs)) e n

pub kw : {k : Keyword} {w : List ℕ} → Said (key k) w → Reading (keyword k).texts tt w
kw {k = k} r = one r (ap (λ b. only_then b (Some tt)) (keyword_kind k))

-- ---- words without quotes that are names
found_by : {A : Type 0} (test : A → Bool) (j k : A) (o : Option A) → (o ≡ Some k → test k ≡ true) → (b : Bool) → test j ≡ b → cond b (Some j) o ≡ Some k → test k ≡ true
found_by {A = A} test j k o more true p q = let same : j ≡ k = cc in subst (λ (i : A). test i ≡ true) same p
found_by test j k o more false p q = more q

found_true : {A : Type 0} (test : A → Bool) (ks : List A) (k : A) → find test ks ≡ Some k → test k ≡ true
found_true test [] k e = cc
found_true test (j ∷ ks) k e = found_by test j k (find test ks) (λ q. found_true test ks k q) (test j) refl e

word_same : (w : List ℕ) (k : Keyword) → keyword_of w ≡ Some k → word_of k ≡ w
word_same w k e = (bytes_eq-Decides (word_of k) w).0 (found_true (λ j. bytes_eq (word_of j) w) keywords k e)

pub function_same : (w : List ℕ) (f : Func) → function_named w ≡ Some f → lower_name f ≡ w
function_same w f e = (bytes_eq-Decides (lower_name f) w).0 (found_true (λ j. bytes_eq (lower_name j) w) functions f e)

-- a name without quotes is SESSION or another one
abbrev pub Bare : List ℕ → Tok → Type 0
Bare n t = (name_of t ≡ n) × ((member (kind t) (code words.Session ∷ []) || member (kind t) (but names (code words.Session ∷ []))) ≡ true)

not_true : (b : Bool) → not b ≡ true → b ≡ false
not_true true e = cc
not_true false e = refl

or_else : (a b : Bool) → a ≡ false → (a || b) ≡ true → b ≡ true
or_else true b e f = cc
or_else false b e f = f

bare_named : (n : List ℕ) (o : Option Func) → function_named n ≡ o → Bare n (name_by o n)
unfolding kind
bare_named n None e = (refl, refl)
bare_named n (Some f) e = (function_same n f e, function_is_name f)

bare_by : (n : List ℕ) → print.is_reserved n ≡ false → (o : Option Keyword) → keyword_of n ≡ o → Bare n (word_by o n)
unfolding kind
bare_by n free None e = bare_named n (function_named n) refl
bare_by n free (Some k) e =
    let same : word_of k ≡ n = word_same n k e in
    (same, or_else (print.is_reserved (word_of k)) (member (code k) (code words.Session ∷ []) || member (code k) (but names (code words.Session ∷ []))) (ap print.is_reserved same ∙ free) (reserved_or_name k))

pub bare_written : (n : List ℕ) → is_name n ≡ true → print.is_bare n ≡ true → (t : Tok) × Said t n × Bare n t
bare_written [] good bare = cc
bare_written (b ∷ bs) good bare =
    let k = name_parts (b ∷ bs) good in
    let p = and_parts (print.is_word (b ∷ bs)) (not (print.is_reserved (b ∷ bs))) bare in
    let q = and_parts (print.is_name_start b) (list_all print.is_name_part bs) p.0 in
    let r = word_written b bs q.0 (all_of is_word_byte bs q.1) k.short in
    (word_by (keyword_of (b ∷ bs)) (b ∷ bs), subst (λ (w : List ℕ). Said (word_by (keyword_of w) w) (b ∷ bs)) k.lower r, bare_by (b ∷ bs) (not_true (print.is_reserved (b ∷ bs)) p.1) (keyword_of (b ∷ bs)) refl)

-- ---- numbers
pub number_written : (n : ℕ) → is_number n ≡ true → Said (digits n) (decimal n)
number_written n good = record {
  says = λ bs us o s.
      let l : n ≤ 9223372036854775807 = leb-true n 9223372036854775807 good in
      let h = decimal_digits n (omega (arith, l)) in
      says_slice false (decimal n) bs us (kinds.Number n) (number_read false n (decimal n) bs h (omega (arith, l)) (soft_digit bs o)) h.1 refl s;
}

minus_piece : (d : ℕ) (ds : List ℕ) → is_ascii_digit d ≡ true → piece_of false (45 ∷ d ∷ ds) ≡ pieces.Token (kinds.Symbol signs.Minus) 1
minus_piece d ds e =
    let p = and_parts (nat_le 48 d) (nat_le d 57) e in
    let l : 48 ≤ d = leb-true 48 d p.0 in
    rw (ne_eqb 45 d (λ q. omega (arith, l, q))) refl

tight_says : (w bs : List ℕ) (t : Tok) (us : List Tok) → AllOf is_ascii_digit w → 0 < length w → Says true (w ++ bs) (t ∷ us) → Says false (45 ∷ (w ++ bs)) (tight_minus ∷ t ∷ us)
tight_says [] bs t us h l s = absurd (omega (arith, l))
tight_says (d ∷ ds) bs t us h l s =
    let all : Says false (45 ∷ d ∷ (ds ++ bs)) (minus_by (is_ascii_digit d) (t ∷ us) ∷ t ∷ us) = say' (kinds.Symbol signs.Minus) 1 (minus_piece d (ds ++ bs) h.0) (omega arith) (omega arith) s in
    subst (λ (b : Bool). Says false (45 ∷ d ∷ (ds ++ bs)) (minus_by b (t ∷ us) ∷ t ∷ us)) h.0 all

pub record Negative (k : ℕ) (w : List ℕ) : Type 0 where
  pub last : Tok
  pub value : (last ≡ digits (suc k)) ⊎ ((last ≡ least_digits) × (suc k ≡ 9223372036854775808))
  pub said : (bs : List ℕ) (us : List Tok) → soft bs ≡ true → Says false bs us → Says false (45 ∷ (w ++ bs)) (tight_minus ∷ last ∷ us)

pub negative_written : (k : ℕ) → k ≤ 9223372036854775807 → Negative k (decimal (suc k))
negative_written k l = by (nat_lt k 9223372036854775807) refl
  where
    h : Digits (suc k) (decimal (suc k))
    h = decimal_digits (suc k) (omega (arith, l))

    by : (b : Bool) → nat_lt k 9223372036854775807 ≡ b → Negative k (decimal (suc k))
    by true e =
        let m : k < 9223372036854775807 = ltb-true k 9223372036854775807 e in
        record {
          last = digits (suc k);
          value = inl refl;
          said = λ bs us o s. tight_says (decimal (suc k)) bs (digits (suc k)) us h.0 h.1
              (says_slice true (decimal (suc k)) bs us (kinds.Number (suc k)) (number_read true (suc k) (decimal (suc k)) bs h (omega (arith, m)) (soft_digit bs o)) h.1 refl s);
        }
    by false e =
        let m : 9223372036854775807 ≤ k = ltb-false k 9223372036854775807 e in
        let same : suc k ≡ 9223372036854775808 = omega (arith, l, m) in
        record {
          last = least_digits;
          value = inr (refl, same);
          said = λ bs us o s. tight_says (decimal (suc k)) bs least_digits us h.0 h.1
              (says_slice true (decimal (suc k)) bs us kinds.Least (least_read (decimal (suc k)) bs (subst (λ (n : ℕ). Digits n (decimal (suc k))) same h) (soft_digit bs o)) h.1 refl s);
        }

-- ---- texts
simple_byte : (b : ℕ) → is_plain b ≡ true → is_simple b ≡ true
simple_byte b e =
    let p = and_parts (nat_le 32 b && nat_le b 126 && not (b == 39)) (not (b == 92)) e in
    let q = and_parts (nat_le 32 b && nat_le b 126) (not (b == 39)) p.0 in
    rw (q.1, p.1) refl

bytes_of : (t : List ℕ) → list_all (λ b. nat_le b 255) t ≡ true → IsBytes t
bytes_of [] e i = omega arith
bytes_of (b ∷ t) e zero =
    let p = and_parts (nat_le b 255) (list_all (λ c. nat_le c 255) t) e in
    let l : b ≤ 255 = leb-true b 255 p.0 in omega (arith, l)
bytes_of (b ∷ t) e (suc i) = bytes_of t (and_parts (nat_le b 255) (list_all (λ c. nat_le c 255) t) e).1 i

pub text_written : (t : List ℕ) → list_all (λ b. nat_le b 255) t ≡ true → Said (literal_text t) (quoted_of t)
text_written t good = by (list_all is_plain t) refl
  where
    by : (b : Bool) → list_all is_plain t ≡ b → Said (literal_text t) (if b then string_slice t else hex_slice t)
    by true e =
        let h = all_of is_simple t (all_as is_plain is_simple simple_byte t e) in
        record {
          says = λ bs us o s. subst (λ (z : List ℕ). Says false (string_slice t ++ bs) (literal_text z ∷ us)) (text_said t h)
              (says_slice false (string_slice t) bs us kinds.Text (text_read false t bs h (soft_quote bs o)) (omega arith) refl s);
        }
    by false e =
        let h = bytes_of t good in
        record {
          says = λ bs us o s. subst (λ (z : List ℕ). Says false (hex_slice t ++ bs) (literal_text z ∷ us)) (hex_said t h)
              (says_slice false (hex_slice t) bs us kinds.Text (hex_read false t bs h) (omega arith) refl s);
        }

-- ---- signs
-- a sign that no byte behind it changes
firm_sign : (s : Symbol) (w : List ℕ) → 0 < length w → is_minus (kinds.Symbol s) ≡ false → ((rest : List ℕ) → piece_of false (w ++ rest) ≡ pieces.Token (kinds.Symbol s) (length w)) → Firm (mark s) w
firm_sign s w some plain e = record { says = λ bs us h. says_slice false w bs us (kinds.Symbol s) (e bs) some plain h }

-- a sign and the space behind it
spaced_sign : (s : Symbol) (w : List ℕ) → 0 < length w → is_minus (kinds.Symbol s) ≡ false → ((rest : List ℕ) → piece_of false (w ++ 32 ∷ rest) ≡ pieces.Token (kinds.Symbol s) (length w)) → Firm (mark s) (w ++ 32 ∷ [])
spaced_sign s w some plain e = record {
  says = λ bs us h. subst (λ (z : List ℕ). Says false z (mark s ∷ us)) (sym (append_assoc w (32 ∷ []) bs)) (says_slice false w (32 ∷ bs) us (kinds.Symbol s) (e bs) some plain (space_says false bs us h));
}

by_next : (P : List ℕ → Type 0) → P [] → ((c : ℕ) (cs : List ℕ) → P (c ∷ cs)) → (bs : List ℕ) → P bs
by_next P p q [] = p
by_next P p q (c ∷ cs) = q c cs

abbrev Begun : ℕ → Symbol → List ℕ → Type 0
Begun b s rest = piece_of false (b ∷ rest) ≡ pieces.Token (kinds.Symbol s) 1

pub say_open : Firm (mark signs.Open) (40 ∷ [])
say_open = firm_sign signs.Open (40 ∷ []) (omega arith) refl (by_next (Begun 40 signs.Open) refl (λ c cs. refl))

pub say_close : Firm (mark signs.Close) (41 ∷ [])
say_close = firm_sign signs.Close (41 ∷ []) (omega arith) refl (by_next (Begun 41 signs.Close) refl (λ c cs. refl))

pub say_comma : Firm (mark signs.Comma) (44 ∷ [])
say_comma = firm_sign signs.Comma (44 ∷ []) (omega arith) refl (by_next (Begun 44 signs.Comma) refl (λ c cs. refl))

pub say_semicolon : Firm (mark signs.Semicolon) (59 ∷ [])
say_semicolon = firm_sign signs.Semicolon (59 ∷ []) (omega arith) refl (by_next (Begun 59 signs.Semicolon) refl (λ c cs. refl))

pub say_dot : Firm (mark signs.Dot) (46 ∷ [])
say_dot = firm_sign signs.Dot (46 ∷ []) (omega arith) refl (by_next (Begun 46 signs.Dot) refl (λ c cs. refl))

pub say_star : Firm (mark signs.Star) (42 ∷ [])
say_star = firm_sign signs.Star (42 ∷ []) (omega arith) refl (by_next (Begun 42 signs.Star) refl (λ c cs. refl))

pub say_at_at : Firm (mark signs.AtAt) (64 ∷ 64 ∷ [])
say_at_at = firm_sign signs.AtAt (64 ∷ 64 ∷ []) (omega arith) refl (λ rest. refl)

pub say_equal : Firm (mark signs.Equal) (61 ∷ 32 ∷ [])
say_equal = spaced_sign signs.Equal (61 ∷ []) (omega arith) refl (λ rest. refl)

pub say_same : Firm (mark signs.NullSafeEqual) (60 ∷ 61 ∷ 62 ∷ 32 ∷ [])
say_same = spaced_sign signs.NullSafeEqual (60 ∷ 61 ∷ 62 ∷ []) (omega arith) refl (λ rest. refl)

pub say_other : Firm (mark signs.NotEqual) (60 ∷ 62 ∷ 32 ∷ [])
say_other = spaced_sign signs.NotEqual (60 ∷ 62 ∷ []) (omega arith) refl (λ rest. refl)

pub say_less : Firm (mark signs.Less) (60 ∷ 32 ∷ [])
say_less = spaced_sign signs.Less (60 ∷ []) (omega arith) refl (λ rest. refl)

pub say_less_equal : Firm (mark signs.LessEqual) (60 ∷ 61 ∷ 32 ∷ [])
say_less_equal = spaced_sign signs.LessEqual (60 ∷ 61 ∷ []) (omega arith) refl (λ rest. refl)

pub say_greater : Firm (mark signs.Greater) (62 ∷ 32 ∷ [])
say_greater = spaced_sign signs.Greater (62 ∷ []) (omega arith) refl (λ rest. refl)

pub say_greater_equal : Firm (mark signs.GreaterEqual) (62 ∷ 61 ∷ 32 ∷ [])
say_greater_equal = spaced_sign signs.GreaterEqual (62 ∷ 61 ∷ []) (omega arith) refl (λ rest. refl)

pub say_plus : Firm (mark signs.Plus) (43 ∷ 32 ∷ [])
say_plus = spaced_sign signs.Plus (43 ∷ []) (omega arith) refl (λ rest. refl)

pub say_times : Firm (mark signs.Star) (42 ∷ 32 ∷ [])
say_times = spaced_sign signs.Star (42 ∷ []) (omega arith) refl (λ rest. refl)

-- a minus with a space behind it is no part of a number
pub say_minus : Firm (mark signs.Minus) (45 ∷ 32 ∷ [])
say_minus = record { says = λ bs us h. say' (kinds.Symbol signs.Minus) 1 refl (omega arith) (omega arith) (space_says true bs us h) }

-- an at sign before a backquote
pub at_says : (bs : List ℕ) (us : List Tok) → Says false (96 ∷ bs) us → Says false (64 ∷ 96 ∷ bs) (mark signs.At ∷ us)
at_says bs us s = says_slice false (64 ∷ []) (96 ∷ bs) us (kinds.Symbol signs.At) refl (omega arith) refl s
