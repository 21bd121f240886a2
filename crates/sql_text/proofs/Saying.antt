-- The tokens that bytes say, each as the grammar sees it.
use Rattle.std.proofs.Common.{◌≡◌, ◌<◌, ◌≤◌, ℕ, ◌+◌, Bool, true, false, ◌||◌, ◌==◌, List, [], ◌∷◌, ◌++◌, length, take, drop, refl, sym, ◌∙◌, ap, subst, arith, length-append, inl, inr}
use Rattle.std.proofs.lemmas.Bool.{eqb-true, or_cases}
use Rattle.std.proofs.lemmas.List.{drop-drop, length-drop}
use Rattle.std.proofs.Math.Seq.{take-append_seam, drop-append_seam}
use Rattle.std.specs.Char.{is_ascii_digit}
use Rattle.sql_lex.specs.declared.pieces.Piece.TheVariants as pieces
use Rattle.sql_lex.specs.declared.token.Token.{Token}
use Rattle.sql_lex.specs.declared.token.TokenKind.{TokenKind}
use Rattle.sql_lex.specs.Begins.{is_word_byte}
use Rattle.sql_lex.specs.Lexes.{Front, stop', blank', token', is_minus}
use Rattle.sql_lex.specs.Pieces.{piece_of}
use Rattle.sql_lex.specs.Plain.{plain_by}
use Rattle.sql_lex.specs.Quotes.{begins}
use Rattle.sql_lex.specs.Spelled.{Ends}
use Rattle.sql_tree.specs.Statement.{Statement}
use Rattle.sql_syntax.specs.Tokens.{Tok}
use Rattle.sql_syntax.specs.Statements.{statement}
use Rattle.sql_syntax.specs.Texts.{said_by, toks, limit_open, IsStatement}
use Rattle.sql_syntax.specs.Spoken.{tok_by}
use Rattle.sql_syntax.proofs.SpokenLaws.{token_same}

-- Directly behind a minus or not, these bytes say these tokens and nothing else.
pub data Says : Bool → List ℕ → List Tok → Type 0 where
  end' : {m : Bool} → Says m [] []
  gap' : {m : Bool} {bs : List ℕ} {us : List Tok} (count : ℕ) → piece_of m bs ≡ pieces.Blank count
      → 0 < count → count ≤ length bs → Says false (drop count bs) us → Says m bs us
  say' : {m : Bool} {bs : List ℕ} {us : List Tok} (kind : TokenKind) (count : ℕ) → piece_of m bs ≡ pieces.Token kind count
      → 0 < count → count ≤ length bs → Says (is_minus kind) (drop count bs) us → Says m bs (tok_by kind (take count bs) (drop count bs) us ∷ us)

-- ---- the tokens of a text
module _ (text : List ℕ) where
  abbrev Lexed : Bool → ℕ → List ℕ → List Tok → Type 0
  Lexed m at bs us = (ts : List Token) × Front m at bs ts (length text) × (us ≡ toks text ts)

  lexed : {m : Bool} {bs : List ℕ} {us : List Tok} → Says m bs us → (at : ℕ) → bs ≡ drop at text → length bs + at ≡ length text → Lexed m at bs us
  lexed {m = m} {bs = bs} {us = us} end' at e l =
      let q : at ≡ length text = omega (arith, l) in
      ([], subst (λ (k : ℕ). Front m at [] [] k) q (stop' refl), refl)
  lexed {m = m} {bs = bs} {us = us} (gap' count q some within s) at e l =
      let k = lexed {m = false} {bs = drop count bs} {us = us} s (at + count) (ap (drop count) e ∙ drop-drop count at text) (omega (arith, l, some, within, length-drop count bs)) in
      (k.0, blank' count q some within k.1, k.2)
  lexed {m = m} {bs = bs} (say' {us = us} kind count q some within s) at e l =
      let k = lexed {m = is_minus kind} {bs = drop count bs} {us = us} s (at + count) (ap (drop count) e ∙ drop-drop count at text) (omega (arith, l, some, within, length-drop count bs)) in
      (record { kind = kind; at = at; end = at + count } ∷ k.0, token' kind count q some within k.1, token_same text bs kind at count us k.0 e k.2)

pub says_statement : (text : List ℕ) (us : List Tok) (s : Statement) → Says false text us → (statement limit_open).texts s us [] → IsStatement text s
says_statement text us s h g =
    let k = lexed text h 0 refl (omega arith) in
    (k.0, k.1, subst (λ (vs : List Tok). (statement limit_open).texts s vs []) k.2 g)

-- ---- what may stand behind a word, a name, a number or a text
abbrev pub is_soft : ℕ → Bool
is_soft b = b == 32 || b == 40 || b == 41 || b == 44 || b == 46 || b == 59

-- nothing, or a space, a parenthesis, a comma, a dot or a semicolon
abbrev pub soft : List ℕ → Bool
soft [] = true
soft (b ∷ bs) = is_soft b

soft_cases : (P : ℕ → Type 0) → P 32 → P 40 → P 41 → P 44 → P 46 → P 59 → (b : ℕ) → is_soft b ≡ true → P b
soft_cases P p1 p2 p3 p4 p5 p6 b e =
    elim (or_cases (b == 32 || b == 40 || b == 41 || b == 44 || b == 46) (b == 59) e) [
      | inr q ↦ subst P (sym (eqb-true b 59 q)) p6
      | inl e2 ↦ elim (or_cases (b == 32 || b == 40 || b == 41 || b == 44) (b == 46) e2) [
        | inr q ↦ subst P (sym (eqb-true b 46 q)) p5
        | inl e3 ↦ elim (or_cases (b == 32 || b == 40 || b == 41) (b == 44) e3) [
          | inr q ↦ subst P (sym (eqb-true b 44 q)) p4
          | inl e4 ↦ elim (or_cases (b == 32 || b == 40) (b == 41) e4) [
            | inr q ↦ subst P (sym (eqb-true b 41 q)) p3
            | inl e5 ↦ elim (or_cases (b == 32) (b == 40) e5) [
              | inl q ↦ subst P (sym (eqb-true b 32 q)) p1
              | inr q ↦ subst P (sym (eqb-true b 40 q)) p2
            ]
          ]
        ]
      ]
    ]

pub soft_on : (v bs : List ℕ) → soft v ≡ true → soft bs ≡ true → soft (v ++ bs) ≡ true
soft_on [] bs e f = f
soft_on (b ∷ v) bs e f = e

pub soft_word : (bs : List ℕ) → soft bs ≡ true → Ends is_word_byte bs
soft_word [] e = tt
soft_word (b ∷ bs) e = soft_cases (λ c. is_word_byte c ≡ false) refl refl refl refl refl refl b e

pub soft_digit : (bs : List ℕ) → soft bs ≡ true → Ends is_ascii_digit bs
soft_digit [] e = tt
soft_digit (b ∷ bs) e = soft_cases (λ c. is_ascii_digit c ≡ false) refl refl refl refl refl refl b e

pub soft_quote : (bs : List ℕ) → soft bs ≡ true → begins 39 bs ≡ false
soft_quote [] e = refl
soft_quote (b ∷ bs) e = soft_cases (λ c. (c == 39) ≡ false) refl refl refl refl refl refl b e

pub soft_backquote : (bs : List ℕ) → soft bs ≡ true → begins 96 bs ≡ false
soft_backquote [] e = refl
soft_backquote (b ∷ bs) e = soft_cases (λ c. (c == 96) ≡ false) refl refl refl refl refl refl b e

-- ---- single pieces
-- a token that is no minus
pub says_slice : (m : Bool) (w rest : List ℕ) (us : List Tok) (kind : TokenKind) → piece_of m (w ++ rest) ≡ pieces.Token kind (length w) → 0 < length w → is_minus kind ≡ false
    → Says false rest us → Says m (w ++ rest) (said_by (plain_by kind w) ∷ us)
says_slice m w rest us kind e some plain s =
    let behind : Says (is_minus kind) (drop (length w) (w ++ rest)) us = rw (plain, drop-append_seam) s in
    let all : Says m (w ++ rest) (tok_by kind (take (length w) (w ++ rest)) (drop (length w) (w ++ rest)) us ∷ us) =
    say' kind (length w) e some (omega (arith, length-append w rest)) behind in
    let same : tok_by kind (take (length w) (w ++ rest)) (drop (length w) (w ++ rest)) us ≡ said_by (plain_by kind w) = rw (plain, take-append_seam) refl in
    subst (λ (t : Tok). Says m (w ++ rest) (t ∷ us)) same all

pub space_says : (m : Bool) (rest : List ℕ) (us : List Tok) → Says false rest us → Says m (32 ∷ rest) us
space_says m rest us s = gap' 1 refl (omega arith) (omega arith) s
