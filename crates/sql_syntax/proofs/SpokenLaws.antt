-- What is computed are the tokens of the text.
use Rattle.std.proofs.Common.{◌≡◌, ◌<◌, ℕ, zero, suc, ◌+◌, ◌-◌, Bool, true, false, List, [], ◌∷◌, length, take, drop, refl, ◌∙◌, ap, arith}
use Rattle.std.proofs.lemmas.List.{drop-drop, length-drop}
use Rattle.sql_lex.specs.declared.token.Token.{Token}
use Rattle.sql_lex.specs.declared.token.TokenKind.{TokenKind}
use Rattle.sql_lex.specs.Lexes.{Front, stop', blank', token', IsFront, is_minus}
use Rattle.sql_syntax.specs.Tokens.{Tok}
use Rattle.sql_syntax.specs.Texts.{minus_by, toks}
use Rattle.sql_syntax.specs.Spoken.{tok_by, spoken_from, spoken}

minus_same : (text : List ℕ) (b : Bool) (ts : List Token) → minus_by b (toks text ts) ≡ minus_by b ts
minus_same text true [] = refl
minus_same text true (t ∷ ts) = refl
minus_same text false ts = refl

pub token_same : (text bs : List ℕ) (kind : TokenKind) (at count : ℕ) (rest : List Tok) (ts : List Token) → bs ≡ drop at text → rest ≡ toks text ts
    → tok_by kind (take count bs) (drop count bs) rest ∷ rest ≡ toks text (record { kind = kind; at = at; end = at + count } ∷ ts)
token_same text bs kind at count rest ts e r =
    let k : (at + count) - at ≡ count = omega arith in
    rw (e, r, k, drop-drop count at text, minus_same text) refl

module _ (text : List ℕ) where
  spoken_is : {m : Bool} {at : ℕ} {bs : List ℕ} {ts : List Token} {to : ℕ} → Front m at bs ts to → (n : ℕ) → length bs < n → bs ≡ drop at text → spoken_from n m bs ≡ toks text ts
  unfolding spoken_from
  spoken_is {m = m} {at = at} {bs = bs} {ts = ts} {to = to} f zero l e = absurd (omega (arith, l))
  spoken_is {m = m} {at = at} {bs = bs} {ts = ts} {to = to} (stop' q) (suc n) l e = rw q refl
  spoken_is {m = m} {at = at} {bs = bs} {ts = ts} {to = to} (blank' count q some within f) (suc n) l e =
      rw q (spoken_is {m = false} {at = at + count} {bs = drop count bs} {ts = ts} {to = to} f n (omega (arith, l, some, within, length-drop count bs)) (ap (drop count) e ∙ drop-drop count at text))
  spoken_is {m = m} {at = at} {bs = bs} {to = to} (token' {ts = ts} kind count q some within f) (suc n) l e =
      rw q (token_same text bs kind at count (spoken_from n (is_minus kind) (drop count bs)) ts e
      (spoken_is {m = is_minus kind} {at = at + count} {bs = drop count bs} {ts = ts} {to = to} f n (omega (arith, l, some, within, length-drop count bs)) (ap (drop count) e ∙ drop-drop count at text)))

pub spoken_tokens : (text : List ℕ) (ts : List Token) (stop : ℕ) → IsFront text ts stop → spoken text ≡ toks text ts
spoken_tokens text ts stop f = spoken_is text f (suc (length text)) (omega arith) refl
