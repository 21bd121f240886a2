-- The tokens of a text as its slices, and what they say.
use Rattle.std.proofs.Common.{◌≡◌, ℕ, ◌+◌, ◌-◌, ◌≤◌, ◌<◌, Bool, true, false, List, [], ◌∷◌, length, take, drop, Option, Some, None, refl, sym, ap, ◌∙◌, subst, arith, length-drop}
use Rattle.std.specs.Prelude.{nat_lt, if◌then◌else◌}
use Rattle.std.proofs.lemmas.List.{drop-drop}
use Rattle.sql_lex.specs.declared.pieces.Piece.TheVariants as pieces
use Rattle.sql_lex.specs.declared.token.Token.{Token}
use Rattle.sql_lex.specs.declared.token.TokenKind.{TokenKind}
use Rattle.sql_lex.specs.Begins.{token_of}
use Rattle.sql_lex.specs.Blanks.{blank_length, IsBlank, nothing'}
use Rattle.sql_lex.specs.Lexes.{Front, stop', blank', token', IsFront, Spells, end', gap', say', Refuses, Says}
use Rattle.sql_lex.specs.Pieces.{piece_of, piece_by}
use Rattle.sql_lex.specs.Plain.{Plain, bytes_at, plain_by, plain_tokens}
use Rattle.sql_lex.specs.Spans.{Spans}
use Rattle.sql_lex.proofs.BlankLaws.{blank_joins}
use Rattle.sql_lex.proofs.Fronts.{one_front, front_in_range}

blank_by : (b : Bool) (n count : ℕ) (o : Option (TokenKind × ℕ)) → (if b then pieces.Blank n else piece_by o) ≡ pieces.Blank count → n ≡ count
blank_by true n count o e = cc
blank_by false n count None e = cc
blank_by false n count (Some t) e = cc

blank_is : (m : Bool) (bs : List ℕ) (count : ℕ) → piece_of m bs ≡ pieces.Blank count → blank_length bs ≡ count
blank_is m bs count e = blank_by (nat_lt 0 (blank_length bs)) (blank_length bs) count (token_of m bs) e

module _ (text : List ℕ) where
  ahead : (at count : ℕ) (bs : List ℕ) → bs ≡ drop at text → drop count bs ≡ drop (at + count) text
  ahead at count bs same = ap (drop count) same ∙ drop-drop count at text

  -- white space or a comment before a slice
  gap_grows : (at count to : ℕ) → blank_length (drop at text) ≡ count → 0 < count → at + count ≤ to → IsBlank (bytes_at text (at + count) to) → IsBlank (bytes_at text at to)
  gap_grows at count to e some l more =
      let size : to - at ≡ count + (to - (at + count)) = omega arith in
      let tail : IsBlank (take (to - (at + count)) (drop count (drop at text))) = subst (λ (us : List ℕ). IsBlank (take (to - (at + count)) us)) (sym (drop-drop count at text)) more in
      subst (λ (n : ℕ). IsBlank (take n (drop at text))) (sym size) (blank_joins (drop at text) count (to - (at + count)) e some tail)

  spans_grow : (at count : ℕ) (ts : List Token) (to : ℕ) → blank_length (drop at text) ≡ count → 0 < count → Spans text (at + count) ts to → Spans text at ts to
  spans_grow at count [] to e some s = (omega arith, s.1, gap_grows at count to e some s.0 s.2)
  spans_grow at count (t ∷ ts) to e some s = (omega arith, s.1, s.2, gap_grows at count t.at e some s.0 s.3, s.4)

  none_between : (at : ℕ) → IsBlank (bytes_at text at at)
  none_between at = let e : at - at ≡ 0 = omega arith in subst (λ (n : ℕ). IsBlank (take n (drop at text))) (sym e) nothing'

  fits : (at count : ℕ) (bs : List ℕ) → bs ≡ drop at text → at ≤ length text → count ≤ length bs → at + count ≤ length text
  fits at count bs same l within = let w : count ≤ length (drop at text) = rw same at within in omega (arith, length-drop at text)

  pub front_spans : {m : Bool} {at : ℕ} {bs : List ℕ} {ts : List Token} {to : ℕ} → Front m at bs ts to → bs ≡ drop at text → at ≤ length text → Spans text at ts to
  front_spans (stop' {at = at} e) same l = (omega arith, l, none_between at)
  front_spans (blank' {m = m} {at = at} {bs = bs} {ts = ts} {to = to} count e some within f) same l =
      let is : blank_length (drop at text) ≡ count = rw same at (blank_is m bs count e) in
      spans_grow at count ts to is some (front_spans f (ahead at count bs same) (fits at count bs same l within))
  front_spans (token' {at = at} {bs = bs} kind count e some within f) same l =
      (omega arith, omega arith, fits at count bs same l within, none_between at, front_spans f (ahead at count bs same) (fits at count bs same l within))

  -- ---- what the tokens say
  says_one : (at count : ℕ) (bs : List ℕ) → bs ≡ drop at text → bytes_at text at (at + count) ≡ take count bs
  says_one at count bs same = let e : at + count - at ≡ count = omega arith in rw (e, same) refl

  spells_none : (m : Bool) (bs : List ℕ) → length bs ≡ 0 → Spells m bs []
  spells_none m [] e = end'
  spells_none m (b ∷ bs) e = absurd (omega arith)

  left : (at count : ℕ) (bs : List ℕ) (to : ℕ) → count ≤ length bs → to ≡ at + length bs → to ≡ (at + count) + length (drop count bs)
  left at count bs to within e = omega (arith, length-drop count bs)

  pub front_spells : {m : Bool} {at : ℕ} {bs : List ℕ} {ts : List Token} {to : ℕ} → Front m at bs ts to → bs ≡ drop at text → to ≡ at + length bs → Spells m bs (plain_tokens text ts)
  front_spells (stop' {m = m} {bs = bs} e) same l = spells_none m bs (omega arith)
  front_spells (blank' {at = at} {bs = bs} {to = to} count e some within f) same l =
      gap' count e some within (front_spells f (ahead at count bs same) (left at count bs to within l))
  front_spells (token' {m = m} {at = at} {bs = bs} {ts = ts} {to = to} kind count e some within f) same l =
      let all : Spells m bs (plain_by kind (take count bs) ∷ plain_tokens text ts) = say' kind count e some within (front_spells f (ahead at count bs same) (left at count bs to within l)) in
      subst (λ (w : List ℕ). Spells m bs (plain_by kind w ∷ plain_tokens text ts)) (sym (says_one at count bs same)) all

  pub spells_front : {m : Bool} {bs : List ℕ} {ps : List Plain} → Spells m bs ps → (at : ℕ) → bs ≡ drop at text
      → (ts : List Token) × Front m at bs ts (at + length bs) × (plain_tokens text ts ≡ ps)
  spells_front (end' {m = m}) at same =
      let f : Front m at [] [] at = stop' refl in
      let e : at + 0 ≡ at = omega arith in ([], rw e f, refl)
  spells_front (gap' {m = m} {bs = bs} count e some within s) at same =
      let more = spells_front s (at + count) (ahead at count bs same) in
      let end : at + length bs ≡ (at + count) + length (drop count bs) = omega (arith, length-drop count bs) in
      (more.0, rw end (blank' count e some within more.1), more.2)
  spells_front (say' {m = m} {bs = bs} kind count e some within s) at same =
      let more = spells_front s (at + count) (ahead at count bs same) in
      let end : at + length bs ≡ (at + count) + length (drop count bs) = omega (arith, length-drop count bs) in (
        record { kind = kind; at = at; end = at + count } ∷ more.0,
        rw end (token' kind count e some within more.1),
        ap (λ w. plain_by kind w ∷ plain_tokens text more.0) (says_one at count bs same) ∙ ap (λ qs. plain_by kind (take count bs) ∷ qs) more.2,
      )

-- ---- at whole texts
pub tokens_spans : (text : List ℕ) (ts : List Token) (stop : ℕ) → IsFront text ts stop → Spans text 0 ts stop
tokens_spans text ts stop f = front_spans text f refl (omega arith)

pub tokens_within : (text : List ℕ) (ts : List Token) (stop : ℕ) → IsFront text ts stop → stop ≤ length text
tokens_within text ts stop f = let r = front_in_range f in omega arith

pub tokens_say : (text : List ℕ) (ts : List Token) (stop : ℕ) → IsFront text ts stop → stop ≡ length text → Says text (plain_tokens text ts)
tokens_say text ts stop f e = front_spells text f refl (omega arith)

pub said_front : (text : List ℕ) (ps : List Plain) → Says text ps → (ts : List Token) × IsFront text ts (length text) × (plain_tokens text ts ≡ ps)
said_front text ps s = let x = spells_front text s 0 refl in (x.0, (let e : length text ≡ 0 + length text = omega arith in rw e x.1), x.2)

pub says_only : (text : List ℕ) (ps : List Plain) → Says text ps → (us : List Token) (stop : ℕ) → IsFront text us stop → (plain_tokens text us ≡ ps) × (stop ≡ length text)
says_only text ps s us stop f =
    let x = said_front text ps s in
    let one = one_front f x.0 (length text) x.1 in
    (ap (plain_tokens text) one.0 ∙ x.2, one.1)

pub says_one_list : (text : List ℕ) (ps qs : List Plain) → Says text ps → Says text qs → ps ≡ qs
says_one_list text ps qs s t =
    let x = said_front text ps s in
    sym x.2 ∙ (says_only text qs t x.0 (length text) x.1).0

-- ---- at what the lexer has read
module _ (text : List ℕ) (us : List Token) (stop : ℕ) (front : IsFront text us stop) where
  pub whole_only : length text ≤ stop → (ts : List Token) → IsFront text ts (length text) → us ≡ ts
  whole_only l ts f = (one_front front ts (length text) f).0

  pub part_only : stop < length text → (ts : List Token) → IsFront text ts (length text) → ⊥
  part_only l ts f = let e = (one_front front ts (length text) f).1 in omega arith

  pub part_place : (at : ℕ) → Refuses text at → stop ≡ at
  part_place at r = (one_front front r.1.0 at r.1.1).1

  pub whole_place : length text ≤ stop → (at : ℕ) → Refuses text at → ⊥
  whole_place l at r = let e = part_place at r in let m = r.0 in omega arith
