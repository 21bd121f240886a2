-- The loop of the lexer, and what follows from its relation.
use Rattle.std.proofs.Common.{◌≡◌, ℕ, ◌+◌, ◌≤◌, ◌<◌, Bool, false, List, [], ◌∷◌, ◌++◌, length, drop, append-nil, append_assoc, refl, sym, ap, ◌∙◌, arith, length-drop}
use Rattle.std.proofs.lemmas.List.{drop-drop}
use Rattle.sql_lex.specs.declared.pieces.Piece.TheVariants as pieces
use Rattle.sql_lex.specs.declared.token.Token.{Token}
use Rattle.sql_lex.specs.declared.token.TokenKind.{TokenKind}
use Rattle.sql_lex.specs.Lexes.{is_minus, Front, stop', blank', token'}
use Rattle.sql_lex.specs.Pieces.{piece_of}

module _ (text : List ℕ) (at : ℕ) (ts : List Token) where
  -- the tokens so far, whatever follows them
  abbrev GoesOn : Bool → Type 0
  GoesOn m = (after : List Token) (to : ℕ) → Front m at (drop at text) after to → Front false 0 text (ts ++ after) to

  pub stops_here : (m : Bool) (slice : List ℕ) → slice ≡ drop at text → GoesOn m → pieces.Nothing ≡ piece_of m slice → Front false 0 text ts at
  stops_here m slice same g e = rw append-nil at (g [] at (stop' (rw same at (sym e))))

  module _ (m : Bool) (slice : List ℕ) (same : slice ≡ drop at text) (g : GoesOn m) (count : ℕ) (some : 0 < count) (within : count ≤ length slice) where
    pub in_range : at ≤ length text → at + count ≤ length text
    in_range l = let w : count ≤ length (drop at text) = rw same at within in omega (arith, length-drop at text)

    ahead : drop count (drop at text) ≡ drop (at + count) text
    ahead = drop-drop count at text

    pub blank_here : pieces.Blank count ≡ piece_of m slice → (after : List Token) (to : ℕ) → Front false (at + count) (drop (at + count) text) after to → Front false 0 text (ts ++ after) to
    blank_here e after to f = g after to (blank' count (rw same at (sym e)) some (rw same at within) (rw ahead f))

    pub token_here : (kind : TokenKind) (k : Bool) → pieces.Token kind count ≡ piece_of m slice → k ≡ is_minus kind → (us : List Token)
        → us ≡ ts ++ record { kind = kind; at = at; end = at + count } ∷ []
        → (after : List Token) (to : ℕ) → Front k (at + count) (drop (at + count) text) after to → Front false 0 text (us ++ after) to
    token_here kind k e minus us grown after to f =
        let here : Front false 0 text (ts ++ record { kind = kind; at = at; end = at + count } ∷ after) to =
        g (record { kind = kind; at = at; end = at + count } ∷ after) to (token' kind count (rw same at (sym e)) some (rw same at within) (rw ahead (rw minus at f))) in
        rw (grown, append_assoc) here

-- ---- one list of tokens for each text
inv_stop : {m : Bool} {at : ℕ} {bs : List ℕ} {us : List Token} {to : ℕ} → Front m at bs us to → piece_of m bs ≡ pieces.Nothing → (us ≡ []) × (to ≡ at)
inv_stop (stop' e) h = (refl, refl)
inv_stop (blank' count e some within f) h = cc
inv_stop (token' kind count e some within f) h = cc

inv_blank : {m : Bool} {at : ℕ} {bs : List ℕ} {us : List Token} {to : ℕ} → Front m at bs us to → (count : ℕ) → piece_of m bs ≡ pieces.Blank count
    → Front false (at + count) (drop count bs) us to
inv_blank (stop' e) count h = cc
inv_blank (blank' k e some within f) count h = let same : k ≡ count = cc in rw same at f
inv_blank (token' kind k e some within f) count h = cc

inv_token : {m : Bool} {at : ℕ} {bs : List ℕ} {us : List Token} {to : ℕ} → Front m at bs us to → (kind : TokenKind) (count : ℕ) → piece_of m bs ≡ pieces.Token kind count
    → (vs : List Token) × (us ≡ record { kind = kind; at = at; end = at + count } ∷ vs) × Front (is_minus kind) (at + count) (drop count bs) vs to
inv_token (stop' e) kind count h = cc
inv_token (blank' k e some within f) kind count h = cc
inv_token (token' {ts = vs} k n e some within f) kind count h =
    let same_kind : k ≡ kind = cc in
    let same_count : n ≡ count = cc in
    (vs, rw (same_kind, same_count) refl, rw (same_kind, same_count) at f)

pub one_front : {m : Bool} {at : ℕ} {bs : List ℕ} {ts : List Token} {to : ℕ} → Front m at bs ts to → (us : List Token) (vo : ℕ) → Front m at bs us vo → (ts ≡ us) × (to ≡ vo)
one_front (stop' e) us vo g = let i = inv_stop g e in (sym i.0, sym i.1)
one_front (blank' count e some within f) us vo g = one_front f us vo (inv_blank g count e)
one_front (token' {at = at} kind count e some within f) us vo g =
    let i = inv_token g kind count e in
    let more = one_front f i.0 vo i.2 in
    (ap (λ vs. record { kind = kind; at = at; end = at + count } ∷ vs) more.0 ∙ sym i.1, more.1)

pub front_in_range : {m : Bool} {at : ℕ} {bs : List ℕ} {ts : List Token} {to : ℕ} → Front m at bs ts to → (at ≤ to) × (to ≤ at + length bs)
front_in_range (stop' e) = (omega arith, omega arith)
front_in_range (blank' {bs = bs} count e some within f) =
    let r = front_in_range f in (omega arith, omega (arith, length-drop count bs))
front_in_range (token' {bs = bs} kind count e some within f) =
    let r = front_in_range f in (omega arith, omega (arith, length-drop count bs))
