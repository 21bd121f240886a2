-- Each text of bytes is a statement, is refused at one place, or is too deep.
use Rattle.std.proofs.Common.{◌≡◌, ◌<◌, ◌≤◌, ℕ, suc, ◌⊎◌, inl, inr, List, [], ◌∷◌, ◌++◌, length, Result, Ok, Err, refl, sym, ◌∙◌, ap, subst, arith}
use Rattle.sql_lex.specs.declared.token.Token.{Token}
use Rattle.sql_lex.specs.Lexes.{IsFront, Lexes}
use Rattle.sql_lex.proofs.Fronts.{one_front}
use Rattle.sql_lex.proofs.SpanLaws.{tokens_within}
use Rattle.sql_tree.specs.Statement.{Statement}
use Rattle.sql_grammar.specs.Reader.{Fault, Syntax, Deep}
use Rattle.sql_grammar.specs.Rule.{Rule}
use Rattle.sql_grammar.specs.Whole.{read_whole, IsPlaced, IsExact}
use Rattle.sql_grammar.proofs.Lists.{le_or, split}
use Rattle.sql_syntax.specs.Tokens.{Tok}
use Rattle.sql_syntax.specs.Statements.{statement}
use Rattle.sql_syntax.specs.Texts.{toks, limit_open, IsStatement, place_of, Stops, IsRefusedAt, IsTooDeepAt}
use Rattle.sql_syntax.proofs.StatementLaws.{statement_exact}

-- ---- what is left of the tokens
-- the rest of the grammar's tokens is the rest of the text's
pub rest_of : (text : List ℕ) (ts : List Token) (before us : List Tok) → toks text ts ≡ before ++ us → (front rest : List Token) × (ts ≡ front ++ rest) × (us ≡ toks text rest)
rest_of text ts [] us e = ([], ts, refl, sym e)
rest_of text [] (b ∷ before) us e = cc
rest_of text (t ∷ ts) (b ∷ before) us e =
    let q : toks text ts ≡ before ++ us = cc in
    let k = rest_of text ts before us q in
    (t ∷ k.0, k.1, ap (λ zs. t ∷ zs) k.2, k.3)

pub toks_length : (text : List ℕ) (ts : List Token) → length (toks text ts) ≡ length ts
toks_length text [] = refl
toks_length text (t ∷ ts) = ap suc (toks_length text ts)

no_length : (ws : List Token) (us vs : List Token) → us ≡ ws ++ vs → length us ≤ length vs → us ≡ vs
no_length [] us vs e l = e
no_length (w ∷ ws) us vs e l = absurd (too_long ws us vs e l)
  where
    longer : (ws vs : List Token) → length vs ≤ length (ws ++ vs)
    longer [] vs = omega arith
    longer (w ∷ ws) vs = let k = longer ws vs in omega (arith, k)

    too_long : {w : Token} (ws us vs : List Token) → us ≡ w ∷ (ws ++ vs) → length us ≤ length vs → ⊥
    too_long ws us vs e l = let k = longer ws vs in let m = ap length e in omega (arith, k, m, l)

same_rest : (front front' rest rest' : List Token) → front ++ rest ≡ front' ++ rest' → length rest ≡ length rest' → rest ≡ rest'
same_rest front front' rest rest' e l =
    let k = split front rest front' rest' e (omega (arith, l)) in
    sym (no_length k.0 rest' rest k.2 (omega (arith, l)))

-- ---- faults that are the same
abbrev Answered : Result Statement (Fault Tok) → Fault Tok → Type 0
Answered r e = r ≡ Err e

abbrev Given : Result Statement (Fault Tok) → Statement → Type 0
Given r s = r ≡ Ok s

same_syntax : (r r' : Result Statement (Fault Tok)) (us vs : List Tok) → r ≡ r' → Answered r (Syntax us) → Answered r' (Syntax vs) → us ≡ vs
same_syntax r r' us vs q e f = cc

same_deep : (r r' : Result Statement (Fault Tok)) (us vs : List Tok) → r ≡ r' → Answered r (Deep us) → Answered r' (Deep vs) → us ≡ vs
same_deep r r' us vs q e f = cc

not_both : (r r' : Result Statement (Fault Tok)) (s : Statement) (e : Fault Tok) → r ≡ r' → Given r s → Answered r' e → ⊥
not_both r r' s e q g h = cc

not_two : (r r' : Result Statement (Fault Tok)) (us vs : List Tok) → r ≡ r' → Answered r (Syntax us) → Answered r' (Deep vs) → ⊥
not_two r r' us vs q g h = cc

same_place : (text : List ℕ) (rest rest' : List Token) (stop stop' m n : ℕ) → rest ≡ rest' → stop ≡ stop' → m ≡ place_of rest stop → n ≡ place_of rest' stop' → m ≡ n
same_place text rest rest' stop stop' m n e q g h = g ∙ (ap (λ us. place_of us stop) e ∙ (ap (λ k. place_of rest' k) q ∙ sym h))

-- ---- answers, by any rule that is exact
module _ (rule : ℕ → Rule Tok Statement) (d : ℕ) (exact : IsExact rule) where
  abbrev Says : List ℕ → Statement → Type 0
  Says text s = (ts : List Token) × Lexes text ts × (rule d).texts s (toks text ts) []

  abbrev Breaks : List ℕ → ℕ → Type 0
  Breaks text at = (at < length text) × (ts : List Token) × (s : Statement) × IsFront text ts at × (rule d).texts s (toks text ts) []

  given : (ts : List Tok) (s : Statement) → (rule d).texts s ts [] → Given (read_whole (rule d) ts) s
  given ts s g = (exact.0 d ts s).0 g

  answered : (ts : List Tok) (e : Fault Tok) → IsPlaced rule d ts e → Answered (read_whole (rule d) ts) e
  answered ts e g = (exact.2 d ts e).1 g

  same_read : (text : List ℕ) (ts us : List Token) → ts ≡ us → read_whole (rule d) (toks text ts) ≡ read_whole (rule d) (toks text us)
  same_read text ts us e = ap (λ zs. read_whole (rule d) (toks text zs)) e

  says_once : (text : List ℕ) (s s' : Statement) → Says text s → Says text s' → s ≡ s'
  says_once text s s' g h =
      let q = one_front g.1 h.0 (length text) h.1 in
      exact.1 d (toks text g.0) s s' g.2 (subst (λ (us : List Token). (rule d).texts s' (toks text us) []) (sym q.0) h.2)

  stops_once : (text : List ℕ) (m n : ℕ) → Stops rule d Syntax text m → Stops rule d Syntax text n → m ≡ n
  stops_once text m n g h =
      let q = one_front g.lexed h.ts h.stop h.lexed in
      let e = same_syntax (read_whole (rule d) (toks text g.ts)) (read_whole (rule d) (toks text h.ts)) (toks text g.rest) (toks text h.rest) (same_read text g.ts h.ts q.0)
      (answered (toks text g.ts) (Syntax (toks text g.rest)) g.placed) (answered (toks text h.ts) (Syntax (toks text h.rest)) h.placed) in
      let l = sym (toks_length text g.rest) ∙ (ap length e ∙ toks_length text h.rest) in
      same_place text g.rest h.rest g.stop h.stop m n (same_rest g.front h.front g.rest h.rest (sym g.parted ∙ (q.0 ∙ h.parted)) l) q.1 g.placed_at h.placed_at

  sinks_once : (text : List ℕ) (m n : ℕ) → Stops rule d Deep text m → Stops rule d Deep text n → m ≡ n
  sinks_once text m n g h =
      let q = one_front g.lexed h.ts h.stop h.lexed in
      let e = same_deep (read_whole (rule d) (toks text g.ts)) (read_whole (rule d) (toks text h.ts)) (toks text g.rest) (toks text h.rest) (same_read text g.ts h.ts q.0)
      (answered (toks text g.ts) (Deep (toks text g.rest)) g.placed) (answered (toks text h.ts) (Deep (toks text h.rest)) h.placed) in
      let l = sym (toks_length text g.rest) ∙ (ap length e ∙ toks_length text h.rest) in
      same_place text g.rest h.rest g.stop h.stop m n (same_rest g.front h.front g.rest h.rest (sym g.parted ∙ (q.0 ∙ h.parted)) l) q.1 g.placed_at h.placed_at

  breaks_once : (text : List ℕ) (m n : ℕ) → Breaks text m → Breaks text n → m ≡ n
  breaks_once text m n g h = (one_front g.3 h.1 n h.3).1

  not_says_stops : (make : List Tok → Fault Tok) (text : List ℕ) (s : Statement) (at : ℕ) → Says text s → Stops rule d make text at → ⊥
  not_says_stops make text s at g h =
      let q = one_front g.1 h.ts h.stop h.lexed in
      not_both (read_whole (rule d) (toks text g.0)) (read_whole (rule d) (toks text h.ts)) s (make (toks text h.rest)) (same_read text g.0 h.ts q.0) (given (toks text g.0) s g.2)
      (answered (toks text h.ts) (make (toks text h.rest)) h.placed)

  not_says_breaks : (text : List ℕ) (s : Statement) (at : ℕ) → Says text s → Breaks text at → ⊥
  not_says_breaks text s at g h = let q = one_front g.1 h.1 at h.3 in let e = q.1 in let l = h.0 in omega (arith, e, l)

  not_breaks_stops : (make : List Tok → Fault Tok) (text : List ℕ) (m n : ℕ) → Breaks text m → Stops rule d make text n → ⊥
  not_breaks_stops make text m n g h =
      let q = one_front g.3 h.ts h.stop h.lexed in
      not_both (read_whole (rule d) (toks text g.1)) (read_whole (rule d) (toks text h.ts)) g.2 (make (toks text h.rest)) (same_read text g.1 h.ts q.0) (given (toks text g.1) g.2 g.4)
      (answered (toks text h.ts) (make (toks text h.rest)) h.placed)

  not_stops_sinks : (text : List ℕ) (m n : ℕ) → Stops rule d Syntax text m → Stops rule d Deep text n → ⊥
  not_stops_sinks text m n g h =
      let q = one_front g.lexed h.ts h.stop h.lexed in
      not_two (read_whole (rule d) (toks text g.ts)) (read_whole (rule d) (toks text h.ts)) (toks text g.rest) (toks text h.rest) (same_read text g.ts h.ts q.0)
      (answered (toks text g.ts) (Syntax (toks text g.rest)) g.placed) (answered (toks text h.ts) (Deep (toks text h.rest)) h.placed)

  abbrev Decided : List ℕ → Type 0
  Decided text = ((s : Statement) × Says text s) ⊎ ((at : ℕ) × (Stops rule d Syntax text at ⊎ Breaks text at)) ⊎ ((at : ℕ) × Stops rule d Deep text at)

  stops_by : (make : List Tok → Fault Tok) (text : List ℕ) (ts : List Token) (stop : ℕ) (before us : List Tok) → IsFront text ts stop → toks text ts ≡ before ++ us
      → IsPlaced rule d (toks text ts) (make us) → (at : ℕ) × Stops rule d make text at
  stops_by make text ts stop before us f e p =
      let k = rest_of text ts before us e in
      (place_of k.1 stop, record { ts = ts; stop = stop; front = k.0; rest = k.1; lexed = f; parted = k.2; placed_at = refl; placed = subst (λ (vs : List Tok). IsPlaced rule d (toks text ts) (make vs)) k.3 p })

  decided_by : (text : List ℕ) (ts : List Token) (stop : ℕ) → IsFront text ts stop → (r : Result Statement (Fault Tok)) → read_whole (rule d) (toks text ts) ≡ r → Decided text
  decided_by text ts stop f (Ok s) e =
      let g = (exact.0 d (toks text ts) s).1 e in
      let within = tokens_within text ts stop f in
      elim (le_or (length text) stop) [
        | inl l ↦ (let q : stop ≡ length text = omega (arith, l, within) in inl (s, (ts, subst (λ (k : ℕ). IsFront text ts k) q f, g)))
        | inr l ↦ inr (inl (stop, inr (l, ts, s, f, g)))
      ]
  decided_by text ts stop f (Err (Syntax us)) e =
      let p = (exact.2 d (toks text ts) (Syntax us)).0 e in
      let k = stops_by Syntax text ts stop p.0 us f p.1 p in inr (inl (k.0, inl k.1))
  decided_by text ts stop f (Err (Deep us)) e =
      let p = (exact.2 d (toks text ts) (Deep us)).0 e in
      inr (inr (stops_by Deep text ts stop p.0 us f p.1 p))

  pub decided : (text : List ℕ) (ts : List Token) (stop : ℕ) → IsFront text ts stop → Decided text
  decided text ts stop f = decided_by text ts stop f (read_whole (rule d) (toks text ts)) refl

-- ---- the answers to texts
pub each_decided : (text : List ℕ) (ts : List Token) (stop : ℕ) → IsFront text ts stop → ((s : Statement) × IsStatement text s) ⊎ ((at : ℕ) × IsRefusedAt text at) ⊎ ((at : ℕ) × IsTooDeepAt text at)
each_decided = decided statement limit_open statement_exact

pub statement_once : (text : List ℕ) (s s' : Statement) → IsStatement text s → IsStatement text s' → s ≡ s'
statement_once = says_once statement limit_open statement_exact

pub place_once : (text : List ℕ) (m n : ℕ) → IsRefusedAt text m → IsRefusedAt text n → m ≡ n
place_once text m n (inl g) (inl h) = stops_once statement limit_open statement_exact text m n g h
place_once text m n (inl g) (inr h) = absurd (not_breaks_stops statement limit_open statement_exact Syntax text n m h g)
place_once text m n (inr g) (inl h) = absurd (not_breaks_stops statement limit_open statement_exact Syntax text m n g h)
place_once text m n (inr g) (inr h) = breaks_once statement limit_open statement_exact text m n g h

pub not_refused : (text : List ℕ) (s : Statement) (at : ℕ) → IsStatement text s → IsRefusedAt text at → ⊥
not_refused text s at g (inl h) = not_says_stops statement limit_open statement_exact Syntax text s at g h
not_refused text s at g (inr h) = not_says_breaks statement limit_open statement_exact text s at g h

pub deep_once : (text : List ℕ) (m n : ℕ) → IsTooDeepAt text m → IsTooDeepAt text n → m ≡ n
deep_once = sinks_once statement limit_open statement_exact

pub not_deep : (text : List ℕ) (s : Statement) (at : ℕ) → IsStatement text s → IsTooDeepAt text at → ⊥
not_deep = not_says_stops statement limit_open statement_exact Deep

pub not_refused_deep : (text : List ℕ) (m n : ℕ) → IsRefusedAt text m → IsTooDeepAt text n → ⊥
not_refused_deep text m n (inl g) h = not_stops_sinks statement limit_open statement_exact text m n g h
not_refused_deep text m n (inr g) h = not_breaks_stops statement limit_open statement_exact Deep text m n g h
