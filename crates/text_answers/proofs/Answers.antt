-- The answer that is computed is that of the grammar.
use Rattle.std.proofs.Common.{◌≡◌, ◌<◌, ℕ, zero, suc, ◌+◌, ◌-◌, inl, inr, Bool, true, false, List, [], ◌∷◌, ◌++◌, length, drop, Result, Ok, Err, refl, ◌∙◌, ap, subst, arith, cond}
use Rattle.std.proofs.lemmas.Bool.{ltb-true, ltb-false, leb-true, leb-false}
use Rattle.std.proofs.lemmas.List.{length-drop}
use Rattle.std.specs.Prelude.{nat_le, nat_lt}
use Rattle.hex.specs.Hex.{IsBytes}
use Rattle.sql_lex.specs.declared.pieces.Piece.{Piece}
use Rattle.sql_lex.specs.declared.pieces.Piece.TheVariants as pieces
use Rattle.sql_lex.specs.declared.token.Token.{Token}
use Rattle.sql_lex.specs.Lexes.{Front, stop', blank', token', is_minus, IsFront}
use Rattle.sql_lex.specs.Pieces.{piece_of, IsWithin}
use Rattle.sql_lex.proofs.SpanLaws.{tokens_within}
use Rattle.sql_grammar.specs.Reader.{Fault, Syntax, Deep}
use Rattle.sql_grammar.specs.Whole.{read_whole, IsPlaced}
use Rattle.sql_syntax.specs.Statements.{statement}
use Rattle.sql_syntax.specs.Texts.{toks, limit_open, limit_deep, place_of, Stops, reads, IsStatement, IsRefusedAt, IsTooDeep}
use Rattle.sql_syntax.specs.Tokens.{Tok}
use Rattle.sql_syntax.proofs.StatementLaws.{statement_exact}
use Rattle.sql_syntax.proofs.TextLaws.{rest_of, toks_length, statement_once, place_once, not_refused, not_deep, not_refused_deep}
use Rattle.sql_tree.specs.Depth.{depth_of}
use Rattle.sql_tree.specs.Statement.{Statement}
use Rattle.sql_tree.specs.Well.{IsWell}
use Rattle.text_answers.specs.Answers.{tokens_by, tokens_from, placed_tokens, TextAnswer, a_statement, a_syntax_error, too_deep, place_before, whole_answer, answer_by, text_answer, IsAnswered, TokensAreComputed, AnswersAreWell}
use Rattle.text_answers.proofs.Pieces.{piece_within}

-- ---- tokens
abbrev IsFrontFrom : ℕ → Type 0
IsFrontFrom n = (m : Bool) (at : ℕ) (bs : List ℕ) → length bs < n → Front m at bs (tokens_from n m at bs).0 (tokens_from n m at bs).1

front_by : (n : ℕ) → IsFrontFrom n → (m : Bool) (at : ℕ) (bs : List ℕ) → length bs < suc n → (p : Piece) → piece_of m bs ≡ p → IsWithin (length bs) p
    → Front m at bs (tokens_by (tokens_from n) at bs p).0 (tokens_by (tokens_from n) at bs p).1
front_by n more m at bs l pieces.Nothing q w = stop' q
front_by n more m at bs l (pieces.Blank count) q w =
    let some = w.0 in let within = w.1 in
    blank' count q some within (more false (at + count) (drop count bs) (omega (arith, l, some, within, length-drop count bs)))
front_by n more m at bs l (pieces.Token kind count) q w =
    let some = w.0 in let within = w.1 in
    token' kind count q some within (more (is_minus kind) (at + count) (drop count bs) (omega (arith, l, some, within, length-drop count bs)))

tokens_front : (n : ℕ) → IsFrontFrom n
unfolding tokens_from
tokens_front zero m at bs l = absurd (omega (arith, l))
tokens_front (suc n) m at bs l = front_by n (tokens_front n) m at bs l (piece_of m bs) refl (piece_within m bs)

pub placed_front : TokensAreComputed
placed_front text = tokens_front (suc (length text)) false 0 text (omega arith)

-- ---- places
drop_front : {A : Type 0} (front rest : List A) (n : ℕ) → n ≡ length front → drop n (front ++ rest) ≡ rest
drop_front [] rest zero e = refl
drop_front [] rest (suc n) e = absurd (omega (arith, e))
drop_front (x ∷ front) rest zero e = absurd (omega (arith, e))
drop_front (x ∷ front) rest (suc n) e = drop_front front rest n (omega (arith, e))

lengths : {A : Type 0} (front rest : List A) → length (front ++ rest) ≡ length front + length rest
lengths [] rest = omega arith
lengths (x ∷ front) rest = let k = lengths front rest in omega (arith, k)

place_is : (text : List ℕ) (ts front rest : List Token) (us : List Tok) (stop : ℕ) → ts ≡ front ++ rest → us ≡ toks text rest
    → place_before ts (length us) stop ≡ place_of rest stop
place_is text ts front rest us stop parted left =
    let n : length us ≡ length rest = ap length left ∙ toks_length text rest in
    let m : length ts ≡ length front + length rest = ap length parted ∙ lengths front rest in
    let k : length ts - length us ≡ length front = omega (arith, n, m) in
    ap (λ zs. place_of zs stop) (ap (drop (length ts - length us)) parted ∙ drop_front front rest (length ts - length us) k)

-- ---- the answer is right
abbrev IsRight : List ℕ → TextAnswer → Type 0
IsRight text (a_statement s) = reads text s
IsRight text (a_syntax_error at) = IsRefusedAt text at
IsRight text too_deep = IsTooDeep text

module _ (text : List ℕ) (ts : List Token) (stop : ℕ) (lexed : IsFront text ts stop) where
  stops_by : (make : List Tok → Fault Tok) (us : List Tok) → (before : List Tok) → toks text ts ≡ before ++ us → IsPlaced statement limit_open (toks text ts) (make us)
      → Stops statement limit_open make text (place_before ts (length us) stop)
  stops_by make us before e p =
      let k = rest_of text ts before us e in
      record {
        ts = ts;
        stop = stop;
        front = k.0;
        rest = k.1;
        lexed = lexed;
        parted = k.2;
        placed_at = place_is text ts k.0 k.1 us stop k.2 k.3;
        placed = subst (λ (vs : List Tok). IsPlaced statement limit_open (toks text ts) (make vs)) k.3 p;
      }

  whole_right : (s : Statement) → IsStatement text s → (b : Bool) → nat_le (depth_of s) limit_deep ≡ b → IsRight text (cond b (a_statement s) too_deep)
  whole_right s g true e = (g, leb-true (depth_of s) limit_deep e)
  whole_right s g false e = inr (s, g, leb-false (depth_of s) limit_deep e)

  read_right : (s : Statement) → read_whole (statement limit_open) (toks text ts) ≡ Ok s → (b : Bool) → nat_lt stop (length text) ≡ b
      → IsRight text (cond b (a_syntax_error stop) (whole_answer s))
  read_right s e true l = inr (ltb-true stop (length text) l, ts, s, lexed, (statement_exact.0 limit_open (toks text ts) s).1 e)
  read_right s e false l =
      let within = tokens_within text ts stop lexed in
      let past = ltb-false stop (length text) l in
      let end : stop ≡ length text = omega (arith, within, past) in
      whole_right s (ts, subst (λ (k : ℕ). IsFront text ts k) end lexed, (statement_exact.0 limit_open (toks text ts) s).1 e) (nat_le (depth_of s) limit_deep) refl

  answer_right : (r : Result Statement (Fault Tok)) → read_whole (statement limit_open) (toks text ts) ≡ r → IsRight text (answer_by text ts stop r)
  answer_right (Ok s) e = read_right s e (nat_lt stop (length text)) refl
  answer_right (Err (Syntax us)) e = let p = (statement_exact.2 limit_open (toks text ts) (Syntax us)).0 e in inl (stops_by Syntax us p.0 p.1 p)
  answer_right (Err (Deep us)) e =
      let p = (statement_exact.2 limit_open (toks text ts) (Deep us)).0 e in
      inl (place_before ts (length us) stop, stops_by Deep us p.0 p.1 p)

right : (text : List ℕ) → IsRight text (text_answer text)
unfolding text_answer
right text =
    answer_right text (placed_tokens text).0 (placed_tokens text).1 (placed_front text) (read_whole (statement limit_open) (toks text (placed_tokens text).0)) refl

-- ---- and the only one
too_deep_once : (text : List ℕ) (s : Statement) → reads text s → IsTooDeep text → ⊥
too_deep_once text s g (inl (at, h)) = not_deep text s at g.0 h
too_deep_once text s g (inr (t, h, m)) =
    let e : depth_of s ≡ depth_of t = ap depth_of (statement_once text s t g.0 h) in let l = g.1 in omega (arith, e, l, m)

refused_once : (text : List ℕ) (at : ℕ) → IsRefusedAt text at → IsTooDeep text → ⊥
refused_once text at g (inl (k, h)) = not_refused_deep text at k g h
refused_once text at g (inr (t, h, m)) = not_refused text t at h g

only_statement : (text : List ℕ) (s : Statement) (a : TextAnswer) → reads text s → IsRight text a → a ≡ a_statement s
only_statement text s (a_statement t) g h = ap a_statement (statement_once text t s h.0 g.0)
only_statement text s (a_syntax_error at) g h = absurd (not_refused text s at g.0 h)
only_statement text s too_deep g h = absurd (too_deep_once text s g h)

only_refused : (text : List ℕ) (at : ℕ) (a : TextAnswer) → IsRefusedAt text at → IsRight text a → a ≡ a_syntax_error at
only_refused text at (a_statement t) g h = absurd (not_refused text t at h.0 g)
only_refused text at (a_syntax_error k) g h = ap a_syntax_error (place_once text k at h g)
only_refused text at too_deep g h = absurd (refused_once text at g h)

only_deep : (text : List ℕ) (a : TextAnswer) → IsTooDeep text → IsRight text a → a ≡ too_deep
only_deep text (a_statement t) g h = absurd (too_deep_once text t h g)
only_deep text (a_syntax_error at) g h = absurd (refused_once text at h g)
only_deep text too_deep g h = refl

pub answered : (text : List ℕ) → IsAnswered text
answered text = record {
  statement = λ s. ((λ g. only_statement text s (text_answer text) g (right text)), λ e. subst (IsRight text) e (right text));
  refused = λ at. ((λ g. only_refused text at (text_answer text) g (right text)), λ e. subst (IsRight text) e (right text));
  deep = ((λ g. only_deep text (text_answer text) g (right text)), λ e. subst (IsRight text) e (right text));
}

-- by the law that what a text of bytes is read as is well
pub answers_well : ((text : List ℕ) (s : Statement) → IsBytes text → reads text s → IsWell s) → AnswersAreWell
answers_well well text s bytes e = well text s bytes (subst (IsRight text) e (right text))
