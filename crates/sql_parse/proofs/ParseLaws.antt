-- From what is read of the tokens to the answer to the text.
use Rattle.std.proofs.Common.{◌≡◌, ◌<◌, ◌≤◌, ℕ, zero, suc, ◌+◌, ◌-◌, ◌⊎◌, inl, inr, List, [], ◌∷◌, ◌++◌, length, drop, map, Option, Some, None, Result, Ok, Err, refl, sym, ◌∙◌, ap, subst, arith}
use Rattle.std.specs.Prelude.{IfOk, IfErr}
use Rattle.sql_lex.specs.declared.token.Token.{Token}
use Rattle.sql_lex.specs.Lexes.{IsFront, Lexes}
use Rattle.sql_tree.specs.Depth.{depth_of}
use Rattle.sql_tree.specs.Statement.{Statement}
use Rattle.sql_tree.specs.StatementView.{view}
use Rattle.sql_tree.specs.declared.statements.Stmt.{Stmt}
use Rattle.sql_grammar.specs.Reader.{Fault, Read, Syntax as syntax, Deep as deep}
use Rattle.sql_grammar.specs.Rule.{Rule}
use Rattle.sql_grammar.specs.Whole.{whole_of, IsPlaced, IsExact}
use Rattle.sql_parse_tokens.specs.declared.lexeme.Lexeme.{Lexeme}
use Rattle.sql_parse.specs.declared.parsing.ParseRefusal.{ParseRefusal}
use Rattle.sql_parse.specs.declared.parsing.ParseRefusal.TheVariants.{Syntax, Deep, NoMemory}
use Rattle.sql_syntax.specs.Tokens.{Tok}
use Rattle.sql_parse_tokens.specs.Lexing.{bounded, lexeme_place, place}
use Rattle.sql_syntax.specs.Statements.{statement}
use Rattle.sql_syntax.specs.Texts.{toks, limit_open, limit_deep, reads, IsStatement, place_of, Stops, IsRefusedAt, IsTooDeep}
use Rattle.sql_parse_nodes.specs.declared.kept.Levelled.{Levelled}
use Rattle.sql_parse_tokens.specs.declared.fault.Stop.{Stop}
use Rattle.sql_parse_tokens.specs.declared.fault.Stop.TheVariants as stops
use Rattle.sql_parse_tokens.specs.Gives.{Fails}
use Rattle.sql_parse.specs.Answers.{Answers, IsCause, IsRead, IsRefused, IsSunk, IsWhole, first_at, place_left, reading}
use Rattle.sql_parse_nodes.specs.Kept.{IsKept}
use Rattle.sql_parse_tokens.specs.Lexemes.{seen}
use Rattle.sql_parse_tokens.proofs.Bounds.{bounded_front}
use Rattle.sql_parse_nodes.proofs.KeptLaws.{Held, gone, held, held_of}
use Rattle.sql_syntax.proofs.StatementLaws.{statement_exact}
use Rattle.sql_syntax.proofs.TextLaws.{rest_of, toks_length, statement_once, place_once, not_refused, not_deep, not_refused_deep}

-- ---- places
drop_front : {A : Type 0} (front rest : List A) (n : ℕ) → n ≡ length front → drop n (front ++ rest) ≡ rest
drop_front [] rest zero e = refl
drop_front [] rest (suc n) e = absurd (omega (arith, e))
drop_front (x ∷ front) rest zero e = absurd (omega (arith, e))
drop_front (x ∷ front) rest (suc n) e = drop_front front rest n (omega (arith, e))

lengths : {A : Type 0} (front rest : List A) → length (front ++ rest) ≡ length front + length rest
lengths [] rest = omega arith
lengths (x ∷ front) rest = let k = lengths front rest in omega (arith, k)

same_length : (ls : List Lexeme) (ts : List Token) → map lexeme_place ls ≡ map place ts → length ls ≡ length ts
same_length [] [] e = refl
same_length [] (t ∷ ts) e = cc
same_length (l ∷ ls) [] e = cc
same_length (l ∷ ls) (t ∷ ts) e = let q : map lexeme_place ls ≡ map place ts = cc in ap suc (same_length ls ts q)

same_first : (ls : List Lexeme) (ts : List Token) (n stop : ℕ) → map lexeme_place ls ≡ map place ts → first_at (drop n ls) stop ≡ place_of (drop n ts) stop
same_first [] [] zero stop e = refl
same_first [] [] (suc n) stop e = refl
same_first [] (t ∷ ts) n stop e = absurd cc
same_first (l ∷ ls) [] n stop e = absurd cc
same_first (l ∷ ls) (t ∷ ts) zero stop e = let q : lexeme_place l ≡ place t = cc in ap (λ (z : ℕ × ℕ). z.0) q
same_first (l ∷ ls) (t ∷ ts) (suc n) stop e = let q : map lexeme_place ls ≡ map place ts = cc in same_first ls ts n stop q

place_is : (text : List ℕ) (ls : List Lexeme) (ts front rest : List Token) (us : List Tok) (stop : ℕ) → map lexeme_place ls ≡ map place ts → ts ≡ front ++ rest → us ≡ toks text rest
    → place_left ls (length us) stop ≡ place_of rest stop
place_is text ls ts front rest us stop places parted left =
    let n : length us ≡ length rest = ap length left ∙ toks_length text rest in
    let m : length ls ≡ length front + length rest = same_length ls ts places ∙ (ap length parted ∙ lengths front rest) in
    let k : length ls - length us ≡ length front = omega (arith, n, m) in
    same_first ls ts (length ls - length us) stop places ∙ ap (λ zs. place_of zs stop) (ap (drop (length ls - length us)) parted ∙ drop_front front rest (length ls - length us) k)

all_of : {A : Type 0} (zs : List A) → zs ≡ zs ++ []
all_of [] = refl
all_of (z ∷ zs) = ap (λ us. z ∷ us) (all_of zs)

drop_all : {A : Type 0} (zs : List A) → drop (length zs - 0) zs ≡ []
drop_all zs = let e : length zs - 0 ≡ length zs = omega arith in rw e (drop_length zs)
  where
    drop_length : {A : Type 0} (zs : List A) → drop (length zs) zs ≡ []
    drop_length [] = refl
    drop_length (z ∷ zs) = drop_length zs

-- ---- what is read
abbrev Got : Read Tok Statement → Statement → List Tok → Type 0
Got read s us = read ≡ Ok (s, us)

abbrev Failed : Read Tok Statement → Fault Tok → Type 0
Failed read e = read ≡ Err e

whole_ok : (read : Read Tok Statement) (s : Statement) → Got read s [] → whole_of read ≡ Ok s
whole_ok read s e = rw e refl

whole_more : (read : Read Tok Statement) (s : Statement) (us : List Tok) → Got read s us → 0 < length us → whole_of read ≡ Err (syntax us)
whole_more read s [] e l = absurd (omega (arith, l))
whole_more read s (u ∷ us) e l = rw e refl

whole_err : (read : Read Tok Statement) (f : Fault Tok) → Failed read f → whole_of read ≡ Err f
whole_err read f e = rw e refl

-- ---- by any rule that is exact
module _ (rule : ℕ → Rule Tok Statement) (d : ℕ) (exact : IsExact rule) where
  abbrev Says : List ℕ → Statement → Type 0
  Says text s = (ts : List Token) × Lexes text ts × (rule d).texts s (toks text ts) []

  abbrev Breaks : List ℕ → ℕ → Type 0
  Breaks text at = (at < length text) × (ts : List Token) × (s : Statement) × IsFront text ts at × (rule d).texts s (toks text ts) []

  abbrev Cause : List ℕ → ParseRefusal → Type 0
  Cause text (Syntax at) = Stops rule d syntax text at ⊎ Breaks text at
  Cause text Deep = ((at : ℕ) × Stops rule d deep text at) ⊎ ((s : Statement) × Says text s × (limit_deep < depth_of s))
  Cause text NoMemory = Unit {0}

  module _ (text : List ℕ) (ts : List Token) (stop : ℕ) (front : IsFront text ts stop) where
    abbrev all : Read Tok Statement
    all = (rule d).read (toks text ts)

    is_text : (s : Statement) → Got all s [] → (rule d).texts s (toks text ts) []
    is_text s e = (exact.0 d (toks text ts) s).1 (whole_ok all s e)

    stops_at : (ls : List Lexeme) (us : List Tok) (at : ℕ) → map lexeme_place ls ≡ map place ts → at ≡ place_left ls (length us) stop → whole_of all ≡ Err (syntax us) → Stops rule d syntax text at
    stops_at ls us at places e h =
        let p = (exact.2 d (toks text ts) (syntax us)).0 h in
        let k = rest_of text ts p.0 us p.1 in
        record {
          ts = ts;
          stop = stop;
          front = k.0;
          rest = k.1;
          lexed = front;
          parted = k.2;
          placed_at = e ∙ place_is text ls ts k.0 k.1 us stop places k.2 k.3;
          placed = subst (λ (vs : List Tok). IsPlaced rule d (toks text ts) (syntax vs)) k.3 p;
        }

    sinks_at : (us : List Tok) → whole_of all ≡ Err (deep us) → (at : ℕ) × Stops rule d deep text at
    sinks_at us h =
        let p = (exact.2 d (toks text ts) (deep us)).0 h in
        let k = rest_of text ts p.0 us p.1 in (
          place_of k.1 stop,
          record {
            ts = ts;
            stop = stop;
            front = k.0;
            rest = k.1;
            lexed = front;
            parted = k.2;
            placed_at = refl;
            placed = subst (λ (vs : List Tok). IsPlaced rule d (toks text ts) (deep vs)) k.3 p;
          },
        )

    says : (s : Statement) → Got all s [] → stop ≡ length text → Says text s
    says s e end = (ts, subst (λ (k : ℕ). IsFront text ts k) end front, is_text s e)

    refused_by : (ls : List Lexeme) (us : List Tok) (at : ℕ) (s : Statement) → map lexeme_place ls ≡ map place ts → at ≡ place_left ls (length us) stop → Got all s us
        → (0 < length us) ⊎ (stop < length text) → Stops rule d syntax text at ⊎ Breaks text at
    refused_by ls us at s places e g (inl more) = inl (stops_at ls us at places e (whole_more all s us g more))
    refused_by ls (u ∷ us) at s places e g (inr l) = inl (stops_at ls (u ∷ us) at places e (whole_more all s (u ∷ us) g (omega arith)))
    refused_by ls [] at s places e g (inr l) =
        let same : at ≡ stop = e ∙ place_is text ls ts ts [] [] stop places (all_of ts) refl in
        inr (subst (λ (k : ℕ). Breaks text k) (sym same) (l, ts, s, front, is_text s g))

    pub found_by : (ls : List Lexeme) (s : Stmt) → Answers text ls stop all (Ok s) → Says text (view s) × (depth_of (view s) ≤ limit_deep)
    found_by ls s h = (says (view s) h.0 h.1, h.2)

    pub cause_by : (ls : List Lexeme) (e : ParseRefusal) → map lexeme_place ls ≡ map place ts → Answers text ls stop all (Err e) → Cause text e
    cause_by ls (Syntax at) places (us, e, inl f) = inl (stops_at ls us at places e (whole_err all (syntax us) f))
    cause_by ls (Syntax at) places (us, e, inr (s, g, why)) = refused_by ls us at s places e g why
    cause_by ls Deep places (inl (us, f)) = inl (sinks_at us (whole_err all (deep us) f))
    cause_by ls Deep places (inr (s, g, end, l)) = inr (s, says s g end, l)
    cause_by ls NoMemory places h = tt

-- what is answered is so
found : (text : List ℕ) (ts : List Token) (stop : ℕ) (ls : List Lexeme) (s : Stmt) → IsFront text ts stop → Answers text ls stop (reading (toks text ts)) (Ok s) → reads text (view s)
unfolding reading
found text ts stop ls s f h = found_by statement limit_open statement_exact text ts stop f ls s h

cause_of : (text : List ℕ) (ts : List Token) (stop : ℕ) (ls : List Lexeme) (e : ParseRefusal) → IsFront text ts stop → map lexeme_place ls ≡ map place ts
    → Answers text ls stop (reading (toks text ts)) (Err e) → IsCause text e
unfolding reading
cause_of text ts stop ls (Syntax at) f places h = cause_by statement limit_open statement_exact text ts stop f ls (Syntax at) places h
cause_of text ts stop ls Deep f places h = cause_by statement limit_open statement_exact text ts stop f ls Deep places h
cause_of text ts stop ls NoMemory f places h = tt

-- ---- one answer
cause_says : (text : List ℕ) (s : Statement) → IsStatement text s → depth_of s ≤ limit_deep → (e : ParseRefusal) → IsCause text e → IsRead s (Err e)
cause_says text s g l (Syntax at) h = not_refused text s at g h
cause_says text s g l Deep (inl (at, h)) = not_deep text s at g h
cause_says text s g l Deep (inr (t, h, m)) = let e : depth_of s ≡ depth_of t = ap depth_of (statement_once text s t g h) in omega (arith, e, l, m)
cause_says text s g l NoMemory h = tt

cause_refuses : (text : List ℕ) (at : ℕ) → IsRefusedAt text at → (e : ParseRefusal) → IsCause text e → IsRefused at (Err e)
cause_refuses text at g (Syntax k) h = place_once text k at h g
cause_refuses text at g Deep (inl (k, h)) = not_refused_deep text at k g h
cause_refuses text at g Deep (inr (t, h, m)) = not_refused text t at h g
cause_refuses text at g NoMemory h = tt

cause_sinks : (text : List ℕ) → IsTooDeep text → (e : ParseRefusal) → IsCause text e → IsSunk (Err e)
cause_sinks text (inl (k, g)) (Syntax at) h = not_refused_deep text at k h g
cause_sinks text (inr (t, g, m)) (Syntax at) h = not_refused text t at g h
cause_sinks text g Deep h = tt
cause_sinks text g NoMemory h = tt

-- a text that is this statement is read as it, one that is refused is refused there, and one that is too deep is too deep
abbrev pub Settled : List ℕ → Result Stmt ParseRefusal → Type 0
Settled text r =
    IfOk r (λ s. reads text (view s)) × IfErr r (IsCause text) × ((s : Statement) → reads text s → IsRead s r) × ((at : ℕ) → IsRefusedAt text at → IsRefused at r) × (IsTooDeep text → IsSunk r)

settled_ok : (text : List ℕ) (t : Stmt) → reads text (view t) → Settled text (Ok t)
settled_ok text t q = (q, tt, (λ s g. statement_once text (view t) s q.0 g.0), (λ at g. not_refused text (view t) at q.0 g), λ g. sunk g)
  where
    sunk : IsTooDeep text → ⊥
    sunk (inl (at, g)) = not_deep text (view t) at q.0 g
    sunk (inr (u, g, m)) = let l = q.1 in let e : depth_of (view t) ≡ depth_of u = ap depth_of (statement_once text (view t) u q.0 g) in omega (arith, e, l, m)

settled_err : (text : List ℕ) (e : ParseRefusal) → IsCause text e → Settled text (Err e)
settled_err text e h = (tt, h, (λ s g. cause_says text s g.0 g.1 e h), (λ at g. cause_refuses text at g e h), λ g. cause_sinks text g e h)

-- the answer by the tokens is the answer to the text
pub settled : (text : List ℕ) (ts : List Token) (stop : ℕ) (ls : List Lexeme) (r : Result Stmt ParseRefusal) → IsFront text ts stop → map lexeme_place ls ≡ map place ts → seen text ls ≡ toks text (map bounded ts)
    → Answers text ls stop (reading (seen text ls)) r → Settled text r
settled text ts stop ls r f places said h =
    let same : seen text ls ≡ toks text ts = said ∙ ap (toks text) (bounded_front text ts stop f) in
    by r (subst (λ (us : List Tok). Answers text ls stop (reading us) r) same h)
  where
    by : (r : Result Stmt ParseRefusal) → Answers text ls stop (reading (toks text ts)) r → Settled text r
    by (Ok s) h = settled_ok text s (found text ts stop ls s f h)
    by (Err e) h = settled_err text e (cause_of text ts stop ls e f places h)

-- ---- the code's branches
module _ (text : List ℕ) (ls : List Lexeme) (stop : ℕ) where
  -- tokens are left
  pub more_left : (s : Statement) (us : List Tok) (left at : ℕ) → length us ≡ left → 0 < left → at ≡ place_left ls left stop → Answers text ls stop (Ok (s, us)) (Err (Syntax at))
  more_left s us left at e l p = (us, rw e p, inr (s, refl, inl (omega arith)))

  -- none is left before what is no token
  pub no_token : (s : Statement) (us : List Tok) (left : ℕ) → length us ≡ left → left ≤ 0 → stop < length text → Answers text ls stop (Ok (s, us)) (Err (Syntax stop))
  no_token s [] left e l p = ([], nothing, inr (s, refl, inr p))
    where
      nothing : stop ≡ place_left ls 0 stop
      nothing = sym (ap (λ zs. first_at zs stop) (drop_all ls))
  no_token s (u ∷ us) left e l p = absurd (omega (arith, e))

  -- all is read
  pub all_read : (s : Statement) (us : List Tok) (left : ℕ) (k : Option (Levelled Stmt)) (r : Result Stmt ParseRefusal) → length us ≡ left → left ≤ 0 → stop ≤ length text → length text ≤ stop
      → IsKept view depth_of s k → IsWhole k r → Answers text ls stop (Ok (s, us)) r
  all_read s (u ∷ us) left k r e l within end h w = absurd (omega (arith, e))
  all_read s [] left k r e l within end h w = go k r (held_of view depth_of s k h) w
    where
      go : (k : Option (Levelled Stmt)) (r : Result Stmt ParseRefusal) → Held view depth_of s k → IsWhole k r → Answers text ls stop (Ok (s, [])) r
      go None (Ok t) (gone m) w = absurd w
      go None (Err (Syntax at)) (gone m) w = absurd cc
      go None (Err Deep) (gone m) w = inr (s, refl, omega arith, m)
      go None (Err NoMemory) (gone m) w = tt
      go (Some l) (Ok t) (held v n m) w = (rw (w, v) refl, omega arith, rw (w, v) m)
      go (Some l) (Err x) (held v n m) w = absurd w

  -- what was read is what is kept
  pub ok_answer : (ts rest : List Tok) (s : Statement) (r : Result Stmt ParseRefusal) → (statement limit_open).read ts ≡ Ok (s, rest) → ts ≡ seen text ls → Answers text ls stop (Ok (s, rest)) r
      → Answers text ls stop (reading (seen text ls)) r
  unfolding reading
  ok_answer ts rest s r e same h = subst (λ (us : List Tok). Answers text ls stop (reading us) r) same (subst (λ (x : Read Tok Statement). Answers text ls stop x r) (sym e) h)

  -- a syntax error where so many tokens are left
  pub syntax_answer : (ts us : List Tok) (f : Stop) (n at : ℕ) → f ≡ stops.Syntax us → Fails f ((statement limit_open).read ts) → ts ≡ seen text ls → at ≡ place_left ls n stop → n ≡ length us
      → Answers text ls stop (reading (seen text ls)) (Err (Syntax at))
  unfolding reading
  syntax_answer ts us f n at same fail seen' p e =
      let g : reading ts ≡ Err (syntax us) = subst (λ (z : Stop). Fails z (reading ts)) same fail in
      (us, p ∙ ap (λ k. place_left ls k stop) e, inl (sym (ap reading seen') ∙ g))

  -- a construct too many
  pub deep_answer : (ts us : List Tok) (f : Stop) → f ≡ stops.Deep us → Fails f ((statement limit_open).read ts) → ts ≡ seen text ls → Answers text ls stop (reading (seen text ls)) (Err Deep)
  unfolding reading
  deep_answer ts us f same fail seen' =
      let g : reading ts ≡ Err (deep us) = subst (λ (z : Stop). Fails z (reading ts)) same fail in
      inl (us, sym (ap reading seen') ∙ g)
