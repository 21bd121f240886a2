-- Whole texts: what is read, and where reading stops.
use Rattle.std.proofs.Common.{◌≡◌, ℕ, suc, ◌+◌, ◌≤◌, ◌<◌, inl, inr, true, List, [], ◌∷◌, ◌++◌, length, append_assoc, append-nil, Result, Ok, Err, refl, sym, ap, ◌∙◌, subst, arith}
use Rattle.std.proofs.lemmas.List.{append_cancel_right}
use Rattle.sql_grammar.specs.Reader.{Fault, Syntax, Deep, Read, left_of}
use Rattle.sql_grammar.specs.Rule.{Rule}
use Rattle.sql_grammar.specs.Whole.{ended, whole_of, read_whole, Begins, IsText, Forbids, IsSyntaxAt, IsDeepAt, IsFaultAt, IsPlaced, IsExact}
use Rattle.sql_grammar.proofs.Lists.{le_or, split}
use Rattle.sql_grammar.proofs.Lawful.{Shape, left, Lawful, front_goes_on}

module _ {T A : Type 0} {kind : T → ℕ} {s : Shape} {rule : ℕ → Rule T A} (lawful : (d : ℕ) → Lawful kind s rule d) (live : s.live ≡ true) where
  read_is : (d : ℕ) (a : A) (ts : List T) → (rule d).texts a ts [] → (rule d).read ts ≡ Ok (a, [])
  read_is d a ts g = (lawful d).complete a ts [] g refl

  -- a text is read as its value
  pub reads_all : (d : ℕ) (ts : List T) (a : A) → (rule d).texts a ts [] → read_whole (rule d) ts ≡ Ok a
  reads_all d ts a g = rw (read_is d a ts g) refl

  ended_ok : (a b : A) (us : List T) → ended a us ≡ Ok b → (a ≡ b) × (us ≡ [])
  ended_ok a b [] e = (cc, refl)
  ended_ok a b (x ∷ us) e = cc

  whole_ok : (d : ℕ) (ts : List T) (a : A) (r : Read T A) → (rule d).read ts ≡ r → whole_of r ≡ Ok a → (rule d).texts a ts []
  whole_ok d ts a (Ok x) is e =
      let k = ended_ok x.0 a x.1 e in
      let g = (lawful d).sound ts x is in
      subst (λ (b : A). (rule d).texts b ts []) k.0 (subst (λ (us : List T). (rule d).texts x.0 ts us) k.1 g)
  whole_ok d ts a (Err h) is e = cc

  -- what is read is a text
  pub reads_only : (d : ℕ) (ts : List T) (a : A) → read_whole (rule d) ts ≡ Ok a → (rule d).texts a ts []
  reads_only d ts a e = whole_ok d ts a ((rule d).read ts) refl e

  -- a text has one value
  pub reads_once : (d : ℕ) (ts : List T) (a b : A) → (rule d).texts a ts [] → (rule d).texts b ts [] → a ≡ b
  reads_once d ts a b g h = let q = sym (reads_all d ts a g) ∙ reads_all d ts b h in cc

  -- a front goes on to a text
  pub front_begins_text : (d : ℕ) (us : List T) → (rule d).fronts us → Begins rule us
  front_begins_text d us h =
      let k = front_goes_on (lawful d) live us h in
      let z = k.1 k.0 (omega arith) [] in
      (k.0, z.0 ++ [], z.1, z.2)

  -- what a text begins with is a front
  pub text_begins_front : (us : List T) → Begins rule us → (e : ℕ) × (rule e).fronts us
  text_begins_front us b = (b.0, (lawful b.0).closed b.2 us b.1 [] b.3 (omega arith))

  -- reading stops at no token up to which the tokens are a front
  passes : (d : ℕ) (before : List T) (x : T) (more : List T) → (rule d).fronts (before ++ x ∷ []) → left ((rule d).read (before ++ x ∷ more)) ≤ length more
  passes d before x more h =
      let same : (before ++ x ∷ []) ++ more ≡ before ++ x ∷ more = append_assoc before (x ∷ []) more in
      subst (λ (us : List T). left ((rule d).read us) ≤ length more) same ((lawful d).keeps (before ++ x ∷ []) more h)

  -- nor where more may be opened
  stops_ever : (d : ℕ) (before : List T) (x : T) (more : List T) (r : Read T A) → length more < left r → ((e : ℕ) → d ≤ e → (rule e).read (before ++ x ∷ more) ≡ r) → Begins rule (before ++ x ∷ []) → ⊥
  stops_ever d before x more r l same b =
      let f = text_begins_front (before ++ x ∷ []) b in
      let h = (lawful f.0).fronts_deeper (d + f.0) (omega arith) (before ++ x ∷ []) f.1 in
      let p = passes (d + f.0) before x more h in
      let q = rw (same (d + f.0) (omega arith)) at p in
      omega arith

  left_over_ever : (d : ℕ) (before ts : List T) (x : T) (more : List T) (a : A) → ts ≡ before ++ x ∷ more → (rule d).read ts ≡ Ok (a, x ∷ more) → Forbids rule before (x ∷ more)
  left_over_ever d before ts x more a e is =
      let here' : (rule d).read (before ++ x ∷ more) ≡ Ok (a, x ∷ more) = rw (← e) is in
      stops_ever d before x more (Ok (a, x ∷ more)) (omega arith) (λ n m. rw here' at ((lawful d).steady n m (before ++ x ∷ more)))

  -- tokens that end too soon are no text, whatever may be opened
  ends_ever : (d : ℕ) (ts : List T) → (rule d).read ts ≡ Err (Syntax []) → IsText rule ts → ⊥
  ends_ever d ts is t =
      let n = d + t.0 in
      let g = (lawful t.0).deeper n (omega arith) t.1 ts [] t.2 in
      let same : (rule n).read ts ≡ Err (Syntax []) = rw is at ((lawful d).steady n (omega arith) ts) in
      let z = sym same ∙ read_is n t.1 ts g in cc

  fails_ever : (d : ℕ) (before rest ts : List T) → ts ≡ before ++ rest → (rule d).read ts ≡ Err (Syntax rest) → Forbids rule before rest
  fails_ever d before [] ts e is = ends_ever d before (let q : before ≡ ts = sym (e ∙ append-nil before) in rw q is)
  fails_ever d before (x ∷ more) ts e is =
      let here' : (rule d).read (before ++ x ∷ more) ≡ Err (Syntax (x ∷ more)) = rw (← e) is in
      stops_ever d before x more (Err (Syntax (x ∷ more))) (omega arith) (λ n m. rw here' at ((lawful d).steady n m (before ++ x ∷ more)))

  left_over : (d : ℕ) (ts : List T) (x : T) (more : List T) (a : A) → (rule d).read ts ≡ Ok (a, x ∷ more) → IsPlaced rule d ts (Syntax (x ∷ more))
  left_over d ts x more a is =
      let k = (lawful d).framed a ts (x ∷ more) ((lawful d).sound ts (a, x ∷ more) is) in
      let f = (lawful d).closed a k.0 [] [] (k.2 []) (omega arith) in
      (k.0, k.1, (f, front_begins_text d k.0 f, left_over_ever d k.0 ts x more a k.1 is))

  fails : (d : ℕ) (ts rest : List T) → (rule d).read ts ≡ Err (Syntax rest) → IsPlaced rule d ts (Syntax rest)
  fails d ts rest is =
      let k = (lawful d).stops ts (Syntax rest) is in
      (k.0, k.1, (k.2, front_begins_text d k.0 k.2, fails_ever d k.0 rest ts k.1 is))

  too_deep : (d : ℕ) (ts before rest : List T) (x : T) (more : List T) → rest ≡ x ∷ more → ts ≡ before ++ x ∷ more → (rule (suc d)).fronts (before ++ x ∷ []) → (rule d).fronts before
      → (rule d).read ts ≡ Err (Deep rest) → IsPlaced rule d ts (Deep rest)
  too_deep d ts before rest x more q e over f is =
      let here' : (rule d).read (before ++ x ∷ more) ≡ Err (Deep (x ∷ more)) = rw (← e, ← q) is in
      let no' : (rule d).fronts (before ++ x ∷ []) → ⊥ = λ h. (let p = passes d before x more h in let z = rw here' at p in omega arith) in
      let at : IsDeepAt rule d before (x ∷ more) = (f, no', over, front_begins_text (suc d) (before ++ x ∷ []) over) in
      rw q (before, e, at)

  exceeds : (d : ℕ) (ts rest : List T) → (rule d).read ts ≡ Err (Deep rest) → IsPlaced rule d ts (Deep rest)
  exceeds d ts rest is =
      let k = (lawful d).stops ts (Deep rest) is in
      let o = (lawful d).exceeds ts rest is in
      let same : k.0 ≡ o.0 = append_cancel_right k.0 o.0 rest (sym k.1 ∙ (o.4 ∙ ap (λ us. o.0 ++ us) (sym o.3))) in
      too_deep d ts o.0 rest o.1 o.2 o.3 o.4 o.5 (rw same at k.2) is

  ended_by : (d : ℕ) (ts : List T) (e : Fault T) (a : A) (us : List T) → (rule d).read ts ≡ Ok (a, us) → ended a us ≡ Err e → IsPlaced rule d ts e
  ended_by d ts e a [] is h = cc
  ended_by d ts e a (x ∷ us) is h = let q : Syntax (x ∷ us) ≡ e = cc in subst (λ (k : Fault T). IsPlaced rule d ts k) q (left_over d ts x us a is)

  placed_by : (d : ℕ) (ts : List T) (e : Fault T) (r : Read T A) → (rule d).read ts ≡ r → whole_of r ≡ Err e → IsPlaced rule d ts e
  placed_by d ts e (Ok x) is h = ended_by d ts e x.0 x.1 is h
  placed_by d ts e (Err (Syntax rest)) is h = let q : Syntax rest ≡ e = cc in subst (λ (k : Fault T). IsPlaced rule d ts k) q (fails d ts rest is)
  placed_by d ts e (Err (Deep rest)) is h = let q : Deep rest ≡ e = cc in subst (λ (k : Fault T). IsPlaced rule d ts k) q (exceeds d ts rest is)

  -- each fault is where it belongs
  pub placed : (d : ℕ) (ts : List T) (e : Fault T) → read_whole (rule d) ts ≡ Err e → IsPlaced rule d ts e
  placed d ts e h = placed_by d ts e ((rule d).read ts) refl h

  -- ---- no other fault belongs anywhere
  -- at a place the tokens stop being a front
  is_front : (d : ℕ) (e : Fault T) (before : List T) → IsFaultAt rule d e before → (rule d).fronts before
  is_front d (Syntax rest) before h = h.0
  is_front d (Deep []) before h = absurd h
  is_front d (Deep (x ∷ more)) before h = h.0

  no_front : (d : ℕ) (e : Fault T) (before : List T) (x : T) (more : List T) → left_of e ≡ x ∷ more → IsFaultAt rule d e before → (rule d).fronts (before ++ x ∷ []) → ⊥
  no_front d (Syntax []) before x more q h f = cc
  no_front d (Syntax (y ∷ rest)) before x more q h f = let z : y ≡ x = cc in h.2 (rw z (front_begins_text d (before ++ x ∷ []) f))
  no_front d (Deep []) before x more q h f = absurd h
  no_front d (Deep (y ∷ rest)) before x more q h f = let z : y ≡ x = cc in h.1 (rw z f)

  -- a place is not before another
  not_before : (d : ℕ) (e : Fault T) (before ws : List T) (y : T) (tail : List T) → IsFaultAt rule d e before → left_of e ≡ y ∷ tail → (rule d).fronts (before ++ y ∷ ws) → ⊥
  not_before d e before ws y tail h q f =
      no_front d e before y tail q h ((lawful d).shorter (before ++ y ∷ []) ws (rw append_assoc f))

  not_both_kinds : (d : ℕ) (before rest rest' : List T) → rest ≡ rest' → IsSyntaxAt rule d before rest → IsDeepAt rule d before rest' → ⊥
  not_both_kinds d before rest [] q h h' = h'
  not_both_kinds d before [] (x ∷ rest') q h h' = cc
  not_both_kinds d before (y ∷ rest) (x ∷ rest') q h h' = let z : y ≡ x = cc in h.2 (rw z h'.3)

  same_place : (d : ℕ) (e e' : Fault T) (before : List T) → left_of e ≡ left_of e' → IsFaultAt rule d e before → IsFaultAt rule d e' before → e ≡ e'
  same_place d (Syntax r) (Syntax r') before q h h' = ap Syntax q
  same_place d (Deep r) (Deep r') before q h h' = ap Deep q
  same_place d (Syntax r) (Deep r') before q h h' = absurd (not_both_kinds d before r r' q h h')
  same_place d (Deep r) (Syntax r') before q h h' = absurd (not_both_kinds d before r' r (sym q) h' h)

  -- of two places the one is not behind the other
  one_place : (d : ℕ) (e e' : Fault T) (before before' ws : List T) → before ≡ before' ++ ws → left_of e' ≡ ws ++ left_of e → IsFaultAt rule d e before → IsFaultAt rule d e' before' → e' ≡ e
  one_place d e e' before before' [] q r h h' =
      let z : before' ≡ before = sym (q ∙ append-nil before') in
      same_place d e' e before' r h' (rw z h)
  one_place d e e' before before' (y ∷ ws) q r h h' = absurd (not_before d e' before' ws y (ws ++ left_of e) h' r (rw q at (is_front d e before h)))

  placed_once : (d : ℕ) (ts : List T) (e e' : Fault T) → IsPlaced rule d ts e → IsPlaced rule d ts e' → e ≡ e'
  placed_once d ts e e' p p' = elim (le_or (length (left_of e)) (length (left_of e'))) [
    | inl l ↦ (let w = split p.0 (left_of e) p'.0 (left_of e') (sym p.1 ∙ p'.1) l in sym (one_place d e e' p.0 p'.0 w.0 w.1 w.2 p.2 p'.2))
    | inr l ↦ (let w = split p'.0 (left_of e') p.0 (left_of e) (sym p'.1 ∙ p.1) (omega arith) in one_place d e' e p'.0 p.0 w.0 w.1 w.2 p'.2 p.2)
  ]

  -- no fault belongs into a text
  text_unplaced : (d : ℕ) (e : Fault T) (a : A) (before rest : List T) → (rule d).texts a (before ++ rest) [] → left_of e ≡ rest → IsFaultAt rule d e before → ⊥
  text_unplaced d (Syntax []) a before [] g q h = h.2 (d, a, rw append-nil at g)
  text_unplaced d (Syntax (y ∷ ys)) a before [] g q h = cc
  text_unplaced d (Deep []) a before [] g q h = h
  text_unplaced d (Deep (y ∷ ys)) a before [] g q h = cc
  text_unplaced d e a before (x ∷ rest) g q h =
      not_before d e before [] x rest h q ((lawful d).closed a (before ++ x ∷ []) rest [] (rw append_assoc g) (omega arith))

  only_by : (d : ℕ) (ts : List T) (e : Fault T) (r : Result A (Fault T)) → read_whole (rule d) ts ≡ r → IsPlaced rule d ts e → r ≡ Err e
  only_by d ts e (Ok a) is p = absurd (text_unplaced d e a p.0 (left_of e) (rw (← p.1) (reads_only d ts a is)) refl p.2)
  only_by d ts e (Err e') is p = ap Err (placed_once d ts e' e (placed d ts e' is) p)

  -- a fault that belongs there is the answer
  pub placed_only : (d : ℕ) (ts : List T) (e : Fault T) → IsPlaced rule d ts e → read_whole (rule d) ts ≡ Err e
  placed_only d ts e p = only_by d ts e (read_whole (rule d) ts) refl p

  -- ---- all of it
  pub is_exact : IsExact rule
  is_exact = (
    λ d ts a. (reads_all d ts a, reads_only d ts a),
    reads_once,
    λ d ts e. (placed d ts e, placed_only d ts e),
    λ d us more a g. (lawful d).closed a us more [] g (omega arith),
    λ d us more h. (lawful d).shorter us more h,
    front_begins_text,
    λ d e l. ((lawful d).deeper e l, (lawful d).fronts_deeper e l),
  )
