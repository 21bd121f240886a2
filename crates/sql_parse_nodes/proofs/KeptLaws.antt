-- What is kept of parts that are put together.
use Rattle.std.proofs.Common.{◌≡◌, ◌∙◌, ◌<◌, ◌≤◌, ℕ, suc, max, List, [], ◌∷◌, ◌++◌, map, Result, Err, nat_le, Bool, true, false, if◌then◌else◌, Option, Some, None, Ok, refl, sym, ap, arith}
use Rattle.std.proofs.lemmas.Bool.{leb-true, leb-false, le-leb, lt-leb}
use Rattle.sql_grammar.specs.Reader.{Read, bind}
use Rattle.sql_syntax.specs.Tokens.{Tok}
use Rattle.sql_parse_tokens.specs.declared.fault.Stop.{Stop}
use Rattle.sql_tree.specs.Depth.{deepest}
use Rattle.sql_parse_nodes.specs.declared.kept.Levelled.{Levelled}
use Rattle.sql_parse_tokens.proofs.Reading.{fails_behind}
use Rattle.sql_parse_nodes.specs.Kept.{kept, kept_as, IsKept, beside, above, in_place, view_beside, depth_beside, Keeps}

-- A part is held, or it has too many levels.
pub data Held {X A : Type 0} (view : X → A) (depth_of : A → ℕ) (a : A) : Option (Levelled X) → Type 0 where
  gone : 200 < depth_of a → Held view depth_of a None
  held : {l : Levelled X} → view l.part ≡ a → l.levels ≡ depth_of a → depth_of a ≤ 200 → Held view depth_of a (Some l)

module _ {X A : Type 0} (view : X → A) (depth_of : A → ℕ) (a : A) where
  held_by : (b : Bool) (k : Option (Levelled X)) → nat_le (depth_of a) 200 ≡ b → (if b then Some (a, depth_of a) else None) ≡ kept_as view k → Held view depth_of a k
  held_by true None e h = absurd cc
  held_by true (Some l) e h =
      let p : (a, depth_of a) ≡ (view l.part, l.levels) = cc in
      held (sym (ap (λ (x : A × ℕ). x.0) p)) (sym (ap (λ (x : A × ℕ). x.1) p)) (leb-true (depth_of a) 200 e)
  held_by false None e h = gone (leb-false (depth_of a) 200 e)
  held_by false (Some l) e h = absurd cc

  pub held_of : (k : Option (Levelled X)) → IsKept view depth_of a k → Held view depth_of a k
  held_of k h = held_by (nat_le (depth_of a) 200) k refl h

  pub kept_of : (k : Option (Levelled X)) → Held view depth_of a k → IsKept view depth_of a k
  kept_of None (gone h) = rw (lt-leb (depth_of a) 200 h) refl
  kept_of (Some l) (held v n h) = rw (le-leb (depth_of a) 200 h, v, n) refl

module _ {X Y A B : Type 0} (view : X → A) (depth_of : A → ℕ) (view' : Y → B) (depth_of' : B → ℕ) (f : A → B) (g : X → Y) (seen : (x : X) → view' (g x) ≡ f (view x)) where
  -- another part with as many levels
  pub kept_in_place : (a : A) → depth_of' (f a) ≡ depth_of a → (k : Option (Levelled X)) → IsKept view depth_of a k → IsKept view' depth_of' (f a) (in_place g k)
  kept_in_place a same k h = kept_of view' depth_of' (f a) (in_place g k) (go k (held_of view depth_of a k h))
    where
      go : (k : Option (Levelled X)) → Held view depth_of a k → Held view' depth_of' (f a) (in_place g k)
      go None (gone h) = gone (omega arith)
      go (Some l) (held v n h) = held (seen l.part ∙ ap f v) (n ∙ sym same) (omega arith)

  -- a part with one level more
  pub kept_above : (a : A) → depth_of' (f a) ≡ suc (depth_of a) → (k : Option (Levelled X)) → IsKept view depth_of a k → IsKept view' depth_of' (f a) (in_place g (above k))
  kept_above a more k h = kept_of view' depth_of' (f a) (in_place g (above k)) (go k (held_of view depth_of a k h))
    where
      go_by : (l : Levelled X) (b : Bool) → nat_le (suc l.levels) 200 ≡ b → view l.part ≡ a → l.levels ≡ depth_of a
          → Held view' depth_of' (f a) (in_place g (if b then Some (record { part = l.part; levels = suc l.levels }) else None))
      go_by l true e v n = held (seen l.part ∙ ap f v) (ap suc n ∙ sym more) (let h = leb-true (suc l.levels) 200 e in omega arith)
      go_by l false e v n = gone (let h = leb-false (suc l.levels) 200 e in omega arith)

      go : (k : Option (Levelled X)) → Held view depth_of a k → Held view' depth_of' (f a) (in_place g (above k))
      go None (gone h) = gone (omega arith)
      go (Some l) (held v n h) = go_by l (nat_le (suc l.levels) 200) refl v n

  -- a node over a part
  pub raised : (a : A) → depth_of' (f a) ≡ suc (depth_of a) → (k : Option (Levelled X)) (l : Levelled X) → IsKept view depth_of a k → Some l ≡ above k
      → kept depth_of' (f a) ≡ Some (view' (g l.part), l.levels)
  raised a more k l h e = let r = kept_above a more k h in rw (← e) at r

  -- a part in another's place
  pub placed : (a : A) → depth_of' (f a) ≡ depth_of a → (k : Option (Levelled X)) (l : Levelled X) → IsKept view depth_of a k → Some l ≡ k
      → kept depth_of' (f a) ≡ Some (view' (g l.part), l.levels)
  placed a same k l h e = let r = kept_in_place a same k h in rw (← e) at r

-- two parts side by side
pub kept_beside : {X Y A B : Type 0} (view_a : X → A) (depth_a : A → ℕ) (view_b : Y → B) (depth_b : B → ℕ) (a : A) (b : B)
    → (k : Option (Levelled X)) (l : Option (Levelled Y)) → IsKept view_a depth_a a k → IsKept view_b depth_b b l
    → IsKept (view_beside view_a view_b) (depth_beside depth_a depth_b) (a, b) (beside k l)
kept_beside {X} {Y} {A} {B} view_a depth_a view_b depth_b a b k l h i =
    kept_of _ _ _ (beside k l) (go k l (held_of view_a depth_a a k h) (held_of view_b depth_b b l i))
  where
    go : (k : Option (Levelled X)) (l : Option (Levelled Y)) → Held view_a depth_a a k → Held view_b depth_b b l
        → Held (view_beside view_a view_b) (depth_beside depth_a depth_b) (a, b) (beside k l)
    go None l (gone h) i = gone (omega arith)
    go (Some k) None (held v n h) (gone i) = gone (omega arith)
    go (Some k) (Some l) (held v n h) (held w m i) = held (rw (v, w) refl) (rw (n, m) refl) (omega arith)

module _ {X A : Type 0} (view : X → A) (depth_of : A → ℕ) where
  -- a list of one part
  pub kept_alone : (a : A) (k : Option (Levelled X)) (m : Option (Levelled (List X))) → IsKept view depth_of a k → m ≡ in_place (λ x. x ∷ []) k
      → IsKept (map view) (deepest depth_of) (a ∷ []) m
  kept_alone a k m h e = rw e (kept_in_place view depth_of (map view) (deepest depth_of) (λ b. b ∷ []) (λ x. x ∷ []) (λ x. refl) a (omega arith) k h)

  deepest_more : (as' : List A) (a : A) → deepest depth_of (as' ++ a ∷ []) ≡ max (deepest depth_of as') (depth_of a)
  deepest_more [] a = omega arith
  deepest_more (b ∷ bs) a = let h = deepest_more bs a in omega arith

  seen_more : (xs : List X) (x : X) → map view (xs ++ x ∷ []) ≡ map view xs ++ view x ∷ []
  seen_more [] x = refl
  seen_more (y ∷ ys) x = ap (λ (zs : List A). view y ∷ zs) (seen_more ys x)

  -- a list with one part more
  pub kept_push : (as' : List A) (a : A) (k : Option (Levelled (List X))) (l : Option (Levelled X)) (m : Option (Levelled (List X)))
      → IsKept (map view) (deepest depth_of) as' k → IsKept view depth_of a l → m ≡ in_place (λ p. p.0 ++ p.1 ∷ []) (beside k l)
      → IsKept (map view) (deepest depth_of) (as' ++ a ∷ []) m
  kept_push as' a k l m h i e =
      rw e (kept_in_place (view_beside (map view) view) (depth_beside (deepest depth_of) depth_of) (map view) (deepest depth_of) (λ p. p.0 ++ p.1 ∷ []) (λ p. p.0 ++ p.1 ∷ [])
      (λ p. seen_more p.0 p.1) (as', a) (deepest_more as' a) (beside k l) (kept_beside (map view) (deepest depth_of) view depth_of as' a k l h i))

module _ {X A B : Type 0} (view : X → A) (depth_of : A → ℕ) (view' : X → B) (depth_of' : B → ℕ) (f : A → B) (seen : (x : X) → view' x ≡ f (view x)) (same : (a : A) → depth_of' (f a) ≡ depth_of a) where
  -- what is held, seen in another way
  pub kept_seen : (a : A) (k : Option (Levelled X)) → IsKept view depth_of a k → IsKept view' depth_of' (f a) k
  kept_seen a k h = by k (kept_in_place view depth_of view' depth_of' f (λ x. x) seen a (same a) k h)
    where
      by : (k : Option (Levelled X)) → IsKept view' depth_of' (f a) (in_place (λ x. x) k) → IsKept view' depth_of' (f a) k
      by None h = h
      by (Some l) h = h

  -- what is kept of another value
  pub keeps_mapped : (result : Result (Option (Levelled X) × List Tok) Stop) (m : Read Tok A) → Keeps view depth_of result m
      → Keeps view' depth_of' result (bind m (λ x. Ok (f x.0, x.1)))
  keeps_mapped (Ok r) m h = (f h.0, rw h.1 refl, kept_seen h.0 r.0 h.2)
  keeps_mapped (Err stop) m h = fails_behind stop m (λ x. Ok (f x.0, x.1)) h
