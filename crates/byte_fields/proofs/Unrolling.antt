-- All things that stand one after the other: the first, and all of what is behind it.
use Rattle.std.proofs.Common.{◌≡◌, ℕ, zero, suc, ◌≤◌, List, [], ◌∷◌, Option, Some, None, refl, sym, ap, ◌∙◌, arith}
use Rattle.byte_fields.specs.Unroll.{unroll, all_from, Shrinks}

nothing : {S X : Type 0} (step : S → Option (X × S)) (size : S → ℕ) → Shrinks step size → (n : ℕ) (s : S) → size s ≤ 0 → (o : Option (X × S)) → step s ≡ o
    → unroll step (suc n) s ≡ ([], s)
nothing step size shrinks n s low None e = rw e refl
nothing step size shrinks n s low (Some x) e = let less = shrinks s x e in absurd (omega arith)

enough : {S X : Type 0} (step : S → Option (X × S)) (size : S → ℕ) → Shrinks step size → (n m : ℕ) (s : S) → size s ≤ n → size s ≤ m
    → unroll step n s ≡ unroll step m s
enough step size shrinks zero zero s a b = refl
enough step size shrinks zero (suc m) s a b = sym (nothing step size shrinks m s a (step s) refl)
enough step size shrinks (suc n) zero s a b = nothing step size shrinks n s b (step s) refl
enough {S} {X} step size shrinks (suc n) (suc m) s a b = by (λ t. enough step size shrinks n m t) (step s) refl
  where
    by : ((t : S) → size t ≤ n → size t ≤ m → unroll step n t ≡ unroll step m t) → (o : Option (X × S)) → step s ≡ o → unroll step (suc n) s ≡ unroll step (suc m) s
    by again None e = rw e refl
    by again (Some x) e =
        let less = shrinks s x e in
        rw e (ap (λ (r : List X × S). (x.0 ∷ r.0, r.1)) (again x.1 (omega arith) (omega arith)))

-- where one stands, it is the first
pub all_some : {S X : Type 0} (step : S → Option (X × S)) (size : S → ℕ) → Shrinks step size → (s : S) (x : X × S) → step s ≡ Some x
    → all_from step size s ≡ (x.0 ∷ (all_from step size x.1).0, (all_from step size x.1).1)
unfolding all_from
all_some {S} {X} step size shrinks s x e =
    let less = shrinks s x e in
    let more : unroll step (suc (size s)) s ≡ (x.0 ∷ (unroll step (size s) x.1).0, (unroll step (size s) x.1).1) = rw e refl in
    enough step size shrinks (size s) (suc (size s)) s (omega arith) (omega arith) ∙ more
    ∙ ap (λ (r : List X × S). (x.0 ∷ r.0, r.1)) (enough step size shrinks (size s) (size x.1) x.1 (omega arith) (omega arith))

-- where none stands, all is left
pub all_none : {S X : Type 0} (step : S → Option (X × S)) (size : S → ℕ) → Shrinks step size → (s : S) → step s ≡ None
    → all_from step size s ≡ ([], s)
unfolding all_from
all_none step size shrinks s e =
    let more : unroll step (suc (size s)) s ≡ ([], s) = rw e refl in
    enough step size shrinks (size s) (suc (size s)) s (omega arith) (omega arith) ∙ more
