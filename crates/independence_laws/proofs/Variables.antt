-- A user variable that is reached is carried.
use Rattle.std.proofs.Common.{◌≡◌, ℕ, inl, inr, Bool, true, false, nat_eq, List, [], ◌∷◌, map, cond, Option, Some, None, refl, sym, ap, ◌∙◌, subst, arith}
use Rattle.std.specs.Prelude.{filter_map, IfSome}
use Rattle.std.specs.List.{cons_option}
use Rattle.std.specs.Map.{lookup}
use Rattle.std.specs.Cmp.Lexicographic.{pointwise, slice_cmp}
use Rattle.std.specs.declared.cmp.Ordering.{Ordering}
use Rattle.std.specs.declared.cmp.Ordering.TheVariants.{Less, Equal, Greater}
use Rattle.std.specs.Ordering.{nat_cmp, is_eq}
use Rattle.std.proofs.lemmas.Bool.Decides.{nat_tests}
use Rattle.std.proofs.lemmas.Cmp.{same_from_slice_cmp}
use Rattle.val_types.specs.declared.value.Value.{Value}
use Rattle.table_rules.proofs.Places.{name_is, name_self}
use Rattle.session_ctx.specs.catalog_rules.Nodes.{Node, a_user_variable}
use Rattle.reach_laws.specs.sql_reach.Carrying.{user_variable_at, put_by_order, put_name, in_byte_order}
use Rattle.reach_laws.specs.Members.{In}
use Rattle.reach_laws.proofs.Members.{clash}

tied : (a b : List ℕ) (o : Ordering) → o ≡ slice_cmp nat_cmp a b → is_eq o ≡ pointwise nat_eq a b
tied = same_from_slice_cmp nat_cmp is_eq (pointwise nat_eq) refl (λ _ _. refl) (λ _ _. refl) (λ x y xs ys o h. grind (arith, nat_tests))

put_own : (n first : List ℕ) (names rest : List (List ℕ)) (o : Ordering) → slice_cmp nat_cmp n first ≡ o → In n rest → In n (put_by_order o n first names rest)
put_own n first names rest Less e h = inl refl
put_own n first names rest Equal e h = inl (sym (name_is n first (sym (tied n first Equal (sym e)))))
put_own n first names rest Greater e h = inr h

put_in : (n : List ℕ) (names : List (List ℕ)) → In n (put_name n names)
put_in n [] = inl refl
put_in n (first ∷ names) = put_own n first names (put_name n names) (slice_cmp nat_cmp n first) refl (put_in n names)

put_other : (m n first : List ℕ) (names rest : List (List ℕ)) (o : Ordering) → In m (first ∷ names) → (In m names → In m rest) → In m (put_by_order o n first names rest)
put_other m n first names rest Less h later = inr h
put_other m n first names rest Equal h later = h
put_other m n first names rest Greater (inl e) later = inl e
put_other m n first names rest Greater (inr h) later = inr (later h)

put_keeps : (m n : List ℕ) (names : List (List ℕ)) → In m names → In m (put_name n names)
put_keeps m n [] h = absurd h
put_keeps m n (first ∷ names) h = put_other m n first names (put_name n names) (slice_cmp nat_cmp n first) h (put_keeps m n names)

pub in_order : (m : List ℕ) (names : List (List ℕ)) → In m names → In m (in_byte_order names)
in_order m [] h = absurd h
in_order m (n ∷ names) (inl e) = subst (λ (x : List ℕ). In x (put_name n (in_byte_order names))) e (put_in n (in_byte_order names))
in_order m (n ∷ names) (inr h) = put_keeps m n (in_byte_order names) (in_order m names h)

pub looked_up : (f : List ℕ → Value) (n : List ℕ) (names : List (List ℕ)) → In n names → lookup (pointwise nat_eq n) (map (λ m. (m, f m)) names) ≡ Some (f n)
looked_up f n [] h = absurd h
looked_up f n (m ∷ names) h = by (pointwise nat_eq n m) refl h (looked_up f n names)
  where
    by : (b : Bool) → pointwise nat_eq n m ≡ b → In n (m ∷ names) → (In n names → lookup (pointwise nat_eq n) (map (λ x. (x, f x)) names) ≡ Some (f n))
        → cond b (Some (f m)) (lookup (pointwise nat_eq n) (map (λ x. (x, f x)) names)) ≡ Some (f n)
    by true e h later = ap (λ (x : List ℕ). Some (f x)) (sym (name_is n m e))
    by false e (inl q) later = absurd (clash (pointwise nat_eq n m) e (ap (pointwise nat_eq n) q ∙ name_self n))
    by false e (inr h) later = later h

pub variable_in : (n : List ℕ) (ns : List Node) → In (a_user_variable n) ns → In n (filter_map user_variable_at ns)
variable_in n [] h = absurd h
variable_in n (x ∷ ns) (inl e) = subst (λ (y : Node). In n (filter_map user_variable_at (y ∷ ns))) (sym e) (inl refl)
variable_in n (x ∷ ns) (inr h) = by (user_variable_at x) (variable_in n ns h)
  where
    by : (o : Option (List ℕ)) → In n (filter_map user_variable_at ns) → In n (cons_option o (filter_map user_variable_at ns))
    by None q = q
    by (Some m) q = inr q

-- what is there, is so
pub if_some : {A : Type 0} (P : A → Type 0) (o : Option A) (x : A) → o ≡ Some x → IfSome o P → P x
if_some P None x e h = cc
if_some P (Some y) x e h = let it : y ≡ x = cc in subst P it h
