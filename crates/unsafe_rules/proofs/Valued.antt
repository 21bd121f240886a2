-- User variables that are reached, with their values.
use Rattle.std.proofs.Common.{◌≡◌, ℕ, zero, suc, Bool, true, false, cond, List, [], ◌∷◌, ◌++◌, map, take, flat_map, slice_get, Some, Ordering, Less, Greater, refl, sym, ap, ◌∙◌, arith}
use Rattle.std.specs.Prelude.{filter_map, nat_eq}
use Rattle.std.specs.Cmp.Lexicographic.{pointwise}
use Rattle.std.specs.Ordering.{nat_cmp, is_eq, ordering_reverse}
use Rattle.std.proofs.lemmas.Bool.Decides.{nat_tests}
use Rattle.std.proofs.lemmas.Cmp.{nat_list_cmp_total, same_from_slice_cmp}
use Rattle.val_types.specs.declared.value.Value.{Value}
use Rattle.session_ctx.specs.catalog_rules.Objects.{Object}
use Rattle.session_ctx.specs.catalog_rules.Nodes.{Node}
use Rattle.session_ctx.specs.log_entries.Variables.{variable_set}
use Rattle.sql_reach.specs.Carrying.{user_variable_at, in_byte_order}
use Rattle.sql_reach.specs.Reach.{body_nodes, reached_nodes, reached_programs}
use Rattle.statement_names.specs.Naming.{nodes_put, NamesAreInByteOrder}
use Rattle.statement_names.specs.Rising.{by_bytes, Above, Rises}
use Rattle.unsafe_rules.specs.Reaching.{at_places, is_at, IsAll}
use Rattle.unsafe_rules.proofs.All.{places_reached}

tied : (a b : List ℕ) (o : Ordering) → o ≡ by_bytes a b → is_eq o ≡ pointwise nat_eq a b
tied = same_from_slice_cmp nat_cmp is_eq (pointwise nat_eq) refl (λ _ _. refl) (λ _ _. refl) (λ x y xs ys o h. grind (arith, nat_tests))

-- a name above another is not that
above_differs : (low name : List ℕ) → by_bytes low name ≡ Less → pointwise nat_eq name low ≡ false
above_differs low name e =
    let back : by_bytes name low ≡ Greater = nat_list_cmp_total.antisymm name low ∙ ap ordering_reverse e in
    sym (tied name low (by_bytes name low) refl) ∙ ap is_eq back

above_at : (low : List ℕ) (names : List (List ℕ)) (i : ℕ) (name : List ℕ) → Above low names → slice_get names i ≡ Some name → by_bytes low name ≡ Less
above_at low [] i name up get = cc
above_at low (n ∷ ns) zero name up get =
    let same : Some n ≡ Some name = get in
    let own : n ≡ name = cc in
    ap (by_bytes low) (sym own) ∙ up.0
above_at low (n ∷ ns) (suc i) name up get = above_at low ns i name up.1 get

passed : (same : Bool) (e : List ℕ × Value) (value : Value) (es more : List (List ℕ × Value)) → same ≡ false → cond same ((e.0, value) ∷ es) (e ∷ more) ≡ e ∷ more
passed true e value es more differ = cc
passed false e value es more differ = refl

-- one more of some names that rise is set behind those before it
set_by_place : (value : List ℕ → Value) (names : List (List ℕ)) (i : ℕ) (name : List ℕ) → Rises names → slice_get names i ≡ Some name
    → variable_set (map (λ n. (n, value n)) (take i names)) name (value name) ≡ map (λ n. (n, value n)) (take (suc i) names)
set_by_place value [] i name up get = cc
set_by_place value (n ∷ ns) zero name up get =
    let same : Some n ≡ Some name = get in
    let own : name ≡ n = cc in
    ap (λ (m : List ℕ). (m, value m) ∷ []) own
set_by_place value (n ∷ ns) (suc i) name up get =
    let other : pointwise nat_eq name n ≡ false = above_differs n name (above_at n ns i name up.0 get) in
    passed (pointwise nat_eq name n) (n, value n) (value name) (map (λ m. (m, value m)) (take i ns)) (variable_set (map (λ m. (m, value m)) (take i ns)) name (value name)) other
    ∙ ap (λ (rest : List (List ℕ × Value)). (n, value n) ∷ rest) (set_by_place value ns i name up.1 get)

pub set_more : (value : List ℕ → Value) (names : List (List ℕ)) (i next : ℕ) (name : List ℕ) (vars : List (List ℕ × Value)) (own : Value) → next ≡ suc i → Rises names → slice_get names i ≡ Some name
    → vars ≡ map (λ n. (n, value n)) (take i names) → own ≡ value name → variable_set vars name own ≡ map (λ n. (n, value n)) (take next names)
set_more value names i next name vars own after up get before same =
    ap (λ (v : Value). variable_set vars name v) same ∙ ap (λ (vs : List (List ℕ × Value)). variable_set vs name (value name)) before
    ∙ set_by_place value names i name up get ∙ ap (λ (k : ℕ). map (λ n. (n, value n)) (take k names)) (sym after)

put_more : (xs ys : List Node) (names : List (List ℕ)) → nodes_put (xs ++ ys) names ≡ nodes_put ys (nodes_put xs names)
put_more [] ys names = refl
put_more (x ∷ xs) ys names = put_more xs ys _

-- the names of a statement, and of the programs that were found, are those that are reached
pub names_reached : NamesAreInByteOrder → (catalog : List Object) (nodes : List Node) (places : List ℕ) → IsAll catalog nodes places
    → nodes_put (flat_map body_nodes (at_places places 0 catalog)) (nodes_put nodes []) ≡ in_byte_order (filter_map user_variable_at (reached_nodes catalog nodes))
names_reached law catalog nodes places all =
    ap (λ (os : List Object). nodes_put (flat_map body_nodes os) (nodes_put nodes [])) (places_reached catalog nodes places all)
    ∙ sym (put_more nodes (flat_map body_nodes (reached_programs catalog nodes)) [])
    ∙ law (reached_nodes catalog nodes)

-- an object whose place was found is next, and one whose place was not is passed over
pub next_found : (places : List ℕ) (at next : ℕ) (o : Object) (all rest : List Object) (names new : List (List ℕ)) → next ≡ suc at → all ≡ o ∷ rest → is_at at places ≡ true → new ≡ nodes_put (body_nodes o) names
    → nodes_put (flat_map body_nodes (at_places places next rest)) new ≡ nodes_put (flat_map body_nodes (at_places places at all)) names
next_found places at next o all rest names new after whole is put =
    ap (nodes_put (flat_map body_nodes (at_places places next rest))) put
    ∙ ap (λ (k : ℕ). nodes_put (flat_map body_nodes (at_places places k rest)) (nodes_put (body_nodes o) names)) after
    ∙ sym (taken is) ∙ ap (λ (os : List Object). nodes_put (flat_map body_nodes (at_places places at os)) names) (sym whole) where
      taken : is_at at places ≡ true → nodes_put (flat_map body_nodes (at_places places at (o ∷ rest))) names ≡ nodes_put (flat_map body_nodes (at_places places (suc at) rest)) (nodes_put (body_nodes o) names)
      taken e = rw e (put_more (body_nodes o) (flat_map body_nodes (at_places places (suc at) rest)) names)

pub next_passed : (places : List ℕ) (at next : ℕ) (o : Object) (all rest : List Object) (names new : List (List ℕ)) → next ≡ suc at → all ≡ o ∷ rest → is_at at places ≡ false → new ≡ names
    → nodes_put (flat_map body_nodes (at_places places next rest)) new ≡ nodes_put (flat_map body_nodes (at_places places at all)) names
next_passed places at next o all rest names new after whole is put =
    ap (nodes_put (flat_map body_nodes (at_places places next rest))) put
    ∙ ap (λ (k : ℕ). nodes_put (flat_map body_nodes (at_places places k rest)) names) after
    ∙ sym (left is) ∙ ap (λ (os : List Object). nodes_put (flat_map body_nodes (at_places places at os)) names) (sym whole) where
      left : is_at at places ≡ false → nodes_put (flat_map body_nodes (at_places places at (o ∷ rest))) names ≡ nodes_put (flat_map body_nodes (at_places places (suc at) rest)) names
      left e = rw e refl
