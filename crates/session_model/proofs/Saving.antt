-- Changes made in part, and savepoints among items that grow and are cut.
use Rattle.std.proofs.Common.{◌≡◌, ◌≤◌, ℕ, zero, suc, Bool, true, false, not, List, [], ◌∷◌, ◌++◌, length, take, drop, find, Option, Some, None, sym, ◌∙◌, ap, subst, arith, cond}
use Rattle.std.specs.Prelude.{is_some}
use Rattle.std.specs.Option.{option_and_then}
use Rattle.std.proofs.lemmas.List.{take-append-drop, take-append-le, take-take, length-take-le}
use Rattle.std.proofs.Math.Seq.{take-append_seam, take-length}
use Rattle.std.proofs.lemmas.Grind.{flat_map-append}
use Rattle.val_types.specs.declared.change.Change.{Change}
use Rattle.table_rules.specs.Tables.{Table}
use Rattle.table_rules.specs.Changes.{applied}
use Rattle.table_rules.specs.Stored.{all_applied}
use Rattle.table_rules.proofs.Equations.{applied_none, applied_front}
use Rattle.session_model.specs.Sessions.{Save}
use Rattle.session_model.specs.Commands.{is_save_of, saves_but, saves_up_to}
use Rattle.session_model.specs.Machine.{Whole}
use Rattle.session_model.specs.Holding.{changes_of, changes_in, SavesFrom}

-- ---- changes

-- no change can always be made
pub none_made : (ts : List Table) → is_some (all_applied [] ts) ≡ true
none_made ts = ap is_some (applied_none ts)

front_by : (cs : List Change) (n : ℕ) (o : Option (List Table)) → ((ts : List Table) → is_some (all_applied cs ts) ≡ true → is_some (all_applied (take n cs) ts) ≡ true)
    → is_some (option_and_then (all_applied cs) o) ≡ true → is_some (option_and_then (all_applied (take n cs)) o) ≡ true
front_by cs n None rest h = h
front_by cs n (Some ts) rest h = rest ts h

-- the first of some changes can be made where all can
pub front_made : (n : ℕ) (cs : List Change) (ts : List Table) → is_some (all_applied cs ts) ≡ true → is_some (all_applied (take n cs) ts) ≡ true
front_made zero cs ts h = none_made ts
front_made (suc n) [] ts h = none_made ts
front_made (suc n) (c ∷ cs) ts h =
    ap is_some (applied_front c (take n cs) ts) ∙ front_by cs n (applied c ts) (front_made n cs) (ap is_some (sym (applied_front c cs ts)) ∙ h)

-- ---- changes of items

-- the changes of the first items are the first changes of all
pub cut_changes : (k : ℕ) (items : List Whole) → take (length (changes_in (take k items))) (changes_in items) ≡ changes_in (take k items)
cut_changes k items =
    ap (λ (cs : List Change). take (length (changes_in (take k items))) cs)
    (ap changes_in (sym (take-append-drop k items)) ∙ flat_map-append changes_of (take k items) (drop k items))
    ∙ take-append_seam (changes_in (take k items)) (changes_in (drop k items))

-- ---- savepoints

-- the last of them has no more items than there are
pub saves_within : (items : List Whole) (least : ℕ) (ss : List Save) → SavesFrom items least ss → least ≤ length items
saves_within items least [] h = h
saves_within items least (s ∷ ss) h = let l = h.0 in let m = saves_within items s.items ss h.2 in omega (arith, l, m)

-- from a smaller number on
pub saves_lower : (items : List Whole) (less least : ℕ) (ss : List Save) → less ≤ least → SavesFrom items least ss → SavesFrom items less ss
saves_lower items less least [] l h = omega (arith, l, h)
saves_lower items less least (s ∷ ss) l h = let m = h.0 in (omega (arith, l, m), h.1, h.2)

-- where items come behind
pub saves_more : (items more : List Whole) (least : ℕ) (ss : List Save) → SavesFrom items least ss → SavesFrom (items ++ more) least ss
saves_more items more least [] h = let l = longer items more in omega (arith, h, l)
  where
    longer : (xs ys : List Whole) → length xs ≤ length (xs ++ ys)
    longer [] ys = omega arith
    longer (x ∷ xs) ys = let k = longer xs ys in omega (arith, k)
saves_more items more least (s ∷ ss) h =
    let within = saves_within items s.items ss h.2 in
    (h.0, h.1 ∙ ap (λ (is : List Whole). length (changes_in is)) (sym (take-append-le s.items items more within)), saves_more items more s.items ss h.2)

-- where one is set last, with all items
pub saves_set : (items : List Whole) (least : ℕ) (ss : List Save) (name : List ℕ) (changes : ℕ) → changes ≡ length (changes_in items) → SavesFrom items least ss
    → SavesFrom items least (ss ++ record { name = name; items = length items; changes = changes } ∷ [])
saves_set items least [] name changes e h = (h, e ∙ ap (λ (is : List Whole). length (changes_in is)) (sym (take-length items)), omega arith)
saves_set items least (s ∷ ss) name changes e h = (h.0, h.1, saves_set items s.items ss name changes e h.2)

but_by : (b : Bool) (items : List Whole) (least : ℕ) (s : Save) (rest : List Save) → least ≤ s.items → s.changes ≡ length (changes_in (take s.items items))
    → SavesFrom items s.items rest → SavesFrom items least (cond (not b) (s ∷ rest) rest)
but_by true items least s rest l e h = saves_lower items least s.items rest l h
but_by false items least s rest l e h = (l, e, h)

-- where those of a name go
pub saves_without : (items : List Whole) (least : ℕ) (ss : List Save) (name : List ℕ) → SavesFrom items least ss → SavesFrom items least (saves_but name ss)
saves_without items least [] name h = h
saves_without items least (s ∷ ss) name h = but_by (is_save_of name s) items least s (saves_but name ss) h.0 h.1 (saves_without items s.items ss name h.2)

-- ---- cut back to one

-- a savepoint has no fewer items than any that stands before it
found_above : (items : List Whole) (least : ℕ) (ss : List Save) (name : List ℕ) (found : Save) → SavesFrom items least ss → find (is_save_of name) ss ≡ Some found
    → (least ≤ found.items) × (found.items ≤ length items) × (found.changes ≡ length (changes_in (take found.items items)))
found_above items least [] name found h e = cc
found_above items least (s ∷ ss) name found h e = by (is_save_of name s) e (found_above items s.items ss name found h.2)
  where
    by : (b : Bool) → cond b (Some s) (find (is_save_of name) ss) ≡ Some found
        → (find (is_save_of name) ss ≡ Some found → (s.items ≤ found.items) × (found.items ≤ length items) × (found.changes ≡ length (changes_in (take found.items items))))
        → (least ≤ found.items) × (found.items ≤ length items) × (found.changes ≡ length (changes_in (take found.items items)))
    by true q rest =
        let same : s ≡ found = cc in
        subst (λ (f : Save). (least ≤ f.items) × (f.items ≤ length items) × (f.changes ≡ length (changes_in (take f.items items)))) same
        (h.0, saves_within items s.items ss h.2, h.1)
    by false q rest = let r = rest q in let l = h.0 in let m = r.0 in (omega (arith, l, m), r.1, r.2)

-- the items cut back to a savepoint, and the savepoints up to it
pub saves_cut : (items : List Whole) (least : ℕ) (ss : List Save) (name : List ℕ) (found : Save) → SavesFrom items least ss → find (is_save_of name) ss ≡ Some found
    → SavesFrom (take found.items items) least (saves_up_to name ss)
saves_cut items least [] name found h e = cc
saves_cut items least (s ∷ ss) name found h e = by (is_save_of name s) e (found_above items s.items ss name found h.2) (saves_cut items s.items ss name found h.2)
  where
    -- a savepoint before the one that is found has its items still
    stays : (f : Save) → s.items ≤ f.items → s.changes ≡ length (changes_in (take s.items (take f.items items)))
    stays f l = h.1 ∙ ap (λ (is : List Whole). length (changes_in is)) (sym (take-take s.items f.items items l))

    here : SavesFrom (take s.items items) least (s ∷ [])
    here =
        let within = saves_within items s.items ss h.2 in
        let exact = length-take-le s.items items within in
        (h.0, stays s (omega arith), omega (arith, exact))

    by : (b : Bool) → cond b (Some s) (find (is_save_of name) ss) ≡ Some found
        → (find (is_save_of name) ss ≡ Some found → (s.items ≤ found.items) × (found.items ≤ length items) × (found.changes ≡ length (changes_in (take found.items items))))
        → (find (is_save_of name) ss ≡ Some found → SavesFrom (take found.items items) s.items (saves_up_to name ss))
        → SavesFrom (take found.items items) least (cond b (s ∷ []) (s ∷ saves_up_to name ss))
    by true q above rest =
        let same : s ≡ found = cc in
        subst (λ (f : Save). SavesFrom (take f.items items) least (s ∷ [])) same here
    by false q above rest = (h.0, stays found (above q).0, rest q)

-- what a savepoint that is found says of the items
pub found_holds : (items : List Whole) (least : ℕ) (ss : List Save) (name : List ℕ) (found : Save) → SavesFrom items least ss → find (is_save_of name) ss ≡ Some found
    → (found.items ≤ length items) × (found.changes ≡ length (changes_in (take found.items items)))
found_holds items least ss name found h e = let r = found_above items least ss name found h e in (r.1, r.2)
