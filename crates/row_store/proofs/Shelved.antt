-- What is done with the shelf at a place, seen as what it makes of what is stored.
use Rattle.std.proofs.Common.{◌≡◌, ℕ, zero, suc, ◌<◌, ◌≤◌, List, [], ◌∷◌, ◌++◌, map, length, get_or, Bool, true, false, not, cond, Option, Some, None, Result, Ok, Err, OnOk, refl, sym, ap, subst, ◌∙◌, arith}
use Rattle.std.specs.Prelude.{nat_eq, is_some, find, position, slice_get, slice_set}
use Rattle.std.specs.List.{list_any, remove}
use Rattle.std.specs.Option.{option_map, option_map_or}
use Rattle.std.specs.Cmp.Lexicographic.{pointwise}
use Rattle.std.proofs.lemmas.Bool.{and_parts, and_from, or_parts, or_from, not-true, not_from_false, false_from_ne_true, true≢false}
use Rattle.val_types.specs.declared.value.Value.{Value}
use Rattle.val_types.specs.declared.definitions.TableDef.{TableDef}
use Rattle.val_types.specs.declared.change.Change.{Change}
use Rattle.val_types.specs.declared.change.Change.TheVariants.{Insert, Update, Delete}
use Rattle.val_types.specs.Changes.{table_of, inverse}
use Rattle.val_types.specs.Fitting.{row_fits}
use Rattle.val_types.specs.Keys.{primary_key}
use Rattle.val_types.specs.Lookup.{remove_first}
use Rattle.val_types.proofs.Lookup.{found, replaced, removed, place_mapped}
use Rattle.table_rules.specs.Tables.{Table}
use Rattle.table_rules.specs.Changes.{rows_after, applied}
use Rattle.table_rules.specs.Stored.{has_name, table_named, row_of_key, row_at, insertion, replacement, deletion, tables_beside, tables_cleared, keys_at}
use Rattle.table_rules.specs.Stores.{place_of, definitions_of, names_differ, fits_at, kept_among, keeps, keeps_put, KeepsAll, KeepsSame, KeepsBeside, IsWhole}
use Rattle.table_rules.proofs.Storing.{key_is}
use Rattle.table_rules.proofs.Places.{name_is, name_self, place, at_place}
use Rattle.row_store.specs.declared.refusal.RowRefusal.{RowRefusal}
use Rattle.row_store.specs.declared.refusal.RowRefusal.TheVariants.{Taken, Absent, NoMemory}
use Rattle.row_store.specs.declared.shelf.Shelf.{Shelf}
use Rattle.table_sheet.specs.row_sheets.Slots.{keys_in}
use Rattle.table_sheet.specs.Pages.{rows_on, has_entry, KeepsEntries}
use Rattle.row_store.specs.Shelves.{table_on, tables_on, definitions_on, keys_on, store_of, is_named, has_entry_for, has_entries_for, Inserted, Replaced, Deleted}
use Rattle.row_store.specs.Stores.{Stores}
use Rattle.row_store.proofs.Swapping.{kept_on, shelf_named, swap, same_name, keeps_swap, keeps_rows, equal_swap, same_rows, kept_found, dropped, cleared_swap, shelves_kept, committed_kept, same_definitions}
use Rattle.row_store.proofs.Storing.{table_found, no_table, same_table, shelf_applied, shelf_same, insert_stored, update_stored, delete_stored, delete_absent, row_found, keys_found}
use Rattle.row_store.proofs.Beside.{here_kept, on_ok, beside_swap, beside_removed, inverse_name, step_here, kept_before, table_added, set_same}

-- ---- names and definitions

name_turned : (a b : List ℕ) → pointwise nat_eq a b ≡ false → pointwise nat_eq b a ≡ false
name_turned a b differ =
    false_from_ne_true (pointwise nat_eq b a) (λ e. true≢false (sym (name_self a) ∙ ap (pointwise nat_eq a) (sym (name_is b a e)) ∙ differ))

pub definitions_same : (ss : List Shelf) → definitions_of (tables_on ss) ≡ definitions_on ss
definitions_same [] = refl
definitions_same (s ∷ ss) = ap (λ (ds : List TableDef). s.sheet.definition ∷ ds) (definitions_same ss)

definitions_step : (k : ℕ) (s new d : Shelf) (ss : List Shelf) → d ≡ get_or (s ∷ ss) k d → same_name d new → ((j : ℕ) → d ≡ get_or ss j d → definitions_on (slice_set ss j new) ≡ definitions_on ss)
    → definitions_on (slice_set (s ∷ ss) k new) ≡ definitions_on (s ∷ ss)
definitions_step zero s new d ss e same later = ap (λ (t : TableDef). t ∷ definitions_on ss) (same ∙ ap (λ (u : Shelf). u.sheet.definition) e)
definitions_step (suc k) s new d ss e same later = ap (λ (ds : List TableDef). s.sheet.definition ∷ ds) (later k e)

pub definitions_set : (ss : List Shelf) (k : ℕ) (new d : Shelf) → d ≡ get_or ss k d → same_name d new → definitions_on (slice_set ss k new) ≡ definitions_on ss
definitions_set [] k new d e same = refl
definitions_set (s ∷ ss) k new d e same = definitions_step k s new d ss e same (λ j f. definitions_set ss j new d f same)

-- names differ still where a shelf has another of its definition
pub names_set : (ss : List Shelf) (k : ℕ) (new d : Shelf) → names_differ (definitions_on ss) ≡ true → d ≡ get_or ss k d → same_name d new → names_differ (definitions_on (slice_set ss k new)) ≡ true
names_set ss k new d differ e same = ap names_differ (definitions_set ss k new d e same) ∙ differ

abbrev has_name_of : TableDef → TableDef → Bool
has_name_of a b = pointwise nat_eq a.name b.name

other_at : (d : TableDef) (ss : List Shelf) (k : ℕ) (s : Shelf) → list_any (has_name_of d) (definitions_on ss) ≡ false → k < length ss → has_name_of d (get_or ss k s).sheet.definition ≡ false
other_at d [] k s e h = absurd (omega arith)
other_at d (t ∷ ts) zero s e h = (or_parts (has_name_of d t.sheet.definition) (list_any (has_name_of d) (definitions_on ts)) e).0
other_at d (t ∷ ts) (suc k) s e h = other_at d ts k s (or_parts (has_name_of d t.sheet.definition) (list_any (has_name_of d) (definitions_on ts)) e).1 (omega arith)

-- each shelf stands at the place of its name
pub named_at : (ss : List Shelf) (k : ℕ) (s : Shelf) → names_differ (definitions_on ss) ≡ true → k < length ss → position (is_named (get_or ss k s).sheet.definition.name) ss ≡ Some k
named_at [] k s differ h = absurd (omega arith)
named_at (t ∷ ts) zero s differ h =
    place (is_named t.sheet.definition.name) t ts ∙ ap (λ (b : Bool). cond b (Some 0) (option_map suc (position (is_named t.sheet.definition.name) ts))) (name_self t.sheet.definition.name)
named_at (t ∷ ts) (suc k) s differ h =
    let parts = and_parts (not (list_any (has_name_of t.sheet.definition) (definitions_on ts))) (names_differ (definitions_on ts)) differ in
    let other : has_name_of t.sheet.definition (get_or ts k s).sheet.definition ≡ false = other_at t.sheet.definition ts k s (not-true (list_any (has_name_of t.sheet.definition) (definitions_on ts)) parts.0) (omega arith) in
    place (is_named (get_or ts k s).sheet.definition.name) t ts
    ∙ ap (λ (b : Bool). cond b (Some 0) (option_map suc (position (is_named (get_or ts k s).sheet.definition.name) ts))) (name_turned t.sheet.definition.name (get_or ts k s).sheet.definition.name other)
    ∙ ap (option_map suc) (named_at ts k s parts.1 (omega arith))

any_left : (d : TableDef) (name : List ℕ) (ss : List Shelf) → list_any (has_name_of d) (definitions_on ss) ≡ false → list_any (has_name_of d) (definitions_on (remove_first (is_named name) ss)) ≡ false
any_left d name [] e = refl
any_left d name (s ∷ ss) e =
    let parts = or_parts (has_name_of d s.sheet.definition) (list_any (has_name_of d) (definitions_on ss)) e in
    any_step (is_named name s) parts.0 parts.1 (any_left d name ss parts.1)
  where
    any_step : (here : Bool) → has_name_of d s.sheet.definition ≡ false → list_any (has_name_of d) (definitions_on ss) ≡ false → list_any (has_name_of d) (definitions_on (remove_first (is_named name) ss)) ≡ false
        → list_any (has_name_of d) (definitions_on (cond here ss (s ∷ remove_first (is_named name) ss))) ≡ false
    any_step true first rest later = rest
    any_step false first rest later = or_from (has_name_of d s.sheet.definition) (list_any (has_name_of d) (definitions_on (remove_first (is_named name) ss))) first later

left_step : (here : Bool) (name : List ℕ) (s : Shelf) (ss : List Shelf) → names_differ (definitions_on (s ∷ ss)) ≡ true → names_differ (definitions_on (remove_first (is_named name) ss)) ≡ true
    → names_differ (definitions_on (cond here ss (s ∷ remove_first (is_named name) ss))) ≡ true
left_step true name s ss differ later = (and_parts (not (list_any (has_name_of s.sheet.definition) (definitions_on ss))) (names_differ (definitions_on ss)) differ).1
left_step false name s ss differ later =
    let parts = and_parts (not (list_any (has_name_of s.sheet.definition) (definitions_on ss))) (names_differ (definitions_on ss)) differ in
    and_from (not (list_any (has_name_of s.sheet.definition) (definitions_on (remove_first (is_named name) ss)))) (names_differ (definitions_on (remove_first (is_named name) ss)))
    (not_from_false _ (any_left s.sheet.definition name ss (not-true (list_any (has_name_of s.sheet.definition) (definitions_on ss)) parts.0))) later

names_left_first : (name : List ℕ) (ss : List Shelf) → names_differ (definitions_on ss) ≡ true → names_differ (definitions_on (remove_first (is_named name) ss)) ≡ true
names_left_first name [] differ = refl
names_left_first name (s ∷ ss) differ =
    left_step (is_named name s) name s ss differ (names_left_first name ss (and_parts (not (list_any (has_name_of s.sheet.definition) (definitions_on ss))) (names_differ (definitions_on ss)) differ).1)

-- ---- places

pub placed : (name : List ℕ) (ss : List Shelf) (at : ℕ) → place_of name (store_of ss).tables ≡ Some at → position (is_named name) ss ≡ Some at
unfolding store_of
placed name ss at e = sym (place_mapped table_on (has_name name) ss) ∙ e

pub place_is : (name : List ℕ) (ss : List Shelf) → position (is_named name) ss ≡ place_of name (store_of ss).tables
unfolding store_of
place_is name ss = sym (place_mapped table_on (has_name name) ss)

not_placed : (name : List ℕ) (ss : List Shelf) → place_of name (store_of ss).tables ≡ None → position (is_named name) ss ≡ None
unfolding store_of
not_placed name ss e = sym (place_mapped table_on (has_name name) ss) ∙ e

pub shelf_at : (name : List ℕ) (ss : List Shelf) (at : ℕ) (s : Shelf) → place_of name (store_of ss).tables ≡ Some at → s ≡ get_or ss at s → shelf_named name ss ≡ Some s
shelf_at name ss at s e is = found (is_named name) ss at s (placed name ss at e) is

pub set_at : (name : List ℕ) (ss : List Shelf) (at : ℕ) (new : Shelf) → place_of name (store_of ss).tables ≡ Some at → slice_set ss at new ≡ swap name new ss
set_at name ss at new e = replaced (is_named name) new ss at (placed name ss at e)

pub get_past : (ss : List Shelf) (at : ℕ) → length ss ≤ at → slice_get ss at ≡ None
get_past [] at h = refl
get_past (s ∷ ss) zero h = absurd (omega arith)
get_past (s ∷ ss) (suc at) h = get_past ss at (omega arith)

-- no table has its place past the end
pub none_past : (name : List ℕ) (ss : List Shelf) (at : ℕ) → length ss ≤ at → place_of name (store_of ss).tables ≡ Some at → ⊥
none_past name ss at past e =
    let both = at_place (is_named name) ss at (placed name ss at e) in
    none_is (find (is_named name) ss) (sym both.0 ∙ get_past ss at past) both.1
  where
    none_is : (o : Option Shelf) → o ≡ None → option_map (is_named name) o ≡ Some true → ⊥
    none_is None f g = cc
    none_is (Some s) f g = cc

get_within : (ss : List Shelf) (at : ℕ) (s : Shelf) → slice_get ss at ≡ Some s → at < length ss
get_within [] at s e = cc
get_within (t ∷ ts) zero s e = omega arith
get_within (t ∷ ts) (suc at) s e = let less : at < length ts = get_within ts at s e in omega arith

some_passes : (test : Shelf → Bool) (o : Option Shelf) → option_map test o ≡ Some true → (s : Shelf) × (o ≡ Some s)
some_passes test None e = cc
some_passes test (Some s) e = (s, refl)

pub place_within : (name : List ℕ) (ss : List Shelf) (at : ℕ) → place_of name (store_of ss).tables ≡ Some at → at < length ss
place_within name ss at e =
    let both = at_place (is_named name) ss at (placed name ss at e) in
    let s = some_passes (is_named name) (find (is_named name) ss) both.1 in
    get_within ss at s.0 (both.0 ∙ s.1)

pub get_is : (ss : List Shelf) (at : ℕ) (s : Shelf) → at < length ss → s ≡ get_or ss at s → slice_get ss at ≡ Some s
get_is [] at s h is = absurd (omega arith)
get_is (t ∷ ts) zero s h is = ap (λ (u : Shelf). Some u) (sym is)
get_is (t ∷ ts) (suc at) s h is = get_is ts at s (omega arith) is

pub get_mapped : {X Y : Type 0} (f : X → Y) (xs : List X) (i : ℕ) → slice_get (map f xs) i ≡ option_map f (slice_get xs i)
get_mapped f [] i = refl
get_mapped f (x ∷ xs) zero = refl
get_mapped f (x ∷ xs) (suc i) = get_mapped f xs i

-- the table at the place of a shelf
table_at : (ss : List Shelf) (at : ℕ) (s : Shelf) → at < length ss → s ≡ get_or ss at s → slice_get (store_of ss).tables at ≡ Some (table_on s)
unfolding store_of
table_at ss at s h is = get_mapped table_on ss at ∙ ap (option_map table_on) (get_is ss at s h is)

no_table_at : (ss : List Shelf) (at : ℕ) → length ss ≤ at → slice_get (store_of ss).tables at ≡ None
unfolding store_of
no_table_at ss at past = get_mapped table_on ss at ∙ ap (option_map table_on) (get_past ss at past)

pub definition_at : (ss : List Shelf) (at : ℕ) (s : Shelf) → at < length ss → s ≡ get_or ss at s → Some s.sheet.definition ≡ slice_get (definitions_of (store_of ss).tables) at
definition_at ss at s h is = sym (get_mapped (λ (t : Table). t.definition) (store_of ss).tables at ∙ ap (option_map (λ (t : Table). t.definition)) (table_at ss at s h is))

pub no_definition_at : (ss : List Shelf) (at : ℕ) → length ss ≤ at → None ≡ slice_get (definitions_of (store_of ss).tables) at
no_definition_at ss at past = sym (get_mapped (λ (t : Table). t.definition) (store_of ss).tables at ∙ ap (option_map (λ (t : Table). t.definition)) (no_table_at ss at past))

pub definition_place : (ss : List Shelf) (at : ℕ) (s : Shelf) → names_differ (definitions_on ss) ≡ true → at < length ss → s ≡ get_or ss at s → place_of s.sheet.definition.name (store_of ss).tables ≡ Some at
definition_place ss at s differ h is = sym (place_is s.sheet.definition.name ss) ∙ ap (λ (t : Shelf). position (is_named t.sheet.definition.name) ss) is ∙ named_at ss at s differ h

pub fits_shelf_at : (row : List Value) (ss : List Shelf) (at : ℕ) (s : Shelf) → at < length ss → s ≡ get_or ss at s → fits_at at row (store_of ss).tables ≡ row_fits s.sheet.definition.columns row
fits_shelf_at row ss at s h is = ap (λ (o : Option Table). option_map_or (λ (t : Table). row_fits t.definition.columns row) o true) (table_at ss at s h is)

pub fits_past : (row : List Value) (ss : List Shelf) (at : ℕ) → length ss ≤ at → fits_at at row (store_of ss).tables ≡ true
fits_past row ss at past = ap (λ (o : Option Table). option_map_or (λ (t : Table). row_fits t.definition.columns row) o true) (no_table_at ss at past)

-- ---- keys that are kept

kept_shelves : (name : List ℕ) (row : List Value) (ss : List Shelf) → kept_among name row (tables_on ss) (map keys_on ss) ≡ kept_on name row ss
kept_shelves name row [] = refl
kept_shelves name row (s ∷ ss) = ap (cond (is_named name s) (has_entry_for row s)) (kept_shelves name row ss)

pub keeps_on : (name : List ℕ) (row : List Value) (ss : List Shelf) → keeps (store_of ss) name row ≡ kept_on name row ss
unfolding keeps store_of
keeps_on name row ss = kept_shelves name row ss

-- where the entries of a shelf stay, all keys are kept
pub keeps_set : (ss : List Shelf) (at : ℕ) (s new : Shelf) → names_differ (definitions_on ss) ≡ true → at < length ss → s ≡ get_or ss at s → same_name s new → KeepsEntries s.sheet new.sheet
    → KeepsAll (store_of ss) (store_of (slice_set ss at new))
keeps_set ss at s new differ h is same slots n r kept =
    let name : List ℕ = s.sheet.definition.name in
    let at_name : place_of name (store_of ss).tables ≡ Some at = definition_place ss at s differ h is in
    keeps_on n r (slice_set ss at new)
    ∙ ap (kept_on n r) (set_at name ss at new at_name)
    ∙ keeps_swap name n r s new ss (shelf_at name ss at s at_name is) same (keeps_rows s new same slots) (sym (keeps_on n r ss) ∙ kept)

pub keeps_same : (ss : List Shelf) (at : ℕ) (s new : Shelf) → names_differ (definitions_on ss) ≡ true → at < length ss → s ≡ get_or ss at s → same_name s new → keys_in new.sheet.entries ≡ keys_in s.sheet.entries
    → KeepsSame (store_of ss) (store_of (slice_set ss at new))
keeps_same ss at s new differ h is same slots n r =
    let name : List ℕ = s.sheet.definition.name in
    let at_name : place_of name (store_of ss).tables ≡ Some at = definition_place ss at s differ h is in
    keeps_on n r (slice_set ss at new)
    ∙ ap (kept_on n r) (set_at name ss at new at_name)
    ∙ equal_swap name n r s new ss (shelf_at name ss at s at_name is) same (same_rows s new r same slots)
    ∙ sym (keeps_on n r ss)

pub whole : (ss : List Shelf) → names_differ (definitions_on ss) ≡ true → IsWhole (store_of ss)
unfolding store_of
whole ss differ = record { rows = shelves_kept ss; names = ap names_differ (definitions_same ss) ∙ differ; committed = committed_kept ss; same = same_definitions ss }

-- ---- rows stored

pub got_row : (name : List ℕ) (key : List Value) (ss : List Shelf) (at : ℕ) (s : Shelf) → s ≡ get_or ss at s → place_of name (store_of ss).tables ≡ Some at
    → row_of_key s.sheet.definition key (rows_on s.sheet) ≡ row_at name key (store_of ss).tables
unfolding store_of
got_row name key ss at s is e = sym (row_found name key ss s (shelf_at name ss at s e is))

pub stored_insert : (r : Result (Unit {0}) RowRefusal) (row : List Value) (ss : List Shelf) (at : ℕ) (s new : Shelf) → s ≡ get_or ss at s → same_name s new → row_fits s.sheet.definition.columns row ≡ true
    → Inserted r s.sheet.definition row (rows_on s.sheet) (rows_on new.sheet)
    → (name : List ℕ) → place_of name (store_of ss).tables ≡ Some at → Stores r (insertion name row (store_of ss).tables) (store_of ss).tables (store_of (slice_set ss at new)).tables
unfolding store_of
stored_insert r row ss at s new is same fits p name e =
    subst (λ (shelves : List Shelf). Stores r (insertion name row (tables_on ss)) (tables_on ss) (tables_on shelves)) (sym (set_at name ss at new e))
    (insert_stored r name row ss s new (shelf_at name ss at s e is) same fits p)

pub kept_here : (A : Type 0) (r : Result A RowRefusal) (row : List Value) (ss : List Shelf) (at : ℕ) (s new : Shelf) → s ≡ get_or ss at s → same_name s new
    → OnOk r (has_entry (primary_key s.sheet.definition row) new.sheet ≡ true)
    → (name : List ℕ) → place_of name (store_of ss).tables ≡ Some at → OnOk r (keeps (store_of (slice_set ss at new)) name row ≡ true)
kept_here A r row ss at s new is same slot name e =
    on_ok r (has_entry (primary_key s.sheet.definition row) new.sheet ≡ true) (keeps (store_of (slice_set ss at new)) name row ≡ true)
    (λ has. keeps_on name row (slice_set ss at new) ∙ ap (kept_on name row) (set_at name ss at new e) ∙ here_kept name row s new ss (shelf_at name ss at s e is) same has) slot

pub stored_update : (r : Result (Unit {0}) RowRefusal) (key row : List Value) (ss : List Shelf) (at : ℕ) (s new : Shelf) → s ≡ get_or ss at s → same_name s new → row_fits s.sheet.definition.columns row ≡ true
    → Replaced r s.sheet.definition key row (rows_on s.sheet) (rows_on new.sheet)
    → (name : List ℕ) → place_of name (store_of ss).tables ≡ Some at → Stores r (replacement name key row (store_of ss).tables) (store_of ss).tables (store_of (slice_set ss at new)).tables
unfolding store_of
stored_update r key row ss at s new is same fits p name e =
    subst (λ (shelves : List Shelf). Stores r (replacement name key row (tables_on ss)) (tables_on ss) (tables_on shelves)) (sym (set_at name ss at new e))
    (update_stored r name key row ss s new (shelf_at name ss at s e is) same fits p)

some_row : (o : Option (List Value)) → is_some o ≡ true → (row : List Value) × (o ≡ Some row)
some_row None e = cc
some_row (Some row) e = (row, refl)

pub delete_by : (r : Result (Unit {0}) RowRefusal) (name : List ℕ) (key : List Value) (ss : List Shelf) (old new : Shelf) → shelf_named name ss ≡ Some old → same_name old new
    → Deleted r old.sheet.definition key (rows_on old.sheet) (rows_on new.sheet) → Stores r (deletion name key (tables_on ss)) (tables_on ss) (tables_on (swap name new ss))
delete_by (Ok done) name key ss old new found same p =
    let row = some_row (row_of_key old.sheet.definition key (rows_on old.sheet)) p.0 in delete_stored name key row.0 ss old new found same row.1 p.1
delete_by (Err (Taken which)) name key ss old new found same p = absurd p
delete_by (Err Absent) name key ss old new found same p = (delete_absent name key ss old found p.0, shelf_same name ss old new found same p.1)
delete_by (Err NoMemory) name key ss old new found same p = shelf_same name ss old new found same p

pub stored_delete : (r : Result (Unit {0}) RowRefusal) (key : List Value) (ss : List Shelf) (at : ℕ) (s new : Shelf) → s ≡ get_or ss at s → same_name s new
    → Deleted r s.sheet.definition key (rows_on s.sheet) (rows_on new.sheet)
    → (name : List ℕ) → place_of name (store_of ss).tables ≡ Some at → Stores r (deletion name key (store_of ss).tables) (store_of ss).tables (store_of (slice_set ss at new)).tables
unfolding store_of
stored_delete r key ss at s new is same p name e =
    subst (λ (shelves : List Shelf). Stores r (deletion name key (tables_on ss)) (tables_on ss) (tables_on shelves)) (sym (set_at name ss at new e))
    (delete_by r name key ss s new (shelf_at name ss at s e is) same p)

-- the key of the row that was there is kept
pub before_here : (r : Result (Unit {0}) RowRefusal) (key : List Value) (ss : List Shelf) (at : ℕ) (s new : Shelf) → s ≡ get_or ss at s → same_name s new → OnOk r (has_entry key new.sheet ≡ true)
    → (name : List ℕ) → place_of name (store_of ss).tables ≡ Some at
    → OnOk r ((before : List Value) → row_at name key (store_of ss).tables ≡ Some before → keeps (store_of (slice_set ss at new)) name before ≡ true)
before_here r key ss at s new is same entry name e =
    on_ok r (has_entry key new.sheet ≡ true) ((before : List Value) → row_at name key (store_of ss).tables ≡ Some before → keeps (store_of (slice_set ss at new)) name before ≡ true)
    (λ has before there.
    let its : key ≡ primary_key s.sheet.definition before = key_is s.sheet.definition key before (rows_on s.sheet) (got_row name key ss at s is e ∙ there) in
    keeps_on name before (slice_set ss at new)
    ∙ ap (kept_on name before) (set_at name ss at new e)
    ∙ here_kept name before s new ss (shelf_at name ss at s e is) same (ap (λ (k : List Value). has_entry k new.sheet) (sym its) ∙ has)) entry

-- ---- changes taken back

shelf_inverse : (change : Change) (ss : List Shelf) (at : ℕ) (s : Shelf) → s ≡ get_or ss at s → place_of (table_of change) (store_of ss).tables ≡ Some at → shelf_named (table_of (inverse change)) ss ≡ Some s
shelf_inverse change ss at s is e = ap (λ (n : List ℕ). shelf_named n ss) (inverse_name change) ∙ shelf_at (table_of change) ss at s e is

pub back_step : (change : Change) (ss : List Shelf) (at : ℕ) (s : Shelf) → s ≡ get_or ss at s → place_of (table_of change) (store_of ss).tables ≡ Some at
    → is_some (applied (inverse change) (store_of ss).tables) ≡ true → is_some (rows_after s.sheet.definition (inverse change) (rows_on s.sheet)) ≡ true
unfolding store_of
back_step change ss at s is e step = step_here (inverse change) ss s (shelf_inverse change ss at s is e) step

entry_for : (name : List ℕ) (row : List Value) (ss : List Shelf) (s : Shelf) → shelf_named name ss ≡ Some s → keeps (store_of ss) name row ≡ true → has_entry_for row s ≡ true
entry_for name row ss s found kept = sym (keeps_on name row ss ∙ kept_found name row s ss found) ∙ kept

entries_for : (change : Change) (ss : List Shelf) (s : Shelf) → shelf_named (table_of change) ss ≡ Some s → keeps_put (store_of ss) change ≡ true → has_entries_for s.sheet change ≡ true
entries_for (Insert name row) ss s found kept = entry_for name row ss s found kept
entries_for (Update name before after) ss s found kept =
    let parts = and_parts (keeps (store_of ss) name before) (keeps (store_of ss) name after) kept in
    and_from (has_entry_for before s) (has_entry_for after s) (entry_for name before ss s found parts.0) (entry_for name after ss s found parts.1)
entries_for (Delete name row) ss s found kept = entry_for name row ss s found kept

pub back_entries : (change : Change) (ss : List Shelf) (at : ℕ) (s : Shelf) → s ≡ get_or ss at s → place_of (table_of change) (store_of ss).tables ≡ Some at
    → keeps_put (store_of ss) (inverse change) ≡ true → has_entries_for s.sheet (inverse change) ≡ true
back_entries change ss at s is e kept = entries_for (inverse change) ss s (shelf_inverse change ss at s is e) kept

pub taken_back : (change : Change) (ss : List Shelf) (at : ℕ) (s new : Shelf) → s ≡ get_or ss at s → same_name s new → place_of (table_of change) (store_of ss).tables ≡ Some at
    → rows_after s.sheet.definition (inverse change) (rows_on s.sheet) ≡ Some (rows_on new.sheet)
    → applied (inverse change) (store_of ss).tables ≡ Some (store_of (slice_set ss at new)).tables
unfolding store_of
taken_back change ss at s new is same e made =
    shelf_applied (inverse change) ss s new (shelf_inverse change ss at s is e) same made
    ∙ ap (λ (n : List ℕ). Some (tables_on (swap n new ss))) (inverse_name change)
    ∙ ap (λ (shelves : List Shelf). Some (tables_on shelves)) (sym (set_at (table_of change) ss at new e))

-- ---- whole tables

pub cleared_at : (name : List ℕ) (ss : List Shelf) (at : ℕ) (s new : Shelf) → s ≡ get_or ss at s → same_name s new → rows_on new.sheet ≡ [] → place_of name (store_of ss).tables ≡ Some at
    → (store_of (slice_set ss at new)).tables ≡ tables_cleared name (store_of ss).tables
unfolding store_of
cleared_at name ss at s new is same none e = ap tables_on (set_at name ss at new e) ∙ cleared_swap name s new ss (shelf_at name ss at s e is) same none

pub beside_at : (name : List ℕ) (ss : List Shelf) (at : ℕ) (s new : Shelf) → s ≡ get_or ss at s → same_name s new → place_of name (store_of ss).tables ≡ Some at
    → KeepsBeside name (store_of ss) (store_of (slice_set ss at new))
beside_at name ss at s new is same e other row differ =
    keeps_on other row (slice_set ss at new)
    ∙ ap (kept_on other row) (set_at name ss at new e)
    ∙ beside_swap name other row s new ss differ (shelf_at name ss at s e is) same
    ∙ sym (keeps_on other row ss)

pub dropped_at : (name : List ℕ) (ss : List Shelf) (at : ℕ) → place_of name (store_of ss).tables ≡ Some at → (store_of (remove ss at)).tables ≡ tables_beside name (store_of ss).tables
unfolding store_of
dropped_at name ss at e = dropped name ss at (placed name ss at e)

pub beside_dropped : (name : List ℕ) (ss : List Shelf) (at : ℕ) → place_of name (store_of ss).tables ≡ Some at → KeepsBeside name (store_of ss) (store_of (remove ss at))
beside_dropped name ss at e other row differ =
    keeps_on other row (remove ss at) ∙ beside_removed name other row ss at (placed name ss at e) differ ∙ sym (keeps_on other row ss)

pub names_left : (name : List ℕ) (ss : List Shelf) (at : ℕ) → names_differ (definitions_on ss) ≡ true → place_of name (store_of ss).tables ≡ Some at → names_differ (definitions_on (remove ss at)) ≡ true
names_left name ss at differ e =
    ap (λ (shelves : List Shelf). names_differ (definitions_on shelves)) (removed (is_named name) ss at (placed name ss at e)) ∙ names_left_first name ss differ

none_named : (d : TableDef) (ss : List Shelf) (name : List ℕ) → name ≡ d.name → list_any (has_name_of d) (definitions_on ss) ≡ false → shelf_named name ss ≡ None
none_named d [] name same e = refl
none_named d (s ∷ ss) name same e =
    let parts = or_parts (has_name_of d s.sheet.definition) (list_any (has_name_of d) (definitions_on ss)) e in
    let not_here : is_named name s ≡ false = ap (λ (n : List ℕ). is_named n s) same ∙ parts.0 in
    rw not_here (none_named d ss name same parts.1)

gone_step : (here : Bool) (name : List ℕ) (s : Shelf) (ss : List Shelf) → is_named name s ≡ here → names_differ (definitions_on (s ∷ ss)) ≡ true
    → shelf_named name (remove_first (is_named name) ss) ≡ None → shelf_named name (cond here ss (s ∷ remove_first (is_named name) ss)) ≡ None
gone_step true name s ss e differ later =
    none_named s.sheet.definition ss name (name_is name s.sheet.definition.name e) (not-true _ (and_parts (not (list_any (has_name_of s.sheet.definition) (definitions_on ss))) (names_differ (definitions_on ss)) differ).0)
gone_step false name s ss e differ later = rw e later

gone_first : (name : List ℕ) (ss : List Shelf) → names_differ (definitions_on ss) ≡ true → shelf_named name (remove_first (is_named name) ss) ≡ None
gone_first name [] differ = refl
gone_first name (s ∷ ss) differ =
    gone_step (is_named name s) name s ss refl differ (gone_first name ss (and_parts (not (list_any (has_name_of s.sheet.definition) (definitions_on ss))) (names_differ (definitions_on ss)) differ).1)

named_is : (name : List ℕ) (ss : List Shelf) → shelf_named name ss ≡ None → table_named name (store_of ss).tables ≡ None
unfolding store_of
named_is name ss none = no_table name ss none

-- the name of a table that was dropped is gone
pub gone_at : (name : List ℕ) (ss : List Shelf) (at : ℕ) → names_differ (definitions_on ss) ≡ true → place_of name (store_of ss).tables ≡ Some at → table_named name (store_of (remove ss at)).tables ≡ None
gone_at name ss at differ e =
    named_is name (remove ss at) (ap (shelf_named name) (removed (is_named name) ss at (placed name ss at e)) ∙ gone_first name ss differ)

any_more : (d : TableDef) (ss : List Shelf) (last : Shelf) → list_any (has_name_of d) (definitions_on ss) ≡ false → has_name_of d last.sheet.definition ≡ false
    → list_any (has_name_of d) (definitions_on (ss ++ last ∷ [])) ≡ false
any_more d [] last e f = or_from (has_name_of d last.sheet.definition) false f refl
any_more d (s ∷ ss) last e f =
    let parts = or_parts (has_name_of d s.sheet.definition) (list_any (has_name_of d) (definitions_on ss)) e in
    or_from (has_name_of d s.sheet.definition) (list_any (has_name_of d) (definitions_on (ss ++ last ∷ []))) parts.0 (any_more d ss last parts.1 f)

none_here : (b : Bool) (s : Shelf) (o : Option Shelf) → cond b (Some s) o ≡ None → (b ≡ false) × (o ≡ None)
none_here true s o e = cc
none_here false s o e = (refl, e)

names_behind : (ss : List Shelf) (last : Shelf) → names_differ (definitions_on ss) ≡ true → shelf_named last.sheet.definition.name ss ≡ None → names_differ (definitions_on (ss ++ last ∷ [])) ≡ true
names_behind [] last differ none = refl
names_behind (s ∷ ss) last differ none =
    let parts = and_parts (not (list_any (has_name_of s.sheet.definition) (definitions_on ss))) (names_differ (definitions_on ss)) differ in
    let other = none_here (is_named last.sheet.definition.name s) s (shelf_named last.sheet.definition.name ss) none in
    and_from (not (list_any (has_name_of s.sheet.definition) (definitions_on (ss ++ last ∷ [])))) (names_differ (definitions_on (ss ++ last ∷ [])))
    (not_from_false _ (any_more s.sheet.definition ss last (not-true _ parts.0) (name_turned last.sheet.definition.name s.sheet.definition.name other.0)))
    (names_behind ss last parts.1 other.1)

named_none : (name : List ℕ) (ss : List Shelf) → table_named name (store_of ss).tables ≡ None → shelf_named name ss ≡ None
unfolding store_of
named_none name ss e = by_shelf (shelf_named name ss) refl
  where
    by_shelf : (o : Option Shelf) → shelf_named name ss ≡ o → o ≡ None
    by_shelf None f = refl
    by_shelf (Some s) f = let both : Some (table_on s) ≡ None = sym (table_found name ss s f) ∙ e in cc

-- names differ still with a table of a name that was free
pub names_more : (ss : List Shelf) (last : Shelf) (d : TableDef) → names_differ (definitions_on ss) ≡ true → table_named d.name (store_of ss).tables ≡ None → last.sheet.definition ≡ d
    → names_differ (definitions_on (ss ++ last ∷ [])) ≡ true
names_more ss last d differ free same =
    names_behind ss last differ (named_none last.sheet.definition.name ss (ap (λ (e : TableDef). table_named e.name (store_of ss).tables) same ∙ free))

pub created : (ss : List Shelf) (last : Shelf) (d : TableDef) → last.sheet.definition ≡ d → rows_on last.sheet ≡ [] → (store_of (ss ++ last ∷ [])).tables ≡ (store_of ss).tables ++ record { definition = d; rows = [] } ∷ []
unfolding store_of
created ss last d same none = table_added ss last d same none

pub keeps_more : (ss : List Shelf) (last : Shelf) → KeepsAll (store_of ss) (store_of (ss ++ last ∷ []))
keeps_more ss last n r h = keeps_on n r (ss ++ last ∷ []) ∙ kept_before n r ss last (sym (keeps_on n r ss) ∙ h)

pub keys_of : (name : List ℕ) (ss : List Shelf) (at : ℕ) (s : Shelf) → s ≡ get_or ss at s → place_of name (store_of ss).tables ≡ Some at
    → map (primary_key s.sheet.definition) (rows_on s.sheet) ≡ keys_at name (store_of ss).tables
unfolding store_of
keys_of name ss at s is e = sym (keys_found name ss s (shelf_at name ss at s e is))

-- another shelf of the same table
pub same_set : (ss : List Shelf) (at : ℕ) (s new : Shelf) → s ≡ get_or ss at s → same_name s new → rows_on new.sheet ≡ rows_on s.sheet → (store_of (slice_set ss at new)).tables ≡ (store_of ss).tables
unfolding store_of
same_set ss at s new is same rows = set_same ss at new s is (same_table s new same rows)
