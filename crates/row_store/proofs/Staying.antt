-- The rows that are there to stay, where tables are added, dropped and cleared, and made of those that are shown.
use Rattle.std.proofs.Common.{◌≡◌, ℕ, ◌≤◌, List, [], ◌∷◌, ◌++◌, map, length, get_or, true, Option, Some, None, sym, ap, ◌∙◌, arith}
use Rattle.std.specs.Prelude.{slice_set}
use Rattle.std.specs.List.{remove}
use Rattle.std.specs.Option.{option_map, option_map_or}
use Rattle.std.proofs.lemmas.List.{map-append}
use Rattle.val_types.specs.declared.value.Value.{Value}
use Rattle.val_types.specs.declared.definitions.TableDef.{TableDef}
use Rattle.val_types.proofs.Lookup.{removed, place_mapped, find_mapped, left_mapped, change_mapped}
use Rattle.table_rules.specs.Tables.{Table}
use Rattle.table_rules.specs.Stored.{has_name, rows_of, tables_beside, tables_cleared}
use Rattle.table_rules.specs.Stores.{Store, place_of, names_differ}
use Rattle.table_sheet.specs.row_sheets.Slots.{Slot, rows_in}
use Rattle.table_sheet.specs.Pages.{rows_on}
use Rattle.row_store.specs.declared.shelf.Shelf.{Shelf}
use Rattle.row_store.specs.Shelves.{table_on, definitions_on, committed_on, is_named, store_of}
use Rattle.row_store.proofs.Swapping.{same_name}
use Rattle.row_store.proofs.Shelved.{placed, shelf_at, set_at}
use Rattle.row_store.proofs.Setting.{GoesOn, upto_length, upto_map}

-- ---- whole tables

pub committed_created : (ss : List Shelf) (last : Shelf) (d : TableDef) → last.sheet.definition ≡ d → last.sheet.committed ≡ [] → (store_of (ss ++ last ∷ [])).committed ≡ (store_of ss).committed ++ record { definition = d; rows = [] } ∷ []
unfolding store_of
committed_created ss last d same none =
    map-append committed_on ss (last ∷ [])
    ∙ ap (λ (e : TableDef). map committed_on ss ++ record { definition = e; rows = rows_in last.sheet.committed } ∷ []) same
    ∙ ap (λ (cs : List Slot). map committed_on ss ++ record { definition = d; rows = rows_in cs } ∷ []) none

pub committed_dropped : (name : List ℕ) (ss : List Shelf) (at : ℕ) → place_of name (store_of ss).tables ≡ Some at → (store_of (remove ss at)).committed ≡ tables_beside name (store_of ss).committed
unfolding store_of
committed_dropped name ss at e = ap (map committed_on) (removed (is_named name) ss at (placed name ss at e)) ∙ sym (left_mapped committed_on (has_name name) ss)

pub committed_cleared : (name : List ℕ) (ss : List Shelf) (at : ℕ) (s new : Shelf) → s ≡ get_or ss at s → same_name s new → new.sheet.committed ≡ [] → place_of name (store_of ss).tables ≡ Some at
    → (store_of (slice_set ss at new)).committed ≡ tables_cleared name (store_of ss).committed
unfolding store_of
committed_cleared name ss at s new is same none e =
    ap (map committed_on) (set_at name ss at new e)
    ∙ sym (change_mapped committed_on (has_name name) (λ table. record table { rows = [] }) (λ s. new) ss s (shelf_at name ss at s e is)
    (ap (λ (d : TableDef). record { definition = d; rows = [] }) (sym same) ∙ ap (λ (cs : List Slot). record { definition = new.sheet.definition; rows = rows_in cs }) (sym none)))

-- where there is no table of a name, none has it whose rows are there to stay
pub none_committed : (name : List ℕ) (ss : List Shelf) → place_of name (store_of ss).tables ≡ None → place_of name (store_of ss).committed ≡ None
unfolding store_of
none_committed name ss e = place_mapped committed_on (has_name name) ss ∙ sym (place_mapped table_on (has_name name) ss) ∙ e

-- ---- read where they stand

pub committed_here : (name : List ℕ) (ss : List Shelf) (at : ℕ) (s : Shelf) → s ≡ get_or ss at s → place_of name (store_of ss).tables ≡ Some at → rows_in s.sheet.committed ≡ rows_of name (store_of ss).committed
unfolding store_of
committed_here name ss at s is e =
    sym (ap (λ (o : Option Table). option_map_or (λ (t : Table). t.rows) o []) (find_mapped committed_on (has_name name) ss ∙ ap (option_map committed_on) (shelf_at name ss at s e is)))

-- ---- made of those that are shown

-- what is shown on a sheet is there to stay
abbrev pub IsTidied : Shelf → Shelf → Type 0
IsTidied old new = same_name old new × (rows_on new.sheet ≡ rows_on old.sheet) × (rows_in new.sheet.committed ≡ rows_on old.sheet)

tidied_table : (old new : Shelf) → IsTidied old new → table_on new ≡ table_on old
tidied_table old new t =
    ap (λ (d : TableDef). record { definition = d; rows = rows_on new.sheet }) t.0 ∙ ap (λ (rows : List (List Value)). record { definition = old.sheet.definition; rows = rows }) t.1

tidied_committed : (old new : Shelf) → IsTidied old new → committed_on new ≡ table_on old
tidied_committed old new t =
    ap (λ (d : TableDef). record { definition = d; rows = rows_in new.sheet.committed }) t.0 ∙ ap (λ (rows : List (List Value)). record { definition = old.sheet.definition; rows = rows }) t.2

-- where all sheets are tidied
pub tidied_tables : (before : Store) (k : ℕ) (now : List Shelf) → length now ≤ k → GoesOn IsTidied before k now → (store_of now).tables ≡ before.tables
unfolding store_of
tidied_tables before k now past h =
    let long : length now ≡ length h.olds = upto_length IsTidied k h.olds now h.set in
    upto_map IsTidied table_on table_on tidied_table k h.olds now (omega arith) h.set ∙ ap (λ (store : Store). store.tables) h.is

pub tidied_rows : (before : Store) (k : ℕ) (now : List Shelf) → length now ≤ k → GoesOn IsTidied before k now → (store_of now).committed ≡ (store_of now).tables
unfolding store_of
tidied_rows before k now past h =
    let long : length now ≡ length h.olds = upto_length IsTidied k h.olds now h.set in
    let all : length h.olds ≤ k = omega arith in
    upto_map IsTidied committed_on table_on tidied_committed k h.olds now all h.set ∙ sym (upto_map IsTidied table_on table_on tidied_table k h.olds now all h.set)

pub tidied_names : (before : Store) (k : ℕ) (now : List Shelf) → length now ≤ k → GoesOn IsTidied before k now → names_differ (definitions_on now) ≡ true
tidied_names before k now past h =
    let long : length now ≡ length h.olds = upto_length IsTidied k h.olds now h.set in
    ap names_differ (upto_map IsTidied (λ (s : Shelf). s.sheet.definition) (λ (s : Shelf). s.sheet.definition) (λ old new t. t.0) k h.olds now (omega arith) h.set) ∙ h.names
