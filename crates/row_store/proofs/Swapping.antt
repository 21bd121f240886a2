-- The shelf of a table among others, and what a change on it makes of the tables.
use Rattle.std.proofs.Common.{◌≡◌, ℕ, List, [], ◌∷◌, map, Bool, true, false, cond, Option, Some, None, refl, sym, ap, ◌∙◌}
use Rattle.std.specs.Prelude.{nat_eq, find, position}
use Rattle.std.specs.List.{remove}
use Rattle.std.specs.Option.{option_map}
use Rattle.std.specs.Cmp.Lexicographic.{pointwise}
use Rattle.val_types.specs.declared.value.Value.{Value}
use Rattle.val_types.specs.declared.definitions.TableDef.{TableDef}
use Rattle.val_types.specs.declared.change.Change.{Change}
use Rattle.val_types.specs.Keys.{primary_key}
use Rattle.val_types.specs.Lookup.{change_first}
use Rattle.val_types.proofs.Lookup.{removed, all_left, unchanged, place_mapped, find_mapped, left_mapped, change_mapped}
use Rattle.table_rules.specs.Tables.{Table}
use Rattle.table_rules.specs.Changes.{table_after, applied, AreKept}
use Rattle.val_types.specs.Changes.{table_of}
use Rattle.table_rules.specs.Stored.{has_name, table_named, tables_beside, tables_cleared}
use Rattle.table_rules.proofs.Taking.{Kept, is_kept}
use Rattle.table_rules.specs.Stores.{definitions_of, is_among}
use Rattle.table_sheet.specs.row_sheets.Slots.{keys_in, rows_in}
use Rattle.table_sheet.specs.Pages.{rows_on, has_entry, KeepsEntries}
use Rattle.row_store.specs.declared.shelf.Shelf.{Shelf}
use Rattle.row_store.specs.Shelves.{table_on, tables_on, committed_on, is_named, has_entry_for}
use Rattle.row_store.proofs.Keeping.{kept_by}

-- the shelf of a table
abbrev pub shelf_named : List ℕ → List Shelf → Option Shelf
shelf_named name ss = find (is_named name) ss

-- the shelves, another one in the place of that of a table
abbrev pub swap : List ℕ → Shelf → List Shelf → List Shelf
swap name new ss = change_first (is_named name) (λ s. new) ss

-- whether the first shelf of a name has an entry for a row
abbrev pub kept_on : List ℕ → List Value → List Shelf → Bool
kept_on name row [] = false
kept_on name row (shelf ∷ shelves) = cond (is_named name shelf) (has_entry_for row shelf) (kept_on name row shelves)

-- ---- tables

pub table_of_shelf : (name : List ℕ) (ss : List Shelf) → table_named name (tables_on ss) ≡ option_map table_on (shelf_named name ss)
table_of_shelf name ss = find_mapped table_on (has_name name) ss

applied_step : (here : Bool) (change : Change) (s old new : Shelf) (ss : List Shelf) (more : List Shelf)
    → table_after change (table_on old) ≡ Some (table_on new)
    → (shelf_named (table_of change) ss ≡ Some old → applied change (tables_on ss) ≡ Some (tables_on more))
    → cond here (Some s) (shelf_named (table_of change) ss) ≡ Some old
    → cond here (option_map (λ (changed : Table). changed ∷ tables_on ss) (table_after change (table_on s))) (option_map (λ (rest : List Table). table_on s ∷ rest) (applied change (tables_on ss)))
    ≡ Some (tables_on (cond here (new ∷ ss) (s ∷ more)))
applied_step true change s old new ss more made later found =
    let same : s ≡ old = cc in
    ap (λ (u : Shelf). option_map (λ (changed : Table). changed ∷ tables_on ss) (table_after change (table_on u))) same
    ∙ ap (option_map (λ (changed : Table). changed ∷ tables_on ss)) made
applied_step false change s old new ss more made later found = ap (option_map (λ (rest : List Table). table_on s ∷ rest)) (later found)

-- a change made to the table on a shelf is made to the tables
pub applied_swap : (change : Change) (old new : Shelf) (ss : List Shelf) → shelf_named (table_of change) ss ≡ Some old → table_after change (table_on old) ≡ Some (table_on new)
    → applied change (tables_on ss) ≡ Some (tables_on (swap (table_of change) new ss))
applied_swap change old new [] found made = cc
applied_swap change old new (s ∷ ss) found made =
    applied_step (is_named (table_of change) s) change s old new ss (swap (table_of change) new ss) made (λ e. applied_swap change old new ss e made) found

same_step : (here : Bool) (s old new : Shelf) (ss more : List Shelf) (o : Option Shelf) → table_on new ≡ table_on old → (o ≡ Some old → tables_on more ≡ tables_on ss)
    → cond here (Some s) o ≡ Some old → tables_on (cond here (new ∷ ss) (s ∷ more)) ≡ table_on s ∷ tables_on ss
same_step true s old new ss more o same later found =
    let first : s ≡ old = cc in ap (λ (t : Table). t ∷ tables_on ss) (same ∙ ap table_on (sym first))
same_step false s old new ss more o same later found = ap (λ (ts : List Table). table_on s ∷ ts) (later found)

-- where the table on a shelf stays, the tables do
pub same_swap : (name : List ℕ) (old new : Shelf) (ss : List Shelf) → shelf_named name ss ≡ Some old → table_on new ≡ table_on old → tables_on (swap name new ss) ≡ tables_on ss
same_swap name old new [] found same = cc
same_swap name old new (s ∷ ss) found same = same_step (is_named name s) s old new ss (swap name new ss) (shelf_named name ss) same (λ e. same_swap name old new ss e same) found

-- ---- keys that are kept

abbrev pub same_name : Shelf → Shelf → Type 0
same_name old new = new.sheet.definition ≡ old.sheet.definition

pub named_same : (name : List ℕ) (old new : Shelf) → same_name old new → is_named name new ≡ is_named name old
named_same name old new e = ap (λ (d : TableDef). pointwise nat_eq name d.name) e

-- each row that had an entry has one still
abbrev pub KeepsRows : Shelf → Shelf → Type 0
KeepsRows old new = (row : List Value) → has_entry_for row old ≡ true → has_entry_for row new ≡ true

pub keeps_rows : (old new : Shelf) → same_name old new → KeepsEntries old.sheet new.sheet → KeepsRows old new
keeps_rows old new same keeps row h =
    ap (λ (d : TableDef). has_entry (primary_key d row) new.sheet) same ∙ keeps (primary_key old.sheet.definition row) h

pub same_rows : (old new : Shelf) (row : List Value) → same_name old new → keys_in new.sheet.entries ≡ keys_in old.sheet.entries → has_entry_for row new ≡ has_entry_for row old
same_rows old new row same keys =
    ap (λ (d : TableDef). has_entry (primary_key d row) new.sheet) same ∙ ap (is_among (primary_key old.sheet.definition row)) keys

-- what is kept under a name that the shelf has
pub first_kept : (other : List ℕ) (row : List Value) (s : Shelf) (ss : List Shelf) → is_named other s ≡ true → kept_on other row (s ∷ ss) ≡ has_entry_for row s
first_kept other row s ss e = rw e refl

pub later_kept : (other : List ℕ) (row : List Value) (s : Shelf) (ss : List Shelf) → is_named other s ≡ false → kept_on other row (s ∷ ss) ≡ kept_on other row ss
later_kept other row s ss e = rw e refl

more_step : (here there : Bool) (name other : List ℕ) (row : List Value) (s old new : Shelf) (ss : List Shelf) → is_named name s ≡ here → is_named other s ≡ there
    → same_name old new → KeepsRows old new
    → (shelf_named name ss ≡ Some old → kept_on other row ss ≡ true → kept_on other row (swap name new ss) ≡ true)
    → cond here (Some s) (shelf_named name ss) ≡ Some old → kept_on other row (s ∷ ss) ≡ true → kept_on other row (cond here (new ∷ ss) (s ∷ swap name new ss)) ≡ true
more_step true true name other row s old new ss e f same keeps later found kept =
    let first : s ≡ old = cc in
    let named : is_named other new ≡ true = named_same other old new same ∙ ap (is_named other) (sym first) ∙ f in
    first_kept other row new ss named ∙ keeps row (ap (has_entry_for row) (sym first) ∙ sym (first_kept other row s ss f) ∙ kept)
more_step true false name other row s old new ss e f same keeps later found kept =
    let first : s ≡ old = cc in
    let named : is_named other new ≡ false = named_same other old new same ∙ ap (is_named other) (sym first) ∙ f in
    later_kept other row new ss named ∙ sym (later_kept other row s ss f) ∙ kept
more_step false true name other row s old new ss e f same keeps later found kept =
    first_kept other row s (swap name new ss) f ∙ sym (first_kept other row s ss f) ∙ kept
more_step false false name other row s old new ss e f same keeps later found kept =
    later_kept other row s (swap name new ss) f ∙ later found (sym (later_kept other row s ss f) ∙ kept)

-- keys stay kept where the new shelf keeps those of the old one
pub keeps_swap : (name other : List ℕ) (row : List Value) (old new : Shelf) (ss : List Shelf) → shelf_named name ss ≡ Some old → same_name old new → KeepsRows old new
    → kept_on other row ss ≡ true → kept_on other row (swap name new ss) ≡ true
keeps_swap name other row old new [] found same keeps kept = cc
keeps_swap name other row old new (s ∷ ss) found same keeps kept =
    more_step (is_named name s) (is_named other s) name other row s old new ss refl refl same keeps (λ e k. keeps_swap name other row old new ss e same keeps k) found kept

equal_step : (here there : Bool) (name other : List ℕ) (row : List Value) (s old new : Shelf) (ss : List Shelf) → is_named name s ≡ here → is_named other s ≡ there
    → same_name old new → has_entry_for row new ≡ has_entry_for row old
    → (shelf_named name ss ≡ Some old → kept_on other row (swap name new ss) ≡ kept_on other row ss)
    → cond here (Some s) (shelf_named name ss) ≡ Some old → kept_on other row (cond here (new ∷ ss) (s ∷ swap name new ss)) ≡ kept_on other row (s ∷ ss)
equal_step true true name other row s old new ss e f same equal later found =
    let first : s ≡ old = cc in
    let named : is_named other new ≡ true = named_same other old new same ∙ ap (is_named other) (sym first) ∙ f in
    first_kept other row new ss named ∙ equal ∙ ap (has_entry_for row) (sym first) ∙ sym (first_kept other row s ss f)
equal_step true false name other row s old new ss e f same equal later found =
    let first : s ≡ old = cc in
    let named : is_named other new ≡ false = named_same other old new same ∙ ap (is_named other) (sym first) ∙ f in
    later_kept other row new ss named ∙ sym (later_kept other row s ss f)
equal_step false true name other row s old new ss e f same equal later found =
    first_kept other row s (swap name new ss) f ∙ sym (first_kept other row s ss f)
equal_step false false name other row s old new ss e f same equal later found =
    later_kept other row s (swap name new ss) f ∙ later found ∙ sym (later_kept other row s ss f)

-- a row is kept as before where the new shelf has its entry just where the old one has
pub equal_swap : (name other : List ℕ) (row : List Value) (old new : Shelf) (ss : List Shelf) → shelf_named name ss ≡ Some old → same_name old new → has_entry_for row new ≡ has_entry_for row old
    → kept_on other row (swap name new ss) ≡ kept_on other row ss
equal_swap name other row old new [] found same equal = cc
equal_swap name other row old new (s ∷ ss) found same equal =
    equal_step (is_named name s) (is_named other s) name other row s old new ss refl refl same equal (λ e. equal_swap name other row old new ss e same equal) found

here_step : (here : Bool) (name : List ℕ) (row : List Value) (s old new : Shelf) (ss : List Shelf) → is_named name s ≡ here → same_name old new
    → (shelf_named name ss ≡ Some old → kept_on name row (swap name new ss) ≡ has_entry_for row new)
    → cond here (Some s) (shelf_named name ss) ≡ Some old → kept_on name row (cond here (new ∷ ss) (s ∷ swap name new ss)) ≡ has_entry_for row new
here_step true name row s old new ss e same later found =
    let first : s ≡ old = cc in
    let named : is_named name new ≡ true = named_same name old new same ∙ ap (is_named name) (sym first) ∙ e in
    first_kept name row new ss named
here_step false name row s old new ss e same later found = later_kept name row s (swap name new ss) e ∙ later found

-- the keys kept for a table are those of its new shelf
pub keeps_here : (name : List ℕ) (row : List Value) (old new : Shelf) (ss : List Shelf) → shelf_named name ss ≡ Some old → same_name old new → kept_on name row (swap name new ss) ≡ has_entry_for row new
keeps_here name row old new [] found same = cc
keeps_here name row old new (s ∷ ss) found same = here_step (is_named name s) name row s old new ss refl same (λ e. keeps_here name row old new ss e same) found

found_step : (here : Bool) (name : List ℕ) (row : List Value) (s old : Shelf) (ss : List Shelf) → is_named name s ≡ here → (shelf_named name ss ≡ Some old → kept_on name row ss ≡ has_entry_for row old)
    → cond here (Some s) (shelf_named name ss) ≡ Some old → kept_on name row (s ∷ ss) ≡ has_entry_for row old
found_step true name row s old ss e later found = let first : s ≡ old = cc in first_kept name row s ss e ∙ ap (has_entry_for row) first
found_step false name row s old ss e later found = later_kept name row s ss e ∙ later found

pub kept_found : (name : List ℕ) (row : List Value) (old : Shelf) (ss : List Shelf) → shelf_named name ss ≡ Some old → kept_on name row ss ≡ has_entry_for row old
kept_found name row old [] found = cc
kept_found name row old (s ∷ ss) found = found_step (is_named name s) name row s old ss refl (kept_found name row old ss) found

swapped_step : (here : Bool) (name : List ℕ) (s old new : Shelf) (ss : List Shelf) → is_named name s ≡ here → same_name old new
    → (shelf_named name ss ≡ Some old → shelf_named name (swap name new ss) ≡ Some new)
    → cond here (Some s) (shelf_named name ss) ≡ Some old → shelf_named name (cond here (new ∷ ss) (s ∷ swap name new ss)) ≡ Some new
swapped_step true name s old new ss e same later found =
    let first : s ≡ old = cc in
    let named : is_named name new ≡ true = named_same name old new same ∙ ap (is_named name) (sym first) ∙ e in rw named refl
swapped_step false name s old new ss e same later found = rw e (later found)

pub named_swap : (name : List ℕ) (old new : Shelf) (ss : List Shelf) → shelf_named name ss ≡ Some old → same_name old new → shelf_named name (swap name new ss) ≡ Some new
named_swap name old new [] found same = cc
named_swap name old new (s ∷ ss) found same = swapped_step (is_named name s) name s old new ss refl same (λ e. named_swap name old new ss e same) found

-- ---- whole tables

-- the shelf of a table taken out
pub dropped : (name : List ℕ) (ss : List Shelf) (at : ℕ) → position (is_named name) ss ≡ Some at → tables_on (remove ss at) ≡ tables_beside name (tables_on ss)
dropped name ss at e = ap tables_on (removed (is_named name) ss at e) ∙ sym (left_mapped table_on (has_name name) ss)

-- an empty shelf in the place of that of a table clears it
pub cleared_swap : (name : List ℕ) (old new : Shelf) (ss : List Shelf) → shelf_named name ss ≡ Some old → same_name old new → rows_on new.sheet ≡ [] → tables_on (swap name new ss) ≡ tables_cleared name (tables_on ss)
cleared_swap name old new ss found same none =
    sym (change_mapped table_on (has_name name) (λ table. record table { rows = [] }) (λ s. new) ss old found
    (ap (λ (d : TableDef). record { definition = d; rows = [] }) (sym same) ∙ ap (λ (rows : List (List Value)). record { definition = new.sheet.definition; rows = rows }) (sym none)))

-- where there is no table of a name, nothing is dropped or cleared
pub none_dropped : (name : List ℕ) (ss : List Shelf) → position (is_named name) ss ≡ None → tables_on ss ≡ tables_beside name (tables_on ss)
none_dropped name ss e = sym (all_left (has_name name) (tables_on ss) (place_mapped table_on (has_name name) ss ∙ e))

pub none_cleared : (name : List ℕ) (ss : List Shelf) → position (is_named name) ss ≡ None → tables_on ss ≡ tables_cleared name (tables_on ss)
none_cleared name ss e = sym (unchanged (has_name name) (λ table. record table { rows = [] }) (tables_on ss) (place_mapped table_on (has_name name) ss ∙ e))

-- ---- what holds of all that is stored

-- the rows on a shelf fit, rise and are apart
pub kept_rows : (s : Shelf) → Kept s.sheet.definition (rows_on s.sheet)
kept_rows s = kept_by s.sheet.definition (rows_on s.sheet) s.rows.shown

pub shelves_kept : (ss : List Shelf) → AreKept (tables_on ss)
shelves_kept [] = tt
shelves_kept (s ∷ ss) = (is_kept s.sheet.definition (rows_on s.sheet) (kept_rows s), shelves_kept ss)

-- and so do the rows that are there to stay, in tables of the same definitions
pub committed_kept : (ss : List Shelf) → AreKept (map committed_on ss)
committed_kept [] = tt
committed_kept (s ∷ ss) = (is_kept s.sheet.definition (rows_in s.sheet.committed) (kept_by s.sheet.definition (rows_in s.sheet.committed) s.rows.committed), committed_kept ss)

pub same_definitions : (ss : List Shelf) → definitions_of (map committed_on ss) ≡ definitions_of (tables_on ss)
same_definitions [] = refl
same_definitions (s ∷ ss) = ap (λ (ds : List TableDef). s.sheet.definition ∷ ds) (same_definitions ss)
