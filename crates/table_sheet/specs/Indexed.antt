-- The indexes of unique keys beside the committed rows and beside the entries of a transaction.
use Rattle.std.specs.Prelude.{◌≡◌, ℕ, ◌≤◌, List, length, Option, Some, None}
use Rattle.val_types.specs.declared.value.Value.{Value}
use Rattle.val_types.specs.declared.definitions.KeyDef.{KeyDef}
use Rattle.val_types.specs.declared.definitions.TableDef.{TableDef}
use Rattle.row_index.specs.block_list.Layouts.{Layout, flat}
use Rattle.row_index.specs.row_sheets.Slots.{Slot, rows_in}
use Rattle.row_index.specs.row_sheets.Claims.{AreApart}
use Rattle.row_index.specs.Numbers.{IsPut, IsTaken}
use Rattle.row_index.specs.Lists.{list_at, AllHold, AreIndexes, OfEach}
use Rattle.table_sheet.specs.declared.committed.Committed.{Committed}
use Rattle.table_sheet.specs.declared.overlay.Overlay.{Overlay}
use Rattle.table_sheet.specs.Numbered.{row_of}
use Rattle.table_sheet.specs.Ranked.{shown_by}
use Rattle.table_sheet.specs.Pages.{Page, Holds}
use Rattle.table_sheet.specs.Parts.{committed_slots, entry_slots}

-- no two rows of some slots agree on a unique key
abbrev pub AreAllApart : List KeyDef → List Slot → Type 0
AreAllApart uniques slots = OfEach uniques (λ which key. AreApart key slots)

-- the lists of all unique keys are indexes of some rows, and hold so many numbers
pub record AreKept (uniques : List KeyDef) (row_at : ℕ → Option (List Value)) (lists : List Layout) (rows : List (List Value)) (count : ℕ) : Type 0 where
  pub indexes : AreIndexes uniques row_at lists rows
  pub hold : AllHold uniques lists count

-- those of entries index the rows that they show, and hold a number for each
abbrev pub IsAbove : TableDef → Overlay → Type 0
IsAbove definition overlay =
    AreKept definition.uniques (shown_by overlay.entries.items) overlay.indexes.items (rows_in (entry_slots definition overlay)) (length (flat overlay.ranks.blocks))

-- those of committed rows index rows, and hold so many numbers as there is room for, at least one for each committed row
pub record IsBelow (definition : TableDef) (committed : Committed) (rows : List (List Value)) : Type 0 where
  pub kept : AreKept definition.uniques (row_of committed.rows.rows) committed.indexes.items rows committed.hold
  pub fits : length (flat committed.order.blocks) ≤ committed.hold

-- both are those of what a sheet has
pub record IsIndexed (definition : TableDef) (committed : Committed) (overlay : Overlay) : Type 0 where
  pub below : IsBelow definition committed (rows_in (committed_slots definition committed))
  pub above : IsAbove definition overlay

-- an overlay fits a page: its entries, over the committed rows, make one, and its indexes are theirs
pub record Fits (overlay : Overlay) (page : Page) : Type 0 where
  pub holds : Holds page.definition page.committed (entry_slots page.definition overlay) page.room overlay.fresh
  pub above : IsAbove page.definition overlay

-- what a list comes to where the number of a row, if there is one, is taken out, and where it is put
abbrev pub IsLeft : KeyDef → (ℕ → Option (List Value)) → Option (List Value) → Layout → Layout → Type 0
IsLeft key row_at None old new = new ≡ old
IsLeft key row_at (Some row) old new = IsTaken key row_at row old new

abbrev pub IsEntered : KeyDef → (ℕ → Option (List Value)) → Option (List Value) → Layout → Layout → Type 0
IsEntered key row_at None old new = new ≡ old
IsEntered key row_at (Some row) old new = IsPut key row_at row old new

-- the same of all lists
abbrev pub AreLeft : List KeyDef → (ℕ → Option (List Value)) → Option (List Value) → List Layout → List Layout → Type 0
AreLeft uniques row_at row old new = OfEach uniques (λ which key. IsLeft key row_at row (list_at old which) (list_at new which))

abbrev pub AreEntered : List KeyDef → (ℕ → Option (List Value)) → Option (List Value) → List Layout → List Layout → Type 0
AreEntered uniques row_at row old new = OfEach uniques (λ which key. IsEntered key row_at row (list_at old which) (list_at new which))
