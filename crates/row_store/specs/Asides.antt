-- What was set aside of all tables: of each table its entries, over the rows that are there to stay.
use Rattle.std.specs.Prelude.{◌≡◌, ℕ, List, [], ◌∷◌, map}
use Rattle.val_types.specs.declared.value.Value.{Value}
use Rattle.table_rules.specs.Tables.{Table}
use Rattle.table_rules.specs.Stores.{Store, Still}
use Rattle.table_sheet.specs.row_sheets.Slots.{Slot, keys_in, rows_in, row_slots}
use Rattle.table_sheet.specs.row_sheets.Over.{over}
use Rattle.table_sheet.specs.declared.overlay.Overlay.{Overlay}
use Rattle.table_sheet.specs.Pages.{Page}
use Rattle.table_sheet.specs.Indexed.{Fits}
use Rattle.table_sheet.specs.Parts.{entry_slots}
use Rattle.row_store.specs.declared.setting_aside.Aside.{Aside}

-- the page of a table of which nothing but the rows that are there to stay is shown
abbrev pub page_under : Table → ℕ → Page
page_under table room =
    record { definition = table.definition; committed = row_slots table.definition table.rows; entries = []; room = room }

-- a table with entries over its rows
abbrev pub table_over : List Slot → Table → Table
table_over entries table = record table { rows = rows_in (over entries (row_slots table.definition table.rows)) }

-- of each table, in their order, there are entries that fit its rows and its room
abbrev pub AreFitting : List Overlay → List Table → List ℕ → Type 0
AreFitting [] [] rooms = Unit {0}
AreFitting [] (table ∷ tables) rooms = ⊥
AreFitting (overlay ∷ overlays) [] rooms = ⊥
AreFitting (overlay ∷ overlays) (table ∷ tables) [] = ⊥
AreFitting (overlay ∷ overlays) (table ∷ tables) (room ∷ rooms) =
    Fits overlay (page_under table room) × AreFitting overlays tables rooms

-- the tables with entries over their rows
abbrev pub tables_over : List Overlay → List Table → List Table
tables_over [] tables = []
tables_over (overlay ∷ overlays) [] = []
tables_over (overlay ∷ overlays) (table ∷ tables) =
    table_over (entry_slots table.definition overlay) table ∷ tables_over overlays tables

-- the keys of these entries
abbrev pub keys_over : List Overlay → List Table → List (List (List Value))
keys_over [] tables = []
keys_over (overlay ∷ overlays) [] = []
keys_over (overlay ∷ overlays) (table ∷ tables) =
    keys_in (entry_slots table.definition overlay) ∷ keys_over overlays tables

-- what was set aside can be put back into what is stored
unfoldable pub FitsIn : Aside → Store → Type 0
FitsIn aside store = AreFitting aside.overlays.items store.committed store.room

-- what is stored with what was set aside shown again, in place of what is shown
unfoldable pub with_aside : Aside → Store → Store
with_aside aside store =
    record store { tables = tables_over aside.overlays.items store.committed; kept = keys_over aside.overlays.items store.committed }

-- what is stored with nothing shown but the rows that are there to stay
abbrev pub just_committed : Store → Store
just_committed store = record store { tables = store.committed; kept = map (λ table. []) store.committed }

-- all that is shown, and all keys that are kept, were set aside
pub record IsAside (aside : Aside) (store : Store) : Type 0 where
  pub fits : FitsIn aside store
  pub is : with_aside aside store ≡ store

-- ---- laws

-- what was set aside can be put back where the same rows are there to stay and no table has less room, and what was shown then is
-- shown again
abbrev pub AsidesReturn : Type 0
AsidesReturn =
    (aside : Aside) (before now : Store) → IsAside aside before → Still before now
    → FitsIn aside now × (with_aside aside now ≡ record before { room = now.room })
