-- A walk over entries and committed rows, side by side in the order of keys.
use Rattle.std.specs.Prelude.{◌≡◌, ◌+◌, ◌<◌, ℕ, List, ◌∷◌, ◌++◌, length, take, drop, Option, option_to_list}
use Rattle.val_types.specs.declared.value.Value.{Value}
use Rattle.val_types.specs.declared.definitions.TableDef.{TableDef}
use Rattle.row_index.specs.block_list.Spots.{place, IsSpot}
use Rattle.row_index.specs.row_sheets.Slots.{Slot, rows_in}
use Rattle.row_index.specs.row_sheets.Over.{over}
use Rattle.table_sheet.specs.declared.committed.Committed.{Committed}
use Rattle.table_sheet.specs.declared.overlay.Overlay.{Overlay}
use Rattle.table_sheet.specs.declared.place.Place.{Place}
use Rattle.table_sheet.specs.Parts.{committed_slots, entry_slots}

-- a place stands before an entry or behind the last one, and so before a committed row
abbrev pub IsPlace : Committed → Overlay → Place → Type 0
IsPlace committed overlay at = IsSpot overlay.ranks.blocks at.entry × IsSpot committed.order.blocks at.row

-- the slots that are left from a place on
unfoldable pub left : TableDef → Committed → Overlay → Place → List Slot
left definition committed overlay at =
    over (drop (place overlay.ranks.blocks at.entry) (entry_slots definition overlay)) (drop (place committed.order.blocks at.row) (committed_slots definition committed))

-- the slots that stand before a place
unfoldable pub passed : TableDef → Committed → Overlay → Place → List Slot
passed definition committed overlay at =
    over (take (place overlay.ranks.blocks at.entry) (entry_slots definition overlay)) (take (place committed.order.blocks at.row) (committed_slots definition committed))

-- how many entries and committed rows stand before a place
abbrev pub depth : Committed → Overlay → Place → ℕ
depth committed overlay at = place overlay.ranks.blocks at.entry + place committed.order.blocks at.row

-- a slot with a row or none, and the slots behind it
pub record AreNext (row : Option (List Value)) (old new : List Slot) : Type 0 where
  pub rows : rows_in old ≡ option_to_list row ++ rows_in new
  pub fewer : length new < length old

-- a row that is shown, and the slots behind it
pub record IsFirst (row : List Value) (old new : List Slot) : Type 0 where
  pub rows : rows_in old ≡ row ∷ rows_in new
  pub fewer : length new < length old
