-- The two parts of a sheet as slots.
use Rattle.std.specs.Prelude.{ℕ, ◌-◌, min, List, length}
use Rattle.val_types.specs.declared.definitions.TableDef.{TableDef}
use Rattle.row_index.specs.block_list.Layouts.{flat, room}
use Rattle.row_index.specs.row_sheets.Slots.{Slot}
use Rattle.row_index.specs.row_sheets.Orders.{slots_of}
use Rattle.table_sheet.specs.declared.committed.Committed.{Committed}
use Rattle.table_sheet.specs.declared.overlay.Overlay.{Overlay}
use Rattle.table_sheet.specs.Numbered.{row_slot}
use Rattle.table_sheet.specs.Ranked.{entry_slot}
use Rattle.table_sheet.specs.Pages.{Page}

-- the slots of committed rows
abbrev pub committed_slots : TableDef → Committed → List Slot
committed_slots definition committed = slots_of (row_slot definition committed.rows.rows) (flat committed.order.blocks)

-- the slots of entries
abbrev pub entry_slots : TableDef → Overlay → List Slot
entry_slots definition overlay = slots_of (entry_slot definition overlay.entries.items) (flat overlay.ranks.blocks)

-- for how many new rows there is room, also in the indexes of unique keys
abbrev pub room_of : Committed → ℕ
room_of committed = min (min committed.rows.room (room committed.order)) (committed.hold - length (flat committed.order.blocks))

-- what a sheet of these parts is to those who call it
abbrev pub page_of : TableDef → Committed → Overlay → Page
page_of definition committed overlay = record {
  definition = definition;
  committed = committed_slots definition committed;
  entries = entry_slots definition overlay;
  room = room_of committed;
}
