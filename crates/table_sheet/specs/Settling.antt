-- Entries settled, the first one first: what holds in between, and what one step makes of the slots.
use Rattle.std.specs.Prelude.{◌≡◌, ℕ, ◌+◌, ◌^◌, ◌<◌, ◌≤◌, true, List, ◌∷◌, map, length, Option, None, is_none, if◌then◌else◌}
use Rattle.std.specs.List.{list_all}
use Rattle.val_types.specs.declared.value.Value.{Value}
use Rattle.val_types.specs.declared.definitions.TableDef.{TableDef}
use Rattle.row_index.specs.block_list.Layouts.{flat}
use Rattle.row_index.specs.row_sheets.Slots.{Slot, held, keys_in, keys_rise, rows_in, has_own_key}
use Rattle.row_index.specs.row_sheets.Over.{over}
use Rattle.row_index.specs.row_sheets.Orders.{NumbersRise}
use Rattle.table_sheet.specs.declared.committed.Committed.{Committed}
use Rattle.table_sheet.specs.declared.overlay.Overlay.{Overlay}
use Rattle.table_sheet.specs.Ranked.{entry_slot}
use Rattle.table_sheet.specs.Pages.{news}
use Rattle.table_sheet.specs.Parts.{committed_slots, entry_slots, room_of}
use Rattle.table_sheet.specs.Indexed.{AreAllApart, IsBelow}

-- how many numbers an entry of a key may take: one where no committed row has the key
abbrev pub taken_by : List Value → List Slot → ℕ
taken_by key committed = if is_none (held key committed) then 1 else 0

-- What holds of slots while entries are settled: both rise by key and each has a row of its own key, and there is room and there
-- are numbers for all that is new. Committed rows may agree on a unique key until all are settled.
pub record Settles (definition : TableDef) (committed entries : List Slot) (space : ℕ) : Type 0 where
  pub below : keys_rise (keys_in committed) ≡ true
  pub own_below : list_all (has_own_key definition) committed ≡ true
  pub rising : keys_rise (keys_in entries) ≡ true
  pub own : list_all (has_own_key definition) entries ≡ true
  pub enough : news committed entries ≤ space
  pub few : length committed + news committed entries ≤ 2 ^ 32

-- the same of the two parts of a sheet
abbrev pub SettlesParts : TableDef → Committed → Overlay → Type 0
SettlesParts definition committed overlay = Settles definition (committed_slots definition committed) (entry_slots definition overlay) (room_of committed)

-- slots of the same keys without rows
abbrev pub hiding : List Slot → List Slot
hiding slots = map (λ slot. record { key = slot.key; row = None }) slots

-- What holds of the indexes of committed rows while entries are settled: they have the rows of which there is no entry. What is shown
-- has no two rows that agree on a unique key.
pub record HidesEntries (definition : TableDef) (committed : Committed) (overlay : Overlay) : Type 0 where
  pub below : IsBelow definition committed (rows_in (over (hiding (entry_slots definition overlay)) (committed_slots definition committed)))
  pub apart : AreAllApart definition.uniques (over (entry_slots definition overlay) (committed_slots definition committed))

-- an entry taken out before all others, with its row: it is there still by its number, and its slot stood first
pub record IsTakenFirst (old new : Overlay) (number : ℕ) (row : Option (List Value)) : Type 0 where
  pub there : number < length new.entries.items
  pub slots : (definition : TableDef) → NumbersRise (entry_slot definition old.entries.items) (flat old.ranks.blocks)
      → entry_slots definition old ≡ record { key = (entry_slot definition new.entries.items number).key; row = row } ∷ entry_slots definition new
