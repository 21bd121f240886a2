use Rattle.std.proofs.Common.{◌≡◌, ◌-◌, take, length}
use Rattle.row_index.specs.block_list.Layouts.{flat}
use Rattle.row_index.specs.block_list.Spots.{place, IsSpot}
use Rattle.row_index.specs.row_sheets.Slots.{rows_in}
use Rattle.row_index.specs.row_sheets.Over.{over}
use Rattle.table_sheet.specs.Numbered.{row_of}
use Rattle.table_sheet.specs.Parts.{committed_slots, entry_slots}
use Rattle.table_sheet.specs.Settling.{hiding}
use Rattle.table_sheet.specs.Indexed.{AreKept}
use Rattle.table_sheet.proofs.settling.hide_all.Given as goal

-- the rows of all entries so far are hidden, and nothing else is changed
abbrev pub invariant-loop-at : goal.invariant-loop-at
invariant-loop-at l = record {
  spot : IsSpot l.overlay.ranks.blocks l.at;
  rows : l.committed.rows ≡ l.initial.committed.rows;
  order : l.committed.order ≡ l.initial.committed.order;
  hold : l.committed.hold ≡ l.initial.committed.hold;
  kept : AreKept l.definition.uniques (row_of l.initial.committed.rows.rows) l.committed.indexes.items (rows_in (over (hiding (take (place l.overlay.ranks.blocks l.at) (entry_slots l.definition l.overlay))) (committed_slots l.definition l.initial.committed))) l.initial.committed.hold;
}

abbrev pub decreases-loop-at : goal.decreases-loop-at
decreases-loop-at l = length (flat l.overlay.ranks.blocks) - place l.overlay.ranks.blocks l.at
