use Rattle.std.proofs.Common.{◌≡◌, length}
use Rattle.row_index.specs.row_sheets.Slots.{rows_in}
use Rattle.row_index.specs.row_sheets.Over.{over}
use Rattle.table_sheet.specs.Parts.{committed_slots, entry_slots}
use Rattle.table_sheet.specs.Settling.{HidesEntries, SettlesParts}
use Rattle.table_sheet.proofs.settling.settle_all.Given as goal

-- what is shown stays
abbrev pub invariant-loop : goal.invariant-loop
invariant-loop l = record {
  settles : SettlesParts l.definition l.committed l.overlay;
  hides : HidesEntries l.definition l.committed l.overlay;
  rows : rows_in (over (entry_slots l.definition l.overlay) (committed_slots l.definition l.committed)) ≡ rows_in (over (entry_slots l.definition l.initial.overlay) (committed_slots l.definition l.initial.committed));
}

abbrev pub decreases-loop : goal.decreases-loop
decreases-loop l = length (entry_slots l.definition l.overlay)
