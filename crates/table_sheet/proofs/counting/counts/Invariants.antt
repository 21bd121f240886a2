use Rattle.std.proofs.Common.{◌≡◌, ◌+◌, ◌-◌, drop, length}
use Rattle.row_index.specs.block_list.Layouts.{flat}
use Rattle.row_index.specs.block_list.Spots.{place, IsSpot}
use Rattle.table_sheet.specs.Counts.{puts, takes}
use Rattle.table_sheet.specs.Parts.{committed_slots, entry_slots}
use Rattle.table_sheet.proofs.counting.counts.Given as goal

-- what the entries so far put and take, and what the others will
abbrev pub invariant-loop-at : goal.invariant-loop-at
invariant-loop-at l = record {
  spot : IsSpot l.overlay.ranks.blocks l.at;
  put : l.puts + puts (committed_slots l.definition l.committed) (drop (place l.overlay.ranks.blocks l.at) (entry_slots l.definition l.overlay)) ≡ puts (committed_slots l.definition l.committed) (entry_slots l.definition l.overlay);
  taken : l.takes + takes (committed_slots l.definition l.committed) (drop (place l.overlay.ranks.blocks l.at) (entry_slots l.definition l.overlay)) ≡ takes (committed_slots l.definition l.committed) (entry_slots l.definition l.overlay);
}

abbrev pub decreases-loop-at : goal.decreases-loop-at
decreases-loop-at l = length (flat l.overlay.ranks.blocks) - place l.overlay.ranks.blocks l.at
