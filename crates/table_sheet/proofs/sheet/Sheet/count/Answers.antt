use Rattle.std.proofs.Common.{length, ap, arith}
use Rattle.std.proofs.lemmas.List.{length-map}
use Rattle.row_index.specs.block_list.Layouts.{flat}
use Rattle.table_sheet.specs.Numbered.{row_slot}
use Rattle.table_sheet.specs.Pages.{Page, rows_on}
use Rattle.table_sheet.specs.Parts.{committed_slots, entry_slots}
use Rattle.table_sheet.proofs.Shown.{sound}
use Rattle.table_sheet.proofs.Counted.{shown_count, committed_full}
use Rattle.table_sheet.proofs.sheet.Sheet.count.Goals as goal

pub overflow_sub-result : goal.overflow_sub-result
overflow_sub-result c =
    omega (
      arith,
      shown_count (entry_slots c.self.inside.definition c.self.inside.overlay) (committed_slots c.self.inside.definition c.self.inside.committed) c.self.invariant.holds.rising (sound c.self.inside.definition (committed_slots c.self.inside.definition c.self.inside.committed) c.self.invariant.holds.whole).rising (committed_full c.self.inside.definition c.self.inside.committed.rows.rows (flat c.self.inside.committed.order.blocks) c.self.inside.committed.numbered),
      c.counts-puts.ensures.puts,
      c.counts-puts.ensures.takes,
      c.len.ensures.count,
      length-map (flat c.self.inside.committed.order.blocks) (row_slot c.self.inside.definition c.self.inside.committed.rows.rows),
    )

pub returns : goal.returns
returns c =
    omega (
      arith,
      shown_count (entry_slots c.self.inside.definition c.self.inside.overlay) (committed_slots c.self.inside.definition c.self.inside.committed) c.self.invariant.holds.rising (sound c.self.inside.definition (committed_slots c.self.inside.definition c.self.inside.committed) c.self.invariant.holds.whole).rising (committed_full c.self.inside.definition c.self.inside.committed.rows.rows (flat c.self.inside.committed.order.blocks) c.self.inside.committed.numbered),
      c.counts-puts.ensures.puts,
      c.counts-puts.ensures.takes,
      c.len.ensures.count,
      length-map (flat c.self.inside.committed.order.blocks) (row_slot c.self.inside.definition c.self.inside.committed.rows.rows),
      ap (λ (p : Page). length (rows_on p)) c.self.view_is,
    )
