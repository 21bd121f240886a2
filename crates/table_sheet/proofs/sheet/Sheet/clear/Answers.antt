use Rattle.std.proofs.Common.{ap}
use Rattle.row_index.specs.row_sheets.Orders.{slots_of}
use Rattle.table_sheet.specs.Numbered.{row_slot}
use Rattle.table_sheet.specs.Ranked.{entry_slot}
use Rattle.table_sheet.specs.Parts.{committed_slots, entry_slots, room_of}
use Rattle.table_sheet.proofs.Apart.{nothing_holds, nothing_indexed}
use Rattle.table_sheet.proofs.sheet.Sheet.clear.Goals as goal

pub invariant_of-self : goal.invariant_of-self
invariant_of-self c = record {
  holds =
      nothing_holds c.self.inside.definition (committed_slots c.self.inside.definition c.new.result) (entry_slots c.self.inside.definition c.new-2.result) (room_of c.new.result) c.new-2.result.fresh (ap (slots_of (row_slot c.self.inside.definition c.new.result.rows.rows)) c.new.ensures.order)
      (ap (slots_of (entry_slot c.self.inside.definition c.new-2.result.entries.items)) c.new-2.ensures.entries) c.new-2.ensures.fresh;
  indexed = nothing_indexed c.self.inside.definition c.new.result c.new-2.result c.new.ensures.order (c.new.ensures.below c.self.inside.definition) (c.new-2.ensures.above c.self.inside.definition);
}
