use Rattle.std.proofs.Common.{ap}
use Rattle.row_index.specs.row_sheets.Orders.{slots_of}
use Rattle.table_sheet.specs.Numbered.{row_slot}
use Rattle.table_sheet.specs.Ranked.{entry_slot}
use Rattle.table_sheet.specs.Parts.{committed_slots, entry_slots, room_of}
use Rattle.table_sheet.proofs.Apart.{nothing_holds, nothing_indexed}
use Rattle.table_sheet.proofs.sheet.Sheet.new.Goals as goal

pub invariant_of-result : goal.invariant_of-result
invariant_of-result c = record {
  holds =
      nothing_holds c.args.definition (committed_slots c.args.definition c.new.result) (entry_slots c.args.definition c.new-2.result) (room_of c.new.result) c.new-2.result.fresh (ap (slots_of (row_slot c.args.definition c.new.result.rows.rows)) c.new.ensures.order)
      (ap (slots_of (entry_slot c.args.definition c.new-2.result.entries.items)) c.new-2.ensures.entries) c.new-2.ensures.fresh;
  indexed = nothing_indexed c.args.definition c.new.result c.new-2.result c.new.ensures.order (c.new.ensures.below c.args.definition) (c.new-2.ensures.above c.args.definition);
}
