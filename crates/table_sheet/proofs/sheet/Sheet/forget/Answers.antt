use Rattle.std.proofs.Common.{ap}
use Rattle.row_index.specs.row_sheets.Orders.{slots_of}
use Rattle.table_sheet.specs.Ranked.{entry_slot}
use Rattle.table_sheet.specs.Parts.{committed_slots, entry_slots, room_of}
use Rattle.table_sheet.proofs.Apart.{above_instead, bare_holds}
use Rattle.table_sheet.proofs.sheet.Sheet.forget.Goals as goal

pub invariant_of-self : goal.invariant_of-self
invariant_of-self c = record {
  holds =
      bare_holds c.self.inside.definition (committed_slots c.self.inside.definition c.self.inside.committed) (entry_slots c.self.inside.definition c.self.inside.overlay) (room_of c.self.inside.committed) c.self.inside.overlay.fresh c.self.invariant.holds
      (entry_slots c.self.inside.definition c.clear.new.self) (ap (slots_of (entry_slot c.self.inside.definition c.clear.new.self.entries.items)) c.clear.ensures.entries) c.clear.new.self.fresh c.clear.ensures.fresh;
  indexed = above_instead c.self.inside.definition c.self.inside.committed c.self.inside.overlay c.clear.new.self c.self.invariant.indexed (c.clear.ensures.above c.self.inside.definition);
}
