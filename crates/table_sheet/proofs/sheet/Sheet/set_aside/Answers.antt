use Rattle.std.proofs.Common.{sym, ap, subst, ◌∙◌}
use Rattle.row_index.specs.row_sheets.Orders.{slots_of}
use Rattle.table_sheet.specs.declared.overlay.Overlay.{Overlay}
use Rattle.table_sheet.specs.Ranked.{entry_slot}
use Rattle.table_sheet.specs.Parts.{committed_slots, entry_slots, room_of}
use Rattle.table_sheet.specs.Indexed.{IsAbove}
use Rattle.table_sheet.proofs.Apart.{above_instead, bare_holds}
use Rattle.table_sheet.proofs.sheet.Sheet.set_aside.Goals as goal

pub invariant_of-self : goal.invariant_of-self
invariant_of-self c = record {
  holds =
      bare_holds c.self.inside.definition (committed_slots c.self.inside.definition c.self.inside.committed) (entry_slots c.self.inside.definition c.self.inside.overlay) (room_of c.self.inside.committed) c.self.inside.overlay.fresh c.self.invariant.holds
      (entry_slots c.self.inside.definition c.replace.new.dest) (ap (λ (o : Overlay). entry_slots c.self.inside.definition o) c.replace.ensures.after ∙ ap (slots_of (entry_slot c.self.inside.definition c.new.result.entries.items)) c.new.ensures.entries)
      c.replace.new.dest.fresh (ap (λ (o : Overlay). o.fresh) c.replace.ensures.after ∙ c.new.ensures.fresh);
  indexed = above_instead c.self.inside.definition c.self.inside.committed c.self.inside.overlay c.replace.new.dest c.self.invariant.indexed (subst (IsAbove c.self.inside.definition) (sym c.replace.ensures.after) (c.new.ensures.above c.self.inside.definition));
}
