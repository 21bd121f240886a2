use Rattle.std.proofs.Common.{◌≤◌, length, sym, ap, subst, ◌∙◌, arith}
use Rattle.row_index.specs.row_sheets.Slots.{rows_in}
use Rattle.val_types.specs.declared.definitions.TableDef.{TableDef}
use Rattle.table_sheet.specs.Pages.{Holds}
use Rattle.table_sheet.specs.Parts.{committed_slots, entry_slots, room_of}
use Rattle.table_sheet.specs.Indexed.{IsIndexed}
use Rattle.table_sheet.proofs.Copies.{copied_above, copied_entries, copied_holds, copied_indexed, copied_kept, copied_slots}
use Rattle.table_sheet.proofs.Turning.{same_committed}
use Rattle.table_sheet.proofs.sheet.Sheet.copy.Goals as goal

pub invariant_of-result : goal.invariant_of-result
invariant_of-result c =
    let few : length c.self.inside.definition.uniques ≤ c.len-keys.result = omega (arith, ap (λ (d : TableDef). length d.uniques) c.get.ensures) in
    let same =
    same_committed c.self.inside.definition c.in_ok-committed.committed c.make_room.new.self c.make_room.ensures.rows c.make_room.ensures.order
    ∙ copied_slots c.self.inside.definition c.self.inside.committed c.in_ok-committed.committed c.in_ok-committed.ensures.rows c.in_ok-committed.ensures.order in
    record {
      holds =
          subst (λ (d : TableDef). Holds d (committed_slots d c.make_room.new.self) (entry_slots d c.in_ok-overlay.overlay) (room_of c.make_room.new.self) c.in_ok-overlay.overlay.fresh) (sym c.in_ok-definition.ensures)
          (copied_holds c.self.inside.definition (committed_slots c.self.inside.definition c.self.inside.committed) (committed_slots c.self.inside.definition c.make_room.new.self) (entry_slots c.self.inside.definition c.self.inside.overlay) (entry_slots c.self.inside.definition c.in_ok-overlay.overlay) (room_of c.self.inside.committed) (room_of c.make_room.new.self) c.self.inside.overlay.fresh c.in_ok-overlay.overlay.fresh c.self.invariant.holds
          same
          (copied_entries c.self.inside.definition c.self.inside.overlay c.in_ok-overlay.overlay c.in_ok-overlay.ensures.entries c.in_ok-overlay.ensures.ranks) c.in_ok-overlay.ensures.fresh c.in_ok-make_room.ensures.made);
      indexed =
          subst (λ (d : TableDef). IsIndexed d c.make_room.new.self c.in_ok-overlay.overlay) (sym c.in_ok-definition.ensures)
          (copied_indexed c.self.inside.definition c.self.inside.committed c.make_room.new.self c.in_ok-overlay.overlay
          same
          (copied_above c.self.inside.definition c.self.inside.overlay c.in_ok-overlay.overlay c.in_ok-overlay.ensures.entries c.in_ok-overlay.ensures.ranks c.len-keys.result c.self.invariant.indexed.above c.in_ok-overlay.ensures.indexes few c.in_ok-overlay.ensures.hold)
          (c.make_room.ensures.kept c.self.inside.definition (rows_in (committed_slots c.self.inside.definition c.self.inside.committed)) few
          (copied_kept c.self.inside.definition c.self.inside.committed c.in_ok-committed.committed c.in_ok-committed.ensures.rows c.in_ok-committed.ensures.order c.self.invariant.indexed.below.kept c.in_ok-committed.ensures.indexes c.in_ok-committed.ensures.hold))
          c.in_ok-make_room.ensures.fits);
    }
