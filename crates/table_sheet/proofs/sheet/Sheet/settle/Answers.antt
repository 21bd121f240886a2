use Rattle.std.proofs.Common.{ℕ, List, sym, ap, subst, ◌∙◌}
use Rattle.row_index.specs.block_list.Layouts.{flat}
use Rattle.row_index.specs.row_sheets.Slots.{Slot, rows_in, row_slots}
use Rattle.row_index.specs.row_sheets.Over.{over}
use Rattle.row_index.specs.row_sheets.Orders.{slots_of}
use Rattle.table_sheet.specs.Ranked.{entry_slot}
use Rattle.table_sheet.specs.Pages.{Page, rows_on}
use Rattle.table_sheet.specs.Parts.{committed_slots, entry_slots, room_of}
use Rattle.table_sheet.specs.Settling.{hiding, Settles}
use Rattle.table_sheet.specs.Indexed.{AreAllApart, IsBelow}
use Rattle.table_sheet.proofs.Apart.{apart_below, apart_shown}
use Rattle.table_sheet.proofs.Below.{room_same, slots_same}
use Rattle.table_sheet.proofs.Steps.{settles_first, settled_holds, full_slots}
use Rattle.table_sheet.proofs.sheet.Sheet.settle.Goals as goal

pub hide_all-requires-clause-apart : goal.hide_all-requires-clause-apart
hide_all-requires-clause-apart c = apart_below c.self.inside.definition (committed_slots c.self.inside.definition c.self.inside.committed) (entry_slots c.self.inside.definition c.self.inside.overlay) (room_of c.self.inside.committed) c.self.inside.overlay.fresh c.self.invariant.holds

pub settle_all-requires-clause-settles : goal.settle_all-requires-clause-settles
settle_all-requires-clause-settles c =
    subst (λ (space : ℕ). Settles c.self.inside.definition (committed_slots c.self.inside.definition c.hide_all.new.committed) (entry_slots c.self.inside.definition c.self.inside.overlay) space) (sym (room_same c.self.inside.committed c.hide_all.new.committed c.hide_all.ensures.rows c.hide_all.ensures.order c.hide_all.ensures.hold))
    (subst (λ (cs : List Slot). Settles c.self.inside.definition cs (entry_slots c.self.inside.definition c.self.inside.overlay) (room_of c.self.inside.committed)) (sym (slots_same c.self.inside.definition c.self.inside.committed c.hide_all.new.committed c.hide_all.ensures.rows c.hide_all.ensures.order))
    (settles_first c.self.inside.definition (committed_slots c.self.inside.definition c.self.inside.committed) (entry_slots c.self.inside.definition c.self.inside.overlay) (room_of c.self.inside.committed) c.self.inside.overlay.fresh c.self.invariant.holds))

pub settle_all-requires-clause-hides : goal.settle_all-requires-clause-hides
settle_all-requires-clause-hides c = record {
  below = subst (λ (cs : List Slot). IsBelow c.self.inside.definition c.hide_all.new.committed (rows_in (over (hiding (entry_slots c.self.inside.definition c.self.inside.overlay)) cs))) (sym (slots_same c.self.inside.definition c.self.inside.committed c.hide_all.new.committed c.hide_all.ensures.rows c.hide_all.ensures.order)) c.hide_all.ensures.below;
  apart =
      subst (λ (cs : List Slot). AreAllApart c.self.inside.definition.uniques (over (entry_slots c.self.inside.definition c.self.inside.overlay) cs)) (sym (slots_same c.self.inside.definition c.self.inside.committed c.hide_all.new.committed c.hide_all.ensures.rows c.hide_all.ensures.order))
      (apart_shown c.self.inside.definition (committed_slots c.self.inside.definition c.self.inside.committed) (entry_slots c.self.inside.definition c.self.inside.overlay) (room_of c.self.inside.committed) c.self.inside.overlay.fresh c.self.invariant.holds);
}

pub invariant_of-self : goal.invariant_of-self
invariant_of-self c = record {
  holds =
      settled_holds c.self.inside.definition (committed_slots c.self.inside.definition c.self.inside.committed) (entry_slots c.self.inside.definition c.self.inside.overlay) (room_of c.self.inside.committed) c.self.inside.overlay.fresh c.self.invariant.holds
      (committed_slots c.self.inside.definition c.settle_all.new.committed) (entry_slots c.self.inside.definition c.settle_all.new.overlay) (room_of c.settle_all.new.committed) c.settle_all.ensures.settles
      (c.settle_all.ensures.rows ∙ ap (λ (cs : List Slot). rows_in (over (entry_slots c.self.inside.definition c.self.inside.overlay) cs)) (slots_same c.self.inside.definition c.self.inside.committed c.hide_all.new.committed c.hide_all.ensures.rows c.hide_all.ensures.order))
      (entry_slots c.self.inside.definition c.clear.new.self) (ap (slots_of (entry_slot c.self.inside.definition c.clear.new.self.entries.items)) c.clear.ensures.entries) c.clear.new.self.fresh c.clear.ensures.fresh (room_of c.settle_all.new.committed);
  indexed = record { below = c.settle_all.ensures.below; above = c.clear.ensures.above c.self.inside.definition };
}

pub returns-clause-committed : goal.returns-clause-committed
returns-clause-committed c =
    full_slots c.self.inside.definition c.settle_all.new.committed.rows.rows (flat c.settle_all.new.committed.order.blocks) c.settle_all.new.committed.numbered
    ∙ ap (row_slots c.self.inside.definition) (c.settle_all.ensures.rows ∙ ap (λ (cs : List Slot). rows_in (over (entry_slots c.self.inside.definition c.self.inside.overlay) cs)) (slots_same c.self.inside.definition c.self.inside.committed c.hide_all.new.committed c.hide_all.ensures.rows c.hide_all.ensures.order))
    ∙ ap (λ (p : Page). row_slots p.definition (rows_on p)) c.self.view_is

pub returns-clause-settled : goal.returns-clause-settled
returns-clause-settled c = c.settle_all.ensures.rows ∙ ap (λ (cs : List Slot). rows_in (over (entry_slots c.self.inside.definition c.self.inside.overlay) cs)) (slots_same c.self.inside.definition c.self.inside.committed c.hide_all.new.committed c.hide_all.ensures.rows c.hide_all.ensures.order) ∙ ap rows_on c.self.view_is

pub returns-clause-rows : goal.returns-clause-rows
returns-clause-rows c =
    ap (λ (ns : List ℕ). rows_in (over (slots_of (entry_slot c.self.inside.definition c.clear.new.self.entries.items) ns) (committed_slots c.self.inside.definition c.settle_all.new.committed))) c.clear.ensures.entries
    ∙ c.settle_all.ensures.rows ∙ ap (λ (cs : List Slot). rows_in (over (entry_slots c.self.inside.definition c.self.inside.overlay) cs)) (slots_same c.self.inside.definition c.self.inside.committed c.hide_all.new.committed c.hide_all.ensures.rows c.hide_all.ensures.order) ∙ ap rows_on c.self.view_is
