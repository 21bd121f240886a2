use Rattle.std.proofs.Common.{None, refl, sym, ap, subst, ◌∙◌, arith}
use Rattle.val_types.specs.Keys.{primary_key}
use Rattle.row_index.specs.row_sheets.Slots.{keys_in}
use Rattle.table_sheet.specs.Pages.{Page, Stays, rows_on}
use Rattle.table_sheet.specs.Parts.{committed_slots, entry_slots, room_of}
use Rattle.table_sheet.proofs.Apart.{apart_above, above_changed}
use Rattle.table_sheet.proofs.Shown.{keys_filled}
use Rattle.table_sheet.proofs.Turning.{set_stays, set_out_holds, set_out_rows, entry_found}
use Rattle.table_rules.specs.Stored.{rows_beside}
use Rattle.table_sheet.proofs.sheet.Sheet.take_same.Goals as goal
use Rattle.table_sheet.proofs.sheet.Sheet.take_same.Goals.{in-Some-1, in-None-1}

pub invariant_of-self : goal.invariant_of-self
invariant_of-self c = record {
  holds =
      set_out_holds c.self.inside.definition c.self.inside.committed c.self.inside.committed c.self.inside.overlay c.fill.new.self c.args.self.now c.self.invariant.holds c.self.view_is refl (omega arith) (primary_key c.self.inside.definition c.args.row.now) c.in-Ok.spot c.in-Ok.ensures.found (c.fill.ensures.slots c.self.inside.definition (primary_key c.self.inside.definition c.args.row.now) c.self.invariant.holds.rising c.in-Ok.ensures.found) c.fill.ensures.fresh;
  indexed =
      above_changed c.self.inside.definition c.self.inside.committed c.self.inside.overlay c.fill.new.self c.self.invariant.indexed
      (set_out_holds c.self.inside.definition c.self.inside.committed c.self.inside.committed c.self.inside.overlay c.fill.new.self c.args.self.now c.self.invariant.holds c.self.view_is refl (omega arith) (primary_key c.self.inside.definition c.args.row.now) c.in-Ok.spot c.in-Ok.ensures.found (c.fill.ensures.slots c.self.inside.definition (primary_key c.self.inside.definition c.args.row.now) c.self.invariant.holds.rising c.in-Ok.ensures.found) c.fill.ensures.fresh)
      c.fill.ensures.above;
}

pub invariant_of-self-in-Ok-2 : goal.invariant_of-self-in-Ok-2
invariant_of-self-in-Ok-2 c = record {
  holds =
      set_out_holds c.self.inside.definition c.self.inside.committed c.self.inside.committed c.self.inside.overlay c.fill.new.self c.args.self.now c.self.invariant.holds c.self.view_is refl (omega arith) (primary_key c.self.inside.definition c.args.row.now) c.in-Ok.spot c.in-Ok.ensures.found (c.fill.ensures.slots c.self.inside.definition (primary_key c.self.inside.definition c.args.row.now) c.self.invariant.holds.rising c.in-Ok.ensures.found) c.fill.ensures.fresh;
  indexed =
      above_changed c.self.inside.definition c.self.inside.committed c.self.inside.overlay c.fill.new.self c.self.invariant.indexed
      (set_out_holds c.self.inside.definition c.self.inside.committed c.self.inside.committed c.self.inside.overlay c.fill.new.self c.args.self.now c.self.invariant.holds c.self.view_is refl (omega arith) (primary_key c.self.inside.definition c.args.row.now) c.in-Ok.spot c.in-Ok.ensures.found (c.fill.ensures.slots c.self.inside.definition (primary_key c.self.inside.definition c.args.row.now) c.self.invariant.holds.rising c.in-Ok.ensures.found) c.fill.ensures.fresh)
      c.fill.ensures.above;
}

pub returns-in-Ok-clause-rows : goal.returns-in-Ok-clause-rows
returns-in-Ok-clause-rows c =
    let rows =
    set_out_rows c.self.inside.definition c.self.inside.committed c.self.inside.committed c.self.inside.overlay c.fill.new.self c.args.self.now c.self.invariant.holds c.self.view_is refl (omega arith) (primary_key c.self.inside.definition c.args.row.now) c.in-Ok.spot c.in-Ok.ensures.found (c.fill.ensures.slots c.self.inside.definition (primary_key c.self.inside.definition c.args.row.now) c.self.invariant.holds.rising c.in-Ok.ensures.found) c.fill.ensures.fresh
    ∙ ap (λ (p : Page). rows_beside c.args.self.now.definition (primary_key p.definition c.args.row.now) (rows_on c.args.self.now)) c.self.view_is in
    elim c.match-fill.branch [
      | in-Some-1 w ↦ ap rows_on w.self-is ∙ rows
      | in-None-1 w ↦ ap rows_on w.self-is ∙ rows
    ]

pub returns-in-Ok-clause-stays : goal.returns-in-Ok-clause-stays
returns-in-Ok-clause-stays c =
    let stays = set_stays c.self.inside.definition c.self.inside.committed c.self.inside.committed c.self.inside.overlay c.fill.new.self c.args.self.now c.self.invariant.holds c.self.view_is refl (omega arith) (primary_key c.self.inside.definition c.args.row.now) c.in-Ok.spot c.in-Ok.ensures.found None (c.fill.ensures.slots c.self.inside.definition (primary_key c.self.inside.definition c.args.row.now) c.self.invariant.holds.rising c.in-Ok.ensures.found) in
    elim c.match-fill.branch [
      | in-Some-1 w ↦ subst (λ (p : Page). Stays c.args.self.now p) (sym w.self-is) stays
      | in-None-1 w ↦ subst (λ (p : Page). Stays c.args.self.now p) (sym w.self-is) stays
    ]

pub returns-in-Err-clause-rows : goal.returns-in-Err-clause-rows
returns-in-Err-clause-rows c = entry_found c.self.inside.definition c.args.row.now c.self.inside.committed c.self.inside.overlay c.args.self.now c.in-Err.field-0 c.self.view_is c.in-Err.ensures.found c.requires

pub returns-in-Ok-clause-keys : goal.returns-in-Ok-clause-keys
returns-in-Ok-clause-keys c =
    let keys =
    ap keys_in (c.fill.ensures.slots c.self.inside.definition (primary_key c.self.inside.definition c.args.row.now) c.self.invariant.holds.rising c.in-Ok.ensures.found)
    ∙ keys_filled (primary_key c.self.inside.definition c.args.row.now) None (entry_slots c.self.inside.definition c.self.inside.overlay)
    ∙ ap (λ (p : Page). keys_in p.entries) c.self.view_is in
    elim c.match-fill.branch [
      | in-Some-1 w ↦ ap (λ (p : Page). keys_in p.entries) w.self-is ∙ keys
      | in-None-1 w ↦ ap (λ (p : Page). keys_in p.entries) w.self-is ∙ keys
    ]

pub fill-requires-clause-apart : goal.fill-requires-clause-apart
fill-requires-clause-apart c =
    apart_above c.self.inside.definition (committed_slots c.self.inside.definition c.self.inside.committed) (entry_slots c.self.inside.definition c.self.inside.overlay) (room_of c.self.inside.committed) c.self.inside.overlay.fresh c.self.invariant.holds
