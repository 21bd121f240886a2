use Rattle.std.proofs.Common.{length, Some, Ok, Err, refl, sym, ap, ◌∙◌, arith}
use Rattle.val_types.specs.declared.definitions.TableDef.{TableDef}
use Rattle.val_types.specs.Keys.{primary_key}
use Rattle.row_index.specs.block_list.Layouts.{flat}
use Rattle.row_index.specs.row_sheets.Slots.{rows_in}
use Rattle.row_index.specs.row_sheets.Claims.{row_under}
use Rattle.table_sheet.specs.Pages.{Page, has_entry}
use Rattle.table_sheet.specs.Parts.{committed_slots, entry_slots, room_of}
use Rattle.table_sheet.proofs.Apart.{apart_above, above_changed, above_added, above_instead, found_as, roomed}
use Rattle.table_sheet.proofs.Looking.{full_held}
use Rattle.table_sheet.proofs.Turning.{same_committed, same_holds, set_stays, set_entry, made_stays, made_entry, set_in_holds, set_in_rows, made_in_holds, made_in_rows, either_way, made_for, found_same}
use Rattle.table_sheet.proofs.sheet.Sheet.put.Goals as goal

pub invariant_of-self : goal.invariant_of-self
invariant_of-self c = record {
  holds =
      set_in_holds c.self.inside.definition c.self.inside.committed c.self.inside.committed c.self.inside.overlay c.fill.new.self c.args.self.now c.self.invariant.holds c.self.view_is refl (omega arith) c.args.row c.requires.fits c.requires.free c.in-Ok.spot (found_same c.self.inside.definition c.get.result.now c.args.row c.self.inside.overlay (Ok c.in-Ok.spot) c.get.ensures c.in-Ok.ensures.found) (c.fill.ensures.slots c.self.inside.definition (primary_key c.self.inside.definition c.args.row) c.self.invariant.holds.rising (found_same c.self.inside.definition c.get.result.now c.args.row c.self.inside.overlay (Ok c.in-Ok.spot) c.get.ensures c.in-Ok.ensures.found)) c.fill.ensures.fresh;
  indexed =
      above_changed c.self.inside.definition c.self.inside.committed c.self.inside.overlay c.fill.new.self c.self.invariant.indexed
      (set_in_holds c.self.inside.definition c.self.inside.committed c.self.inside.committed c.self.inside.overlay c.fill.new.self c.args.self.now c.self.invariant.holds c.self.view_is refl (omega arith) c.args.row c.requires.fits c.requires.free c.in-Ok.spot (found_same c.self.inside.definition c.get.result.now c.args.row c.self.inside.overlay (Ok c.in-Ok.spot) c.get.ensures c.in-Ok.ensures.found) (c.fill.ensures.slots c.self.inside.definition (primary_key c.self.inside.definition c.args.row) c.self.invariant.holds.rising (found_same c.self.inside.definition c.get.result.now c.args.row c.self.inside.overlay (Ok c.in-Ok.spot) c.get.ensures c.in-Ok.ensures.found)) c.fill.ensures.fresh)
      c.fill.ensures.above;
}

pub returns-in-Ok-clause-rows : goal.returns-in-Ok-clause-rows
returns-in-Ok-clause-rows c = set_in_rows c.self.inside.definition c.self.inside.committed c.self.inside.committed c.self.inside.overlay c.fill.new.self c.args.self.now c.self.invariant.holds c.self.view_is refl (omega arith) c.args.row c.requires.fits c.requires.free c.in-Ok.spot (found_same c.self.inside.definition c.get.result.now c.args.row c.self.inside.overlay (Ok c.in-Ok.spot) c.get.ensures c.in-Ok.ensures.found) (c.fill.ensures.slots c.self.inside.definition (primary_key c.self.inside.definition c.args.row) c.self.invariant.holds.rising (found_same c.self.inside.definition c.get.result.now c.args.row c.self.inside.overlay (Ok c.in-Ok.spot) c.get.ensures c.in-Ok.ensures.found)) c.fill.ensures.fresh

pub returns-in-Ok-clause-stays : goal.returns-in-Ok-clause-stays
returns-in-Ok-clause-stays c = set_stays c.self.inside.definition c.self.inside.committed c.self.inside.committed c.self.inside.overlay c.fill.new.self c.args.self.now c.self.invariant.holds c.self.view_is refl (omega arith) (primary_key c.self.inside.definition c.args.row) c.in-Ok.spot (found_same c.self.inside.definition c.get.result.now c.args.row c.self.inside.overlay (Ok c.in-Ok.spot) c.get.ensures c.in-Ok.ensures.found) (Some c.args.row) (c.fill.ensures.slots c.self.inside.definition (primary_key c.self.inside.definition c.args.row) c.self.invariant.holds.rising (found_same c.self.inside.definition c.get.result.now c.args.row c.self.inside.overlay (Ok c.in-Ok.spot) c.get.ensures c.in-Ok.ensures.found))

pub returns-in-Ok-clause-entry : goal.returns-in-Ok-clause-entry
returns-in-Ok-clause-entry c =
    ap (λ (p : Page). has_entry (primary_key p.definition c.args.row) (record { definition = c.self.inside.definition; committed = committed_slots c.self.inside.definition c.self.inside.committed; entries = entry_slots c.self.inside.definition c.fill.new.self; room = 0 })) (sym c.self.view_is)
    ∙ set_entry c.self.inside.definition c.self.inside.committed c.self.inside.committed c.self.inside.overlay c.fill.new.self c.args.self.now c.self.invariant.holds c.self.view_is refl (omega arith) (primary_key c.self.inside.definition c.args.row) c.in-Ok.spot (found_same c.self.inside.definition c.get.result.now c.args.row c.self.inside.overlay (Ok c.in-Ok.spot) c.get.ensures c.in-Ok.ensures.found) (Some c.args.row) (c.fill.ensures.slots c.self.inside.definition (primary_key c.self.inside.definition c.args.row) c.self.invariant.holds.rising (found_same c.self.inside.definition c.get.result.now c.args.row c.self.inside.overlay (Ok c.in-Ok.spot) c.get.ensures c.in-Ok.ensures.found))

pub make_room-requires : goal.make_room-requires
make_room-requires c = omega (arith, c.self.invariant.holds.few)

pub invariant_of-self-in-Err : goal.invariant_of-self-in-Err
invariant_of-self-in-Err c = record {
  holds =
      either_way c.add.result c.add.ensures.slots c.add.ensures.fresh c.add.ensures.same c.add.ensures.same_fresh
      (λ slots fresh. made_in_holds c.self.inside.definition c.self.inside.committed c.make_room.new.self c.self.inside.overlay c.add.new.self c.args.self.now c.self.invariant.holds c.self.view_is (same_committed c.self.inside.definition c.self.inside.committed c.make_room.new.self c.make_room.ensures.rows c.make_room.ensures.order) c.make_room.ensures.room c.args.row c.requires.fits c.requires.free c.in-Err.spot (found_same c.self.inside.definition c.get.result.now c.args.row c.self.inside.overlay (Err c.in-Err.spot) c.get.ensures c.in-Err.ensures.found) (made_for c.self.inside.definition (primary_key c.self.inside.definition c.args.row) c.in_ok-bearer-in-Err.bearer (Some c.args.row) c.self.inside.overlay c.add.new.self c.in-Err.spot (ap (primary_key c.self.inside.definition) c.in_ok-bearer-in-Err.ensures) (slots c.self.inside.definition) (found_same c.self.inside.definition c.get.result.now c.args.row c.self.inside.overlay (Err c.in-Err.spot) c.get.ensures c.in-Err.ensures.found)) fresh (row_under (primary_key c.self.inside.definition c.args.row) (committed_slots c.self.inside.definition c.self.inside.committed)) (full_held c.self.inside.definition c.self.inside.committed.rows.rows (flat c.self.inside.committed.order.blocks) (primary_key c.self.inside.definition c.args.row) c.self.inside.committed.numbered) c.in_ok-make_room-in-Err.ensures.made c.in_ok-make_room-in-Err.ensures.few)
      (λ same fresh. same_holds c.self.inside.definition c.self.inside.committed c.make_room.new.self c.self.inside.overlay c.add.new.self c.args.self.now c.self.invariant.holds c.self.view_is (same_committed c.self.inside.definition c.self.inside.committed c.make_room.new.self c.make_room.ensures.rows c.make_room.ensures.order) c.make_room.ensures.room (same c.self.inside.definition) fresh);
  indexed =
      above_added c.self.inside.definition c.make_room.new.self c.self.inside.overlay c.add.new.self (roomed c.self.inside.definition c.self.inside.committed c.make_room.new.self c.self.inside.overlay c.self.invariant.indexed c.make_room.ensures.rows c.make_room.ensures.order (c.make_room.ensures.kept c.self.inside.definition (rows_in (committed_slots c.self.inside.definition c.self.inside.committed)) (omega (arith, ap (λ (d : TableDef). length d.uniques) c.get-in-Err.ensures))) c.make_room.ensures.no_less)
      (either_way c.add.result c.add.ensures.slots c.add.ensures.fresh c.add.ensures.same c.add.ensures.same_fresh
      (λ slots fresh. made_in_holds c.self.inside.definition c.self.inside.committed c.make_room.new.self c.self.inside.overlay c.add.new.self c.args.self.now c.self.invariant.holds c.self.view_is (same_committed c.self.inside.definition c.self.inside.committed c.make_room.new.self c.make_room.ensures.rows c.make_room.ensures.order) c.make_room.ensures.room c.args.row c.requires.fits c.requires.free c.in-Err.spot (found_same c.self.inside.definition c.get.result.now c.args.row c.self.inside.overlay (Err c.in-Err.spot) c.get.ensures c.in-Err.ensures.found) (made_for c.self.inside.definition (primary_key c.self.inside.definition c.args.row) c.in_ok-bearer-in-Err.bearer (Some c.args.row) c.self.inside.overlay c.add.new.self c.in-Err.spot (ap (primary_key c.self.inside.definition) c.in_ok-bearer-in-Err.ensures) (slots c.self.inside.definition) (found_same c.self.inside.definition c.get.result.now c.args.row c.self.inside.overlay (Err c.in-Err.spot) c.get.ensures c.in-Err.ensures.found)) fresh (row_under (primary_key c.self.inside.definition c.args.row) (committed_slots c.self.inside.definition c.self.inside.committed)) (full_held c.self.inside.definition c.self.inside.committed.rows.rows (flat c.self.inside.committed.order.blocks) (primary_key c.self.inside.definition c.args.row) c.self.inside.committed.numbered) c.in_ok-make_room-in-Err.ensures.made c.in_ok-make_room-in-Err.ensures.few)
      (λ same fresh. same_holds c.self.inside.definition c.self.inside.committed c.make_room.new.self c.self.inside.overlay c.add.new.self c.args.self.now c.self.invariant.holds c.self.view_is (same_committed c.self.inside.definition c.self.inside.committed c.make_room.new.self c.make_room.ensures.rows c.make_room.ensures.order) c.make_room.ensures.room (same c.self.inside.definition) fresh))
      c.add.result c.add.ensures.above c.add.ensures.same_above (found_as c.self.inside.definition c.self.inside.overlay c.in-Err.spot _ _ (ap (primary_key c.self.inside.definition) c.in_ok-bearer-in-Err.ensures) (found_same c.self.inside.definition c.get.result.now c.args.row c.self.inside.overlay (Err c.in-Err.spot) c.get.ensures c.in-Err.ensures.found));
}

pub invariant_of-self-in_err-make_room-in-Err : goal.invariant_of-self-in_err-make_room-in-Err
invariant_of-self-in_err-make_room-in-Err c = record {
  holds =
      same_holds c.self.inside.definition c.self.inside.committed c.make_room.new.self c.self.inside.overlay c.self.inside.overlay c.args.self.now c.self.invariant.holds c.self.view_is (same_committed c.self.inside.definition c.self.inside.committed c.make_room.new.self c.make_room.ensures.rows c.make_room.ensures.order) c.make_room.ensures.room refl refl;
  indexed =
      roomed c.self.inside.definition c.self.inside.committed c.make_room.new.self c.self.inside.overlay c.self.invariant.indexed c.make_room.ensures.rows c.make_room.ensures.order
      (c.make_room.ensures.kept c.self.inside.definition (rows_in (committed_slots c.self.inside.definition c.self.inside.committed)) (omega (arith, ap (λ (d : TableDef). length d.uniques) c.get-in-Err.ensures))) c.make_room.ensures.no_less;
}

pub invariant_of-self-in_err-add-in-Err : goal.invariant_of-self-in_err-add-in-Err
invariant_of-self-in_err-add-in-Err c = record {
  holds =
      same_holds c.self.inside.definition c.self.inside.committed c.make_room.new.self c.self.inside.overlay c.add.new.self c.args.self.now c.self.invariant.holds c.self.view_is (same_committed c.self.inside.definition c.self.inside.committed c.make_room.new.self c.make_room.ensures.rows c.make_room.ensures.order) c.make_room.ensures.room
      (c.in_err-add-in-Err.ensures.same c.self.inside.definition) c.in_err-add-in-Err.ensures.same_fresh;
  indexed =
      above_instead c.self.inside.definition c.make_room.new.self c.self.inside.overlay c.add.new.self
      (roomed c.self.inside.definition c.self.inside.committed c.make_room.new.self c.self.inside.overlay c.self.invariant.indexed c.make_room.ensures.rows c.make_room.ensures.order
      (c.make_room.ensures.kept c.self.inside.definition (rows_in (committed_slots c.self.inside.definition c.self.inside.committed)) (omega (arith, ap (λ (d : TableDef). length d.uniques) c.get-in-Err.ensures))) c.make_room.ensures.no_less)
      c.in_err-add-in-Err.ensures.same_above;
}

pub returns-in_ok-add-in-Err-clause-rows : goal.returns-in_ok-add-in-Err-clause-rows
returns-in_ok-add-in-Err-clause-rows c = made_in_rows c.self.inside.definition c.self.inside.committed c.make_room.new.self c.self.inside.overlay c.add.new.self c.args.self.now c.self.invariant.holds c.self.view_is (same_committed c.self.inside.definition c.self.inside.committed c.make_room.new.self c.make_room.ensures.rows c.make_room.ensures.order) c.make_room.ensures.room c.args.row c.requires.fits c.requires.free c.in-Err.spot (found_same c.self.inside.definition c.get.result.now c.args.row c.self.inside.overlay (Err c.in-Err.spot) c.get.ensures c.in-Err.ensures.found) (made_for c.self.inside.definition (primary_key c.self.inside.definition c.args.row) c.in_ok-bearer-in-Err.bearer (Some c.args.row) c.self.inside.overlay c.add.new.self c.in-Err.spot (ap (primary_key c.self.inside.definition) c.in_ok-bearer-in-Err.ensures) (c.in_ok-add-in-Err.ensures.slots c.self.inside.definition) (found_same c.self.inside.definition c.get.result.now c.args.row c.self.inside.overlay (Err c.in-Err.spot) c.get.ensures c.in-Err.ensures.found)) c.in_ok-add-in-Err.ensures.fresh (row_under (primary_key c.self.inside.definition c.args.row) (committed_slots c.self.inside.definition c.self.inside.committed)) (full_held c.self.inside.definition c.self.inside.committed.rows.rows (flat c.self.inside.committed.order.blocks) (primary_key c.self.inside.definition c.args.row) c.self.inside.committed.numbered) c.in_ok-make_room-in-Err.ensures.made c.in_ok-make_room-in-Err.ensures.few

pub returns-in_ok-add-in-Err-clause-entry : goal.returns-in_ok-add-in-Err-clause-entry
returns-in_ok-add-in-Err-clause-entry c =
    ap (λ (p : Page). has_entry (primary_key p.definition c.args.row) (record { definition = c.self.inside.definition; committed = committed_slots c.self.inside.definition c.make_room.new.self; entries = entry_slots c.self.inside.definition c.add.new.self; room = 0 })) (sym c.self.view_is)
    ∙ made_entry c.self.inside.definition c.self.inside.committed c.make_room.new.self c.self.inside.overlay c.add.new.self c.args.self.now c.self.invariant.holds c.self.view_is (same_committed c.self.inside.definition c.self.inside.committed c.make_room.new.self c.make_room.ensures.rows c.make_room.ensures.order) c.make_room.ensures.room (primary_key c.self.inside.definition c.args.row) (Some c.args.row) c.in-Err.spot (found_same c.self.inside.definition c.get.result.now c.args.row c.self.inside.overlay (Err c.in-Err.spot) c.get.ensures c.in-Err.ensures.found) (made_for c.self.inside.definition (primary_key c.self.inside.definition c.args.row) c.in_ok-bearer-in-Err.bearer (Some c.args.row) c.self.inside.overlay c.add.new.self c.in-Err.spot (ap (primary_key c.self.inside.definition) c.in_ok-bearer-in-Err.ensures) (c.in_ok-add-in-Err.ensures.slots c.self.inside.definition) (found_same c.self.inside.definition c.get.result.now c.args.row c.self.inside.overlay (Err c.in-Err.spot) c.get.ensures c.in-Err.ensures.found))

pub returns-in_ok-add-in-Err-clause-stays : goal.returns-in_ok-add-in-Err-clause-stays
returns-in_ok-add-in-Err-clause-stays c = made_stays c.self.inside.definition c.self.inside.committed c.make_room.new.self c.self.inside.overlay c.add.new.self c.args.self.now c.self.invariant.holds c.self.view_is (same_committed c.self.inside.definition c.self.inside.committed c.make_room.new.self c.make_room.ensures.rows c.make_room.ensures.order) c.make_room.ensures.room (primary_key c.self.inside.definition c.args.row) (Some c.args.row) c.in-Err.spot (found_same c.self.inside.definition c.get.result.now c.args.row c.self.inside.overlay (Err c.in-Err.spot) c.get.ensures c.in-Err.ensures.found) (made_for c.self.inside.definition (primary_key c.self.inside.definition c.args.row) c.in_ok-bearer-in-Err.bearer (Some c.args.row) c.self.inside.overlay c.add.new.self c.in-Err.spot (ap (primary_key c.self.inside.definition) c.in_ok-bearer-in-Err.ensures) (c.in_ok-add-in-Err.ensures.slots c.self.inside.definition) (found_same c.self.inside.definition c.get.result.now c.args.row c.self.inside.overlay (Err c.in-Err.spot) c.get.ensures c.in-Err.ensures.found))

pub fill-requires-clause-apart : goal.fill-requires-clause-apart
fill-requires-clause-apart c =
    apart_above c.self.inside.definition (committed_slots c.self.inside.definition c.self.inside.committed) (entry_slots c.self.inside.definition c.self.inside.overlay) (room_of c.self.inside.committed) c.self.inside.overlay.fresh c.self.invariant.holds
