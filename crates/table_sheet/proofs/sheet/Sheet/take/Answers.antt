use Rattle.std.proofs.Common.{Some, None, refl, sym, ap, ◌∙◌, arith}
use Rattle.val_types.specs.Keys.{primary_key}
use Rattle.table_sheet.specs.Pages.{rows_on}
use Rattle.table_sheet.specs.Parts.{committed_slots, entry_slots, room_of}
use Rattle.table_sheet.proofs.Apart.{apart_above, above_changed, above_added, found_as}
use Rattle.table_sheet.proofs.Looking.{page_found, page_row}
use Rattle.table_sheet.proofs.Shown.{all_stay}
use Rattle.table_sheet.proofs.Turning.{same_holds, set_stays, set_entry, set_out_holds, set_out_rows, made_stays, made_entry, hidden_holds, hidden_rows, either_way, key_of_row, made_for}
use Rattle.table_sheet.proofs.sheet.Sheet.take.Goals as goal

pub invariant_of-self : goal.invariant_of-self
invariant_of-self c = record {
  holds =
      set_out_holds c.self.inside.definition c.self.inside.committed c.self.inside.committed c.self.inside.overlay c.fill.new.self c.args.self.now c.self.invariant.holds c.self.view_is refl (omega arith) c.args.key.now c.in-Ok.spot c.in-Ok.ensures.found (c.fill.ensures.slots c.self.inside.definition c.args.key.now c.self.invariant.holds.rising c.in-Ok.ensures.found) c.fill.ensures.fresh;
  indexed =
      above_changed c.self.inside.definition c.self.inside.committed c.self.inside.overlay c.fill.new.self c.self.invariant.indexed
      (set_out_holds c.self.inside.definition c.self.inside.committed c.self.inside.committed c.self.inside.overlay c.fill.new.self c.args.self.now c.self.invariant.holds c.self.view_is refl (omega arith) c.args.key.now c.in-Ok.spot c.in-Ok.ensures.found (c.fill.ensures.slots c.self.inside.definition c.args.key.now c.self.invariant.holds.rising c.in-Ok.ensures.found) c.fill.ensures.fresh)
      c.fill.ensures.above;
}

pub returns-in-Ok-clause-row : goal.returns-in-Ok-clause-row
returns-in-Ok-clause-row c = c.fill.ensures.before c.self.inside.definition ∙ page_found c.self.inside.definition c.args.key.now c.self.inside.committed c.self.inside.overlay c.args.self.now c.in-Ok.spot c.self.invariant.holds c.self.view_is c.in-Ok.ensures.found

pub returns-in-Ok-clause-rows : goal.returns-in-Ok-clause-rows
returns-in-Ok-clause-rows c = set_out_rows c.self.inside.definition c.self.inside.committed c.self.inside.committed c.self.inside.overlay c.fill.new.self c.args.self.now c.self.invariant.holds c.self.view_is refl (omega arith) c.args.key.now c.in-Ok.spot c.in-Ok.ensures.found (c.fill.ensures.slots c.self.inside.definition c.args.key.now c.self.invariant.holds.rising c.in-Ok.ensures.found) c.fill.ensures.fresh

pub returns-in-Ok-clause-entry : goal.returns-in-Ok-clause-entry
returns-in-Ok-clause-entry c = λ some. set_entry c.self.inside.definition c.self.inside.committed c.self.inside.committed c.self.inside.overlay c.fill.new.self c.args.self.now c.self.invariant.holds c.self.view_is refl (omega arith) c.args.key.now c.in-Ok.spot c.in-Ok.ensures.found None (c.fill.ensures.slots c.self.inside.definition c.args.key.now c.self.invariant.holds.rising c.in-Ok.ensures.found)

pub returns-in-Ok-clause-stays : goal.returns-in-Ok-clause-stays
returns-in-Ok-clause-stays c = set_stays c.self.inside.definition c.self.inside.committed c.self.inside.committed c.self.inside.overlay c.fill.new.self c.args.self.now c.self.invariant.holds c.self.view_is refl (omega arith) c.args.key.now c.in-Ok.spot c.in-Ok.ensures.found None (c.fill.ensures.slots c.self.inside.definition c.args.key.now c.self.invariant.holds.rising c.in-Ok.ensures.found)

pub returns-in-None-clause-row : goal.returns-in-None-clause-row
returns-in-None-clause-row c = page_row c.self.inside.definition c.args.key.now c.self.inside.committed c.self.inside.overlay c.args.self.now c.in-Err.spot None c.self.invariant.holds c.self.view_is c.in-Err.ensures.found c.in-None.ensures

pub returns-in-None-clause-rows : goal.returns-in-None-clause-rows
returns-in-None-clause-rows c =
    sym (all_stay c.args.self.now.definition c.args.key.now (rows_on c.args.self.now) (sym (page_row c.self.inside.definition c.args.key.now c.self.inside.committed c.self.inside.overlay c.args.self.now c.in-Err.spot None c.self.invariant.holds c.self.view_is c.in-Err.ensures.found c.in-None.ensures)))

pub invariant_of-self-in-Err : goal.invariant_of-self-in-Err
invariant_of-self-in-Err c = record {
  holds =
      either_way c.add.result c.add.ensures.slots c.add.ensures.fresh c.add.ensures.same c.add.ensures.same_fresh
      (λ slots fresh. hidden_holds c.self.inside.definition c.self.inside.committed c.self.inside.committed c.self.inside.overlay c.add.new.self c.args.self.now c.self.invariant.holds c.self.view_is refl (omega arith) c.args.key.now c.in-Some.row.now c.in-Err.spot c.in-Err.ensures.found (made_for c.self.inside.definition c.args.key.now c.in_ok-bearer-in-Err.bearer None c.self.inside.overlay c.add.new.self c.in-Err.spot (ap (primary_key c.self.inside.definition) c.in_ok-bearer-in-Err.ensures ∙ key_of_row c.self.inside.definition c.args.key.now c.in-Some.row.now (committed_slots c.self.inside.definition c.self.inside.committed) c.self.invariant.holds.whole c.in-Some.ensures) (slots c.self.inside.definition) c.in-Err.ensures.found) (omega (arith, fresh)) c.in-Some.ensures)
      (λ same fresh. same_holds c.self.inside.definition c.self.inside.committed c.self.inside.committed c.self.inside.overlay c.add.new.self c.args.self.now c.self.invariant.holds c.self.view_is refl (omega arith) (same c.self.inside.definition) fresh);
  indexed =
      above_added c.self.inside.definition c.self.inside.committed c.self.inside.overlay c.add.new.self c.self.invariant.indexed
      (either_way c.add.result c.add.ensures.slots c.add.ensures.fresh c.add.ensures.same c.add.ensures.same_fresh
      (λ slots fresh. hidden_holds c.self.inside.definition c.self.inside.committed c.self.inside.committed c.self.inside.overlay c.add.new.self c.args.self.now c.self.invariant.holds c.self.view_is refl (omega arith) c.args.key.now c.in-Some.row.now c.in-Err.spot c.in-Err.ensures.found (made_for c.self.inside.definition c.args.key.now c.in_ok-bearer-in-Err.bearer None c.self.inside.overlay c.add.new.self c.in-Err.spot (ap (primary_key c.self.inside.definition) c.in_ok-bearer-in-Err.ensures ∙ key_of_row c.self.inside.definition c.args.key.now c.in-Some.row.now (committed_slots c.self.inside.definition c.self.inside.committed) c.self.invariant.holds.whole c.in-Some.ensures) (slots c.self.inside.definition) c.in-Err.ensures.found) (omega (arith, fresh)) c.in-Some.ensures)
      (λ same fresh. same_holds c.self.inside.definition c.self.inside.committed c.self.inside.committed c.self.inside.overlay c.add.new.self c.args.self.now c.self.invariant.holds c.self.view_is refl (omega arith) (same c.self.inside.definition) fresh))
      c.add.result c.add.ensures.above c.add.ensures.same_above (found_as c.self.inside.definition c.self.inside.overlay c.in-Err.spot _ _ (ap (primary_key c.self.inside.definition) c.in_ok-bearer-in-Err.ensures ∙ key_of_row c.self.inside.definition c.args.key.now c.in-Some.row.now (committed_slots c.self.inside.definition c.self.inside.committed) c.self.invariant.holds.whole c.in-Some.ensures) c.in-Err.ensures.found);
}

pub returns-in_ok-add-in-Err-clause-row : goal.returns-in_ok-add-in-Err-clause-row
returns-in_ok-add-in-Err-clause-row c =
    ap (λ r. Some r) c.in_ok-before-in-Err.ensures
    ∙ page_row c.self.inside.definition c.args.key.now c.self.inside.committed c.self.inside.overlay c.args.self.now c.in-Err.spot (Some c.in-Some.row.now) c.self.invariant.holds c.self.view_is c.in-Err.ensures.found c.in-Some.ensures

pub returns-in_ok-add-in-Err-clause-rows : goal.returns-in_ok-add-in-Err-clause-rows
returns-in_ok-add-in-Err-clause-rows c =
    hidden_rows c.self.inside.definition c.self.inside.committed c.self.inside.committed c.self.inside.overlay c.add.new.self c.args.self.now c.self.invariant.holds c.self.view_is refl (omega arith) c.args.key.now c.in-Some.row.now c.in-Err.spot c.in-Err.ensures.found (made_for c.self.inside.definition c.args.key.now c.in_ok-bearer-in-Err.bearer None c.self.inside.overlay c.add.new.self c.in-Err.spot (ap (primary_key c.self.inside.definition) c.in_ok-bearer-in-Err.ensures ∙ key_of_row c.self.inside.definition c.args.key.now c.in-Some.row.now (committed_slots c.self.inside.definition c.self.inside.committed) c.self.invariant.holds.whole c.in-Some.ensures) (c.in_ok-add-in-Err.ensures.slots c.self.inside.definition) c.in-Err.ensures.found) (omega (arith, c.in_ok-add-in-Err.ensures.fresh)) c.in-Some.ensures

pub returns-in_ok-add-in-Err-clause-entry : goal.returns-in_ok-add-in-Err-clause-entry
returns-in_ok-add-in-Err-clause-entry c = λ some. made_entry c.self.inside.definition c.self.inside.committed c.self.inside.committed c.self.inside.overlay c.add.new.self c.args.self.now c.self.invariant.holds c.self.view_is refl (omega arith) c.args.key.now None c.in-Err.spot c.in-Err.ensures.found (made_for c.self.inside.definition c.args.key.now c.in_ok-bearer-in-Err.bearer None c.self.inside.overlay c.add.new.self c.in-Err.spot (ap (primary_key c.self.inside.definition) c.in_ok-bearer-in-Err.ensures ∙ key_of_row c.self.inside.definition c.args.key.now c.in-Some.row.now (committed_slots c.self.inside.definition c.self.inside.committed) c.self.invariant.holds.whole c.in-Some.ensures) (c.in_ok-add-in-Err.ensures.slots c.self.inside.definition) c.in-Err.ensures.found)

pub returns-in_ok-add-in-Err-clause-stays : goal.returns-in_ok-add-in-Err-clause-stays
returns-in_ok-add-in-Err-clause-stays c = made_stays c.self.inside.definition c.self.inside.committed c.self.inside.committed c.self.inside.overlay c.add.new.self c.args.self.now c.self.invariant.holds c.self.view_is refl (omega arith) c.args.key.now None c.in-Err.spot c.in-Err.ensures.found (made_for c.self.inside.definition c.args.key.now c.in_ok-bearer-in-Err.bearer None c.self.inside.overlay c.add.new.self c.in-Err.spot (ap (primary_key c.self.inside.definition) c.in_ok-bearer-in-Err.ensures ∙ key_of_row c.self.inside.definition c.args.key.now c.in-Some.row.now (committed_slots c.self.inside.definition c.self.inside.committed) c.self.invariant.holds.whole c.in-Some.ensures) (c.in_ok-add-in-Err.ensures.slots c.self.inside.definition) c.in-Err.ensures.found)

pub fill-requires-clause-apart : goal.fill-requires-clause-apart
fill-requires-clause-apart c =
    apart_above c.self.inside.definition (committed_slots c.self.inside.definition c.self.inside.committed) (entry_slots c.self.inside.definition c.self.inside.overlay) (room_of c.self.inside.committed) c.self.inside.overlay.fresh c.self.invariant.holds
