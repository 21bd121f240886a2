use Rattle.std.proofs.Common.{true, false, refl, sym, ap, ◌∙◌, arith}
use Rattle.val_types.specs.Keys.{primary_key}
use Rattle.table_sheet.specs.Pages.{Page, has_entry}
use Rattle.table_sheet.specs.Parts.{committed_slots, entry_slots, page_of, room_of}
use Rattle.table_sheet.proofs.Apart.{apart_above, above_changed, above_added, found_as}
use Rattle.table_sheet.proofs.Exchanged.{shows_standing, nothing_standing, compared_standing, again_holds, again_rows, over_holds, over_rows, where_failed}
use Rattle.table_sheet.proofs.Turning.{same_holds, set_stays, set_entry, made_stays, made_entry, either_way, key_of_row, made_for}
use Rattle.table_sheet.proofs.sheet.Sheet.set_just.Goals as goal

pub returns-then-not-shows-clause-stood : goal.returns-then-not-shows-clause-stood
returns-then-not-shows-clause-stood c = shows_standing c.self.inside.definition c.args.old.now c.self.inside.committed c.self.inside.overlay c.args.self.now c.in-Ok.spot c.self.invariant.holds c.self.view_is c.in-Ok.ensures.found false c.if-not-shows.ensures

pub invariant_of-self : goal.invariant_of-self
invariant_of-self c = record {
  holds =
      again_holds c.self.inside.definition c.self.inside.committed c.self.inside.committed c.self.inside.overlay c.fill.new.self c.args.self.now c.self.invariant.holds c.self.view_is refl (omega arith) c.args.old.now (sym (shows_standing c.self.inside.definition c.args.old.now c.self.inside.committed c.self.inside.overlay c.args.self.now c.in-Ok.spot c.self.invariant.holds c.self.view_is c.in-Ok.ensures.found true c.if-not-shows.ensures)) c.args.present c.requires.fits c.requires.keys c.in-Ok.spot c.in-Ok.ensures.found (c.fill.ensures.slots c.self.inside.definition (primary_key c.self.inside.definition c.args.old.now) c.self.invariant.holds.rising c.in-Ok.ensures.found) c.fill.ensures.fresh;
  indexed =
      above_changed c.self.inside.definition c.self.inside.committed c.self.inside.overlay c.fill.new.self c.self.invariant.indexed
      (again_holds c.self.inside.definition c.self.inside.committed c.self.inside.committed c.self.inside.overlay c.fill.new.self c.args.self.now c.self.invariant.holds c.self.view_is refl (omega arith) c.args.old.now (sym (shows_standing c.self.inside.definition c.args.old.now c.self.inside.committed c.self.inside.overlay c.args.self.now c.in-Ok.spot c.self.invariant.holds c.self.view_is c.in-Ok.ensures.found true c.if-not-shows.ensures)) c.args.present c.requires.fits c.requires.keys c.in-Ok.spot c.in-Ok.ensures.found (c.fill.ensures.slots c.self.inside.definition (primary_key c.self.inside.definition c.args.old.now) c.self.invariant.holds.rising c.in-Ok.ensures.found) c.fill.ensures.fresh)
      c.fill.ensures.above;
}

pub returns-else-not-shows-clause-stood : goal.returns-else-not-shows-clause-stood
returns-else-not-shows-clause-stood c = shows_standing c.self.inside.definition c.args.old.now c.self.inside.committed c.self.inside.overlay c.args.self.now c.in-Ok.spot c.self.invariant.holds c.self.view_is c.in-Ok.ensures.found true c.if-not-shows.ensures

pub returns-else-not-shows-clause-rows : goal.returns-else-not-shows-clause-rows
returns-else-not-shows-clause-rows c = again_rows c.self.inside.definition c.self.inside.committed c.self.inside.committed c.self.inside.overlay c.fill.new.self c.args.self.now c.self.invariant.holds c.self.view_is refl (omega arith) c.args.old.now (sym (shows_standing c.self.inside.definition c.args.old.now c.self.inside.committed c.self.inside.overlay c.args.self.now c.in-Ok.spot c.self.invariant.holds c.self.view_is c.in-Ok.ensures.found true c.if-not-shows.ensures)) c.args.present c.requires.fits c.requires.keys c.in-Ok.spot c.in-Ok.ensures.found (c.fill.ensures.slots c.self.inside.definition (primary_key c.self.inside.definition c.args.old.now) c.self.invariant.holds.rising c.in-Ok.ensures.found)

pub returns-else-not-shows-clause-entry : goal.returns-else-not-shows-clause-entry
returns-else-not-shows-clause-entry c = λ stood.
    ap (λ (p : Page). has_entry (primary_key p.definition c.args.old.now) (page_of c.self.inside.definition c.self.inside.committed c.fill.new.self)) (sym c.self.view_is)
    ∙ set_entry c.self.inside.definition c.self.inside.committed c.self.inside.committed c.self.inside.overlay c.fill.new.self c.args.self.now c.self.invariant.holds c.self.view_is refl (omega arith) (primary_key c.self.inside.definition c.args.old.now) c.in-Ok.spot c.in-Ok.ensures.found c.args.present (c.fill.ensures.slots c.self.inside.definition (primary_key c.self.inside.definition c.args.old.now) c.self.invariant.holds.rising c.in-Ok.ensures.found)

pub returns-else-not-shows-clause-stays : goal.returns-else-not-shows-clause-stays
returns-else-not-shows-clause-stays c = set_stays c.self.inside.definition c.self.inside.committed c.self.inside.committed c.self.inside.overlay c.fill.new.self c.args.self.now c.self.invariant.holds c.self.view_is refl (omega arith) (primary_key c.self.inside.definition c.args.old.now) c.in-Ok.spot c.in-Ok.ensures.found c.args.present (c.fill.ensures.slots c.self.inside.definition (primary_key c.self.inside.definition c.args.old.now) c.self.invariant.holds.rising c.in-Ok.ensures.found)

pub returns-in-None-clause-stood : goal.returns-in-None-clause-stood
returns-in-None-clause-stood c = nothing_standing c.self.inside.definition c.args.old.now c.self.inside.committed c.self.inside.overlay c.args.self.now c.in-Err.spot c.self.invariant.holds c.self.view_is c.in-Err.ensures.found c.in-None.ensures

pub returns-then-not-is_eq-clause-stood : goal.returns-then-not-is_eq-clause-stood
returns-then-not-is_eq-clause-stood c = compared_standing c.self.inside.definition c.args.old.now c.self.inside.committed c.self.inside.overlay c.args.self.now c.in-Err.spot c.self.invariant.holds c.self.view_is c.in-Err.ensures.found c.in-Some.row.now c.in-Some.ensures c.get.result.now c.key_cmp.result false c.get.ensures c.key_cmp.ensures.order c.if-not-is_eq.ensures

pub returns-in_err-bearer-in-Err-clause-failed : goal.returns-in_err-bearer-in-Err-clause-failed
returns-in_err-bearer-in-Err-clause-failed c = where_failed c.from_residual.result (sym (compared_standing c.self.inside.definition c.args.old.now c.self.inside.committed c.self.inside.overlay c.args.self.now c.in-Err.spot c.self.invariant.holds c.self.view_is c.in-Err.ensures.found c.in-Some.row.now c.in-Some.ensures c.get.result.now c.key_cmp.result true c.get.ensures c.key_cmp.ensures.order c.if-not-is_eq.ensures))

pub invariant_of-self-in-Err : goal.invariant_of-self-in-Err
invariant_of-self-in-Err c = record {
  holds =
      either_way c.add.result c.add.ensures.slots c.add.ensures.fresh c.add.ensures.same c.add.ensures.same_fresh
      (λ slots fresh. over_holds c.self.inside.definition c.self.inside.committed c.self.inside.committed c.self.inside.overlay c.add.new.self c.args.self.now c.self.invariant.holds c.self.view_is refl (omega arith) c.args.old.now (sym (compared_standing c.self.inside.definition c.args.old.now c.self.inside.committed c.self.inside.overlay c.args.self.now c.in-Err.spot c.self.invariant.holds c.self.view_is c.in-Err.ensures.found c.in-Some.row.now c.in-Some.ensures c.get.result.now c.key_cmp.result true c.get.ensures c.key_cmp.ensures.order c.if-not-is_eq.ensures)) c.args.present c.requires.fits c.requires.keys c.in-Err.spot c.in-Err.ensures.found (made_for c.self.inside.definition (primary_key c.self.inside.definition c.args.old.now) c.in_ok-bearer-in-Err.bearer c.args.present c.self.inside.overlay c.add.new.self c.in-Err.spot (ap (primary_key c.self.inside.definition) c.in_ok-bearer-in-Err.ensures ∙ key_of_row c.self.inside.definition (primary_key c.self.inside.definition c.args.old.now) c.in-Some.row.now (committed_slots c.self.inside.definition c.self.inside.committed) c.self.invariant.holds.whole c.in-Some.ensures) (slots c.self.inside.definition) c.in-Err.ensures.found) c.in-Some.row.now c.in-Some.ensures (omega (arith, fresh)))
      (λ same fresh. same_holds c.self.inside.definition c.self.inside.committed c.self.inside.committed c.self.inside.overlay c.add.new.self c.args.self.now c.self.invariant.holds c.self.view_is refl (omega arith) (same c.self.inside.definition) fresh);
  indexed =
      above_added c.self.inside.definition c.self.inside.committed c.self.inside.overlay c.add.new.self c.self.invariant.indexed
      (either_way c.add.result c.add.ensures.slots c.add.ensures.fresh c.add.ensures.same c.add.ensures.same_fresh
      (λ slots fresh. over_holds c.self.inside.definition c.self.inside.committed c.self.inside.committed c.self.inside.overlay c.add.new.self c.args.self.now c.self.invariant.holds c.self.view_is refl (omega arith) c.args.old.now (sym (compared_standing c.self.inside.definition c.args.old.now c.self.inside.committed c.self.inside.overlay c.args.self.now c.in-Err.spot c.self.invariant.holds c.self.view_is c.in-Err.ensures.found c.in-Some.row.now c.in-Some.ensures c.get.result.now c.key_cmp.result true c.get.ensures c.key_cmp.ensures.order c.if-not-is_eq.ensures)) c.args.present c.requires.fits c.requires.keys c.in-Err.spot c.in-Err.ensures.found (made_for c.self.inside.definition (primary_key c.self.inside.definition c.args.old.now) c.in_ok-bearer-in-Err.bearer c.args.present c.self.inside.overlay c.add.new.self c.in-Err.spot (ap (primary_key c.self.inside.definition) c.in_ok-bearer-in-Err.ensures ∙ key_of_row c.self.inside.definition (primary_key c.self.inside.definition c.args.old.now) c.in-Some.row.now (committed_slots c.self.inside.definition c.self.inside.committed) c.self.invariant.holds.whole c.in-Some.ensures) (slots c.self.inside.definition) c.in-Err.ensures.found) c.in-Some.row.now c.in-Some.ensures (omega (arith, fresh)))
      (λ same fresh. same_holds c.self.inside.definition c.self.inside.committed c.self.inside.committed c.self.inside.overlay c.add.new.self c.args.self.now c.self.invariant.holds c.self.view_is refl (omega arith) (same c.self.inside.definition) fresh))
      c.add.result c.add.ensures.above c.add.ensures.same_above (found_as c.self.inside.definition c.self.inside.overlay c.in-Err.spot _ _ (ap (primary_key c.self.inside.definition) c.in_ok-bearer-in-Err.ensures ∙ key_of_row c.self.inside.definition (primary_key c.self.inside.definition c.args.old.now) c.in-Some.row.now (committed_slots c.self.inside.definition c.self.inside.committed) c.self.invariant.holds.whole c.in-Some.ensures) c.in-Err.ensures.found);
}

pub returns-in_err-add-in-Err-clause-failed : goal.returns-in_err-add-in-Err-clause-failed
returns-in_err-add-in-Err-clause-failed c = where_failed c.from_residual-in_err-add-in-Err.result (sym (compared_standing c.self.inside.definition c.args.old.now c.self.inside.committed c.self.inside.overlay c.args.self.now c.in-Err.spot c.self.invariant.holds c.self.view_is c.in-Err.ensures.found c.in-Some.row.now c.in-Some.ensures c.get.result.now c.key_cmp.result true c.get.ensures c.key_cmp.ensures.order c.if-not-is_eq.ensures))

pub returns-in_ok-add-in-Err-clause-stood : goal.returns-in_ok-add-in-Err-clause-stood
returns-in_ok-add-in-Err-clause-stood c = compared_standing c.self.inside.definition c.args.old.now c.self.inside.committed c.self.inside.overlay c.args.self.now c.in-Err.spot c.self.invariant.holds c.self.view_is c.in-Err.ensures.found c.in-Some.row.now c.in-Some.ensures c.get.result.now c.key_cmp.result true c.get.ensures c.key_cmp.ensures.order c.if-not-is_eq.ensures

pub returns-in_ok-add-in-Err-clause-rows : goal.returns-in_ok-add-in-Err-clause-rows
returns-in_ok-add-in-Err-clause-rows c = over_rows c.self.inside.definition c.self.inside.committed c.self.inside.committed c.self.inside.overlay c.add.new.self c.args.self.now c.self.invariant.holds c.self.view_is refl (omega arith) c.args.old.now (sym (compared_standing c.self.inside.definition c.args.old.now c.self.inside.committed c.self.inside.overlay c.args.self.now c.in-Err.spot c.self.invariant.holds c.self.view_is c.in-Err.ensures.found c.in-Some.row.now c.in-Some.ensures c.get.result.now c.key_cmp.result true c.get.ensures c.key_cmp.ensures.order c.if-not-is_eq.ensures)) c.args.present c.requires.fits c.requires.keys c.in-Err.spot c.in-Err.ensures.found (made_for c.self.inside.definition (primary_key c.self.inside.definition c.args.old.now) c.in_ok-bearer-in-Err.bearer c.args.present c.self.inside.overlay c.add.new.self c.in-Err.spot (ap (primary_key c.self.inside.definition) c.in_ok-bearer-in-Err.ensures ∙ key_of_row c.self.inside.definition (primary_key c.self.inside.definition c.args.old.now) c.in-Some.row.now (committed_slots c.self.inside.definition c.self.inside.committed) c.self.invariant.holds.whole c.in-Some.ensures) (c.in_ok-add-in-Err.ensures.slots c.self.inside.definition) c.in-Err.ensures.found) c.in-Some.row.now c.in-Some.ensures

pub returns-in_ok-add-in-Err-clause-entry : goal.returns-in_ok-add-in-Err-clause-entry
returns-in_ok-add-in-Err-clause-entry c = λ stood.
    ap (λ (p : Page). has_entry (primary_key p.definition c.args.old.now) (page_of c.self.inside.definition c.self.inside.committed c.add.new.self)) (sym c.self.view_is)
    ∙ made_entry c.self.inside.definition c.self.inside.committed c.self.inside.committed c.self.inside.overlay c.add.new.self c.args.self.now c.self.invariant.holds c.self.view_is refl (omega arith) (primary_key c.self.inside.definition c.args.old.now) c.args.present c.in-Err.spot c.in-Err.ensures.found (made_for c.self.inside.definition (primary_key c.self.inside.definition c.args.old.now) c.in_ok-bearer-in-Err.bearer c.args.present c.self.inside.overlay c.add.new.self c.in-Err.spot (ap (primary_key c.self.inside.definition) c.in_ok-bearer-in-Err.ensures ∙ key_of_row c.self.inside.definition (primary_key c.self.inside.definition c.args.old.now) c.in-Some.row.now (committed_slots c.self.inside.definition c.self.inside.committed) c.self.invariant.holds.whole c.in-Some.ensures) (c.in_ok-add-in-Err.ensures.slots c.self.inside.definition) c.in-Err.ensures.found)

pub returns-in_ok-add-in-Err-clause-stays : goal.returns-in_ok-add-in-Err-clause-stays
returns-in_ok-add-in-Err-clause-stays c = made_stays c.self.inside.definition c.self.inside.committed c.self.inside.committed c.self.inside.overlay c.add.new.self c.args.self.now c.self.invariant.holds c.self.view_is refl (omega arith) (primary_key c.self.inside.definition c.args.old.now) c.args.present c.in-Err.spot c.in-Err.ensures.found (made_for c.self.inside.definition (primary_key c.self.inside.definition c.args.old.now) c.in_ok-bearer-in-Err.bearer c.args.present c.self.inside.overlay c.add.new.self c.in-Err.spot (ap (primary_key c.self.inside.definition) c.in_ok-bearer-in-Err.ensures ∙ key_of_row c.self.inside.definition (primary_key c.self.inside.definition c.args.old.now) c.in-Some.row.now (committed_slots c.self.inside.definition c.self.inside.committed) c.self.invariant.holds.whole c.in-Some.ensures) (c.in_ok-add-in-Err.ensures.slots c.self.inside.definition) c.in-Err.ensures.found)

pub fill-requires-clause-apart : goal.fill-requires-clause-apart
fill-requires-clause-apart c =
    apart_above c.self.inside.definition (committed_slots c.self.inside.definition c.self.inside.committed) (entry_slots c.self.inside.definition c.self.inside.overlay) (room_of c.self.inside.committed) c.self.inside.overlay.fresh c.self.invariant.holds
