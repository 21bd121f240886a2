use Rattle.std.proofs.Common.{◌≡◌, sym, ap, ◌∙◌, rules}
use Rattle.val_types.specs.declared.change.Change.{Change}
use Rattle.std.proofs.Common.{List, map}
use Rattle.event_codec.specs.declared.event.MapView.{MapView}
use Rattle.log_groups.specs.log_model.Groups.{find}
use Rattle.event_codec.specs.Event.{map_of, rows_of}
use Rattle.apply_laws.specs.row_events.Sizes.{bounded}
use Rattle.apply_laws.specs.binlog_sizes.Sizes.{changes_size}
use Rattle.apply_model.specs.Groups.{carry_changes}
use Rattle.row_apply.specs.Ends.{progress_in}
use Rattle.stmt_apply.proofs.Going.{rows_ended_so, rows_stand}
use Rattle.stmt_apply.proofs.transaction.apply_rows.Goals as goal

pub returns-clause-goes : goal.returns-clause-goes
returns-clause-goes c = λ g h.
    let m = map_of c.in-Some.map in
    let r = rows_of c.args.rows.now in
    let old = c.args.work.now in
    let new = c.carry_changes.new.work in
    let ends = ap (λ (cs : List Change). carry_changes c.args.pos m cs (progress_in old)) (sym c.in_ok-changes.ensures) ∙ c.in_ok-carry_changes.ensures.ends in
    let known = c.in-Some.ensures ∙ ap (λ (ms : List MapView). find c.args.rows.now.id (map map_of ms)) c.as_slice.ensures in
    let sized : c.changes_size-size.result ≡ bounded (changes_size c.in_ok-changes.changes) = search rules in
    rows_ended_so c.end_rows.result c.args.pos c.unwrap_or.result r old new c.args.under_way.now c.end_rows.new.self g m h known ends c.unwrap_or.ensures
    (c.end_rows.ensures new (record g { progress = progress_in new })
    (rows_stand c.args.pos c.in_ok-changes.changes old new c.args.under_way.now g m c.changes_size-size.result c.saturating_add-under_way.result h c.in_ok-carry_changes.ensures.ends
    sized c.saturating_add-under_way.ensures))
