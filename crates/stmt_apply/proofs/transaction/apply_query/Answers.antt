use Rattle.std.proofs.Common.{◌≡◌, ℕ, List, ap, drop, length, ◌∙◌}
use Rattle.val_types.specs.declared.change.Change.{Change}
use Rattle.event_codec.specs.Event.{query_of}
use Rattle.apply_laws.specs.row_events.Sizes.{bounded}
use Rattle.apply_laws.specs.binlog_sizes.Sizes.{changes_size}
use Rattle.row_apply.specs.Ends.{progress_in}
use Rattle.stmt_apply.specs.Applying.{applier_in}
use Rattle.stmt_apply.proofs.Going.{text_run, text_stands}
use Rattle.stmt_apply.proofs.transaction.apply_query.Goals as goal

pub returns-in_ok-size-in-Ok-clause-goes : goal.returns-in_ok-size-in-Ok-clause-goes
returns-in_ok-size-in-Ok-clause-goes c = λ g h.
    let a = applier_in c.args.identity.now c.args.draw.now c.args.work.now in
    let q = query_of c.args.query.now in
    let old = c.args.work.now in
    let new = c.run_text.new.work in
    let mark : c.mark-mark.result ≡ length old.changes = c.mark-mark.ensures ∙ ap (λ (cs : List Change). length cs) c.undo.ensures in
    let sized : c.in_ok-size-in-Ok.size ≡ bounded (changes_size (drop (length old.changes) new.changes)) =
    c.in_ok-size-in-Ok.ensures ∙ ap (λ (n : ℕ). bounded (changes_size (drop n new.changes))) mark in
    text_run a c.args.pos c.args.query.now.stamp q old c.args.under_way.now g h new c.in_ok-size-in-Ok.size c.saturating_add-under_way.result c.run_text.new.needs c.end_item.result c.end_item.new.self
    c.in-Ok.ensures.ends
    (c.end_item.ensures new (record g { progress = progress_in new })
    (text_stands a c.args.pos c.args.query.now.stamp q old c.args.under_way.now g h new c.in_ok-size-in-Ok.size c.saturating_add-under_way.result c.run_text.new.needs c.in-Ok.ensures.adds sized
    c.saturating_add-under_way.ensures c.in-Ok.ensures.needs))
