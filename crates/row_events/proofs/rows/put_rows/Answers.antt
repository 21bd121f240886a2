use Rattle.std.proofs.Common.{◌≡◌, ℕ, List, ◌++◌, map, sym, ap, ◌∙◌, subst}
use Rattle.std.specs.Prelude.{IfOk}
use Rattle.event_codec.specs.Event.{table_map}
use Rattle.log_model.specs.Items.{at_time, maps_from}
use Rattle.log_model.specs.Written.{CanWriteAll}
use Rattle.row_events.specs.Runs.{rows_events}
use Rattle.row_events.specs.Writing.{Wrote}
use Rattle.row_events.proofs.Cutting.{item_split}
use Rattle.row_events.proofs.GoingOn.{first_can, second_can, both_if}
use Rattle.row_events.proofs.rows.put_rows.Goals as goal

pub put_maps-requires : goal.put_maps-requires
put_maps-requires c = first_can _ _ _ c.args.h.pos (item_split c.args.defs.now c.in_ok-names.names c.args.changes.now c.args.h.stamp c.in_ok-names.ensures) c.requires.events

pub put_runs-requires-clause-events : goal.put_runs-requires-clause-events
put_runs-requires-clause-events c =
    subst (λ (s : ℕ). CanWriteAll c.in_ok-here.here.pos (rows_events c.args.defs.now c.in_ok-names.names c.args.changes.now s)) (sym c.in_ok-here.ensures.ok.stamp)
    (second_can _ _ _ c.args.h c.in_ok-here.here c.args.out.now c.put_maps.new.out (item_split c.args.defs.now c.in_ok-names.names c.args.changes.now c.args.h.stamp c.in_ok-names.ensures) c.requires.events c.in_ok-here.ensures.ok)

pub returns-clause-ok : goal.returns-clause-ok
returns-clause-ok c =
    both_if (at_time c.args.h.stamp (map table_map (maps_from 1 c.args.defs.now c.in_ok-names.names))) (rows_events c.args.defs.now c.in_ok-names.names c.args.changes.now c.args.h.stamp) _
    c.args.h c.in_ok-here.here c.args.out.now c.put_maps.new.out c.put_runs.new.out c.put_runs.result
    (item_split c.args.defs.now c.in_ok-names.names c.args.changes.now c.args.h.stamp c.in_ok-names.ensures) c.in_ok-here.ensures.ok
    (subst (λ (s : ℕ). IfOk c.put_runs.result (λ to. Wrote (rows_events c.args.defs.now c.in_ok-names.names c.args.changes.now s) c.in_ok-here.here to c.put_maps.new.out c.put_runs.new.out)) c.in_ok-here.ensures.ok.stamp c.put_runs.ensures.ok)
