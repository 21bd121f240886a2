use Rattle.std.proofs.Common.{◌≡◌, true, false, ap, ◌∙◌, rules, arith}
use Rattle.std.specs.Prelude.{Some}
use Rattle.sql_tree.specs.declared.statements.TriggerDef.{TriggerDef}
use Rattle.catalog_objects.specs.Keys.{Event, event_of, event_order, time_number, cause_number}
use Rattle.catalog_objects.specs.Rising.{has_key}
use Rattle.catalog_objects.proofs.Orders.{events_total, events_exact}
use Rattle.catalog_objects.proofs.Rising.{found_at, missed_at, past_all}
use Rattle.catalog_objects.proofs.looking.trigger_for.Goals as goal
use Rattle.catalog_objects.proofs.looking.trigger_for.Goals.{then-at-waiting+else-is_eq, else-at-waiting}

pub returns-then-is_eq : goal.returns-then-is_eq
returns-then-is_eq c =
    let event : Event = record { table = c.args.table.now; time = time_number c.args.time; event = cause_number c.args.event } in
    let same : c.get-trigger.result.now ≡ c.index-waiting-at.result = c.get-trigger.ensures ∙ c.get.ensures in
    let is : has_key event_order event_of event c.index-waiting-at.result ≡ true = search rules in
    ap (λ (t : TriggerDef). Some t) same
    ∙ found_at event_of events_total events_exact event c.args.waiting.now c.place_waiting-at.result c.index-waiting-at.result c.place_waiting-at.ensures c.if-at-waiting.true c.index-waiting-at.is is

pub returns : goal.returns
returns c = elim c.if-at-waiting.branch [
  | then-at-waiting+else-is_eq w ↦
      let event : Event = record { table = c.args.table.now; time = time_number c.args.time; event = cause_number c.args.event } in
      let other : has_key event_order event_of event w.index-waiting-at.result ≡ false = search rules in
      missed_at event_of events_total events_exact event c.args.waiting.now c.place_waiting-at.result w.index-waiting-at.result c.requires c.place_waiting-at.ensures w.index-waiting-at.is other
  | else-at-waiting w ↦
      past_all event_of events_total events_exact (record { table = c.args.table.now; time = time_number c.args.time; event = cause_number c.args.event }) c.args.waiting.now c.place_waiting-at.result c.requires c.place_waiting-at.ensures (omega arith)
]
