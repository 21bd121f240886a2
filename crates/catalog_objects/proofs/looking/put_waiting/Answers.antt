use Rattle.std.proofs.Common.{◌≡◌, ℕ, ◌≤◌, length, ap, ◌∙◌, sym, arith, rules}
use Rattle.std.specs.Prelude.{Option}
use Rattle.std.specs.List.{insert}
use Rattle.sql_tree.specs.declared.statements.TriggerDef.{TriggerDef}
use Rattle.catalog_objects.specs.Keys.{event_of, event_order}
use Rattle.catalog_objects.specs.Rising.{is_not_before, place}
use Rattle.catalog_objects.specs.Lookups.{waiting_with}
use Rattle.catalog_objects.proofs.Orders.{events_total, events_exact}
use Rattle.catalog_objects.proofs.Rising.{inserted, place_at_most}
use Rattle.catalog_objects.proofs.looking.put_waiting.Goals as goal

pub put_in-requires-clause-within : goal.put_in-requires-clause-within
put_in-requires-clause-within c =
    let at : c.place_waiting-at.result ≡ place (is_not_before event_order event_of (event_of c.in-Some.trigger)) c.args.waiting.now.items = search rules in
    let most : place (is_not_before event_order event_of (event_of c.in-Some.trigger)) c.args.waiting.now.items ≤ length c.args.waiting.now.items =
    place_at_most (is_not_before event_order event_of (event_of c.in-Some.trigger)) c.args.waiting.now.items in
    omega arith

pub returns-in-Some : goal.returns-in-Some
returns-in-Some c =
    let at : c.place_waiting-at.result ≡ place (is_not_before event_order event_of (event_of c.in-Some.trigger)) c.args.waiting.now.items = search rules in
    c.put_in.ensures ∙ ap (λ (k : ℕ). insert c.args.waiting.now.items k c.in-Some.trigger) at
    ∙ inserted event_of events_total events_exact c.in-Some.trigger c.args.waiting.now.items
    ∙ ap (λ (t : Option TriggerDef). waiting_with t c.args.waiting.now.items) (sym c.in-Some.is)
