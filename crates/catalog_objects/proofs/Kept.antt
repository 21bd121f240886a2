-- What a DROP leaves, and what one more object makes, in each of the lists of a catalog.
use Rattle.std.proofs.Common.{◌≡◌, Bool, true, false, not, List, [], ◌∷◌, ◌++◌, None, cond, refl, ap, ◌∙◌}
use Rattle.std.specs.Prelude.{filter}
use Rattle.std.proofs.lemmas.List.Elements.{filter_map-append}
use Rattle.sql_tree.specs.Statement.{Statement, drop_table, drop_function, drop_procedure, drop_trigger}
use Rattle.sql_tree.specs.declared.statements.TriggerDef.{TriggerDef}
use Rattle.catalog_rules.specs.Objects as rules
use Rattle.catalog_rules.specs.Creating.{goes_with_table, is_function_named, is_procedure_named, is_trigger_named, objects_but, catalog_after}
use Rattle.catalog_objects.specs.declared.object.Object.{Object}
use Rattle.catalog_objects.specs.declared.object.Object.TheVariants as kinds
use Rattle.catalog_objects.specs.Keys.{seen, objects_of, key_of, key_order, event_of, event_order, trigger_if, triggers_in}
use Rattle.catalog_objects.specs.Rising.{find_by, has_key, put}
use Rattle.catalog_objects.specs.Lookups.{stays_with, trigger_stays, is_drop, AreFound, is_free, is_event_free, waiting_with}
use Rattle.catalog_objects.proofs.Rising.{indexed_kept, indexed_more}
use Rattle.catalog_objects.proofs.Orders.{keys_total, keys_exact, events_total, events_exact}

-- ---- kept objects as they are seen

seen_step : (b : Bool) (o : Object) (os more : List Object) (rest : List rules.Object) → objects_of more ≡ rest → objects_of (cond b (o ∷ more) more) ≡ cond b (seen o ∷ rest) rest
seen_step true o os more rest later = ap (λ (xs : List rules.Object). seen o ∷ xs) later
seen_step false o os more rest later = later

seen_kept : (goes : rules.Object → Bool) (objects : List Object) → objects_of (filter (λ o. not (goes (seen o))) objects) ≡ objects_but goes (objects_of objects)
seen_kept goes [] = refl
seen_kept goes (o ∷ os) = seen_step (not (goes (seen o))) o os (filter (λ o. not (goes (seen o))) os) (objects_but goes (objects_of os)) (seen_kept goes os)

-- what a DROP leaves
pub dropped : (s : Statement) (objects : List Object) → is_drop s ≡ true → objects_of (filter (stays_with s) objects) ≡ catalog_after s (objects_of objects)
dropped (drop_table name) objects e = seen_kept (goes_with_table name) objects
dropped (drop_function name) objects e = seen_kept (is_function_named name) objects
dropped (drop_procedure name) objects e = seen_kept (is_procedure_named name) objects
dropped (drop_trigger name) objects e = seen_kept (is_trigger_named name) objects
dropped s objects e = cc

-- ---- triggers

triggers_step : (b : Bool) (t : TriggerDef) (os : List Object) (rest : List TriggerDef) → triggers_in os ≡ rest → triggers_in (cond b (kinds.Trigger t ∷ os) os) ≡ cond b (t ∷ rest) rest
triggers_step true t os rest later = ap (λ (ts : List TriggerDef). t ∷ ts) later
triggers_step false t os rest later = later

other_step : (b : Bool) (o : Object) (os : List Object) (rest : List TriggerDef) → trigger_if o ≡ None → triggers_in os ≡ rest → triggers_in (cond b (o ∷ os) os) ≡ rest
other_step true o os rest none later = rw none later
other_step false o os rest none later = later

-- the triggers that stay are those among what stays
pub triggers_kept : (s : Statement) (objects : List Object) → triggers_in (filter (stays_with s) objects) ≡ filter (trigger_stays s) (triggers_in objects)
triggers_kept s [] = refl
triggers_kept s (kinds.Table d ∷ os) = other_step _ (kinds.Table d) (filter (stays_with s) os) (filter (trigger_stays s) (triggers_in os)) refl (triggers_kept s os)
triggers_kept s (kinds.Function p ∷ os) = other_step _ (kinds.Function p) (filter (stays_with s) os) (filter (trigger_stays s) (triggers_in os)) refl (triggers_kept s os)
triggers_kept s (kinds.Procedure p ∷ os) = other_step _ (kinds.Procedure p) (filter (stays_with s) os) (filter (trigger_stays s) (triggers_in os)) refl (triggers_kept s os)
triggers_kept s (kinds.Trigger t ∷ os) = triggers_step _ t (filter (stays_with s) os) (filter (trigger_stays s) (triggers_in os)) (triggers_kept s os)

-- the lists after a DROP
pub found_kept : (s : Statement) (objects named : List Object) (waiting : List TriggerDef) → AreFound objects named waiting
    → AreFound (filter (stays_with s) objects) (filter (stays_with s) named) (filter (trigger_stays s) waiting)
found_kept s objects named waiting was = record {
  names = indexed_kept key_of keys_total keys_exact (stays_with s) objects named was.names;
  events = rw (triggers_kept s objects) (indexed_kept event_of events_total events_exact (trigger_stays s) (triggers_in objects) waiting was.events);
}

-- ---- one more object

triggers_behind : (o : Object) (objects : List Object) → triggers_in (objects ++ o ∷ []) ≡ triggers_in objects ++ triggers_in (o ∷ [])
triggers_behind o objects = filter_map-append trigger_if objects (o ∷ [])

same_behind : (ts : List TriggerDef) → ts ++ [] ≡ ts
same_behind [] = refl
same_behind (t ∷ ts) = ap (λ (rest : List TriggerDef). t ∷ rest) (same_behind ts)

-- the lists with an object that is no trigger
pub found_more : (o : Object) (objects named : List Object) (waiting : List TriggerDef) → trigger_if o ≡ None
    → find_by (has_key key_order key_of (key_of o)) objects ≡ None → AreFound objects named waiting
    → AreFound (objects ++ o ∷ []) (put key_order key_of o named) waiting
found_more o objects named waiting other none was =
    let same : triggers_in (objects ++ o ∷ []) ≡ triggers_in objects =
    triggers_behind o objects ∙ rw other (same_behind (triggers_in objects)) in
    record {
      names = indexed_more key_of keys_total keys_exact o objects named none was.names;
      events = rw same was.events;
    }

-- the lists with a trigger
pub found_trigger : (t : TriggerDef) (objects named : List Object) (waiting : List TriggerDef)
    → find_by (has_key key_order key_of (key_of (kinds.Trigger t))) objects ≡ None
    → find_by (has_key event_order event_of (event_of t)) (triggers_in objects) ≡ None → AreFound objects named waiting
    → AreFound (objects ++ kinds.Trigger t ∷ []) (put key_order key_of (kinds.Trigger t) named) (put event_order event_of t waiting)
found_trigger t objects named waiting none free was = record {
  names = indexed_more key_of keys_total keys_exact (kinds.Trigger t) objects named none was.names;
  events = rw (triggers_behind (kinds.Trigger t) objects) (indexed_more event_of events_total events_exact t (triggers_in objects) waiting free was.events);
}

-- the lists with any object
pub found_added : (o : Object) (objects named : List Object) (waiting : List TriggerDef) → is_free o objects → is_event_free o objects → AreFound objects named waiting
    → AreFound (objects ++ o ∷ []) (put key_order key_of o named) (waiting_with (trigger_if o) waiting)
found_added (kinds.Table d) objects named waiting none free was = found_more (kinds.Table d) objects named waiting refl none was
found_added (kinds.Function p) objects named waiting none free was = found_more (kinds.Function p) objects named waiting refl none was
found_added (kinds.Procedure p) objects named waiting none free was = found_more (kinds.Procedure p) objects named waiting refl none was
found_added (kinds.Trigger t) objects named waiting none free was = found_trigger t objects named waiting none free was
