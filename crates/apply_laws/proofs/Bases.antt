-- What holds of bases holds behind each entry.
use Rattle.std.proofs.Common.{◌≡◌, ℕ, true, List, Option, Some, None, refl, sym, ap, subst, ◌∙◌}
use Rattle.std.specs.List.{list_any}
use Rattle.std.specs.Option.{option_map}
use Rattle.val_types.specs.declared.change.Change.{Change}
use Rattle.table_rules.specs.Tables.{Table}
use Rattle.table_rules.specs.Stored.{all_applied}
use Rattle.table_rules.specs.Stores.{definitions_of, names_differ}
use Rattle.table_rules.proofs.Storing.{some_same, turn_back}
use Rattle.sql_tree.specs.Statement.{Statement, create_table, create_function, create_procedure, create_trigger, drop_table, drop_function, drop_procedure, drop_trigger, truncate}
use Rattle.statement_names.specs.catalog_rules.Objects.{Object, function, procedure, reaction}
use Rattle.statement_names.specs.catalog_rules.Defined.{definition_of}
use Rattle.statement_names.specs.catalog_rules.Creating.{ddl_refusal, catalog_after}
use Rattle.statement_names.specs.catalog_rules.Bases.{Base, tables_after, defined, definitions_in}
use Rattle.log_entry_laws.specs.log_entries.declared.entries.Entry.{Entry}
use Rattle.log_entry_laws.specs.log_entries.declared.entries.Entry.TheVariants.{Transaction, Definition, LogStart}
use Rattle.log_entry_laws.specs.log_entries.Entries.{with_tables, entry_applied}
use Rattle.session_replays.specs.session_model.Machine.{Whole}
use Rattle.session_replays.specs.session_model.Holding.{changes_of, define, changes_in}
use Rattle.apply_laws.specs.Following.{BaseHolds}
use Rattle.apply_laws.specs.Laws.{BasesHold}
use Rattle.apply_laws.proofs.Catalogs.{named, beside, created_free, names_more, definitions_more, definitions_behind, kept_more, tables_beside_are, objects_beside_are, names_fewer, kept_fewer, cleared_are, kept_cleared, functions_out, procedures_out, triggers_out, program_made}
use Rattle.apply_laws.proofs.Changes.{all_definitions}

-- ---- definitions

-- where the tables and those of the catalog stay
stays : (base : Base) (catalog : List Object) → BaseHolds base → definitions_in catalog ≡ definitions_in base.catalog → BaseHolds (record { catalog = catalog; tables = base.tables })
stays base catalog h same = record { theirs = h.theirs ∙ sym same; names = h.names; kept = h.kept }

by_statement : (s : Statement) (base : Base) → BaseHolds base → ddl_refusal base.catalog s ≡ None
    → BaseHolds (record { catalog = catalog_after s base.catalog; tables = tables_after s base.tables })
by_statement (create_table t) base h free =
    let d = definition_of t in
    record {
      theirs = definitions_more base.tables base.catalog d h.theirs;
      names = ap names_differ (definitions_behind base.tables d)
          ∙ names_more (definitions_of base.tables) d h.names (ap (list_any (named d.name)) h.theirs ∙ created_free base.catalog t free);
      kept = kept_more base.tables d h.kept;
    }
by_statement (drop_table name) base h free =
    let differ : names_differ (definitions_in base.catalog) ≡ true = ap names_differ (sym h.theirs) ∙ h.names in
    record {
      theirs = tables_beside_are name base.tables ∙ ap (beside name) h.theirs ∙ sym (objects_beside_are name base.catalog differ);
      names = ap names_differ (tables_beside_are name base.tables) ∙ names_fewer name (definitions_of base.tables) h.names;
      kept = kept_fewer name base.tables h.kept;
    }
by_statement (truncate name) base h free = record {
  theirs = cleared_are name base.tables ∙ h.theirs;
  names = ap names_differ (cleared_are name base.tables) ∙ h.names;
  kept = kept_cleared name base.tables h.kept;
}
by_statement (create_function p) base h free = stays base _ h (program_made (function p) base.catalog refl)
by_statement (create_procedure p) base h free = stays base _ h (program_made (procedure p) base.catalog refl)
by_statement (create_trigger t) base h free = stays base _ h (program_made (reaction t) base.catalog refl)
by_statement (drop_function name) base h free = stays base _ h (functions_out name base.catalog)
by_statement (drop_procedure name) base h free = stays base _ h (procedures_out name base.catalog)
by_statement (drop_trigger name) base h free = stays base _ h (triggers_out name base.catalog)
by_statement s base h free = h

by_refusal : (s : Statement) (base next : Base) (o : Option ℕ) → ddl_refusal base.catalog s ≡ o → BaseHolds base
    → elim o as (λ _. Option Base) [ None ↦ Some (record { catalog = catalog_after s base.catalog; tables = tables_after s base.tables }) | Some code ↦ None ] ≡ Some next
    → BaseHolds next
by_refusal s base next None free h e = subst (λ (b : Base). BaseHolds b) (some_same _ next e) (by_statement s base h free)
by_refusal s base next (Some code) free h e = cc

pub definition_holds : (s : Statement) (base next : Base) → BaseHolds base → defined s base ≡ Some next → BaseHolds next
definition_holds s base next h e = by_refusal s base next (ddl_refusal base.catalog s) refl h e

-- ---- transactions

by_tables : (changes : List Change) (base next : Base) (o : Option (List Table)) → all_applied changes base.tables ≡ o → BaseHolds base
    → option_map (with_tables base) o ≡ Some next → BaseHolds next
by_tables changes base next None made h e = cc
by_tables changes base next (Some tables) made h e =
    let same : definitions_of tables ≡ definitions_of base.tables = all_definitions changes base.tables tables made in
    subst (λ (b : Base). BaseHolds b) (some_same (with_tables base tables) next e) (record {
      theirs = same ∙ h.theirs;
      names = ap names_differ same ∙ h.names;
      kept = (turn_back changes base.tables tables h.kept made).1;
    })

-- ---- entries

behind_each : (e : Entry Whole) (base next : Base) → BaseHolds base → entry_applied changes_of define e base ≡ Some next → BaseHolds next
behind_each (Transaction stamp server items) base next h e = by_tables (changes_in items) base next (all_applied (changes_in items) base.tables) refl h e
behind_each (Definition stamp server item) base next h e = definition_holds item.began.tree base next h e
behind_each (LogStart stamp server) base next h e = subst (λ (b : Base). BaseHolds b) (some_same base next e) h

pub bases_hold : BasesHold
bases_hold = (record { theirs = refl; names = refl; kept = tt }, behind_each)
