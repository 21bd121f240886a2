-- What a definition comes to.
use Rattle.std.proofs.Common.{◌≡◌, ℕ, List, [], ◌∷◌, ◌++◌, Option, Some, None, Err, refl, sym, ap, subst, ◌∙◌}
use Rattle.val_types.specs.declared.definitions.TableDef.{TableDef}
use Rattle.val_types.specs.declared.refusal.SqlRefusal.{SqlRefusal}
use Rattle.val_types.specs.declared.refusal.SqlRefusal.TheVariants.{Sql, NoMemory}
use Rattle.auto_inc.specs.declared.counters.Counter.{Counter}
use Rattle.val_types.specs.declared.change.Change.{Change}
use Rattle.auto_inc.specs.Counting.{value_for, counters_beside, tables_of}
use Rattle.table_rules.specs.Stored.{table_named, tables_beside, tables_cleared}
use Rattle.table_rules.specs.Stores.{Store, IsWhole}
use Rattle.sql_tree.specs.Statement.{Statement, create_table}
use Rattle.sql_tree.specs.declared.statements.CreateTable.{CreateTable}
use Rattle.sql_reach.specs.catalog_rules.Objects.{table, table_in}
use Rattle.sql_reach.specs.catalog_rules.Objects as rules
use Rattle.sql_reach.specs.catalog_rules.Defined.{definition_of}
use Rattle.sql_reach.specs.catalog_rules.Creating.{ddl_refusal, catalog_after, goes_with_table, objects_but}
use Rattle.sql_reach.specs.catalog_rules.Bases.{Base, table_without_rows, tables_after}
use Rattle.catalog.specs.Answers.{Lets, Makes as Made}
use Rattle.catalog.specs.catalog_objects.declared.object.Object.{Object}
use Rattle.catalog.specs.catalog_objects.Keys.{objects_of}
use Rattle.exec_state.specs.declared.stage.Stage.{Stage}
use Rattle.sql_reach.specs.Defining.{counters_after, counters_with}
use Rattle.prog_work.specs.Contents.{Contents, contents_of}
use Rattle.prog_work.specs.Defining.{Makes, definition_refusal}
use Rattle.prog_work.specs.Outcomes.{outcome_of_none}
use Rattle.prog_work.specs.Together.{AreTogether}
use Rattle.prog_work.proofs.Definitions.{together_made, together_dropped, together_cleared, no_table_yet, no_counter_yet, not_there_yet, found_made}
use Rattle.table_rules.proofs.Storing.{some_same}
use Rattle.prog_work.specs.declared.meter.Outcome.{Outcome}

-- a check of the catalog takes no memory
pub check_not_short : (o : Option ℕ) → Lets (Err NoMemory) o → ⊥
check_not_short None e = cc
check_not_short (Some code) e = cc

unless_refused : (o : Option ℕ) (base : Base) → o ≡ None → elim o as (λ _. Option Base) [ None ↦ Some base | Some code ↦ None ] ≡ Some base
unless_refused None base e = refl
unless_refused (Some code) base e = cc

-- a definition that nothing refuses
pub makes_by : (s : Statement) (told : Outcome) (before after : Contents) → ddl_refusal (objects_of before.objects) s ≡ None
    → objects_of after.objects ≡ catalog_after s (objects_of before.objects) → after.tables ≡ tables_after s before.tables
    → after.counters ≡ counters_after s before.counters → after.changes ≡ before.changes → told ≡ outcome_of_none → Makes s told before after
makes_by s told before after none objects tables counters changes nothing = record {
  allowed = none;
  base = unless_refused (ddl_refusal (objects_of before.objects) s) _ none
      ∙ (λ i. Some (record { catalog = sym objects i; tables = sym tables i }));
  counters = counters;
  changes = changes;
  outcome = nothing;
}

-- refused, or memory wanted
pub refused_with : (r : SqlRefusal) (code : ℕ) (s : Statement) (old new : List rules.Object) → r ≡ Sql code → Made (Err r) s old new → ddl_refusal old s ≡ Some code
refused_with r code s old new e h = (subst (λ (x : SqlRefusal). Made (Err x) s old new) e h).0

pub stays_where : (r : SqlRefusal) (s : Statement) (old new : List rules.Object) → Made (Err r) s old new → new ≡ old
stays_where (Sql code) s old new h = h.1
stays_where NoMemory s old new h = h

-- nothing changed
pub contents_stay : (objects now : List Object) (a b : Stage) → now ≡ objects → b.tables.tables ≡ a.tables.tables → b.undo ≡ a.undo → b.counters ≡ a.counters → contents_of now b ≡ contents_of objects a
contents_stay objects now a b os tables undo counters = λ i. record { objects = os i; tables = tables i; changes = undo i; counters = counters i }

pub together_stays : (objects now : List Object) (a b : Stage) → now ≡ objects → a ≡ b → AreTogether objects a.tables a.undo a.counters → AreTogether now b.tables b.undo b.counters
together_stays objects now a b os same h =
    subst (λ (s : Stage). AreTogether now s.tables s.undo s.counters) same (subst (λ (o : List Object). AreTogether o a.tables a.undo a.counters) (sym os) h)

-- refused by the catalog
pub refused_by : (s : Statement) (objects now : List Object) (a : Stage) (code : ℕ) → ddl_refusal (objects_of objects) s ≡ Some code → now ≡ objects
    → (definition_refusal s (contents_of objects a) ≡ Some code) × (contents_of now a ≡ contents_of objects a)
refused_by s objects now a code refusal same = (refusal, ap (λ (o : List Object). contents_of o a) same)

-- ---- what holds, where no change is open

made_where : (changes : List Change) (objects now : List Object) (store new : Store) (counters after : List Counter) (d : TableDef) → changes ≡ [] → AreTogether objects store changes counters
    → objects_of now ≡ objects_of objects ++ table d ∷ [] → new.tables ≡ store.tables ++ table_without_rows d ∷ [] → new.committed ≡ store.committed ++ table_without_rows d ∷ []
    → after ≡ counters_with d counters → AreTogether now new changes after
made_where changes objects now store new counters after d none h os ts committed cs =
    subst (λ (ch : List Change). AreTogether now new ch after) (sym none)
    (together_made objects now store new counters after d (subst (λ (ch : List Change). AreTogether objects store ch counters) none h) os ts committed cs)

pub made_on : (objects now : List Object) (a b : Stage) (d : TableDef) → a.undo ≡ [] → AreTogether objects a.tables a.undo a.counters → objects_of now ≡ objects_of objects ++ table d ∷ []
    → b.tables.tables ≡ a.tables.tables ++ table_without_rows d ∷ [] → b.tables.committed ≡ a.tables.committed ++ table_without_rows d ∷ []
    → b.counters ≡ counters_with d a.counters → b.undo ≡ a.undo → AreTogether now b.tables b.undo b.counters
made_on objects now a b d none h os ts committed cs undo =
    subst (λ (ch : List Change). AreTogether now b.tables ch b.counters) (sym undo) (made_where a.undo objects now a.tables b.tables a.counters b.counters d none h os ts committed cs)

pub dropped_on : (objects now : List Object) (a b : Stage) (name : List ℕ) → a.undo ≡ [] → AreTogether objects a.tables a.undo a.counters → IsWhole a.tables
    → objects_of now ≡ objects_but (goes_with_table name) (objects_of objects) → b.tables.tables ≡ tables_beside name a.tables.tables → b.tables.committed ≡ tables_beside name a.tables.committed
    → b.counters ≡ counters_beside name a.counters → b.undo ≡ a.undo → AreTogether now b.tables b.undo b.counters
dropped_on objects now a b name none h whole os ts committed cs undo =
    subst (λ (ch : List Change). AreTogether now b.tables ch b.counters) (sym none ∙ sym undo)
    (together_dropped objects now a.tables b.tables a.counters b.counters name (subst (λ (ch : List Change). AreTogether objects a.tables ch a.counters) none h) whole.names os ts committed cs)

pub cleared_on : (objects : List Object) (a b : Stage) (name : List ℕ) → a.undo ≡ [] → AreTogether objects a.tables a.undo a.counters
    → b.tables.tables ≡ tables_cleared name a.tables.tables → b.tables.committed ≡ tables_cleared name a.tables.committed → tables_of b.counters ≡ tables_of a.counters → b.undo ≡ a.undo
    → AreTogether objects b.tables b.undo b.counters
cleared_on objects a b name none h ts committed cs undo =
    subst (λ (ch : List Change). AreTogether objects b.tables ch b.counters) (sym none ∙ sym undo)
    (together_cleared objects a.tables b.tables a.counters b.counters name (subst (λ (ch : List Change). AreTogether objects a.tables ch a.counters) none h) ts committed cs)

-- no table or counter has the name of one that was just made
pub free_for : (objects : List Object) (a : Stage) (name : List ℕ) → a.undo ≡ [] → AreTogether objects a.tables a.undo a.counters → table_in (objects_of objects) name ≡ None
    → (table_named name a.tables.tables ≡ None) × (value_for name a.counters ≡ None)
free_for objects a name none h free =
    let h' = subst (λ (ch : List Change). AreTogether objects a.tables ch a.counters) none h in
    (no_table_yet objects a.tables a.counters h' name free, no_counter_yet objects a.tables a.counters h' name free)

-- ---- a table made

module _ (objects mid : List Object) (a : Stage) (t : CreateTable) (none : a.undo ≡ []) (h : AreTogether objects a.tables a.undo a.counters)
    (made : ddl_refusal (objects_of objects) (create_table t) ≡ None) (os : objects_of mid ≡ objects_of objects ++ table (definition_of t) ∷ []) where
  pub was_free : table_in (objects_of objects) t.name ≡ None
  was_free = not_there_yet (objects_of objects) t made

  pub is_there : table_in (objects_of mid) t.name ≡ Some (definition_of t)
  is_there = ap (λ (o : List rules.Object). table_in o t.name) os ∙ found_made (objects_of objects) (definition_of t) was_free

  pub stays_free : (d : TableDef) → table_in (objects_of mid) t.name ≡ Some d → (table_named d.name a.tables.tables ≡ None) × (value_for d.name a.counters ≡ None)
  stays_free d e =
      subst (λ (x : TableDef). (table_named x.name a.tables.tables ≡ None) × (value_for x.name a.counters ≡ None)) (some_same (definition_of t) d (sym is_there ∙ e))
      (free_for objects a t.name none h was_free)

-- nothing was made
pub kept_on : (objects now : List Object) (a b : Stage) → AreTogether objects a.tables a.undo a.counters → now ≡ objects
    → b.tables ≡ a.tables → b.counters ≡ a.counters → b.undo ≡ a.undo → AreTogether now b.tables b.undo b.counters
kept_on objects now a b h os ts cs undo =
    subst (λ (o : List Object). AreTogether o b.tables b.undo b.counters) (sym os)
    (subst (λ (ch : List Change). AreTogether objects b.tables ch b.counters) (sym undo)
    (subst (λ (counters : List Counter). AreTogether objects b.tables a.undo counters) (sym cs)
    (subst (λ (store : Store). AreTogether objects store a.undo a.counters) (sym ts) h)))
