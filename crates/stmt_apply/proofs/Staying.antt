-- What stays while a group is carried out.
use Rattle.std.proofs.Common.{◌≡◌, List, [], ◌++◌, Option, Some, Result, Ok, Err, OnErr, sym, ap, subst, ◌∙◌}
use Rattle.std.specs.Prelude.{unwrap_or}
use Rattle.std.specs.Option.{option_and_then}
use Rattle.val_types.specs.declared.change.Change.{Change}
use Rattle.val_types.specs.declared.refusal.SqlRefusal.{SqlRefusal}
use Rattle.port_traits.specs.declared.identity.Draw.{Draw}
use Rattle.auto_inc.specs.declared.counters.Counter.{Counter}
use Rattle.auto_inc.specs.Counting.{tables_of}
use Rattle.table_rules.specs.Tables.{Table}
use Rattle.table_rules.specs.Stored.{all_applied, all_inverse}
use Rattle.table_rules.proofs.Equations.{all_applied_behind, applied_none}
use Rattle.table_rules.proofs.Storing.{turn_back}
use Rattle.sql_tree.specs.Statement.{Statement}
use Rattle.log_groups.specs.catalog_rules.Bases.{definitions_in}
use Rattle.row_apply.specs.catalog_objects.declared.object.Object.{Object}
use Rattle.row_apply.specs.catalog_objects.Keys.{objects_of}
use Rattle.apply_laws.specs.sql_meaning.Frames.{Context}
use Rattle.apply_laws.specs.sql_meaning.Leading.{EndsWell, Leads}
use Rattle.apply_laws.proofs.of_sql_meaning.LedBodies.{statements_end}
use Rattle.row_apply.specs.prog_work.declared.meter.Meter.{Meter}
use Rattle.row_apply.specs.prog_work.declared.meter.Outcome.{Outcome}
use Rattle.row_apply.specs.prog_work.Contents.{Contents, IsTogether, committed_tables, counted_names, without_changes}
use Rattle.row_apply.specs.prog_work.Carrying.{given_up}
use Rattle.prog_run.specs.Runs.{LeavesAll, Runs, moment, scene_at, setting_at}
use Rattle.row_apply.specs.Ends.{Stays}

-- ---- a statement was run

-- the rows that were last committed, where a statement led on from those that stand
still_committed : (old new : Contents) (more : List Change) → IsTogether old → new.changes ≡ old.changes ++ more → all_applied more old.tables ≡ Some new.tables
    → committed_tables new ≡ committed_tables old
still_committed old new more together added made =
    let all : all_applied (old.changes ++ more) (committed_tables old) ≡ Some new.tables =
    all_applied_behind old.changes more (committed_tables old) ∙ ap (λ o. option_and_then (all_applied more) o) together.made ∙ made in
    let back = turn_back (old.changes ++ more) (committed_tables old) new.tables together.committed all in
    ap (λ cs. unwrap_or (all_applied (all_inverse cs) new.tables) new.tables) added ∙ ap (λ o. unwrap_or o new.tables) back.0

-- each table with a counter has its own still
still_counted : (old new : Contents) → IsTogether old → IsTogether new → new.objects ≡ old.objects → tables_of new.counters ≡ tables_of old.counters
still_counted old new before after objects =
    after.counted ∙ ap (λ (os : List Object). counted_names (definitions_in (objects_of os))) objects ∙ sym before.counted

-- a statement leaves the catalog, the rows that were last committed, and which tables have counters
pub stays_run : (draw : Draw) (s : Statement) (result : Result Outcome SqlRefusal) (old new : Contents) (context context' : Context) (meter meter' : Meter) → IsTogether old → IsTogether new
    → Runs draw s result (moment old context meter) (moment new context' meter') → OnErr result (LeavesAll old new) → Stays old new
stays_run draw s (Ok told) old new context context' meter meter' before after ran left =
    let well = statements_end (setting_at draw (moment old context meter)) meter.depth [] s (scene_at (moment old context meter)) in
    let led : Leads (scene_at (moment old context meter)) (scene_at (moment new context' meter')) = subst (λ e. EndsWell (scene_at (moment old context meter)) e) ran.ends well in
    record {
      objects = ran.passes.objects;
      committed = still_committed old new led.more before led.added led.made;
      counted = still_counted old new before after ran.passes.objects;
    }
stays_run draw s (Err refusal) old new context context' meter meter' before after ran left = record {
  objects = left.objects;
  committed = ap (λ (cs : List Change). without_changes cs new.tables) left.changes ∙ ap (λ (ts : List Table). without_changes old.changes ts) left.tables;
  counted = still_counted old new before after left.objects;
}

-- ---- all given up

abbrev contents : List Object → List Table → List Counter → Contents
contents os ts cs = record { objects = os; tables = ts; changes = []; counters = cs }

-- where no change is open, the tables are those that were last committed
pub nothing_open : (changes : List Change) (tables : List Table) → changes ≡ [] → without_changes changes tables ≡ tables
nothing_open changes tables none =
    ap (λ (cs : List Change). without_changes cs tables) none ∙ ap (λ (o : Option (List Table)). unwrap_or o tables) (applied_none tables)

-- the rows that were last committed are those with which a group began
pub given_back : (old work : Contents) (counters : List Counter) → old.changes ≡ [] → Stays old work → counters ≡ old.counters → given_up counters work ≡ old
given_back old work counters none p same =
    ap (λ (os : List Object). contents os (committed_tables work) counters) p.objects
    ∙ ap (λ (ts : List Table). contents old.objects ts counters) (p.committed ∙ nothing_open old.changes old.tables none)
    ∙ ap (contents old.objects old.tables) same
    ∙ (λ i. record { objects = old.objects; tables = old.tables; changes = sym none i; counters = old.counters })
