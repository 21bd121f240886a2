-- What a statement begins on, and what it leaves of the rows that were last committed.
use Rattle.std.proofs.Common.{◌≡◌, ℕ, List, [], ◌++◌, true, false, Option, Some, unwrap_or, Result, Ok, Err, refl, sym, ap, ◌∙◌, subst}
use Rattle.std.specs.Option.{option_and_then}
use Rattle.val_types.specs.declared.change.Change.{Change}
use Rattle.val_types.specs.declared.value.Value.{Value}
use Rattle.val_types.specs.declared.refusal.SqlRefusal.{SqlRefusal}
use Rattle.val_types.specs.declared.refusal.SqlRefusal.TheVariants.{Sql, NoMemory}
use Rattle.port_traits.specs.declared.identity.Draw.{Draw}
use Rattle.table_rules.specs.Tables.{Table}
use Rattle.table_rules.specs.Stored.{all_applied, all_inverse}
use Rattle.table_rules.proofs.Equations.{all_applied_behind}
use Rattle.table_rules.proofs.Storing.{turn_back}
use Rattle.proc_parts.specs.catalog_objects.Keys.{objects_of}
use Rattle.proc_parts.specs.catalog_objects.declared.object.Object.{Object}
use Rattle.sql_locals.specs.declared.locals.Local.{Local}
use Rattle.sql_tree.specs.Tree.{Trees}
use Rattle.sql_tree.specs.Statement.{Statement}
use Rattle.proc_parts.specs.sql_meaning.Scenes.{Ending, done, failed}
use Rattle.proc_parts.specs.sql_meaning.Frames.{Context}
use Rattle.proc_parts.specs.sql_meaning.Running.{effect, evaluation}
use Rattle.proc_parts.specs.sql_meaning.Leading.{EndsWell, Leads, StaysAsItWas}
use Rattle.proc_parts.proofs.of_sql_meaning.LedBodies.{statements_end, evaluations_end}
use Rattle.proc_parts.specs.prog_work.declared.meter.Meter.{Meter}
use Rattle.proc_parts.specs.prog_work.declared.meter.Outcome.{Outcome}
use Rattle.proc_parts.specs.prog_work.Contents.{Contents, IsTogether, as_committed, committed_tables, without_changes}
use Rattle.proc_parts.specs.prog_run.Runs.{moment, scene_at, setting_at, effect_at, evaluation_at, Beside, Runs, Evaluated}
use Rattle.session_shared.specs.log_model.Log.{LogPlace}
use Rattle.proc_parts.specs.Calls.{left_of}
use Rattle.session_shared.specs.session_model.Running.{is_other, scene_for, with_counters}
use Rattle.session_shared.specs.Desk.{shared_by}
use Rattle.session_shared.proofs.Bases.{rows_stand}
use Rattle.session_statement.specs.Ran.{fuel_at, place_at, shared_behind, Comes, Gives}

-- ---- the rows that were last committed

pub base_stays : (old new : Contents) (more : List Change) → IsTogether old → new.changes ≡ old.changes ++ more → all_applied more old.tables ≡ Some new.tables
    → committed_tables new ≡ committed_tables old
base_stays old new more together added made =
    let all : all_applied (old.changes ++ more) (committed_tables old) ≡ Some new.tables =
    all_applied_behind old.changes more (committed_tables old) ∙ ap (λ o. option_and_then (all_applied more) o) together.made ∙ made in
    let back = turn_back (old.changes ++ more) (committed_tables old) new.tables together.committed all in
    ap (λ cs. unwrap_or (all_applied (all_inverse cs) new.tables) new.tables) added ∙ ap (λ o. unwrap_or o new.tables) back.0

pub base_same : (old new : Contents) → new.tables ≡ old.tables → new.changes ≡ old.changes → committed_tables new ≡ committed_tables old
base_same old new tables changes = ap (λ cs. without_changes cs new.tables) changes ∙ ap (λ ts. without_changes old.changes ts) tables

-- ---- where a statement begins

module _ (n : ℕ) (c : Contents) (writer : Option ℕ) (count : ℕ) (place : LogPlace) (context : Context) (start : Meter) where
  pub own_scene : IsTogether c → is_other n writer ≡ false → scene_for n (left_of start) context (shared_by c writer count place) ≡ scene_at (moment c context start)
  own_scene together own =
      rw own (ap (λ (ts : List Table). record { tables = ts; changes = c.changes; counters = c.counters; seeds = context.seeds; turns = start.turns; uuids = start.uuids }) (rows_stand c together))

  pub other_scene : is_other n writer ≡ true → scene_for n (left_of start) context (shared_by c writer count place) ≡ scene_at (moment (as_committed c) context start)
  other_scene other = rw other refl

-- ---- what a statement leaves

-- what is shared, by its parts
shared_parts : (old new : Contents) (writer : Option ℕ) (count : ℕ) (place : LogPlace) → new.objects ≡ old.objects → committed_tables new ≡ committed_tables old
    → shared_by new writer count place ≡ record { base = record { catalog = objects_of old.objects; tables = committed_tables old }; counters = new.counters; changes = new.changes; writer = writer; committed = count; place = place }
shared_parts old new writer count place objects base =
    ap (λ (os : List Object). record { base = record { catalog = objects_of os; tables = committed_tables new }; counters = new.counters; changes = new.changes; writer = writer; committed = count; place = place }) objects
    ∙ ap (λ (ts : List Table). record { base = record { catalog = objects_of old.objects; tables = ts }; counters = new.counters; changes = new.changes; writer = writer; committed = count; place = place }) base

module _ (n : ℕ) (old new : Contents) (writer : Option ℕ) (count : ℕ) (place : LogPlace) (context context' : Context) (start meter : Meter) (objects : new.objects ≡ old.objects) where
  own_done : {A : Type 0} (ending : Ending A) (a : A) → IsTogether old → is_other n writer ≡ false → EndsWell (scene_at (moment old context start)) ending
      → ending ≡ done a (scene_at (moment new context' meter))
      → shared_by new writer count place ≡ shared_behind n (shared_by old writer count place) (scene_at (moment new context' meter))
  own_done ending a together own well ends =
      let led : Leads (scene_at (moment old context start)) (scene_at (moment new context' meter)) = subst (λ e. EndsWell (scene_at (moment old context start)) e) ends well in
      rw own (shared_parts old new writer count place objects (base_stays old new led.more together led.added led.made))

  own_failed : {A : Type 0} (ending : Ending A) (code : ℕ) → EndsWell (scene_at (moment old context start)) ending
      → ending ≡ failed code (scene_at (moment new context' meter))
      → shared_by new writer count place ≡ with_counters (scene_at (moment new context' meter)) (shared_by old writer count place)
  own_failed ending code well ends =
      let same : StaysAsItWas (scene_at (moment old context start)) (scene_at (moment new context' meter)) = subst (λ e. EndsWell (scene_at (moment old context start)) e) ends well in
      shared_parts old new writer count place objects (base_same old new same.tables same.changes)
      ∙ ap (λ (cs : List Change). record { base = record { catalog = objects_of old.objects; tables = committed_tables old }; counters = new.counters; changes = cs; writer = writer; committed = count; place = place }) same.changes

-- ---- a statement beside no other session's open changes

pub comes_own : (n : ℕ) (draw : Draw) (s : Statement) (result : Result Outcome SqlRefusal) (old new : Contents) (writer : Option ℕ) (count : ℕ) (place : LogPlace) (context context' : Context) (start meter : Meter)
    → IsTogether old → is_other n writer ≡ false → Runs draw s result (moment old context start) (moment new context' meter)
    → Comes n draw (left_of start) s result (fuel_at meter) (place_at (shared_by old writer count place) context) (place_at (shared_by new writer count place) context')
comes_own n draw s (Ok told) old new writer count place context context' start meter together own ran =
    let well = statements_end (setting_at draw (moment old context start)) start.depth [] s (scene_at (moment old context start)) in
    record {
      did = ran.did;
      scene = scene_at (moment new context' meter);
      ends = ap (effect (setting_at draw (moment old context start)) start.depth [] s) (own_scene n old writer count place context start together own) ∙ ran.ends;
      outcome = ran.outcome;
      leaves = record {
        shared = own_done n old new writer count place context context' start meter ran.passes.objects (effect_at draw s (moment old context start)) ran.did together own well ran.ends;
        context = ran.passes.context;
        spent = refl;
      };
    }
comes_own n draw s (Err (Sql code)) old new writer count place context context' start meter together own ran =
    let well = statements_end (setting_at draw (moment old context start)) start.depth [] s (scene_at (moment old context start)) in
    record {
      scene = scene_at (moment new context' meter);
      ends = ap (effect (setting_at draw (moment old context start)) start.depth [] s) (own_scene n old writer count place context start together own) ∙ ran.0;
      shared = own_failed n old new writer count place context context' start meter ran.1.objects (effect_at draw s (moment old context start)) code well ran.0;
      context = ran.1.context;
      spent = refl;
    }
comes_own n draw s (Err NoMemory) old new writer count place context context' start meter together own ran = tt

pub gives_own : (n : ℕ) (draw : Draw) (locals : List Local) (ts : Trees) (result : Result (List Value) SqlRefusal) (old new : Contents) (writer : Option ℕ) (count : ℕ) (place : LogPlace) (context context' : Context) (start meter : Meter)
    → IsTogether old → is_other n writer ≡ false → Evaluated draw locals ts result (moment old context start) (moment new context' meter)
    → Gives n draw (left_of start) locals ts result (fuel_at meter) (place_at (shared_by old writer count place) context) (place_at (shared_by new writer count place) context')
gives_own n draw locals ts (Ok vs) old new writer count place context context' start meter together own ran =
    let well = evaluations_end (setting_at draw (moment old context start)) start.depth locals ts (scene_at (moment old context start)) in
    record {
      scene = scene_at (moment new context' meter);
      ends = ap (evaluation (setting_at draw (moment old context start)) start.depth locals ts) (own_scene n old writer count place context start together own) ∙ ran.0;
      leaves = record {
        shared = own_done n old new writer count place context context' start meter ran.1.objects (evaluation_at draw locals ts (moment old context start)) vs together own well ran.0;
        context = ran.1.context;
        spent = refl;
      };
    }
gives_own n draw locals ts (Err (Sql code)) old new writer count place context context' start meter together own ran =
    let well = evaluations_end (setting_at draw (moment old context start)) start.depth locals ts (scene_at (moment old context start)) in
    record {
      scene = scene_at (moment new context' meter);
      ends = ap (evaluation (setting_at draw (moment old context start)) start.depth locals ts) (own_scene n old writer count place context start together own) ∙ ran.0;
      shared = own_failed n old new writer count place context context' start meter ran.1.objects (evaluation_at draw locals ts (moment old context start)) code well ran.0;
      context = ran.1.context;
      spent = refl;
    }
gives_own n draw locals ts (Err NoMemory) old new writer count place context context' start meter together own ran = tt

-- ---- a statement that reads beside another session's open changes

pub comes_beside : (n : ℕ) (draw : Draw) (s : Statement) (result : Result Outcome SqlRefusal) (old left : Contents) (writer : Option ℕ) (count : ℕ) (place : LogPlace) (context context' : Context) (start meter : Meter)
    → is_other n writer ≡ true → Runs draw s result (moment (as_committed old) context start) (moment left context' meter)
    → Comes n draw (left_of start) s result (fuel_at meter) (place_at (shared_by old writer count place) context) (place_at (shared_by (record old { counters = left.counters }) writer count place) context')
comes_beside n draw s (Ok told) old left writer count place context context' start meter other ran = record {
  did = ran.did;
  scene = scene_at (moment left context' meter);
  ends = ap (effect (setting_at draw (moment (as_committed old) context start)) start.depth [] s) (other_scene n old writer count place context start other) ∙ ran.ends;
  outcome = ran.outcome;
  leaves = record { shared = rw other refl; context = ran.passes.context; spent = refl };
}
comes_beside n draw s (Err (Sql code)) old left writer count place context context' start meter other ran = record {
  scene = scene_at (moment left context' meter);
  ends = ap (effect (setting_at draw (moment (as_committed old) context start)) start.depth [] s) (other_scene n old writer count place context start other) ∙ ran.0;
  shared = refl;
  context = ran.1.context;
  spent = refl;
}
comes_beside n draw s (Err NoMemory) old left writer count place context context' start meter other ran = tt

pub gives_beside : (n : ℕ) (draw : Draw) (locals : List Local) (ts : Trees) (result : Result (List Value) SqlRefusal) (old left : Contents) (writer : Option ℕ) (count : ℕ) (place : LogPlace) (context context' : Context) (start meter : Meter)
    → is_other n writer ≡ true → Evaluated draw locals ts result (moment (as_committed old) context start) (moment left context' meter)
    → Gives n draw (left_of start) locals ts result (fuel_at meter) (place_at (shared_by old writer count place) context) (place_at (shared_by (record old { counters = left.counters }) writer count place) context')
gives_beside n draw locals ts (Ok vs) old left writer count place context context' start meter other ran = record {
  scene = scene_at (moment left context' meter);
  ends = ap (evaluation (setting_at draw (moment (as_committed old) context start)) start.depth locals ts) (other_scene n old writer count place context start other) ∙ ran.0;
  leaves = record { shared = rw other refl; context = ran.1.context; spent = refl };
}
gives_beside n draw locals ts (Err (Sql code)) old left writer count place context context' start meter other ran = record {
  scene = scene_at (moment left context' meter);
  ends = ap (evaluation (setting_at draw (moment (as_committed old) context start)) start.depth locals ts) (other_scene n old writer count place context start other) ∙ ran.0;
  shared = refl;
  context = ran.1.context;
  spent = refl;
}
gives_beside n draw locals ts (Err NoMemory) old left writer count place context context' start meter other ran = tt

-- ---- as what is worked on then

pub comes_beside_on : (n : ℕ) (draw : Draw) (s : Statement) (result : Result Outcome SqlRefusal) (old new : Contents) (writer : Option ℕ) (count : ℕ) (place : LogPlace) (context context' : Context) (start meter : Meter)
    → is_other n writer ≡ true → Beside (Runs draw s result) (moment old context start) (moment new context' meter)
    → Comes n draw (left_of start) s result (fuel_at meter) (place_at (shared_by old writer count place) context) (place_at (shared_by new writer count place) context')
comes_beside_on n draw s result old new writer count place context context' start meter other ran =
    subst (λ (c : Contents). Comes n draw (left_of start) s result (fuel_at meter) (place_at (shared_by old writer count place) context) (place_at (shared_by c writer count place) context')) (sym ran.kept)
    (comes_beside n draw s result old ran.left writer count place context context' start meter other ran.ends)

pub gives_beside_on : (n : ℕ) (draw : Draw) (locals : List Local) (ts : Trees) (result : Result (List Value) SqlRefusal) (old new : Contents) (writer : Option ℕ) (count : ℕ) (place : LogPlace) (context context' : Context) (start meter : Meter)
    → is_other n writer ≡ true → Beside (Evaluated draw locals ts result) (moment old context start) (moment new context' meter)
    → Gives n draw (left_of start) locals ts result (fuel_at meter) (place_at (shared_by old writer count place) context) (place_at (shared_by new writer count place) context')
gives_beside_on n draw locals ts result old new writer count place context context' start meter other ran =
    subst (λ (c : Contents). Gives n draw (left_of start) locals ts result (fuel_at meter) (place_at (shared_by old writer count place) context) (place_at (shared_by c writer count place) context')) (sym ran.kept)
    (gives_beside n draw locals ts result old ran.left writer count place context context' start meter other ran.ends)
