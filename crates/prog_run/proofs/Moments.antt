-- From a stage with its context to what is worked on, with what is left to a command.
use Rattle.std.proofs.Common.{◌≡◌, ℕ, List, [], None, Result, Ok, Err, refl, sym, ap, ◌∙◌}
use Rattle.std.specs.Prelude.{OnErr}
use Rattle.val_types.specs.declared.value.Value.{Value}
use Rattle.val_types.specs.declared.refusal.SqlRefusal.{SqlRefusal}
use Rattle.val_types.specs.declared.refusal.SqlRefusal.TheVariants.{Sql, NoMemory}
use Rattle.port_traits.specs.declared.identity.Draw.{Draw}
use Rattle.sql_tree.specs.Tree.{Trees}
use Rattle.sql_tree.specs.Statement.{Statement, evaluate}
use Rattle.sql_locals.specs.declared.locals.Local.{Local}
use Rattle.prog_work.specs.catalog_objects.declared.object.Object.{Object}
use Rattle.prog_work.specs.catalog_objects.Keys.{objects_of}
use Rattle.statement_names.specs.sql_meaning.Scenes.{Scene, Ending, done, failed}
use Rattle.statement_names.specs.sql_meaning.Frames.{Context, Setting}
use Rattle.statement_names.specs.sql_meaning.Changing.{Did}
use Rattle.statement_names.specs.sql_meaning.Running.{effect, evaluation, context_after}
use Rattle.exec_state.specs.declared.stage.Stage.{Stage}
use Rattle.exec_state.specs.Stage.{scene_of, LeadsOn}
use Rattle.exec_state.proofs.Leading.{rows_led, counters_led, names_led}
use Rattle.stage_undo.specs.Back.{IsBack}
use Rattle.statement_names.specs.sql_reach.Defining.{number_of_bytes}
use Rattle.prog_work.specs.declared.meter.Meter.{Meter}
use Rattle.prog_work.specs.declared.meter.Outcome.{Outcome}
use Rattle.prog_work.specs.Contents.{committed_tables, contents_of}
use Rattle.prog_work.proofs.Carried.{rows_changed, together_counted, together_led}
use Rattle.prog_run.specs.Runs.{moment, scene_at, setting_at, Runs, Evaluated, LeavesAll, Comes, Gives}
use Rattle.prog_work.specs.Together.{AreTogether}

-- what holds stays where a stage leads on
pub together_on : (objects : List Object) (a b : Stage) → AreTogether objects a.tables a.undo a.counters → LeadsOn a b → AreTogether objects b.tables b.undo b.counters
together_on objects a b h p =
    together_counted objects b.tables b.undo a.counters b.counters (together_led objects a.tables b.tables a.undo b.undo a.counters h (rows_led a b p)) (names_led a b p)

-- the rows that were last committed stay
pub committed_on : (objects : List Object) (a b : Stage) → AreTogether objects a.tables a.undo a.counters → LeadsOn a b
    → committed_tables (contents_of objects b) ≡ committed_tables (contents_of objects a)
committed_on objects a b h p = (rows_changed objects a.tables b.tables a.undo b.undo a.counters h (rows_led a b p)).committed

pub leaves_all : (objects : List Object) (a b : Stage) → LeadsOn a b → IsBack a b → LeavesAll (contents_of objects a) (contents_of objects b)
leaves_all objects a b p h = record { objects = refl; tables = h.tables; changes = h.undo; counters = counters_led a b p }

pub left_by_error : {A : Type 0} (objects : List Object) (a b : Stage) (r : Result A SqlRefusal) → LeadsOn a b → OnErr r (IsBack a b) → OnErr r (LeavesAll (contents_of objects a) (contents_of objects b))
left_by_error objects a b (Ok x) p h = tt
left_by_error objects a b (Err e) p h = leaves_all objects a b p h

-- the scene of a stage that has the seeds of a context, and the turns and UUIDs of a meter
scene_is : (objects : List Object) (a : Stage) (context : Context) (meter : Meter) → a.seeds ≡ context.seeds → a.turns ≡ meter.turns → a.uuids ≡ meter.uuids
    → scene_of a ≡ scene_at (moment (contents_of objects a) context meter)
unfolding scene_of
scene_is objects a context meter seeds turns uuids = λ i. record {
  tables = a.tables.tables;
  changes = a.undo;
  counters = a.counters;
  seeds = seeds i;
  turns = turns i;
  uuids = uuids i;
}

module _ (draw : Draw) (objects : List Object) (before after : Stage) (context later : Context) (meter left : Meter) (uuid : ℕ) where
  abbrev setting : Setting
  setting = record { catalog = objects_of objects; context = context; uuid = uuid }

  effect_there : (s : Statement) (e : Ending Did) → uuid ≡ number_of_bytes 0 draw.uuid → before.seeds ≡ context.seeds → before.turns ≡ meter.turns → before.uuids ≡ meter.uuids
      → after.seeds ≡ later.seeds → after.turns ≡ left.turns → after.uuids ≡ left.uuids
      → effect setting meter.depth [] s (scene_of before) ≡ e
      → effect (setting_at draw (moment (contents_of objects before) context meter)) meter.depth [] s (scene_at (moment (contents_of objects before) context meter)) ≡ e
  effect_there s e number seeds turns uuids seeds' turns' uuids' h =
      ap (λ (n : ℕ). effect (record { catalog = objects_of objects; context = context; uuid = n }) meter.depth [] s (scene_at (moment (contents_of objects before) context meter))) (sym number)
      ∙ ap (effect setting meter.depth [] s) (sym (scene_is objects before context meter seeds turns uuids)) ∙ h

  evaluation_there : (locals : List Local) (ts : Trees) (e : Ending (List Value)) → uuid ≡ number_of_bytes 0 draw.uuid → before.seeds ≡ context.seeds → before.turns ≡ meter.turns → before.uuids ≡ meter.uuids
      → evaluation setting meter.depth locals ts (scene_of before) ≡ e
      → evaluation (setting_at draw (moment (contents_of objects before) context meter)) meter.depth locals ts (scene_at (moment (contents_of objects before) context meter)) ≡ e
  evaluation_there locals ts e number seeds turns uuids h =
      ap (λ (n : ℕ). evaluation (record { catalog = objects_of objects; context = context; uuid = n }) meter.depth locals ts (scene_at (moment (contents_of objects before) context meter))) (sym number)
      ∙ ap (evaluation setting meter.depth locals ts) (sym (scene_is objects before context meter seeds turns uuids)) ∙ h

  pub runs_from : (s : Statement) (r : Result Outcome SqlRefusal) → uuid ≡ number_of_bytes 0 draw.uuid → before.seeds ≡ context.seeds → before.turns ≡ meter.turns → before.uuids ≡ meter.uuids
      → after.turns ≡ left.turns → after.uuids ≡ left.uuids
      → Comes setting meter.depth s r before after later
      → Runs draw s r (moment (contents_of objects before) context meter) (moment (contents_of objects after) later left)
  runs_from s (Ok told) number seeds turns uuids turns' uuids' h =
      let same : after.seeds ≡ later.seeds = sym (ap (λ (c : Context). c.seeds) h.context) in
      record {
        did = h.did;
        ends = effect_there s (done h.did (scene_at (moment (contents_of objects after) later left))) number seeds turns uuids same turns' uuids'
            (h.ends ∙ ap (λ (t : Scene). done h.did t) (scene_is objects after later left same turns' uuids'));
        outcome = h.outcome;
        passes = record { objects = refl; context = h.context ∙ ap (λ (n : ℕ × ℕ). context_after context s n h.did.last_id) same };
      }
  runs_from s (Err (Sql code)) number seeds turns uuids turns' uuids' h =
      let same : after.seeds ≡ later.seeds = sym (ap (λ (c : Context). c.seeds) h.1) in (
        effect_there s (failed code (scene_at (moment (contents_of objects after) later left))) number seeds turns uuids same turns' uuids'
            (h.0 ∙ ap (λ (t : Scene). failed code t) (scene_is objects after later left same turns' uuids')),
        record { objects = refl; context = h.1 ∙ ap (λ (n : ℕ × ℕ). context_after context s n None) same },
      )
  runs_from s (Err NoMemory) number seeds turns uuids turns' uuids' h = tt

  pub evaluated_from : (locals : List Local) (ts : Trees) (r : Result (List Value) SqlRefusal) → uuid ≡ number_of_bytes 0 draw.uuid → before.seeds ≡ context.seeds → before.turns ≡ meter.turns → before.uuids ≡ meter.uuids
      → after.turns ≡ left.turns → after.uuids ≡ left.uuids
      → Gives setting meter.depth locals ts r before after later
      → Evaluated draw locals ts r (moment (contents_of objects before) context meter) (moment (contents_of objects after) later left)
  evaluated_from locals ts (Ok vs) number seeds turns uuids turns' uuids' h =
      let same : after.seeds ≡ later.seeds = sym (ap (λ (c : Context). c.seeds) h.1) in (
        evaluation_there locals ts (done vs (scene_at (moment (contents_of objects after) later left))) number seeds turns uuids
            (h.0 ∙ ap (λ (t : Scene). done vs t) (scene_is objects after later left same turns' uuids')),
        record { objects = refl; context = h.1 ∙ ap (λ (n : ℕ × ℕ). context_after context (evaluate ts) n None) same },
      )
  evaluated_from locals ts (Err (Sql code)) number seeds turns uuids turns' uuids' h =
      let same : after.seeds ≡ later.seeds = sym (ap (λ (c : Context). c.seeds) h.1) in (
        evaluation_there locals ts (failed code (scene_at (moment (contents_of objects after) later left))) number seeds turns uuids
            (h.0 ∙ ap (λ (t : Scene). failed code t) (scene_is objects after later left same turns' uuids')),
        record { objects = refl; context = h.1 ∙ ap (λ (n : ℕ × ℕ). context_after context (evaluate ts) n None) same },
      )
  evaluated_from locals ts (Err NoMemory) number seeds turns uuids turns' uuids' h = tt
