-- Beside open changes: what ran on a stage where these were set aside, and the stage where they are put back.
use Rattle.std.proofs.Common.{◌≡◌, ℕ, List, Result, Ok, Err, refl, sym, ap, subst, ◌∙◌}
use Rattle.std.specs.Prelude.{OnErr}
use Rattle.val_types.specs.declared.value.Value.{Value}
use Rattle.val_types.specs.declared.refusal.SqlRefusal.{SqlRefusal}
use Rattle.val_types.specs.declared.refusal.SqlRefusal.TheVariants.{NoMemory}
use Rattle.auto_inc.specs.declared.counters.Counter.{Counter}
use Rattle.auto_inc.specs.Counting.{tables_of}
use Rattle.table_rules.specs.Stores.{Still}
use Rattle.port_traits.specs.declared.identity.Draw.{Draw}
use Rattle.sql_tree.specs.Tree.{Trees}
use Rattle.sql_tree.specs.Statement.{Statement}
use Rattle.sql_locals.specs.declared.locals.Local.{Local}
use Rattle.statement_names.specs.sql_meaning.Frames.{Context}
use Rattle.exec_state.specs.declared.stage.Stage.{Stage}
use Rattle.exec_state.specs.Stage.{LeadsOn, NoneLower}
use Rattle.exec_state.proofs.Leading.{rows_led, counters_led, names_led, stage_stays}
use Rattle.prog_work.specs.catalog_objects.declared.object.Object.{Object}
use Rattle.prog_work.specs.declared.aside.OpenChanges.{OpenChanges}
use Rattle.prog_work.specs.declared.meter.Meter.{Meter}
use Rattle.prog_work.specs.declared.meter.Outcome.{Outcome}
use Rattle.prog_work.specs.Asides.{are_back, AreOpen, FitBack, just_committed}
use Rattle.prog_work.specs.Contents.{Contents, contents_of}
use Rattle.prog_work.specs.Together.{AreTogether}
use Rattle.prog_work.proofs.Asides.{contents_aside, contents_back, fit_back, together_back_again}
use Rattle.prog_run.specs.Runs.{Beside, Evaluated, LeavesAll, Moment, Runs, moment}

-- what holds at each end holds at an error
pub at_error : {A : Type 0} (r : Result A SqlRefusal) (P : Type 0) → P → OnErr r P
at_error (Ok a) P p = tt
at_error (Err e) P p = p

-- ---- memory was wanted before anything ran

module _ (objects : List Object) (before after : Stage) (same : after ≡ before) where
  pub together_still : AreTogether objects before.tables before.undo before.counters → AreTogether objects after.tables after.undo after.counters
  together_still h = subst (λ (s : Stage). AreTogether objects s.tables s.undo s.counters) (sym same) h

  pub leaves_still : LeavesAll (contents_of objects before) (contents_of objects after)
  leaves_still = record {
    objects = refl;
    tables = ap (λ (s : Stage). s.tables.tables) same;
    changes = ap (λ (s : Stage). s.undo) same;
    counters = subst (λ (s : Stage). NoneLower before.counters s.counters) (sym same) (counters_led before before (stage_stays before));
  }

  beside_still : (Ends : Moment → Moment → Type 0) (context later : Context) (meter spent : Meter)
      → Ends (moment (contents_of objects (just_committed before)) context meter) (moment (contents_of objects before) later spent)
      → AreTogether objects before.tables before.undo before.counters
      → Beside Ends (moment (contents_of objects before) context meter) (moment (contents_of objects after) later spent)
  beside_still Ends context later meter spent ends h = record {
    left = contents_of objects before;
    ends = subst (λ (c : Contents). Ends (moment c context meter) (moment (contents_of objects before) later spent)) (contents_aside objects before h) ends;
    kept = ap (contents_of objects) same;
  }

module _ (objects : List Object) (before after : Stage) (same : after ≡ before) (together : AreTogether objects before.tables before.undo before.counters)
    (draw : Draw) (context : Context) (meter : Meter) (e : SqlRefusal) (wanted : e ≡ NoMemory) where
  pub runs_not : (s : Statement) (r : Result Outcome SqlRefusal) → r ≡ Err e
      → Beside (Runs draw s r) (moment (contents_of objects before) context meter) (moment (contents_of objects after) context meter)
  runs_not s r is =
      subst (λ (x : Result Outcome SqlRefusal). Beside (Runs draw s x) (moment (contents_of objects before) context meter) (moment (contents_of objects after) context meter)) (sym is)
      (subst (λ (x : SqlRefusal). Beside (Runs draw s (Err x)) (moment (contents_of objects before) context meter) (moment (contents_of objects after) context meter)) (sym wanted)
      (beside_still objects before after same (Runs draw s (Err NoMemory)) context context meter meter tt together))

  pub evaluates_not : (locals : List Local) (ts : Trees) (r : Result (List Value) SqlRefusal) → r ≡ Err e
      → Beside (Evaluated draw locals ts r) (moment (contents_of objects before) context meter) (moment (contents_of objects after) context meter)
  evaluates_not locals ts r is =
      subst (λ (x : Result (List Value) SqlRefusal). Beside (Evaluated draw locals ts x) (moment (contents_of objects before) context meter) (moment (contents_of objects after) context meter)) (sym is)
      (subst (λ (x : SqlRefusal). Beside (Evaluated draw locals ts (Err x)) (moment (contents_of objects before) context meter) (moment (contents_of objects after) context meter)) (sym wanted)
      (beside_still objects before after same (Evaluated draw locals ts (Err NoMemory)) context context meter meter tt together))

pub ruleset not_begun = (together_still, leaves_still)

-- ---- set aside, and put back behind what ran

-- the open changes of one stage were set aside, which left another; there something began, and led on
module _ (objects : List Object) (aside : OpenChanges) (before mid read left : Stage) (seeds : ℕ × ℕ) (turns uuids : ℕ)
    (together : AreTogether objects before.tables before.undo before.counters) (set : AreOpen aside before) (is : mid ≡ just_committed before)
    (begun : read ≡ record mid { seeds = seeds; turns = turns; uuids = uuids }) (leads : LeadsOn read left) where
  shown : read.tables ≡ (just_committed before).tables
  shown = ap (λ (s : Stage). s.tables) begun ∙ ap (λ (s : Stage). s.tables) is

  same : read.counters ≡ before.counters
  same = ap (λ (s : Stage). s.counters) begun ∙ ap (λ (s : Stage). s.counters) is

  still : Still read.tables left.tables
  still = (rows_led read left leads).still

  pub fit : FitBack aside left
  fit = fit_back aside before read left set shown still

  module _ (back : Stage) (put : back ≡ are_back aside left) where
    there : contents_of objects back ≡ record (contents_of objects before) { counters = left.counters }
    there = ap (contents_of objects) put ∙ contents_back aside before read left set shown still objects

    pub together_beside : AreTogether objects back.tables back.undo back.counters
    together_beside =
        subst (λ (s : Stage). AreTogether objects s.tables s.undo s.counters) (sym put)
        (together_back_again aside before read left set shown still objects together (names_led read left leads ∙ ap tables_of same))

    pub leaves_beside : LeavesAll (contents_of objects before) (contents_of objects back)
    leaves_beside = record {
      objects = refl;
      tables = ap (λ (c : Contents). c.tables) there;
      changes = ap (λ (c : Contents). c.changes) there;
      counters = subst (λ (cs : List Counter). NoneLower before.counters cs) (sym (ap (λ (c : Contents). c.counters) there))
          (subst (λ (cs : List Counter). NoneLower cs left.counters) same (counters_led read left leads));
    }

    pub beside_from : (Ends : Moment → Moment → Type 0) (context later : Context) (meter spent : Meter)
        → Ends (moment (contents_of objects read) context meter) (moment (contents_of objects left) later spent)
        → Beside Ends (moment (contents_of objects before) context meter) (moment (contents_of objects back) later spent)
    beside_from Ends context later meter spent ends = record {
      left = contents_of objects left;
      ends = subst (λ (c : Contents). Ends (moment c context meter) (moment (contents_of objects left) later spent))
          (ap (contents_of objects) begun ∙ ap (contents_of objects) is ∙ contents_aside objects before together) ends;
      kept = there;
    }

-- ---- as what is worked on

pub beside_on : (Ends : Moment → Moment → Type 0) (a b old new : Contents) (context later : Context) (meter spent : Meter) → a ≡ old → new ≡ b
    → Beside Ends (moment a context meter) (moment b later spent) → Beside Ends (moment old context meter) (moment new later spent)
beside_on Ends a b old new context later meter spent begun put h =
    subst (λ (w : Contents). Beside Ends (moment old context meter) (moment w later spent)) (sym put)
    (subst (λ (w : Contents). Beside Ends (moment w context meter) (moment b later spent)) begun h)

pub left_on : {A : Type 0} (r : Result A SqlRefusal) (a b old new : Contents) → a ≡ old → new ≡ b → OnErr r (LeavesAll a b) → OnErr r (LeavesAll old new)
left_on r a b old new begun put h =
    subst (λ (w : Contents). OnErr r (LeavesAll old w)) (sym put) (subst (λ (w : Contents). OnErr r (LeavesAll w b)) begun h)
